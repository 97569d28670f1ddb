use Rattle.std.proofs.Common.{◌≡◌, ℕ, ◌+◌, ◌==◌, List, [], length, get_or, take, drop, ◌++◌, sym, ◌∙◌, ap, arith}
use Rattle.std.specs.Prelude.{slice_index, if◌then◌else◌}
use Rattle.std.specs.List.{list_any}
use Rattle.route_model.specs.Parts.{mapped_vars}
use Rattle.route_model.specs.Quantities.{is_mapped}
use Rattle.column_pool.proofs.CountLemmas.{count_more, whole_slice}
use Rattle.column_pool.proofs.counts.uses_of.Goals as goal

pub loop-arc-preserved : goal.loop-arc-preserved
loop-arc-preserved c =
    let arcs : List ℕ = c.args.arcs.now in
    let k : ℕ = c.loop-arc.arc-index in
    let uses : List ℕ = c.loop-arc.uses.items in
    let new : List ℕ = c.count_each.new.counts in
    let passed : c.as_mut_slice.result.now ≡ uses = c.as_mut_slice.ensures.value in
    let long : length new ≡ c.args.count = omega (arith, c.count_each.auto.counts, ap length passed, c.loop-arc.invariant.0) in
    let len : c.loop-arc.uses.len ≡ c.args.count = omega (arith, c.loop-arc.uses.ok.0, c.loop-arc.invariant.0) in
    let whole : take c.loop-arc.uses.len (new ++ drop (length new) uses) ≡ new = whole_slice new uses c.loop-arc.uses.len (omega (arith, long, len)) (omega (arith, len, c.loop-arc.invariant.0)) in
    let mapped : c.as_slice.result.now ≡ mapped_vars c.args.maps.now c.args.g (get_or arcs k 0) =
    c.as_slice.ensures ∙ (sym (c.at.ensures []) ∙ ap (λ (lists : List (List ℕ)). get_or lists (get_or arcs k 0) []) (sym (c.at-lists.ensures []))) in (
      ap length whole ∙ long,
      λ j below.
          ap (λ (xs : List ℕ). slice_index xs j) whole
          ∙ (c.count_each.ensures j (omega (arith, below, ap length passed, c.loop-arc.invariant.0))
          ∙ ((λ i. (ap (λ (xs : List ℕ). slice_index xs j) passed ∙ c.loop-arc.invariant.1 j below) i + (if list_any (λ v. v == j) (mapped i) then 1 else 0))
          ∙ sym (count_more (is_mapped c.args.maps.now j c.args.g) arcs k 0 c.loop-arc-test.true))),
    )
