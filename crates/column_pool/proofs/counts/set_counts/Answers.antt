use Rattle.std.proofs.Common.{◌≡◌, ℕ, ◌+◌, Option, None, List, length, get_or, take, drop, ◌++◌, sym, ◌∙◌, ap, arith}
use Rattle.std.specs.Prelude.{slice_index, if◌then◌else◌}
use Rattle.path_graph.specs.Visits.{is_visit}
use Rattle.column_pool.proofs.CountLemmas.{count_more, whole_slice}
use Rattle.column_pool.proofs.counts.set_counts.Goals as goal

pub loop-visit-preserved : goal.loop-visit-preserved
loop-visit-preserved c =
    let visits : List (Option ℕ) = c.args.visits.now in
    let k : ℕ = c.loop-visit.visit-index in
    let counts : List ℕ = c.loop-visit.counts.items in
    let new : List ℕ = c.count_visit.new.counts in
    let passed : c.as_mut_slice.result.now ≡ counts = c.as_mut_slice.ensures.value in
    let long : length new ≡ c.args.count = omega (arith, c.count_visit.auto.counts, ap length passed, c.loop-visit.invariant.0) in
    let len : c.loop-visit.counts.len ≡ c.args.count = omega (arith, c.loop-visit.counts.ok.0, c.loop-visit.invariant.0) in
    let whole : take c.loop-visit.counts.len (new ++ drop (length new) counts) ≡ new = whole_slice new counts c.loop-visit.counts.len (omega (arith, long, len)) (omega (arith, len, c.loop-visit.invariant.0)) in (
      ap length whole ∙ long,
      λ s below.
          ap (λ (xs : List ℕ). slice_index xs s) whole
          ∙ (c.count_visit.ensures s (omega (arith, below, ap length passed, c.loop-visit.invariant.0))
          ∙ (ap (λ (n : ℕ). n + (if is_visit s (get_or visits k None) then 1 else 0)) (ap (λ (xs : List ℕ). slice_index xs s) passed ∙ c.loop-visit.invariant.1 s below)
          ∙ sym (count_more (is_visit s) visits k None c.loop-visit-test.true))),
    )
