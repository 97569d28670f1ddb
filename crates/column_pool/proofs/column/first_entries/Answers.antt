use Rattle.std.proofs.Common.{◌≡◌, List, ℕ, subst, ◌∙◌, ap, length}
use Rattle.std.specs.Prelude.{slice_index}
use Rattle.route_model.specs.Parts.{ModelParts}
use Rattle.column_pool.specs.Amounts.{entries_with}
use Rattle.column_pool.proofs.KeptLemmas.{entries_joined}
use Rattle.column_pool.proofs.column.first_entries.Goals as goal

pub returns : goal.returns
returns c =
    let inside = c.model.inside in
    let m : ModelParts = record { vars = inside.vars; rows = inside.rows; sets = inside.sets; graphs = inside.graphs; maps = inside.maps } in
    subst (λ (model : ModelParts). c.push_counts-2.new.entries.items ≡ entries_with model c.args.uses.now c.args.visits.now) c.model.view_is
    (entries_joined m c.args.uses.now c.as_slice-2.result.now c.args.visits.now _ _ _ _ c.len.result c.len-2.result c.len-3.result c.as_slice.result.now
    c.new-entries.ensures.items c.in_ok-push_counts.ensures c.in_ok-push_rows.ensures c.in_ok-push_counts-2.ensures
    c.len.ensures c.as_slice.ensures c.len-2.ensures c.len-3.ensures
    (ap length c.as_slice-2.ensures.value ∙ c.in_ok-counts.ensures.len)
    (λ s below. ap (λ (counts : List ℕ). slice_index counts s) c.as_slice-2.ensures.value ∙ c.in_ok-counts.ensures.counts s below))
