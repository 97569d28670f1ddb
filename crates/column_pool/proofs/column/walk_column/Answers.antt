use Rattle.std.proofs.Common.{ℕ, Option, List, ◌++◌, map, pos, FitsSigned, ◌∙◌, ap, rules}
use Rattle.std.specs.Int.{w64}
use Rattle.std.proofs.lemmas.Int.{to_z-of_z}
use Rattle.rank1_cuts.specs.Visits.{coef_of}
use Rattle.column_pool.specs.Columns.{entries_from}
use Rattle.column_pool.proofs.KeptLemmas.{column_joined}
use Rattle.column_pool.proofs.column.walk_column.Goals as goal

pub returns : goal.returns
returns c = λ m kept is.
    let fits : FitsSigned w64 c.args.walk.now.cost = search rules in
    let entries = column_joined m c.args.cuts.now c.args.walk.now c.in_ok-entries.entries.items c.push_cuts.new.entries.items c.push_entry.new.entries.items c.args.first_cut kept is
    (c.in_ok-entries.ensures.items ∙ c.as_slice.ensures)
    (c.in_ok-push_cuts.ensures ∙ ap (λ (visits : List (Option ℕ)). c.in_ok-entries.entries.items ++ entries_from c.args.first_cut (map (λ cut. pos (coef_of cut visits)) c.args.cuts.now)) c.as_slice-2.ensures)
    c.in_ok-push_entry.ensures in
    λ i. record { cost = (to_z-of_z w64 c.args.walk.now.cost fits ∙ kept.cost) i; entries = (c.from_vec.ensures ∙ entries) i }
