use Rattle.std.proofs.Common.{ℕ, ◌+◌, ◌<◌, Option, length, refl, sym, ◌∙◌, ap, subst}
use Rattle.std.specs.Prelude.{IfSome, slice_index, if◌then◌else◌}
use Rattle.path_graph.specs.Visits.{is_visit}
use Rattle.column_pool.proofs.CountLemmas.{raised}
use Rattle.column_pool.proofs.counts.count_visit.Goals as goal

pub returns : goal.returns
returns c = λ s below.
    let counts = c.args.counts.now in
    let there : c.in-Some.set < length counts = subst (λ (v : Option ℕ). IfSome v (λ i. i < length counts)) c.in-Some.is c.requires.visit in
    raised counts _ c.in-Some.set s there refl ∙ ap (λ (v : Option ℕ). slice_index counts s + (if is_visit s v then 1 else 0)) (sym c.in-Some.is)
