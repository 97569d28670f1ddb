use Rattle.std.proofs.Common.{ℕ, ◌+◌, ◌==◌, List, ◌∙◌, ap, arith}
use Rattle.std.specs.Prelude.{count_by, slice_index}
use Rattle.std.proofs.lemmas.List.{take_all}
use Rattle.column_pool.proofs.CountLemmas.{count_once}
use Rattle.column_pool.proofs.counts.count_each.Goals as goal

pub returns : goal.returns
returns c = λ j below.
    let vars : List ℕ = c.args.vars.now in
    c.loop-var.invariant.1 j below
    ∙ ap (λ (n : ℕ). slice_index c.args.counts.now j + n) (ap (count_by (λ i. i == j)) (take_all c.loop-var.var-index vars (omega arith)) ∙ count_once j vars c.requires.fit.ascend)
