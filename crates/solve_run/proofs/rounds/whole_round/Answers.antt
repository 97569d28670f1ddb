use Rattle.std.proofs.Common.{ℤ, FitsSigned, subst, sym, w64, rules}
use Rattle.std.proofs.lemmas.Int.{to_z-of_z}
use Rattle.search_tree.specs.Laws.{IsWholeTree}
use Rattle.solve_run.proofs.EndLemmas.{whole_tree}
use Rattle.solve_run.proofs.rounds.whole_round.Goals as goal

-- src/rounds.rt:100:5
pub certified-requires-clause-tree : goal.certified-requires-clause-tree
certified-requires-clause-tree c =
    let m = c.args.model.now in
    let grown = c.args.grown in
    let fits : FitsSigned w64 grown.z = search rules in
    subst (λ (z : ℤ). IsWholeTree m z grown.nodes.items) (sym (to_z-of_z w64 grown.z fits)) (whole_tree m c.args.search.z grown c.requires.whole)
