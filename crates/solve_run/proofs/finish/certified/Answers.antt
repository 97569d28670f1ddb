use Rattle.std.proofs.Common.{ℤ, Option, List, w64, sym, subst}
use Rattle.std.proofs.lemmas.Int.{to_z-of_z}
use Rattle.route_model.specs.declared.plan.Plan.{Plan}
use Rattle.route_model.specs.Costs.{cost_above_all}
use Rattle.certificate.specs.declared.cert.Node.{Node}
use Rattle.made_nodes.specs.Better.{IsBetter}
use Rattle.solve_run.specs.Told.{IsToldTree}
use Rattle.solve_run.proofs.ToldLemmas.{told_tree}
use Rattle.solve_run.proofs.finish.certified.Goals as goal

-- src/finish.rt:95:23
pub optimal-requires-clause-tree : goal.optimal-requires-clause-tree
optimal-requires-clause-tree c =
    let m = c.args.model.now in
    let tree = told_tree m c.args.z c.args.nodes.items c.requires.tree in
    subst (λ (z : ℤ). IsToldTree m z c.in_ok-nodes.nodes) (sym (to_z-of_z w64 c.args.z c.ranges.z))
    (subst (λ (nodes : List Node). IsToldTree m c.args.z nodes) (sym c.in_ok-nodes.ensures) tree)

-- src/finish.rt:96:20
pub infeasible-requires-clause-tree : goal.infeasible-requires-clause-tree
infeasible-requires-clause-tree c =
    let m = c.args.model.now in
    let tree = told_tree m c.args.z c.args.nodes.items c.requires.tree in
    let first = subst (λ (best : Option Plan). IsBetter m (cost_above_all m) best c.args.z) c.in-None.is c.requires.better in
    subst (λ (z : ℤ). IsToldTree m z c.in_ok-nodes.nodes) first
    (subst (λ (nodes : List Node). IsToldTree m c.args.z nodes) (sym c.in_ok-nodes.ensures) tree)
