use Rattle.std.proofs.Common.{FitsSigned, ◌≡◌, ◌<◌, ℤ, Option, Some, [], length, rules, sym, ◌∙◌, ap, subst, arith}
use Rattle.std.specs.Int.{w64, w128}
use Rattle.std.proofs.lemmas.Int.{to_z-of_z}
use Rattle.path_graph.specs.Walk.{GraphParts}
use Rattle.route_model.specs.Parts.{ModelParts, graph_in}
use Rattle.label_rules.specs.Leasts.{AreAllAbove}
use Rattle.proof_check.specs.Checked.{limit_in, setting_in, table_in}
use Rattle.proof_check.proofs.fix.is_fixed.Goals as goal

pub returns-in-Some : goal.returns-in-Some
returns-in-Some c =
    let at = c.args.at.now in
    let g = c.args.arc.0 in
    let a = c.args.arc.1 in
    let time = to_z-of_z w64 c.args.z c.ranges.z in
    let is : Some c.in-Some.limit ≡ limit_in at c.args.z g = c.in-Some.ensures.limit ∙ (λ i. limit_in at (time i) g) in
    let fits : FitsSigned w128 c.in-Some.limit = search rules in
    let read = ap Some (to_z-of_z w128 c.in-Some.limit fits) in
    let size = ap (λ (x : ModelParts). length x.graphs) c.model.view_is in
    let arcs = ap (λ (x : ModelParts). length (graph_in x.graphs g).arcs) c.model.view_is in
    let graph : g < length at.model.now.graphs = omega (arith, c.if-g-len.false, c.len.ensures, size) in
    let same = ap (λ (x : GraphParts). length x.arcs) (c.at.ensures (graph_in [] 0)) in
    let arc : a < length (graph_in at.model.now.graphs g).arcs = omega (arith, c.if-a-arc_count.false, c.arc_count.ensures, same, arcs) in (
      λ h. (graph, arc, subst (λ (limit : Option ℤ). AreAllAbove (setting_in at g) (table_in at g).fore (table_in at g).back limit a) (read ∙ is) (c.is_above.ensures.0 h)),
      λ fixed. c.is_above.ensures.1 (subst (λ (limit : Option ℤ). AreAllAbove (setting_in at g) (table_in at g).fore (table_in at g).back limit a) (sym (read ∙ is)) fixed.2),
    )
