use Rattle.std.proofs.Common.{ℤ, to_z, of_z, sym, ap, subst, ◌∙◌}
use Rattle.std.specs.Int.{w128}
use Rattle.std.proofs.lemmas.Int.{to_z-of_z}
use Rattle.place_nodes.specs.Bounds.{IsOpenBound}
use Rattle.place_nodes.specs.Lists.{counts_opened}
use Rattle.place_nodes.proofs.ListLemmas.{list_at}
use Rattle.place_nodes.proofs.list.list_node.Goals as goal

pub returns-in-Ok : goal.returns-in-Ok
returns-in-Ok c =
    let t = c.args.task.now in
    let k = c.args.known in
    let b : ℤ = to_z w128 (of_z w128 c.args.bound) in
    let open_b : IsOpenBound t k b = subst (IsOpenBound t k) (sym (to_z-of_z w128 c.args.bound c.ranges.bound)) c.requires.bound in
    list_at t k c.args.tries c.requires.task c.requires.known c.requires.trees c.requires.few b c.in-Ok.opened.items open_b (c.in-Ok.ensures ∙ ap (counts_opened t k) c.as_slice.ensures)
