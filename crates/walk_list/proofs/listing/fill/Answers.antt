use Rattle.std.proofs.Common.{ℕ, ◌+◌, length, refl, sym, ◌∙◌, ap, subst, arith}
use Rattle.route_model.specs.Parts.{ModelParts}
use Rattle.certificate.specs.declared.cert.Trie.{Trie}
use Rattle.walk_list.specs.Tasks.{AreFull}
use Rattle.walk_list.proofs.TaskLemmas.{full_more}
use Rattle.walk_list.proofs.listing.fill.Goals as goal

pub loop-graph-preserved : goal.loop-graph-preserved
loop-graph-preserved c =
    let t = c.args.task.now in
    let trie : Trie = record { graph = c.loop-graph.graph; steps = c.new.result } in
    subst (AreFull t c.args.limit (c.loop-graph.graph + 1)) (sym c.in_ok-push.ensures.ok) (full_more t c.args.limit c.loop-graph.graph c.loop-graph.tries trie c.loop-graph.invariant refl c.new.ensures)

pub returns : goal.returns
returns c =
    let t = c.args.task.now in
    let count = c.len-graph-end.ensures ∙ ap (λ (m : ModelParts). length m.graphs) c.model.view_is in
    subst (λ (n : ℕ). AreFull t c.args.limit n c.loop-graph.tries) (omega (arith, count, c.loop-graph-test.false, c.loop-graph.auto.graph-end, c.len-graph.ensures, c.requires.within)) c.loop-graph.invariant
