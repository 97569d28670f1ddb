use Rattle.std.proofs.Common.{ℕ, ◌+◌, ◌-◌, [], ◌∷◌, ◌++◌, refl, sym, subst}
use Rattle.certificate.specs.declared.cert.Trie.{Trie}
use Rattle.walk_list.specs.Tasks.{AreFull, AreWholeBelow}
use Rattle.walk_list.proofs.TaskLemmas.{all_whole, full_here, whole_more}
use Rattle.walk_list.proofs.listing.list_all.Goals as goal

pub fill-requires-clause-full : goal.fill-requires-clause-full
fill-requires-clause-full c =
    let t = c.args.task.now in
    let trie : Trie = record { graph = c.loop-graph.graph; steps = c.in_ok-steps.steps } in
    let full = rw c.if-not-whole.true at c.in_ok-steps.ensures.full in
    let made = full_here t c.args.limit c.loop-graph.room c.loop-graph.graph c.loop-graph.tries trie c.loop-graph.invariant refl full in
    let here = subst (AreFull t c.args.limit (c.loop-graph.graph + 1)) (sym c.in_ok-push.ensures.ok) made in
    subst (λ (n : ℕ). AreFull t c.args.limit n c.push.new.self) (sym here.order.count_is) here

pub loop-graph-preserved : goal.loop-graph-preserved
loop-graph-preserved c =
    let t = c.args.task.now in
    let trie : Trie = record { graph = c.loop-graph.graph; steps = c.in_ok-steps.steps } in
    let whole = rw c.if-not-whole.false at c.in_ok-steps.ensures.whole in
    let few = rw c.if-not-whole.false at c.in_ok-steps.ensures.room in
    let made = whole_more t c.args.limit c.loop-graph.room c.loop-graph.graph c.loop-graph.tries trie c.loop-graph.invariant refl few whole in
    subst (AreWholeBelow t c.args.limit (c.loop-graph.room - c.len-lines.result) (c.loop-graph.graph + 1)) (sym c.in_ok-push.ensures.ok)
    (subst (λ (k : ℕ). AreWholeBelow t c.args.limit (c.loop-graph.room - k) (c.loop-graph.graph + 1) (c.loop-graph.tries ++ trie ∷ [])) (sym c.len-lines.ensures) made)
