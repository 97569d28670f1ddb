use Rattle.std.proofs.Common.{◌+◌, ◌≤◌, arith}
use Rattle.std.specs.BTreeMap.{get}
use Rattle.std.specs.Map.{count_at}
use Rattle.std.specs.Ordering.{nat_cmp}
use Rattle.std.proofs.lemmas.Bool.Decides.{nat_tests}
use Rattle.model_text.proofs.PathWordLemmas.{counts_more}
use Rattle.model_text.proofs.path_words.take_path.Goals as goal

pub overflow_add-sum : goal.overflow_add-sum
overflow_add-sum c =
    let sum = c.count_of.ensures in
    let is = c.requires.sums c.in_ok-graph.graph in
    let few = c.requires.few c.in_ok-graph.graph in
    let count = c.in_ok-count.ensures.within.1 in
    omega (arith, sum, is, few, count)

pub returns-clause-counts : goal.returns-clause-counts
returns-clause-counts c =
    let graph = c.in_ok-graph.graph in
    let count = c.in_ok-count.count in
    let room : c.count_of.result + count ≤ 4096 = grind (arith, nat_tests, c.in_ok-fault_if.ensures.passes) in
    let few : count_at (get nat_cmp c.args.counts.now) graph + count ≤ 4096 = omega (arith, room, c.count_of.ensures) in
    rw c.in_ok-push.ensures.ok
    (counts_more c.args.counts.now c.insert.new.self c.args.plan.now (record { graph = graph; count = count; arcs = c.in_ok-arcs.arcs }) c.requires (rw c.count_of.ensures at c.in_ok-insert.ensures.updates) few)
