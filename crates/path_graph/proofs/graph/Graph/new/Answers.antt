use Rattle.path_graph.proofs.IndexLemmas.{are_between}
use Rattle.path_graph.proofs.RankingLemmas.{indexed_of, ranked_acyclic}
use Rattle.path_graph.proofs.graph.Graph.new.Goals as goal

pub invariant_of-result : goal.invariant_of-result
invariant_of-result c =
    indexed_of c.args.ends c.args.vertices.now c.in_ok-vertices.vertices.items c.args.arcs.now c.in_ok-arcs.arcs.items c.in_ok-from.from c.in_ok-into.into c.in_ok-ranks.ranks
    c.requires.fit c.in_ok-vertices.ensures c.in_ok-arcs.ensures c.in_ok-from.ensures c.in_ok-into.ensures c.in_ok-ranks.ensures.ranks

pub returns-clause-acyclic : goal.returns-clause-acyclic
returns-clause-acyclic c cycle found =
    ranked_acyclic c.args.arcs.now _ c.in_ok-ranks.ranks (are_between c.args.ends c.args.vertices.now c.args.arcs.now c.requires.fit) c.in_ok-ranks.ensures.ranks cycle found
