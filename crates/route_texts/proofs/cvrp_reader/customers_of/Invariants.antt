use Rattle.std.proofs.Common.{◌≡◌, take}
use Rattle.route_texts.specs.CvrpText.{customers_of}
use Rattle.route_texts.proofs.cvrp_reader.customers_of.Given as goal

abbrev pub invariant-loop-node : goal.invariant-loop-node
invariant-loop-node l = l.stops ≡ customers_of l.depot (take l.node-index l.nodes)
