use Rattle.std.proofs.Common.{ℕ, ◌<◌}
use Rattle.route_model.specs.Fit.{GraphMapsFit}
use Rattle.route_model.specs.Parts.{graph_in, maps_in}
use Rattle.route_model.proofs.fit.maps_fit.Given as goal

abbrev pub invariant-loop-g : goal.invariant-loop-g
invariant-loop-g l = (k : ℕ) → k < l.g → GraphMapsFit l.count (graph_in l.graphs k) (maps_in l.maps k)
