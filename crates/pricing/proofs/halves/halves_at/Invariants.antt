use Rattle.pricing.specs.Fields.{setting_in}
use Rattle.pricing.specs.Halves.{AreHalves}
use Rattle.pricing.proofs.halves.halves_at.Given as goal

abbrev pub invariant-loop-graph : goal.invariant-loop-graph
invariant-loop-graph l = AreHalves l.graph (setting_in l.place.model.now l.place.spot.now l.place.priced.now l.place.near.now l.place.cuts.now l.place.y.now) l.tables l.pairs
