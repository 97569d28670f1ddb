use Rattle.std.proofs.Common.{length}
use Rattle.certificate.specs.Sizes.{sizes_of}
use Rattle.pricing.specs.Fields.{setting_in}
use Rattle.pricing.specs.Outcomes.{AreTables, EachHas}
use Rattle.pricing.specs.Told.{IsTold}
use Rattle.pricing.proofs.every_graph.tables_at.Given as goal

abbrev pub invariant-loop-graph : goal.invariant-loop-graph
invariant-loop-graph l = record {
  outcome : AreTables l.graph (setting_in l.place.model.now l.place.spot.now l.place.priced.now l.place.near.now l.place.cuts.now l.place.y.now) l.both l.tables l.filled;
  told : EachHas l.graph l.tables (IsTold (sizes_of l.place.model.now) (length l.place.cuts.now) l.limit);
}
