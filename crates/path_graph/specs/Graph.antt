-- Graphs: parts that fit, in which arcs without main consumption form no cycle.
use Rattle.path_graph.specs.Fit.{PartsFit}
use Rattle.path_graph.specs.Parts.{GraphParts}
use Rattle.path_graph.specs.Free.{HasNoFreeCycle}

pub record IsGraph (g : GraphParts) : Type 0 where
  pub fits : PartsFit g.ends g.vertices g.arcs
  pub acyclic : HasNoFreeCycle g.arcs
