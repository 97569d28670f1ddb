-- Graphs with a cycle of arcs without main consumption.
use Rattle.std.specs.Prelude.{ℕ, List}
use Rattle.path_graph.specs.Parts.{GraphParts}
use Rattle.path_graph.specs.Free.{IsFreeCycle}

abbrev pub HasFreeCycle : GraphParts → Type 0
HasFreeCycle g = (cycle : List ℕ) × IsFreeCycle g.arcs cycle
