-- The level of values at a vertex: it rises over each arc, so feasible walks are finitely many.
use Rattle.std.specs.Prelude.{ℕ, ℤ, pos, ◌+ℤ◌, ◌*ℤ◌, length}
use Rattle.path_graph.specs.declared.parts.Values.{Values}
use Rattle.path_graph.specs.Fit.{int_at}
use Rattle.path_graph.specs.Parts.{GraphParts}
use Rattle.path_graph.specs.Free.{rank_of}

-- the number of vertices times the sum of the main values, plus the rank of the vertex
abbrev pub level_of : GraphParts → ℕ → Values → ℤ
level_of g v value =
    pos (length g.vertices) *ℤ (int_at value.at 0 +ℤ int_at value.at 1) +ℤ pos (rank_of g v)
