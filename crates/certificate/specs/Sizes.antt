-- What of a model the text of a certificate rests on.
use Rattle.std.specs.Prelude.{ℕ, ◌≤◌, length, map, slice_index_or, All}
use Rattle.path_graph.specs.declared.limits.TheConstants.{MAX_VERTICES, MAX_SETS}
use Rattle.path_graph.specs.Walk.{GraphParts}
use Rattle.route_model.specs.declared.limits.TheConstants.{MAX_VARS, MAX_ROWS, MAX_GRAPHS}
use Rattle.route_model.specs.Parts.{ModelParts}
use Rattle.certificate.specs.declared.sizes.GraphSizes.{GraphSizes}
use Rattle.certificate.specs.declared.sizes.Sizes.{Sizes}

abbrev pub graph_sizes : GraphParts → GraphSizes
graph_sizes g = record { vertices = length g.vertices; ends = g.ends }

abbrev pub sizes_of : ModelParts → Sizes
sizes_of m = record { vars = length m.vars; rows = length m.rows; sets = m.sets; graphs = map graph_sizes m.graphs }

-- the sizes of a graph; nothing is said of a graph past the end
abbrev pub graph_at : Sizes → ℕ → GraphSizes
graph_at s g =
    slice_index_or s.graphs g
    (record { vertices = 0; ends = record { source = 0; sink = 0; low = 0; high = 0; mains = 0; seconds = 0 } })

-- the sizes keep the limits of a model
pub record GraphSizesFit (g : GraphSizes) : Type 0 where
  pub vertices : g.vertices ≤ MAX_VERTICES
  pub mains : g.ends.mains ≤ 2
  pub seconds : g.ends.seconds ≤ 4

pub record SizesFit (s : Sizes) : Type 0 where
  pub vars : s.vars ≤ MAX_VARS
  pub rows : s.rows ≤ MAX_ROWS
  pub sets : s.sets ≤ MAX_SETS
  pub graphs : length s.graphs ≤ MAX_GRAPHS
  pub each : All GraphSizesFit s.graphs
