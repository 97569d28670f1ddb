-- Worked rows, proved by computing.
use Rattle.std.proofs.Common.{◌≡◌, ℕ, ℤ, pos, neg_ℤ, List, [], ◌∷◌, ◌++◌, Option, None, Some, refl}
use Rattle.std.specs.Prelude.{codes}
use Rattle.std.specs.Fmt.{digits}
use Rattle.path_graph.specs.declared.parts.Window.{Window}
use Rattle.path_graph.specs.declared.parts.Vertex.{Vertex}
use Rattle.path_graph.specs.declared.parts.GraphArc.{GraphArc}
use Rattle.route_model.specs.declared.parts.Var.{Var}
use Rattle.route_model.specs.declared.parts.RowTerm.{RowTerm}
use Rattle.route_model.specs.declared.plan.Taken.{Taken}
use Rattle.route_model.specs.Parts.{ModelParts}
use Rattle.model_text.specs.PathText.{path_line}
use Rattle.model_text.specs.ModelText.{model_text}

abbrev var : ℤ → ℤ → ℤ → Var
var low high cost = record { low = low; high = high; cost = cost }

abbrev term : ℕ → ℤ → RowTerm
term j coef = record { var = j; coef = coef }

abbrev span : ℤ → ℤ → Window
span low high = record { low = low; high = high }

-- no resource
abbrev none : Window
none = span (pos 0) (pos 0)

-- a vertex with a main window alone
abbrev place : Option ℕ → Window → Vertex
place set w = record { set = set; windows = w ∷ none ∷ none ∷ none ∷ none ∷ none ∷ [] }

-- an arc with a main need alone
abbrev arc : ℕ → ℕ → ℤ → GraphArc
arc tail head q =
    record { tail = tail; head = head; needs = q ∷ pos 0 ∷ pos 0 ∷ pos 0 ∷ pos 0 ∷ pos 0 ∷ [] }

-- two customers, each visited once, on at most two paths
abbrev pub two_customers : ModelParts
two_customers =
    record {
      vars =
          var (pos 0) (pos 2) (pos 3) ∷ var (pos 0) (pos 2) (pos 4) ∷ var (pos 0) (pos 2) (pos 2)
          ∷ var (pos 0) (pos 2) (pos 5) ∷ var (pos 0) (pos 2) (pos 3) ∷ var (pos 0) (pos 2) (pos 4) ∷ [];
      rows =
          record { low = Some (pos 1); high = Some (pos 1); terms = term 0 (pos 1) ∷ term 3 (pos 1) ∷ [] }
          ∷ record { low = Some (pos 1); high = Some (pos 1); terms = term 1 (pos 1) ∷ term 2 (pos 1) ∷ [] } ∷ [];
      sets = 0;
      graphs =
          record {
            ends = record { source = 0; sink = 3; low = 0; high = 2; mains = 1; seconds = 0 };
            vertices =
                place None (span (pos 0) (pos 2)) ∷ place None (span (pos 0) (pos 2))
                ∷ place None (span (pos 0) (pos 2)) ∷ place None (span (pos 0) (pos 2)) ∷ [];
            arcs =
                arc 0 1 (pos 1) ∷ arc 0 2 (pos 1) ∷ arc 1 2 (pos 1) ∷ arc 2 1 (pos 1) ∷ arc 1 3 (pos 0) ∷ arc 2 3 (pos 0) ∷ [];
          } ∷ [];
      maps = ((0 ∷ []) ∷ (1 ∷ []) ∷ (2 ∷ []) ∷ (3 ∷ []) ∷ (4 ∷ []) ∷ (5 ∷ []) ∷ []) ∷ [];
    }

abbrev pub two_customers_text : List ℕ
two_customers_text =
    codes "vrpmodel 1\n"
    ++ codes "var 0 2 3\n"
    ++ codes "var 0 2 4\n"
    ++ codes "var 0 2 2\n"
    ++ codes "var 0 2 5\n"
    ++ codes "var 0 2 3\n"
    ++ codes "var 0 2 4\n"
    ++ codes "row 1 1 0 1 3 1\n"
    ++ codes "row 1 1 1 1 2 1\n"
    ++ codes "graph 4 0 3 0 2 1 0\n"
    ++ codes "vertex - 0 2\n"
    ++ codes "vertex - 0 2\n"
    ++ codes "vertex - 0 2\n"
    ++ codes "vertex - 0 2\n"
    ++ codes "arc 0 1 1 0\n"
    ++ codes "arc 0 2 1 1\n"
    ++ codes "arc 1 2 1 2\n"
    ++ codes "arc 2 1 1 3\n"
    ++ codes "arc 1 3 0 4\n"
    ++ codes "arc 2 3 0 5\n"
    ++ codes "end\n"

pub two_customers_printed : model_text two_customers ≡ two_customers_text
unfolding digits
two_customers_printed = refl

-- two graphs of which one has a secondary resource and the other two main ones, two sets, open sides
abbrev pub two_graphs : ModelParts
two_graphs =
    record {
      vars = var (pos 0) (pos 5) (neg_ℤ (pos 3)) ∷ var (pos 1) (pos 1) (pos 0) ∷ [];
      rows =
          record { low = None; high = Some (pos 7); terms = term 0 (neg_ℤ (pos 2)) ∷ term 1 (pos 4) ∷ [] }
          ∷ record { low = Some (neg_ℤ (pos 1)); high = None; terms = [] }
          ∷ record { low = None; high = None; terms = term 1 (pos 1) ∷ [] } ∷ [];
      sets = 2;
      graphs =
          record {
            ends = record { source = 0; sink = 2; low = 0; high = 4; mains = 1; seconds = 1 };
            vertices =
                record {
                  set = None;
                  windows = span (pos 0) (pos 10) ∷ none ∷ span (neg_ℤ (pos 5)) (pos 5) ∷ none ∷ none ∷ none ∷ [];
                } ∷ place (Some 1) (span (pos 2) (pos 8))
                ∷ record {
                  set = None;
                  windows = span (pos 0) (pos 10) ∷ none ∷ span (neg_ℤ (pos 5)) (pos 5) ∷ none ∷ none ∷ none ∷ [];
                } ∷ [];
            arcs =
                record {
                  tail = 0;
                  head = 1;
                  needs = pos 1 ∷ pos 0 ∷ neg_ℤ (pos 1) ∷ pos 0 ∷ pos 0 ∷ pos 0 ∷ [];
                }
                ∷ record { tail = 1; head = 2; needs = pos 0 ∷ pos 0 ∷ pos 3 ∷ pos 0 ∷ pos 0 ∷ pos 0 ∷ [] } ∷ [];
          }
          ∷ record {
            ends = record { source = 1; sink = 0; low = 1; high = 1; mains = 2; seconds = 0 };
            vertices =
                record {
                  set = None;
                  windows = span (pos 0) (pos 1) ∷ span (pos 0) (pos 2) ∷ none ∷ none ∷ none ∷ none ∷ [];
                }
                ∷ record {
                  set = None;
                  windows = span (pos 0) (pos 1) ∷ span (pos 0) (pos 2) ∷ none ∷ none ∷ none ∷ none ∷ [];
                } ∷ [];
            arcs = arc 1 0 (pos 1) ∷ [];
          } ∷ [];
      maps = ((0 ∷ []) ∷ (0 ∷ 1 ∷ []) ∷ []) ∷ ([] ∷ []) ∷ [];
    }

abbrev pub two_graphs_text : List ℕ
two_graphs_text =
    codes "vrpmodel 1\n"
    ++ codes "var 0 5 -3\n"
    ++ codes "var 1 1 0\n"
    ++ codes "row * 7 0 -2 1 4\n"
    ++ codes "row -1 *\n"
    ++ codes "row * * 1 1\n"
    ++ codes "sets 2\n"
    ++ codes "graph 3 0 2 0 4 1 1\n"
    ++ codes "vertex - 0 10 -5 5\n"
    ++ codes "vertex 1 2 8 0 0\n"
    ++ codes "vertex - 0 10 -5 5\n"
    ++ codes "arc 0 1 1 -1 0\n"
    ++ codes "arc 1 2 0 3 0 1\n"
    ++ codes "graph 2 1 0 1 1 2 0\n"
    ++ codes "vertex - 0 1 0 2\n"
    ++ codes "vertex - 0 1 0 2\n"
    ++ codes "arc 1 0 1 0\n"
    ++ codes "end\n"

pub two_graphs_printed : model_text two_graphs ≡ two_graphs_text
unfolding digits
two_graphs_printed = refl

abbrev walk : Taken
walk = record { graph = 0; count = 1; arcs = 0 ∷ 2 ∷ 5 ∷ [] }

pub walk_printed : path_line walk ≡ codes "path 0 1 0 2 5\n"
unfolding digits
walk_printed = refl
