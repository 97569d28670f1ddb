-- The partial walks of the entries of a table, arc by arc.
use Rattle.std.specs.Prelude.{◌≡◌, ℕ, ◌<◌, List, [], ◌∷◌, length, slice_index}
use Rattle.path_graph.specs.Parts.{arcs_from}
use Rattle.path_graph.specs.Rest.{IsPartial}
use Rattle.path_graph.specs.Walk.{GraphParts, arc_at}
use Rattle.label_core.specs.declared.table.Entry.{Entry}
use Rattle.label_core.specs.declared.table.Place.{Place}
use Rattle.label_core.specs.Tables.{Cells, StandsAt}
use Rattle.label_core.specs.Walks.{HasOrigins, IsWalkOf}
use Rattle.label_rules.specs.declared.label.Label.{Label}

-- choices lead on from a vertex: each is the place of an arc among those out of the vertex that the one before led to
abbrev pub AreChoices : GraphParts → ℕ → List ℕ → Type 0
AreChoices g v [] = Unit {0}
AreChoices g v (k ∷ choices) = (k < length (arcs_from g.arcs v)) × AreChoices g (arc_at g.arcs (slice_index (arcs_from g.arcs v) k)).head choices

-- their arcs
abbrev pub arcs_chosen : GraphParts → ℕ → List ℕ → List ℕ
arcs_chosen g v [] = []
arcs_chosen g v (k ∷ choices) = slice_index (arcs_from g.arcs v) k ∷ arcs_chosen g (arc_at g.arcs (slice_index (arcs_from g.arcs v) k)).head choices

-- the choices of an entry are a feasible partial walk to its vertex
pub record HasPartialWalk (g : GraphParts) (t : Cells Label) (p : Place) (e : Entry Label) : Type 0 where
  pub choices : List ℕ
  pub walk : IsWalkOf t p choices
  pub are : AreChoices g g.ends.source choices
  pub partial : IsPartial g (arcs_chosen g g.ends.source choices) e.label.vertex e.label.values

-- those of each entry of a table are
pub record HasPartialWalks (g : GraphParts) (t : Cells Label) : Type 0 where
  pub origins : HasOrigins t
  pub each : (p : Place) (e : Entry Label) → StandsAt t p e → HasPartialWalk g t p e
