use Rattle.std.proofs.Common.{◌≡◌, ℕ, ◌++◌, drop, length, ◌<◌}
use Rattle.pricing.specs.Walks.{AreChoices, arcs_chosen}
use Rattle.pricing.proofs.walks.arcs_of.Given as goal

-- what is left of the choices leads on from the vertex
pub record IsGoing (vertices vertex : ℕ) (IsOn IsRead : Type 0) : Type 0 where
  pub there : vertex < vertices
  pub on : IsOn
  pub read : IsRead

abbrev pub invariant-loop-choice : goal.invariant-loop-choice
invariant-loop-choice l = IsGoing (length l.graph.vertices) l.vertex (AreChoices l.graph l.vertex (drop l.choice-index l.choices))
    (arcs_chosen l.graph l.graph.ends.source l.choices ≡ l.arcs ++ arcs_chosen l.graph l.vertex (drop l.choice-index l.choices))
