-- Trees that are grown at an open place.
use Rattle.std.specs.Prelude.{◌≡◌, ℕ, ◌≤◌, ℤ, None, [], ◌∷◌, length, reverse, All}
use Rattle.route_model.specs.Parts.{ModelParts}
use Rattle.proof_rules.specs.Grows.{Grows}
use Rattle.made_nodes.specs.Better.{IsBetter}
use Rattle.made_nodes.specs.Made.{StaysOpen, made_rules}
use Rattle.search_tree.specs.declared.places.OpenPlace.{OpenPlace}
use Rattle.search_tree.specs.declared.growing.Grown.{Grown}
use Rattle.search_tree.specs.Places.{IsOpenIn, all_valued, valued}

-- the nodes grow from the place against the cost to beat, and leave the places that are open, of which the last is taken next;
-- the cost to beat is that of the best plan that was found, or as before; without one each node stays open against it; at
-- least one node, and at most so many
pub record IsGrownAt (m : ModelParts) (at : OpenPlace) (z : ℤ) (budget : ℕ) (g : Grown) : Type 0 where
  pub grows : Grows (made_rules m g.z) (valued at ∷ []) g.nodes.items (all_valued (reverse g.rest.items))
  pub better : IsBetter m z g.best g.z
  pub stay : g.best ≡ None → All (StaysOpen z) g.nodes.items
  pub fit : All (IsOpenIn m) g.rest.items
  pub some : 1 ≤ length g.nodes.items
  pub few : length g.nodes.items ≤ budget
