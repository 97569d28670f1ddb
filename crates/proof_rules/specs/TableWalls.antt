-- Why a table of labels stops at a limit: it has so many entries, each with a walk of its own, and one more label is wanted.
use Rattle.std.specs.Prelude.{◌≡◌, ◌≢◌, ℕ, suc, ◌<◌, ℤ, Option, None, Some, List, length, slice_index, All}
use Rattle.std.specs.List.{AllPairs}
use Rattle.path_graph.specs.declared.set_bits.SetBits.{SetBits}
use Rattle.path_graph.specs.Fit.{int_at}
use Rattle.path_graph.specs.Walk.{Leads}
use Rattle.rank1_cuts.specs.declared.cut.Cut.{Cut}
use Rattle.rank1_cuts.specs.Fit.{CutFits}
use Rattle.route_model.specs.declared.multipliers.Mult.{Mult}
use Rattle.route_model.specs.declared.places.Spot.{Spot}
use Rattle.route_model.specs.Parts.{ModelParts}
use Rattle.route_model.specs.Places.{SpotFits}
use Rattle.multipliers.specs.Quantities.{AreDefined}
use Rattle.label_space.specs.Rules.{Extends, Rules}
use Rattle.label_core.specs.declared.table.Place.{Place}
use Rattle.label_core.specs.declared.table.Entry.{Entry}
use Rattle.label_core.specs.Tables.{Cells, IsKept, StandsAt, entries_of, entry_count}
use Rattle.label_core.specs.Walks.{AreDifferentWalks, Reaches, origin}
use Rattle.label_core.specs.Points.{IsSound}
use Rattle.label_core.specs.Puts.{CoversNot}
use Rattle.label_rules.specs.declared.label.Label.{Label}
use Rattle.label_rules.specs.Labels.{Backward, CanExtend, Direction, Forward, HasBackwardLabel, HasForwardLabel, Setting, extended}
use Rattle.label_rules.specs.Dominance.{Dominates}
use Rattle.label_rules.specs.Spaces.{onward, rules}
use Rattle.proof_rules.specs.Places.{setting_at}

-- two labels stand at one vertex with equal main values
pub record AreAlike (l k : Label) : Type 0 where
  pub vertex : l.vertex ≡ k.vertex
  pub first : int_at l.values.at 0 ≡ int_at k.values.at 0
  pub second : int_at l.values.at 1 ≡ int_at k.values.at 1

-- some entry's label extends over an arc, with which it is the origin of no entry, to a label that no kept entry alike
-- dominates
pub record HasFurther (direction : Direction) (S : Setting) (t : Cells Label) : Type 0 where
  pub place : Place
  pub entry : Entry Label
  pub stands : StandsAt t place entry
  pub choice : ℕ
  pub within : choice < length (onward direction S entry.label.vertex)
  pub defined : CanExtend direction S entry.label (slice_index (onward direction S entry.label.vertex) choice)
  pub no_entry : (q : Place) (d : Entry Label) → StandsAt t q d → d.origin ≢ Some (origin place choice)
  pub not_covered : (q : Place) (d : Entry Label) → StandsAt t q d → IsKept d
      → AreAlike d.label (extended direction S entry.label (slice_index (onward direction S entry.label.vertex) choice))
      → ¬ (Dominates direction S d.label (extended direction S entry.label (slice_index (onward direction S entry.label.vertex) choice)))

-- the table of a direction has so many entries, each the label of a walk of its own, in the cell of its vertex and main
-- values, each gone one with links to a kept one that dominates it, and one more label is wanted
pub record IsTableOver (limit : ℕ) (direction : Direction) (S : Setting) (t : Cells Label) : Type 0 where
  pub cells : ℕ
  pub cell_of : ℕ → ℤ → ℤ → ℕ
  pub sound : IsSound (rules direction S None cells cell_of) t
  pub walks : AreDifferentWalks (rules direction S None cells cell_of) t
  pub count : entry_count t ≡ limit
  pub further : HasFurther direction S t

-- at a place of the model, with cuts that fit and multipliers whose terms are defined, for some near lists
pub record IsTableWall (m : ModelParts) (limit g : ℕ) (direction : Direction) (spot : Spot) (near : List (List SetBits)) (cuts : List Cut) (mult : Mult) (t : Cells Label) : Type 0 where
  pub place : SpotFits m spot
  pub graph : g < length m.graphs
  pub cuts_fit : All CutFits cuts
  pub defined : AreDefined m cuts spot.boxes mult
  pub table : IsTableOver limit direction (setting_at m spot near cuts mult g) t

-- what a table shows where it was filled up to the limit, in a space with a threshold or without
pub record IsFilled (limit : ℕ) (direction : Direction) (S : Setting) (threshold : Option ℤ) (cells : ℕ) (cell_of : ℕ → ℤ → ℤ → ℕ) (t : Cells Label) : Type 0 where
  pub sound : IsSound (rules direction S threshold cells cell_of) t
  pub walks : AreDifferentWalks (rules direction S threshold cells cell_of) t
  pub count : entry_count t ≡ limit
  pub place : Place
  pub entry : Entry Label
  pub stands : StandsAt t place entry
  pub choice : ℕ
  pub label : Label
  pub extends : Extends (rules direction S threshold cells cell_of) entry.label choice label
  pub not_covered : CoversNot (rules direction S threshold cells cell_of) (entries_of t (cell_of label.vertex (int_at label.values.at 0) (int_at label.values.at 1))) label
  pub no_entry : (q : Place) (d : Entry Label) → StandsAt t q d → d.origin ≢ Some (origin place choice)

-- is such a wall, without the threshold
abbrev pub FilledLaw : Type 0
FilledLaw = (limit : ℕ) (direction : Direction) (S : Setting) (threshold : Option ℤ) (cells : ℕ) (cell_of : ℕ → ℤ → ℤ → ℕ) (t : Cells Label)
    → IsFilled limit direction S threshold cells cell_of t → IsTableOver limit direction S t

-- different lists of choices from the root of the space, each extension defined: so many different partial walks, or rests
pub record AreDifferentChoices (r : Rules Label) (lists : List (List ℕ)) : Type 0 where
  pub each : All (λ choices. (l : Label) × Reaches r r.root choices l) lists
  pub differ : AllPairs (λ x y. x ≢ y) lists

-- a wall shows more of them than the limit
abbrev pub TableWallLaw : Type 0
TableWallLaw = (limit : ℕ) (direction : Direction) (S : Setting) (t : Cells Label) → (wall : IsTableOver limit direction S t)
    → (lists : List (List ℕ)) × (length lists ≡ suc limit) × AreDifferentChoices (rules direction S None wall.cells wall.cell_of) lists

-- the label of the partial walk, or of the rest, is defined
pub record IsForwardWalk (S : Setting) (arcs : List ℕ) : Type 0 where
  pub ends : ℕ
  pub leads : Leads S.graph S.graph.ends.source arcs ends
  pub label : HasForwardLabel S arcs

pub record IsBackwardWalk (S : Setting) (arcs : List ℕ) : Type 0 where
  pub begins : ℕ
  pub leads : Leads S.graph begins arcs S.graph.ends.sink
  pub label : HasBackwardLabel S arcs

abbrev pub IsWalkIn : Direction → Setting → List ℕ → Type 0
IsWalkIn Forward S arcs = IsForwardWalk S arcs
IsWalkIn Backward S arcs = IsBackwardWalk S arcs

-- so there are more different ones than the limit
abbrev pub TableWalksLaw : Type 0
TableWalksLaw = (limit : ℕ) (direction : Direction) (S : Setting) (t : Cells Label) → IsTableOver limit direction S t
    → (walks : List (List ℕ)) × (length walks ≡ suc limit) × All (IsWalkIn direction S) walks × AllPairs (λ x y. x ≢ y) walks
