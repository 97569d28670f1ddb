-- The items of a list with a property, in the order of the list.
use Rattle.std.specs.Prelude.{◌≡◌, ◌⊎◌, List, [], ◌∷◌, ◌++◌}

-- an item without the property is passed over, and one with it comes next
abbrev pub IsChosen : {X : Type 0} → (X → Type 0) → List X → List X → Type 0
IsChosen P [] ys = ys ≡ []
IsChosen {X} P (x ∷ xs) ys = ((¬ (P x)) × IsChosen P xs ys) ⊎ ((rest : List X) × P x × (ys ≡ x ∷ rest) × IsChosen P xs rest)

-- a list with the chosen items of another behind its own
pub record AppendsChosen {X : Type 0} (P : X → Type 0) (items old new : List X) : Type 0 where
  pub added : List X
  pub is : new ≡ old ++ added
  pub chosen : IsChosen P items added
