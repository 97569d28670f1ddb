-- Conditions on the things of a list, each after the things before it or at its place.
use Rattle.std.specs.Prelude.{ℕ, List, [], ◌∷◌, ◌++◌}

-- a condition of each thing, after the things before it
abbrev pub EachAfter : {A : Type 0} → (List A → A → Type 0) → List A → List A → Type 0
EachAfter P before [] = Unit {0}
EachAfter P before (x ∷ xs) = P before x × EachAfter P (before ++ x ∷ []) xs

-- a condition of each thing at its place, where there is one thing for each place
abbrev pub AllAt : {A : Type 0} → (ℕ → A → Type 0) → List ℕ → List A → Type 0
AllAt P [] [] = Unit {0}
AllAt P (k ∷ ks) (x ∷ xs) = P k x × AllAt P ks xs
AllAt P [] (x ∷ xs) = ⊥
AllAt P (k ∷ ks) [] = ⊥
