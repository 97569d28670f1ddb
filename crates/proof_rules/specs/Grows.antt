-- Lists of nodes that are read in order from open items.
use Rattle.std.specs.Prelude.{◌≡◌, ℕ, ◌≤◌, ℤ, ◌<ℤ◌, ◌≤ℤ◌, List, [], ◌∷◌, ◌++◌, length, take, drop, ◌⊎◌}

-- which node may stand at an item, and the items that are open below it
pub record Rules (I N : Type 0) : Type 1 where
  pub Fits : I → N → Type 0
  pub children : I → N → List I

-- the nodes begin at the open items `is`, first item first, and leave the open items `js`
abbrev pub Grows : {I N : Type 0} → Rules I N → List I → List N → List I → Type 0
Grows r is [] js = is ≡ js
Grows r [] (n ∷ ns) js = ⊥
Grows r (i ∷ is) (n ∷ ns) js = r.Fits i n × Grows r (r.children i n ++ is) ns js

-- no list of nodes that goes on so leaves no item open
abbrev pub Stops : {I N : Type 0} → Rules I N → List I → List N → Type 0
Stops r [] [] = ⊥
Stops r [] (n ∷ ns) = Unit {0}
Stops r (i ∷ is) [] = Unit {0}
Stops r (i ∷ is) (n ∷ ns) = r.Fits i n → ⊥

-- the first fault of a list of nodes is at the place `k`, which is past its end where a node lacks
pub record IsFault {I N : Type 0} (r : Rules I N) (is : List I) (ns : List N) (k : ℕ) : Type 0 where
  pub within : k ≤ length ns
  pub open_items : List I
  pub grows : Grows r is (take k ns) open_items
  pub stops : Stops r open_items (drop k ns)

-- `P` holds of some item
abbrev pub HoldsForSome : {I : Type 0} → (I → Type 0) → List I → Type 0
HoldsForSome P [] = ⊥
HoldsForSome P (i ∷ is) = P i ⊎ HoldsForSome P is

-- what is looked for has a cost and lies at items: below z, it lies at a child of each item where it lies
abbrev pub Descends : {I N : Type 0} → Rules I N → (I → ℤ → Type 0) → ℤ → Type 0
Descends {I} {N} r Has z = (i : I) (n : N) (cost : ℤ) → r.Fits i n → Has i cost → cost <ℤ z
    → HoldsForSome (λ j. Has j cost) (r.children i n)

-- nothing at the item costs less than z
abbrev pub NoneBelow : {I : Type 0} → (I → ℤ → Type 0) → ℤ → I → Type 0
NoneBelow Has z i = (cost : ℤ) → Has i cost → z ≤ℤ cost

-- each item has what `P` says
abbrev pub HoldsForEach : {I : Type 0} → (I → Type 0) → List I → Type 0
HoldsForEach P [] = Unit {0}
HoldsForEach P (i ∷ is) = P i × HoldsForEach P is

-- each node shows that nothing lies below z at its item, if nothing does at the children
abbrev pub IsSound : {I N : Type 0} → Rules I N → (I → ℤ → Type 0) → ℤ → Type 0
IsSound {I} {N} r Has z = (i : I) (n : N) → r.Fits i n → HoldsForEach (NoneBelow Has z) (r.children i n) → NoneBelow Has z i
