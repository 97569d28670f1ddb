-- What a list of visits leaves in the memory, from either end, and which visits are refused.
use Rattle.std.specs.Prelude.{◌≡◌, ◌↔◌, ℕ, ◌<◌, ◌&&◌, ◌||◌, Bool, false, IsTrue, Option, None, Some, List, [], ◌∷◌, ◌++◌, length, reverse, slice_index_or}
use Rattle.ng_sets.specs.Memory.{is_visited}

-- a visit: the packing set of the vertex, if any, and the sets near it
pub record Visit : Type 0 where
  pub set : Option ℕ
  pub near : ℕ → Bool

-- nothing is remembered
abbrev pub nothing : ℕ → Bool
nothing k = false

-- the visited set, if any, is in the memory: so the visit is refused
abbrev pub IsRefused : (ℕ → Bool) → Option ℕ → Type 0
IsRefused memory None = ⊥
IsRefused memory (Some s) = IsTrue (memory s)

-- after a visit the memory has what it had and is near, and the visited set
abbrev pub remembered : (ℕ → Bool) → Visit → ℕ → Bool
remembered memory visit k = (memory k && visit.near k) || is_visited visit.set k

-- forward: the memory after visits that begin with a memory
abbrev pub memory_forward : (ℕ → Bool) → List Visit → ℕ → Bool
memory_forward memory [] = memory
memory_forward memory (visit ∷ rest) = memory_forward (remembered memory visit) rest

-- none of them is refused
abbrev pub AreAccepted : (ℕ → Bool) → List Visit → Type 0
AreAccepted memory [] = Unit {0}
AreAccepted memory (visit ∷ rest) = ¬ (IsRefused memory visit.set) × AreAccepted (remembered memory visit) rest

-- backward, the last visit first: the memory where the visits begin
abbrev pub memory_backward : List Visit → ℕ → Bool
memory_backward [] = nothing
memory_backward (visit ∷ rest) = remembered (memory_backward rest) visit

-- none of them is refused
abbrev pub AreAcceptedBackward : List Visit → Type 0
AreAcceptedBackward [] = Unit {0}
AreAcceptedBackward (visit ∷ rest) = ¬ (IsRefused (memory_backward rest) visit.set) × AreAcceptedBackward rest

-- no set is in both
abbrev pub AreDisjoint : (ℕ → Bool) → (ℕ → Bool) → Type 0
AreDisjoint a b = (s : ℕ) → IsTrue (a s) → ¬ (IsTrue (b s))

-- a visit by its place
abbrev pub visit_in : List Visit → ℕ → Visit
visit_in visits i = slice_index_or visits i (record { set = None; near = nothing })

-- the visits at two places are to the same set, which is near the vertex of each visit between them
pub record IsRevisit (visits : List Visit) (i j s : ℕ) : Type 0 where
  pub before : i < j
  pub within : j < length visits
  pub first : (visit_in visits i).set ≡ Some s
  pub second : (visit_in visits j).set ≡ Some s
  pub near : (m : ℕ) → i < m → m < j → IsTrue ((visit_in visits m).near s)

-- no two visits are
abbrev pub HasNoRevisit : List Visit → Type 0
HasNoRevisit visits = (i j s : ℕ) → ¬ (IsRevisit visits i j s)

-- each part is accepted from its own end, and the memories where they meet are disjoint
pub record Meet (xs ys : List Visit) : Type 0 where
  pub forward : AreAccepted nothing xs
  pub backward : AreAcceptedBackward ys
  pub disjoint : AreDisjoint (memory_forward nothing xs) (memory_backward ys)

-- visits are accepted forward, backward, and from both ends to any place between them, exactly where none is a revisit
abbrev pub MemoriesMeetLaw : Type 0
MemoriesMeetLaw = (xs ys : List Visit) →
    (AreAccepted nothing (xs ++ ys) ↔ HasNoRevisit (xs ++ ys))
    × (AreAcceptedBackward (xs ++ ys) ↔ HasNoRevisit (xs ++ ys))
    × (Meet xs ys ↔ HasNoRevisit (xs ++ ys))

-- backward is forward over the visits in the other order
abbrev pub MemoriesReversedLaw : Type 0
MemoriesReversedLaw = (visits : List Visit) →
    (memory_backward visits ≡ memory_forward nothing (reverse visits))
    × (AreAcceptedBackward visits ↔ AreAccepted nothing (reverse visits))
