-- The slots of a tree with open places: where an item is open, and what a test of the slots leaves out.
use Rattle.std.specs.Prelude.{◌≡◌, ℕ, suc, zero, ◌+◌, ◌<◌, ◌≤◌, List, [], ◌∷◌, ◌++◌, length, take, drop}
use Rattle.proof_rules.specs.Grows.{Rules}
use Rattle.open_tree.specs.Open.{SlotFits, slot_children, mades}
use Rattle.open_tree.specs.declared.slots.Slot.{Slot}
use Rattle.open_tree.specs.declared.slots.Slot.TheVariants.{Open}
use Rattle.open_tree.specs.declared.pruning.Tested.{Tested}

-- at a place of the slots an item is open
pub record IsOpenAt {I N : Type 0} (slots : List (Slot I N)) (at : ℕ) (i : I) : Type 0 where
  pub within : at < length slots
  pub slot : slots ≡ take at slots ++ (Open i ∷ drop (at + 1) slots)

-- what stands in a slot after a test fits where the old slot did, and opens all of its items but the first ones, `skip`
-- of them
pub record IsTestedAs {I N : Type 0} (r : Rules I N) (old : Slot I N) (t : Tested I N) : Type 0 where
  pub fits : (i : I) → SlotFits r i old → SlotFits r i t.slot
  pub count : (i : I) → SlotFits r i old → length (slot_children r i old) ≡ t.children
  pub gone : (i : I) → SlotFits r i old
      → (gone : List I) × (length gone ≡ t.skip) × (slot_children r i old ≡ gone ++ slot_children r i t.slot)
  pub same : length (mades (t.slot ∷ [])) ≡ length (mades (old ∷ []))

-- two trees at most stand below, or go
pub record IsSmall {I N : Type 0} (t : Tested I N) : Type 0 where
  pub children : t.children ≤ 2
  pub skip : t.skip ≤ 2

-- the slots that stay, where the next trees, `skip` of them, are left out
abbrev pub pruned : {I N : Type 0} → ℕ → List (Tested I N) → List (Slot I N)
pruned skip [] = []
pruned zero (t ∷ ts) = t.slot ∷ pruned t.skip ts
pruned (suc skip) (t ∷ ts) = pruned (skip + t.children) ts

-- of a tested tree the slots that stay
abbrev pub IsPruned : {I N : Type 0} → List (Tested I N) → List (Slot I N) → Type 0
IsPruned tested kept = kept ≡ pruned 0 tested
