-- What holds of trees with open places.
use Rattle.std.specs.Prelude.{◌≡◌, ℤ, ◌<ℤ◌, ◌≤◌, List, [], ◌∷◌, ◌++◌, length}
use Rattle.std.specs.List.{AllZip}
use Rattle.proof_rules.specs.Grows.{Rules, Grows, HoldsForSome, Descends}
use Rattle.open_tree.specs.Open.{with_open, opens, mades, slots_of}
use Rattle.open_tree.specs.Slots.{IsTestedAs, IsPruned}
use Rattle.open_tree.specs.declared.slots.Slot.{Slot}
use Rattle.open_tree.specs.declared.slots.Slot.TheVariants.{Open}
use Rattle.open_tree.specs.declared.pruning.Tested.{Tested}

abbrev pub rules_of : {I N : Type 0} → (I → N → Type 0) → (I → N → List I) → Rules I N
rules_of Fits children = record { Fits = Fits; children = children }

-- an open place may give way to nodes that begin at its item, and behind them to the items that they leave open
abbrev pub PutLaw : {I N : Type 0} → Rules I N → Type 0
PutLaw {I} {N} r = (top : List I) (before after : List (Slot I N)) (i : I) (nodes : List N) (rest : List I)
    → Grows (with_open r) top (before ++ (Open i ∷ after)) [] → Grows r (i ∷ []) nodes rest
    → Grows (with_open r) top (before ++ (slots_of nodes rest ++ after)) []

-- where no item is open, the made nodes are whole trees
abbrev pub WholeLaw : {I N : Type 0} → Rules I N → Type 0
WholeLaw {I} {N} r = (top : List I) (slots : List (Slot I N))
    → opens slots ≡ [] → Grows (with_open r) top slots [] → Grows r top (mades slots) []

-- what costs less than z and lies at an item from which the tree begins lies at an open one
abbrev pub ReachLaw : {I N : Type 0} → Rules I N → (I → ℤ → Type 0) → Type 0
ReachLaw {I} {N} r Has = (z : ℤ) → Descends r Has z → (top : List I) (slots : List (Slot I N)) (cost : ℤ)
    → Grows (with_open r) top slots [] → HoldsForSome (λ i. Has i cost) top → cost <ℤ z
    → HoldsForSome (λ i. Has i cost) (opens slots)

-- where each slot is tested, the slots that stay are a tree again, and no more nodes are made
abbrev pub PruneLaw : {I N : Type 0} → Rules I N → Type 0
PruneLaw {I} {N} r = (top : List I) (olds kept : List (Slot I N)) (tested : List (Tested I N))
    → IsPruned tested kept → AllZip (IsTestedAs r) olds tested → Grows (with_open r) top olds []
    → Grows (with_open r) top kept [] × (length (mades kept) ≤ length (mades olds))

-- a tree by some rules is one by rules that allow more, where each node opens the same items
abbrev pub WeakenLaw : {I N : Type 0} → Rules I N → Rules I N → Type 0
WeakenLaw {I} {N} r s = ((i : I) (n : N) → r.Fits i n → s.Fits i n × (r.children i n ≡ s.children i n))
    → (top : List I) (slots : List (Slot I N)) → Grows (with_open r) top slots [] → Grows (with_open s) top slots []
