-- Trees some of whose places are open.
use Rattle.std.specs.Prelude.{◌≡◌, List, [], ◌∷◌, map}
use Rattle.proof_rules.specs.Grows.{Rules}
use Rattle.open_tree.specs.declared.slots.Slot.{Slot}
use Rattle.open_tree.specs.declared.slots.Slot.TheVariants.{Open, Made}

-- an open place stands at its own item
abbrev pub SlotFits : {I N : Type 0} → Rules I N → I → Slot I N → Type 0
SlotFits r i (Open j) = i ≡ j
SlotFits r i (Made n) = r.Fits i n

-- below an open place is nothing yet
abbrev pub slot_children : {I N : Type 0} → Rules I N → I → Slot I N → List I
slot_children r i (Open j) = []
slot_children r i (Made n) = r.children i n

-- the same rules, where an item may also stay open
abbrev pub with_open : {I N : Type 0} → Rules I N → Rules I (Slot I N)
with_open r = record { Fits = SlotFits r; children = slot_children r }

-- the open items in order
abbrev pub opens : {I N : Type 0} → List (Slot I N) → List I
opens [] = []
opens (Open i ∷ slots) = i ∷ opens slots
opens (Made n ∷ slots) = opens slots

-- the made nodes in order
abbrev pub mades : {I N : Type 0} → List (Slot I N) → List N
mades [] = []
mades (Open i ∷ slots) = mades slots
mades (Made n ∷ slots) = n ∷ mades slots

-- made nodes, and after them open items
abbrev pub slots_of : {I N : Type 0} → List N → List I → List (Slot I N)
slots_of [] is = map (λ i. Open i) is
slots_of (n ∷ ns) is = Made n ∷ slots_of ns is

-- a slot whose item, or node, is read as another
abbrev pub see : {I N J M : Type 0} → (I → J) → (N → M) → Slot I N → Slot J M
see f g (Open i) = Open (f i)
see f g (Made n) = Made (g n)
