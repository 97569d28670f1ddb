-- The slots of a search, as they are seen by the rules.
use Rattle.std.proofs.Common.{◌≡◌, ℕ, ◌+◌, List, ◌∷◌, ◌++◌, All, length, length-append, take, drop, sym, ap, subst, ◌∙◌, arith}
use Rattle.std.proofs.lemmas.List.{map-id}
use Rattle.open_tree.specs.Open.{mades, opens, slots_of}
use Rattle.open_tree.specs.Slots.{IsOpenAt}
use Rattle.open_tree.specs.declared.slots.Slot.{Slot}
use Rattle.open_tree.specs.declared.slots.Slot.TheVariants.{Open}
use Rattle.open_tree.proofs.OpenLaws.{all_between, mades_more, mades_open, opens_append, opens_of}
use Rattle.open_tree.proofs.SeeLaws.{see_mades, see_opens, see_put}
use Rattle.made_nodes.specs.declared.node.MadeNode.{MadeNode}
use Rattle.search_tree.specs.declared.places.OpenPlace.{OpenPlace}
use Rattle.search_tree.specs.Places.{all_valued, valued}
use Rattle.search_tree.specs.Search.{seen}
use Rattle.search_tree.proofs.GrowthLemmas.{all_without}

pub seen_opens : (slots : List (Slot OpenPlace MadeNode)) → opens (seen slots) ≡ all_valued (opens slots)
seen_opens slots = see_opens valued (λ (n : MadeNode). n) slots

pub seen_mades : (slots : List (Slot OpenPlace MadeNode)) → mades (seen slots) ≡ mades slots
seen_mades slots = see_mades valued (λ (n : MadeNode). n) slots ∙ map-id (mades slots)

pub seen_put : (slots : List (Slot OpenPlace MadeNode)) (at : ℕ) (ns : List MadeNode) (rest : List OpenPlace)
    → seen (take at slots ++ (slots_of ns rest ++ drop (at + 1) slots))
    ≡ take at (seen slots) ++ (slots_of ns (all_valued rest) ++ drop (at + 1) (seen slots))
seen_put slots at ns rest =
    see_put valued (λ (n : MadeNode). n) slots at ns rest
    ∙ ap (λ (ms : List MadeNode). take at (seen slots) ++ (slots_of ms (all_valued rest) ++ drop (at + 1) (seen slots))) (map-id ns)

-- ---- slots where a tree takes an open place
module _ (slots : List (Slot OpenPlace MadeNode)) (at : ℕ) (place : OpenPlace) (opened : IsOpenAt slots at place) (ns : List MadeNode) (rest : List OpenPlace) where
  abbrev pub put_slots : List (Slot OpenPlace MadeNode)
  put_slots = take at slots ++ (slots_of ns rest ++ drop (at + 1) slots)

  put_opens : opens put_slots ≡ opens (take at slots) ++ (rest ++ opens (drop (at + 1) slots))
  put_opens =
      opens_append (take at slots) (slots_of ns rest ++ drop (at + 1) slots)
      ∙ ap (λ (is : List OpenPlace). opens (take at slots) ++ is)
      (opens_append (slots_of ns rest) (drop (at + 1) slots)
      ∙ ap (λ (is : List OpenPlace). is ++ opens (drop (at + 1) slots)) (opens_of ns rest))

  old_opens : opens slots ≡ opens (take at slots) ++ (place ∷ opens (drop (at + 1) slots))
  old_opens =
      ap (λ (s : List (Slot OpenPlace MadeNode)). opens s) opened.slot
      ∙ opens_append (take at slots) (Open place ∷ drop (at + 1) slots)

  old_mades : mades slots ≡ mades (take at slots) ++ mades (drop (at + 1) slots)
  old_mades =
      ap (λ (s : List (Slot OpenPlace MadeNode)). mades s) opened.slot
      ∙ mades_open place (take at slots) (drop (at + 1) slots)

  -- what holds of the open places before and of the rest
  pub opens_after : (P : OpenPlace → Type 0) → All P (opens slots) → All P rest → All P (opens put_slots)
  opens_after P all more =
      let before = subst (λ (is : List OpenPlace). All P is) old_opens all in
      let both = all_between P rest (opens (take at slots)) (opens (drop (at + 1) slots)) more
      (all_without P place (opens (take at slots)) (opens (drop (at + 1) slots)) before) in
      subst (λ (is : List OpenPlace). All P is) (sym put_opens) both

  -- what holds of the nodes before and of the new ones
  pub mades_after : (P : MadeNode → Type 0) → All P (mades slots) → All P ns → All P (mades put_slots)
  mades_after P all more =
      let before = subst (λ (ms : List MadeNode). All P ms) old_mades all in
      let both = all_between P ns (mades (take at slots)) (mades (drop (at + 1) slots)) more before in
      subst (λ (ms : List MadeNode). All P ms) (sym (mades_more ns rest (take at slots) (drop (at + 1) slots))) both

  -- so many nodes more are made
  pub mades_count : length (mades put_slots) ≡ length (mades slots) + length ns
  mades_count =
      let before = mades (take at slots) in
      let after = mades (drop (at + 1) slots) in
      let old = ap (λ (ms : List MadeNode). length ms) old_mades ∙ length-append before after in
      let new = ap (λ (ms : List MadeNode). length ms) (mades_more ns rest (take at slots) (drop (at + 1) slots))
      ∙ length-append before (ns ++ after) in
      let more = length-append ns after in
      omega (arith, old, new, more)
