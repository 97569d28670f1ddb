-- The open place of the least value.
use Rattle.std.proofs.Common.{◌≡◌, ℕ, suc, ◌+◌, ◌<◌, ◌≤◌, ℤ, ◌≤ℤ◌, Option, None, Some, MatchOption, List, [], ◌∷◌, ◌++◌, All, inl, inr, length, take, drop, get_or, refl, sym, ap, subst, ◌∙◌, arith}
use Rattle.std.proofs.Math.Seq.{split_at}
use Rattle.std.proofs.lemmas.Int.{ints}
use Rattle.std.proofs.lemmas.List.{take_all, take_more}
use Rattle.std.proofs.lemmas.List.Elements.{All-push, All-weaker}
use Rattle.open_tree.specs.declared.slots.Slot.{Slot}
use Rattle.open_tree.specs.declared.slots.Slot.TheVariants.{Made, Open}
use Rattle.open_tree.specs.Open.{opens}
use Rattle.open_tree.specs.Slots.{IsOpenAt}
use Rattle.open_tree.proofs.OpenLaws.{opens_append}
use Rattle.open_tree.proofs.SlotLemmas.{opens_at_made}
use Rattle.made_nodes.specs.declared.node.MadeNode.{MadeNode}
use Rattle.search_tree.specs.declared.places.OpenPlace.{OpenPlace}
use Rattle.solve_run.specs.declared.choosing.Candidate.{Candidate}
use Rattle.solve_run.specs.Chosen.{IsFirstLess, IsLeastOpen}

abbrev Slots : Type 0
Slots = List (Slot OpenPlace MadeNode)

-- of the first slots: a place is open there, and none of them is of less value
pub record IsLeastBelow (slots : List (Slot OpenPlace MadeNode)) (n : ℕ) (c : Candidate) : Type 0 where
  pub place : OpenPlace
  pub is_open : IsOpenAt slots c.at place
  pub value : c.value ≡ place.value
  pub least : All (λ (p : OpenPlace). c.value ≤ℤ p.value) (opens (take n slots))

abbrev pub LeastBelow : List (Slot OpenPlace MadeNode) → ℕ → Option Candidate → Type 0
LeastBelow slots n found = MatchOption found (opens (take n slots) ≡ []) (IsLeastBelow slots n)

-- one slot more
opens_at_open : (slots : Slots) (k : ℕ) (x : Slot OpenPlace MadeNode) (p : OpenPlace) → k < length slots → x ≡ get_or slots k x → x ≡ Open p → opens (take (k + 1) slots) ≡ opens (take k slots) ++ p ∷ []
opens_at_open slots k x p below same is =
    let one : take (k + 1) slots ≡ take k slots ++ x ∷ [] = take_more slots k x below ∙ ap (λ (y : Slot OpenPlace MadeNode). take k slots ++ y ∷ []) (sym same) in
    ap (λ (s : Slots). opens s) one ∙ (opens_append (take k slots) (x ∷ []) ∙ ap (λ (y : Slot OpenPlace MadeNode). opens (take k slots) ++ opens (y ∷ [])) is)

open_here : (slots : Slots) (k : ℕ) (x : Slot OpenPlace MadeNode) (p : OpenPlace) → k < length slots → x ≡ get_or slots k x → x ≡ Open p → IsOpenAt slots k p
open_here slots k x p below same is =
    let next : suc k ≡ k + 1 = omega arith in
    record {
      within = below;
      slot = split_at slots k x below ∙ (ap (λ (y : Slot OpenPlace MadeNode). take k slots ++ y ∷ drop (suc k) slots) (sym same ∙ is) ∙ ap (λ (n : ℕ). take k slots ++ Open p ∷ drop n slots) next);
    }

least_made : (slots : Slots) (k : ℕ) (found : Option Candidate) → opens (take (k + 1) slots) ≡ opens (take k slots) → LeastBelow slots k found → LeastBelow slots (k + 1) found
least_made slots k None same none = same ∙ none
least_made slots k (Some c) same least = record {
  place = least.place;
  is_open = least.is_open;
  value = least.value;
  least = subst (All (λ (p : OpenPlace). c.value ≤ℤ p.value)) (sym same) least.least;
}

pub least_stays : (slots : Slots) (k : ℕ) (x : Slot OpenPlace MadeNode) (n : MadeNode) (old new : Option Candidate) → k < length slots → x ≡ get_or slots k x → x ≡ Made n → LeastBelow slots k old → new ≡ old → LeastBelow slots (k + 1) new
least_stays slots k x n old new below same is least kept =
    subst (LeastBelow slots (k + 1)) (sym kept) (least_made slots k old (opens_at_made slots k x n below same is) least)

at_most : (x y z : ℤ) → x ≤ℤ y → y ≤ℤ z → x ≤ℤ z
at_most x y z h k = omega (arith, ints, h, k)

least_one : (slots : Slots) (k : ℕ) (p : OpenPlace) (c : Candidate) → opens (take (k + 1) slots) ≡ opens (take k slots) ++ p ∷ [] → IsOpenAt slots k p → c ≡ record { at = k; value = p.value }
    → All (λ (q : OpenPlace). p.value ≤ℤ q.value) (opens (take k slots)) → IsLeastBelow slots (k + 1) c
least_one slots k p c more is_open is below =
    let least : All (λ (q : OpenPlace). p.value ≤ℤ q.value) (opens (take (k + 1) slots)) =
    subst (All (λ (q : OpenPlace). p.value ≤ℤ q.value)) (sym more) (All-push (λ (q : OpenPlace). p.value ≤ℤ q.value) (opens (take k slots)) p below (omega (arith, ints))) in
    let here : IsLeastBelow slots (k + 1) (record { at = k; value = p.value }) = record { place = p; is_open = is_open; value = refl; least = least } in
    subst (IsLeastBelow slots (k + 1)) (sym is) here

least_old : (slots : Slots) (k : ℕ) (p : OpenPlace) (old c : Candidate) → opens (take (k + 1) slots) ≡ opens (take k slots) ++ p ∷ [] → IsLeastBelow slots k old → old.value ≤ℤ p.value → c ≡ old → IsLeastBelow slots (k + 1) c
least_old slots k p old c more least before is =
    let here : IsLeastBelow slots (k + 1) old = record {
      place = least.place;
      is_open = least.is_open;
      value = least.value;
      least = subst (All (λ (q : OpenPlace). old.value ≤ℤ q.value)) (sym more) (All-push (λ (q : OpenPlace). old.value ≤ℤ q.value) (opens (take k slots)) p least.least before);
    } in
    subst (IsLeastBelow slots (k + 1)) (sym is) here

least_next : (slots : Slots) (k : ℕ) (p : OpenPlace) (old : Option Candidate) (c : Candidate) → opens (take (k + 1) slots) ≡ opens (take k slots) ++ p ∷ [] → IsOpenAt slots k p → LeastBelow slots k old
    → IsFirstLess old k p.value c → IsLeastBelow slots (k + 1) c
least_next slots k p None c more is_open none is =
    least_one slots k p c more is_open is (subst (All (λ (q : OpenPlace). p.value ≤ℤ q.value)) (sym none) (λ i d l. absurd (omega (arith, l))))
least_next slots k p (Some old) c more is_open least (inl keeps) = least_old slots k p old c more least keeps.0 keeps.1
least_next slots k p (Some old) c more is_open least (inr turns) =
    let less : p.value ≤ℤ old.value = omega (arith, ints, turns.0) in
    least_one slots k p c more is_open turns.1
    (All-weaker (λ (q : OpenPlace). old.value ≤ℤ q.value) (λ (q : OpenPlace). p.value ≤ℤ q.value) (λ q h. at_most p.value old.value q.value less h) (opens (take k slots)) least.least)

pub least_turn : (slots : Slots) (k : ℕ) (x : Slot OpenPlace MadeNode) (p : OpenPlace) (old new : Option Candidate) (c : Candidate) (v : ℤ) → k < length slots → x ≡ get_or slots k x → x ≡ Open p → v ≡ p.value → LeastBelow slots k old
    → IsFirstLess old k v c → new ≡ Some c → LeastBelow slots (k + 1) new
least_turn slots k x p old new c v below same is value least first kept =
    let there : IsOpenAt slots k p = open_here slots k x p below same is in
    let here = least_next slots k p old c (opens_at_open slots k x p below same is) there least (subst (λ (y : ℤ). IsFirstLess old k y c) value first) in
    subst (LeastBelow slots (k + 1)) (sym kept) here

-- of all
pub least_ends : (slots : Slots) (n : ℕ) (found : Option Candidate) → length slots ≤ n → LeastBelow slots n found → MatchOption found (opens slots ≡ []) (λ c. IsLeastOpen slots c.at)
least_ends slots n None past none = ap (λ (s : Slots). opens s) (sym (take_all n slots past)) ∙ none
least_ends slots n (Some c) past least = record {
  place = least.place;
  is_open = least.is_open;
  least = subst (λ (v : ℤ). All (λ (p : OpenPlace). v ≤ℤ p.value) (opens slots)) least.value (subst (λ (s : Slots). All (λ (p : OpenPlace). c.value ≤ℤ p.value) (opens s)) (take_all n slots past) least.least);
}
