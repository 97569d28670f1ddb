-- Trees some of whose places are open.
use Rattle.std.proofs.Common.{◌≡◌, ℤ, ◌<ℤ◌, List, [], ◌∷◌, ◌++◌, All, inl, inr, map, refl, sym, ap, subst, ◌∙◌}
use Rattle.std.proofs.lemmas.List.Elements.{All-nil, All-cons, All-head, All-tail, All-append}
use Rattle.proof_rules.specs.Grows.{Rules, Grows, HoldsForSome, Descends}
use Rattle.open_tree.specs.Open.{with_open, opens, mades, slots_of}
use Rattle.open_tree.specs.declared.slots.Slot.{Slot}
use Rattle.open_tree.specs.declared.slots.Slot.TheVariants.{Open, Made}
use Rattle.proof_rules.proofs.GrowsLemmas.{grows_cut, grows_swap, some_first, some_last}

pub opens_append : {I N : Type 0} (xs ys : List (Slot I N)) → opens (xs ++ ys) ≡ opens xs ++ opens ys
opens_append [] ys = refl
opens_append {I} (Open i ∷ xs) ys = ap (λ (is : List I). i ∷ is) (opens_append xs ys)
opens_append (Made n ∷ xs) ys = opens_append xs ys

pub mades_append : {I N : Type 0} (xs ys : List (Slot I N)) → mades (xs ++ ys) ≡ mades xs ++ mades ys
mades_append [] ys = refl
mades_append (Open i ∷ xs) ys = mades_append xs ys
mades_append {I} {N} (Made n ∷ xs) ys = ap (λ (ns : List N). n ∷ ns) (mades_append xs ys)

-- where no item is open, the made nodes are whole trees
pub made_whole : {I N : Type 0} (r : Rules I N) (is js : List I) (slots : List (Slot I N))
    → opens slots ≡ [] → Grows (with_open r) is slots js → Grows r is (mades slots) js
made_whole r is js [] none g = g
made_whole r [] js (s ∷ slots) none g = absurd g
made_whole r (i ∷ is) js (Open j ∷ slots) none g = cc
made_whole r (i ∷ is) js (Made n ∷ slots) none g = (g.0, made_whole r (r.children i n ++ is) js slots none g.1)

-- what lies below z at an item lies at an open one
pub open_reach : {I N : Type 0} (r : Rules I N) (Has : I → ℤ → Type 0) (z : ℤ) → Descends r Has z
    → (is : List I) (slots : List (Slot I N)) (cost : ℤ) → Grows (with_open r) is slots []
    → HoldsForSome (λ i. Has i cost) is → cost <ℤ z → HoldsForSome (λ i. Has i cost) (opens slots)
open_reach {I} r Has z d is [] cost g at below = subst (λ (ks : List I). HoldsForSome (λ i. Has i cost) ks) g at
open_reach r Has z d [] (s ∷ slots) cost g at below = absurd g
open_reach {I} r Has z d (i ∷ is) (Open j ∷ slots) cost g (inl h) below = inl (subst (λ (k : I). Has k cost) g.0 h)
open_reach r Has z d (i ∷ is) (Open j ∷ slots) cost g (inr h) below = inr (open_reach r Has z d is slots cost g.1 h below)
open_reach r Has z d (i ∷ is) (Made n ∷ slots) cost g (inl h) below =
    open_reach r Has z d (r.children i n ++ is) slots cost g.1 (some_first (λ j. Has j cost) (r.children i n) is (d i n cost g.0 h below)) below
open_reach r Has z d (i ∷ is) (Made n ∷ slots) cost g (inr h) below =
    open_reach r Has z d (r.children i n ++ is) slots cost g.1 (some_last (λ j. Has j cost) (r.children i n) is h) below

-- what holds of items and of each item below them holds of the open ones
pub opens_all : {I N : Type 0} (r : Rules I N) (P : I → Type 0)
    → ((i : I) (n : N) → P i → r.Fits i n → All P (r.children i n))
    → (is : List I) (slots : List (Slot I N)) → All P is → Grows (with_open r) is slots [] → All P (opens slots)
opens_all r P step is [] all g = All-nil P
opens_all r P step [] (s ∷ slots) all g = absurd g
opens_all {I} r P step (i ∷ is) (Open j ∷ slots) all g =
    All-cons P j (opens slots) (subst P g.0 (All-head P i is all)) (opens_all r P step is slots (All-tail P i is all) g.1)
opens_all r P step (i ∷ is) (Made n ∷ slots) all g =
    opens_all r P step (r.children i n ++ is) slots (All-append P (r.children i n) is (step i n (All-head P i is all) g.0) (All-tail P i is all)) g.1

put_in_at : {I N : Type 0} (r : Rules I N) (top ms : List I) (i : I) (before subtree after : List (Slot I N))
    → Grows (with_open r) top before ms → Grows (with_open r) ms (Open i ∷ after) []
    → Grows (with_open r) (i ∷ []) subtree [] → Grows (with_open r) top (before ++ (subtree ++ after)) []
put_in_at r top [] i before subtree after b a s = absurd a
put_in_at {I} r top (j ∷ ms) i before subtree after b a s =
    grows_swap (with_open r) top [] i ms before subtree after
    (subst (λ (k : I). Grows (with_open r) top before (k ∷ ms)) a.0 b) s a.1

-- an open place gives way to a tree at its item
pub put_in : {I N : Type 0} (r : Rules I N) (top : List I) (i : I) (before subtree after : List (Slot I N))
    → Grows (with_open r) top (before ++ (Open i ∷ after)) [] → Grows (with_open r) (i ∷ []) subtree []
    → Grows (with_open r) top (before ++ (subtree ++ after)) []
put_in r top i before subtree after g s =
    let cut = grows_cut (with_open r) top [] before (Open i ∷ after) g in
    put_in_at r top cut.0 i before subtree after cut.1 cut.2 s

-- rules that allow more do so where items may stay open
pub open_step : {I N : Type 0} (r s : Rules I N)
    → ((i : I) (n : N) → r.Fits i n → s.Fits i n × (r.children i n ≡ s.children i n))
    → (i : I) (x : Slot I N) → (with_open r).Fits i x
    → (with_open s).Fits i x × ((with_open r).children i x ≡ (with_open s).children i x)
open_step r s step i (Open j) fits = (fits, refl)
open_step r s step i (Made n) fits = step i n fits

all_open : {I N : Type 0} (r : Rules I N) (is : List I) → Grows (with_open r) is (map (λ i. Open i) is) []
all_open r [] = refl
all_open r (i ∷ is) = (refl, all_open r is)

-- nodes, and after them the items that they leave open, are a tree
pub grown_slots : {I N : Type 0} (r : Rules I N) (is js : List I) (ns : List N)
    → Grows r is ns js → Grows (with_open r) is (slots_of ns js) []
grown_slots {I} r is js [] g = subst (λ (ks : List I). Grows (with_open r) ks (map (λ i. Open i) js) []) (sym g) (all_open r js)
grown_slots r [] js (n ∷ ns) g = absurd g
grown_slots r (i ∷ is) js (n ∷ ns) g = (g.0, grown_slots r (r.children i n ++ is) js ns g.1)

no_mades : {I : Type 0} (N : Type 0) (is : List I) → mades {I = I} {N = N} (map (λ i. Open i) is) ≡ []
no_mades N [] = refl
no_mades N (i ∷ is) = no_mades N is

all_opens : {I : Type 0} (N : Type 0) (is : List I) → opens {I = I} {N = N} (map (λ i. Open i) is) ≡ is
all_opens N [] = refl
all_opens {I} N (i ∷ is) = ap (λ (ks : List I). i ∷ ks) (all_opens N is)

pub mades_of : {I N : Type 0} (ns : List N) (js : List I) → mades (slots_of ns js) ≡ ns
mades_of {I} {N} [] js = no_mades N js
mades_of {I} {N} (n ∷ ns) js = ap (λ (ms : List N). n ∷ ms) (mades_of ns js)

pub opens_of : {I N : Type 0} (ns : List N) (js : List I) → opens (slots_of ns js) ≡ js
opens_of {I} {N} [] js = all_opens N js
opens_of (n ∷ ns) js = opens_of ns js

-- so many nodes more are made where a tree takes an open place
pub mades_more : {I N : Type 0} (ns : List N) (js : List I) (before after : List (Slot I N))
    → mades (before ++ (slots_of ns js ++ after)) ≡ mades before ++ (ns ++ mades after)
mades_more {I} {N} ns js before after =
    mades_append before (slots_of ns js ++ after) ∙ ap (λ (ms : List N). mades before ++ ms)
    (mades_append (slots_of ns js) after ∙ ap (λ (ms : List N). ms ++ mades after) (mades_of ns js))

pub mades_open : {I N : Type 0} (i : I) (before after : List (Slot I N))
    → mades (before ++ (Open i ∷ after)) ≡ mades before ++ mades after
mades_open i before after = mades_append before (Open i ∷ after)

-- what holds of two lists joined holds with more elements between them
pub all_between : {N : Type 0} (P : N → Type 0) (ns xs ys : List N) → All P ns → All P (xs ++ ys) → All P (xs ++ (ns ++ ys))
all_between P ns [] ys h all = All-append P ns ys h all
all_between P ns (x ∷ xs) ys h all =
    All-cons P x (xs ++ (ns ++ ys)) (All-head P x (xs ++ ys) all) (all_between P ns xs ys h (All-tail P x (xs ++ ys) all))

-- what holds of items and of each item below them holds of those that stay open
pub grows_all : {I N : Type 0} (r : Rules I N) (P : I → Type 0)
    → ((i : I) (n : N) → P i → r.Fits i n → All P (r.children i n))
    → (is js : List I) (ns : List N) → All P is → Grows r is ns js → All P js
grows_all {I} r P step is js [] all g = subst (λ (ks : List I). All P ks) g all
grows_all r P step [] js (n ∷ ns) all g = absurd g
grows_all r P step (i ∷ is) js (n ∷ ns) all g =
    grows_all r P step (r.children i n ++ is) js ns (All-append P (r.children i n) is (step i n (All-head P i is all) g.0) (All-tail P i is all)) g.1

-- slots are made one after another
pub slots_push : {I N : Type 0} (ns : List N) (n : N) → slots_of {I = I} (ns ++ n ∷ []) [] ≡ slots_of ns [] ++ Made n ∷ []
slots_push [] n = refl
slots_push {I} {N} (m ∷ ns) n = ap (λ (s : List (Slot I N)). Made m ∷ s) (slots_push ns n)

pub slots_then : {I N : Type 0} (ns : List N) (js : List I) → slots_of ns js ≡ slots_of ns [] ++ map (λ i. Open i) js
slots_then [] js = refl
slots_then {I} {N} (m ∷ ns) js = ap (λ (s : List (Slot I N)). Made m ∷ s) (slots_then ns js)
