-- A pass of tests against the cost to beat.
use Rattle.std.proofs.Common.{◌≡◌, ◌⊎◌, ◌≤◌, ◌++◌, ℕ, suc, zero, ℤ, ◌+◌, List, [], ◌∷◌, All, Option, inl, inr, length, map, refl, sym, ap, subst, ◌∙◌, arith}
use Rattle.std.specs.List.{AllZip}
use Rattle.std.proofs.lemmas.List.{append-nil, length-map, nil_from_length}
use Rattle.std.proofs.lemmas.List.Elements.{All-cons, All-head, All-nil, All-tail}
use Rattle.route_model.specs.declared.plan.Plan.{Plan}
use Rattle.route_model.specs.Costs.{cost_above_all}
use Rattle.route_model.specs.Fit.{ModelFits}
use Rattle.route_model.specs.Parts.{ModelParts}
use Rattle.multipliers.proofs.RootLemmas.{root_fits}
use Rattle.proof_rules.specs.Grows.{Grows, HoldsForEach, Rules}
use Rattle.proof_rules.specs.Nodes.{Item, children_of}
use Rattle.proof_rules.specs.OpenTrees.{Valued, handed, valued_root}
use Rattle.certificate.specs.declared.cert.NodeForm.{NodeForm}
use Rattle.certificate.specs.declared.cert.NodeForm.TheVariants as node
use Rattle.cert_rules.specs.Meaning.{node_of}
use Rattle.cert_check.specs.Reads.{ItemFits}
use Rattle.open_tree.specs.Open.{mades, opens, see, with_open}
use Rattle.open_tree.specs.Slots.{IsPruned, IsSmall, IsTestedAs, pruned}
use Rattle.open_tree.specs.declared.pruning.Tested.{Tested}
use Rattle.open_tree.specs.declared.slots.Slot.{Slot}
use Rattle.open_tree.specs.declared.slots.Slot.TheVariants.{Made, Open}
use Rattle.open_tree.proofs.PruneLaws.{prune_all}
use Rattle.open_tree.proofs.TreeLaws.{prune_law, weaken_law}
use Rattle.made_nodes.specs.declared.node.MadeNode.{MadeNode}
use Rattle.made_nodes.specs.Better.{IsBetter}
use Rattle.made_nodes.specs.Closing.{IsClosing}
use Rattle.made_nodes.specs.Made.{IsMade, StaysOpen, child_count, made_children, made_rules}
use Rattle.made_nodes.proofs.MadeLemmas.{child_count_is, made_children_fit}
use Rattle.search_tree.specs.declared.places.OpenPlace.{OpenPlace}
use Rattle.search_tree.specs.declared.search.Search.{Search}
use Rattle.search_tree.specs.Places.{IsOpenIn, valued}
use Rattle.search_tree.specs.Retested.{HasClosed, HasStayed, IsRetested}
use Rattle.search_tree.specs.Search.{IsSearch, seen, slots_in}
use Rattle.search_tree.proofs.GrowthLemmas.{all_one, grows_under, under}
use Rattle.search_tree.proofs.SeenLemmas.{seen_mades}

-- ---- slots after a test, as they are seen by the rules
abbrev pub slot_seen : Slot OpenPlace MadeNode → Slot Valued MadeNode
slot_seen x = see valued (λ (n : MadeNode). n) x

abbrev pub tested_seen : Tested OpenPlace MadeNode → Tested Valued MadeNode
tested_seen t = record { slot = slot_seen t.slot; children = t.children; skip = t.skip }

pruned_seen : (skip : ℕ) (ts : List (Tested OpenPlace MadeNode)) → seen (pruned skip ts) ≡ pruned skip (map tested_seen ts)
pruned_seen skip [] = refl
pruned_seen zero (t ∷ ts) = ap (λ (xs : List (Slot Valued MadeNode)). slot_seen t.slot ∷ xs) (pruned_seen t.skip ts)
pruned_seen (suc skip) (t ∷ ts) = pruned_seen (skip + t.children) ts

-- ---- the items below an item of the model are of the model
abbrev pub FitsIn : ModelParts → Valued → Type 0
FitsIn m i = ItemFits m i.item

each_fits : (m : ModelParts) (value : ℤ) (items : List Item) → HoldsForEach (ItemFits m) items
    → All (FitsIn m) (map (λ (item : Item). record { item = item; value = value }) items)
each_fits m value [] each = All-nil (FitsIn m)
each_fits m value (item ∷ items) each =
    All-cons (FitsIn m) (record { item = item; value = value }) (map (λ (it : Item). record { item = it; value = value }) items)
    each.0 (each_fits m value items each.1)

children_fit_in : (m : ModelParts) (z : ℤ) → ModelFits m → (i : Valued) (n : MadeNode) → FitsIn m i → IsMade m z i.item n → All (FitsIn m) (made_children m i n)
children_fit_in m z fits i n item is =
    each_fits m (handed m i.item (node_of m n.form) i.value) (children_of m i.item (node_of m n.form)) (made_children_fit m z i.item n fits item is)

-- a made node at an item of the model
abbrev pub fit_rules : ModelParts → ℤ → Rules Valued MadeNode
fit_rules m z = under (FitsIn m) (made_rules m z)

count_is : (m : ModelParts) (z : ℤ) (i : Valued) (n : MadeNode) → IsMade m z i.item n → length (made_children m i n) ≡ child_count n.form
count_is m z i n is = length-map (children_of m i.item (node_of m n.form)) _ ∙ child_count_is m z i.item n is

-- ---- each slot is tested
place_as : (m : ModelParts) (z : ℤ) (v : Valued) (children skip : ℕ) → children ≡ 0 → skip ≡ 0
    → IsTestedAs (fit_rules m z) (Open v) (record { slot = Open v; children = children; skip = skip })
place_as m z v children skip no_child no_skip = record {
  fits = λ i f. f;
  count = λ i f. sym no_child;
  gone = λ i f. ([], sym no_skip, refl);
  same = refl;
}

stayed_as : (m : ModelParts) (z : ℤ) (n : MadeNode) (children skip : ℕ) → children ≡ child_count n.form → skip ≡ 0
    → IsTestedAs (fit_rules m z) (Made n) (record { slot = Made n; children = children; skip = skip })
stayed_as m z n children skip count no_skip = record {
  fits = λ i f. f;
  count = λ i f. count_is m z i n f.0 ∙ sym count;
  gone = λ i f. ([], sym no_skip, refl);
  same = refl;
}

none_below : (m : ModelParts) (z : ℤ) (i : Valued) (old closed : MadeNode) → IsMade m z i.item closed → child_count closed.form ≡ 0
    → made_children m i old ≡ made_children m i old ++ made_children m i closed
none_below m z i old closed is last =
    let none = nil_from_length (made_children m i closed) (count_is m z i closed is ∙ last) in
    sym (append-nil (made_children m i old)) ∙ ap (λ (js : List Valued). made_children m i old ++ js) (sym none)

closed_as : (m : ModelParts) (z : ℤ) (n closed : MadeNode) (children skip : ℕ) → ModelFits m → ¬ (StaysOpen z n) → IsClosing m n closed
    → children ≡ child_count n.form → skip ≡ child_count n.form
    → IsTestedAs (fit_rules m z) (Made n) (record { slot = Made closed; children = children; skip = skip })
closed_as m z n closed children skip fits above closing count all = record {
  fits = λ i f. (closing.stands z i.item fits f.1 above f.0, f.1);
  count = λ i f. count_is m z i n f.0 ∙ sym count;
  gone = λ i f. (made_children m i n, count_is m z i n f.0 ∙ sym all, none_below m z i n closed (closing.stands z i.item fits f.1 above f.0) closing.last);
  same = refl;
}

-- what holds of a test by its new slot
by_slot : (m : ModelParts) (z : ℤ) (old : Slot Valued MadeNode) (t : Tested OpenPlace MadeNode) (x : Slot OpenPlace MadeNode) → t.slot ≡ x
    → IsTestedAs (fit_rules m z) old (record { slot = slot_seen x; children = t.children; skip = t.skip }) → IsTestedAs (fit_rules m z) old (tested_seen t)
by_slot m z old t x is h =
    subst (λ (y : Slot OpenPlace MadeNode). IsTestedAs (fit_rules m z) old (record { slot = slot_seen y; children = t.children; skip = t.skip })) (sym is) h

node_as : (m : ModelParts) (z : ℤ) (n : MadeNode) (t : Tested OpenPlace MadeNode) → ModelFits m → t.children ≡ child_count n.form → HasStayed z n t ⊎ HasClosed m z n t
    → IsTestedAs (fit_rules m z) (Made n) (tested_seen t)
node_as m z n t fits count (inl h) = by_slot m z (Made n) t (Made n) h.slot (stayed_as m z n t.children t.skip count h.skip)
node_as m z n t fits count (inr h) = by_slot m z (Made n) t (Made h.closed) h.slot (closed_as m z n h.closed t.children t.skip fits h.above h.closing count h.skip)

retested_as : (m : ModelParts) (z : ℤ) (old : Slot OpenPlace MadeNode) (t : Tested OpenPlace MadeNode) → ModelFits m → IsRetested m z old t
    → IsTestedAs (fit_rules m z) (slot_seen old) (tested_seen t)
retested_as m z (Open p) t fits is = by_slot m z (Open (valued p)) t (Open p) is.slot (place_as m z (valued p) t.children t.skip is.children is.skip)
retested_as m z (Made n) t fits is = node_as m z n t fits is.children is.either

all_as : (m : ModelParts) (z : ℤ) (olds : List (Slot OpenPlace MadeNode)) (ts : List (Tested OpenPlace MadeNode)) → ModelFits m
    → AllZip (IsRetested m z) olds ts → AllZip (IsTestedAs (fit_rules m z)) (seen olds) (map tested_seen ts)
all_as m z [] [] fits zip = tt
all_as m z [] (t ∷ ts) fits zip = absurd zip
all_as m z (old ∷ olds) [] fits zip = absurd zip
all_as m z (old ∷ olds) (t ∷ ts) fits zip = (retested_as m z old t fits zip.0, all_as m z olds ts fits zip.1)

-- ---- what stays is a tree, with no more nodes
pub retest_tree : (m : ModelParts) (z : ℤ) (olds kept : List (Slot OpenPlace MadeNode)) (ts : List (Tested OpenPlace MadeNode)) → ModelFits m
    → AllZip (IsRetested m z) olds ts → IsPruned ts kept → Grows (with_open (made_rules m z)) (valued_root m ∷ []) (seen olds) []
    → Grows (with_open (made_rules m z)) (valued_root m ∷ []) (seen kept) [] × (length (mades kept) ≤ length (mades olds))
retest_tree m z olds kept ts fits zip is tree =
    let root = valued_root m in
    let fit = grows_under (made_rules m z) (FitsIn m) (children_fit_in m z fits) (root ∷ []) (seen olds) (all_one (FitsIn m) root (root_fits m fits)) tree in
    let law = prune_law (fit_rules m z) (root ∷ []) (seen olds) (seen kept) (map tested_seen ts)
    (ap (λ (xs : List (Slot OpenPlace MadeNode)). seen xs) is ∙ pruned_seen 0 ts) (all_as m z olds ts fits zip) fit in
    let few = law.1 in
    let old = ap (λ (ns : List MadeNode). length ns) (seen_mades olds) in
    let new = ap (λ (ns : List MadeNode). length ns) (seen_mades kept) in
    (weaken_law (fit_rules m z) (made_rules m z) (λ i n f. (f.0, refl)) (root ∷ []) (seen kept) law.0, omega (arith, few, old, new))

-- ---- what holds of each slot that stays
abbrev pub SlotStays : (OpenPlace → Type 0) → ℤ → Slot OpenPlace MadeNode → Type 0
SlotStays P z (Open p) = P p
SlotStays P z (Made n) = StaysOpen z n

node_stays : (m : ModelParts) (P : OpenPlace → Type 0) (z : ℤ) (n : MadeNode) (t : Tested OpenPlace MadeNode) → HasStayed z n t ⊎ HasClosed m z n t → SlotStays P z t.slot
node_stays m P z n t (inl h) = subst (SlotStays P z) (sym h.slot) h.below
node_stays m P z n t (inr h) = subst (SlotStays P z) (sym h.slot) (h.closing.stays z)

all_stay : (m : ModelParts) (P : OpenPlace → Type 0) (z : ℤ) (olds : List (Slot OpenPlace MadeNode)) (ts : List (Tested OpenPlace MadeNode))
    → AllZip (IsRetested m z) olds ts → All P (opens olds) → All (SlotStays P z) (map (λ t. t.slot) ts)
all_stay m P z [] [] zip all = All-nil (SlotStays P z)
all_stay m P z [] (t ∷ ts) zip all = absurd zip
all_stay m P z (old ∷ olds) [] zip all = absurd zip
all_stay m P z (Open p ∷ olds) (t ∷ ts) zip all =
    let slots : List (Slot OpenPlace MadeNode) = map (λ (u : Tested OpenPlace MadeNode). u.slot) ts in
    All-cons (SlotStays P z) t.slot slots (subst (SlotStays P z) (sym zip.0.slot) (All-head P p (opens olds) all))
    (all_stay m P z olds ts zip.1 (All-tail P p (opens olds) all))
all_stay m P z (Made n ∷ olds) (t ∷ ts) zip all =
    let slots : List (Slot OpenPlace MadeNode) = map (λ (u : Tested OpenPlace MadeNode). u.slot) ts in
    All-cons (SlotStays P z) t.slot slots (node_stays m P z n t zip.0.either) (all_stay m P z olds ts zip.1 all)

opens_stay : (P : OpenPlace → Type 0) (z : ℤ) (slots : List (Slot OpenPlace MadeNode)) → All (SlotStays P z) slots → All P (opens slots)
opens_stay P z [] all = All-nil P
opens_stay P z (Open p ∷ slots) all =
    All-cons P p (opens slots) (All-head (SlotStays P z) (Open p) slots all) (opens_stay P z slots (All-tail (SlotStays P z) (Open p) slots all))
opens_stay P z (Made n ∷ slots) all = opens_stay P z slots (All-tail (SlotStays P z) (Made n) slots all)

mades_stay : (P : OpenPlace → Type 0) (z : ℤ) (slots : List (Slot OpenPlace MadeNode)) → All (SlotStays P z) slots → All (StaysOpen z) (mades slots)
mades_stay P z [] all = All-nil (StaysOpen z)
mades_stay P z (Open p ∷ slots) all = mades_stay P z slots (All-tail (SlotStays P z) (Open p) slots all)
mades_stay P z (Made n ∷ slots) all =
    All-cons (StaysOpen z) n (mades slots) (All-head (SlotStays P z) (Made n) slots all) (mades_stay P z slots (All-tail (SlotStays P z) (Made n) slots all))

-- what holds of each open place before holds of those that stay
pub opens_kept : (m : ModelParts) (P : OpenPlace → Type 0) (z : ℤ) (olds kept : List (Slot OpenPlace MadeNode)) (ts : List (Tested OpenPlace MadeNode))
    → AllZip (IsRetested m z) olds ts → IsPruned ts kept → All P (opens olds) → All P (opens kept)
opens_kept m P z olds kept ts zip is all = opens_stay P z kept (prune_all (SlotStays P z) kept ts is (all_stay m P z olds ts zip all))

-- ---- a search after its test
pub retests : (m : ModelParts) (s new : Search) (ts : List (Tested OpenPlace MadeNode)) → ModelFits m → IsSearch m s
    → AllZip (IsRetested m s.z) (slots_in s) ts → IsPruned ts (slots_in new) → new.z ≡ s.z → new.best ≡ s.best → IsSearch m new
retests m s new ts fits is zip kept z best =
    let slots = slots_in new in
    let stay = prune_all (SlotStays (IsOpenIn m) s.z) slots ts kept (all_stay m (IsOpenIn m) s.z (slots_in s) ts zip is.fit) in
    record {
      tree = subst (λ (y : ℤ). Grows (with_open (made_rules m y)) (valued_root m ∷ []) (seen slots) []) (sym z)
          (retest_tree m s.z (slots_in s) slots ts fits zip kept is.tree).0;
      better = subst (λ (y : ℤ). IsBetter m (cost_above_all m) new.best y) (sym z)
          (subst (λ (b : Option Plan). IsBetter m (cost_above_all m) b s.z) (sym best) is.better);
      fit = opens_stay (IsOpenIn m) s.z slots stay;
      tested = λ t. subst (λ (y : ℤ). All (StaysOpen y) (mades slots)) (sym z) (mades_stay (IsOpenIn m) s.z slots stay);
    }

-- ---- two trees at most stand below a node
child_few : (form : NodeForm) → child_count form ≤ 2
child_few (node.Split split proof) = omega arith
child_few (node.Close p) = omega arith
child_few (node.Fix p arcs) = omega arith
child_few (node.List p tries) = omega arith
child_few (node.CountSplit i d) = omega arith
child_few (node.CountClose mult) = omega arith
child_few node.Point = omega arith

few_skipped : (m : ModelParts) (z : ℤ) (n : MadeNode) (t : Tested OpenPlace MadeNode) → HasStayed z n t ⊎ HasClosed m z n t → t.skip ≤ 2
few_skipped m z n t (inl h) = let skip = h.skip in omega (arith, skip)
few_skipped m z n t (inr h) = let skip = h.skip in let few = child_few n.form in omega (arith, skip, few)

retested_small : (m : ModelParts) (z : ℤ) (old : Slot OpenPlace MadeNode) (t : Tested OpenPlace MadeNode) → IsRetested m z old t → IsSmall t
retested_small m z (Open p) t is = let children = is.children in let skip = is.skip in record { children = omega (arith, children); skip = omega (arith, skip) }
retested_small m z (Made n) t is =
    let children = is.children in
    let few = child_few n.form in
    record { children = omega (arith, children, few); skip = few_skipped m z n t is.either }

pub all_small : (m : ModelParts) (z : ℤ) (olds : List (Slot OpenPlace MadeNode)) (ts : List (Tested OpenPlace MadeNode)) → AllZip (IsRetested m z) olds ts → All IsSmall ts
all_small m z [] [] zip = All-nil IsSmall
all_small m z [] (t ∷ ts) zip = absurd zip
all_small m z (old ∷ olds) [] zip = absurd zip
all_small m z (old ∷ olds) (t ∷ ts) zip = All-cons IsSmall t ts (retested_small m z old t zip.0) (all_small m z olds ts zip.1)
