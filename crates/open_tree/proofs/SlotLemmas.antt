-- The loops over the slots of a tree.
use Rattle.std.proofs.Common.{◌≡◌, ℕ, ◌+◌, ◌<◌, List, [], ◌∷◌, ◌++◌, length, take, get_or, map, reverse, sym, ap, ◌∙◌, length-append}
use Rattle.std.proofs.lemmas.List.{take_more, append-nil}
use Rattle.open_tree.specs.Open.{opens, mades, slots_of}
use Rattle.open_tree.specs.Slots.{pruned}
use Rattle.open_tree.specs.declared.pruning.Tested.{Tested}
use Rattle.open_tree.specs.declared.slots.Slot.{Slot}
use Rattle.open_tree.specs.declared.slots.Slot.TheVariants.{Open, Made}
use Rattle.open_tree.proofs.OpenLaws.{opens_append, mades_append, slots_then}

-- one slot more is read
take_one : {X : Type 0} (xs : List X) (k : ℕ) (x : X) → k < length xs → x ≡ get_or xs k x → take (k + 1) xs ≡ take k xs ++ x ∷ []
take_one {X} xs k x h same = take_more xs k x h ∙ ap (λ (y : X). take k xs ++ y ∷ []) (sym same)

pub opens_at_made : {I N : Type 0} (slots : List (Slot I N)) (k : ℕ) (x : Slot I N) (n : N) → k < length slots
    → x ≡ get_or slots k x → x ≡ Made n → opens (take (k + 1) slots) ≡ opens (take k slots)
opens_at_made {I} {N} slots k x n h same made =
    ap (λ (s : List (Slot I N)). opens s) (take_one slots k x h same) ∙ (opens_append (take k slots) (x ∷ [])
    ∙ (ap (λ (s : Slot I N). opens (take k slots) ++ opens (s ∷ [])) made ∙ append-nil (opens (take k slots))))

pub made_count_at : {I N : Type 0} (slots : List (Slot I N)) (k : ℕ) (x : Slot I N) → k < length slots
    → x ≡ get_or slots k x → length (mades (take (k + 1) slots)) ≡ length (mades (take k slots)) + length (mades (x ∷ []))
made_count_at {I} {N} slots k x h same =
    ap (λ (s : List (Slot I N)). length (mades s)) (take_one slots k x h same)
    ∙ (ap (λ (ns : List N). length ns) (mades_append (take k slots) (x ∷ [])) ∙ length-append (mades (take k slots)) (mades (x ∷ [])))

pub made_one : {I N : Type 0} (x : Slot I N) (n : N) → x ≡ Made n → length (mades (x ∷ [])) ≡ 1
made_one {I} {N} x n made = ap (λ (s : Slot I N). length (mades (s ∷ []))) made

pub made_none : {I N : Type 0} (x : Slot I N) (i : I) → x ≡ Open i → length (mades (x ∷ [])) ≡ 0
made_none {I} {N} x i is_open = ap (λ (s : Slot I N). length (mades (s ∷ []))) is_open

pub mades_push : {I N : Type 0} (slots : List (Slot I N)) (x : Slot I N) (n : N) → x ≡ Made n
    → mades (slots ++ x ∷ []) ≡ mades slots ++ n ∷ []
mades_push {I} {N} slots x n made =
    mades_append slots (x ∷ []) ∙ ap (λ (s : Slot I N). mades slots ++ mades (s ∷ [])) made

pub mades_skip : {I N : Type 0} (slots : List (Slot I N)) (x : Slot I N) (i : I) → x ≡ Open i
    → mades (slots ++ x ∷ []) ≡ mades slots
mades_skip {I} {N} slots x i is_open =
    mades_append slots (x ∷ []) ∙ (ap (λ (s : Slot I N). mades slots ++ mades (s ∷ [])) is_open ∙ append-nil (mades slots))

-- nodes, and behind them the items of a list that was emptied from its end
pub tree_ends : {I N : Type 0} (mid end : List (Slot I N)) (nodes : List N) (rest last : List I) → mid ≡ slots_of nodes []
    → end ++ map (λ i. Open i) (reverse last) ≡ mid ++ map (λ i. Open i) (reverse rest) → last ≡ []
    → end ≡ slots_of nodes (reverse rest)
tree_ends {I} {N} mid end nodes rest last made same none =
    let opened : List (Slot I N) = map (λ (i : I). Open i) (reverse rest) in
    sym (append-nil end) ∙ (ap (λ (s : List I). end ++ map (λ i. Open i) (reverse s)) (sym none)
    ∙ (same ∙ (ap (λ (s : List (Slot I N)). s ++ opened) made ∙ sym (slots_then nodes (reverse rest)))))

-- one tested slot more is read
pub prune_next : {I N : Type 0} (all now ahead : List (Tested I N)) (one : Tested I N) (kept new : List (Slot I N)) (skip next : ℕ)
    → pruned 0 all ≡ kept ++ pruned skip now → now ≡ one ∷ ahead
    → ((more : List (Tested I N)) → kept ++ pruned skip (one ∷ more) ≡ new ++ pruned next more)
    → pruned 0 all ≡ new ++ pruned next ahead
prune_next {I} {N} all now ahead one kept new skip next same is step =
    same ∙ (ap (λ (ts : List (Tested I N)). kept ++ pruned skip ts) is ∙ step ahead)

pub prune_ends : {I N : Type 0} (all now : List (Tested I N)) (kept : List (Slot I N)) (skip : ℕ)
    → pruned 0 all ≡ kept ++ pruned skip now → now ≡ [] → kept ≡ pruned 0 all
prune_ends {I} {N} all now kept skip same none =
    sym (same ∙ (ap (λ (ts : List (Tested I N)). kept ++ pruned skip ts) none ∙ append-nil kept))
