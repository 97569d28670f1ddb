-- What a pass of tests leaves of a tree with open places.
use Rattle.std.proofs.Common.{◌≡◌, ℕ, suc, zero, ◌+◌, ◌≤◌, List, [], ◌∷◌, ◌++◌, All, length, length-append, map, sym, ap, subst, ◌∙◌, append_assoc, arith}
use Rattle.std.specs.List.{AllZip}
use Rattle.std.proofs.lemmas.List.{append-nil}
use Rattle.std.proofs.lemmas.List.Elements.{All-nil, All-cons, All-head, All-tail}
use Rattle.proof_rules.specs.Grows.{Rules, Grows}
use Rattle.open_tree.specs.Open.{with_open, mades}
use Rattle.open_tree.specs.Cuts.{Cuts}
use Rattle.open_tree.specs.Slots.{IsTestedAs, IsPruned, pruned}
use Rattle.open_tree.specs.declared.slots.Slot.{Slot}
use Rattle.open_tree.specs.declared.pruning.Tested.{Tested}
use Rattle.open_tree.proofs.OpenLaws.{mades_append}
use Rattle.open_tree.proofs.CutsLaws.{cuts_start, cuts_take, cuts_skip, cuts_end}

-- ---- what is kept so far, and what of the rest will stay
cuts_pruned : {I N : Type 0} (r : Rules I N) (top : List I) (out olds : List (Slot I N)) (tested : List (Tested I N)) (skip : ℕ)
    → AllZip (IsTestedAs r) olds tested → Cuts (with_open r) top out olds skip → Grows (with_open r) top (out ++ pruned skip tested) []
cuts_pruned {I} {N} r top out [] [] skip zip c =
    subst (λ (s : List (Slot I N)). Grows (with_open r) top s []) (sym (append-nil out)) (cuts_end (with_open r) top out skip c)
cuts_pruned r top out [] (t ∷ tested) skip zip c = absurd zip
cuts_pruned r top out (old ∷ olds) [] skip zip c = absurd zip
cuts_pruned {I} {N} r top out (old ∷ olds) (t ∷ tested) zero zip c =
    let one = zip.0 in
    let next = cuts_take (with_open r) top out olds old t.slot t.skip
    (λ i f. (one.fits i f, (one.gone i f).0, (one.gone i f).1, (one.gone i f).2)) c in
    subst (λ (s : List (Slot I N)). Grows (with_open r) top s []) (append_assoc out (t.slot ∷ []) (pruned t.skip tested))
    (cuts_pruned r top (out ++ t.slot ∷ []) olds tested t.skip zip.1 next)
cuts_pruned {I} {N} r top out (old ∷ olds) (t ∷ tested) (suc skip) zip c =
    let next = cuts_skip (with_open r) top out olds old skip t.children zip.0.count c in
    let sum : t.children + skip ≡ skip + t.children = omega arith in
    cuts_pruned r top out olds tested (skip + t.children) zip.1
    (subst (λ (n : ℕ). Cuts (with_open r) top out olds n) sum next)

-- where each slot is tested, what stays is a tree again
pub prune_grows : {I N : Type 0} (r : Rules I N) (top : List I) (olds kept : List (Slot I N)) (tested : List (Tested I N))
    → IsPruned tested kept → AllZip (IsTestedAs r) olds tested → Grows (with_open r) top olds [] → Grows (with_open r) top kept []
prune_grows {I} {N} r top olds kept tested is zip g =
    subst (λ (s : List (Slot I N)). Grows (with_open r) top s []) (sym is)
    (cuts_pruned r top [] olds tested 0 zip (cuts_start (with_open r) top olds g))

pruned_all : {I N : Type 0} (P : Slot I N → Type 0) (skip : ℕ) (tested : List (Tested I N))
    → All P (map (λ t. t.slot) tested) → All P (pruned skip tested)
pruned_all P skip [] all = All-nil P
pruned_all {I} {N} P zero (t ∷ tested) all =
    let slots : List (Slot I N) = map (λ (u : Tested I N). u.slot) tested in
    All-cons P t.slot (pruned t.skip tested) (All-head P t.slot slots all) (pruned_all P t.skip tested (All-tail P t.slot slots all))
pruned_all {I} {N} P (suc skip) (t ∷ tested) all =
    let slots : List (Slot I N) = map (λ (u : Tested I N). u.slot) tested in
    pruned_all P (skip + t.children) tested (All-tail P t.slot slots all)

-- what holds of each tested slot holds of those that stay
pub prune_all : {I N : Type 0} (P : Slot I N → Type 0) (kept : List (Slot I N)) (tested : List (Tested I N))
    → IsPruned tested kept → All P (map (λ t. t.slot) tested) → All P kept
prune_all {I} {N} P kept tested is all = subst (λ (s : List (Slot I N)). All P s) (sym is) (pruned_all P 0 tested all)

mades_cons : {I N : Type 0} (x : Slot I N) (slots : List (Slot I N)) → length (mades (x ∷ slots)) ≡ length (mades (x ∷ [])) + length (mades slots)
mades_cons {I} {N} x slots = ap (λ (ns : List N). length ns) (mades_append (x ∷ []) slots) ∙ length-append (mades (x ∷ [])) (mades slots)

pruned_fewer : {I N : Type 0} (skip : ℕ) (tested : List (Tested I N))
    → length (mades (pruned skip tested)) ≤ length (mades (map (λ t. t.slot) tested))
pruned_fewer skip [] = omega arith
pruned_fewer {I} {N} zero (t ∷ tested) =
    let slots : List (Slot I N) = map (λ (u : Tested I N). u.slot) tested in
    let kept = mades_cons t.slot (pruned t.skip tested) in
    let all = mades_cons t.slot slots in
    let rest = pruned_fewer t.skip tested in
    omega (arith, kept, all, rest)
pruned_fewer {I} {N} (suc skip) (t ∷ tested) =
    let slots : List (Slot I N) = map (λ (u : Tested I N). u.slot) tested in
    let all = mades_cons t.slot slots in
    let rest = pruned_fewer (skip + t.children) tested in
    omega (arith, all, rest)

-- no more nodes are made than before
pub prune_fewer : {I N : Type 0} (kept : List (Slot I N)) (tested : List (Tested I N))
    → IsPruned tested kept → length (mades kept) ≤ length (mades (map (λ t. t.slot) tested))
prune_fewer {I} {N} kept tested is =
    subst (λ (s : List (Slot I N)). length (mades s) ≤ length (mades (map (λ (t : Tested I N). t.slot) tested))) (sym is) (pruned_fewer 0 tested)

-- a test makes and unmakes no node
pub tested_mades : {I N : Type 0} (r : Rules I N) (olds : List (Slot I N)) (tested : List (Tested I N))
    → AllZip (IsTestedAs r) olds tested → length (mades (map (λ t. t.slot) tested)) ≡ length (mades olds)
tested_mades r [] [] zip = omega arith
tested_mades r [] (t ∷ tested) zip = absurd zip
tested_mades r (old ∷ olds) [] zip = absurd zip
tested_mades {I} {N} r (old ∷ olds) (t ∷ tested) zip =
    let slots : List (Slot I N) = map (λ (u : Tested I N). u.slot) tested in
    let new = mades_cons t.slot slots in
    let was = mades_cons old olds in
    let rest = tested_mades r olds tested zip.1 in
    let one = zip.0.same in
    omega (arith, new, was, rest, one)
