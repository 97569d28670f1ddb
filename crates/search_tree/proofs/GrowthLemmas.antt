-- Trees whose items and nodes are read as others, and what holds of all of them.
use Rattle.std.proofs.Common.{◌≡◌, List, [], ◌∷◌, ◌++◌, All, map, reverse, sym, ap, subst, ◌∙◌}
use Rattle.std.proofs.lemmas.List.{map-append, reverse-append}
use Rattle.std.proofs.lemmas.List.Elements.{All-append, All-cons, All-head, All-nil, All-push, All-tail}
use Rattle.proof_rules.specs.Grows.{Grows, Rules}
use Rattle.open_tree.specs.Open.{with_open}
use Rattle.open_tree.specs.declared.slots.Slot.{Slot}
use Rattle.open_tree.specs.declared.slots.Slot.TheVariants.{Made, Open}

-- items and nodes are read as others
pub grows_read : {I J N M : Type 0} (r : Rules I N) (s : Rules J M) (f : I → J) (g : N → M)
    → ((i : I) (n : N) → r.Fits i n → s.Fits (f i) (g n) × (map f (r.children i n) ≡ s.children (f i) (g n)))
    → (is js : List I) (ns : List N) → Grows r is ns js → Grows s (map f is) (map g ns) (map f js)
grows_read r s f g step is js [] t = ap (map f) t
grows_read r s f g step [] js (n ∷ ns) t = absurd t
grows_read {I} {J} {N} {M} r s f g step (i ∷ is) js (n ∷ ns) t =
    let fits = step i n t.0 in
    let rest = grows_read r s f g step (r.children i n ++ is) js ns t.1 in
    let same : map f (r.children i n ++ is) ≡ s.children (f i) (g n) ++ map f is =
    map-append f (r.children i n) is ∙ ap (λ (ks : List J). ks ++ map f is) fits.1 in
    (fits.0, subst (λ (ks : List J). Grows s ks (map g ns) (map f js)) same rest)

-- what holds of each node where it stands
pub grows_nodes : {I N : Type 0} (r : Rules I N) (Q : N → Type 0) → ((i : I) (n : N) → r.Fits i n → Q n)
    → (is js : List I) (ns : List N) → Grows r is ns js → All Q ns
grows_nodes r Q step is js [] t = All-nil Q
grows_nodes r Q step [] js (n ∷ ns) t = absurd t
grows_nodes r Q step (i ∷ is) js (n ∷ ns) t =
    All-cons Q n ns (step i n t.0) (grows_nodes r Q step (r.children i n ++ is) js ns t.1)

-- rules that also ask what holds of the item
abbrev pub under : {I N : Type 0} → (I → Type 0) → Rules I N → Rules I N
under P r = record { Fits = λ i n. r.Fits i n × P i; children = r.children }

-- what holds of items and of each item below them holds of each item where a node stands
pub grows_under : {I N : Type 0} (r : Rules I N) (P : I → Type 0)
    → ((i : I) (n : N) → P i → r.Fits i n → All P (r.children i n))
    → (is : List I) (slots : List (Slot I N)) → All P is → Grows (with_open r) is slots []
    → Grows (with_open (under P r)) is slots []
grows_under r P step is [] all t = t
grows_under r P step [] (x ∷ slots) all t = absurd t
grows_under r P step (i ∷ is) (Open j ∷ slots) all t =
    (t.0, grows_under r P step is slots (All-tail P i is all) t.1)
grows_under r P step (i ∷ is) (Made n ∷ slots) all t =
    let below = step i n (All-head P i is all) t.0 in
    ((t.0, All-head P i is all), grows_under r P step (r.children i n ++ is) slots (All-append P (r.children i n) is below (All-tail P i is all)) t.1)

-- ---- lists
pub all_reverse : {X : Type 0} (P : X → Type 0) (xs : List X) → All P xs → All P (reverse xs)
all_reverse P [] all = All-nil P
all_reverse {X} P (x ∷ xs) all =
    subst (λ (ys : List X). All P ys) (sym (reverse-append (x ∷ []) xs))
    (All-push P (reverse xs) x (all_reverse P xs (All-tail P x xs all)) (All-head P x xs all))

pub all_without : {X : Type 0} (P : X → Type 0) (x : X) (xs ys : List X) → All P (xs ++ (x ∷ ys)) → All P (xs ++ ys)
all_without P x [] ys all = All-tail P x ys all
all_without P x (y ∷ xs) ys all =
    All-cons P y (xs ++ ys) (All-head P y (xs ++ (x ∷ ys)) all) (all_without P x xs ys (All-tail P y (xs ++ (x ∷ ys)) all))

pub all_one : {X : Type 0} (P : X → Type 0) (x : X) → P x → All P (x ∷ [])
all_one P x h = All-cons P x [] h (All-nil P)
