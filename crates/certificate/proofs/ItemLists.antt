-- Lists that grow at their end, and the items of a certificate as lists of these.
use Rattle.std.proofs.Common.{◌≡◌, ◌-◌, inl, inr, List, [], ◌∷◌, ◌++◌, length, map, refl, ap, subst, sym, ◌∙◌, append_assoc, append-nil, arith}
use Rattle.std.specs.Prelude.{◌⊎◌, All, slice_index_or, slice_set}
use Rattle.std.specs.List.{flat_map}
use Rattle.std.proofs.lemmas.List.{length-append, map-append, set-append_right}
use Rattle.std.proofs.lemmas.List.Concat.{flat_map-append}
use Rattle.std.proofs.lemmas.List.Elements.{All-nil, All-cons, All-head, All-tail}
use Rattle.std.proofs.Math.Seq.{get_or-append_seam}
use Rattle.line_text.specs.Items.{EachAfter}
use Rattle.certificate.specs.Draft.{last_or, with_last}

-- one more at the end
pub push_behind : {A : Type 0} (a rest more : List A) (x : A) → more ≡ rest ++ x ∷ [] → a ++ more ≡ (a ++ rest) ++ x ∷ []
push_behind a rest more x e = ap (λ r. a ++ r) e ∙ sym (append_assoc a rest (x ∷ []))

pub push_here : {A : Type 0} (a more rest after : List A) (x : A) → more ≡ a ++ x ∷ [] → rest ≡ [] → after ≡ [] → more ++ after ≡ (a ++ rest) ++ x ∷ []
push_here a more rest after x e none still = rw (e, none, still) (append-nil (a ++ x ∷ []) ∙ ap (λ r. r ++ x ∷ []) (sym (append-nil a)))

pub map_push : {A B : Type 0} (f : A → B) (xs : List A) (x : A) → map f (xs ++ x ∷ []) ≡ map f xs ++ f x ∷ []
map_push f xs x = map-append f xs (x ∷ [])

pub flat_push : {A B : Type 0} (f : A → List B) (xs : List A) (x : A) (y : B) → f x ≡ y ∷ [] → flat_map f (xs ++ x ∷ []) ≡ flat_map f xs ++ y ∷ []
flat_push f xs x y e = flat_map-append f xs (x ∷ []) ∙ ap (λ r. flat_map f xs ++ r) (append-nil (f x) ∙ e)

pub flat_grows : {A B : Type 0} (f : A → List B) (xs : List A) (old new : A) (y : B) → f new ≡ f old ++ y ∷ [] → flat_map f (xs ++ new ∷ []) ≡ flat_map f (xs ++ old ∷ []) ++ y ∷ []
flat_grows f xs old new y e =
    flat_map-append f xs (new ∷ [])
    ∙ (ap (λ r. flat_map f xs ++ (r ++ [])) e
    ∙ (ap (λ r. flat_map f xs ++ r) (append-nil (f old ++ y ∷ []))
    ∙ (sym (append_assoc (flat_map f xs) (f old) (y ∷ []))
    ∙ ap (λ r. r ++ y ∷ []) (ap (λ r. flat_map f xs ++ r) (sym (append-nil (f old))) ∙ sym (flat_map-append f xs (old ∷ []))))))

-- the last of a list
pub record Ends {A : Type 0} (xs : List A) : Type 0 where
  pub front : List A
  pub last : A
  pub is : xs ≡ front ++ last ∷ []

pub ends : {A : Type 0} (xs : List A) → (xs ≡ []) ⊎ Ends xs
ends [] = inl refl
ends {A} (x ∷ xs) = inr (more x xs)
  where
    more : (x : A) (xs : List A) → Ends (x ∷ xs)
    more x [] = record { front = []; last = x; is = refl }
    more x (y ∷ ys) = let rest = more y ys in record { front = x ∷ rest.front; last = rest.last; is = ap (λ zs. x ∷ zs) rest.is }

last_place : {A : Type 0} (front : List A) (x : A) → length (front ++ x ∷ []) - 1 ≡ length front
last_place front x = let size = length-append front (x ∷ []) in omega (arith, size)

pub last_is : {A : Type 0} (other : A) (xs front : List A) (x : A) → xs ≡ front ++ x ∷ [] → last_or other xs ≡ x
last_is other xs front x e =
    ap (last_or other) e ∙ (ap (λ k. slice_index_or (front ++ x ∷ []) k other) (last_place front x) ∙ get_or-append_seam front x [] other)

pub last_set : {A : Type 0} (xs front : List A) (x y : A) → xs ≡ front ++ x ∷ [] → with_last xs y ≡ front ++ y ∷ []
last_set xs front x y e =
    let none : length front - length front ≡ 0 = omega arith in
    ap (λ zs. with_last zs y) e
    ∙ (ap (λ k. slice_set (front ++ x ∷ []) k y) (last_place front x)
    ∙ (set-append_right front (x ∷ []) (length front) (length front) y refl (omega arith)
    ∙ ap (λ k. front ++ slice_set (x ∷ []) k y) none))

-- a condition of each thing after those before it
pub each_push : {A : Type 0} (P : List A → A → Type 0) (before xs : List A) (x : A) → EachAfter P before xs → P (before ++ xs) x → EachAfter P before (xs ++ x ∷ [])
each_push P before [] x each h = (subst (λ ys. P ys x) (append-nil before) h, tt)
each_push P before (y ∷ ys) x each h = (each.0, each_push P (before ++ y ∷ []) ys x each.1 (subst (λ zs. P zs x) (sym (append_assoc before (y ∷ []) ys)) h))

-- all but the last, and the last
pub all_front : {A : Type 0} (P : A → Type 0) (front : List A) (x : A) → All P (front ++ x ∷ []) → All P front
all_front P [] x all = All-nil P
all_front P (y ∷ front) x all = All-cons P y front (All-head P y (front ++ x ∷ []) all) (all_front P front x (All-tail P y (front ++ x ∷ []) all))

pub all_last : {A : Type 0} (P : A → Type 0) (front : List A) (x : A) → All P (front ++ x ∷ []) → P x
all_last P [] x all = All-head P x [] all
all_last P (y ∷ front) x all = all_last P front x (All-tail P y (front ++ x ∷ []) all)
