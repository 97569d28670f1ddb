-- Different elements that a list contains: they are no more than the list, also by a product.
use Rattle.std.proofs.Common.{◌≡◌, ◌≢◌, ℕ, zero, suc, ◌*◌, ◌<◌, ◌≤◌, List, [], ◌∷◌, length, get_or, All, refl, sym, ◌∙◌, ap, arith}
use Rattle.std.specs.Prelude.{Contains, slice_set}
use Rattle.std.specs.List.{AllPairs}
use Rattle.std.proofs.Math.Nat.{mul-le-mul_left, one-le-mul}
use Rattle.std.proofs.lemmas.List.Elements.{All-head, All-tail}
use Rattle.search_rules.specs.Completeness.{product_by}

-- a list without one of its elements
abbrev pub without : {X : Type 0} → List X → ℕ → List X
without [] k = []
without (x ∷ xs) zero = xs
without (x ∷ xs) (suc k) = x ∷ without xs k

without_size : {X : Type 0} (xs : List X) (k : ℕ) → k < length xs → length xs ≡ suc (length (without xs k))
without_size [] k l = absurd (omega (arith, l))
without_size (x ∷ xs) zero l = refl
without_size (x ∷ xs) (suc k) l = ap suc (without_size xs k (omega (arith, l)))

swapped : (a b c r : ℕ) → c ≡ b * r → a * c ≡ b * (a * r)
swapped a b c r e = let same = ap (λ (n : ℕ). a * n) e in omega (arith, same)

pub product_without : {X : Type 0} (f : X → ℕ) (xs : List X) (k : ℕ) (d : X) → k < length xs → product_by f xs ≡ f (get_or xs k d) * product_by f (without xs k)
product_without f [] k d l = absurd (omega (arith, l))
product_without f (x ∷ xs) zero d l = refl
product_without f (x ∷ xs) (suc k) d l =
    swapped (f x) (f (get_or xs k d)) (product_by f xs) (product_by f (without xs k)) (product_without f xs k d (omega (arith, l)))

pub product_set : {X : Type 0} (f : X → ℕ) (xs : List X) (k : ℕ) (y : X) → k < length xs → product_by f (slice_set xs k y) ≡ f y * product_by f (without xs k)
product_set f [] k y l = absurd (omega (arith, l))
product_set f (x ∷ xs) zero y l = refl
product_set f (x ∷ xs) (suc k) y l =
    swapped (f x) (f y) (product_by f (slice_set xs k y)) (product_by f (without xs k)) (product_set f xs k y (omega (arith, l)))

-- a product is positive where each factor is
pub product_positive : {X : Type 0} (f : X → ℕ) (xs : List X) → All (λ x. 1 ≤ f x) xs → 1 ≤ product_by f xs
product_positive f [] each = omega arith
product_positive f (x ∷ xs) each =
    one-le-mul (All-head (λ y. 1 ≤ f y) x xs each) (product_positive f xs (All-tail (λ y. 1 ≤ f y) x xs each))

-- an element other than the one left out is still there
still_there : {X : Type 0} (xs : List X) (k j : ℕ) (x y : X) → get_or xs k x ≡ x → x ≢ y → k < length xs → j < length xs → get_or xs j y ≡ y → Contains (without xs k) y
still_there [] k j x y is other l m e = absurd (omega (arith, m))
still_there (w ∷ xs) zero zero x y is other l m e = absurd (other (sym is ∙ e))
still_there (w ∷ xs) zero (suc j) x y is other l m e = (j, omega (arith, m), e)
still_there (w ∷ xs) (suc k) zero x y is other l m e = (0, omega arith, e)
still_there (w ∷ xs) (suc k) (suc j) x y is other l m e =
    let more = still_there xs k j x y is other (omega (arith, l)) (omega (arith, m)) e in
    (suc more.0, omega (arith, more.1), more.2)

rest_there : {X : Type 0} (x : X) (xs ys : List X) (at : Contains ys x) → AllPairs (λ a b. a ≢ b) (x ∷ xs) → All (Contains ys) (x ∷ xs) → All (Contains (without ys at.0)) xs
rest_there x xs ys at differ there i d l =
    let h = there (suc i) d (omega (arith, l)) in
    still_there ys at.0 h.0 x (get_or xs i d) at.2 (differ 0 (suc i) d (omega arith) (omega (arith, l))) at.1 h.1 h.2

rest_differ : {X : Type 0} (x : X) (xs : List X) → AllPairs (λ a b. a ≢ b) (x ∷ xs) → AllPairs (λ a b. a ≢ b) xs
rest_differ x xs differ i j d less l = differ (suc i) (suc j) d (omega (arith, less)) (omega (arith, l))

-- different elements of a list are no more than it has
pub differ_within : {X : Type 0} (xs ys : List X) → AllPairs (λ a b. a ≢ b) xs → All (Contains ys) xs → length xs ≤ length ys
differ_within [] ys differ there = omega arith
differ_within (x ∷ xs) ys differ there =
    let at = All-head (Contains ys) x xs there in
    let size = without_size ys at.0 at.1 in
    let more = differ_within xs (without ys at.0) (rest_differ x xs differ) (rest_there x xs ys at differ there) in
    omega (arith, size, more)

-- and their product is no more than that of the list
pub product_within : {X : Type 0} (f : X → ℕ) (xs ys : List X) → ((x : X) → 1 ≤ f x) → AllPairs (λ a b. a ≢ b) xs → All (Contains ys) xs → product_by f xs ≤ product_by f ys
product_within f [] ys positive differ there = product_positive f ys (λ i d l. positive (get_or ys i d))
product_within {X} f (x ∷ xs) ys positive differ there =
    let at = All-head (Contains ys) x xs there in
    let whole : product_by f ys ≡ f x * product_by f (without ys at.0) =
    product_without f ys at.0 x at.1 ∙ ap (λ (y : X). f y * product_by f (without ys at.0)) at.2 in
    let more = product_within f xs (without ys at.0) positive (rest_differ x xs differ) (rest_there x xs ys at differ there) in
    let scaled : f x * product_by f xs ≤ f x * product_by f (without ys at.0) = mul-le-mul_left (f x) more in
    omega (arith, whole, scaled)
