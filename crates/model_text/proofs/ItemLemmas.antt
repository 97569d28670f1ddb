-- What holds of each item of joined lists and of pairs.
use Rattle.std.proofs.Common.{ℕ, ◌<◌, List, [], ◌∷◌, length, get_or, subst, sym, arith}
use Rattle.std.specs.Prelude.{All}
use Rattle.std.specs.List.{flat_map, zip}
use Rattle.std.proofs.lemmas.List.Elements.{All-nil, All-head, All-tail, All-append}
use Rattle.std.proofs.lemmas.Slice.Zip.{length-zip, get_or-zip}

pub All-flat_map : {X A : Type 0} (P : A → Type 0) (f : X → List A) (xs : List X) → All (λ x. All P (f x)) xs → All P (flat_map f xs)
All-flat_map P f [] all = All-nil P
All-flat_map P f (x ∷ xs) all =
    All-append P (f x) (flat_map f xs) (All-head (λ x. All P (f x)) x xs all) (All-flat_map P f xs (All-tail (λ x. All P (f x)) x xs all))

pub All-zip : {X Y : Type 0} (P : X × Y → Type 0) (xs : List X) (ys : List Y) → ((k : ℕ) (x : X) (y : Y) → k < length xs → k < length ys → P (get_or xs k x, get_or ys k y)) → All P (zip xs ys)
All-zip P xs ys each k d below =
    let size = length-zip xs ys in
    let left : k < length xs = omega (arith, size, below) in
    let right : k < length ys = omega (arith, size, below) in
    subst P (sym (get_or-zip xs ys k d left right)) (each k d.0 d.1 left right)
