-- Lists of bytes, and the parts of them that calls took or wrote.
use Rattle.std.proofs.Common.{◌≡◌, ℕ, ◌+◌, ◌-◌, ◌<◌, min, List, [], ◌++◌, length, take, drop, Option, arith, length-drop, append_assoc, sym, ◌∙◌, ap}
use Rattle.std.proofs.Math.ListN.{drop_of_length-le}
use Rattle.std.proofs.lemmas.List.{take-append-drop, drop-drop, take_all}
use Rattle.std.specs.Io.KnownBytes.{Appends}
use Rattle.std.proofs.KnownBytes.{Appends-trans}

-- `&xs[at..]` is what is left from a place on
pub take-drop : (xs : List ℕ) (at : ℕ) → take (length xs - at) (drop at xs) ≡ drop at xs
take-drop xs at = take_all (length xs - at) (drop at xs) (omega (arith, length-drop at xs))

-- what was left is the front that a read took, and what is left now
pub drop-split : (bytes front : List ℕ) (at n : ℕ) → take n front ≡ take n (take (length bytes - at) (drop at bytes)) → drop at bytes ≡ take n front ++ drop (at + n) bytes
drop-split bytes front at n e =
    let same : take n front ≡ take n (drop at bytes) = e ∙ ap (take n) (take-drop bytes at) in
    sym (take-append-drop n (drop at bytes)) ∙ (ap (λ (xs : List ℕ). xs ++ drop n (drop at bytes)) (sym same) ∙ ap (λ (xs : List ℕ). take n front ++ xs) (drop-drop n at bytes))

-- a read that has room and gives nothing leaves nothing
pub drop_at_end : (bytes : List ℕ) (at n piece room : ℕ) → n ≡ min piece (min room (length (take (length bytes - at) (drop at bytes)))) → 0 < piece → n ≡ 0 → 0 < room → drop (at + n) bytes ≡ []
drop_at_end bytes at n piece room count positive none space =
    drop_of_length-le bytes (omega (arith, length-drop at bytes, ap length (take-drop bytes at)))

-- what was written before, and the front of what was left
pub wrote_more : (a b c : Option (List ℕ)) (all front rest : List ℕ) (n : ℕ) → all ≡ front ++ rest → Appends a b front → Appends b c (take n rest) → (x : List ℕ) × (all ≡ x ++ take (length rest - n) (drop n rest)) × Appends a c x
wrote_more a b c all front rest n e h more =
    let same : all ≡ (front ++ take n rest) ++ take (length rest - n) (drop n rest) =
    e ∙ (ap (λ (xs : List ℕ). front ++ xs) (sym (take-append-drop n rest)) ∙ (sym (append_assoc front (take n rest) (drop n rest)) ∙ ap (λ (xs : List ℕ). (front ++ take n rest) ++ xs) (sym (take-drop rest n)))) in
    (front ++ take n rest, same, Appends-trans a b c front (take n rest) h more)
