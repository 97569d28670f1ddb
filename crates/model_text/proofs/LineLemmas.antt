-- Lines and lists joined end to end.
use Rattle.std.proofs.Common.{◌≡◌, ℕ, ◌+◌, ◌<◌, ◌≤◌, ℤ, List, [], ◌∷◌, ◌++◌, length, map, take, get_or, refl, ap, sym, ◌∙◌, arith, append_assoc, append-nil}
use Rattle.std.specs.List.{flat_map, zip}
use Rattle.std.proofs.lemmas.List.{take_more, take_all, map-append}
use Rattle.std.proofs.lemmas.List.Concat.{flat_map-append}
use Rattle.std.proofs.lemmas.List.Folds.{flat_map-map}
use Rattle.std.proofs.lemmas.Slice.Zip.{length-zip, get_or-zip}

-- one more piece
pub flat_map_at : {X A : Type 0} (f : X → List A) (old : List A) (xs : List X) (i : ℕ) (d : X) → i < length xs → (old ++ flat_map f (take i xs)) ++ f (get_or xs i d) ≡ old ++ flat_map f (take (i + 1) xs)
flat_map_at f old xs i d h =
    append_assoc old (flat_map f (take i xs)) (f (get_or xs i d))
    ∙ ap (λ ys. old ++ ys)
    (sym (ap (flat_map f) (take_more xs i d h)
    ∙ (flat_map-append f (take i xs) (get_or xs i d ∷ [])
    ∙ ap (λ ys. flat_map f (take i xs) ++ ys) (append-nil (f (get_or xs i d))))))

-- one more piece of two lists side by side
pub zip_at : {X Y : Type 0} (f : X → Y → List ℕ) (old text new piece : List ℕ) (xs : List X) (ys : List Y) (i : ℕ) (x : X) (y : Y) → i < length xs → i < length ys → text ≡ old ++ flat_map (λ (p : X × Y). f p.0 p.1) (take i (zip xs ys)) → new ≡ text ++ piece → piece ≡ f (get_or xs i x) (get_or ys i y) → new ≡ old ++ flat_map (λ (p : X × Y). f p.0 p.1) (take (i + 1) (zip xs ys))
zip_at {X} {Y} f old text new piece xs ys i x y h k t n p =
    let g : X × Y → List ℕ = λ q. f q.0 q.1 in
    let both : i < length (zip xs ys) = omega (arith, length-zip xs ys) in
    let more = flat_map_at g old (zip xs ys) i (x, y) both in
    let here : g (get_or (zip xs ys) i (x, y)) ≡ piece = ap g (get_or-zip xs ys i (x, y) h k) ∙ sym p in
    n ∙ (ap (λ ts. ts ++ piece) t ∙ (ap (λ ps. (old ++ flat_map g (take i (zip xs ys))) ++ ps) (sym here) ∙ more))

-- all pieces of two lists of one length
pub zip_all : {X Y : Type 0} (f : X → Y → List ℕ) (old text : List ℕ) (xs : List X) (ys : List Y) (i : ℕ) → length ys ≡ length xs → length xs ≤ i → text ≡ old ++ flat_map (λ (p : X × Y). f p.0 p.1) (take i (zip xs ys)) → text ≡ old ++ flat_map (λ (p : X × Y). f p.0 p.1) (zip xs ys)
zip_all {X} {Y} f old text xs ys i e h t =
    let all : length (zip xs ys) ≤ i = omega (arith, length-zip xs ys) in
    t ∙ ap (λ (zs : List (X × Y)). old ++ flat_map (λ (p : X × Y). f p.0 p.1) zs) (take_all i (zip xs ys) all)

-- a line in three pieces
pub line_of : (old a b new first words : List ℕ) → a ≡ old ++ first → b ≡ a ++ words → new ≡ b ++ 10 ∷ [] → new ≡ old ++ (first ++ words ++ 10 ∷ [])
line_of old a b new first words e f g =
    g ∙ (ap (λ bs. bs ++ 10 ∷ []) (f ∙ ap (λ bs. bs ++ words) e) ∙ simp append_assoc)

four : (a b c d e w x y z : List ℕ) → b ≡ a ++ w → c ≡ b ++ x → d ≡ c ++ y → e ≡ d ++ z → e ≡ a ++ (w ++ ((x ++ y) ++ z))
four a b c d e w x y z eb ec ed ee = rw (ee, ed, ec, eb) (simp append_assoc)

-- the line of an arc in five pieces
pub arc_line_of : (old a b c d e new first tail head : List ℕ) (needs more : List ℤ) (text_of : ℤ → List ℕ) (vars : List ℕ) (name_of : ℕ → List ℕ) → a ≡ old ++ first → b ≡ a ++ 32 ∷ (tail ++ 32 ∷ (head ++ [])) → c ≡ b ++ flat_map (λ n. 32 ∷ text_of n) needs → d ≡ c ++ flat_map (λ n. 32 ∷ text_of n) more → e ≡ d ++ flat_map (λ n. 32 ∷ name_of n) vars → new ≡ e ++ 10 ∷ [] → new ≡ old ++ (first ++ flat_map (λ word. 32 ∷ word) (tail ∷ head ∷ (map text_of (needs ++ more) ++ map name_of vars)) ++ 10 ∷ [])
arc_line_of old a b c d e new first tail head needs more text_of vars name_of ea eb ec ed ee en =
    let w : List ℕ → List ℕ = λ word. 32 ∷ word in
    let words : flat_map w (map text_of (needs ++ more) ++ map name_of vars) ≡ (flat_map (λ n. 32 ∷ text_of n) needs ++ flat_map (λ n. 32 ∷ text_of n) more) ++ flat_map (λ n. 32 ∷ name_of n) vars = rw (flat_map-append w (map text_of (needs ++ more)) (map name_of vars), map-append text_of needs more, flat_map-append w (map text_of needs) (map text_of more), flat_map-map w text_of needs, flat_map-map w text_of more, flat_map-map w name_of vars) refl in
    let two : (xs : List ℕ) → (32 ∷ (tail ++ 32 ∷ (head ++ []))) ++ xs ≡ 32 ∷ (tail ++ 32 ∷ (head ++ xs)) = λ xs. ap (λ ys. 32 ∷ ys) (append_assoc tail (32 ∷ (head ++ [])) xs ∙ ap (λ ys. tail ++ 32 ∷ ys) (append_assoc head [] xs)) in
    let all = four a b c d e _ _ _ _ eb ec ed ee in
    line_of old a e new first _ ea (all ∙ ap (λ ys. a ++ ys) (two _ ∙ ap (λ ys. 32 ∷ (tail ++ 32 ∷ (head ++ ys))) (sym words))) en

-- the line of a path in four pieces
pub path_line_of : (old a b c d new first graph count : List ℕ) (arcs : List ℕ) (name_of : ℕ → List ℕ) → a ≡ old ++ first → b ≡ a ++ 32 ∷ graph → c ≡ b ++ 32 ∷ count → d ≡ c ++ flat_map (λ n. 32 ∷ name_of n) arcs → new ≡ d ++ 10 ∷ [] → new ≡ old ++ (first ++ flat_map (λ word. 32 ∷ word) (graph ∷ count ∷ map name_of arcs) ++ 10 ∷ [])
path_line_of old a b c d new first graph count arcs name_of ea eb ec ed en =
    rw (en, ed, ec, eb, ea) (simp (flat_map-map, append_assoc))
