-- Multipliers as lines: the lines of multipliers say them, and lines in order without a multiplier of 0 are those of what they say.
use Rattle.std.proofs.Common.{◌≡◌, ℕ, ◌+◌, ◌-◌, ◌<◌, ◌≤◌, ℤ, pos, Bool, true, false, not, inl, inr, List, [], ◌∷◌, ◌++◌, length, replicate, refl, ap, subst, sym, ◌∙◌, append_assoc, append-nil, arith, Option}
use Rattle.std.specs.Prelude.{◌==◌, ◌||◌, ◌⊎◌, All, nat_lt, fold, slice_set, option_map, if◌then◌else◌}
use Rattle.std.specs.Ordering.{int_eq}
use Rattle.std.proofs.lemmas.Bool.{eq-eqb}
use Rattle.std.proofs.lemmas.Bool.Decides.{nat_tests, Decides-int_eq}
use Rattle.std.proofs.lemmas.List.{length-append, set-append_right}
use Rattle.std.proofs.lemmas.List.Elements.{All-nil, All-cons, All-head, All-tail, All-append}
use Rattle.std.proofs.lemmas.List.Sums.{fold-append}
use Rattle.path_graph.specs.Within.{IsWithin}
use Rattle.route_model.specs.declared.limits.TheConstants.{MAX_MULT}
use Rattle.route_model.specs.declared.multipliers.Mult.{Mult}
use Rattle.line_text.specs.Items.{EachAfter}
use Rattle.model_text.specs.LineWords.{last_of}
use Rattle.certificate.specs.declared.draft.MultKind.{MultKind}
use Rattle.certificate.specs.declared.draft.MultKind.TheVariants as kind
use Rattle.certificate.specs.declared.draft.MultLine.{MultLine}
use Rattle.certificate.specs.declared.sizes.Sizes.{Sizes}
use Rattle.certificate.specs.ProofWords.{falls, rises, rank, kind_count, mult_key}
use Rattle.certificate.specs.Meaning.{set_by}
use Rattle.certificate.specs.CertText.{MultMay}
use Rattle.certificate.specs.CertPrint.{kind_lines, mult_lines}
use Rattle.certificate.proofs.SetWordLemmas.{last_of-push}
use Rattle.certificate.proofs.ItemLists.{Ends, ends}

abbrev pub zeros : ℕ → List ℤ
zeros n = replicate n (pos 0)

-- values of a kind with those of lines
abbrev pub with_lines : MultKind → List ℤ → List MultLine → List ℤ
with_lines kind values lines = fold (set_by kind) values lines

-- kinds and their places
abbrev pub IsOther : MultKind → MultLine → Type 0
IsOther kind l = (rank l.kind == rank kind) ≡ false

own_test : (kind : MultKind) → (rank kind == rank kind) ≡ true
own_test kind = eq-eqb (rank kind) (rank kind) refl

pub same_kind : (a b : MultKind) → rank a ≡ rank b → a ≡ b
same_kind kind.Var kind.Var e = refl
same_kind kind.Var kind.Row e = absurd (omega (arith, e))
same_kind kind.Var kind.Set e = absurd (omega (arith, e))
same_kind kind.Var kind.Paths e = absurd (omega (arith, e))
same_kind kind.Row kind.Var e = absurd (omega (arith, e))
same_kind kind.Row kind.Row e = refl
same_kind kind.Row kind.Set e = absurd (omega (arith, e))
same_kind kind.Row kind.Paths e = absurd (omega (arith, e))
same_kind kind.Set kind.Var e = absurd (omega (arith, e))
same_kind kind.Set kind.Row e = absurd (omega (arith, e))
same_kind kind.Set kind.Set e = refl
same_kind kind.Set kind.Paths e = absurd (omega (arith, e))
same_kind kind.Paths kind.Var e = absurd (omega (arith, e))
same_kind kind.Paths kind.Row e = absurd (omega (arith, e))
same_kind kind.Paths kind.Set e = absurd (omega (arith, e))
same_kind kind.Paths kind.Paths e = refl

pub rank_below : (kind : MultKind) → rank kind < 4
rank_below kind.Var = omega arith
rank_below kind.Row = omega arith
rank_below kind.Set = omega arith
rank_below kind.Paths = omega arith

-- the line of one multiplier
abbrev pub line_from : MultKind → ℕ → ℤ → List MultLine
line_from kind k v = if int_eq v (pos 0) then [] else record { kind = kind; number = k; value = v } ∷ []

-- The lines of a kind say its multipliers.
pub put_at : (front rest : List ℤ) (u v : ℤ) → slice_set (front ++ u ∷ rest) (length front) v ≡ front ++ v ∷ rest
put_at front rest u v =
    let none : length front - length front ≡ 0 = omega arith in
    set-append_right front (u ∷ rest) (length front) (length front) v refl (omega arith) ∙ ap (λ k. front ++ slice_set (u ∷ rest) k v) none

one_back : (kind : MultKind) (front rest : List ℤ) (v : ℤ) → with_lines kind (front ++ pos 0 ∷ rest) (line_from kind (length front) v) ≡ front ++ v ∷ rest
one_back kind front rest v = by_test (int_eq v (pos 0)) refl
  where
    by_test : (b : Bool) → int_eq v (pos 0) ≡ b → with_lines kind (front ++ pos 0 ∷ rest) (if b then [] else record { kind = kind; number = length front; value = v } ∷ []) ≡ front ++ v ∷ rest
    by_test true is = ap (λ x. front ++ x ∷ rest) (sym ((Decides-int_eq v (pos 0)).0 is))
    by_test false is =
        ap (λ (b : Bool). if b then slice_set (front ++ pos 0 ∷ rest) (length front) v else front ++ pos 0 ∷ rest) (own_test kind) ∙ put_at front rest (pos 0) v

pub longer : (front : List ℤ) (v : ℤ) → length (front ++ v ∷ []) ≡ length front + 1
longer front v = let size = length-append front (v ∷ []) in omega (arith, size)

kind_back : (kind : MultKind) (front values : List ℤ) → with_lines kind (front ++ zeros (length values)) (kind_lines kind (length front) values) ≡ front ++ values
kind_back kind front [] = refl
kind_back kind front (v ∷ values) =
    let more : List MultLine = kind_lines kind (length front + 1) values in
    fold-append (set_by kind) (front ++ pos 0 ∷ zeros (length values)) (line_from kind (length front) v) more
    ∙ (ap (λ vs. with_lines kind vs more) (one_back kind front (zeros (length values)) v ∙ sym (append_assoc front (v ∷ []) (zeros (length values))))
    ∙ (ap (λ k. with_lines kind ((front ++ v ∷ []) ++ zeros (length values)) (kind_lines kind k values)) (sym (longer front v))
    ∙ (kind_back kind (front ++ v ∷ []) values ∙ append_assoc front (v ∷ []) values)))

-- lines of other kinds say nothing of it
skips : (kind : MultKind) (values : List ℤ) (lines : List MultLine) → All (IsOther kind) lines → with_lines kind values lines ≡ values
skips kind values [] all = refl
skips kind values (l ∷ lines) all =
    ap (λ (b : Bool). with_lines kind (if b then slice_set values l.number l.value else values) lines) (All-head (IsOther kind) l lines all)
    ∙ skips kind values lines (All-tail (IsOther kind) l lines all)

pub skips_front : (kind : MultKind) (values : List ℤ) (xs ys : List MultLine) → All (IsOther kind) xs → with_lines kind values (xs ++ ys) ≡ with_lines kind values ys
skips_front kind values xs ys all = fold-append (set_by kind) values xs ys ∙ ap (λ vs. with_lines kind vs ys) (skips kind values xs all)

pub skips_back : (kind : MultKind) (values : List ℤ) (xs ys : List MultLine) → All (IsOther kind) ys → with_lines kind values (xs ++ ys) ≡ with_lines kind values xs
skips_back kind values xs ys all = fold-append (set_by kind) values xs ys ∙ skips kind (with_lines kind values xs) ys all

pub each_line : (P : MultLine → Type 0) (kind : MultKind) (k : ℕ) (values : List ℤ) → ((n : ℕ) (v : ℤ) → int_eq v (pos 0) ≡ false → P (record { kind = kind; number = n; value = v })) → All P (kind_lines kind k values)
each_line P kind k [] holds = All-nil P
each_line P kind k (v ∷ values) holds = All-append P (line_from kind k v) (kind_lines kind (k + 1) values) (one (int_eq v (pos 0)) refl) (each_line P kind (k + 1) values holds)
  where
    one : (b : Bool) → int_eq v (pos 0) ≡ b → All P (if b then [] else record { kind = kind; number = k; value = v } ∷ [])
    one true is = All-nil P
    one false is = All-cons P _ [] (holds k v is) (All-nil P)

abbrev own_lines : MultKind → List ℤ → List MultLine
own_lines kind values = kind_lines kind 0 values

others : (kind other : MultKind) (values : List ℤ) → (rank other == rank kind) ≡ false → All (IsOther kind) (own_lines other values)
others kind other values apart = each_line (IsOther kind) other 0 values (λ n v some. apart)

pub vars_back : (m : Mult) → with_lines kind.Var (zeros (length m.vars)) (mult_lines m) ≡ m.vars
vars_back m =
    skips_back kind.Var _ (own_lines kind.Var m.vars) _
    (All-append (IsOther kind.Var) _ _ (others kind.Var kind.Row m.rows refl) (All-append (IsOther kind.Var) _ _ (others kind.Var kind.Set m.sets refl) (others kind.Var kind.Paths m.paths refl)))
    ∙ kind_back kind.Var [] m.vars

pub rows_back : (m : Mult) → with_lines kind.Row (zeros (length m.rows)) (mult_lines m) ≡ m.rows
rows_back m =
    skips_front kind.Row _ (own_lines kind.Var m.vars) _ (others kind.Row kind.Var m.vars refl)
    ∙ (skips_back kind.Row _ (own_lines kind.Row m.rows) _ (All-append (IsOther kind.Row) _ _ (others kind.Row kind.Set m.sets refl) (others kind.Row kind.Paths m.paths refl))
    ∙ kind_back kind.Row [] m.rows)

pub sets_back : (m : Mult) → with_lines kind.Set (zeros (length m.sets)) (mult_lines m) ≡ m.sets
sets_back m =
    skips_front kind.Set _ (own_lines kind.Var m.vars) _ (others kind.Set kind.Var m.vars refl)
    ∙ (skips_front kind.Set _ (own_lines kind.Row m.rows) _ (others kind.Set kind.Row m.rows refl)
    ∙ (skips_back kind.Set _ (own_lines kind.Set m.sets) _ (others kind.Set kind.Paths m.paths refl) ∙ kind_back kind.Set [] m.sets))

pub paths_back : (m : Mult) → with_lines kind.Paths (zeros (length m.paths)) (mult_lines m) ≡ m.paths
paths_back m =
    skips_front kind.Paths _ (own_lines kind.Var m.vars) _ (others kind.Paths kind.Var m.vars refl)
    ∙ (skips_front kind.Paths _ (own_lines kind.Row m.rows) _ (others kind.Paths kind.Row m.rows refl)
    ∙ (skips_front kind.Paths _ (own_lines kind.Set m.sets) _ (others kind.Paths kind.Set m.sets refl) ∙ kind_back kind.Paths [] m.paths))

-- The lines of multipliers stand in order. After these lines one of a kind may stand from a number on.
record Allows (before : List MultLine) (r k : ℕ) : Type 0 where
  pub keeps : falls (option_map mult_key (last_of before)) r ≡ false
  pub grows : (n : ℕ) → k ≤ n → rises (option_map mult_key (last_of before)) r n ≡ true

after_own : (before : List MultLine) (kind : MultKind) (k : ℕ) (v : ℤ) → Allows (before ++ record { kind = kind; number = k; value = v } ∷ []) (rank kind) (k + 1)
after_own before kind k v =
    record {
      keeps = ap (λ (o : Option MultLine). falls (option_map mult_key o) (rank kind)) (last_of-push before (record { kind = kind; number = k; value = v })) ∙ level (rank kind);
      grows = λ n low. ap (λ (o : Option MultLine). rises (option_map mult_key o) (rank kind) n) (last_of-push before (record { kind = kind; number = k; value = v })) ∙ up (rank kind) k n low;
    }
  where
    level : (r : ℕ) → nat_lt r r ≡ false
    level r = grind (arith, nat_tests)

    up : (r k n : ℕ) → k + 1 ≤ n → (not (r == r) || nat_lt k n) ≡ true
    up r k n low = grind (arith, nat_tests, low)

after_lower : (before : List MultLine) (r : ℕ) → All (λ l. rank l.kind < r) before → Allows before r 0
after_lower before r all = by_end (ends before)
  where
    level : (a : ℕ) → a < r → nat_lt r a ≡ false
    level a low = grind (arith, nat_tests, low)

    up : (a b n : ℕ) → a < r → (not (r == a) || nat_lt b n) ≡ true
    up a b n low = grind (arith, nat_tests, low)

    last_low : (front : List MultLine) (l : MultLine) → before ≡ front ++ l ∷ [] → rank l.kind < r
    last_low front l is = at_last front l (subst (All (λ l. rank l.kind < r)) is all)
      where
        at_last : (front : List MultLine) (l : MultLine) → All (λ l. rank l.kind < r) (front ++ l ∷ []) → rank l.kind < r
        at_last [] l all = All-head (λ l. rank l.kind < r) l [] all
        at_last (f ∷ front) l all = at_last front l (All-tail (λ l. rank l.kind < r) f (front ++ l ∷ []) all)

    by_end : ((before ≡ []) ⊎ Ends before) → Allows before r 0
    by_end (inl none) = subst (λ ls. Allows ls r 0) (sym none) (record { keeps = refl; grows = λ n low. refl })
    by_end (inr e) =
        let low = last_low e.front e.last e.is in
        subst (λ ls. Allows ls r 0) (sym e.is)
        (record {
          keeps = ap (λ (o : Option MultLine). falls (option_map mult_key o) r) (last_of-push e.front e.last) ∙ level (rank e.last.kind) low;
          grows = λ n least. ap (λ (o : Option MultLine). rises (option_map mult_key o) r n) (last_of-push e.front e.last) ∙ up (rank e.last.kind) e.last.number n low;
        })

later : (before : List MultLine) (r k : ℕ) → Allows before r k → Allows before r (k + 1)
later before r k may = record { keeps = may.keeps; grows = λ n low. may.grows n (omega (arith, low)) }

one_stands : (s : Sizes) (b : Bool) (before : List MultLine) (l : MultLine) (rest : List MultLine) → MultMay s before l → EachAfter (MultMay s) before rest → EachAfter (MultMay s) (before ++ l ∷ []) rest → EachAfter (MultMay s) before ((if b then [] else l ∷ []) ++ rest)
one_stands s true before l rest may without behind = without
one_stands s false before l rest may without behind = (may, behind)

kind_stands : (s : Sizes) (kind : MultKind) (before : List MultLine) (k : ℕ) (values : List ℤ) → Allows before (rank kind) k → k + length values ≤ kind_count s kind → All (IsWithin MAX_MULT) values → EachAfter (MultMay s) before (kind_lines kind k values)
kind_stands s kind before k [] may few all = tt
kind_stands s kind before k (v ∷ values) may few all =
    let within = All-head (IsWithin MAX_MULT) v values all in
    let rest = All-tail (IsWithin MAX_MULT) v values all in
    let line : MultLine = record { kind = kind; number = k; value = v } in
    one_stands s (int_eq v (pos 0)) before line (kind_lines kind (k + 1) values) (may.keeps, omega (arith, few), may.grows k (omega arith), within)
    (kind_stands s kind before (k + 1) values (later before (rank kind) k may) (omega (arith, few)) rest)
    (kind_stands s kind (before ++ line ∷ []) (k + 1) values (after_own before kind k v) (omega (arith, few)) rest)

pub each_two : {A : Type 0} (P : List A → A → Type 0) (before xs ys : List A) → EachAfter P before xs → EachAfter P (before ++ xs) ys → EachAfter P before (xs ++ ys)
each_two P before [] ys first second = subst (λ zs. EachAfter P zs ys) (append-nil before) second
each_two P before (x ∷ xs) ys first second =
    (first.0, each_two P (before ++ x ∷ []) xs ys first.1 (subst (λ zs. EachAfter P zs ys) (sym (append_assoc before (x ∷ []) xs)) second))

pub record KindsFit (s : Sizes) (m : Mult) : Type 0 where
  pub vars : length m.vars ≡ s.vars
  pub rows : length m.rows ≡ s.rows
  pub sets : length m.sets ≡ s.sets
  pub paths : length m.paths ≡ length s.graphs
  pub each_var : All (IsWithin MAX_MULT) m.vars
  pub each_row : All (IsWithin MAX_MULT) m.rows
  pub each_set : All (IsWithin MAX_MULT) m.sets
  pub each_path : All (IsWithin MAX_MULT) m.paths

lower : (kind : MultKind) (r : ℕ) (values : List ℤ) → rank kind < r → All (λ l. rank l.kind < r) (own_lines kind values)
lower kind r values low = each_line (λ l. rank l.kind < r) kind 0 values (λ n v some. low)

pub mult_stands : (s : Sizes) (m : Mult) → KindsFit s m → EachAfter (MultMay s) [] (mult_lines m)
mult_stands s m fits =
    let V : List MultLine = own_lines kind.Var m.vars in
    let R : List MultLine = own_lines kind.Row m.rows in
    let S : List MultLine = own_lines kind.Set m.sets in
    let P : List MultLine = own_lines kind.Paths m.paths in
    let vars = fits.vars in
    let rows = fits.rows in
    let sets = fits.sets in
    let paths = fits.paths in
    each_two (MultMay s) [] V (R ++ (S ++ P)) (kind_stands s kind.Var [] 0 m.vars (after_lower [] 0 (All-nil (λ l. rank l.kind < 0))) (omega (arith, vars)) fits.each_var)
    (each_two (MultMay s) V R (S ++ P) (kind_stands s kind.Row V 0 m.rows (after_lower V 1 (lower kind.Var 1 m.vars (omega arith))) (omega (arith, rows)) fits.each_row)
    (each_two (MultMay s) (V ++ R) S P
    (kind_stands s kind.Set (V ++ R) 0 m.sets (after_lower (V ++ R) 2 (All-append (λ l. rank l.kind < 2) V R (lower kind.Var 2 m.vars (omega arith)) (lower kind.Row 2 m.rows (omega arith)))) (omega (arith, sets)) fits.each_set)
    (kind_stands s kind.Paths ((V ++ R) ++ S) 0 m.paths
    (after_lower ((V ++ R) ++ S) 3 (All-append (λ l. rank l.kind < 3) (V ++ R) S (All-append (λ l. rank l.kind < 3) V R (lower kind.Var 3 m.vars (omega arith)) (lower kind.Row 3 m.rows (omega arith))) (lower kind.Set 3 m.sets (omega arith))))
    (omega (arith, paths)) fits.each_path)))
