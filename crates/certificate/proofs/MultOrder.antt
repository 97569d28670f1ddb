-- Lines of multipliers in order, none of which is 0, are the lines of the multipliers that they say.
use Rattle.std.proofs.Common.{◌≡◌, ℕ, zero, suc, ◌+◌, ◌<◌, ◌≤◌, ℤ, pos, Bool, true, false, not, inl, inr, List, [], ◌∷◌, ◌++◌, length, refl, ap, subst, sym, ◌∙◌, append_assoc, append-nil, arith, Option}
use Rattle.std.specs.Prelude.{◌==◌, ◌||◌, All, nat_lt, slice_set, option_map, if◌then◌else◌}
use Rattle.std.specs.Ordering.{int_eq}
use Rattle.std.proofs.lemmas.Bool.{cases_eq, eq-eqb}
use Rattle.std.proofs.lemmas.Bool.Decides.{nat_tests}
use Rattle.std.proofs.lemmas.List.{length-set}
use Rattle.std.proofs.lemmas.List.Elements.{All-nil, All-cons, All-head, All-tail, All-append, All-set}
use Rattle.path_graph.specs.Within.{IsWithin}
use Rattle.route_model.specs.declared.limits.TheConstants.{MAX_MULT}
use Rattle.line_text.specs.Items.{EachAfter}
use Rattle.model_text.specs.LineWords.{last_of}
use Rattle.certificate.specs.declared.draft.MultKind.{MultKind}
use Rattle.certificate.specs.declared.draft.MultKind.TheVariants as kind
use Rattle.certificate.specs.declared.draft.MultLine.{MultLine}
use Rattle.certificate.specs.declared.draft.NodeDraft.{NodeDraft}
use Rattle.certificate.specs.declared.sizes.Sizes.{Sizes}
use Rattle.certificate.specs.ProofWords.{falls, rises, rank, kind_count, mult_key}
use Rattle.certificate.specs.Meaning.{set_by, values_of, mult_of}
use Rattle.certificate.specs.CertText.{MultMay}
use Rattle.certificate.specs.CertPrint.{kind_lines, mult_lines}
use Rattle.certificate.proofs.SetWordLemmas.{last_of-push}
use Rattle.certificate.proofs.MultLines.{zeros, with_lines, same_kind, rank_below, put_at, longer, IsOther, skips_front, skips_back, KindsFit}

-- Lines of a kind that rise from a number on, none of which is 0.
abbrev pub Rises : MultKind → ℕ → List MultLine → Type 0
Rises kind a [] = Unit {0}
Rises kind a (l ∷ ls) = (rank l.kind ≡ rank kind) × (a ≤ l.number) × (int_eq l.value (pos 0) ≡ false) × Rises kind (l.number + 1) ls

rises_from : (kind : MultKind) (a b : ℕ) (ls : List MultLine) → a ≤ b → Rises kind b ls → Rises kind a ls
rises_from kind a b [] low up = tt
rises_from kind a b (l ∷ ls) low up = let own = up.1 in (up.0, omega (arith, low, own), up.2, up.3)

abbrev Below : ℕ → MultLine → Type 0
Below n l = l.number < n

-- the values that they say, behind those in front
record Said (kind : MultKind) (k n : ℕ) (front : List ℤ) (ls : List MultLine) : Type 0 where
  pub rest : List ℤ
  pub is : with_lines kind (front ++ zeros n) ls ≡ front ++ rest
  pub lines : kind_lines kind k rest ≡ ls

own_put : (kind : MultKind) (front rest : List ℤ) (l : MultLine) → rank l.kind ≡ rank kind → l.number ≡ length front → set_by kind (front ++ pos 0 ∷ rest) l ≡ front ++ l.value ∷ rest
own_put kind front rest l own place =
    ap (λ (b : Bool). if b then slice_set (front ++ pos 0 ∷ rest) l.number l.value else front ++ pos 0 ∷ rest) (eq-eqb (rank l.kind) (rank kind) own)
    ∙ (ap (λ k. slice_set (front ++ pos 0 ∷ rest) k l.value) place ∙ put_at front rest (pos 0) l.value)

own_line : (kind : MultKind) (k : ℕ) (l : MultLine) → rank l.kind ≡ rank kind → l.number ≡ k → record { kind = kind; number = k; value = l.value } ≡ l
own_line kind k l own place = let same = same_kind l.kind kind own in rw (← same, ← place) refl

said : (kind : MultKind) (n k : ℕ) (front : List ℤ) (ls : List MultLine) → length front ≡ k → Rises kind k ls → All (Below (k + n)) ls → Said kind k n front ls
said kind zero k front [] size up below = record { rest = []; is = refl; lines = refl }
said kind zero k front (l ∷ ls) size up below =
    let low = up.1 in
    let high = All-head (Below (k + 0)) l ls below in
    absurd (omega (arith, low, high))
said kind (suc n) k front [] size up below =
    let longer_here : length (front ++ pos 0 ∷ []) ≡ k + 1 = longer front (pos 0) ∙ ap (λ m. m + 1) size in
    let more = said kind n (k + 1) (front ++ pos 0 ∷ []) [] longer_here tt (All-nil (Below (k + 1 + n))) in
    record {
      rest = pos 0 ∷ more.rest;
      is = sym (append_assoc front (pos 0 ∷ []) (zeros n)) ∙ (more.is ∙ append_assoc front (pos 0 ∷ []) more.rest);
      lines = more.lines;
    }
said kind (suc n) k front (l ∷ ls) size up below = elim (cases_eq l.number k) [
  | inl here ↦
      let longer_here : length (front ++ l.value ∷ []) ≡ k + 1 = longer front l.value ∙ ap (λ m. m + 1) size in
      let rises : Rises kind (k + 1) ls = subst (λ m. Rises kind (m + 1) ls) here up.3 in
      let more = said kind n (k + 1) (front ++ l.value ∷ []) ls longer_here rises (shift ls (All-tail (Below (k + suc n)) l ls below)) in
      record {
        rest = l.value ∷ more.rest;
        is = ap (λ vs. with_lines kind vs ls) (own_put kind front (zeros n) l up.0 (here ∙ sym size) ∙ sym (append_assoc front (l.value ∷ []) (zeros n)))
            ∙ (more.is ∙ append_assoc front (l.value ∷ []) more.rest);
        lines = ap (λ (b : Bool). (if b then [] else record { kind = kind; number = k; value = l.value } ∷ []) ++ kind_lines kind (k + 1) more.rest) up.2
            ∙ (ap (λ m. m ∷ kind_lines kind (k + 1) more.rest) (own_line kind k l up.0 here) ∙ ap (λ ms. l ∷ ms) more.lines);
      }
  | inr apart ↦
      let low = up.1 in
      let longer_here : length (front ++ pos 0 ∷ []) ≡ k + 1 = longer front (pos 0) ∙ ap (λ m. m + 1) size in
      let rises : Rises kind (k + 1) (l ∷ ls) = (up.0, omega (arith, low, apart), up.2, up.3) in
      let more = said kind n (k + 1) (front ++ pos 0 ∷ []) (l ∷ ls) longer_here rises (shift (l ∷ ls) below) in
      record {
        rest = pos 0 ∷ more.rest;
        is = ap (λ vs. with_lines kind vs (l ∷ ls)) (sym (append_assoc front (pos 0 ∷ []) (zeros n))) ∙ (more.is ∙ append_assoc front (pos 0 ∷ []) more.rest);
        lines = more.lines;
      }
]
  where
    shift : (ms : List MultLine) → All (Below (k + suc n)) ms → All (Below (k + 1 + n)) ms
    shift ms all = λ i d within. let h = all i d within in omega (arith, h)

-- so a kind's lines are those of what they say
kind_said : (kind : MultKind) (n : ℕ) (ls : List MultLine) → Rises kind 0 ls → All (Below n) ls → kind_lines kind 0 (with_lines kind (zeros n) ls) ≡ ls
kind_said kind n ls up below =
    let same : 0 + n ≡ n = omega arith in
    let s = said kind n 0 [] ls refl up (subst (λ m. All (Below m) ls) (sym same) below) in
    ap (kind_lines kind 0) s.is ∙ s.lines

-- Lines in order: each not below the line before it, and above it where it is of the same kind; none of them 0.
abbrev InOrder : Sizes → ℕ → ℕ → List MultLine → Type 0
InOrder s r a [] = Unit {0}
InOrder s r a (l ∷ ls) =
    (r ≤ rank l.kind) × (rank l.kind ≡ r → a ≤ l.number) × (l.number < kind_count s l.kind) × (int_eq l.value (pos 0) ≡ false) × InOrder s (rank l.kind) (l.number + 1) ls

abbrev pub IsSome : MultLine → Type 0
IsSome l = int_eq l.value (pos 0) ≡ false

in_order : (s : Sizes) (before ls : List MultLine) (r a : ℕ) → ((q : ℕ) → falls (option_map mult_key (last_of before)) q ≡ false → r ≤ q) → ((n : ℕ) → rises (option_map mult_key (last_of before)) r n ≡ true → a ≤ n) → EachAfter (MultMay s) before ls → All IsSome ls → InOrder s r a ls
in_order s before [] r a keeps grows each some = tt
in_order s before (l ∷ ls) r a keeps grows each some = (
  keeps (rank l.kind) each.0.0,
  λ same. grows l.number (subst (λ q. rises (option_map mult_key (last_of before)) q l.number ≡ true) same each.0.2),
  each.0.1,
  All-head IsSome l ls some,
  in_order s (before ++ l ∷ []) ls (rank l.kind) (l.number + 1)
      (λ q h. level (rank l.kind) q (sym (ap (λ (o : Option MultLine). falls (option_map mult_key o) q) (last_of-push before l)) ∙ h))
      (λ n h. up (rank l.kind) l.number n (sym (ap (λ (o : Option MultLine). rises (option_map mult_key o) (rank l.kind) n) (last_of-push before l)) ∙ h))
      each.1 (All-tail IsSome l ls some),
)
  where
    level : (p q : ℕ) → nat_lt q p ≡ false → p ≤ q
    level p q h = grind (arith, nat_tests, h)

    up : (p m n : ℕ) → (not (p == p) || nat_lt m n) ≡ true → m + 1 ≤ n
    up p m n h = grind (arith, nat_tests, h)

-- the lines of the least kind, and the others
record Parted (s : Sizes) (kind : MultKind) (a : ℕ) (ls : List MultLine) : Type 0 where
  pub own : List MultLine
  pub rest : List MultLine
  pub is : ls ≡ own ++ rest
  pub up : Rises kind a own
  pub below : All (Below (kind_count s kind)) own
  pub later : InOrder s (rank kind + 1) 0 rest

parted : (s : Sizes) (kind : MultKind) (a : ℕ) (ls : List MultLine) → InOrder s (rank kind) a ls → Parted s kind a ls
parted s kind a [] order = record { own = []; rest = []; is = refl; up = tt; below = All-nil (Below (kind_count s kind)); later = tt }
parted s kind a (l ∷ ls) order = elim (cases_eq (rank l.kind) (rank kind)) [
  | inl same ↦
      let p = parted s kind (l.number + 1) ls (subst (λ q. InOrder s q (l.number + 1) ls) same order.4) in
      let known : l.number < kind_count s kind = subst (λ k. l.number < kind_count s k) (same_kind l.kind kind same) order.2 in
      record {
        own = l ∷ p.own;
        rest = p.rest;
        is = ap (λ ms. l ∷ ms) p.is;
        up = (same, order.1 same, order.3, p.up);
        below = All-cons (Below (kind_count s kind)) l p.own known p.below;
        later = p.later;
      }
  | inr apart ↦
      let low = order.0 in
      record {
        own = [];
        rest = l ∷ ls;
        is = refl;
        up = tt;
        below = All-nil (Below (kind_count s kind));
        later = (omega (arith, low, apart), λ same. omega arith, order.2, order.3, order.4);
      }
]

none_left : (s : Sizes) (ls : List MultLine) → InOrder s 4 0 ls → ls ≡ []
none_left s [] order = refl
none_left s (l ∷ ls) order = let low = order.0 in let high = rank_below l.kind in absurd (omega (arith, low, high))

of_other : (kind other : MultKind) (a : ℕ) (ls : List MultLine) → (rank other == rank kind) ≡ false → Rises other a ls → All (IsOther kind) ls
of_other kind other a [] apart up = All-nil (IsOther kind)
of_other kind other a (l ∷ ls) apart up =
    All-cons (IsOther kind) l ls (ap (λ (r : ℕ). r == rank kind) up.0 ∙ apart) (of_other kind other (l.number + 1) ls apart up.3)

pub lines_said : (s : Sizes) (n : NodeDraft) → EachAfter (MultMay s) [] n.mults → All IsSome n.mults → mult_lines (mult_of s n) ≡ n.mults
lines_said s n each some =
    let order = in_order s [] n.mults 0 0 (λ q h. omega arith) (λ m h. omega arith) each some in
    let V = parted s kind.Var 0 n.mults order in
    let R = parted s kind.Row 0 V.rest V.later in
    let S = parted s kind.Set 0 R.rest R.later in
    let P = parted s kind.Paths 0 S.rest S.later in
    let none : P.rest ≡ [] = none_left s P.rest P.later in
    let whole : n.mults ≡ V.own ++ (R.own ++ (S.own ++ P.own)) =
    V.is ∙ ap (λ ls. V.own ++ ls) (R.is ∙ ap (λ ls. R.own ++ ls) (S.is ∙ ap (λ ls. S.own ++ ls) (P.is ∙ (ap (λ ls. P.own ++ ls) none ∙ append-nil P.own)))) in
    let vars : values_of s kind.Var n.mults ≡ with_lines kind.Var (zeros s.vars) V.own =
    ap (with_lines kind.Var (zeros s.vars)) whole
    ∙ skips_back kind.Var (zeros s.vars) V.own (R.own ++ (S.own ++ P.own))
    (All-append (IsOther kind.Var) R.own (S.own ++ P.own) (of_other kind.Var kind.Row 0 R.own refl R.up)
    (All-append (IsOther kind.Var) S.own P.own (of_other kind.Var kind.Set 0 S.own refl S.up) (of_other kind.Var kind.Paths 0 P.own refl P.up))) in
    let rows : values_of s kind.Row n.mults ≡ with_lines kind.Row (zeros s.rows) R.own =
    ap (with_lines kind.Row (zeros s.rows)) whole
    ∙ (skips_front kind.Row (zeros s.rows) V.own (R.own ++ (S.own ++ P.own)) (of_other kind.Row kind.Var 0 V.own refl V.up)
    ∙ skips_back kind.Row (zeros s.rows) R.own (S.own ++ P.own)
    (All-append (IsOther kind.Row) S.own P.own (of_other kind.Row kind.Set 0 S.own refl S.up) (of_other kind.Row kind.Paths 0 P.own refl P.up))) in
    let sets : values_of s kind.Set n.mults ≡ with_lines kind.Set (zeros s.sets) S.own =
    ap (with_lines kind.Set (zeros s.sets)) whole
    ∙ (skips_front kind.Set (zeros s.sets) V.own (R.own ++ (S.own ++ P.own)) (of_other kind.Set kind.Var 0 V.own refl V.up)
    ∙ (skips_front kind.Set (zeros s.sets) R.own (S.own ++ P.own) (of_other kind.Set kind.Row 0 R.own refl R.up)
    ∙ skips_back kind.Set (zeros s.sets) S.own P.own (of_other kind.Set kind.Paths 0 P.own refl P.up))) in
    let paths : values_of s kind.Paths n.mults ≡ with_lines kind.Paths (zeros (length s.graphs)) P.own =
    ap (with_lines kind.Paths (zeros (length s.graphs))) whole
    ∙ (skips_front kind.Paths (zeros (length s.graphs)) V.own (R.own ++ (S.own ++ P.own)) (of_other kind.Paths kind.Var 0 V.own refl V.up)
    ∙ (skips_front kind.Paths (zeros (length s.graphs)) R.own (S.own ++ P.own) (of_other kind.Paths kind.Row 0 R.own refl R.up)
    ∙ skips_front kind.Paths (zeros (length s.graphs)) S.own P.own (of_other kind.Paths kind.Set 0 S.own refl S.up))) in
    let v : kind_lines kind.Var 0 (values_of s kind.Var n.mults) ≡ V.own = ap (kind_lines kind.Var 0) vars ∙ kind_said kind.Var s.vars V.own V.up V.below in
    let r : kind_lines kind.Row 0 (values_of s kind.Row n.mults) ≡ R.own = ap (kind_lines kind.Row 0) rows ∙ kind_said kind.Row s.rows R.own R.up R.below in
    let t : kind_lines kind.Set 0 (values_of s kind.Set n.mults) ≡ S.own = ap (kind_lines kind.Set 0) sets ∙ kind_said kind.Set s.sets S.own S.up S.below in
    let p : kind_lines kind.Paths 0 (values_of s kind.Paths n.mults) ≡ P.own = ap (kind_lines kind.Paths 0) paths ∙ kind_said kind.Paths (length s.graphs) P.own P.up P.below in
    joined _ _ _ _ _ _ _ _ v r t p ∙ sym whole
  where
    joined : (a b c d e f g h : List MultLine) → a ≡ e → b ≡ f → c ≡ g → d ≡ h → a ++ (b ++ (c ++ d)) ≡ e ++ (f ++ (g ++ h))
    joined a b c d e f g h p q r t = rw (p, q, r, t) refl

-- What lines say keeps the limits.
with_length : (kind : MultKind) (values : List ℤ) (ls : List MultLine) → length (with_lines kind values ls) ≡ length values
with_length kind values [] = refl
with_length kind values (l ∷ ls) = with_length kind (set_by kind values l) ls ∙ one (rank l.kind == rank kind)
  where
    one : (b : Bool) → length (if b then slice_set values l.number l.value else values) ≡ length values
    one true = length-set values l.number l.value
    one false = refl

with_within : (kind : MultKind) (values : List ℤ) (ls : List MultLine) → All (IsWithin MAX_MULT) values → All (λ l. IsWithin MAX_MULT l.value) ls → All (IsWithin MAX_MULT) (with_lines kind values ls)
with_within kind values [] all each = all
with_within kind values (l ∷ ls) all each =
    with_within kind (set_by kind values l) ls (one (rank l.kind == rank kind)) (All-tail (λ l. IsWithin MAX_MULT l.value) l ls each)
  where
    one : (b : Bool) → All (IsWithin MAX_MULT) (if b then slice_set values l.number l.value else values)
    one true = All-set (IsWithin MAX_MULT) values l.number l.value (All-head (λ l. IsWithin MAX_MULT l.value) l ls each) all
    one false = all

zeros_length : (n : ℕ) → length (zeros n) ≡ n
zeros_length zero = refl
zeros_length (suc n) = ap suc (zeros_length n)

zeros_within : (n : ℕ) → All (IsWithin MAX_MULT) (zeros n)
zeros_within zero = All-nil (IsWithin MAX_MULT)
zeros_within (suc n) = All-cons (IsWithin MAX_MULT) (pos 0) (zeros n) (omega arith, omega arith) (zeros_within n)

pub values_within : (s : Sizes) (before ls : List MultLine) → EachAfter (MultMay s) before ls → All (λ l. IsWithin MAX_MULT l.value) ls
values_within s before [] each = All-nil (λ l. IsWithin MAX_MULT l.value)
values_within s before (l ∷ ls) each = All-cons (λ l. IsWithin MAX_MULT l.value) l ls each.0.3 (values_within s (before ++ l ∷ []) ls each.1)

pub said_fits : (s : Sizes) (n : NodeDraft) → EachAfter (MultMay s) [] n.mults → KindsFit s (mult_of s n)
said_fits s n each =
    let within = values_within s [] n.mults each in
    record {
      vars = with_length kind.Var (zeros s.vars) n.mults ∙ zeros_length s.vars;
      rows = with_length kind.Row (zeros s.rows) n.mults ∙ zeros_length s.rows;
      sets = with_length kind.Set (zeros s.sets) n.mults ∙ zeros_length s.sets;
      paths = with_length kind.Paths (zeros (length s.graphs)) n.mults ∙ zeros_length (length s.graphs);
      each_var = with_within kind.Var (zeros s.vars) n.mults (zeros_within s.vars) within;
      each_row = with_within kind.Row (zeros s.rows) n.mults (zeros_within s.rows) within;
      each_set = with_within kind.Set (zeros s.sets) n.mults (zeros_within s.sets) within;
      each_path = with_within kind.Paths (zeros (length s.graphs)) n.mults (zeros_within (length s.graphs)) within;
    }
