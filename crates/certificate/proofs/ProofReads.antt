-- The lines of a proof: what is read as a thing is spelled as it, and the other way round.
use Rattle.std.proofs.Common.{◌≡◌, ℕ, zero, suc, ◌-◌, ◌^◌, ◌≤◌, ◌<◌, ℤ, pos, neg_ℤ, Bool, true, false, not, List, [], ◌∷◌, ◌++◌, length, map, refl, ap, subst, sym, ◌∙◌, arith, Option, None, Some, Result, Ok, Err}
use Rattle.std.specs.Prelude.{All, IfSome, codes, decimal, option_map, if◌then◌else◌}
use Rattle.std.specs.Fmt.{signed_decimal}
use Rattle.std.specs.List.{flat_map, range_with_len}
use Rattle.std.specs.Str.{bytes_eq}
use Rattle.std.proofs.lemmas.Slice.Eq.{bytes_eq-Decides}
use Rattle.std.proofs.lemmas.List.Elements.{All-nil, All-cons, All-head, All-tail}
use Rattle.std.proofs.lemmas.List.FromFn.{length-range_with_len}
use Rattle.path_graph.specs.Within.{IsWithin}
use Rattle.rank1_cuts.specs.declared.cut.CutSet.{CutSet}
use Rattle.route_model.specs.declared.multipliers.Quantity.{Quantity}
use Rattle.route_model.specs.declared.multipliers.Quantity.TheVariants as quantity
use Rattle.route_model.specs.declared.places.Split.{Split}
use Rattle.label_rules.specs.declared.label.Label.{Label}
use Rattle.label_rules.specs.declared.table.Form.{Form}
use Rattle.label_rules.specs.declared.table.Form.TheVariants as form
use Rattle.label_rules.specs.declared.table.ProofTable.{ProofTable}
use Rattle.vrp_lex.specs.Text.{number_of}
use Rattle.line_text.specs.declared.fault.Kind.{Kind}
use Rattle.line_text.specs.declared.fault.Kind.TheVariants as fault
use Rattle.line_text.specs.Words.{Words, ◌>>=◌, give, word, number_in, known_below}
use Rattle.line_text.specs.Spelling.{in_printed_form}
use Rattle.line_text.specs.Items.{AllAt}
use Rattle.line_text.proofs.PrintedWordLemmas.{IsPrinted, printed_name}
use Rattle.line_text.proofs.NumberWordLemmas.{plain_is, printed_plain}
use Rattle.line_text.proofs.Judgement.{Reads, Spent, Any, Anything, AtEnd, next, last, made, unless, same_as, no_items}
use Rattle.line_text.proofs.NumberReads.{OneWord, one_word, IsIn, number_in-reads, natural_in-reads, known_below-reads, limited_one, unless_name, or_name, not_name}
use Rattle.line_text.proofs.ListReads.{for_each-reads, words_at}
use Rattle.model_text.specs.LineWords.{last_of, is_above}
use Rattle.model_text.proofs.PathReads.{name-reads, arcs-reads}
use Rattle.certificate.specs.declared.cert.Step.{Step}
use Rattle.certificate.specs.declared.draft.CutLine.{CutLine}
use Rattle.certificate.specs.declared.draft.DropLine.{DropLine}
use Rattle.certificate.specs.declared.draft.Head.{Head}
use Rattle.certificate.specs.declared.draft.Head.TheVariants as head
use Rattle.certificate.specs.declared.draft.MultKind.{MultKind}
use Rattle.certificate.specs.declared.draft.MultKind.TheVariants as kind
use Rattle.certificate.specs.declared.draft.MultLine.{MultLine}
use Rattle.certificate.specs.declared.sizes.Sizes.{Sizes}
use Rattle.certificate.specs.Sizes.{graph_at, SizesFit, GraphSizesFit}
use Rattle.certificate.specs.SetWords.{set_words}
use Rattle.certificate.specs.ProofWords.{one_of, falls, rises, kind_word, rank, kind_count, mult_kinds, split_kinds, mult_key, mult_wanted, cut_set_wanted, cut_set_words, cut_wanted, NearLine, near_key, near_wanted, form_of_word, form_words, least_wanted, least_word, table_wanted, drop_wanted, step_wanted, split_at, quantity_of, split_wanted, count_split_wanted, quantity_words}
use Rattle.certificate.specs.CertText.{IsSigned, SetFits, MultMay, CutSetFits, CutLineFits, NearMay, FormFits, TableMay, DropFits, StepFits, QuantityFits, HeadFits}
use Rattle.certificate.proofs.LabelReads.{not_true, true_not, sets-reads}

-- one of stated words
abbrev pub EachNamed : {A : Type 0} → (A → List ℕ) → (A → Type 0) → List (List ℕ × A) → Type 0
EachNamed name holds [] = Unit {0}
EachNamed name holds (x ∷ xs) = (x.0 ≡ name x.1) × holds x.1 × EachNamed name holds xs

one_told : {A : Type 0} (name : A → List ℕ) (holds : A → Type 0) (xs : List (List ℕ × A)) → EachNamed name holds xs → (w : List ℕ) (left : Words) (y : A × Words) → one_of xs w left ≡ Ok y → (y.1 ≡ left) × (w ≡ name y.0) × holds y.0
one_told name holds [] all w left y h = cc
one_told {A} name holds (x ∷ xs) all w left y h = by_test (bytes_eq w x.0) refl (one_told name holds xs all.2 w left y) h
  where
    by_test : (b : Bool) → bytes_eq w x.0 ≡ b → (one_of xs w left ≡ Ok y → (y.1 ≡ left) × (w ≡ name y.0) × holds y.0) → (if b then give x.1 left else one_of xs w left) ≡ Ok y → (y.1 ≡ left) × (w ≡ name y.0) × holds y.0
    by_test true is later h =
        let same : ◌≡◌ {A = A × Words} (x.1, left) y = cc in
        subst (λ (z : A × Words). (z.1 ≡ left) × (w ≡ name z.0) × holds z.0) same (refl, (bytes_eq-Decides w x.0).0 is ∙ all.0, all.1)
    by_test false is later h = later h

stated : {A : Type 0} {name : A → List ℕ} {holds : A → Type 0} (xs : List (List ℕ × A)) → EachNamed name holds xs → ((a : A) → holds a → IsPrinted (name a) × (number_of (name a) ≡ None)) → ((a : A) (left : Words) → holds a → one_of xs (name a) left ≡ Ok (a, left)) → OneWord (one_of xs) name holds
stated {A} {name} {holds} xs all plain found = record { told = told; taken = taken; printed = λ a h. (plain a h).0 }
  where
    told : (w : List ℕ) (left : Words) (y : A × Words) → one_of xs w left ≡ Ok y → (y.1 ≡ left) × (in_printed_form w ≡ name y.0) × holds y.0
    told w left y h = let is = one_told name holds xs all w left y h in (is.0, printed_plain w (name y.0) (plain y.0 is.2).1 is.1, is.2)

    taken : (w : List ℕ) (a : A) (left : Words) → holds a → in_printed_form w ≡ name a → one_of xs w left ≡ Ok (a, left)
    taken w a left h e = ap (λ v. one_of xs v left) (plain_is w (name a) (plain a h).1 e) ∙ found a left h

kind_plain : (k : MultKind) → IsPrinted (kind_word k) × (number_of (kind_word k) ≡ None)
kind_plain kind.Var = (printed_name (codes "var") refl refl refl, refl)
kind_plain kind.Row = (printed_name (codes "row") refl refl refl, refl)
kind_plain kind.Set = (printed_name (codes "set") refl refl refl, refl)
kind_plain kind.Paths = (printed_name (codes "paths") refl refl refl, refl)

mult_kind_found : (k : MultKind) (left : Words) → one_of mult_kinds (kind_word k) left ≡ Ok (k, left)
mult_kind_found kind.Var left = refl
mult_kind_found kind.Row left = refl
mult_kind_found kind.Set left = refl
mult_kind_found kind.Paths left = refl

mult_kind_one : OneWord (one_of mult_kinds) kind_word Any
mult_kind_one = stated mult_kinds (refl, tt, (refl, tt, (refl, tt, (refl, tt, tt)))) (λ k h. kind_plain k) (λ k left h. mult_kind_found k left)

abbrev Splits : MultKind → Type 0
Splits kind.Var = Unit {0}
Splits kind.Paths = Unit {0}
Splits k = ⊥

split_kind_found : (k : MultKind) (left : Words) → Splits k → one_of split_kinds (kind_word k) left ≡ Ok (k, left)
split_kind_found kind.Var left h = refl
split_kind_found kind.Row left h = absurd h
split_kind_found kind.Set left h = absurd h
split_kind_found kind.Paths left h = refl

split_kind_one : OneWord (one_of split_kinds) kind_word Splits
split_kind_one = stated split_kinds (refl, tt, (refl, tt, tt)) (λ k h. kind_plain k) (λ k left h. split_kind_found k left h)

-- how many there are of each kind
kinds_few : (s : Sizes) → SizesFit s → (k : MultKind) → kind_count s k ≤ 2 ^ 120
kinds_few s fit kind.Var = let few = fit.vars in omega (arith, few)
kinds_few s fit kind.Row = let few = fit.rows in omega (arith, few)
kinds_few s fit kind.Set = let few = fit.sets in omega (arith, few)
kinds_few s fit kind.Paths = let few = fit.graphs in omega (arith, few)

graphs_few : (s : Sizes) → SizesFit s → length s.graphs ≤ 2 ^ 120
graphs_few s fit = let few = fit.graphs in omega (arith, few)

-- `mult KIND NUMBER M`
abbrev pub mult_further : MultLine → Words
mult_further m = kind_word m.kind ∷ decimal m.number ∷ signed_decimal m.value ∷ []

abbrev last_mult : List MultLine → Option (ℕ × ℕ)
last_mult before = option_map mult_key (last_of before)

pub mult-reads : (s : Sizes) → SizesFit s → (before : List MultLine) → Reads (mult_wanted s before) Any mult_further (MultMay s before) Anything
mult-reads s fit before =
    same_as
    (next {holds2 = MultMay s before} (λ m. m.kind) (one_word mult_kind_one) (λ kind any.
    same_as
    (unless fault.Order (falls (last_mult before) (rank kind)) (λ m. falls (last_mult before) (rank m.kind) ≡ false) (λ m k none. rw k.1 none) (λ m k none. rw (← k.1) none) (λ none.
    next (λ m. m.number) (known_below-reads (kind_count s kind) (kinds_few s fit kind)) (λ number n.
    unless fault.Order (not (rises (last_mult before) (rank kind) number)) (λ m. rises (last_mult before) (rank m.kind) m.number ≡ true) (λ m k up. rw (k.0.1, k.1) (not_true _ up)) (λ m k up. rw (← k.0.1, ← k.1) (true_not _ up)) (λ up.
    last (λ m. m.value) (λ value. record { kind = kind; number = number; value = value }) (number_in-reads (neg_ℤ (pos 281474976710656)) (pos 281474976710656) (refl, refl)) (λ value v. (((tt, refl), refl), refl)) (λ m k. rw (← k.0.1, ← k.1) refl)))))
    (λ m k h. (refl, (h.0, rw k.1 h.1.0, h.1.1.0, h.1.1.1)))
    (λ m k h. (h.0, (rw (← k.1) h.1, (h.2, h.3))))))
    (λ m k h. (refl, h.1))
    (λ m k h. (tt, h))

-- one thing for each place, where the place does not matter
at_all : {A : Type 0} (P : A → Type 0) (ks : List ℕ) (xs : List A) → AllAt (λ _ x. P x) ks xs → (length xs ≡ length ks) × All P xs
at_all P [] [] all = (refl, All-nil P)
at_all P [] (x ∷ xs) all = absurd all
at_all P (k ∷ ks) [] all = absurd all
at_all P (k ∷ ks) (x ∷ xs) all = let rest = at_all P ks xs all.1 in (omega (arith, rest.0), All-cons P x xs all.0 rest.1)

all_at : {A : Type 0} (P : A → Type 0) (ks : List ℕ) (xs : List A) → length xs ≡ length ks → All P xs → AllAt (λ _ x. P x) ks xs
all_at P [] [] same all = tt
all_at P [] (x ∷ xs) same all = absurd (omega (arith, same))
all_at P (k ∷ ks) [] same all = absurd (omega (arith, same))
all_at P (k ∷ ks) (x ∷ xs) same all = (All-head P x xs all, all_at P ks xs (omega (arith, same)) (All-tail P x xs all))

words_all : {A : Type 0} (f : A → Words) (ks : List ℕ) (xs : List A) → length xs ≡ length ks → words_at (λ _ x. f x) ks xs ≡ flat_map f xs
words_all f [] [] same = refl
words_all f [] (x ∷ xs) same = absurd (omega (arith, same))
words_all f (k ∷ ks) [] same = absurd (omega (arith, same))
words_all f (k ∷ ks) (x ∷ xs) same = ap (λ ws. f x ++ ws) (words_all f ks xs (omega (arith, same)))

-- `cut DEN Y N`, the pairs, the memory
cut_set-reads : (sets : ℕ) → sets ≤ 512 → Reads (cut_set_wanted sets) Any cut_set_words (CutSetFits sets) Anything
cut_set-reads sets few =
    same_as
    (next (λ c. c.set) (known_below-reads sets (omega (arith, few))) (λ set k.
    last (λ c. c.num) (λ num. record { set = set; num = num }) (natural_in-reads 0 255 refl) (λ num n. ((tt, refl), refl)) (λ c k. rw (← k.1) refl)))
    (λ c k h. (refl, (h.0, h.1.1)))
    (λ c k h. (h.0, (omega arith, h.1)))

abbrev pub cut_further : CutLine → Words
cut_further c =
    decimal c.cut.den ∷ decimal c.weight ∷ decimal (length c.cut.sets) ∷ flat_map cut_set_words c.cut.sets ++ set_words c.cut.memory

pub cut-reads : (sets : ℕ) → sets ≤ 512 → Reads (cut_wanted sets) Any cut_further (CutLineFits sets) AtEnd
cut-reads sets few =
    same_as
    (next (λ c. c.cut.den) (natural_in-reads 0 255 refl) (λ den d.
    next (λ c. c.weight) (natural_in-reads 0 281474976710656 refl) (λ weight w.
    next {holds2 = λ c. All (CutSetFits sets) c.cut.sets × SetFits sets c.cut.memory} (λ c. length c.cut.sets) (natural_in-reads 0 4294967295 refl) (λ count n.
    same_as
    (next (λ c. c.cut.sets) (for_each-reads (λ place. cut_set_wanted sets) (λ place. cut_set-reads sets few) (range_with_len 0 count)) (λ pairs ps.
    last (λ c. c.cut.memory) (λ memory. record { weight = weight; cut = record { den = den; sets = pairs; memory = memory } }) (sets-reads sets few) (λ memory m. (((((tt, refl), refl), many count pairs ps), refl), refl)) (λ c k. rw (← k.0.0.0.1, ← k.0.0.1, ← k.1) refl)))
    (λ c k h. let all = at_all (CutSetFits sets) (range_with_len 0 count) c.cut.sets h.0 in
    (ap (λ ws. ws ++ set_words c.cut.memory) (words_all cut_set_words (range_with_len 0 count) c.cut.sets all.0), (all.1, h.1)))
    (λ c k h. (all_at (CutSetFits sets) (range_with_len 0 count) c.cut.sets (k.1 ∙ sym (length-range_with_len 0 count)) h.0, h.1))))))
    (λ c k h. (refl, record { den = h.0.1; weight = h.1.0.1; count = h.1.1.0.1; each = h.1.1.1.0; memory = h.1.1.1.1 }))
    (λ c k h. ((omega arith, h.den), ((omega arith, h.weight), ((omega arith, h.count), (h.each, h.memory)))))
  where
    many : (count : ℕ) (pairs : List CutSet) → AllAt (λ place c. CutSetFits sets c) (range_with_len 0 count) pairs → length pairs ≡ count
    many count pairs all = (at_all (CutSetFits sets) (range_with_len 0 count) pairs all).0 ∙ length-range_with_len 0 count

-- `near G V SET ..`
abbrev pub near_further : NearLine → Words
near_further n = decimal n.0 ∷ decimal n.1 ∷ set_words n.2

abbrev last_near : List NearLine → Option (ℕ × ℕ)
last_near before = option_map near_key (last_of before)

pub vertices_few : (s : Sizes) → SizesFit s → (g : ℕ) → GraphSizesFit (graph_at s g)
vertices_few s fit g = by_list s.graphs g fit.each
  where
    by_list : (graphs : List _) (g : ℕ) → All GraphSizesFit graphs → GraphSizesFit (graph_at (record s { graphs = graphs }) g)
    by_list [] g all = record { vertices = omega arith; mains = omega arith; seconds = omega arith }
    by_list (x ∷ xs) zero all = All-head GraphSizesFit x xs all
    by_list (x ∷ xs) (suc g) all = by_list xs g (All-tail GraphSizesFit x xs all)

abbrev NearRest : Sizes → List NearLine → NearLine → Type 0
NearRest s before n =
    (falls (last_near before) n.0 ≡ false) × (n.1 < (graph_at s n.0).vertices) × (rises (last_near before) n.0 n.1 ≡ true) × SetFits s.sets n.2

pub near-reads : (s : Sizes) → SizesFit s → (before : List NearLine) → Reads (near_wanted s before) Any near_further (NearMay s before) AtEnd
near-reads s fit before =
    same_as
    (next {holds2 = NearRest s before} (λ n. n.0) (known_below-reads (length s.graphs) (graphs_few s fit)) (λ graph g.
    same_as
    (unless fault.Order (falls (last_near before) graph) (λ n. falls (last_near before) n.0 ≡ false) (λ n k none. rw k.1 none) (λ n k none. rw (← k.1) none) (λ none.
    next (λ n. n.1) (known_below-reads (graph_at s graph).vertices (let few = (vertices_few s fit graph).vertices in omega (arith, few))) (λ vertex v.
    unless fault.Order (not (rises (last_near before) graph vertex)) (λ n. rises (last_near before) n.0 n.1 ≡ true) (λ n k up. rw (k.0.1, k.1) (not_true _ up)) (λ n k up. rw (← k.0.1, ← k.1) (true_not _ up)) (λ up.
    last (λ n. n.2) (λ sets. (graph, vertex, sets)) (sets-reads s.sets fit.sets) (λ sets m. (((tt, refl), refl), refl)) (λ n k. rw (← k.0.1, ← k.1) refl)))))
    (λ n k h. (refl, (h.0, rw k.1 h.1.0, h.1.1.0, h.1.1.1)))
    (λ n k h. (h.0, (rw (← k.1) h.1, (h.2, h.3))))))
    (λ n k h. (refl, (h.0, h.1.0, h.1.1, h.1.2, h.1.3)))
    (λ n k h. (h.0, (h.1, h.2, h.3, h.4)))

-- the form of a table
abbrev half_words : Form → Words
half_words (form.Half t) = signed_decimal t ∷ []
half_words f = []

abbrev IsHalf : Form → Type 0
IsHalf (form.Half t) = Unit {0}
IsHalf f = ⊥

half-reads : Reads (number_in (neg_ℤ (pos (2 ^ 31))) (pos (2 ^ 31 - 1)) >>= (λ t. give (form.Half t))) Any half_words (λ f. IsHalf f × FormFits f) Anything
half-reads = made form.Half (number_in-reads (neg_ℤ (pos (2 ^ 31))) (pos (2 ^ 31 - 1)) (refl, refl)) (λ t h. (tt, refl, (tt, h))) (λ f k h. from f h)
  where
    from : (f : Form) → IsHalf f × FormFits f → (t : ℤ) × (form.Half t ≡ f) × IsIn (neg_ℤ (pos (2 ^ 31))) (pos (2 ^ 31 - 1)) t
    from form.Full h = absurd h.0
    from (form.Half t) h = (t, refl, h.1)
    from form.Both h = absurd h.0

form_known : (w : List ℕ) (words : Words) (y : Form × Words) → form_of_word w words ≡ Ok y → Spent Any form_words FormFits (w ∷ words) y
form_known w words y h = full (bytes_eq w (codes "full")) refl h
  where
    one : (f : Form) (key : List ℕ) → number_of key ≡ None → form_words f ≡ key ∷ [] → FormFits f → bytes_eq w key ≡ true → ◌≡◌ {A = Result (Form × Words) Kind} (give f words) (Ok y) → Spent Any form_words FormFits (w ∷ words) y
    one f key plain words_are fits is h =
        let same : ◌≡◌ {A = Form × Words} (f, words) y = cc in
        subst (λ (z : Form × Words). Spent Any form_words FormFits (w ∷ words) z) same
        (record { front = w ∷ []; is = refl; knows = tt; spells = ap (λ v. v ∷ []) (printed_plain w key plain ((bytes_eq-Decides w key).0 is)) ∙ sym words_are; fits = fits })

    half_form : (f : Form) → IsHalf f → codes "half" ∷ half_words f ≡ form_words f
    half_form form.Full h = absurd h
    half_form (form.Half t) h = refl
    half_form form.Both h = absurd h

    half : (b : Bool) → bytes_eq w (codes "half") ≡ b → (if b then (number_in (neg_ℤ (pos (2 ^ 31))) (pos (2 ^ 31 - 1)) >>= (λ t. give (form.Half t))) else (λ left. Err fault.Word)) words ≡ Ok y → Spent Any form_words FormFits (w ∷ words) y
    half true is h =
        let spent = half-reads.told words y h in
        record {
          front = w ∷ spent.front;
          is = ap (λ ws. w ∷ ws) spent.is;
          knows = tt;
          spells = ap (λ v. v ∷ map in_printed_form spent.front) (printed_plain w (codes "half") refl ((bytes_eq-Decides w (codes "half")).0 is)) ∙ (ap (λ ws. codes "half" ∷ ws) spent.spells ∙ half_form y.0 spent.fits.0);
          fits = spent.fits.1;
        }
    half false is h = cc

    both : (b : Bool) → bytes_eq w (codes "both") ≡ b → (if b then give form.Both else (if bytes_eq w (codes "half") then (number_in (neg_ℤ (pos (2 ^ 31))) (pos (2 ^ 31 - 1)) >>= (λ t. give (form.Half t))) else (λ left. Err fault.Word))) words ≡ Ok y → Spent Any form_words FormFits (w ∷ words) y
    both true is h = one form.Both (codes "both") refl refl tt is h
    both false is h = half (bytes_eq w (codes "half")) refl h

    full : (b : Bool) → bytes_eq w (codes "full") ≡ b → (if b then give form.Full else (if bytes_eq w (codes "both") then give form.Both else (if bytes_eq w (codes "half") then (number_in (neg_ℤ (pos (2 ^ 31))) (pos (2 ^ 31 - 1)) >>= (λ t. give (form.Half t))) else (λ left. Err fault.Word)))) words ≡ Ok y → Spent Any form_words FormFits (w ∷ words) y
    full true is h = one form.Full (codes "full") refl refl tt is h
    full false is h = both (bytes_eq w (codes "both")) refl h

form-reads : Reads (word >>= form_of_word) Any form_words FormFits Anything
form-reads = record { told = told; taken = taken; printed = λ f k h. printed f h }
  where
    told : (words : Words) (y : Form × Words) → (word >>= form_of_word) words ≡ Ok y → Spent Any form_words FormFits words y
    told [] y h = cc
    told (w ∷ words) y h = form_known w words y h

    taken : (f : Form) (words left : Words) → Any f → FormFits f → map in_printed_form words ≡ form_words f → Anything left → (word >>= form_of_word) (words ++ left) ≡ Ok (f, left)
    taken form.Full [] left k h e any = cc
    taken form.Full (w ∷ words) left k h e any =
        let head : in_printed_form w ≡ codes "full" = cc in
        let tail : map in_printed_form words ≡ [] = cc in
        rw (plain_is w (codes "full") refl head, no_items in_printed_form words tail) refl
    taken (form.Half t) [] left k h e any = cc
    taken (form.Half t) (w ∷ words) left k h e any =
        let head : in_printed_form w ≡ codes "half" = cc in
        let tail : map in_printed_form words ≡ signed_decimal t ∷ [] = cc in
        rw (plain_is w (codes "half") refl head) (half-reads.taken (form.Half t) words left tt (tt, h) tail tt)
    taken form.Both [] left k h e any = cc
    taken form.Both (w ∷ words) left k h e any =
        let head : in_printed_form w ≡ codes "both" = cc in
        let tail : map in_printed_form words ≡ [] = cc in
        rw (plain_is w (codes "both") refl head, no_items in_printed_form words tail) refl

    printed : (f : Form) → FormFits f → All IsPrinted (form_words f)
    printed form.Full h = All-cons IsPrinted (codes "full") [] (printed_name (codes "full") refl refl refl) (All-nil IsPrinted)
    printed (form.Half t) h = All-cons IsPrinted (codes "half") (signed_decimal t ∷ []) (printed_name (codes "half") refl refl refl) (half-reads.printed (form.Half t) tt (tt, h))
    printed form.Both h = All-cons IsPrinted (codes "both") [] (printed_name (codes "both") refl refl refl) (All-nil IsPrinted)

-- the least of a table
least_form : (least : Option ℤ) → or_name (codes "none") signed_decimal least ∷ [] ≡ least_word least ∷ []
least_form None = refl
least_form (Some z) = refl

least-reads : Reads least_wanted Any (λ least. least_word least ∷ []) (λ least. IfSome least (IsWithin (2 ^ 112))) Anything
least-reads =
    same_as (one_word (unless_name (codes "none") (printed_name (codes "none") refl refl refl) refl (λ z h e. not_name (codes "none") refl (neg_ℤ (pos (2 ^ 112))) (pos (2 ^ 112)) z (refl, refl) h e) (limited_one (neg_ℤ (pos (2 ^ 112))) (pos (2 ^ 112)) (refl, refl))))
    (λ least k h. (least_form least, h))
    (λ least k h. h)

-- `table G FORM LEAST`
abbrev pub table_further : ProofTable → Words
table_further t = decimal t.graph ∷ form_words t.form ++ least_word t.least ∷ []

abbrev made_table : ℕ → Form → Option ℤ → List Label → List Label → ProofTable
made_table graph form least fore back = record { graph = graph; form = form; least = least; fore = fore; back = back }

abbrev pub IsBare : ProofTable → Type 0
IsBare t = (t.fore ≡ []) × (t.back ≡ [])

pub table-reads : (s : Sizes) → SizesFit s → (before : List ProofTable) → Reads (table_wanted s before) Any table_further (λ t. TableMay s before t × IsBare t) Anything
table-reads s fit before =
    same_as
    (next (λ t. t.graph) (known_below-reads (length s.graphs) (graphs_few s fit)) (λ graph g.
    unless fault.Order (not (is_above (option_map (λ t. t.graph) (last_of before)) graph)) (λ t. is_above (option_map (λ (u : ProofTable). u.graph) (last_of before)) t.graph ≡ true) (λ t k none. rw k.1 (not_true _ none)) (λ t k above. rw (← k.1) (true_not _ above)) (λ above.
    next (λ t. t.form) form-reads (λ form f.
    made {form2 = λ t. least_word t.least ∷ []} {holds2 = λ t. IfSome t.least (IsWithin (2 ^ 112)) × IsBare t} (λ least. record { graph = graph; form = form; least = least; fore = []; back = [] }) least-reads (λ least l. (((tt, refl), refl), refl, (l, (refl, refl)))) (λ t k h. (t.least, bare t graph form k.0.1 k.1 h.1.0 h.1.1, h.0))))))
    (λ t k h. (refl, ((h.0, h.1.0, h.1.1.0, h.1.1.1.0), h.1.1.1.1)))
    (λ t k h. (h.0.0, (h.0.1, (h.0.2, (h.0.3, h.1)))))
  where
    bare : (t : ProofTable) (graph : ℕ) (form : Form) → t.graph ≡ graph → t.form ≡ form → t.fore ≡ [] → t.back ≡ [] → record { graph = graph; form = form; least = t.least; fore = []; back = [] } ≡ t
    bare t graph form g f fore back =
        ap (λ gr. made_table gr form t.least [] []) (sym g) ∙ (ap (λ fo. made_table t.graph fo t.least [] []) (sym f)
        ∙ (ap (λ ls. made_table t.graph t.form t.least ls []) (sym fore) ∙ ap (λ ls. made_table t.graph t.form t.least t.fore ls) (sym back)))

-- `drop G ARC ..`, `pre PARENT ARC`
abbrev pub drop_further : DropLine → Words
drop_further d = decimal d.graph ∷ map decimal d.arcs

pub drop-reads : (s : Sizes) → SizesFit s → Reads (drop_wanted s) Any drop_further (DropFits s) AtEnd
drop-reads s fit =
    same_as
    (next (λ d. d.graph) (known_below-reads (length s.graphs) (graphs_few s fit)) (λ graph g.
    last (λ d. d.arcs) (λ arcs. record { graph = graph; arcs = arcs }) arcs-reads (λ arcs a. ((tt, refl), refl)) (λ d k. rw (← k.1) refl)))
    (λ d k h. (refl, record { graph = h.0; some_arcs = h.1.0; arcs = h.1.1 }))
    (λ d k h. (h.graph, (h.some_arcs, h.arcs)))

abbrev pub step_further : Step → Words
step_further p = decimal p.parent ∷ decimal p.arc ∷ []

pub step-reads : Reads step_wanted Any step_further StepFits Anything
step-reads =
    next (λ p. p.parent) name-reads (λ parent n.
    last (λ p. p.arc) (λ arc. record { parent = parent; arc = arc }) name-reads (λ arc a. ((tt, refl), refl)) (λ p k. rw (← k.1) refl))

pub tree-reads : (s : Sizes) → SizesFit s → Reads (known_below (length s.graphs)) Any (λ g. decimal g ∷ []) (λ g. g < length s.graphs) Anything
tree-reads s fit = known_below-reads (length s.graphs) (graphs_few s fit)

-- `split KIND NUMBER D`
split-at : Reads split_at Any (λ d. signed_decimal d ∷ []) (IsSigned 63) Anything
split-at = number_in-reads (neg_ℤ (pos (2 ^ 63))) (pos (2 ^ 63 - 1)) (refl, refl)

abbrev kind_in : Quantity → MultKind
kind_in (quantity.Paths n) = kind.Paths
kind_in (quantity.Row n) = kind.Row
kind_in (quantity.Set n) = kind.Set
kind_in q = kind.Var

abbrev number_of_it : Quantity → ℕ
number_of_it (quantity.Var n) = n
number_of_it (quantity.Row n) = n
number_of_it (quantity.Set n) = n
number_of_it (quantity.Cut n) = n
number_of_it (quantity.Paths n) = n

abbrev split_in : Head → Split
split_in (head.Split split) = split
split_in (head.CountSplit walk at) = record { quantity = quantity.Var walk; at = at }
split_in h = record { quantity = quantity.Var 0; at = pos 0 }

abbrev IsSplit : Head → Type 0
IsSplit (head.Split split) = Splits (kind_in split.quantity) × (quantity_of (kind_in split.quantity) (number_of_it split.quantity) ≡ split.quantity)
IsSplit h = ⊥

abbrev pub split_further : Head → Words
split_further h = quantity_words (split_in h).quantity ++ signed_decimal (split_in h).at ∷ []

abbrev pub IsSplitHead : Head → Type 0
IsSplitHead (head.Split split) = Unit {0}
IsSplitHead h = ⊥

quantity_same : (k : MultKind) (n : ℕ) → Splits k → (kind_in (quantity_of k n) ≡ k) × (number_of_it (quantity_of k n) ≡ n)
quantity_same kind.Var n h = (refl, refl)
quantity_same kind.Row n h = absurd h
quantity_same kind.Set n h = absurd h
quantity_same kind.Paths n h = (refl, refl)

is_split : (k : MultKind) (n : ℕ) (at : ℤ) → Splits k → IsSplit (head.Split (record { quantity = quantity_of k n; at = at }))
is_split kind.Var n at h = (tt, refl)
is_split kind.Row n at h = absurd h
is_split kind.Set n at h = absurd h
is_split kind.Paths n at h = (tt, refl)

made_again : (h : Head) (k : MultKind) (n : ℕ) → IsSplit h → kind_in (split_in h).quantity ≡ k → number_of_it (split_in h).quantity ≡ n → head.Split (record { quantity = quantity_of k n; at = (split_in h).at }) ≡ h
made_again (head.Split split) k n is e f = rw (← e, ← f) (ap (λ q. head.Split (record split { quantity = q })) is.1)
made_again head.Close k n is e f = absurd is
made_again head.Fix k n is e f = absurd is
made_again head.List k n is e f = absurd is
made_again (head.CountSplit walk at) k n is e f = absurd is
made_again head.CountClose k n is e f = absurd is
made_again head.Point k n is e f = absurd is

split_to : (s : Sizes) (h : Head) → IsSplit h → number_of_it (split_in h).quantity < kind_count s (kind_in (split_in h).quantity) → IsSigned 63 (split_in h).at → (kind_word (kind_in (split_in h).quantity) ∷ decimal (number_of_it (split_in h).quantity) ∷ signed_decimal (split_in h).at ∷ [] ≡ split_further h) × (HeadFits s h × IsSplitHead h)
split_to s (head.Split split) is below at = by_quantity split.quantity is below
  where
    by_quantity : (q : Quantity) → Splits (kind_in q) × (quantity_of (kind_in q) (number_of_it q) ≡ q) → number_of_it q < kind_count s (kind_in q) → (kind_word (kind_in q) ∷ decimal (number_of_it q) ∷ signed_decimal split.at ∷ [] ≡ quantity_words q ++ signed_decimal split.at ∷ []) × ((QuantityFits s q × IsSigned 63 split.at) × Unit {0})
    by_quantity (quantity.Var n) is below = (refl, ((below, at), tt))
    by_quantity (quantity.Row n) is below = absurd is.0
    by_quantity (quantity.Set n) is below = absurd is.0
    by_quantity (quantity.Cut n) is below = let same = is.1 in cc
    by_quantity (quantity.Paths n) is below = (refl, ((below, at), tt))
split_to s head.Close is below at = absurd is
split_to s head.Fix is below at = absurd is
split_to s head.List is below at = absurd is
split_to s (head.CountSplit walk d) is below at = absurd is
split_to s head.CountClose is below at = absurd is
split_to s head.Point is below at = absurd is

split_from : (s : Sizes) (h : Head) → HeadFits s h → IsSplitHead h → IsSplit h × (number_of_it (split_in h).quantity < kind_count s (kind_in (split_in h).quantity)) × IsSigned 63 (split_in h).at
split_from s (head.Split split) fits is = by_quantity split.quantity fits
  where
    by_quantity : (q : Quantity) → QuantityFits s q × IsSigned 63 split.at → (Splits (kind_in q) × (quantity_of (kind_in q) (number_of_it q) ≡ q)) × (number_of_it q < kind_count s (kind_in q)) × IsSigned 63 split.at
    by_quantity (quantity.Var n) fits = ((tt, refl), fits.0, fits.1)
    by_quantity (quantity.Row n) fits = absurd fits.0
    by_quantity (quantity.Set n) fits = absurd fits.0
    by_quantity (quantity.Cut n) fits = absurd fits.0
    by_quantity (quantity.Paths n) fits = ((tt, refl), fits.0, fits.1)
split_from s head.Close fits is = absurd is
split_from s head.Fix fits is = absurd is
split_from s head.List fits is = absurd is
split_from s (head.CountSplit walk d) fits is = absurd is
split_from s head.CountClose fits is = absurd is
split_from s head.Point fits is = absurd is

splits_of : (h : Head) → IsSplit h → Splits (kind_in (split_in h).quantity)
splits_of (head.Split split) is = is.0
splits_of head.Close is = absurd is
splits_of head.Fix is = absurd is
splits_of head.List is = absurd is
splits_of (head.CountSplit walk d) is = absurd is
splits_of head.CountClose is = absurd is
splits_of head.Point is = absurd is

pub split-reads : (s : Sizes) → SizesFit s → Reads (split_wanted s) Any split_further (λ h. HeadFits s h × IsSplitHead h) Anything
split-reads s fit =
    same_as
    (next {holds2 = λ h. (number_of_it (split_in h).quantity < kind_count s (kind_in (split_in h).quantity)) × (IsSplit h × IsSigned 63 (split_in h).at)} (λ h. kind_in (split_in h).quantity) (one_word split_kind_one) (λ kind c.
    same_as
    (next (λ h. number_of_it (split_in h).quantity) (known_below-reads (kind_count s kind) (kinds_few s fit kind)) (λ number n.
    made {form2 = λ h. signed_decimal (split_in h).at ∷ []} {holds2 = λ h. IsSplit h × IsSigned 63 (split_in h).at} (λ at. head.Split (record { quantity = quantity_of kind number; at = at })) split-at
    (λ at a. let same = quantity_same kind number c in (((tt, same.0), same.1), refl, (is_split kind number at c, a)))
    (λ h k i. ((split_in h).at, made_again h kind number i.0 k.0.1 k.1, i.1))))
    (λ h k i. (refl, (rw k.1 i.0, i.1)))
    (λ h k i. (rw (← k.1) i.0, i.1))))
    (λ h k i. split_to s h i.1.1.0 i.1.0 i.1.1.1)
    (λ h k i. let from = split_from s h i.0 i.1 in (splits_of h from.0, (from.1, (from.0, from.2))))

-- `csplit WALK D`
abbrev walk_in : Head → ℕ
walk_in (head.CountSplit walk at) = walk
walk_in h = 0

abbrev pub count_split_further : Head → Words
count_split_further h = decimal (walk_in h) ∷ signed_decimal (split_in h).at ∷ []

abbrev pub IsCountSplitHead : Head → Type 0
IsCountSplitHead (head.CountSplit walk at) = Unit {0}
IsCountSplitHead h = ⊥

pub count_split-reads : (s : Sizes) → Reads count_split_wanted Any count_split_further (λ h. HeadFits s h × IsCountSplitHead h) Anything
count_split-reads s =
    same_as
    (next (λ h. walk_in h) name-reads (λ walk n.
    made {form2 = λ h. signed_decimal (split_in h).at ∷ []} {holds2 = λ h. IsCountSplitHead h × IsSigned 63 (split_in h).at} (λ at. head.CountSplit walk at) split-at
    (λ at a. ((tt, refl), refl, (tt, a)))
    (λ h k i. ((split_in h).at, again h walk i.0 k.1, i.1))))
    (λ h k i. (refl, (fits h i.1.0 i.0 i.1.1, i.1.0)))
    (λ h k i. back h i.1 i.0)
  where
    again : (h : Head) (walk : ℕ) → IsCountSplitHead h → walk_in h ≡ walk → head.CountSplit walk (split_in h).at ≡ h
    again (head.CountSplit w at) walk is e = rw (← e) refl
    again (head.Split split) walk is e = absurd is
    again head.Close walk is e = absurd is
    again head.Fix walk is e = absurd is
    again head.List walk is e = absurd is
    again head.CountClose walk is e = absurd is
    again head.Point walk is e = absurd is

    fits : (h : Head) → IsCountSplitHead h → walk_in h ≤ 4294967295 → IsSigned 63 (split_in h).at → HeadFits s h
    fits (head.CountSplit w at) is low d = (low, d)
    fits (head.Split split) is low d = absurd is
    fits head.Close is low d = absurd is
    fits head.Fix is low d = absurd is
    fits head.List is low d = absurd is
    fits head.CountClose is low d = absurd is
    fits head.Point is low d = absurd is

    back : (h : Head) → IsCountSplitHead h → HeadFits s h → (walk_in h ≤ 4294967295) × (IsCountSplitHead h × IsSigned 63 (split_in h).at)
    back (head.CountSplit w at) is fit = (fit.0, (tt, fit.1))
    back (head.Split split) is fit = absurd is
    back head.Close is fit = absurd is
    back head.Fix is fit = absurd is
    back head.List is fit = absurd is
    back head.CountClose is fit = absurd is
    back head.Point is fit = absurd is
