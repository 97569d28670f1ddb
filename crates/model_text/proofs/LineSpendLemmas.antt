-- The words of each kind of line are those that the thing on it prints.
use Rattle.std.proofs.Common.{◌≡◌, ℕ, zero, suc, ◌+◌, ◌≤◌, ℤ, pos, List, [], ◌∷◌, ◌++◌, length, map, take, drop, refl, ap, ◌∙◌, arith}
use Rattle.std.specs.Prelude.{nat_lt, if◌then◌else◌, codes}
use Rattle.std.specs.List.{flat_map}
use Rattle.std.specs.Fmt.{decimal, signed_decimal}
use Rattle.std.proofs.lemmas.List.Concat.{flat_map_single}
use Rattle.path_graph.specs.declared.parts.Ends.{Ends}
use Rattle.path_graph.specs.Fit.{is_used_at, WindowFits, NeedFits, EndsFit}
use Rattle.path_graph.specs.Walk.{positions}
use Rattle.route_model.specs.declared.parts.Var.{Var}
use Rattle.route_model.specs.declared.parts.Row.{Row}
use Rattle.model_text.specs.declared.draft.Section.{Section}
use Rattle.line_text.specs.Words.{Words}
use Rattle.model_text.specs.LineWords.{var_wanted, row_wanted, sets_wanted, graph_wanted, vertex_wanted, arc_wanted}
use Rattle.model_text.specs.ModelText.{used, set_word, window_words}
use Rattle.model_text.specs.ModelLines.{var_words, row_words, sets_words, vertex_words, arc_words}
use Rattle.line_text.proofs.ListReads.{words_at}
use Rattle.model_text.proofs.FitLemmas.{six}
use Rattle.model_text.proofs.LineReads.{var-reads, row-reads, sets-reads, graph-reads, vertex-reads, arc-reads}
use Rattle.model_text.proofs.SpendLemmas.{Spends, weaker, spends}

pub var_wanted-spends : Spends var_wanted (λ v ws. codes "var" ∷ ws ≡ var_words v)
var_wanted-spends = weaker (spends var-reads) (λ v ws h. ap (λ us. codes "var" ∷ us) h.0)

pub row_wanted-spends : (vars : List Var) (rows : List Row) → length vars ≤ 30000 → Spends (row_wanted vars rows) (λ row ws. codes "row" ∷ ws ≡ row_words row)
row_wanted-spends vars rows few = weaker (spends (row-reads vars rows few)) (λ row ws h. ap (λ us. codes "row" ∷ us) h.0)

pub sets_wanted-spends : Spends sets_wanted (λ sets ws. codes "sets" ∷ ws ≡ sets_words sets)
sets_wanted-spends = weaker (spends sets-reads) (λ sets ws h. ap (λ us. codes "sets" ∷ us) h.0)

-- a graph line, with the number of vertices that it tells
abbrev pub begun_words : ℕ → Ends → Words
begun_words count ends =
    codes "graph"
    ∷ decimal count ∷ decimal ends.source ∷ decimal ends.sink ∷ decimal ends.low ∷ decimal ends.high
    ∷ decimal ends.mains ∷ decimal ends.seconds ∷ []

pub graph_wanted-spends : (sections : List Section) → Spends (graph_wanted sections) (λ g ws. codes "graph" ∷ ws ≡ begun_words g.0 g.1)
graph_wanted-spends sections = weaker (spends (graph-reads sections)) (λ g ws h. ap (λ us. codes "graph" ∷ us) h.0)

-- what stands at a position that is used
abbrev pub words_if : {A : Type 0} → (A → Words) → Ends → ℕ → A → Words
words_if W ends k x = if is_used_at ends k then W x else []

-- the positions that are used, in the order of `used`
abbrev at_positions : {A : Type 0} → (A → Words) → ℕ → ℕ → List A → Words
at_positions W mains seconds xs =
    words_at (λ k x. if (if nat_lt k 2 then nat_lt k mains else nat_lt k (2 + seconds)) then W x else []) positions xs

abbrev at_used : {A : Type 0} → (A → Words) → ℕ → ℕ → List A → Words
at_used W mains seconds xs = flat_map W (take mains xs ++ take seconds (drop 2 xs))

used_one : {A : Type 0} (W : A → Words) (seconds : ℕ) (x0 x1 x2 x3 x4 x5 : A) → seconds ≤ 4 → at_positions W 1 seconds (x0 ∷ x1 ∷ x2 ∷ x3 ∷ x4 ∷ x5 ∷ []) ≡ at_used W 1 seconds (x0 ∷ x1 ∷ x2 ∷ x3 ∷ x4 ∷ x5 ∷ [])
used_one W zero x0 x1 x2 x3 x4 x5 few = refl
used_one W (suc zero) x0 x1 x2 x3 x4 x5 few = refl
used_one W (suc (suc zero)) x0 x1 x2 x3 x4 x5 few = refl
used_one W (suc (suc (suc zero))) x0 x1 x2 x3 x4 x5 few = refl
used_one W (suc (suc (suc (suc zero)))) x0 x1 x2 x3 x4 x5 few = refl
used_one W (suc (suc (suc (suc (suc n))))) x0 x1 x2 x3 x4 x5 few = absurd (omega arith)

used_two : {A : Type 0} (W : A → Words) (seconds : ℕ) (x0 x1 x2 x3 x4 x5 : A) → seconds ≤ 4 → at_positions W 2 seconds (x0 ∷ x1 ∷ x2 ∷ x3 ∷ x4 ∷ x5 ∷ []) ≡ at_used W 2 seconds (x0 ∷ x1 ∷ x2 ∷ x3 ∷ x4 ∷ x5 ∷ [])
used_two W zero x0 x1 x2 x3 x4 x5 few = refl
used_two W (suc zero) x0 x1 x2 x3 x4 x5 few = refl
used_two W (suc (suc zero)) x0 x1 x2 x3 x4 x5 few = refl
used_two W (suc (suc (suc zero))) x0 x1 x2 x3 x4 x5 few = refl
used_two W (suc (suc (suc (suc zero)))) x0 x1 x2 x3 x4 x5 few = refl
used_two W (suc (suc (suc (suc (suc n))))) x0 x1 x2 x3 x4 x5 few = absurd (omega arith)

used_none : {A : Type 0} (W : A → Words) (seconds : ℕ) (x0 x1 x2 x3 x4 x5 : A) → seconds ≤ 4 → at_positions W 0 seconds (x0 ∷ x1 ∷ x2 ∷ x3 ∷ x4 ∷ x5 ∷ []) ≡ at_used W 0 seconds (x0 ∷ x1 ∷ x2 ∷ x3 ∷ x4 ∷ x5 ∷ [])
used_none W zero x0 x1 x2 x3 x4 x5 few = refl
used_none W (suc zero) x0 x1 x2 x3 x4 x5 few = refl
used_none W (suc (suc zero)) x0 x1 x2 x3 x4 x5 few = refl
used_none W (suc (suc (suc zero))) x0 x1 x2 x3 x4 x5 few = refl
used_none W (suc (suc (suc (suc zero)))) x0 x1 x2 x3 x4 x5 few = refl
used_none W (suc (suc (suc (suc (suc n))))) x0 x1 x2 x3 x4 x5 few = absurd (omega arith)

used_six : {A : Type 0} (W : A → Words) (mains seconds : ℕ) (x0 x1 x2 x3 x4 x5 : A) → mains ≤ 2 → seconds ≤ 4 → at_positions W mains seconds (x0 ∷ x1 ∷ x2 ∷ x3 ∷ x4 ∷ x5 ∷ []) ≡ at_used W mains seconds (x0 ∷ x1 ∷ x2 ∷ x3 ∷ x4 ∷ x5 ∷ [])
used_six W zero seconds x0 x1 x2 x3 x4 x5 most few = used_none W seconds x0 x1 x2 x3 x4 x5 few
used_six W (suc zero) seconds x0 x1 x2 x3 x4 x5 most few = used_one W seconds x0 x1 x2 x3 x4 x5 few
used_six W (suc (suc zero)) seconds x0 x1 x2 x3 x4 x5 most few = used_two W seconds x0 x1 x2 x3 x4 x5 few
used_six W (suc (suc (suc n))) seconds x0 x1 x2 x3 x4 x5 most few = absurd (omega arith)

pub used_at : {A : Type 0} (W : A → Words) (ends : Ends) (xs : List A) → ends.mains ≤ 2 → ends.seconds ≤ 4 → length xs ≡ 6 → words_at (words_if W ends) positions xs ≡ flat_map W (used ends xs)
used_at W ends (x0 ∷ x1 ∷ x2 ∷ x3 ∷ x4 ∷ x5 ∷ []) most few six = used_six W ends.mains ends.seconds x0 x1 x2 x3 x4 x5 most few
used_at W ends [] most few six = absurd (omega (arith, six))
used_at W ends (x0 ∷ []) most few six = absurd (omega (arith, six))
used_at W ends (x0 ∷ x1 ∷ []) most few six = absurd (omega (arith, six))
used_at W ends (x0 ∷ x1 ∷ x2 ∷ []) most few six = absurd (omega (arith, six))
used_at W ends (x0 ∷ x1 ∷ x2 ∷ x3 ∷ []) most few six = absurd (omega (arith, six))
used_at W ends (x0 ∷ x1 ∷ x2 ∷ x3 ∷ x4 ∷ []) most few six = absurd (omega (arith, six))
used_at W ends (x0 ∷ x1 ∷ x2 ∷ x3 ∷ x4 ∷ x5 ∷ x6 ∷ xs) most few six = absurd (omega (arith, six))

pub used_words : {A : Type 0} (W : A → Words) (ends : Ends) (count : ℕ) (xs : List A) → EndsFit ends count → length xs ≡ 6 → words_at (words_if W ends) positions xs ≡ flat_map W (used ends xs)
used_words W ends count xs fit six = used_at W ends xs fit.mains fit.seconds six

pub vertex_wanted-spends : (sets count : ℕ) (s : Section) → sets ≤ 512 → EndsFit s.ends count → Spends (vertex_wanted sets s) (λ v ws. codes "vertex" ∷ ws ≡ vertex_words s.ends v)
vertex_wanted-spends sets count s few fit =
    weaker (spends (vertex-reads sets s few)) (λ v ws h.
    let each = six (λ k. WindowFits (is_used_at s.ends k)) (record { low = pos 0; high = pos 0 }) v.windows h.1.windows in
    ap (λ us. codes "vertex" ∷ us) (h.0 ∙ ap (λ us. set_word v.set ∷ us) (used_words window_words s.ends count v.windows fit each.0)))

abbrev pub need_words : ℤ → Words
need_words need = signed_decimal need ∷ []

pub arc_numbers : (ends : Ends) (count : ℕ) (needs : List ℤ) (mapped : List ℕ) → EndsFit ends count → length needs ≡ 6 → words_at (words_if need_words ends) positions needs ++ flat_map (λ j. decimal j ∷ []) mapped ≡ map signed_decimal (used ends needs) ++ map decimal mapped
arc_numbers ends count needs mapped fit six =
    let needs_are : words_at (words_if need_words ends) positions needs ≡ map signed_decimal (used ends needs) = used_words need_words ends count needs fit six ∙ flat_map_single signed_decimal (used ends needs) in
    rw (needs_are, flat_map_single decimal mapped) refl

pub arc_wanted-spends : (vars count : ℕ) (s : Section) → vars ≤ 30000 → length s.vertices ≤ 1024 → EndsFit s.ends count → Spends (arc_wanted vars s) (λ a ws. codes "arc" ∷ ws ≡ arc_words s.ends a.0 a.1)
arc_wanted-spends vars count s few_vars few fit =
    weaker (spends (arc-reads vars s few_vars few)) (λ a ws h.
    let each = six (λ k. NeedFits (is_used_at s.ends k) (nat_lt k 2)) (pos 0) a.0.needs h.1.needs in
    ap (λ us. codes "arc" ∷ us) (h.0 ∙ ap (λ us. decimal a.0.tail ∷ decimal a.0.head ∷ us) (arc_numbers s.ends count a.0.needs a.1 fit each.0)))
