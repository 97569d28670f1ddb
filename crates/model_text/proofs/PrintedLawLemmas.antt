-- Of the texts of a model exactly one has the printed form.
use Rattle.std.proofs.Common.{◌≡◌, ◌≢◌, ℕ, Bool, true, false, List, [], ◌∷◌, ◌++◌, map, refl, ap, subst, sym, ◌∙◌, inl, inr, arith}
use Rattle.std.specs.Prelude.{◌==◌, All, codes, if◌then◌else◌}
use Rattle.std.specs.List.{flat_map, zip}
use Rattle.std.specs.Fmt.{decimal}
use Rattle.std.proofs.lemmas.Bool.Decides.{nat_tests}
use Rattle.std.proofs.lemmas.List.Elements.{All-nil, All-cons, All-append, All-head, All-tail}
use Rattle.route_model.specs.Parts.{ModelParts}
use Rattle.route_model.specs.Fit.{IsModel}
use Rattle.path_graph.specs.Walk.{GraphParts}
use Rattle.line_text.specs.Words.{Words}
use Rattle.line_text.specs.Spelling.{in_printed_form, lines_with_words, text_of_lines, IsPrintedText}
use Rattle.line_text.proofs.PrintedWordLemmas.{IsPrintedLine, plain_line}
use Rattle.line_text.proofs.NumberWordLemmas.{decimal_same}
use Rattle.line_text.proofs.PlainLineLemmas.{lines_with_words-text}
use Rattle.line_text.proofs.TextLaws.{lines_printed}
use Rattle.model_text.specs.LineKinds.{version_words}
use Rattle.model_text.specs.ModelText.{model_text}
use Rattle.model_text.specs.ModelLines.{var_words, row_words, sets_words, graph_words, vertex_words, arc_words, graph_lines, model_lines}
use Rattle.model_text.specs.Spelling.{IsSetsPart, Spells}
use Rattle.model_text.specs.PrintedText.{IsPrintedModelText, PrintedModelLaw, PrintedAgainLaw, PrintedPlanLaw}
use Rattle.model_text.proofs.PrintedTextLemmas.{printed_sets_part, printed_lines, model_text_is, printed_model, printed_spells, printed_version}
use Rattle.model_text.proofs.SpellsLawLemmas.{spells_one}
use Rattle.model_text.proofs.PlanLaws.{plan_text_spells, plan_text_printed, plan_text_only}

-- no line is `sets 0`
abbrev IsOther : Words → Type 0
IsOther words = words ≢ sets_words 0

other_lines : {X : Type 0} (words_of : X → Words) (xs : List X) → ((x : X) → IsOther (words_of x)) → All IsOther (map words_of xs)
other_lines words_of [] other = All-nil IsOther
other_lines words_of (x ∷ xs) other = All-cons IsOther (words_of x) (map words_of xs) (other x) (other_lines words_of xs other)

other_sets : (sets : ℕ) (b : Bool) → (sets == 0) ≡ b → All IsOther (if b then [] else sets_words sets ∷ [])
other_sets sets true e = All-nil IsOther
other_sets sets false e = All-cons IsOther (sets_words sets) [] (λ same. zero_is sets e same) (All-nil IsOther)
  where
    zero_is : (sets : ℕ) → (sets == 0) ≡ false → sets_words sets ≡ sets_words 0 → ⊥
    zero_is sets e same =
        let word : decimal sets ≡ decimal 0 = cc in
        let zero : sets ≡ 0 = decimal_same sets 0 (omega arith) word in
        let test : (sets == 0) ≡ true = grind (arith, nat_tests, zero) in
        let clash = sym test ∙ e in
        cc

other_graphs : (pairs : List (GraphParts × List (List ℕ))) → All IsOther (flat_map (λ p. graph_lines p.0 p.1) pairs)
other_graphs [] = All-nil IsOther
other_graphs (p ∷ pairs) =
    All-append IsOther (graph_lines p.0 p.1) (flat_map (λ q. graph_lines q.0 q.1) pairs)
    (All-cons IsOther (graph_words p.0) _ (λ same. cc)
    (All-append IsOther (map (vertex_words p.0.ends) p.0.vertices) (map (λ q. arc_words p.0.ends q.0 q.1) (zip p.0.arcs p.1))
    (other_lines (vertex_words p.0.ends) p.0.vertices (λ v same. cc))
    (other_lines (λ q. arc_words p.0.ends q.0 q.1) (zip p.0.arcs p.1) (λ a same. cc))))
    (other_graphs pairs)

other_model : (m : ModelParts) → All IsOther (version_words ∷ printed_lines m)
other_model m =
    let graphs : List Words = flat_map (λ p. graph_lines p.0 p.1) (zip m.graphs m.maps) in
    let sets : List Words = printed_sets_part m.sets in
    let vars : List Words = map var_words m.vars in
    let rows : List Words = map row_words m.rows in
    All-cons IsOther version_words (printed_lines m) (λ same. cc)
    (All-append IsOther (vars ++ rows ++ sets ++ graphs) ((codes "end" ∷ []) ∷ [])
    (All-append IsOther (vars ++ rows ++ sets) graphs
    (All-append IsOther (vars ++ rows) sets
    (All-append IsOther vars rows (other_lines var_words m.vars (λ v same. cc)) (other_lines row_words m.rows (λ r same. cc)))
    (other_sets m.sets (m.sets == 0) refl))
    (other_graphs (zip m.graphs m.maps)))
    (All-cons IsOther (codes "end" ∷ []) [] (λ same. cc) (All-nil IsOther)))

-- the printed text has the printed form
text_printed : (m : ModelParts) → IsModel m → IsPrintedModelText (model_text m)
text_printed m is =
    let lines : List Words = version_words ∷ printed_lines m in
    let all = All-cons IsPrintedLine version_words (printed_lines m) printed_version (printed_model m is) in
    subst IsPrintedModelText (model_text_is m)
    (record {
      form = lines_printed lines all;
      no_sets_zero = subst (All IsOther) (sym (lines_with_words-text lines (λ k d below. plain_line _ (all k d below)))) (other_model m);
    })

left_part : (xs ys : List Words) → All IsOther (xs ++ ys) → All IsOther xs
left_part [] ys all = All-nil IsOther
left_part (x ∷ xs) ys all =
    All-cons IsOther x xs (All-head IsOther x (xs ++ ys) all) (left_part xs ys (All-tail IsOther x (xs ++ ys) all))

right_part : (xs ys : List Words) → All IsOther (xs ++ ys) → All IsOther ys
right_part [] ys all = all
right_part (x ∷ xs) ys all = right_part xs ys (All-tail IsOther x (xs ++ ys) all)

-- the lines of a printed text that spells a model
abbrev with_sets : ModelParts → List Words → List Words
with_sets m sets = version_words ∷ model_lines m sets

words_are : (text : List ℕ) (m : ModelParts) → IsPrintedText text → (s : Spells text m) → lines_with_words text ≡ with_sets m s.sets
words_are text m printed s =
    let version = s.version in
    let words = s.words in
    let stays : map (map in_printed_form) (version_words ∷ s.lines) ≡ version_words ∷ s.lines = sym (ap (map (map in_printed_form)) version) ∙ (printed.numbers ∙ version) in
    let tail : map (map in_printed_form) s.lines ≡ s.lines = cc in
    version ∙ ap (λ ls. version_words ∷ ls) (sym tail ∙ words)

the_sets_part : (m : ModelParts) (sets : List Words) → IsSetsPart m.sets sets → All IsOther (with_sets m sets) → sets ≡ printed_sets_part m.sets
the_sets_part m sets part others = by_test (m.sets == 0) refl part
  where
    front : List Words
    front = map var_words m.vars ++ map row_words m.rows

    graphs : List Words
    graphs = flat_map (λ p. graph_lines p.0 p.1) (zip m.graphs m.maps)

    of_sets : All IsOther sets
    of_sets =
        let behind = All-tail IsOther version_words (model_lines m sets) others in
        let lines = left_part (front ++ sets ++ graphs) ((codes "end" ∷ []) ∷ []) behind in
        right_part front sets (left_part (front ++ sets) graphs lines)

    by_test : (b : Bool) → (m.sets == 0) ≡ b → IsSetsPart m.sets sets → sets ≡ (if b then [] else sets_words m.sets ∷ [])
    by_test true e (inl line) =
        let zero : m.sets ≡ 0 = grind (arith, nat_tests, e) in
        let is : sets ≡ sets_words 0 ∷ [] = line ∙ ap (λ n. sets_words n ∷ []) zero in
        absurd (All-head IsOther (sets_words 0) [] (subst (All IsOther) is of_sets) refl)
    by_test true e (inr none) = none.1
    by_test false e (inl line) = line
    by_test false e (inr none) = absurd (let zero = none.0 in grind (arith, nat_tests, e, zero))

text_only : (m : ModelParts) (text : List ℕ) → IsPrintedModelText text → Spells text m → text ≡ model_text m
text_only m text printed s =
    let words = words_are text m printed.form s in
    let others : All IsOther (with_sets m s.sets) = subst (All IsOther) words printed.no_sets_zero in
    let sets = the_sets_part m s.sets s.sets_part others in
    printed.form.spaced ∙ (ap text_of_lines (words ∙ ap (with_sets m) sets) ∙ model_text_is m)

pub printed_model_law : PrintedModelLaw
printed_model_law m is = record { printed = text_printed m is; spells = printed_spells m is; only = text_only m }

pub printed_again_law : PrintedAgainLaw
printed_again_law m n is s = ap model_text (spells_one (model_text m) n m s (printed_spells m is))

pub printed_plan_law : PrintedPlanLaw
printed_plan_law plan fits =
    record { printed = plan_text_printed plan fits; spells = plan_text_spells plan fits; only = λ text printed s. plan_text_only text plan printed s }
