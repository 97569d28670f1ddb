-- The printed text of a model spells that model.
use Rattle.std.proofs.Common.{◌≡◌, ℕ, ◌≤◌, ◌<◌, Bool, true, false, List, [], ◌∷◌, ◌++◌, length, map, get_or, subst, refl, ap, sym, ◌∙◌, arith, inl, inr, append-nil, append_assoc}
use Rattle.std.specs.Prelude.{◌==◌, All, codes, if◌then◌else◌, decimal}
use Rattle.std.specs.List.{flat_map, zip}
use Rattle.std.specs.Fmt.{digits}
use Rattle.std.proofs.lemmas.Bool.Decides.{nat_tests}
use Rattle.std.proofs.lemmas.List.{get_or_default}
use Rattle.std.proofs.lemmas.List.Folds.{flat_map-map}
use Rattle.std.proofs.lemmas.List.Elements.{All-nil, All-cons, All-append, All-map}
use Rattle.path_graph.specs.declared.parts.GraphArc.{GraphArc}
use Rattle.path_graph.specs.Walk.{GraphParts}
use Rattle.route_model.specs.Parts.{ModelParts}
use Rattle.route_model.specs.Fit.{IsModel, MapFits, MapsFit}
use Rattle.vrp_lex.specs.Text.{lines_of, has_bad_byte}
use Rattle.line_text.specs.Words.{Words}
use Rattle.line_text.specs.Spelling.{line}
use Rattle.model_text.specs.LineKinds.{version_words}
use Rattle.model_text.specs.ModelText.{sets_line, graph_line, vertex_line, arc_line, graph_text, model_text}
use Rattle.model_text.specs.ModelLines.{var_words, row_words, sets_words, vertex_words, arc_words, graph_lines, model_lines}
use Rattle.line_text.specs.Spelling.{lines_with_words}
use Rattle.model_text.specs.Spelling.{IsSetsPart, Spells}
use Rattle.line_text.specs.Spelling.{line_of_words, text_of_lines}
use Rattle.line_text.proofs.PlainLineLemmas.{IsPlainLine, text_accepted, lines_with_words-text, text_of-append, text_of-flat_map}
use Rattle.line_text.proofs.PrintedWordLemmas.{IsPrinted, IsPrintedLine, printed_name, printed_decimal, line_begins, plain_line, lines_stay, printed_end}
use Rattle.model_text.proofs.PrintedRowLemmas.{printed_var, printed_row, printed_sets}
use Rattle.model_text.proofs.ItemLemmas.{All-flat_map, All-zip}
use Rattle.model_text.proofs.PrintedGraphLemmas.{printed_graph_lines}

-- the printed lines of the sets: none where there is no set
abbrev pub printed_sets_part : ℕ → List Words
printed_sets_part sets = if sets == 0 then [] else sets_words sets ∷ []

abbrev pub printed_lines : ModelParts → List Words
printed_lines m = model_lines m (printed_sets_part m.sets)

sets_part_is : (sets : ℕ) → IsSetsPart sets (printed_sets_part sets)
sets_part_is sets = by (sets == 0) refl
  where
    by : (b : Bool) → (sets == 0) ≡ b → IsSetsPart sets (if b then [] else sets_words sets ∷ [])
    by true e = inr (grind (arith, nat_tests, e), refl)
    by false e = inl refl

-- the printed text is that of the printed lines
sets_text : (sets : ℕ) → text_of_lines (printed_sets_part sets) ≡ sets_line sets
sets_text sets = by (sets == 0)
  where
    by : (b : Bool) → text_of_lines (if b then [] else sets_words sets ∷ []) ≡ (if b then [] else line (codes "sets") (decimal sets ∷ []))
    by true = refl
    by false = append-nil (line (codes "sets") (decimal sets ∷ []))

graph_text_is : (g : GraphParts) (maps : List (List ℕ)) → text_of_lines (graph_lines g maps) ≡ graph_text g maps
graph_text_is g maps =
    let arc_of : GraphArc × List ℕ → Words = λ p. arc_words g.ends p.0 p.1 in
    ap (λ ts. graph_line g ++ ts)
    (text_of-append (map (vertex_words g.ends) g.vertices) (map arc_of (zip g.arcs maps))
    (flat_map-map line_of_words (vertex_words g.ends) g.vertices) (flat_map-map line_of_words arc_of (zip g.arcs maps)))
    ∙ sym (append_assoc (graph_line g) (flat_map (vertex_line g.ends) g.vertices) (flat_map (λ p. arc_line g.ends p.0 p.1) (zip g.arcs maps)))

pub model_text_is : (m : ModelParts) → text_of_lines (version_words ∷ printed_lines m) ≡ model_text m
model_text_is m =
    let lines_at : GraphParts × List (List ℕ) → List Words = λ p. graph_lines p.0 p.1 in
    let graphs : List Words = flat_map lines_at (zip m.graphs m.maps) in
    let end : List Words = (codes "end" ∷ []) ∷ [] in
    let sets : List Words = printed_sets_part m.sets in
    let vars : List Words = map var_words m.vars in
    let rows : List Words = map row_words m.rows in
    ap (λ ts. line (codes "vrpmodel") (codes "1" ∷ []) ++ ts)
    (text_of-append (vars ++ rows ++ sets ++ graphs) end
    (text_of-append (vars ++ rows ++ sets) graphs
    (text_of-append (vars ++ rows) sets
    (text_of-append vars rows (flat_map-map line_of_words var_words m.vars) (flat_map-map line_of_words row_words m.rows))
    (sets_text m.sets))
    (text_of-flat_map lines_at (λ p. graph_text p.0 p.1) (λ p. graph_text_is p.0 p.1) (zip m.graphs m.maps)))
    refl)

-- each word of the model's lines is printed
maps_fit : (vars : ℕ) (m : ModelParts) → MapsFit vars m.graphs m.maps → (k : ℕ) (d : List (List ℕ)) → k < length m.graphs → k < length m.maps → All (MapFits vars) (get_or m.maps k d)
maps_fit vars m fits k d below there = subst (All (MapFits vars)) (get_or_default m.maps k [] d there) (fits.each k below).each

printed_graphs : (m : ModelParts) → IsModel m → All IsPrintedLine (flat_map (λ p. graph_lines p.0 p.1) (zip m.graphs m.maps))
printed_graphs m is =
    let fits = is.fits in
    let lines : GraphParts × List (List ℕ) → List Words = λ p. graph_lines p.0 p.1 in
    All-flat_map IsPrintedLine lines (zip m.graphs m.maps)
    (All-zip (λ p. All IsPrintedLine (graph_lines p.0 p.1)) m.graphs m.maps (λ k graph maps below there.
    printed_graph_lines (length m.vars) fits.vars.few _ _ (fits.graphs.each k graph below).graph (maps_fit (length m.vars) m fits.maps k maps below there)))

printed_sets_lines : (sets : ℕ) → sets ≤ 512 → All IsPrintedLine (printed_sets_part sets)
printed_sets_lines sets few = by (sets == 0)
  where
    by : (b : Bool) → All IsPrintedLine (if b then [] else sets_words sets ∷ [])
    by true = All-nil IsPrintedLine
    by false = All-cons IsPrintedLine (sets_words sets) [] (printed_sets sets few) (All-nil IsPrintedLine)

pub printed_model : (m : ModelParts) → IsModel m → All IsPrintedLine (printed_lines m)
printed_model m is =
    let fits = is.fits in
    let graphs : List Words = flat_map (λ p. graph_lines p.0 p.1) (zip m.graphs m.maps) in
    let end : List Words = (codes "end" ∷ []) ∷ [] in
    let sets : List Words = printed_sets_part m.sets in
    let vars : List Words = map var_words m.vars in
    let rows : List Words = map row_words m.rows in
    All-append IsPrintedLine (vars ++ rows ++ sets ++ graphs) end
    (All-append IsPrintedLine (vars ++ rows ++ sets) graphs
    (All-append IsPrintedLine (vars ++ rows) sets
    (All-append IsPrintedLine vars rows
    (All-map IsPrintedLine var_words m.vars (λ k d below. printed_var _ (fits.vars.each k d below)))
    (All-map IsPrintedLine row_words m.rows (λ k d below. printed_row (length m.vars) fits.vars.few _ (fits.rows.each k d below))))
    (printed_sets_lines m.sets fits.few_sets))
    (printed_graphs m is))
    (All-cons IsPrintedLine (codes "end" ∷ []) [] printed_end (All-nil IsPrintedLine))

one_printed : IsPrinted (codes "1")
unfolding digits
one_printed = printed_decimal 1 (omega arith)

pub printed_version : IsPrintedLine version_words
printed_version =
    line_begins (codes "vrpmodel") (codes "1" ∷ []) (printed_name (codes "vrpmodel") refl refl refl)
    (All-cons IsPrinted (codes "1") [] one_printed (All-nil IsPrinted))

pub printed_spells : (m : ModelParts) → IsModel m → Spells (model_text m) m
printed_spells m is =
    let all = printed_model m is in
    let lines : List Words = printed_lines m in
    let plain = All-cons IsPlainLine version_words lines (plain_line version_words printed_version) (λ k d below. plain_line _ (all k d below)) in
    record {
      accepted = subst (λ text. All (λ line. has_bad_byte line ≡ false) (lines_of text)) (model_text_is m) (text_accepted (version_words ∷ lines) plain);
      lines = lines;
      sets = printed_sets_part m.sets;
      version = ap lines_with_words (sym (model_text_is m)) ∙ lines_with_words-text (version_words ∷ lines) plain;
      sets_part = sets_part_is m.sets;
      words = lines_stay lines all;
      model = is;
    }
