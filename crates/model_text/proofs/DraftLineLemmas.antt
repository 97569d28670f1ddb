-- The lines that a draft tells, and how a line more stands behind them.
use Rattle.std.proofs.Common.{◌≡◌, ℕ, List, [], ◌∷◌, ◌++◌, length, map, refl, ap, sym, ◌∙◌, arith, append_assoc, append-nil}
use Rattle.std.specs.Prelude.{codes, All}
use Rattle.std.specs.List.{flat_map, zip}
use Rattle.std.proofs.lemmas.List.{map-append}
use Rattle.std.proofs.lemmas.List.Concat.{flat_map-append}
use Rattle.std.proofs.lemmas.List.Elements.{All-head, All-tail}
use Rattle.path_graph.specs.declared.parts.Vertex.{Vertex}
use Rattle.path_graph.specs.declared.parts.GraphArc.{GraphArc}
use Rattle.path_graph.specs.declared.parts.Ends.{Ends}
use Rattle.route_model.specs.declared.parts.Var.{Var}
use Rattle.route_model.specs.declared.parts.Row.{Row}
use Rattle.model_text.specs.declared.draft.Stage.{Stage}
use Rattle.model_text.specs.declared.draft.Stage.TheVariants.{Opening, Variables, Rows, Vertices, Ended}
use Rattle.model_text.specs.declared.draft.Section.{Section}
use Rattle.model_text.specs.declared.draft.Draft.{Draft}
use Rattle.line_text.specs.Words.{Words}
use Rattle.model_text.specs.Draft.{begun_section, with_vertex, with_arc, sections_of, graph_of}
use Rattle.model_text.specs.ModelLines.{var_words, row_words, vertex_words, arc_words, graph_lines}
use Rattle.model_text.specs.Spelling.{IsSetsPart}
use Rattle.model_text.proofs.DraftFitLemmas.{SectionFits}
use Rattle.model_text.proofs.LineSpendLemmas.{begun_words}

-- a graph as far as it is read
abbrev pub section_lines : Section → List Words
section_lines s =
    begun_words s.count s.ends ∷ map (vertex_words s.ends) s.vertices ++ map (λ p. arc_words s.ends p.0 p.1) (zip s.arcs s.maps)

-- the variables, the rows, the lines for the sets, the graphs
abbrev pub parts_lines : List Var → List Row → List Words → List Section → List Words
parts_lines vars rows sets sections = map var_words vars ++ map row_words rows ++ sets ++ flat_map section_lines sections

-- the end line, once it is read
abbrev pub ending : Stage → List Words
ending Ended = (codes "end" ∷ []) ∷ []
ending _ = []

-- the lines for the sets: none before their place
abbrev pub StageSays : Stage → Draft → List Words → Type 0
StageSays Opening d sets = ⊥
StageSays Variables d sets = (d.sets ≡ 0) × (sets ≡ [])
StageSays Rows d sets = (d.sets ≡ 0) × (sets ≡ [])
StageSays Vertices d sets = IsSetsPart d.sets sets × (d.current.arcs ≡ [])
StageSays _ d sets = IsSetsPart d.sets sets

-- these lines were told behind the version line
pub record Said (d : Draft) (told : List Words) : Type 0 where
  pub sets : List Words
  pub stage : StageSays d.stage d sets
  pub words : told ≡ parts_lines d.vars d.rows sets (sections_of d) ++ ending d.stage

-- a line more
pub vars_more : (vars : List Var) (rows : List Row) (sets : List Words) (done : List Section) (v : Var) (told : List Words) → rows ≡ [] → sets ≡ [] → done ≡ [] → told ≡ parts_lines vars rows sets done ++ [] → told ++ var_words v ∷ [] ≡ parts_lines (vars ++ v ∷ []) rows sets done ++ []
vars_more vars rows sets done v told r s d e = rw (e, r, s, d) (simp (map-append, append-nil))

pub rows_more : (vars : List Var) (rows : List Row) (sets : List Words) (done : List Section) (row : Row) (told : List Words) → sets ≡ [] → done ≡ [] → told ≡ parts_lines vars rows sets done ++ [] → told ++ row_words row ∷ [] ≡ parts_lines vars (rows ++ row ∷ []) sets done ++ []
rows_more vars rows sets done row told s d e = rw (e, s, d) (simp (map-append, append-nil, append_assoc))

pub sets_more : (vars : List Var) (rows : List Row) (sets : List Words) (done : List Section) (l : Words) (told : List Words) → sets ≡ [] → done ≡ [] → told ≡ parts_lines vars rows sets done ++ [] → told ++ l ∷ [] ≡ parts_lines vars rows (l ∷ []) done ++ []
sets_more vars rows sets done l told s d e = rw (e, s, d) (simp (append-nil, append_assoc))

pub sections_more : (vars : List Var) (rows : List Row) (sets : List Words) (done : List Section) (count : ℕ) (ends : Ends) (told : List Words) → told ≡ parts_lines vars rows sets done ++ [] → told ++ begun_words count ends ∷ [] ≡ parts_lines vars rows sets (done ++ begun_section count ends ∷ []) ++ []
sections_more vars rows sets done count ends told e = rw e (simp (flat_map-append, append-nil, append_assoc))

-- a line more of the last graph
pub section_goes_on : (vars : List Var) (rows : List Row) (sets : List Words) (done : List Section) (old new : Section) (l : Words) (told : List Words) → section_lines new ≡ section_lines old ++ l ∷ [] → told ≡ parts_lines vars rows sets (done ++ old ∷ []) ++ [] → told ++ l ∷ [] ≡ parts_lines vars rows sets (done ++ new ∷ []) ++ []
section_goes_on vars rows sets done old new l told more e =
    let front : List Words = map var_words vars ++ map row_words rows ++ sets in
    rw e (append_parts front (flat_map section_lines done) (section_lines old) (section_lines new) (flat_map section_lines (done ++ old ∷ [])) (flat_map section_lines (done ++ new ∷ [])) l (last_of_all done old) (last_of_all done new) more)
  where
    last_of_all : (done : List Section) (s : Section) → flat_map section_lines (done ++ s ∷ []) ≡ flat_map section_lines done ++ section_lines s
    last_of_all done s = flat_map-append section_lines done (s ∷ []) ∙ ap (λ ls. flat_map section_lines done ++ ls) (append-nil (section_lines s))

    append_parts : (front lines old new all_old all_new : List Words) (l : Words) → all_old ≡ lines ++ old → all_new ≡ lines ++ new → new ≡ old ++ l ∷ [] → ((front ++ all_old) ++ []) ++ l ∷ [] ≡ (front ++ all_new) ++ []
    append_parts front lines old new all_old all_new l o n more = rw (o, n, more) (simp (append-nil, append_assoc))

last_vertex : {X : Type 0} (first : Words) (f : X → Words) (xs : List X) (x : X) (arcs : List Words) → arcs ≡ [] → first ∷ map f (xs ++ x ∷ []) ++ arcs ≡ first ∷ map f xs ++ arcs ++ f x ∷ []
last_vertex first f xs x arcs none =
    rw none (ap (λ ls. first ∷ ls) (append-nil (map f (xs ++ x ∷ [])) ∙ (map-append f xs (x ∷ []) ∙ ap (λ ls. ls ++ f x ∷ []) (sym (append-nil (map f xs))))))

pub vertex_more : (s : Section) (v : Vertex) → s.arcs ≡ [] → section_lines (with_vertex s v) ≡ section_lines s ++ vertex_words s.ends v ∷ []
vertex_more s v none =
    last_vertex (begun_words s.count s.ends) (vertex_words s.ends) s.vertices v (map (λ p. arc_words s.ends p.0 p.1) (zip s.arcs s.maps))
    (ap (λ arcs. map (λ p. arc_words s.ends p.0 p.1) (zip arcs s.maps)) none)

zip_push : {K X : Type 0} (ks : List K) (xs : List X) (k : K) (x : X) → length ks ≡ length xs → zip (ks ++ k ∷ []) (xs ++ x ∷ []) ≡ zip ks xs ++ (k, x) ∷ []
zip_push [] [] k x same = refl
zip_push [] (y ∷ ys) k x same = absurd (omega (arith, same))
zip_push (j ∷ ks) [] k x same = absurd (omega (arith, same))
zip_push (j ∷ ks) (y ∷ ys) k x same = ap (λ ps. (j, y) ∷ ps) (zip_push ks ys k x (omega (arith, same)))

last_arc : {X : Type 0} (front : List Words) (f : X → Words) (xs ys : List X) (x : X) → ys ≡ xs ++ x ∷ [] → front ++ map f ys ≡ front ++ map f xs ++ f x ∷ []
last_arc front f xs ys x more = rw more (simp (map-append, append_assoc))

pub arc_more : (s : Section) (arc : GraphArc) (mapped : List ℕ) → length s.arcs ≡ length s.maps → section_lines (with_arc s arc mapped) ≡ section_lines s ++ arc_words s.ends arc mapped ∷ []
arc_more s arc mapped same =
    last_arc (begun_words s.count s.ends ∷ map (vertex_words s.ends) s.vertices) (λ p. arc_words s.ends p.0 p.1) (zip s.arcs s.maps) (zip (s.arcs ++ arc ∷ []) (s.maps ++ mapped ∷ [])) (arc, mapped)
    (zip_push s.arcs s.maps arc mapped same)

-- graphs with all their vertices are those of a model
whole_lines : (vars sets : ℕ) (s : Section) → SectionFits vars sets s → section_lines s ≡ graph_lines (graph_of s) s.maps
whole_lines vars sets s fit =
    ap (λ n. begun_words n s.ends ∷ map (vertex_words s.ends) s.vertices ++ map (λ p. arc_words s.ends p.0 p.1) (zip s.arcs s.maps)) (sym fit.whole)

pub sections_whole : (vars sets : ℕ) (done : List Section) → All (SectionFits vars sets) done → flat_map section_lines done ≡ flat_map (λ p. graph_lines p.0 p.1) (zip (map graph_of done) (map (λ s. s.maps) done))
sections_whole vars sets [] all = refl
sections_whole vars sets (s ∷ done) all =
    let first = whole_lines vars sets s (All-head (SectionFits vars sets) s done all) in
    let others = sections_whole vars sets done (All-tail (SectionFits vars sets) s done all) in
    ap (λ ls. ls ++ flat_map section_lines done) first ∙ ap (λ ls. graph_lines (graph_of s) s.maps ++ ls) others
