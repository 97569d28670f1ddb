-- The lines of the graphs of a model are read as these.
use Rattle.std.proofs.Common.{◌≡◌, ℕ, ◌+◌, ◌≤◌, ◌<◌, true, false, not, List, [], ◌∷◌, ◌++◌, length, map, refl, ap, subst, sym, ◌∙◌, arith, None}
use Rattle.std.specs.Prelude.{◌==◌, nat_lt, if◌then◌else◌, All, codes, decimal}
use Rattle.std.specs.Fmt.{signed_decimal}
use Rattle.std.specs.List.{flat_map}
use Rattle.std.specs.Map.{keys_of, values_of}
use Rattle.std.proofs.lemmas.Bool.Decides.{nat_tests}
use Rattle.std.proofs.lemmas.List.{length-map, map-append}
use Rattle.std.proofs.lemmas.List.Sums.{sum_by_push}
use Rattle.std.proofs.Math.Seq.{get_or-append_seam}
use Rattle.path_graph.specs.declared.parts.Vertex.{Vertex}
use Rattle.path_graph.specs.declared.parts.GraphArc.{GraphArc}
use Rattle.path_graph.specs.Walk.{GraphParts}
use Rattle.path_graph.specs.Fit.{VertexFits, ArcFits, EndsFit, PartsFit, vertex_at}
use Rattle.route_model.specs.Fit.{GraphFits, MapFits, IsDeclared}
use Rattle.model_text.specs.declared.draft.Stage.{Stage}
use Rattle.model_text.specs.declared.draft.Stage.TheVariants.{Vertices, Arcs}
use Rattle.model_text.specs.declared.draft.Section.{Section}
use Rattle.model_text.specs.declared.draft.Draft.{Draft}
use Rattle.model_text.specs.declared.line_kind.LineKind.TheVariants as line
use Rattle.model_text.specs.Draft.{with_vertex, with_arc, stage_in, in_section, is_in_graph, sections_of}
use Rattle.model_text.specs.LineKinds.{may_stand}
use Rattle.model_text.specs.ModelText.{used, set_word, window_words}
use Rattle.model_text.specs.ModelLines.{graph_words, vertex_words, arc_words}
use Rattle.model_text.specs.Totals.{path_total, arc_total}
use Rattle.model_text.proofs.GraphFitLemmas.{IsFree}
use Rattle.model_text.proofs.TakenLemmas.{neither, given, and_none, by_true, by_false}
use Rattle.model_text.proofs.RowTakenLemmas.{at_seam, below_test}
use Rattle.model_text.proofs.GraphTakenLemmas.{graph_takes, vertex_takes, arc_takes}
use Rattle.model_text.proofs.LineTakenLemmas.{Goes, line_goes, items_go}
use Rattle.model_text.proofs.DraftTakenLemmas.{place_below}

-- a graph as far as it is read
abbrev pub section_of : GraphParts → List Vertex → List GraphArc → List (List ℕ) → Section
section_of g vertices arcs maps =
    record { count = length g.vertices; ends = g.ends; vertices = vertices; arcs = arcs; maps = maps }

stage_to_come : (s : Section) → length s.vertices < s.count → stage_in s ≡ Vertices
stage_to_come s below = by_false Arcs Vertices (length s.vertices == s.count) (grind (arith, nat_tests, below))

pub stage_whole : (s : Section) → length s.vertices ≡ s.count → stage_in s ≡ Arcs
stage_whole s whole = by_true Arcs Vertices (length s.vertices == s.count) (grind (arith, nat_tests, whole))

-- the graph line
pub graph_begins : (d : Draft) (g : GraphParts) → may_stand line.Graph d.stage ≡ true → length (sections_of d) < 64 → PartsFit g.ends g.vertices g.arcs → path_total (sections_of d) + g.ends.high ≤ 4096 → Goes d (graph_words g ∷ []) (in_section (record d { done = sections_of d }) (section_of g [] [] []))
graph_begins d g stands room fit paths =
    let some = fit.some_vertices in
    let begun : Section = section_of g [] [] [] in
    let stage : stage_in begun ≡ Vertices = stage_to_come begun (omega (arith, some)) in
    subst (λ (s : Stage). Goes d (graph_words g ∷ []) (record d { stage = s; done = sections_of d; current = begun })) (sym stage)
    (line_goes line.Graph (codes "graph") (decimal (length g.vertices) ∷ decimal g.ends.source ∷ decimal g.ends.sink ∷ decimal g.ends.low ∷ decimal g.ends.high ∷ decimal g.ends.mains ∷ decimal g.ends.seconds ∷ []) refl refl stands (below_test _ _ room) (λ n.
    and_none _ (graph_takes (sections_of d) g fit paths) (given _ [])))

-- vertices
vertex_goes : (e : Draft) (s : Section) (v : Vertex) → e.sets ≤ 512 → length s.vertices < s.count → EndsFit s.ends s.count → VertexFits s.ends v → IsDeclared e.sets v → IsFree s v → Goes (in_section e s) (vertex_words s.ends v ∷ []) (in_section e (with_vertex s v))
vertex_goes e s v few below ends fit declared free =
    line_goes line.Vertex (codes "vertex") (set_word v.set ∷ flat_map window_words (used s.ends v.windows)) refl refl (ap (may_stand line.Vertex) (stage_to_come s below)) refl (λ n.
    and_none _ (vertex_takes e.sets s.count s v few ends fit declared free) (given _ []))

free_place : (vertices before : List Vertex) (v : Vertex) (after : List Vertex) (place : ℕ) → before ++ v ∷ after ≡ vertices → (vertex_at vertices place).set ≡ None → length before ≡ place → v.set ≡ None
free_place vertices before v after place is none here =
    let at : vertex_at (before ++ v ∷ after) (length before) ≡ v = get_or-append_seam before v after (record { set = None; windows = [] }) in
    sym (ap (λ (x : Vertex). x.set) at) ∙ (ap (λ (vs : List Vertex). (vertex_at vs (length before)).set) is ∙ (ap (λ n. (vertex_at vertices n).set) here ∙ none))

pub vertices_go : (e : Draft) (g : GraphParts) → e.sets ≤ 512 → GraphFits e.sets g → Goes (in_section e (section_of g [] [] [])) (map (vertex_words g.ends) g.vertices) (in_section e (section_of g g.vertices [] []))
vertices_go e g few fit =
    let parts = fit.graph.fits in
    items_go (λ vs. in_section e (section_of g vs [] [])) (vertex_words g.ends) g.vertices (λ before v after is.
    vertex_goes e (section_of g before [] []) v few (place_below before v after g.vertices is) parts.ends_fit (at_seam (VertexFits g.ends) before v after (rw (← is) at parts.each_vertex)) (at_seam (IsDeclared e.sets) before v after (rw (← is) at fit.declared))
    (record {
      source = free_place g.vertices before v after g.ends.source is parts.source_free;
      sink = free_place g.vertices before v after g.ends.sink is parts.sink_free;
    })) [] g.vertices refl

-- arcs
arc_goes : (e : Draft) (s : Section) (arc : GraphArc) (mapped : List ℕ) → length s.vertices ≡ s.count → s.count ≤ 1024 → length e.vars ≤ 30000 → length s.arcs < 60000 → arc_total e.done + length s.arcs < 100000 → EndsFit s.ends s.count → ArcFits s.ends s.count arc → MapFits (length e.vars) mapped → Goes (in_section e s) (arc_words s.ends arc mapped ∷ []) (in_section e (with_arc s arc mapped))
arc_goes e s arc mapped whole few few_vars few_arcs few_in_all ends fit maps =
    let stage = stage_whole s whole in
    let sections : sections_of (in_section e s) ≡ e.done ++ s ∷ [] = ap (λ (t : Stage). if is_in_graph t then e.done ++ s ∷ [] else e.done) stage in
    let arcs : arc_total (sections_of (in_section e s)) ≡ arc_total e.done + length s.arcs = ap arc_total sections ∙ sum_by_push (λ (t : Section). length t.arcs) e.done s in
    let room : not (nat_lt (arc_total (sections_of (in_section e s))) 100000) ≡ false = below_test _ _ (omega (arith, arcs, few_in_all)) in
    line_goes line.Arc (codes "arc") (decimal arc.tail ∷ decimal arc.head ∷ map signed_decimal (used s.ends arc.needs) ++ map decimal mapped) refl refl (ap (may_stand line.Arc) stage) (neither _ _ (below_test _ _ few_arcs) room) (λ n.
    and_none _ (arc_takes (length e.vars) s.count s arc mapped few_vars (omega (arith, whole, few)) ends (rw (← whole) at fit) maps) (given _ []))

-- an arc with its variables
abbrev pub Mapped : Type 0
Mapped = GraphArc × List ℕ

abbrev pub with_arcs : Draft → GraphParts → List Mapped → Draft
with_arcs e g ps = in_section e (section_of g g.vertices (keys_of ps) (values_of ps))

pub arcs_go : (e : Draft) (g : GraphParts) (ps : List Mapped) → length e.vars ≤ 30000 → PartsFit g.ends g.vertices g.arcs → length ps ≤ 60000 → arc_total e.done + length ps ≤ 100000 → All (λ p. ArcFits g.ends (length g.vertices) p.0 × MapFits (length e.vars) p.1) ps → Goes (with_arcs e g []) (map (λ p. arc_words g.ends p.0 p.1) ps) (with_arcs e g ps)
arcs_go e g ps few_vars fit few few_in_all each =
    items_go (with_arcs e g) (λ p. arc_words g.ends p.0 p.1) ps (λ before p after is.
    let size : length (keys_of before) ≡ length before = length-map before (λ (p : Mapped). p.0) in
    let place = place_below before p after ps is in
    let fits = at_seam (λ p. ArcFits g.ends (length g.vertices) p.0 × MapFits (length e.vars) p.1) before p after (rw (← is) at each) in
    let line = arc_goes e (section_of g g.vertices (keys_of before) (values_of before)) p.0 p.1 refl fit.few_vertices few_vars (omega (arith, size, place, few)) (omega (arith, size, place, few_in_all)) fit.ends_fit fits.0 fits.1 in
    let arcs : keys_of (before ++ p ∷ []) ≡ keys_of before ++ p.0 ∷ [] = map-append (λ (p : Mapped). p.0) before (p ∷ []) in
    let maps : values_of (before ++ p ∷ []) ≡ values_of before ++ p.1 ∷ [] = map-append (λ (p : Mapped). p.1) before (p ∷ []) in
    rw (arcs, maps) line) [] ps refl
