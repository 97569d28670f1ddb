-- The lines of a text tell parts that keep the limits and orders of a model.
use Rattle.std.proofs.Common.{◌≡◌, ℕ, zero, suc, ◌+◌, ◌-◌, ◌≤◌, ◌<◌, Bool, true, false, List, [], ◌∷◌, ◌++◌, length, get_or, refl, ap, sym, ◌∙◌, arith, None}
use Rattle.std.specs.Prelude.{◌==◌, All, if◌then◌else◌}
use Rattle.std.proofs.lemmas.Bool.Decides.{nat_tests}
use Rattle.std.proofs.lemmas.List.{length-append, get_or_append_left}
use Rattle.std.proofs.Math.Seq.{get_or-append_seam}
use Rattle.std.proofs.lemmas.List.Elements.{All-push, All-nil}
use Rattle.std.proofs.lemmas.List.Sums.{sum_by_push}
use Rattle.path_graph.specs.declared.parts.Vertex.{Vertex}
use Rattle.path_graph.specs.declared.parts.GraphArc.{GraphArc}
use Rattle.path_graph.specs.declared.parts.Ends.{Ends}
use Rattle.route_model.specs.declared.parts.Row.{Row}
use Rattle.path_graph.specs.Fit.{VertexFits, ArcFits, EndsFit, vertex_at}
use Rattle.path_graph.specs.Free.{HasNoFreeCycle}
use Rattle.route_model.specs.Fit.{VarsFit, TermFits, RowsFit, RowFits, GraphFits, GraphMapsFit, MapFits, IsDeclared, row_coef, total_coef}
use Rattle.model_text.specs.declared.draft.Stage.{Stage}
use Rattle.model_text.specs.declared.draft.Stage.TheVariants.{Opening, Variables, Rows, Sets, Vertices, Arcs, Ended}
use Rattle.model_text.specs.declared.draft.Section.{Section}
use Rattle.model_text.specs.declared.draft.Draft.{Draft}
use Rattle.model_text.specs.Draft.{begun_section, with_vertex, with_arc, in_section, sections_of, graph_of, SectionPartsFit}
use Rattle.model_text.specs.Totals.{term_total, path_total, arc_total}
use Rattle.model_text.proofs.RowFitLemmas.{TermsFit, ascends_nil}
use Rattle.model_text.proofs.GraphFitLemmas.{IsFree}

-- a graph of which vertices may be to come
pub record BegunFits (vars sets : ℕ) (s : Section) : Type 0 where
  pub some_vertices : 2 ≤ s.count
  pub few_vertices : s.count ≤ 1024
  pub ends : EndsFit s.ends s.count
  pub vertices : All (VertexFits s.ends) s.vertices
  pub declared : All (IsDeclared sets) s.vertices
  pub source_free : s.ends.source < length s.vertices → (vertex_at s.vertices s.ends.source).set ≡ None
  pub sink_free : s.ends.sink < length s.vertices → (vertex_at s.vertices s.ends.sink).set ≡ None
  pub few_arcs : length s.arcs ≤ 60000
  pub arcs : All (ArcFits s.ends s.count) s.arcs
  pub mapped : length s.maps ≡ length s.arcs
  pub maps : All (MapFits vars) s.maps

-- a graph that has all its vertices
pub record SectionFits (vars sets : ℕ) (s : Section) : Type 0 where
  pub begun : BegunFits vars sets s
  pub whole : length s.vertices ≡ s.count

pub record SectionsFit (sections : List Section) : Type 0 where
  pub graphs : length sections ≤ 64
  pub paths : path_total sections ≤ 4096
  pub arcs : arc_total sections ≤ 100000

-- what holds where the next line stands
abbrev pub StageFits : Stage → Draft → Type 0
StageFits Opening d = (d.rows ≡ []) × (d.done ≡ [])
StageFits Variables d = (d.rows ≡ []) × (d.done ≡ [])
StageFits Rows d = d.done ≡ []
StageFits Sets d = Unit {0}
StageFits Vertices d = BegunFits (length d.vars) d.sets d.current
StageFits Arcs d = SectionFits (length d.vars) d.sets d.current
StageFits Ended d = Unit {0}

pub record DraftFits (d : Draft) : Type 0 where
  pub vars : VarsFit d.vars
  pub rows : RowsFit (length d.vars) d.rows
  pub sets : d.sets ≤ 512
  pub sections : SectionsFit (sections_of d)
  pub done : All (SectionFits (length d.vars) d.sets) d.done
  pub stage : StageFits d.stage d

-- a vertex more
vertex_at-push : (vs : List Vertex) (v : Vertex) (k : ℕ) → (k < length vs → (vertex_at vs k).set ≡ None) → (length vs ≡ k → v.set ≡ None) → k < length (vs ++ v ∷ []) → (vertex_at (vs ++ v ∷ []) k).set ≡ None
vertex_at-push vs v k old new within = by_place (length vs - k) refl
  where
    none : Vertex
    none = record { set = None; windows = [] }

    by_place : (n : ℕ) → length vs - k ≡ n → (vertex_at (vs ++ v ∷ []) k).set ≡ None
    by_place zero e =
        let here : length vs ≡ k = omega (arith, e, within, length-append vs (v ∷ [])) in
        let at : get_or (vs ++ v ∷ []) k (record { set = None; windows = [] }) ≡ v = ap (λ n. get_or (vs ++ v ∷ []) n (record { set = None; windows = [] })) (sym here) ∙ get_or-append_seam vs v [] (record { set = None; windows = [] }) in
        ap (λ (x : Vertex). x.set) at ∙ new here
    by_place (suc n) e =
        let inside : k < length vs = omega (arith, e) in
        ap (λ (x : Vertex). x.set) (get_or_append_left vs (v ∷ []) (record { set = None; windows = [] }) k inside) ∙ old inside

pub with_vertex-fits : (vars sets : ℕ) (s : Section) (v : Vertex) → BegunFits vars sets s → VertexFits s.ends v → IsDeclared sets v → IsFree s v → BegunFits vars sets (with_vertex s v)
with_vertex-fits vars sets s v fit fits declared free =
    record {
      some_vertices = fit.some_vertices;
      few_vertices = fit.few_vertices;
      ends = fit.ends;
      few_arcs = fit.few_arcs;
      arcs = fit.arcs;
      mapped = fit.mapped;
      maps = fit.maps;
      vertices = All-push (VertexFits s.ends) s.vertices v fit.vertices fits;
      declared = All-push (IsDeclared sets) s.vertices v fit.declared declared;
      source_free = vertex_at-push s.vertices v s.ends.source fit.source_free free.source;
      sink_free = vertex_at-push s.vertices v s.ends.sink fit.sink_free free.sink;
    }

pub begun_section-fits : (vars sets count : ℕ) (ends : Ends) → 2 ≤ count → count ≤ 1024 → EndsFit ends count → BegunFits vars sets (begun_section count ends)
begun_section-fits vars sets count ends some few fits =
    record {
      some_vertices = some;
      few_vertices = few;
      ends = fits;
      vertices = All-nil (VertexFits ends);
      declared = All-nil (IsDeclared sets);
      source_free = λ h. absurd (omega (arith, h));
      sink_free = λ h. absurd (omega (arith, h));
      few_arcs = omega arith;
      arcs = All-nil (ArcFits ends count);
      mapped = refl;
      maps = All-nil (MapFits vars);
    }

-- a graph with all its vertices keeps the limits of one; without cycles it is one of a model
pub section_parts_fit : (vars sets : ℕ) (s : Section) → SectionFits vars sets s → SectionPartsFit s
section_parts_fit vars sets s fit =
    let b = fit.begun in
    let count = sym fit.whole in
    let ends = rw count at b.ends in
    record {
      some_vertices = rw (← count) b.some_vertices;
      few_vertices = rw (← count) b.few_vertices;
      few_arcs = b.few_arcs;
      ends_fit = ends;
      source_free = b.source_free ends.source;
      sink_free = b.sink_free ends.sink;
      each_vertex = b.vertices;
      each_arc = rw count at b.arcs;
    }

pub graph_fits : (vars sets : ℕ) (s : Section) → HasNoFreeCycle s.arcs → SectionFits vars sets s → GraphFits sets (graph_of s) × GraphMapsFit vars (graph_of s) s.maps
graph_fits vars sets s acyclic fit = (
  record {
    graph = record { fits = section_parts_fit vars sets s fit; acyclic = acyclic };
    declared = fit.begun.declared;
  },
  record { arcs = fit.begun.mapped; each = fit.begun.maps },
)

pub with_arc-fits : (vars sets : ℕ) (s : Section) (arc : GraphArc) (mapped : List ℕ) → SectionFits vars sets s → length s.arcs < 60000 → ArcFits s.ends (length s.vertices) arc → MapFits vars mapped → BegunFits vars sets (with_arc s arc mapped)
with_arc-fits vars sets s arc mapped fit few fits maps =
    let b = fit.begun in
    record {
      some_vertices = b.some_vertices;
      few_vertices = b.few_vertices;
      ends = b.ends;
      vertices = b.vertices;
      declared = b.declared;
      source_free = b.source_free;
      sink_free = b.sink_free;
      few_arcs = omega (arith, few, length-append s.arcs (arc ∷ []));
      arcs = All-push (ArcFits s.ends s.count) s.arcs arc b.arcs (rw fit.whole at fits);
      mapped = length-append s.maps (mapped ∷ []) ∙ (ap (λ n. n + 1) b.mapped ∙ sym (length-append s.arcs (arc ∷ [])));
      maps = All-push (MapFits vars) s.maps mapped b.maps maps;
    }

-- a graph more, or another in its place
pub more_sections : (sections : List Section) (s : Section) → SectionsFit sections → length sections < 64 → path_total sections + s.ends.high ≤ 4096 → arc_total sections + length s.arcs ≤ 100000 → SectionsFit (sections ++ s ∷ [])
more_sections sections s fit few paths arcs =
    let graph_sum = length-append sections (s ∷ []) in
    let path_sum : path_total (sections ++ s ∷ []) ≡ path_total sections + s.ends.high = sum_by_push (λ (t : Section). t.ends.high) sections s in
    let arc_sum : arc_total (sections ++ s ∷ []) ≡ arc_total sections + length s.arcs = sum_by_push (λ (t : Section). length t.arcs) sections s in
    record { graphs = omega (arith, few, graph_sum); paths = rw path_sum paths; arcs = rw arc_sum arcs }

-- the sections with the last one changed, which keeps its ends
pub changed_section : (done : List Section) (old new : Section) → SectionsFit (done ++ old ∷ []) → new.ends.high ≡ old.ends.high → arc_total done + length new.arcs ≤ 100000 → SectionsFit (done ++ new ∷ [])
changed_section done old new fit same arcs =
    let old_graphs = length-append done (old ∷ []) in
    let new_graphs = length-append done (new ∷ []) in
    let old_paths : path_total (done ++ old ∷ []) ≡ path_total done + old.ends.high = sum_by_push (λ (t : Section). t.ends.high) done old in
    let new_paths : path_total (done ++ new ∷ []) ≡ path_total done + new.ends.high = sum_by_push (λ (t : Section). t.ends.high) done new in
    let new_arcs : arc_total (done ++ new ∷ []) ≡ arc_total done + length new.arcs = sum_by_push (λ (t : Section). length t.arcs) done new in
    let graphs = fit.graphs in
    let paths = fit.paths in
    record {
      graphs = omega (arith, graphs, old_graphs, new_graphs);
      paths = omega (arith, paths, old_paths, new_paths, same);
      arcs = rw new_arcs arcs;
    }

-- a graph that is read, with a vertex or an arc more
pub in_section-fits : (d : Draft) (s : Section) → VarsFit d.vars → RowsFit (length d.vars) d.rows → d.sets ≤ 512 → SectionsFit (d.done ++ s ∷ []) → All (SectionFits (length d.vars) d.sets) d.done → BegunFits (length d.vars) d.sets s → DraftFits (in_section d s)
in_section-fits d s vars rows sets sections done begun = by_test (length s.vertices == s.count) refl
  where
    stage_of : Bool → Stage
    stage_of b = if b then Arcs else Vertices

    by_test : (b : Bool) → (length s.vertices == s.count) ≡ b → DraftFits (record d { stage = stage_of b; current = s })
    by_test true is =
        let whole : length s.vertices ≡ s.count = grind (arith, nat_tests, is) in
        record { vars = vars; rows = rows; sets = sets; sections = sections; done = done; stage = record { begun = begun; whole = whole } }
    by_test false is =
        record { vars = vars; rows = rows; sets = sets; sections = sections; done = done; stage = begun }

pub no_rows-fit : (count : ℕ) (rows : List Row) → rows ≡ [] → RowsFit count rows
no_rows-fit count rows none =
    rw none
    (record { few = omega arith; each = All-nil (RowFits count); few_terms = omega arith; coefs = λ j h. omega arith })

pub no_sections-fit : (vars sets : ℕ) (done : List Section) → done ≡ [] → All (SectionFits vars sets) done
no_sections-fit vars sets done none = rw none (All-nil (SectionFits vars sets))

pub terms_begin : (count : ℕ) (rows : List Row) → RowsFit count rows → TermsFit count rows []
terms_begin count rows fit =
    record {
      each = All-nil (TermFits count);
      ascend = ascends_nil (λ t. t.var);
      few = let few = fit.few_terms in omega (arith, few);
      coefs = λ j h. let sum = fit.coefs j h in omega (arith, sum);
    }

pub more_rows : (count : ℕ) (rows : List Row) (row : Row) → RowsFit count rows → length rows < 5000 → RowFits count row → TermsFit count rows row.terms → RowsFit count (rows ++ row ∷ [])
more_rows count rows row fit few fits terms =
    let term_sum : term_total (rows ++ row ∷ []) ≡ term_total rows + length row.terms = sum_by_push (λ (r : Row). length r.terms) rows row in
    record {
      few = omega (arith, few, length-append rows (row ∷ []));
      each = All-push (RowFits count) rows row fit.each fits;
      few_terms = rw term_sum terms.few;
      coefs = λ j h.
          let coef_sum : total_coef (rows ++ row ∷ []) j ≡ total_coef rows j + row_coef j row.terms = sum_by_push (λ (r : Row). row_coef j r.terms) rows row in
          rw coef_sum (terms.coefs j h);
    }
