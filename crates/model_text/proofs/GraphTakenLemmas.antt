-- The words of a graph, of a vertex and of an arc are taken as these.
use Rattle.std.proofs.Common.{◌≡◌, ◌≢◌, ℕ, ◌+◌, ◌≤◌, ◌<◌, pos, false, List, [], ◌∷◌, ◌++◌, length, map, get_or, refl, subst, sym, arith, Option, None, Some}
use Rattle.std.specs.Prelude.{◌==◌, ◌||◌, ◌&&◌, nat_lt, is_some, decimal}
use Rattle.std.specs.List.{flat_map}
use Rattle.std.specs.Fmt.{signed_decimal}
use Rattle.std.proofs.lemmas.Bool.Decides.{nat_tests}
use Rattle.path_graph.specs.declared.parts.Vertex.{Vertex}
use Rattle.path_graph.specs.declared.parts.GraphArc.{GraphArc}
use Rattle.path_graph.specs.Fit.{is_used_at, WindowFits, NeedFits, VertexFits, ArcFits, EndsFit, PartsFit}
use Rattle.path_graph.specs.Walk.{positions, GraphParts}
use Rattle.route_model.specs.Fit.{MapFits, IsDeclared}
use Rattle.model_text.specs.declared.draft.Section.{Section}
use Rattle.model_text.specs.LineWords.{vertex_wanted, arc_wanted, graph_wanted, sets_wanted}
use Rattle.model_text.specs.ModelText.{used, set_word, window_words}
use Rattle.model_text.specs.Totals.{path_total}
use Rattle.line_text.proofs.ListReads.{AllAt}
use Rattle.model_text.proofs.GraphFitLemmas.{IsFree}
use Rattle.model_text.proofs.LineSpendLemmas.{used_words, arc_numbers}
use Rattle.model_text.proofs.LineReads.{sets-reads, graph-reads, vertex-reads, arc-reads}
use Rattle.model_text.proofs.TakenLemmas.{Takes, takes}
use Rattle.model_text.proofs.RowTakenLemmas.{mapped_each}

different : (a b : ℕ) → a ≢ b → (a == b) ≡ false
different a b apart = grind (arith, nat_tests, apart)

pub graph_takes : (sections : List Section) (g : GraphParts) → PartsFit g.ends g.vertices g.arcs → path_total sections + g.ends.high ≤ 4096 → Takes (graph_wanted sections) (decimal (length g.vertices) ∷ decimal g.ends.source ∷ decimal g.ends.sink ∷ decimal g.ends.low ∷ decimal g.ends.high ∷ decimal g.ends.mains ∷ decimal g.ends.seconds ∷ []) (length g.vertices, g.ends) []
graph_takes sections g fit paths =
    let ends = fit.ends_fit in
    takes (graph-reads sections) (length g.vertices, g.ends) (
      (fit.some_vertices, fit.few_vertices),
      record {
        source = ends.source;
        sink = ends.sink;
        apart = different g.ends.sink g.ends.source (λ e. ends.different (sym e));
        low = ends.paths;
        high = ends.most_paths;
        sum = paths;
        mains = (ends.some_main, ends.mains);
        seconds = ends.seconds;
      },
    ) [] tt

pub sets_takes : (sets : ℕ) → sets ≤ 512 → Takes sets_wanted (decimal sets ∷ []) sets []
sets_takes sets few = takes sets-reads sets few [] tt

-- what holds at each of six positions
six_all : {X : Type 0} (Q : ℕ → X → Type 0) (d : X) (xs : List X) → length xs ≡ 6 → ((k : ℕ) → k < length xs → Q k (get_or xs k d)) → AllAt Q positions xs
six_all Q d (x0 ∷ x1 ∷ x2 ∷ x3 ∷ x4 ∷ x5 ∷ []) size q =
    (q 0 (omega arith), (q 1 (omega arith), (q 2 (omega arith), (q 3 (omega arith), (q 4 (omega arith), (q 5 (omega arith), tt))))))
six_all Q d [] size q = absurd (omega (arith, size))
six_all Q d (x0 ∷ []) size q = absurd (omega (arith, size))
six_all Q d (x0 ∷ x1 ∷ []) size q = absurd (omega (arith, size))
six_all Q d (x0 ∷ x1 ∷ x2 ∷ []) size q = absurd (omega (arith, size))
six_all Q d (x0 ∷ x1 ∷ x2 ∷ x3 ∷ []) size q = absurd (omega (arith, size))
six_all Q d (x0 ∷ x1 ∷ x2 ∷ x3 ∷ x4 ∷ []) size q = absurd (omega (arith, size))
six_all Q d (x0 ∷ x1 ∷ x2 ∷ x3 ∷ x4 ∷ x5 ∷ x6 ∷ xs) size q = absurd (omega (arith, size))

-- a vertex
free_test : (set : Option ℕ) (place source sink : ℕ) → (place ≡ source → set ≡ None) → (place ≡ sink → set ≡ None) → (is_some set && (place == source || place == sink)) ≡ false
free_test None place source sink first second = refl
free_test (Some s) place source sink first second =
    let apart : (place == source) ≡ false = different place source (λ e. let no = first e in cc) in
    let apart' : (place == sink) ≡ false = different place sink (λ e. let no = second e in cc) in
    rw (apart, apart') refl

pub vertex_takes : (sets count : ℕ) (s : Section) (v : Vertex) → sets ≤ 512 → EndsFit s.ends count → VertexFits s.ends v → IsDeclared sets v → IsFree s v → Takes (vertex_wanted sets s) (set_word v.set ∷ flat_map window_words (used s.ends v.windows)) v []
vertex_takes sets count s v few ends fit declared free =
    subst (λ form. Takes (vertex_wanted sets s) (set_word v.set ∷ form) v []) (used_words window_words s.ends count v.windows ends fit.places)
    (takes (vertex-reads sets s few) v
    (record {
      set = declared;
      ends = free_test v.set (length s.vertices) s.ends.source s.ends.sink free.source free.sink;
      windows = six_all (λ k. WindowFits (is_used_at s.ends k)) (record { low = pos 0; high = pos 0 }) v.windows fit.places fit.windows;
    }) [] tt)

-- an arc with its variables
pub arc_takes : (vars count : ℕ) (s : Section) (arc : GraphArc) (mapped : List ℕ) → vars ≤ 30000 → length s.vertices ≤ 1024 → EndsFit s.ends count → ArcFits s.ends (length s.vertices) arc → MapFits vars mapped → Takes (arc_wanted vars s) (decimal arc.tail ∷ decimal arc.head ∷ map signed_decimal (used s.ends arc.needs) ++ map decimal mapped) (arc, mapped) []
arc_takes vars count s arc mapped few_vars few ends fit maps =
    subst (λ form. Takes (arc_wanted vars s) (decimal arc.tail ∷ decimal arc.head ∷ form) (arc, mapped) []) (arc_numbers s.ends count arc.needs mapped ends fit.places)
    (takes (arc-reads vars s few_vars few) (arc, mapped)
    (record {
      tail = fit.tail;
      not_out = different arc.tail s.ends.sink fit.not_out;
      head = fit.head;
      not_in = different arc.head s.ends.source fit.not_in;
      needs = six_all (λ k. NeedFits (is_used_at s.ends k) (nat_lt k 2)) (pos 0) arc.needs fit.places fit.needs;
      mapped = mapped_each vars mapped maps;
    }) [] refl)
