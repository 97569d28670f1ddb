-- Each word of the lines of graphs, vertices and arcs is printed.
use Rattle.std.proofs.Common.{◌^◌, ℕ, ◌<◌, ◌≤◌, ℤ, pos, Bool, true, false, List, [], ◌∷◌, ◌++◌, length, map, take, drop, Option, None, Some, refl, arith}
use Rattle.std.specs.Prelude.{All, IfSome, codes, nat_lt}
use Rattle.std.specs.Fmt.{decimal, signed_decimal}
use Rattle.std.specs.List.{flat_map, zip}
use Rattle.std.proofs.lemmas.Int.{ints}
use Rattle.std.proofs.lemmas.List.Elements.{All-nil, All-cons, All-append, All-map, All-take, All-drop, All-from_get_or, All-from_recursion}
use Rattle.path_graph.specs.declared.parts.Window.{Window}
use Rattle.path_graph.specs.declared.parts.Vertex.{Vertex}
use Rattle.path_graph.specs.declared.parts.GraphArc.{GraphArc}
use Rattle.path_graph.specs.declared.parts.Ends.{Ends}
use Rattle.path_graph.specs.Fit.{is_used_at, WindowFits, WindowsFit, NeedFits, NeedsFit, VertexFits, ArcFits, EndsFit}
use Rattle.path_graph.specs.Walk.{GraphParts, IsGraph}
use Rattle.path_graph.specs.Within.{IsInLimits}
use Rattle.route_model.specs.Fit.{MapFits}
use Rattle.model_text.specs.ModelText.{used, set_word, window_words}
use Rattle.model_text.specs.ModelLines.{graph_words, vertex_words, arc_words, graph_lines}
use Rattle.line_text.proofs.PrintedWordLemmas.{IsPrinted, printed_name, IsPrintedLine, line_begins, two, printed_numbers}
use Rattle.model_text.proofs.PrintedRowLemmas.{printed_within, printed_small}
use Rattle.model_text.proofs.ItemLemmas.{All-flat_map, All-zip}

-- what holds of each item holds of those at positions with a resource
all_used : {X : Type 0} (P : X → Type 0) (ends : Ends) (xs : List X) → All P xs → All P (used ends xs)
all_used P ends xs all =
    All-append P (take ends.mains xs) (take ends.seconds (drop 2 xs)) (All-take P ends.mains xs all) (All-take P ends.seconds (drop 2 xs) (All-drop P 2 xs all))

-- windows and consumptions lie in the limits, whether a position has a resource or not
abbrev IsSpan : Window → Type 0
IsSpan w = IsInLimits w.low × IsInLimits w.high

span : (b : Bool) (w : Window) → WindowFits b w → IsSpan w
span true w fits =
    let low = fits.0 in
    let order = fits.1 in
    let high = fits.2 in
    ((low, omega (arith, ints)), (omega (arith, ints), high))
span false w fits =
    let low = fits.0 in
    let high = fits.1 in
    ((omega (arith, ints), omega (arith, ints)), (omega (arith, ints), omega (arith, ints)))

need_in_limits : (b main : Bool) (q : ℤ) → NeedFits b main q → IsInLimits q
need_in_limits true true q fits =
    let low = fits.0 in
    (omega (arith, ints), fits.1)
need_in_limits true false q fits = fits
need_in_limits false main q fits = (omega (arith, ints), omega (arith, ints))

spans : (ends : Ends) (ws : List Window) → WindowsFit ends ws → All IsSpan ws
spans ends ws fits = All-from_get_or IsSpan ws (record { low = pos 0; high = pos 0 }) (λ k below. span (is_used_at ends k) _ (fits k below))

needs_in_limits : (ends : Ends) (qs : List ℤ) → NeedsFit ends qs → All IsInLimits qs
needs_in_limits ends qs fits = All-from_get_or IsInLimits qs (pos 0) (λ k below. need_in_limits (is_used_at ends k) (nat_lt k 2) _ (fits k below))

-- vertices
printed_set : (set : Option ℕ) → IfSome set (λ s. s < 512) → IsPrinted (set_word set)
printed_set None h = printed_name (codes "-") refl refl refl
printed_set (Some s) h = printed_small s (omega (arith, h))

printed_limited : (z : ℤ) → IsInLimits z → IsPrinted (signed_decimal z)
printed_limited z h = printed_within 100000000 z (omega arith) h

printed_window : (w : Window) → IsSpan w → All IsPrinted (window_words w)
printed_window w h = two (signed_decimal w.low) (signed_decimal w.high) [] (printed_limited w.low h.0) (printed_limited w.high h.1) (All-nil IsPrinted)

printed_vertex : (ends : Ends) (v : Vertex) → VertexFits ends v → IsPrintedLine (vertex_words ends v)
printed_vertex ends v fits =
    let ws = used ends v.windows in
    let all = all_used IsSpan ends v.windows (spans ends v.windows fits.windows) in
    line_begins (codes "vertex") (set_word v.set ∷ flat_map window_words ws) (printed_name (codes "vertex") refl refl refl)
    (All-cons IsPrinted (set_word v.set) (flat_map window_words ws) (printed_set v.set fits.set)
    (All-flat_map IsPrinted window_words ws (λ k d below. printed_window _ (all k d below))))

-- arcs
printed_arc : (vars count : ℕ) → vars ≤ 30000 → count ≤ 1024 → (ends : Ends) (arc : GraphArc) (mapped : List ℕ) → ArcFits ends count arc → MapFits vars mapped → IsPrintedLine (arc_words ends arc mapped)
printed_arc vars count few few_vertices ends arc mapped fits map_fits =
    let qs = used ends arc.needs in
    let all = all_used IsInLimits ends arc.needs (needs_in_limits ends arc.needs fits.needs) in
    line_begins (codes "arc") (decimal arc.tail ∷ decimal arc.head ∷ map signed_decimal qs ++ map decimal mapped) (printed_name (codes "arc") refl refl refl)
    (two (decimal arc.tail) (decimal arc.head) (map signed_decimal qs ++ map decimal mapped)
    (printed_small arc.tail (let below = fits.tail in omega (arith, few_vertices)))
    (printed_small arc.head (let below = fits.head in omega (arith, few_vertices)))
    (All-append IsPrinted (map signed_decimal qs) (map decimal mapped)
    (All-map IsPrinted signed_decimal qs (λ k d below. printed_limited _ (all k d below)))
    (printed_numbers mapped (λ k d below. let declared = map_fits.each k d below in omega (arith, few, declared)))))

-- graphs
abbrev numbers_of : GraphParts → List ℕ
numbers_of g =
    length g.vertices ∷ g.ends.source ∷ g.ends.sink ∷ g.ends.low ∷ g.ends.high ∷ g.ends.mains ∷ g.ends.seconds ∷ []

small_numbers : (g : GraphParts) → length g.vertices ≤ 1024 → EndsFit g.ends (length g.vertices) → All (λ n. n < 10 ^ 40) (numbers_of g)
small_numbers g few fits =
    let source = fits.source in
    let sink = fits.sink in
    let low = fits.paths in
    let high = fits.most_paths in
    let mains = fits.mains in
    let seconds = fits.seconds in
    All-from_recursion (λ n. n < 10 ^ 40) (numbers_of g)
    (omega arith, (omega arith, (omega arith, (omega arith, (omega arith, (omega arith, (omega arith, tt)))))))

printed_graph : (g : GraphParts) → length g.vertices ≤ 1024 → EndsFit g.ends (length g.vertices) → IsPrintedLine (graph_words g)
printed_graph g few fits =
    line_begins (codes "graph") (map decimal (numbers_of g)) (printed_name (codes "graph") refl refl refl)
    (printed_numbers (numbers_of g) (small_numbers g few fits))

pub printed_graph_lines : (vars : ℕ) → vars ≤ 30000 → (g : GraphParts) (maps : List (List ℕ)) → IsGraph g → All (MapFits vars) maps → All IsPrintedLine (graph_lines g maps)
printed_graph_lines vars few g maps graph mapped =
    let fits = graph.fits in
    let arc_line : GraphArc × List ℕ → List (List ℕ) = λ p. arc_words g.ends p.0 p.1 in
    All-cons IsPrintedLine (graph_words g) _ (printed_graph g fits.few_vertices fits.ends_fit)
    (All-append IsPrintedLine (map (vertex_words g.ends) g.vertices) (map arc_line (zip g.arcs maps))
    (All-map IsPrintedLine (vertex_words g.ends) g.vertices (λ k d below. printed_vertex g.ends _ (fits.each_vertex k d below)))
    (All-map IsPrintedLine arc_line (zip g.arcs maps)
    (All-zip (λ p. IsPrintedLine (arc_words g.ends p.0 p.1)) g.arcs maps (λ k arc vars_of below there.
    printed_arc vars (length g.vertices) few fits.few_vertices g.ends _ _ (fits.each_arc k arc below) (mapped k vars_of there)))))
