-- Lemmas on what a graph keeps beside its parts.
use Rattle.std.proofs.Common.{◌≡◌, ℕ, ◌<◌, ◌≤◌, ◌+◌, List, [], ◌∷◌, ◌++◌, length, get_or, map, set, refl, sym, ◌∙◌, ap, arith, inl, inr, Bool, true, not, cond}
use Rattle.std.specs.Prelude.{slice_index, slice_index_or, filter, ◌==◌}
use Rattle.std.specs.List.{range_with_len}
use Rattle.std.proofs.lemmas.List.{length_push, map-id, append-nil, get_or_default, get_or-set_same, get_or-set_other, length-set, ext_get_or}
use Rattle.std.proofs.lemmas.List.FromFn.{length-range_with_len, length-map-range_with_len, get_or-map-range_with_len, map-range_with_len_more}
use Rattle.std.proofs.lemmas.List.Filters.{length-filter_both}
use Rattle.std.proofs.lemmas.List.Elements.{Contains-get_or, filter-append}
use Rattle.std.proofs.lemmas.Bool.{cases_eq, eq-eqb, eqb-true, ne_eqb}
use Rattle.path_graph.specs.declared.parts.GraphArc.{GraphArc}
use Rattle.path_graph.specs.declared.parts.Ends.{Ends}
use Rattle.path_graph.specs.declared.parts.Vertex.{Vertex}
use Rattle.path_graph.specs.Fit.{PartsFit, ArcFits}
use Rattle.path_graph.specs.Parts.{GraphParts, arc_at, arcs_from, arcs_into, AreBetween}
use Rattle.path_graph.specs.Free.{is_free, IsRank, rank_of}
use Rattle.path_graph.specs.Graph.{IsGraph}
use Rattle.path_graph.proofs.FreeLemmas.{computed_rank, free_push, rank_small, contains_filtered, range_below}

pub index_size : {X : Type 0} (f : ℕ → X) (xs : List X) (n : ℕ) → xs ≡ map f (range_with_len 0 n) → length xs ≡ n
index_size f xs n e = ap (λ ys. length ys) e ∙ length-map-range_with_len f 0 n

pub index_at : {X : Type 0} (f : ℕ → X) (xs : List X) (n v : ℕ) (x : X) → xs ≡ map f (range_with_len 0 n) → v < n → ((other : X) → slice_index_or xs v other ≡ x) → x ≡ f v
index_at f xs n v x e l at = sym (at x) ∙ (ap (λ ys. slice_index_or ys v x) e ∙ get_or-map-range_with_len f 0 n v v x l (omega arith))

pub index_is : {X : Type 0} (f : ℕ → X) (xs : List X) (n v : ℕ) (x : X) → xs ≡ map f (range_with_len 0 n) → v < n → x ≡ get_or xs v x → x ≡ f v
index_is f xs n v x e l at = at ∙ (ap (λ ys. get_or ys v x) e ∙ get_or-map-range_with_len f 0 n v v x l (omega arith))

pub are_between : (ends : Ends) (vertices : List Vertex) (arcs : List GraphArc) → PartsFit ends vertices arcs → AreBetween (length vertices) arcs
are_between ends vertices arcs fit a d l =
    let fits : ArcFits ends (length vertices) (slice_index_or arcs a d) = fit.each_arc a d l in
    (fits.tail, fits.head)

pub rank_is : (g : GraphParts) (v : ℕ) → IsGraph g → v < length g.vertices → IsRank g.arcs v (rank_of g v)
rank_is g v graph l = computed_rank (length g.vertices) g.arcs v (are_between g.ends g.vertices g.arcs graph.fits) graph.acyclic l

pub rank_below : (g : GraphParts) (v : ℕ) → IsGraph g → v < length g.vertices → rank_of g v < length g.vertices
rank_below g v graph l = rank_small (length g.vertices) g.arcs v (rank_of g v) (are_between g.ends g.vertices g.arcs graph.fits) l (rank_is g v graph l)

pub rank_rises : (g : GraphParts) (a : ℕ) → IsGraph g → a < length g.arcs → is_free (arc_at g.arcs a) ≡ true → rank_of g (arc_at g.arcs a).tail < rank_of g (arc_at g.arcs a).head
rank_rises g a graph l f =
    let fits : ArcFits g.ends (length g.vertices) (arc_at g.arcs a) = graph.fits.each_arc a _ l in
    let before = rank_is g (arc_at g.arcs a).tail graph fits.tail in
    let here = rank_is g (arc_at g.arcs a).head graph fits.head in
    let long = here.longest before.start (before.path ++ a ∷ []) (free_push g.arcs before.start before.path a before.leads l f) in
    omega (arith, long, length_push before.path a, before.size)

few_among : (p : ℕ → Bool) (n : ℕ) → length (filter p (range_with_len 0 n)) ≤ n
few_among p n =
    let both = length-filter_both p (λ a. not (p a)) (λ a. refl) (range_with_len 0 n) in
    omega (arith, both, length-range_with_len 0 n)

among : (key : ℕ → ℕ) (n v k : ℕ) → k < length (filter (λ a. key a == v) (range_with_len 0 n)) → (slice_index (filter (λ a. key a == v) (range_with_len 0 n)) k < n) × (key (slice_index (filter (λ a. key a == v) (range_with_len 0 n)) k) ≡ v)
among key n v k l =
    let xs = filter (λ a. key a == v) (range_with_len 0 n) in
    let here = contains_filtered (λ a. key a == v) (range_with_len 0 n) (slice_index xs k) (Contains-get_or xs k 0 l) in
    (range_below (slice_index xs k) n here.0, eqb-true (key (slice_index xs k)) v here.1)

-- there are no more arcs at a vertex than in all, and they are the arcs at the vertex
pub few_from : (arcs : List GraphArc) (v : ℕ) → length (arcs_from arcs v) ≤ length arcs
few_from arcs v = few_among (λ a. (arc_at arcs a).tail == v) (length arcs)

pub few_into : (arcs : List GraphArc) (v : ℕ) → length (arcs_into arcs v) ≤ length arcs
few_into arcs v = few_among (λ a. (arc_at arcs a).head == v) (length arcs)

pub from_at : (arcs : List GraphArc) (v k : ℕ) → k < length (arcs_from arcs v) → (slice_index (arcs_from arcs v) k < length arcs) × ((arc_at arcs (slice_index (arcs_from arcs v) k)).tail ≡ v)
from_at arcs v k l = among (λ a. (arc_at arcs a).tail) (length arcs) v k l

pub into_at : (arcs : List GraphArc) (v k : ℕ) → k < length (arcs_into arcs v) → (slice_index (arcs_into arcs v) k < length arcs) × ((arc_at arcs (slice_index (arcs_into arcs v) k)).head ≡ v)
into_at arcs v k l = among (λ a. (arc_at arcs a).head) (length arcs) v k l

range_more : (i : ℕ) → range_with_len 0 (i + 1) ≡ range_with_len 0 i ++ i ∷ []
range_more i = sym (map-id (range_with_len 0 (i + 1))) ∙ (map-range_with_len_more (λ x. x) 0 i i (omega arith) ∙ ap (λ xs. xs ++ i ∷ []) (map-id (range_with_len 0 i)))

-- the numbers below i by their keys, and one more number
abbrev pub rows_of : (ℕ → ℕ) → ℕ → ℕ → List ℕ
rows_of key i v = filter (λ a. key a == v) (range_with_len 0 i)

pub row_more : (key : ℕ → ℕ) (i v : ℕ) → rows_of key (i + 1) v ≡ rows_of key i v ++ cond (key i == v) (i ∷ []) []
row_more key i v =
    ap (λ xs. filter (λ a. key a == v) xs) (range_more i) ∙ (filter-append (λ a. key a == v) (range_with_len 0 i) (i ∷ []) ∙ refl)

pub pushed_rows : (key : ℕ → ℕ) (i count v : ℕ) (rows new : List (List ℕ)) (row : List ℕ) → rows ≡ map (rows_of key i) (range_with_len 0 count) → v ≡ key i → v < count → row ≡ get_or rows v row → new ≡ set rows v (row ++ i ∷ []) → new ≡ map (rows_of key (i + 1)) (range_with_len 0 count)
pushed_rows key i count v rows new row e k l at is =
    let size = index_size (rows_of key i) rows count e in
    let before : (w : ℕ) → w < count → get_or rows w [] ≡ rows_of key i w = λ w lw. ap (λ xs. get_or xs w []) e ∙ get_or-map-range_with_len (rows_of key i) 0 count w w [] lw (omega arith) in
    let long = ap (λ xs. length xs) is ∙ (length-set rows v (row ++ i ∷ []) ∙ size) in
    let each : (w : ℕ) → w < count → get_or new w [] ≡ rows_of key (i + 1) w = λ w lw. ap (λ xs. get_or xs w []) is ∙ elim (cases_eq w v) [
      | inl s ↦ ap (λ x. get_or (set rows v (row ++ i ∷ [])) x []) s ∙ (get_or-set_same rows v (row ++ i ∷ []) [] (omega (arith, l, size))
          ∙ (ap (λ xs. xs ++ i ∷ []) (at ∙ (get_or_default rows v row [] (omega (arith, l, size)) ∙ before v l))
          ∙ sym (row_more key i w ∙ (ap (λ x. rows_of key i x ++ cond (key i == x) (i ∷ []) []) s ∙ ap (λ b. rows_of key i v ++ cond b (i ∷ []) []) (eq-eqb (key i) v (sym k))))))
      | inr n ↦ get_or-set_other rows v w (row ++ i ∷ []) [] n ∙ (before w lw
          ∙ sym (row_more key i w ∙ (ap (λ b. rows_of key i w ++ cond b (i ∷ []) []) (ne_eqb (key i) w (λ s. n (sym s ∙ sym k))) ∙ append-nil (rows_of key i w))))
    ] in
    ext_get_or [] new (map (rows_of key (i + 1)) (range_with_len 0 count)) (long ∙ sym (length-map-range_with_len (rows_of key (i + 1)) 0 count))
    (λ w lw. let lc : w < count = omega (arith, lw, long) in each w lc ∙ sym (get_or-map-range_with_len (rows_of key (i + 1)) 0 count w w [] lc (omega arith)))
