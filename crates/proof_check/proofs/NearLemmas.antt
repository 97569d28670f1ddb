-- Near lists, vertex by vertex.
use Rattle.std.proofs.Common.{◌≡◌, ◌≢◌, ◌==◌, ◌&&◌, ℕ, zero, suc, ◌<◌, ◌≤◌, ◌+◌, Bool, true, false, List, [], ◌∷◌, length, get_or, map, inl, inr, refl, sym, ◌∙◌, ap, subst, arith, zero-add}
use Rattle.std.specs.Prelude.{if◌then◌else◌, slice_index_or}
use Rattle.std.specs.List.{range_with_len}
use Rattle.std.proofs.lemmas.Bool.{cases_eq, eq-eqb, ne_eqb}
use Rattle.std.proofs.lemmas.List.{length-map, get_or-map, ext_get_or}
use Rattle.std.proofs.lemmas.List.FromFn.{length-map-range_with_len, get_or-map-range_with_len}
use Rattle.path_graph.specs.declared.set_bits.SetBits.{SetBits}
use Rattle.path_graph.specs.SetBits.{set_of}
use Rattle.path_graph.specs.Walk.{GraphParts}
use Rattle.route_model.specs.Parts.{ModelParts, graph_in}
use Rattle.ng_sets.specs.Near.{FitsGraphs, HasShape, IsVertex, KeepsOthers, graph_at, near_at}
use Rattle.label_rules.specs.Memories.{nothing}
use Rattle.cert_rules.specs.Meaning.{near_in, near_lists, near_sets}
use Rattle.proof_check.specs.NearParts.{AreNear, IsClearedAt, nothing_near}

module _ (m : ModelParts) (near : List (List SetBits)) (fits : FitsGraphs near m.graphs) where
  pub near_count : length near ≡ length m.graphs
  near_count =
      let first = length-map near (λ (sets : List SetBits). length sets) in
      let second = length-map m.graphs (λ (g : GraphParts). length g.vertices) in
      let same = ap length fits in
      omega (arith, first, second, same)

  pub vertex_count : (g : ℕ) → g < length m.graphs → length (graph_at near g) ≡ length (graph_in m.graphs g).vertices
  vertex_count g l =
      let there : g < length near = omega (arith, near_count, l) in
      let first = get_or-map (λ (sets : List SetBits). length sets) near g [] 0 there in
      let second = get_or-map (λ (x : GraphParts). length x.vertices) m.graphs g (graph_in [] 0) 0 l in
      sym first ∙ (ap (λ (xs : List ℕ). get_or xs g 0) fits ∙ second)

  pub is_vertex : (g v : ℕ) → g < length m.graphs → v < length (graph_in m.graphs g).vertices → IsVertex near g v
  is_vertex g v l w = let count = vertex_count g l in (omega (arith, near_count, l), omega (arith, count, w))

-- the lists of the lines, graph by graph
lists_at : (lines : List (ℕ × ℕ × SetBits)) (h : ℕ) (graphs : List GraphParts) (g : ℕ) → g < length graphs
    → slice_index_or (near_in lines h graphs) g [] ≡ map (near_sets lines (h + g)) (range_with_len 0 (length (graph_in graphs g).vertices))
lists_at lines h [] g l = absurd (omega (arith, l))
lists_at lines h (graph ∷ graphs) zero l =
    let same : h ≡ h + 0 = omega arith in
    ap (λ k. map (near_sets lines k) (range_with_len 0 (length graph.vertices))) same
lists_at lines h (graph ∷ graphs) (suc g) l =
    let same : (h + 1) + g ≡ h + suc g = omega arith in
    lists_at lines (h + 1) graphs g (omega (arith, l)) ∙ ap (λ k. map (near_sets lines k) (range_with_len 0 (length (graph_in graphs g).vertices))) same

lists_count : (lines : List (ℕ × ℕ × SetBits)) (h : ℕ) (graphs : List GraphParts) → length (near_in lines h graphs) ≡ length graphs
lists_count lines h [] = refl
lists_count lines h (graph ∷ graphs) = ap suc (lists_count lines (h + 1) graphs)

-- the lists are these where each vertex has its sets
pub near_told : (m : ModelParts) (near : List (List SetBits)) (lines : List (ℕ × ℕ × SetBits)) → AreNear m near (near_sets lines) → near ≡ near_lists m lines
near_told m near lines are =
    let count = near_count m near are.fits in
    ext_get_or [] near (near_lists m lines) (count ∙ sym (lists_count lines 0 m.graphs)) (λ g l. row g (omega (arith, l, count)))
  where
    row : (g : ℕ) → g < length m.graphs → get_or near g [] ≡ get_or (near_lists m lines) g []
    row g l =
        let n : ℕ = length (graph_in m.graphs g).vertices in
        let f : ℕ → SetBits = near_sets lines g in
        let size = vertex_count m near are.fits g l in
        let zero_first : near_sets lines (0 + g) ≡ f = ap (near_sets lines) (zero-add g) in
        ext_get_or (record { bits = [] }) (get_or near g []) (map f (range_with_len 0 n)) (size ∙ sym (length-map-range_with_len f 0 n))
        (λ v w.
        let inside : v < n = omega (arith, w, size) in
        are.each g v l inside ∙ sym (get_or-map-range_with_len f 0 n v v (record { bits = [] }) inside (zero-add v)))
        ∙ sym (lists_at lines 0 m.graphs g l ∙ ap (λ (h : ℕ → SetBits). map h (range_with_len 0 n)) zero_first)

-- the shape stays
pub shape_fits : (m : ModelParts) (old new : List (List SetBits)) → FitsGraphs old m.graphs → HasShape old new → FitsGraphs new m.graphs
shape_fits m old new fits shape = shape ∙ fits

-- one more line
put_sets : (lines : List (ℕ × ℕ × SetBits)) (line : ℕ × ℕ × SetBits) (h w : ℕ) → ¬ ((h ≡ line.0) × (w ≡ line.1)) → near_sets (line ∷ lines) h w ≡ near_sets lines h w
put_sets lines line h w apart = elim (cases_eq line.0 h) [
  | inl e ↦ elim (cases_eq line.1 w) [
    | inl f ↦ absurd (apart (sym e, sym f))
    | inr n ↦ ap (λ (b : Bool). if (line.0 == h) && b then line.2 else near_sets lines h w) (ne_eqb line.1 w n) ∙ none (line.0 == h)
  ]
  | inr n ↦ ap (λ (b : Bool). if b && (line.1 == w) then line.2 else near_sets lines h w) (ne_eqb line.0 h n)
]
  where
    none : (b : Bool) → (if b && false then line.2 else near_sets lines h w) ≡ near_sets lines h w
    none true = refl
    none false = refl

put_here : (lines : List (ℕ × ℕ × SetBits)) (line : ℕ × ℕ × SetBits) → near_sets (line ∷ lines) line.0 line.1 ≡ line.2
put_here lines line =
    ap (λ (b : Bool). if b && (line.1 == line.1) then line.2 else near_sets lines line.0 line.1) (eq-eqb line.0 line.0 refl)
    ∙ ap (λ (b : Bool). if b then line.2 else near_sets lines line.0 line.1) (eq-eqb line.1 line.1 refl)

pub put_line : (m : ModelParts) (old new : List (List SetBits)) (lines : List (ℕ × ℕ × SetBits)) (line : ℕ × ℕ × SetBits) → AreNear m old (near_sets lines)
    → HasShape old new → near_at new line.0 line.1 ≡ line.2 → KeepsOthers old new line.0 line.1 → AreNear m new (near_sets (line ∷ lines))
put_line m old new lines line are shape put others = record {
  fits = shape_fits m old new are.fits shape;
  each = λ h w l inside. elim (cases_eq h line.0) [
    | inl e ↦ elim (cases_eq w line.1) [
      | inl f ↦ ap (λ (k : ℕ). near_at new k w) e ∙ (ap (λ (k : ℕ). near_at new line.0 k) f ∙ (put ∙ (sym (put_here lines line)
          ∙ sym (ap (λ (k : ℕ). near_sets (line ∷ lines) k w) e ∙ ap (λ (k : ℕ). near_sets (line ∷ lines) line.0 k) f))))
      | inr n ↦ kept h w l inside (λ both. n both.1)
    ]
    | inr n ↦ kept h w l inside (λ both. n both.0)
  ];
}
  where
    kept : (h w : ℕ) → h < length m.graphs → w < length (graph_in m.graphs h).vertices → ¬ ((h ≡ line.0) × (w ≡ line.1)) → near_at new h w ≡ near_sets (line ∷ lines) h w
    kept h w l inside apart = others h w apart ∙ (are.each h w l inside ∙ sym (put_sets lines line h w apart))

-- one vertex more is cleared
pub cleared_more : (old new : List (List SetBits)) (g v : ℕ) → IsClearedAt old g v → KeepsOthers old new g v → near_at new g v ≡ set_of nothing → IsClearedAt new g (v + 1)
cleared_more old new g v cleared others put w l = elim (cases_eq w v) [
  | inl e ↦ ap (λ (k : ℕ). near_at new g k) e ∙ put
  | inr n ↦ others g w (λ both. n both.1) ∙ cleared w (omega (arith, l, n))
]

-- the lists of a graph stay as long
pub shape_at : (old new : List (List SetBits)) (g : ℕ) → HasShape old new → g < length old → (g < length new) × (length (graph_at new g) ≡ length (graph_at old g))
shape_at old new g shape l =
    let first = length-map new (λ (sets : List SetBits). length sets) in
    let second = length-map old (λ (sets : List SetBits). length sets) in
    let same = ap length shape in
    let there : g < length new = omega (arith, first, second, same, l) in
    let here = get_or-map (λ (sets : List SetBits). length sets) new g [] 0 there in
    let before = get_or-map (λ (sets : List SetBits). length sets) old g [] 0 l in
    (there, sym here ∙ (ap (λ (xs : List ℕ). get_or xs g 0) shape ∙ before))

pub same_shape : (a b c : List (List SetBits)) → HasShape a b → HasShape b c → HasShape a c
same_shape a b c first second = second ∙ first

-- one graph more is cleared
pub record AreClearedBelow (m : ModelParts) (near : List (List SetBits)) (n : ℕ) : Type 0 where
  pub fits : FitsGraphs near m.graphs
  pub each : (g v : ℕ) → g < n → g < length m.graphs → v < length (graph_in m.graphs g).vertices → near_at near g v ≡ set_of nothing

pub graph_cleared : (m : ModelParts) (old new : List (List SetBits)) (n count : ℕ) → AreClearedBelow m old n → HasShape old new → count ≡ length (graph_in m.graphs n).vertices
    → IsClearedAt new n count → ((h w : ℕ) → h ≢ n → near_at new h w ≡ near_at old h w) → AreClearedBelow m new (n + 1)
graph_cleared m old new n count are shape size cleared others = record {
  fits = shape_fits m old new are.fits shape;
  each = λ g v below l inside. elim (cases_eq g n) [
    | inl e ↦ ap (λ (k : ℕ). near_at new k v) e ∙ cleared v (subst (λ (k : ℕ). v < length (graph_in m.graphs k).vertices → v < count) (sym e) (λ w. omega (arith, w, size)) inside)
    | inr other ↦ others g v other ∙ are.each g v (omega (arith, below, other)) l inside
  ];
}

pub all_cleared : (m : ModelParts) (near : List (List SetBits)) (n : ℕ) → length m.graphs ≤ n → AreClearedBelow m near n → AreNear m near nothing_near
all_cleared m near n past are = record { fits = are.fits; each = λ g v l inside. are.each g v (omega (arith, l, past)) l inside }
