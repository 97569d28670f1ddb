-- Lemmas on the sets near each vertex.
use Rattle.std.proofs.Common.{◌≡◌, ℕ, ◌+◌, ◌-◌, ◌%◌, ◌<◌, ◌==◌, nat_lt, List, [], ◌∷◌, ◌++◌, length, get_or, set, take, replicate, zero, suc, refl, sym, ◌∙◌, ap, subst, arith, inl, inr}
use Rattle.std.specs.Prelude.{map}
use Rattle.std.specs.Int.{bit_at}
use Rattle.std.proofs.lemmas.Nat.Bits.{bit_at-zero}
use Rattle.std.proofs.lemmas.Bool.{cases_lt, and_right}
use Rattle.std.proofs.lemmas.List.{get_or-replicate, length-replicate, get_or_past, get_or-map, length-map, get_or_append_left, map-append, take_more}
use Rattle.std.proofs.Math.Seq.{map-set_same, get_or-append_right}
use Rattle.path_graph.specs.declared.set_bits.SetBits.{SetBits}
use Rattle.path_graph.specs.SetBits.{has_set, HasNoMember}
use Rattle.path_graph.specs.Walk.{GraphParts}
use Rattle.ng_sets.specs.Near.{graph_at, sets_at, near_at, FitsGraphs, HasNone, HasShape, IsVertex, IsNothingNear}

-- another list of the same length in the place of one keeps the shape
pub shape_of_set : (near inside : List (List SetBits)) (g : ℕ) (row new : List SetBits) → inside ≡ near → row ≡ get_or inside g row → length new ≡ length row
    → HasShape near (set inside g new)
shape_of_set near inside g row new same is size =
    map-set_same length inside g new row (size ∙ ap length is) ∙ ap (λ (xs : List (List SetBits)). map length xs) same

none_default : HasNoMember (record { bits = [] })
unfolding has_set
none_default k = and_right (nat_lt k 512) (bit_at 0 (k % 64) == 1) (ap (λ (n : ℕ). n == 1) (bit_at-zero (k % 64)))

-- as many empty sets as the graph has vertices
pub nothing_near_all : (graph : GraphParts) (n : ℕ) (none : SetBits) (sets : List SetBits) → HasNoMember none → n ≡ length graph.vertices → sets ≡ replicate n none → IsNothingNear graph sets
nothing_near_all graph n none sets empty count e = (
  ap length e ∙ (length-replicate n none ∙ count),
  λ v. subst (λ (xs : List SetBits). HasNoMember (sets_at xs v)) (sym e) (elim (cases_lt v n) [
    | inl l ↦ subst HasNoMember (sym (get_or-replicate n v none (record { bits = [] }) l)) empty
    | inr l ↦ subst HasNoMember (sym (get_or_past (replicate n none) v (record { bits = [] }) (omega (arith, length-replicate n none, l)))) none_default
  ]),
)

-- one graph alone
none_alone : (sets : List SetBits) (v : ℕ) → ((w : ℕ) → HasNoMember (sets_at sets w)) → (g : ℕ) → HasNoMember (near_at (sets ∷ []) g v)
none_alone sets v new zero = new v
none_alone sets v new (suc g) = none_default

-- one graph more
none_push : (near : List (List SetBits)) (sets : List SetBits) → HasNone near → ((v : ℕ) → HasNoMember (sets_at sets v)) → HasNone (near ++ sets ∷ [])
none_push near sets old new g v = elim (cases_lt g (length near)) [
  | inl l ↦ subst (λ (xs : List SetBits). HasNoMember (sets_at xs v)) (sym (get_or_append_left near (sets ∷ []) [] g l)) (old g v)
  | inr l ↦ subst (λ (xs : List SetBits). HasNoMember (sets_at xs v)) (sym (get_or-append_right near (sets ∷ []) g [] l)) (none_alone sets v new (g - length near))
]

fits_push : (near : List (List SetBits)) (sets : List SetBits) (graphs : List GraphParts) (i : ℕ) (graph : GraphParts) → i < length graphs → graph ≡ get_or graphs i graph
    → FitsGraphs near (take i graphs) → length sets ≡ length graph.vertices → FitsGraphs (near ++ sets ∷ []) (take (i + 1) graphs)
fits_push near sets graphs i graph below is fits count =
    let f : GraphParts → ℕ = λ g. length g.vertices in
    let more = take_more graphs i graph below in
    let here : length sets ≡ f (get_or graphs i graph) = count ∙ ap f is in
    map-append length near (sets ∷ [])
    ∙ (ap (λ (xs : List ℕ). xs ++ length sets ∷ []) fits
    ∙ (ap (λ (n : ℕ). map f (take i graphs) ++ n ∷ []) here
    ∙ (sym (map-append f (take i graphs) (get_or graphs i graph ∷ []))
    ∙ ap (map f) (sym more))))

-- no graph at all
pub none_anywhere : (near : List (List SetBits)) → near ≡ [] → FitsGraphs near [] × HasNone near
none_anywhere near e = subst (λ (xs : List (List SetBits)). FitsGraphs xs [] × HasNone xs) (sym e) (refl, λ g v. none_default)

-- what a loop over the graphs keeps
pub graph_more : (near new : List (List SetBits)) (sets : List SetBits) (graphs : List GraphParts) (i : ℕ) (graph : GraphParts) → new ≡ near ++ sets ∷ []
    → i < length graphs → graph ≡ get_or graphs i graph → FitsGraphs near (take i graphs) × HasNone near → IsNothingNear graph sets
    → FitsGraphs new (take (i + 1) graphs) × HasNone new
graph_more near new sets graphs i graph e below is old nothing =
    subst (λ (xs : List (List SetBits)). FitsGraphs xs (take (i + 1) graphs) × HasNone xs) (sym e)
    (fits_push near sets graphs i graph below is old.0 nothing.0, none_push near sets old.1 nothing.1)

-- a vertex of a graph has its list, and keeps it
pub vertex_of_graphs : (near : List (List SetBits)) (graphs : List GraphParts) (g v : ℕ) (graph : GraphParts) → FitsGraphs near graphs → g < length graphs → get_or graphs g graph ≡ graph
    → v < length graph.vertices → IsVertex near g v
vertex_of_graphs near graphs g v graph fits below is inside =
    let f : GraphParts → ℕ = λ x. length x.vertices in
    let count : length near ≡ length graphs = sym (length-map near length) ∙ (ap length fits ∙ length-map graphs f) in
    let within : g < length near = omega arith in
    let here : length (graph_at near g) ≡ f (get_or graphs g graph) =
    sym (get_or-map length near g [] (f graph) within) ∙ (ap (λ (xs : List ℕ). get_or xs g (f graph)) fits ∙ get_or-map f graphs g graph (f graph) below) in
    let same : f (get_or graphs g graph) ≡ f graph = ap f is in
    (within, omega (arith, here, same, inside))

pub vertex_kept : (old new : List (List SetBits)) (g v : ℕ) → HasShape old new → IsVertex old g v → IsVertex new g v
vertex_kept old new g v shape is =
    let count : length new ≡ length old = sym (length-map new length) ∙ (ap length shape ∙ length-map old length) in
    let within : g < length new = omega (arith, count, is.0) in
    let here : length (graph_at new g) ≡ length (graph_at old g) =
    sym (get_or-map length new g [] 0 within) ∙ (ap (λ (xs : List ℕ). get_or xs g 0) shape ∙ get_or-map length old g [] 0 is.0) in
    (within, omega (arith, here, is.1))
