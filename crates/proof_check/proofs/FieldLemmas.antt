-- What the labels of a checked proof see is what the rules of proofs say.
use Rattle.std.proofs.Common.{◌≡◌, ℕ, zero, suc, ◌+◌, ℤ, pos, neg_ℤ, Option, None, Some, List, [], ◌∷◌, ◌++◌, length, map, refl, sym, ◌∙◌, ap, subst, arith}
use Rattle.std.specs.Prelude.{Contains, IsSome, slice_index_or}
use Rattle.std.proofs.lemmas.Bool.{false≢true}
use Rattle.std.proofs.lemmas.List.Elements.{All-contains, Contains-append_right}
use Rattle.std.proofs.lemmas.List.FromFn.{length-map-range_with_len}
use Rattle.path_graph.specs.declared.set_bits.SetBits.{SetBits}
use Rattle.path_graph.specs.Fit.{int_at}
use Rattle.path_graph.specs.Sums.{sum_over}
use Rattle.path_graph.specs.Walk.{GraphParts}
use Rattle.rank1_cuts.specs.declared.cut.Cut.{Cut}
use Rattle.route_model.specs.declared.multipliers.Mult.{Mult}
use Rattle.route_model.specs.declared.multipliers.MultFault.{MultFault}
use Rattle.route_model.specs.declared.multipliers.MultFault.TheVariants.{OpenSide}
use Rattle.route_model.specs.declared.multipliers.Quantity.{Quantity}
use Rattle.route_model.specs.declared.places.Boxes.{Boxes}
use Rattle.route_model.specs.declared.places.Spot.{Spot}
use Rattle.route_model.specs.Parts.{ModelParts, graph_in}
use Rattle.route_model.specs.Places.{shut_at}
use Rattle.ng_sets.specs.Near.{FitsGraphs, graph_at}
use Rattle.multipliers.specs.Priced.{IsFirstOpen, IsMultFault, arc_cost, reduced_unit, start_cost}
use Rattle.multipliers.specs.Quantities.{AreDefined, quantities, term_of}
use Rattle.multipliers.specs.Ranges.{CutsFit}
use Rattle.label_rules.specs.Labels.{Setting}
use Rattle.proof_rules.specs.Places.{setting_at}
use Rattle.certificate.specs.declared.cert.Proof.{Proof}
use Rattle.cert_rules.specs.Meaning.{near_in, near_lists, near_sets, table_of}
use Rattle.label_rules.specs.declared.table.ProofTable.{ProofTable}
use Rattle.proof_rules.specs.Proofs.{Table}
use Rattle.proof_check.specs.declared.checked.Checked.{Checked}
use Rattle.proof_check.specs.declared.proved.Proved.{Proved}
use Rattle.proof_check.specs.Checked.{IsCheckedOf, IsReady}

-- the numbers of mapped lists, at any place
list_at : (F : List ℕ → ℤ) → pos 0 ≡ F [] → (xs : List (List ℕ)) (a : ℕ) → int_at (map F xs) a ≡ F (slice_index_or xs a [])
list_at F e [] a = e
list_at F e (x ∷ xs) zero = refl
list_at F e (x ∷ xs) (suc a) = list_at F e xs a

nested_at : (F : List ℕ → ℤ) → pos 0 ≡ F [] → (maps : List (List (List ℕ))) (g a : ℕ) → int_at (slice_index_or (map (map F) maps) g []) a ≡ F (slice_index_or (slice_index_or maps g []) a [])
nested_at F e [] g a = e
nested_at F e (xs ∷ maps) zero a = list_at F e xs a
nested_at F e (xs ∷ maps) (suc g) a = nested_at F e maps g a

negative_at : (xs : List ℤ) (k : ℕ) → int_at (map neg_ℤ xs) k ≡ neg_ℤ (int_at xs k)
negative_at [] k = refl
negative_at (x ∷ xs) zero = refl
negative_at (x ∷ xs) (suc k) = negative_at xs k

-- what a field with these parts sees
abbrev pub setting_with : ModelParts → Spot → Checked → ℕ → List Cut → List ℕ → Setting
setting_with m spot c g cuts y = record {
  graph = graph_in m.graphs g;
  near = graph_at c.near g;
  is_shut = shut_at m spot g;
  arc_cost = int_at (slice_index_or c.priced.arcs g []);
  set_cost = int_at c.priced.visits;
  start = int_at c.priced.starts g;
  cuts = cuts;
  weights = y;
}

-- the near lists have one for each vertex of each graph
near_shape : (lines : List (ℕ × ℕ × SetBits)) (g : ℕ) (graphs : List GraphParts) → FitsGraphs (near_in lines g graphs) graphs
near_shape lines g [] = refl
near_shape lines g (graph ∷ graphs) = λ i. length-map-range_with_len (near_sets lines g) 0 (length graph.vertices) i ∷ near_shape lines (g + 1) graphs i

-- what is made of a checked proof and the setting of the rules
pub field_setting : (m : ModelParts) (spot : Spot) (p : Proof) (c : Checked) (g : ℕ) (cuts : List Cut) (y : List ℕ) → IsCheckedOf m spot p c → cuts ≡ p.cuts → y ≡ p.mult.cuts
    → setting_with m spot c g cuts y ≡ setting_at m spot (near_lists m p.near) p.cuts p.mult g
field_setting m spot p c g cuts y checked same weights =
    let arcs : (a : ℕ) → int_at (slice_index_or c.priced.arcs g []) a ≡ arc_cost m p.mult g a =
    λ a. ap (λ (xs : List (List ℤ)). int_at (slice_index_or xs g []) a) checked.priced.arcs ∙ nested_at (sum_over (reduced_unit m p.mult)) refl m.maps g a in
    let visits : (s : ℕ) → int_at c.priced.visits s ≡ neg_ℤ (int_at p.mult.sets s) = λ s. ap (λ (xs : List ℤ). int_at xs s) checked.priced.visits ∙ negative_at p.mult.sets s in
    let start : int_at c.priced.starts g ≡ start_cost p.mult g = ap (λ (xs : List ℤ). int_at xs g) checked.priced.starts ∙ negative_at p.mult.paths g in
    λ i. record {
      graph = graph_in m.graphs g;
      near = graph_at (checked.near i) g;
      is_shut = shut_at m spot g;
      arc_cost = λ a. arcs a i;
      set_cost = λ s. visits s i;
      start = start i;
      cuts = same i;
      weights = weights i;
    }

-- the parts of a field fit
pub cuts_of_ready : (at : Proved) → IsReady at → CutsFit at.proof.now.cuts at.proof.now.mult
cuts_of_ready at ready = record { few = ready.keeps.few_cuts; each = ready.cuts; count = ready.keeps.weights; each_mult = ready.keeps.each_weight }

pub near_of_ready : (at : Proved) → IsReady at → FitsGraphs at.checked.now.near at.model.now.graphs
near_of_ready at ready =
    subst (λ (near : List (List SetBits)). FitsGraphs near at.model.now.graphs) (sym ready.checked.near) (near_shape at.proof.now.near 0 at.model.now.graphs)

-- where a multiplier needs an open side, not every term is defined
none_is_some : {X : Type 0} (o : Option X) → o ≡ None → IsSome o → ⊥
none_is_some None e h = absurd (false≢true h)
none_is_some (Some x) e h = absurd (cc)

pub open_refused : (m : ModelParts) (cuts : List Cut) (boxes : Boxes) (mult : Mult) (q : Quantity) → IsFirstOpen m cuts boxes mult q → ¬ (AreDefined m cuts boxes mult)
open_refused m cuts boxes mult q first defined =
    let inside : Contains (first.before ++ q ∷ first.after) q = Contains-append_right first.before (q ∷ first.after) q (0, omega arith, refl) in
    none_is_some (term_of m cuts boxes mult q) first.open_side
    (All-contains (λ (r : Quantity). IsSome (term_of m cuts boxes mult r)) (quantities m cuts) q defined (subst (λ (qs : List Quantity). Contains qs q) (sym first.order) inside))

-- what is told of an open side
pub fault_told : (m : ModelParts) (cuts slice : List Cut) (boxes : Boxes) (mult : Mult) (fault : MultFault) (q : Quantity) → slice ≡ cuts → fault ≡ OpenSide q → IsMultFault m slice boxes mult fault
    → ¬ (AreDefined m cuts boxes mult)
fault_told m cuts slice boxes mult fault q same is told =
    open_refused m cuts boxes mult q (subst (λ (cs : List Cut). IsMultFault m cs boxes mult (OpenSide q)) same (subst (IsMultFault m slice boxes mult) is told))

-- the leasts of a proof are those of its tables
pub leasts_told : (tables : List ProofTable) → map (λ (t : Table). t.least) (map table_of tables) ≡ map (λ (t : ProofTable). t.least) tables
leasts_told [] = refl
leasts_told (t ∷ tables) = ap (λ (rest : List (Option ℤ)). t.least ∷ rest) (leasts_told tables)
