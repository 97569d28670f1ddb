-- What the parts of an extension stand for, and the loops over cuts.
use Rattle.std.proofs.Common.{map, ◌++◌, ◌-◌, inl, inr, ◌≡◌, ℕ, zero, suc, ◌+◌, ◌<◌, ◌≤◌, ℤ, pos, ◌+ℤ◌, Option, List, length, get_or, ◌^◌, FitsSigned, to_z, of_z, refl, sym, ◌∙◌, arith}
use Rattle.std.specs.Int.{w128}
use Rattle.std.specs.Prelude.{replicate}
use Rattle.std.specs.List.{range_with_len}
use Rattle.std.proofs.lemmas.Bool.{cases_lt}
use Rattle.std.proofs.lemmas.Int.{ints, to_z-of_z}
use Rattle.std.proofs.lemmas.List.{get_or_default, ext_get_or, get_or_append_left, get_or-append_right, length-append, length-replicate}
use Rattle.std.proofs.lemmas.List.FromFn.{get_or-map-range_with_len, length-map-range_with_len}
use Rattle.path_graph.specs.declared.parts.Values.{Values}
use Rattle.path_graph.specs.declared.set_bits.SetBits.{SetBits}
use Rattle.path_graph.specs.Fit.{vertex_at}
use Rattle.path_graph.specs.SetBits.{HasNoMember, IsWhole, has_set, set_of}
use Rattle.path_graph.specs.Sums.{sum_below}
use Rattle.path_graph.specs.Within.{IsWithin}
use Rattle.path_graph.proofs.SetBitsMade.{set_of-same}
use Rattle.path_graph.proofs.SumLemmas.{sum_below-more}
use Rattle.rank1_cuts.specs.declared.cut.Cut.{Cut}
use Rattle.rank1_cuts.specs.Visits.{state_after}
use Rattle.ng_sets.specs.Memory.{IsRemembered, Remembers}
use Rattle.ng_sets.specs.Near.{sets_at}
use Rattle.multipliers.specs.Quantities.{cut_at}
use Rattle.label_rules.specs.Memories.{nothing, remembered}
use Rattle.label_rules.specs.declared.label.Label.{Label}
use Rattle.label_rules.specs.Labels.{Setting, visit_at, visit_cost, memory_after, states_after, risen}
use Rattle.route_labels.specs.Arrival.{AreAfter, Arrives, weight_risen}

-- a sum of weights with one term more
pub weight_more : (i total r next : ℕ) (f : ℕ → ℤ) → pos total ≡ sum_below i f → pos r ≡ f i → next ≡ total + r → pos next ≡ sum_below (i + 1) f
weight_more i total r next f h e s =
    let more = sum_below-more i f in
    omega (arith, ints, h, e, s, more)

-- a cut that is read
pub cut_read : (cuts : List Cut) (i : ℕ) (x : Cut) → i < length cuts → x ≡ get_or cuts i x → x ≡ cut_at cuts i
cut_read cuts i x l e = e ∙ get_or_default cuts i x _ l

-- a wide number as code reads it
pub wide_is : (x : ℤ) → IsWithin (2 ^ 114) x → to_z w128 (of_z w128 x) ≡ x
wide_is x near =
    let fits : FitsSigned w128 x = omega (arith, ints, near.0, near.1) in
    to_z-of_z w128 x fits

-- the parts of an extension to a vertex, as the code makes them, with the vertex's set and the sets near it as they are read
pub record Made (S : Setting) (l : Label) (a : ℕ) (set : Option ℕ) (near memory : SetBits) (next : List ℕ) (total : ℤ) : Type 0 where
  pub accepted : ¬ (IsRemembered l.memory set)
  pub after : Remembers l.memory near set memory
  pub whole : IsWhole memory
  pub states : AreAfter S.cuts (length S.cuts) l.states set next
  pub weight : ℕ
  pub risen : pos weight ≡ weight_risen S.cuts S.weights l.states set (length S.cuts)
  pub cost : total ≡ ((l.cost +ℤ S.arc_cost a) +ℤ visit_cost S set) +ℤ pos weight

-- zeros
pub zeros_at : (n k : ℕ) → ◌≡◌ {A = ℕ} (get_or (replicate n 0) k 0) 0
zeros_at zero k = refl
zeros_at (suc n) zero = refl
zeros_at (suc n) (suc k) = zeros_at n k

-- 64 states of which those from n on are 0
made_states : (f : ℕ → ℕ) (n : ℕ) (next : List ℕ) → n ≤ 64 → length next ≡ 64 → ((k : ℕ) → k < n → get_or next k 0 ≡ f k) → ((k : ℕ) → n ≤ k → get_or next k 0 ≡ 0)
    → next ≡ map f (range_with_len 0 n) ++ replicate (64 - n) 0
made_states f n next few size each unused =
    let first = length-map-range_with_len f 0 n in
    let whole = length-append (map f (range_with_len 0 n)) (replicate (64 - n) 0) in
    let zeros : length (replicate {A = ℕ} (64 - n) 0) ≡ 64 - n = length-replicate (64 - n) 0 in
    ext_get_or 0 next (map f (range_with_len 0 n) ++ replicate (64 - n) 0) (omega (arith, size, first, whole, zeros))
    (λ k within. elim (cases_lt k n) [
      | inl low ↦
          each k low
          ∙ sym (get_or_append_left (map f (range_with_len 0 n)) (replicate (64 - n) 0) 0 k (omega (arith, first))
          ∙ get_or-map-range_with_len f 0 n k k 0 low (omega arith))
      | inr high ↦
          unused k high
          ∙ sym (get_or-append_right (map f (range_with_len 0 n)) (replicate (64 - n) 0) n k 0 first high
          ∙ zeros_at (64 - n) (k - n))
    ])

-- they make the label there
module _ (S : Setting) (l : Label) (v : ℕ) (values : Values) (a : ℕ) (memory : SetBits) (states : List ℕ) (cost : ℤ) (few : length S.cuts ≤ 64)
    (made : Made S l a (vertex_at S.graph.vertices v).set (sets_at S.near v) memory states cost) where
  abbrev set : Option ℕ
  set = (vertex_at S.graph.vertices v).set

  memory_is : memory ≡ memory_after l.memory (visit_at S v)
  memory_is = set_of-same memory (remembered (has_set l.memory) (visit_at S v)) made.whole (λ s below. made.after s)

  states_are : states ≡ states_after S l set
  states_are = made_states (λ k. state_after (cut_at S.cuts k) (get_or l.states k 0) set) (length S.cuts) states few made.states.size made.states.each made.states.unused

  risen_is : pos made.weight ≡ risen S l set
  risen_is = made.risen

  cost_is : cost ≡ ((l.cost +ℤ S.arc_cost a) +ℤ visit_cost S set) +ℤ risen S l set
  cost_is = made.cost ∙ (λ i. ((l.cost +ℤ S.arc_cost a) +ℤ visit_cost S set) +ℤ risen_is i)

  pub arrives : Arrives S l v values a (record { vertex = v; values = values; memory = memory; states = states; cost = cost })
  arrives = record {
    accepted = made.accepted;
    label = λ i. record { vertex = v; values = values; memory = memory_is i; states = states_are i; cost = cost_is i };
  }

-- the set with no member
pub empty_is : (set : SetBits) → HasNoMember set → IsWhole set → set ≡ set_of nothing
empty_is set none whole = set_of-same set nothing whole (λ s below. none s)
