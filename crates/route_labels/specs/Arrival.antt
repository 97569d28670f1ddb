-- An extension in parts: what a visit does to the states of the cuts and to the cost.
use Rattle.std.specs.Prelude.{◌≡◌, ℕ, ◌<◌, ◌≤◌, ◌*◌, nat_lt, not, ◌&&◌, ◌==◌, Bool, true, ℤ, pos, ◌+ℤ◌, Option, None, Some, List, length, slice_index}
use lib.Signed.{le_z, lt_z}
use Rattle.path_graph.specs.declared.parts.Values.{Values}
use Rattle.path_graph.specs.Sums.{sum_below}
use Rattle.rank1_cuts.specs.declared.cut.Cut.{Cut}
use Rattle.rank1_cuts.specs.Visits.{rises, state_after}
use Rattle.ng_sets.specs.Memory.{IsRemembered}
use Rattle.multipliers.specs.Quantities.{cut_at}
use Rattle.label_rules.specs.declared.label.Label.{Label}
use Rattle.label_rules.specs.Labels.{Setting, one_if, visit_at, memory_after, states_after, visit_cost, risen}

-- states from n on are 0
abbrev pub AreUnusedFrom : ℕ → List ℕ → Type 0
AreUnusedFrom n states = (k : ℕ) → n ≤ k → slice_index states k ≡ 0

-- 64 states: the first n are those after a visit, and the others 0
pub record AreAfter (cuts : List Cut) (n : ℕ) (states : List ℕ) (set : Option ℕ) (next : List ℕ) : Type 0 where
  pub size : length next ≡ 64
  pub each : (k : ℕ) → k < n → slice_index next k ≡ state_after (cut_at cuts k) (slice_index states k) set
  pub unused : AreUnusedFrom n next

-- the weights of the cuts below n that rise at a visit
abbrev pub weight_risen : List Cut → List ℕ → List ℕ → Option ℕ → ℕ → ℤ
weight_risen cuts y states set n = sum_below n (λ i. pos (slice_index y i * one_if (rises (cut_at cuts i) (slice_index states i) set)))

-- the weights of the cuts below n whose state is greater in the one list than in the other
abbrev pub weight_over : List ℕ → List ℕ → List ℕ → ℕ → ℤ
weight_over y a b n = sum_below n (λ i. pos (slice_index y i * one_if (nat_lt (slice_index b i) (slice_index a i))))

-- a label that has come to a vertex over an arc, with these values
abbrev pub arrived : Setting → Label → ℕ → Values → ℕ → Label
arrived S l v values a =
    let visit = visit_at S v in
    record {
      vertex = v;
      values = values;
      memory = memory_after l.memory visit;
      states = states_after S l visit.set;
      cost = ((l.cost +ℤ S.arc_cost a) +ℤ visit_cost S visit.set) +ℤ risen S l visit.set;
    }

-- the visit to the vertex is not refused, and this is the label there
pub record Arrives (S : Setting) (l : Label) (v : ℕ) (values : Values) (a : ℕ) (next : Label) : Type 0 where
  pub accepted : ¬ (IsRemembered l.memory (visit_at S v).set)
  pub label : next ≡ arrived S l v values a

-- whether a label with this first main value, at this vertex, needs a dominator up to a threshold, or above one; no vertex is
-- the last one into which none does
abbrev pub needed_up_to : Option ℤ → ℤ → ℕ → ℕ → Bool
needed_up_to None first v sink = true
needed_up_to (Some t) first v sink = le_z first t && not (v == sink)

abbrev pub needed_above : Option ℤ → ℤ → ℕ → ℕ → Bool
needed_above None first v source = true
needed_above (Some t) first v source = lt_z t first && not (v == source)
