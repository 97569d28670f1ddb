-- The prefixes of walks by what is kept of them: a label and the packing sets that they visit.
use Rattle.std.specs.Prelude.{◌≡◌, ◌↔◌, ℕ, ◌<◌, ◌||◌, true, false, ℤ, Some, List, length, Contains, IsTrue}
use Rattle.path_graph.specs.declared.set_bits.SetBits.{SetBits}
use Rattle.path_graph.specs.SetBits.{has_set}
use Rattle.path_graph.specs.Visits.{visit_over, visits_along}
use Rattle.path_graph.specs.Walk.{arc_at}
use Rattle.ng_sets.specs.Memory.{is_visited}
use Rattle.label_rules.specs.Admitted.{IsElementary}
use Rattle.label_rules.specs.Joins.{JoinsWithin}
use Rattle.label_rules.specs.declared.label.Label.{Label}
use Rattle.label_rules.specs.Labels.{CanExtend, Forward, Setting, extended, forward_label}
use Rattle.label_rules.specs.Spaces.{is_label}

-- arcs from the source are elementary, this is their label, and these are the sets that they visit
pub record IsPrefixLabel (S : Setting) (arcs : List ℕ) (label : Label) (visited : SetBits) : Type 0 where
  pub elementary : IsElementary S arcs label.vertex
  pub is : label ≡ forward_label S arcs
  pub fits : is_label Forward S label ≡ true
  pub visits : (s : ℕ) → IsTrue (has_set visited s) ↔ Contains (visits_along S.graph arcs) (Some s)

-- an arc goes on from a label: it leaves its vertex, its extension over the arc is defined, and it enters no visited set
pub record GoesOver (S : Setting) (label : Label) (visited : SetBits) (a : ℕ) : Type 0 where
  pub there : a < length S.graph.arcs
  pub leaves : (arc_at S.graph.arcs a).tail ≡ label.vertex
  pub can : CanExtend Forward S label a
  pub new : (s : ℕ) → visit_over S.graph a ≡ Some s → has_set visited s ≡ false

-- the label after such an arc, and what is then visited
pub record IsOver (S : Setting) (label : Label) (visited : SetBits) (a : ℕ) (next : Label) (more : SetBits) : Type 0 where
  pub goes : GoesOver S label visited a
  pub is : next ≡ extended Forward S label a
  pub visits : (s : ℕ) → has_set more s ≡ (has_set visited s || is_visited (visit_over S.graph a) s)

-- over an arc some label of a list joins a label at no more than a limit
pub record JoinsOne (S : Setting) (back : List Label) (limit : ℤ) (label : Label) (a : ℕ) : Type 0 where
  pub rest : Label
  pub in_back : Contains back rest
  pub join : JoinsWithin S label a rest limit

-- an arc is wanted: it goes on from a label and has such a join
pub record IsWanted (S : Setting) (back : List Label) (limit : ℤ) (label : Label) (visited : SetBits) (a : ℕ) : Type 0 where
  pub goes : GoesOver S label visited a
  pub joins : JoinsOne S back limit label a
