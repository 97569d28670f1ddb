-- The labels of partial walks and of rests: where one begins, and what an extension over an arc makes of it.
use Rattle.std.specs.Prelude.{◌≡◌, ℕ, ◌<◌, ◌*◌, Bool, false, if◌then◌else◌, ℤ, pos, ◌+ℤ◌, Option, None, Some, List, [], ◌∷◌, ◌++◌, length, map, slice_index, slice_index_or, replicate, ◌-◌}
use Rattle.std.specs.List.{range_with_len}
use Rattle.path_graph.specs.declared.parts.Values.{Values}
use Rattle.path_graph.specs.declared.set_bits.SetBits.{SetBits}
use Rattle.path_graph.specs.Fit.{vertex_at}
use Rattle.path_graph.specs.SetBits.{has_set, set_of}
use Rattle.path_graph.specs.Sums.{sum_below}
use Rattle.path_graph.specs.Walk.{GraphParts, IsGraph, arc_at, Takes, over_of, root_of}
use Rattle.path_graph.specs.Rest.{TakesBack, back_of, end_of}
use Rattle.rank1_cuts.specs.declared.cut.Cut.{Cut}
use Rattle.rank1_cuts.specs.Fit.{CutFits}
use Rattle.rank1_cuts.specs.Visits.{rises, state_after}
use Rattle.ng_sets.specs.Memory.{IsRemembered}
use Rattle.ng_sets.specs.Near.{sets_at}
use Rattle.label_rules.specs.Memories.{Visit, nothing, remembered}
pub use Rattle.label_rules.specs.declared.label.Label.{Label}

-- all that a label sees: a graph, the sets near its vertices, its shut arcs, the reduced costs of an arc, of a visit to a
-- set and of the start, and cuts with their weights y
pub record Setting : Type 0 where
  pub graph : GraphParts
  pub near : List SetBits
  pub is_shut : ℕ → Bool
  pub arc_cost : ℕ → ℤ
  pub set_cost : ℕ → ℤ
  pub start : ℤ
  pub cuts : List Cut
  pub weights : List ℕ

-- partial walks go forward, from the source; rests go backward, from the sink
pub data Direction : Type 0 where
  Forward : Direction
  Backward : Direction

-- a cut by number, and its state in a label
abbrev pub cut_at : Setting → ℕ → Cut
cut_at S i = slice_index_or S.cuts i (record { den = 0; sets = []; memory = record { bits = [] } })

abbrev pub state_at : Label → ℕ → ℕ
state_at l i = slice_index l.states i

-- the graph is one, and the cuts fit
pub record SettingFits (S : Setting) : Type 0 where
  pub graph : IsGraph S.graph
  pub cuts : (i : ℕ) → i < length S.cuts → CutFits (cut_at S i)

-- an arc leads on from the one of its vertices, and enters the other
abbrev pub left : Direction → Setting → ℕ → ℕ
left Forward S a = (arc_at S.graph.arcs a).tail
left Backward S a = (arc_at S.graph.arcs a).head

abbrev pub entered : Direction → Setting → ℕ → ℕ
entered Forward S a = (arc_at S.graph.arcs a).head
entered Backward S a = (arc_at S.graph.arcs a).tail

-- the visit to a vertex, and to the one that an arc enters
abbrev pub visit_at : Setting → ℕ → Visit
visit_at S v = record { set = (vertex_at S.graph.vertices v).set; near = has_set (sets_at S.near v) }

abbrev pub visit_of : Direction → Setting → ℕ → Visit
visit_of direction S a = visit_at S (entered direction S a)

-- the values over an arc, and that no window refuses them
abbrev pub values_over : Direction → Setting → Values → ℕ → Values
values_over Forward S value a = over_of S.graph value a
values_over Backward S value a = back_of S.graph value a

abbrev pub WindowsTake : Direction → Setting → Values → ℕ → Type 0
WindowsTake Forward S value a = Takes S.graph value a
WindowsTake Backward S value a = TakesBack S.graph value a

-- the memory after a visit
abbrev pub memory_after : SetBits → Visit → SetBits
memory_after memory visit = set_of (remembered (has_set memory) visit)

-- the states of the cuts after a visit, 0 from the number of cuts on
abbrev pub states_after : Setting → Label → Option ℕ → List ℕ
states_after S l set =
    map (λ i. state_after (cut_at S i) (state_at l i) set) (range_with_len 0 (length S.cuts)) ++ replicate (64 - length S.cuts) 0

-- the weight of a cut, so many times; 1 where a test passes
abbrev pub charge : Setting → ℕ → ℕ → ℤ
charge S i n = pos (slice_index S.weights i * n)

abbrev pub one_if : Bool → ℕ
one_if holds = if holds then 1 else 0

-- the weights of the cuts that rise at a visit, and the cost of a visit but for these
abbrev pub risen : Setting → Label → Option ℕ → ℤ
risen S l set = sum_below (length S.cuts) (λ i. charge S i (one_if (rises (cut_at S i) (state_at l i) set)))

abbrev pub visit_cost : Setting → Option ℕ → ℤ
visit_cost S None = pos 0
visit_cost S (Some s) = S.set_cost s

-- the label after an extension over an arc
abbrev pub extended : Direction → Setting → Label → ℕ → Label
extended direction S l a =
    let visit = visit_of direction S a in
    record {
      vertex = entered direction S a;
      values = values_over direction S l.values a;
      memory = memory_after l.memory visit;
      states = states_after S l visit.set;
      cost = ((l.cost +ℤ S.arc_cost a) +ℤ visit_cost S visit.set) +ℤ risen S l visit.set;
    }

-- the extension is defined: the arc is not shut, and neither a window nor the memory refuses it
pub record CanExtend (direction : Direction) (S : Setting) (l : Label) (a : ℕ) : Type 0 where
  pub open_arc : S.is_shut a ≡ false
  pub values : WindowsTake direction S l.values a
  pub memory : ¬ (IsRemembered l.memory (visit_of direction S a).set)

-- the labels at the source and at the sink
abbrev pub root : Direction → Setting → Label
root Forward S = record { vertex = S.graph.ends.source; values = root_of S.graph; memory = set_of nothing; states = replicate 64 0; cost = S.start }
root Backward S = record { vertex = S.graph.ends.sink; values = end_of S.graph; memory = set_of nothing; states = replicate 64 0; cost = pos 0 }

-- the label after arcs that begin at a label, and that each of these extensions is defined
abbrev pub label_from : Setting → Label → List ℕ → Label
label_from S l [] = l
label_from S l (a ∷ rest) = label_from S (extended Forward S l a) rest

abbrev pub ExtendsAlong : Setting → Label → List ℕ → Type 0
ExtendsAlong S l [] = Unit {0}
ExtendsAlong S l (a ∷ rest) = CanExtend Forward S l a × ExtendsAlong S (extended Forward S l a) rest

-- the label of a partial walk, and that it is defined
abbrev pub forward_label : Setting → List ℕ → Label
forward_label S arcs = label_from S (root Forward S) arcs

abbrev pub HasForwardLabel : Setting → List ℕ → Type 0
HasForwardLabel S arcs = ExtendsAlong S (root Forward S) arcs

-- the label of a rest, which goes back over its last arc first, and that it is defined
abbrev pub backward_label : Setting → List ℕ → Label
backward_label S [] = root Backward S
backward_label S (a ∷ rest) = extended Backward S (backward_label S rest) a

abbrev pub HasBackwardLabel : Setting → List ℕ → Type 0
HasBackwardLabel S [] = Unit {0}
HasBackwardLabel S (a ∷ rest) = CanExtend Backward S (backward_label S rest) a × HasBackwardLabel S rest
