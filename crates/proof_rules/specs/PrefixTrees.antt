-- Trees of the prefixes of walks, and what makes one complete.
use Rattle.std.specs.Prelude.{◌≡◌, ◌≢◌, ◌==◌, ℕ, zero, suc, ◌<◌, ◌≤◌, ℤ, Option, Some, List, [], ◌∷◌, ◌++◌, length, filter, map, slice_index_or, Contains}
use Rattle.std.specs.List.{range_with_len}
use Rattle.path_graph.specs.Bounds.{IsAtMost}
use Rattle.path_graph.specs.Visits.{visit_over, visits_along}
use Rattle.path_graph.specs.Walk.{arc_at, Takes}
use Rattle.label_rules.specs.declared.label.Label.{Label}
use Rattle.label_rules.specs.Labels.{Setting, forward_label, HasForwardLabel}
use Rattle.label_rules.specs.Joins.{Joins, join_cost}
use Rattle.label_rules.specs.Admitted.{IsElementary}

-- node 0 is the empty prefix; each step makes the next node, over an arc from its parent
pub record Step : Type 0 where
  pub parent : ℕ
  pub arc : ℕ

abbrev pub step_at : List Step → ℕ → Step
step_at steps n = slice_index_or steps n (record { parent = 0; arc = 0 })

abbrev pub node_count : List Step → ℕ
node_count steps = suc (length steps)

-- the step from a node over an arc is the one so numbered
pub record IsStep (steps : List Step) (k a n : ℕ) : Type 0 where
  pub within : n < length steps
  pub is : step_at steps n ≡ record { parent = k; arc = a }

-- arcs lead down from one node to the other, each by its step
abbrev pub LeadsDown : List Step → ℕ → List ℕ → ℕ → Type 0
LeadsDown steps j [] k = j ≡ k
LeadsDown steps j (a ∷ rest) k = (n : ℕ) × IsStep steps j a n × LeadsDown steps (suc n) rest k

-- the prefix of a node
abbrev pub IsPrefix : List Step → ℕ → List ℕ → Type 0
IsPrefix steps k arcs = LeadsDown steps 0 arcs k

-- the vertex that a node stands at
abbrev pub node_vertex : Setting → List Step → ℕ → ℕ
node_vertex S steps zero = S.graph.ends.source
node_vertex S steps (suc n) = (arc_at S.graph.arcs (step_at steps n).arc).head

-- each parent is an earlier node, no step stands twice, and each prefix is elementary: a feasible partial walk over open
-- arcs that visits each packing set at most once
pub record IsTree (S : Setting) (steps : List Step) : Type 0 where
  pub parents : (n : ℕ) → n < length steps → (step_at steps n).parent ≤ n
  pub once : (m n : ℕ) → m < n → n < length steps → step_at steps m ≢ step_at steps n
  pub each : (k : ℕ) (arcs : List ℕ) → IsPrefix steps k arcs → IsElementary S arcs (node_vertex S steps k)

-- an arc is demanded after a prefix: it is open and no window refuses it, it enters no set that the prefix visits, and the
-- prefix's label is defined and joins a label of the backward list over it within the limit
pub record IsDemanded (S : Setting) (back : List Label) (limit : Option ℤ) (arcs : List ℕ) (a : ℕ) : Type 0 where
  pub takes : Takes S.graph (forward_label S arcs).values a
  pub new : (s : ℕ) → visit_over S.graph a ≡ Some s → ¬ (Contains (visits_along S.graph arcs) (Some s))
  pub label : HasForwardLabel S arcs
  pub rest : Label
  pub in_back : Contains back rest
  pub joins : Joins S (forward_label S arcs) a rest
  pub within : IsAtMost limit (join_cost S (forward_label S arcs) a rest)

-- a tree is complete where, at each node but at the sink, each demanded arc leads to a child
pub record IsComplete (S : Setting) (back : List Label) (limit : Option ℤ) (steps : List Step) : Type 0 where
  pub tree : IsTree S steps
  pub has_steps : (k : ℕ) (arcs : List ℕ) (a : ℕ) → IsPrefix steps k arcs → node_vertex S steps k ≢ S.graph.ends.sink → IsDemanded S back limit arcs a
      → (n : ℕ) × IsStep steps k a n

-- a walk is listed: it is the prefix of a node at the sink
pub record IsListed (S : Setting) (steps : List Step) (walk : List ℕ) : Type 0 where
  pub node : ℕ
  pub at_sink : node_vertex S steps node ≡ S.graph.ends.sink
  pub prefix : IsPrefix steps node walk

-- the walks of a tree: the prefixes of the nodes at the sink, in order, each read off the steps
abbrev pub prefix_within : List Step → ℕ → ℕ → List ℕ
prefix_within steps zero k = []
prefix_within steps (suc bound) zero = []
prefix_within steps (suc bound) (suc n) = prefix_within steps bound (step_at steps n).parent ++ (step_at steps n).arc ∷ []

abbrev pub prefix_of : List Step → ℕ → List ℕ
prefix_of steps k = prefix_within steps (suc k) k

abbrev pub sink_nodes : Setting → List Step → List ℕ
sink_nodes S steps = filter (λ k. node_vertex S steps k == S.graph.ends.sink) (range_with_len 0 (node_count steps))

abbrev pub walks_of : Setting → List Step → List (List ℕ)
walks_of S steps = map (prefix_of steps) (sink_nodes S steps)
