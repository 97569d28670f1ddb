-- A tree while it grows, node by node and at each node arc by arc.
use Rattle.std.specs.Prelude.{◌≡◌, ℕ, ◌<◌, ◌≤◌, ℤ, Option, List, length, Contains}
use Rattle.label_rules.specs.declared.label.Label.{Label}
use Rattle.label_rules.specs.Labels.{Setting}
use Rattle.list_check.specs.Prefixes.{IsPrefixLabel}
use Rattle.proof_rules.specs.ListWalls.{IsDemandedTree, IsUnfinished}
use Rattle.proof_rules.specs.PrefixTrees.{IsComplete, IsPrefix, IsTree, Step, node_count, step_at}
use Rattle.walk_list.specs.declared.prefixes.Prefix.{Prefix}
use Rattle.walk_list.specs.Prefixes.{IsWantedOf, arc_after, prefix_at}

-- what is kept of a node is that of its prefix
pub record IsNode (S : Setting) (steps : List Step) (k : ℕ) (node : Prefix) : Type 0 where
  pub arcs : List ℕ
  pub prefix : IsPrefix steps k arcs
  pub is : IsPrefixLabel S arcs node.label node.visited

-- the steps are a tree, of which these are the prefixes, and each step is over a wanted arc
pub record IsGrown (S : Setting) (back : List Label) (limit : ℤ) (steps : List Step) (prefixes : List Prefix) : Type 0 where
  pub tree : IsTree S steps
  pub count : length prefixes ≡ node_count steps
  pub each : (k : ℕ) → k < length prefixes → IsNode S steps k (prefix_at prefixes k)
  pub wanted : (n : ℕ) → n < length steps → IsWantedOf S back limit (prefix_at prefixes (step_at steps n).parent) (step_at steps n).arc

-- the wanted arcs of the nodes before a number have their steps, and no later node has a step
pub record IsDoneBelow (S : Setting) (back : List Label) (limit : ℤ) (steps : List Step) (prefixes : List Prefix) (number : ℕ) : Type 0 where
  pub grown : IsGrown S back limit steps prefixes
  pub done : (k a : ℕ) → k < number → k < length prefixes → IsWantedOf S back limit (prefix_at prefixes k) a → Contains steps (record { parent = k; arc = a })
  pub earlier : (n : ℕ) → n < length steps → (step_at steps n).parent < number

-- so have those of this node at the places before one, and it has no other step
pub record IsGrowingAt (S : Setting) (back : List Label) (limit : ℤ) (steps : List Step) (prefixes : List Prefix) (number : ℕ) (node : Prefix) (place : ℕ) : Type 0 where
  pub grown : IsGrown S back limit steps prefixes
  pub there : number < length prefixes
  pub node_is : prefix_at prefixes number ≡ node
  pub done : (k a : ℕ) → k < number → IsWantedOf S back limit (prefix_at prefixes k) a → Contains steps (record { parent = k; arc = a })
  pub here : (i : ℕ) → i < place → IsWantedOf S back limit node (arc_after S node i) → Contains steps (record { parent = number; arc = arc_after S node i })
  pub earlier : (n : ℕ) → n < length steps → (step_at steps n).parent ≤ number
  pub own : (a : ℕ) → Contains steps (record { parent = number; arc = a }) → (i : ℕ) × (i < place) × (a ≡ arc_after S node i)

-- a tree that is complete, each of whose steps is over a demanded arc
pub record IsWhole (S : Setting) (back : List Label) (limit : Option ℤ) (steps : List Step) : Type 0 where
  pub complete : IsComplete S back limit steps
  pub demanded : IsDemandedTree S back limit steps

-- one of so many steps, each over a demanded arc, and one more arc is demanded
pub record IsFull (S : Setting) (back : List Label) (limit : Option ℤ) (room : ℕ) (steps : List Step) : Type 0 where
  pub demanded : IsDemandedTree S back limit steps
  pub unfinished : IsUnfinished S back limit steps
  pub lines : length steps ≡ room
