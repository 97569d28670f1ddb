-- The nodes of a tree of prefixes.
use Rattle.std.specs.Prelude.{◌≡◌, ℕ, ◌<◌, true, ℤ, IsTrue, List, length, slice_index_or}
use Rattle.std.specs.BTreeSet.{BTreeSet}
use Rattle.label_rules.specs.declared.label.Label.{Label}
use Rattle.label_rules.specs.Labels.{Forward, Setting}
use Rattle.label_rules.specs.Spaces.{is_label}
use Rattle.concatenate.specs.Fit.{MayJoin}
use Rattle.proof_rules.specs.PrefixTrees.{IsPrefix, IsTree, Step, node_count}
use Rattle.list_check.specs.declared.nodes.Node.{Node}
use Rattle.list_check.specs.Lines.{has_line}
use Rattle.list_check.specs.Prefixes.{GoesOver, IsOver, IsPrefixLabel, IsWanted}

-- what is kept of a node is that of its prefix
pub record IsNode (S : Setting) (steps : List Step) (k : ℕ) (node : Node) : Type 0 where
  pub arcs : List ℕ
  pub prefix : IsPrefix steps k arcs
  pub is : IsPrefixLabel S arcs node.label node.visited

-- so it is of each node
pub record AreNodes (S : Setting) (steps : List Step) (nodes : List Node) : Type 0 where
  pub count : length nodes ≡ node_count steps
  pub each : (k : ℕ) (other : Node) → k < length nodes → IsNode S steps k (slice_index_or nodes k other)

-- the steps are a tree, of which these are the nodes
pub record IsTreeOf (S : Setting) (steps : List Step) (nodes : List Node) : Type 0 where
  pub tree : IsTree S steps
  pub are : AreNodes S steps nodes

-- an arc goes on from a node, and what is kept of the next one; an arc is wanted at a node
abbrev pub GoesFrom : Setting → Node → ℕ → Type 0
GoesFrom S node a = GoesOver S node.label node.visited a

abbrev pub IsNext : Setting → Node → ℕ → Node → Type 0
IsNext S node a next = IsOver S node.label node.visited a next.label next.visited

abbrev pub IsWantedAt : Setting → List Label → ℤ → Node → ℕ → Type 0
IsWantedAt S back limit node a = IsWanted S back limit node.label node.visited a

-- a step goes on from one of the nodes
pub record StepGoes (S : Setting) (nodes : List Node) (step : Step) : Type 0 where
  pub parent : step.parent < length nodes
  pub goes : (other : Node) → GoesFrom S (slice_index_or nodes step.parent other) step.arc

-- and this is the next node
pub record IsNextNode (S : Setting) (nodes : List Node) (step : Step) (next : Node) : Type 0 where
  pub parent : step.parent < length nodes
  pub is : (other : Node) → IsNext S (slice_index_or nodes step.parent other) step.arc next

-- the label of a node is one of the space, and may be joined
pub record LabelsFit (S : Setting) (node : Node) : Type 0 where
  pub fits : is_label Forward S node.label ≡ true
  pub may : MayJoin S node.label

-- the arc has its line, where it is wanted
abbrev pub HasStep : Setting → List Label → ℤ → BTreeSet (ℕ × ℕ) → ℕ → Node → ℕ → Type 0
HasStep S back limit lines number node a = IsWantedAt S back limit node a → IsTrue (has_line lines number a)

-- so it is of each arc at each node
abbrev pub HaveSteps : Setting → List Label → ℤ → BTreeSet (ℕ × ℕ) → List Node → Type 0
HaveSteps S back limit lines nodes = (k a : ℕ) (other : Node) → k < length nodes → HasStep S back limit lines k (slice_index_or nodes k other) a
