-- What is told of the trees: by a step, and of the plain tree at the root.
use Rattle.std.specs.Prelude.{◌≡◌, ◌≢◌, ◌⊎◌, ℕ, ℤ, Result, Ok, Err, List, [], ◌∷◌, ◌++◌, reverse, All}
use Rattle.path_graph.specs.declared.list.NoMemory.{NoMemory}
use Rattle.route_model.specs.Parts.{ModelParts}
use Rattle.route_model.specs.Places.{root_place}
use Rattle.proof_rules.specs.Nodes.{AtPlace}
use Rattle.proof_rules.specs.OpenTrees.{valued_root}
use Rattle.certificate.specs.declared.cert.NodeForm.{NodeForm}
use Rattle.certificate.specs.declared.cert.NodeForm.TheVariants as node
use Rattle.made_nodes.specs.declared.node.MadeNode.{MadeNode}
use Rattle.made_nodes.specs.Made.{IsMade, StaysOpen, made_children}
use Rattle.search_tree.specs.declared.growing.Grown.{Grown}
use Rattle.search_tree.specs.declared.places.OpenPlace.{OpenPlace}
use Rattle.search_tree.specs.Grown.{IsGrownAt}
use Rattle.search_tree.specs.Places.{IsOpenIn, all_valued, valued}
use Rattle.search_steps.specs.declared.plain.Plain.{Plain}
use Rattle.search_steps.specs.declared.plain.Plain.TheVariants as plain
use Rattle.search_steps.specs.declared.plain.RootNode.{RootNode}
use Rattle.search_steps.specs.declared.plain.RootNode.TheVariants as root
use Rattle.search_steps.specs.declared.stepping.Stepped.{Stepped}
use Rattle.search_steps.specs.declared.stepping.Stepped.TheVariants as stepped
use Rattle.search_steps.specs.Passed.{PassesNodes}
use Rattle.search_steps.specs.Steps.{IsPlain}
use Rattle.search_steps.specs.Trees.{IsGrownBelow}

-- a step tells of a tree, or of want of memory
abbrev pub IsSteppedAs : Result Grown NoMemory → Stepped → Type 0
IsSteppedAs (Ok g) step = step ≡ stepped.Grown g
IsSteppedAs (Err e) step = step ≡ stepped.Memory

-- a tree is whole where nothing is open; else the cost to beat and the best plan are left
abbrev pub IsToldAs : Result Grown NoMemory → Plain → Type 0
IsToldAs (Ok g) p = ((g.rest.items ≡ []) × (p ≡ plain.Whole g)) ⊎ ((g.rest.items ≢ []) × (p ≡ plain.Left g.z g.best))
IsToldAs (Err e) p = p ≡ plain.Memory

-- a node that splits its place; one that lists walks
abbrev pub Splits : NodeForm → Type 0
Splits (node.Split split p) = Unit {0}
Splits form = ⊥

abbrev pub Lists : NodeForm → Type 0
Lists (node.List p tries) = Unit {0}
Lists form = ⊥

-- what the node of the root place does: it lists walks, or splits, or neither
abbrev pub IsRootNode : NodeForm → RootNode → Type 0
IsRootNode form root.Lists = Lists form
IsRootNode form root.Splits = Splits form
IsRootNode form root.Closes = (¬ (Lists form)) × (¬ (Splits form))

-- a tree grows from the last of the places
pub record IsGrownAtLast (m : ModelParts) (places : List OpenPlace) (z : ℤ) (budget : ℕ) (g : Grown) : Type 0 where
  pub front : List OpenPlace
  pub place : OpenPlace
  pub last : places ≡ front ++ place ∷ []
  pub grown : IsGrownBelow m (valued place) z budget g

-- such a node stands at the root, and these are the places that it opens
pub record IsListedRoot (m : ModelParts) (z : ℤ) (made : MadeNode) (opened : List OpenPlace) : Type 0 where
  pub stands : IsMade m z (AtPlace (root_place m)) made
  pub stays : StaysOpen z made
  pub opens : all_valued (reverse opened) ≡ made_children m (valued_root m) made
  pub fit : All (IsOpenIn m) opened
  pub lists : Lists made.form

-- a tree at the root, whichever place is that, which passes the limit of nodes where places are open
pub record IsTreeBelowRoot (m : ModelParts) (z : ℤ) (nodes : ℕ) (g : Grown) : Type 0 where
  pub grown : (root : OpenPlace) → valued root ≡ valued_root m → IsGrownAt m root z nodes g
  pub passes : (g.rest.items ≡ []) ⊎ PassesNodes m nodes

-- what comes of the root, whichever place is that
abbrev pub IsPlainTree : ModelParts → ℤ → ℕ → ℕ → Plain → Type 0
IsPlainTree m z labels nodes p = (root : OpenPlace) → valued root ≡ valued_root m → IsPlain m root z labels nodes p
