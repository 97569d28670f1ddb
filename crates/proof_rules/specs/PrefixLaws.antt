-- The laws of trees of prefixes: what they list, and what a loop that makes or reads one needs at each step.
use Rattle.std.specs.Prelude.{◌≡◌, ◌≢◌, ◌↔◌, ℕ, ◌<◌, false, ℤ, Option, None, Some, List, [], ◌∷◌, ◌++◌, length, Contains, All}
use Rattle.std.specs.List.{AllPairs}
use Rattle.path_graph.specs.Bounds.{IsAtMost, IsNoGreater}
use Rattle.path_graph.specs.Visits.{visit_over, visits_along}
use Rattle.path_graph.specs.Walk.{arc_at, Takes}
use Rattle.label_rules.specs.declared.label.Label.{Label}
use Rattle.label_rules.specs.Labels.{Setting, Backward, SettingFits, forward_label, HasForwardLabel}
use Rattle.label_rules.specs.Admitted.{IsElementary}
use Rattle.label_rules.specs.Tables.{IsCover}
use Rattle.proof_rules.specs.PrefixTrees.{Step, node_count, IsPrefix, IsTree, IsDemanded, IsComplete, IsListed, prefix_of, walks_of}

-- a complete tree lists every elementary walk that costs no more than the limit
abbrev pub ListedLaw : Type 0
ListedLaw = (S : Setting) (back : List Label) (limit : Option ℤ) (steps : List Step) (walk : List ℕ) → SettingFits S → IsCover Backward S None back
    → IsComplete S back limit steps → IsElementary S walk S.graph.ends.sink → IsAtMost limit (forward_label S walk).cost → IsListed S steps walk

-- the label of every prefix in a tree is defined: so none is refused by the memory
abbrev pub PrefixLabelLaw : Type 0
PrefixLabelLaw = (S : Setting) (steps : List Step) (k : ℕ) (arcs : List ℕ) → SettingFits S → IsTree S steps → IsPrefix steps k arcs → HasForwardLabel S arcs

-- what is complete stays so where the limit falls
abbrev pub CompleteFallsLaw : Type 0
CompleteFallsLaw = (S : Setting) (back : List Label) (less limit : Option ℤ) (steps : List Step) → IsNoGreater less limit
    → IsComplete S back limit steps → IsComplete S back less steps

-- each node of a tree has one prefix, which is read off the steps, and no other node has the same
abbrev pub PrefixOfLaw : Type 0
PrefixOfLaw = (S : Setting) (steps : List Step) (k : ℕ) → IsTree S steps → k < node_count steps → IsPrefix steps k (prefix_of steps k)

abbrev pub OnePrefixLaw : Type 0
OnePrefixLaw = (S : Setting) (steps : List Step) (k : ℕ) (xs ys : List ℕ) → IsTree S steps → IsPrefix steps k xs → IsPrefix steps k ys → xs ≡ ys

abbrev pub OneNodeLaw : Type 0
OneNodeLaw = (S : Setting) (steps : List Step) (j k : ℕ) (arcs : List ℕ) → IsTree S steps → IsPrefix steps j arcs → IsPrefix steps k arcs → j ≡ k

-- the walks of a tree are those that are listed, and none of them stands twice
abbrev pub WalksListedLaw : Type 0
WalksListedLaw = (S : Setting) (steps : List Step) (walk : List ℕ) → IsTree S steps → (Contains (walks_of S steps) walk ↔ IsListed S steps walk)

abbrev pub WalksDifferLaw : Type 0
WalksDifferLaw = (S : Setting) (steps : List Step) → IsTree S steps → AllPairs (λ x y. x ≢ y) (walks_of S steps)

-- different arcs from the source, at least one, that are elementary
pub record ArePartialWalks (S : Setting) (prefixes : List (List ℕ)) : Type 0 where
  pub some : All (λ arcs. arcs ≢ []) prefixes
  pub each : All (λ arcs. (v : ℕ) × IsElementary S arcs v) prefixes
  pub differ : AllPairs (λ x y. x ≢ y) prefixes

-- there are as many of them as a tree has steps
abbrev pub PartialWalksLaw : Type 0
PartialWalksLaw = (S : Setting) (steps : List Step) → IsTree S steps → (prefixes : List (List ℕ)) × (length prefixes ≡ length steps) × ArePartialWalks S prefixes

-- an open arc goes on from the vertex of a prefix: no window refuses it, and it enters no set again
pub record GoesOn (S : Setting) (arcs : List ℕ) (v a : ℕ) : Type 0 where
  pub there : a < length S.graph.arcs
  pub leaves : (arc_at S.graph.arcs a).tail ≡ v
  pub open_arc : S.is_shut a ≡ false
  pub takes : Takes S.graph (forward_label S arcs).values a
  pub new : (s : ℕ) → visit_over S.graph a ≡ Some s → ¬ (Contains (visits_along S.graph arcs) (Some s))

abbrev pub head_of : Setting → ℕ → ℕ
head_of S a = (arc_at S.graph.arcs a).head

-- an elementary prefix stays so over such an arc, and each demanded arc is one
abbrev pub ElementaryStepLaw : Type 0
ElementaryStepLaw = (S : Setting) (arcs : List ℕ) (v a : ℕ) → IsElementary S arcs v → GoesOn S arcs v a → IsElementary S (arcs ++ a ∷ []) (head_of S a)

abbrev pub DemandedStepLaw : Type 0
DemandedStepLaw = (S : Setting) (back : List Label) (limit : Option ℤ) (arcs : List ℕ) (v a : ℕ) → IsElementary S arcs v → IsDemanded S back limit arcs a → GoesOn S arcs v a

-- without steps there is a tree; a new step from one of its nodes, over which its prefix stays elementary, makes the next
abbrev pub EmptyTreeLaw : Type 0
EmptyTreeLaw = (S : Setting) → IsTree S []

pub record IsNewStep (S : Setting) (steps : List Step) (step : Step) : Type 0 where
  pub from : step.parent < node_count steps
  pub new : ¬ (Contains steps step)
  pub arcs : List ℕ
  pub prefix : IsPrefix steps step.parent arcs
  pub elementary : IsElementary S (arcs ++ step.arc ∷ []) (head_of S step.arc)

abbrev pub TreeGrowsLaw : Type 0
TreeGrowsLaw = (S : Setting) (steps : List Step) (step : Step) → IsTree S steps → IsNewStep S steps step → IsTree S (steps ++ step ∷ [])
