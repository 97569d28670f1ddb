-- Which walks the labels admit: all that are feasible over open arcs and visit no packing set twice, and perhaps more.
use Rattle.std.specs.Prelude.{◌≡◌, ◌↔◌, ℕ, ◌≤◌, false, List, [], ◌∷◌, ◌++◌}
use Rattle.path_graph.specs.Walk.{Leads, Passes, root_of, IsWalk, IsFeasibleWalk}
use Rattle.path_graph.specs.Visits.{visits_along, visit_count}
use Rattle.label_rules.specs.Labels.{Setting, SettingFits, HasForwardLabel}

-- a feasible walk is admitted where the label of each of its partial walks is defined
pub record IsAdmitted (S : Setting) (walk : List ℕ) : Type 0 where
  pub feasible : IsFeasibleWalk S.graph walk
  pub labels : (front rest : List ℕ) → walk ≡ front ++ rest → HasForwardLabel S front

-- no arc of a list is shut
abbrev pub AreOpen : Setting → List ℕ → Type 0
AreOpen S [] = Unit {0}
AreOpen S (a ∷ rest) = (S.is_shut a ≡ false) × AreOpen S rest

-- arcs enter no packing set twice
abbrev pub VisitsOnce : Setting → List ℕ → Type 0
VisitsOnce S arcs = (s : ℕ) → visit_count s (visits_along S.graph arcs) ≤ 1

-- arcs from the source to a vertex are elementary: feasible, open, and they enter no packing set twice
pub record IsElementary (S : Setting) (arcs : List ℕ) (v : ℕ) : Type 0 where
  pub leads : Leads S.graph S.graph.ends.source arcs v
  pub passes : Passes S.graph (root_of S.graph) arcs
  pub open_arcs : AreOpen S arcs
  pub once : VisitsOnce S arcs

-- a walk is admitted exactly where its own label is defined
abbrev pub AdmittedLaw : Type 0
AdmittedLaw = (S : Setting) (walk : List ℕ) → SettingFits S → IsWalk S.graph walk → (IsAdmitted S walk ↔ HasForwardLabel S walk)

-- an elementary walk is admitted, whatever sets are near
abbrev pub ElementaryLaw : Type 0
ElementaryLaw = (S : Setting) (walk : List ℕ) → SettingFits S → IsElementary S walk S.graph.ends.sink → IsAdmitted S walk

-- and the label of an elementary partial walk, and of each of its prefixes, is defined
abbrev pub ElementaryPrefixLaw : Type 0
ElementaryPrefixLaw = (S : Setting) (front rest : List ℕ) (v : ℕ) → SettingFits S → IsElementary S (front ++ rest) v → HasForwardLabel S front
