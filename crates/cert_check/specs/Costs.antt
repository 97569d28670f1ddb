-- The reduced costs of walks, and the terms of counts, by what multipliers were priced to.
use Rattle.std.specs.Prelude.{◌≡◌, ℕ, ◌*◌, ◌^◌, ℤ, pos, ◌+ℤ◌, Option, None, Some, unsigned_abs, sum_by, List, [], ◌∷◌, All}
use Rattle.path_graph.specs.Fit.{int_at}
use Rattle.path_graph.specs.Visits.{visit_over}
use Rattle.path_graph.specs.Walk.{GraphParts}
use Rattle.path_graph.specs.Within.{IsWithin}
use Rattle.route_model.specs.declared.multipliers.Mult.{Mult}
use Rattle.route_model.specs.declared.multipliers.Priced.{Priced}
use Rattle.route_model.specs.declared.places.Boxes.{Boxes}
use Rattle.route_model.specs.declared.places.Span.{Span}
use Rattle.route_model.specs.Parts.{ModelParts}
use Rattle.multipliers.specs.Priced.{IsPriced, priced_walk, visit_cost}
use Rattle.multipliers.specs.Promise.{PricesArcs}
use Rattle.multipliers.specs.Quantities.{AreDefined}
use Rattle.multipliers.specs.Ranges.{AreInRange}
use Rattle.proof_rules.specs.Counts.{Walk}
use Rattle.route_model.specs.Terms.{or_zero, sides_of, term}
use Rattle.cert_check.specs.declared.fault.CheckKind.TheVariants as kind
use Rattle.cert_check.specs.declared.fault.NodeError.{NodeError}
use Rattle.cert_check.specs.declared.fault.NodeError.TheVariants.{Fault, Memory}
use Rattle.cert_check.specs.Faults.{Fails}

-- multipliers without cuts are priced at boxes
pub record IsCountPriced (m : ModelParts) (boxes : Boxes) (mult : Mult) (p : Priced) : Type 0 where
  pub priced : IsPriced m [] boxes mult p
  pub along : PricesArcs m [] mult p
  pub range : AreInRange boxes p

-- or some multiplier needs an open side
abbrev pub IsSideError : ModelParts → Boxes → Mult → NodeError → Type 0
IsSideError m boxes mult (Fault k) = Fails kind.Side (AreDefined m [] boxes mult) k
IsSideError m boxes mult Memory = Unit {0}

-- the cost of an arc and of the visit that it makes
abbrev pub step_cost : GraphParts → List ℤ → List ℤ → ℕ → ℤ
step_cost g arcs visits a = int_at arcs a +ℤ visit_cost visits (visit_over g a)

-- what a walk was priced to, and the terms of walks over the boxes of their counts
abbrev pub priced_cost : ModelParts → Priced → Walk → ℤ
priced_cost m p w = priced_walk m p w.graph w.arcs

abbrev pub priced_terms : ModelParts → Priced → List Walk → List Span → ℤ
priced_terms m p [] boxes = pos 0
priced_terms m p (w ∷ walks) [] = pos 0
priced_terms m p (w ∷ walks) (box ∷ boxes) = or_zero (term (priced_cost m p w) (sides_of box)) +ℤ priced_terms m p walks boxes

-- all are within 2^88 of 0
abbrev pub AreNear : ModelParts → Priced → List Walk → Type 0
AreNear m p walks = All (λ (w : Walk). IsWithin (2 ^ 88) (priced_cost m p w)) walks

-- the term of a walk over the box of its count; none where its reduced cost is too far from 0
pub record HasTerm (m : ModelParts) (p : Priced) (w : Walk) (box : Span) (t : ℤ) : Type 0 where
  pub near : IsWithin (2 ^ 88) (priced_cost m p w)
  pub is : t ≡ or_zero (term (priced_cost m p w) (sides_of box))
  pub small : IsWithin (2 ^ 88 * unsigned_abs box.high) t

abbrev pub IsWalkTerm : ModelParts → Priced → Walk → Span → Option ℤ → Type 0
IsWalkTerm m p w box None = ¬ (IsWithin (2 ^ 88) (priced_cost m p w))
IsWalkTerm m p w box (Some t) = HasTerm m p w box t

-- the sum of the high ends of boxes
abbrev pub tops : List Span → ℕ
tops boxes = sum_by (λ (box : Span). unsigned_abs box.high) boxes

-- the terms of the walks, within what their boxes allow; none where some reduced cost is too far from 0
pub record AreTerms (m : ModelParts) (p : Priced) (walks : List Walk) (boxes : List Span) (total : ℤ) : Type 0 where
  pub near : AreNear m p walks
  pub is : total ≡ priced_terms m p walks boxes
  pub small : IsWithin (2 ^ 88 * tops boxes) total

abbrev pub IsTermSum : ModelParts → Priced → List Walk → List Span → Option ℤ → Type 0
IsTermSum m p walks boxes None = ¬ (AreNear m p walks)
IsTermSum m p walks boxes (Some total) = AreTerms m p walks boxes total
