use Rattle.std.proofs.Common.{◌≡◌, ℕ, List, pos, ap, subst, ◌∙◌}
use Rattle.std.specs.Prelude.{IsTrue, ◌↔◌}
use Rattle.route_model.specs.declared.places.Span.{Span}
use Rattle.route_model.specs.Parts.{ModelParts}
use Rattle.route_model.specs.Places.{IsInSpan, span_at}
use Rattle.route_model.specs.Quantities.{quantity, uses_in, value_of}
use Rattle.cert_check.proofs.point.var_within.Goals as goal

pub returns : goal.returns
returns c =
    let plan = c.args.plan.now in
    let j = c.args.j in
    let span : c.span_of-span.result ≡ span_at c.args.spot.now.boxes.vars j = c.span_of-span.ensures ∙ ap (λ (s : List Span). span_at s j) c.as_slice-boxes.ensures in
    let total : c.value-total.result ≡ value_of c.args.model.now plan j =
    c.value-total.ensures ∙ (ap (λ (maps : List (List (List ℕ))). quantity (uses_in maps j) plan) c.as_slice-maps.ensures ∙ ap (λ (m : ModelParts). value_of m plan j) c.model.view_is) in
    subst (λ (s : Span). IsTrue c.is_in_span.result ↔ IsInSpan s (pos (value_of c.args.model.now plan j))) span
    (subst (λ (n : ℕ). IsTrue c.is_in_span.result ↔ IsInSpan c.span_of-span.result (pos n)) total c.is_in_span.ensures)
