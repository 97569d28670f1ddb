use Rattle.std.proofs.Common.{◌==◌, ◌||◌, length, sym}
use Rattle.route_model.specs.Places.{span_at}
use Rattle.safe_bound.specs.Bounds.{is_possible, least_at}
use Rattle.safe_bound.proofs.BoundLemmas.{passes_each, passes_fails}
use Rattle.safe_bound.proofs.graphs.are_possible.Goals as goal

pub returns-in-Some : goal.returns-in-Some
returns-in-Some c =
    sym (passes_fails (length c.args.spans.now) (λ g. (g == c.args.but) || is_possible (least_at c.args.leasts.now g) (span_at c.args.spans.now g)) c.in-Some.field-0 c.in-Some.ensures.within c.in-Some.ensures.fails)

pub returns-in-None : goal.returns-in-None
returns-in-None c = sym (passes_each (length c.args.spans.now) (λ g. (g == c.args.but) || is_possible (least_at c.args.leasts.now g) (span_at c.args.spans.now g)) c.in-None.ensures)
