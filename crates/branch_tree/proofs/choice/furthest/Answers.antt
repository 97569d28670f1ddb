use Rattle.std.proofs.Common.{◌≡◌, ℕ, ◌+◌, ◌<◌, ℤ, Option, None, Some, List, All, length, pos, sym, subst, arith}
use Rattle.std.specs.Prelude.{MatchOption}
use Rattle.std.proofs.lemmas.Int.{ints}
use Rattle.std.proofs.lemmas.List.Elements.{All-from_get_or}
use Rattle.route_model.specs.Places.{span_at}
use Rattle.branch_tree.specs.declared.choice.Candidate.{Candidate}
use Rattle.branch_tree.specs.Splits.{HasNumber, IsPoint, Parts}
use Rattle.branch_tree.proofs.ChoiceLemmas.{IsBest, parted_more, parts_at, point_more}
use Rattle.branch_tree.proofs.choice.furthest.Goals as goal
use Rattle.branch_tree.proofs.choice.furthest.Goals.{then-span, else-span}

pub loop-place-preserved : goal.loop-place-preserved
loop-place-preserved c =
    let spans = c.args.spans.now in
    let n : ℕ = c.loop-place.place in
    elim c.if-span.branch [
      | then-span w ↦
          subst (IsBest spans (n + 1)) (sym w.best-is) (parted_more spans n c.loop-place.best _ w.better.result c.loop-place.invariant w.better.ensures (parts_at spans n w.candidate_at.result c.loop-place-test.true w.candidate_at.ensures.place w.candidate_at.ensures.low w.candidate_at.ensures.high))
      | else-span w ↦ subst (IsBest spans (n + 1)) (sym w.best-is) (point_more spans n c.loop-place.best c.loop-place.invariant (let some : HasNumber (span_at spans n) = c.requires.spans n _ c.loop-place-test.true in grind (arith, ints)))
    ]

pub returns : goal.returns
returns c = closed c.loop-place.best (let all : c.loop-place.place ≡ length c.args.spans.now = omega arith in subst (λ (k : ℕ). IsBest c.args.spans.now k c.loop-place.best) all c.loop-place.invariant)
  where
    closed : (best : Option Candidate) → IsBest c.args.spans.now (length c.args.spans.now) best → MatchOption best (All IsPoint c.args.spans.now) (λ b. Parts c.args.spans.now b.place b.at)
    closed None points = All-from_get_or IsPoint c.args.spans.now (record { low = pos 0; high = pos 0 }) points
    closed (Some b) parts = parts
