use Rattle.std.proofs.Common.{ℕ, ◌≡◌, ◌<◌, ◌+◌, ◌-◌, ◌^◌, min, take}
use Rattle.std.specs.Prelude.{slice_index}
use Rattle.route_model.specs.Fit.{row_coef}
use Rattle.route_model.proofs.coefs.add_row.Given as goal

abbrev pub invariant-loop-term : goal.invariant-loop-term
invariant-loop-term l = (k : ℕ) → k < 1024 → slice_index l.totals k ≡ min (slice_index l.initial.totals k + row_coef (l.start + k) (take l.term-index l.terms)) (2 ^ 64 - 1)
