use Rattle.std.proofs.Common.{◌≡◌, ◌+◌, ◌-◌, ◌*◌, ◌≤◌, ◌^◌, drop, fold}
use Rattle.vrp_lex.specs.Text.{digits_value}
use Rattle.vrp_lex.proofs.numbers.digits_value.Given as goal

abbrev pub invariant-loop-digit : goal.invariant-loop-digit
invariant-loop-digit l =
    (digits_value l.digits ≡ fold (λ n b. 10 * n + (b - 48)) l.value (drop l.digit-index l.digits)) × (l.value ≤ 2 ^ 120)
