use Rattle.std.proofs.Common.{◌+◌, ◌-◌, ◌*◌, arith, ap, get_or, drop, fold}
use Rattle.std.proofs.lemmas.List.{drop_more}
use Rattle.vrp_lex.proofs.Digits.{digits_grow}
use Rattle.vrp_lex.proofs.numbers.digits_value.Goals as goal

pub returns-then-value-clause-big : goal.returns-then-value-clause-big
returns-then-value-clause-big c =
    let i = c.loop-digit.digit-index in
    let more = ap (fold (λ n b. 10 * n + (b - 48)) c.loop-digit.value) (drop_more c.args.digits.now i 0 c.loop-digit-test.true) in
    let grow = digits_grow (10 * c.loop-digit.value + (get_or c.args.digits.now i 0 - 48)) (drop (i + 1) c.args.digits.now) in
    omega (arith, more, grow, c.loop-digit.invariant.0)
