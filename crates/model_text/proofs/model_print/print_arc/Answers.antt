use Rattle.std.proofs.Common.{◌≡◌, ◌++◌, ◌∷◌, ◌+◌, ◌-◌, take, drop, arith}
use Rattle.std.specs.Fmt.{signed_decimal, decimal}
use Rattle.std.specs.List.{flat_map}
use Rattle.std.proofs.lemmas.Result.{on_ok_weaker}
use Rattle.model_text.proofs.LineLemmas.{arc_line_of}
use Rattle.model_text.proofs.model_print.print_arc.Goals as goal

pub returns : goal.returns
returns c =
    let needs = c.args.arc.now.needs in
    let m = c.args.ends.now.mains in
    let s = c.args.ends.now.seconds in
    let seconds : 2 + s - 2 ≡ s = omega arith in
    let second : c.numbers-3.new.self ≡ c.numbers-2.new.self ++ flat_map (λ n. 32 ∷ signed_decimal n) (take (2 + s - 2) (drop 2 needs)) = c.in_ok-numbers-3.ensures in
    on_ok_weaker c.end_line.result
    (λ e. arc_line_of c.args.text.now c.first.new.self c.numbers.new.self c.numbers-2.new.self c.numbers-3.new.self c.numbers-4.new.self c.end_line.new.self _ (decimal c.args.arc.now.tail) (decimal c.args.arc.now.head) (take m needs) (take s (drop 2 needs)) signed_decimal c.args.vars.now decimal c.in_ok-first.ensures c.in_ok-numbers.ensures c.in_ok-numbers-2.ensures (rw seconds at second) c.in_ok-numbers-4.ensures e)
    c.end_line.ensures
