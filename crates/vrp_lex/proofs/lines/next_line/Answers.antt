use Rattle.std.proofs.Common.{arith, refl, length, ◌<◌}
use Rattle.std.proofs.lemmas.List.{take_rest, length-drop}
use Rattle.vrp_lex.proofs.LineLemmas.{line_begins, last_line}
use Rattle.vrp_lex.proofs.lines.next_line.Goals as goal

pub returns-then-to-text : goal.returns-then-to-text
returns-then-to-text c =
    let e = take_rest c.args.text.now c.args.from in
    record {
      numbered = refl;
      begins = refl;
      ordered = (omega arith, omega arith, omega arith);
      goes_on = omega arith;
      lines = line_begins c.args.text.now c.args.from c.line_length.result c.if-to-text.true (rw e at c.line_length.ensures.before) (rw e at c.line_length.ensures.found);
    }

pub returns-else-to-text : goal.returns-else-to-text
returns-else-to-text c =
    let text = c.args.text.now in
    let from = c.args.from in
    let e = take_rest text from in
    let within = rw e at c.line_length.ensures.within in
    let size = length-drop from text in
    let some : from < length text = omega arith in
    record {
      numbered = refl;
      begins = refl;
      ordered = (omega arith, omega arith, omega (arith, within, size));
      goes_on = omega arith;
      lines = last_line text from c.line_length.result some c.if-to-text.false within (rw e at c.line_length.ensures.before);
    }
