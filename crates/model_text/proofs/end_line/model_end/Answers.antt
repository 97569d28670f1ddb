use Rattle.std.proofs.Common.{sym, ◌∙◌}
use Rattle.model_text.proofs.EndLineLemmas.{end_begins, end_here, end_further, end_nowhere}
use Rattle.model_text.proofs.end_line.model_end.Goals as goal

pub loop-line-init : goal.loop-line-init
loop-line-init c = end_begins c.args.bytes.now

pub returns-then-is_end_line : goal.returns-then-is_end_line
returns-then-is_end_line c =
    end_here c.args.bytes.now c.loop-line.at 1 c.in-Some.line c.in-Some.ensures c.loop-line.invariant (sym c.is_end_line.ensures ∙ c.if-is_end_line.true)

pub loop-line-preserved : goal.loop-line-preserved
loop-line-preserved c =
    end_further c.args.bytes.now c.loop-line.at 1 c.in-Some.line c.in-Some.ensures c.loop-line.invariant (sym c.is_end_line.ensures ∙ c.if-is_end_line.false)

pub returns : goal.returns
returns c = end_nowhere c.args.bytes.now c.loop-line.at c.loop-line.invariant c.in_default.ensures
