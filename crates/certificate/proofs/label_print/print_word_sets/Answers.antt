use Rattle.std.proofs.Common.{◌≡◌, ℕ, ◌*◌, ◌++◌, map, filter, arith, ap, sym, ◌∙◌, append-nil}
use Rattle.std.specs.Prelude.{decimal}
use Rattle.std.specs.List.{range_with_len}
use Rattle.path_graph.specs.SetBits.{has_set}
use Rattle.certificate.specs.CertPrint.{further}
use Rattle.certificate.proofs.PrintSteps.{passing_more, no_members}
use Rattle.certificate.proofs.label_print.print_word_sets.Goals as goal

pub returns-then-set-word-eq0 : goal.returns-then-set-word-eq0
returns-then-set-word-eq0 c = sym (ap (λ t. c.args.text.now ++ t) (no_members c.args.set.now c.args.word c.if-set-word-eq0.true) ∙ append-nil c.args.text.now)

pub loop-bit-preserved : goal.loop-bit-preserved
loop-bit-preserved c =
    passing_more (has_set c.args.set.now) (c.args.word * 64) c.loop-bit.bit 1 c.set_at.result c.args.text.now c.loop-bit.text c.print_member.new.text c.set_at.ensures c.loop-bit.invariant c.in_ok-print_member.ensures

pub returns : goal.returns
returns c =
    let end : c.loop-bit.bit ≡ 64 = omega arith in
    c.loop-bit.invariant ∙ ap (λ (n : ℕ). c.args.text.now ++ further (map decimal (filter (has_set c.args.set.now) (range_with_len (c.args.word * 64) n)))) end
