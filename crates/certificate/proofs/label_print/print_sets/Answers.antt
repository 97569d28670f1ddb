use Rattle.std.proofs.Common.{◌≡◌, ℕ, ◌*◌, ◌+◌, ◌++◌, map, filter, ap, subst, ◌∙◌, arith}
use Rattle.std.specs.Prelude.{decimal}
use Rattle.std.specs.List.{range_with_len}
use Rattle.path_graph.specs.SetBits.{has_set}
use Rattle.certificate.specs.CertPrint.{further}
use Rattle.certificate.proofs.PrintSteps.{passing_more, all_members}
use Rattle.certificate.proofs.label_print.print_sets.Goals as goal

pub loop-word-preserved : goal.loop-word-preserved
loop-word-preserved c =
    let w : ℕ = c.loop-word.word in
    let next : w * 64 + 64 ≡ (w + 1) * 64 = omega arith in
    let from : w * 64 ≡ 0 + w * 64 = omega arith in
    subst (λ (n : ℕ). c.print_word_sets.new.text ≡ c.args.text.now ++ further (map decimal (filter (has_set c.args.set.now) (range_with_len 0 n)))) next
    (passing_more (has_set c.args.set.now) 0 (w * 64) 64 (w * 64) c.args.text.now c.loop-word.text c.print_word_sets.new.text from c.loop-word.invariant c.in_ok-print_word_sets.ensures)

pub returns : goal.returns
returns c =
    let end : c.loop-word.word ≡ 8 = omega arith in
    let all : c.loop-word.word * 64 ≡ 512 = omega (arith, end) in
    c.loop-word.invariant
    ∙ ap (λ t. c.args.text.now ++ t) (ap (λ (n : ℕ). further (map decimal (filter (has_set c.args.set.now) (range_with_len 0 n)))) all ∙ all_members c.args.set.now)
