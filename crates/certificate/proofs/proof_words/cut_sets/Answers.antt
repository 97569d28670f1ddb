use Rattle.std.proofs.Common.{◌≡◌, ℕ, ◌+◌, ◌≤◌, [], drop, length, arith, drop_of_length-le}
use Rattle.std.specs.List.{range_with_len}
use Rattle.std.proofs.lemmas.List.FromFn.{length-range_with_len}
use Rattle.vrp_lex.specs.Text.{words_of}
use Rattle.rank1_cuts.specs.declared.cut.CutSet.{CutSet}
use Rattle.line_text.specs.Words.{Wants, for_each}
use Rattle.line_text.proofs.ItemLemmas.{each_left-more, each_left-fault, each_left-end, hands_on}
use Rattle.certificate.specs.ProofWords.{cut_set_wanted}
use Rattle.certificate.proofs.SetWordLemmas.{count_from}
use Rattle.certificate.proofs.proof_words.cut_sets.Goals as goal

pub returns-in_err-pair : goal.returns-in_err-pair
returns-in_err-pair c =
    let k = c.loop.counter in
    let n = c.args.count in
    let wanted : ℕ → Wants CutSet = λ place. cut_set_wanted c.args.sets in
    let whole = for_each wanted (range_with_len 0 n) (words_of c.args.words.now) in
    let left = rw (count_from n k c.loop-test.true) at c.loop.invariant in
    hands_on _ c.from_residual.result c.in_err-pair.field-0.0 (wanted k (words_of c.loop.rest.now)) whole c.from_residual.ensures.1 c.in_err-pair.ensures
    (λ kind e. each_left-fault wanted whole c.loop.pairs k (drop (k + 1) (range_with_len 0 n)) (words_of c.loop.rest.now) kind left e)

pub loop-preserved : goal.loop-preserved
loop-preserved c =
    let k = c.loop.counter in
    let n = c.args.count in
    let wanted : ℕ → Wants CutSet = λ place. cut_set_wanted c.args.sets in
    let whole = for_each wanted (range_with_len 0 n) (words_of c.args.words.now) in
    let left = rw (count_from n k c.loop-test.true) at c.loop.invariant in
    rw c.in_ok-push.ensures.ok (each_left-more wanted whole c.loop.pairs k (drop (k + 1) (range_with_len 0 n)) (words_of c.loop.rest.now) (words_of c.in_ok-pair.behind.now) c.in_ok-pair.pair left c.in_ok-pair.ensures)

pub returns : goal.returns
returns c =
    let k = c.loop.counter in
    let n = c.args.count in
    let wanted : ℕ → Wants CutSet = λ place. cut_set_wanted c.args.sets in
    let whole = for_each wanted (range_with_len 0 n) (words_of c.args.words.now) in
    let size = length-range_with_len 0 n in
    let past : length (range_with_len 0 n) ≤ k = omega (arith, size, c.loop-test.false) in
    let none : drop k (range_with_len 0 n) ≡ [] = drop_of_length-le (range_with_len 0 n) past in
    let left = rw none at c.loop.invariant in
    each_left-end wanted whole c.loop.pairs (words_of c.loop.rest.now) left
