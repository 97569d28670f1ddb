use Rattle.std.proofs.Common.{◌≡◌, arith}
use Rattle.std.proofs.lemmas.List.{take_rest}
use Rattle.vrp_lex.proofs.WordLemmas.{word_end_after, word_of}
use Rattle.vrp_lex.proofs.words.word.Goals as goal

pub loop-preserved : goal.loop-preserved
loop-preserved c =
    let first = rw take_rest at c.in_ok-end.ensures in
    word_end_after _ c.loop.at c.loop.counter (c.in_ok-end.field-0-0, c.in_ok-end.end) c.loop.invariant first

pub returns : goal.returns
returns c =
    let first = rw take_rest at c.in_ok-begin.ensures in
    let all : c.loop.counter ≡ c.args.k = omega arith in
    word_of c.args.text.now c.args.line.now.from c.args.line.now.to c.loop.at c.args.k (c.in_ok-begin.begin, c.in_ok-begin.end) c.requires.line.from c.requires.line.to (rw all at c.loop.invariant) first
