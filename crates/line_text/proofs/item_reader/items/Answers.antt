use Rattle.std.proofs.Common.{sym, ◌∙◌}
use Rattle.vrp_lex.specs.Text.{words_of}
use Rattle.line_text.specs.Words.{until}
use Rattle.line_text.proofs.ItemLemmas.{goes_on-more, goes_on-fault, goes_on-end, hands_on}
use Rattle.line_text.proofs.item_reader.items.Goals as goal

pub returns-in_err-item-clause-gives : goal.returns-in_err-item-clause-gives
returns-in_err-item-clause-gives g c =
    let stops = g.R.ItemReader.stops in
    let wanted = g.R.ItemReader.wanted c.args.reader.now in
    let whole = until stops wanted (words_of c.args.words.now) in
    let words = words_of c.loop-reader.rest.now in
    hands_on _ c.from_residual.result c.in_err-item.field-0.0 (wanted c.loop-reader.items words) whole c.from_residual.ensures.1 (rw (c.loop-reader.invariant.1, c.as_slice.ensures) at c.in_err-item.ensures.gives)
    (λ kind e. goes_on-fault stops wanted whole c.loop-reader.items words kind c.loop-reader.invariant.0 (sym c.loop-reader-test.ensures) e)

pub loop-reader-preserved : goal.loop-reader-preserved
loop-reader-preserved g c =
    let stops = g.R.ItemReader.stops in
    let wanted = g.R.ItemReader.wanted c.args.reader.now in
    let whole = until stops wanted (words_of c.args.words.now) in
    let next = goes_on-more stops wanted whole c.loop-reader.items (words_of c.loop-reader.rest.now) (words_of c.in_ok-item.behind.now) c.in_ok-item.item c.loop-reader.invariant.0 (sym c.loop-reader-test.ensures) (rw (c.loop-reader.invariant.1, c.as_slice.ensures) at c.in_ok-item.ensures.gives) c.in_ok-item.ensures.shorter in
    rw c.in_ok-push.ensures.ok (next, c.in_ok-item.ensures.same ∙ c.loop-reader.invariant.1, rw c.as_slice.ensures at c.in_ok-item.ensures.sound)

pub returns-clause-gives : goal.returns-clause-gives
returns-clause-gives g c =
    let stops = g.R.ItemReader.stops in
    let wanted = g.R.ItemReader.wanted c.args.reader.now in
    let whole = until stops wanted (words_of c.args.words.now) in
    goes_on-end stops wanted whole c.loop-reader.items (words_of c.loop-reader.rest.now) c.loop-reader.invariant.0 (sym c.loop-reader-test.ensures)
