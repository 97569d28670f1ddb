use Rattle.std.proofs.Common.{arith}
use Rattle.std.proofs.lemmas.List.{take_rest}
use Rattle.route_texts.proofs.CutLemmas.{cut_at-none, cut_at-some}
use Rattle.route_texts.proofs.words.cut_at.Goals as goal

pub returns-then-place-bytes : goal.returns-then-place-bytes
returns-then-place-bytes c =
    cut_at-none c.args.mark c.args.bytes.now (λ k below. c.place_of-place.ensures.before k (omega arith))

pub returns : goal.returns
returns c =
    let here = cut_at-some c.args.mark c.place_of-place.result c.args.bytes.now (omega arith) c.place_of-place.ensures.before (c.place_of-place.ensures.found (omega arith)) in
    rw take_rest here
