use Rattle.std.proofs.Common.{◌≡◌, ◌+◌, take, drop, arith, refl, ◌∙◌, length, ◌<◌, w32, FitsSigned, rules, length-set}
use Rattle.std.proofs.lemmas.Int.{to_z-of_z}
use Rattle.std.proofs.lemmas.List.{take_more_set, take_all}
use Rattle.vrp_lex.specs.Text.{words_of}
use Rattle.path_graph.specs.Walk.{positions}
use Rattle.line_text.specs.Words.{for_each}
use Rattle.certificate.specs.LabelWords.{value_at}
use Rattle.line_text.proofs.ItemLemmas.{each_left-begin, each_left-more, each_left-fault, each_left-end, hands_on}
use Rattle.model_text.proofs.PositionLemmas.{positions_from}
use Rattle.certificate.proofs.label_words.values_of.Goals as goal

pub loop-place-init : goal.loop-place-init
loop-place-init c = (refl, each_left-begin (value_at c.args.ends.now) positions (words_of c.args.words.now))

pub returns-in_err-value : goal.returns-in_err-value
returns-in_err-value c =
    let k = c.loop-place.place in
    let wanted = value_at c.args.ends.now in
    let whole = for_each wanted positions (words_of c.args.words.now) in
    let left = rw (positions_from k c.loop-place-test.true) at c.loop-place.invariant.1 in
    hands_on _ c.from_residual.result c.in_err-value.field-0.0 (wanted k (words_of c.loop-place.rest.now)) whole c.from_residual.ensures.1 c.in_err-value.ensures
    (λ kind e. each_left-fault wanted whole (take k c.loop-place.values) k (drop (k + 1) positions) (words_of c.loop-place.rest.now) kind left e)

pub loop-place-preserved : goal.loop-place-preserved
loop-place-preserved c =
    let k = c.loop-place.place in
    let wanted = value_at c.args.ends.now in
    let whole = for_each wanted positions (words_of c.args.words.now) in
    let left = rw (positions_from k c.loop-place-test.true) at c.loop-place.invariant.1 in
    let length_is : k < length c.loop-place.values = omega arith in
    let fits : FitsSigned w32 c.in_ok-value.value = search rules in (
      length-set c.loop-place.values k _ ∙ c.loop-place.invariant.0,
      rw (take_more_set c.loop-place.values k _ length_is, to_z-of_z w32 c.in_ok-value.value fits)
          (each_left-more wanted whole (take k c.loop-place.values) k (drop (k + 1) positions) (words_of c.loop-place.rest.now) (words_of c.in_ok-value.behind.now) c.in_ok-value.value left c.in_ok-value.ensures),
    )

pub returns : goal.returns
returns c =
    let k = c.loop-place.place in
    let wanted = value_at c.args.ends.now in
    let whole = for_each wanted positions (words_of c.args.words.now) in
    let all : k ≡ 6 = omega arith in
    let left = rw all at c.loop-place.invariant.1 in
    let full : take 6 c.loop-place.values ≡ c.loop-place.values = take_all 6 c.loop-place.values (omega arith) in
    rw (← full) (each_left-end wanted whole (take 6 c.loop-place.values) (words_of c.loop-place.rest.now) left)
