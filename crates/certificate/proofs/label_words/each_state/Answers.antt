use Rattle.std.proofs.Common.{◌≡◌, ◌+◌, take, drop, arith, refl, ◌∙◌, length, ◌<◌, length-set}
use Rattle.std.proofs.lemmas.List.{take_more_set, take_all}
use Rattle.vrp_lex.specs.Text.{words_of}
use Rattle.line_text.specs.Words.{for_each}
use Rattle.certificate.specs.LabelWords.{state_places, state_at}
use Rattle.line_text.proofs.ItemLemmas.{each_left-begin, each_left-more, each_left-fault, each_left-end, hands_on}
use Rattle.certificate.proofs.SetWordLemmas.{places_from}
use Rattle.certificate.proofs.label_words.each_state.Goals as goal

pub loop-place-init : goal.loop-place-init
loop-place-init c = (refl, each_left-begin (state_at c.args.cuts) state_places (words_of c.args.words.now))

pub returns-in_err-state : goal.returns-in_err-state
returns-in_err-state c =
    let k = c.loop-place.place in
    let wanted = state_at c.args.cuts in
    let whole = for_each wanted state_places (words_of c.args.words.now) in
    let left = rw (places_from k c.loop-place-test.true) at c.loop-place.invariant.1 in
    hands_on _ c.from_residual.result c.in_err-state.field-0.0 (wanted k (words_of c.loop-place.rest.now)) whole c.from_residual.ensures.1 c.in_err-state.ensures
    (λ kind e. each_left-fault wanted whole (take k c.loop-place.states) k (drop (k + 1) state_places) (words_of c.loop-place.rest.now) kind left e)

pub loop-place-preserved : goal.loop-place-preserved
loop-place-preserved c =
    let k = c.loop-place.place in
    let wanted = state_at c.args.cuts in
    let whole = for_each wanted state_places (words_of c.args.words.now) in
    let left = rw (places_from k c.loop-place-test.true) at c.loop-place.invariant.1 in
    let length_is : k < length c.loop-place.states = omega arith in (
      length-set c.loop-place.states k _ ∙ c.loop-place.invariant.0,
      rw (take_more_set c.loop-place.states k _ length_is)
          (each_left-more wanted whole (take k c.loop-place.states) k (drop (k + 1) state_places) (words_of c.loop-place.rest.now) (words_of c.in_ok-state.behind.now) c.in_ok-state.state left c.in_ok-state.ensures),
    )

pub returns : goal.returns
unfolding state_places
returns c =
    let k = c.loop-place.place in
    let wanted = state_at c.args.cuts in
    let whole = for_each wanted state_places (words_of c.args.words.now) in
    let all : k ≡ 64 = omega arith in
    let left = rw all at c.loop-place.invariant.1 in
    let full : take 64 c.loop-place.states ≡ c.loop-place.states = take_all 64 c.loop-place.states (omega arith) in
    rw (← full) (each_left-end wanted whole (take 64 c.loop-place.states) (words_of c.loop-place.rest.now) left)
