use Rattle.std.proofs.Common.{sym, ◌∙◌, false, ℕ, ◌+◌, ◌<◌, ◌≤◌, List, [], ◌∷◌, ◌++◌, length, arith, length-append}
use Rattle.route_model.specs.declared.parts.RowTerm.{RowTerm}
use Rattle.vrp_lex.specs.Text.{words_of}
use Rattle.line_text.specs.Words.{to_the_end}
use Rattle.model_text.specs.LineWords.{term_wanted}
use Rattle.line_text.proofs.ItemLemmas.{goes_on-more, goes_on-fault, goes_on-end, goes_on-words, hands_on}
use Rattle.model_text.proofs.row_words.terms_of.Goals as goal

pub returns-in_err-term-clause-gives : goal.returns-in_err-term-clause-gives
returns-in_err-term-clause-gives c =
    let wanted = term_wanted c.args.draft.now.vars c.args.draft.now.rows in
    let whole = to_the_end wanted (words_of c.args.words.now) in
    let before = c.loop-coefs.terms in
    let words = words_of c.loop-coefs.rest.now in
    hands_on _ c.from_residual.result c.in_err-term.field-0.0 (wanted before words) whole c.from_residual.ensures.1 (rw c.as_slice-in-loop-coefs.ensures at c.in_err-term.ensures.gives)
    (λ kind e. goes_on-fault (λ _. false) wanted whole before words kind c.loop-coefs.invariant.2 (goes_on-words _ ∙ sym c.loop-coefs-test.ensures) e)

more_terms : (terms : List RowTerm) (t : RowTerm) (n : ℕ) → n + length terms < 1000000 → n + length (terms ++ t ∷ []) ≤ 1000000
more_terms terms t n h = omega (arith, h, length-append terms (t ∷ []))

pub loop-coefs-preserved : goal.loop-coefs-preserved
loop-coefs-preserved c =
    let wanted = term_wanted c.args.draft.now.vars c.args.draft.now.rows in
    rw (c.in_ok-push.ensures.ok) (
      rw c.as_slice-in-loop-coefs.ensures at c.in_ok-term.ensures.coefs,
      more_terms c.loop-coefs.terms c.in_ok-term.term c.term_total-total.result (rw c.as_slice-in-loop-coefs.ensures at c.in_ok-term.ensures.few_terms),
      goes_on-more (λ _. false) wanted (to_the_end wanted (words_of c.args.words.now)) c.loop-coefs.terms (words_of c.loop-coefs.rest.now) (words_of c.in_ok-term.behind.now) c.in_ok-term.term c.loop-coefs.invariant.2 (goes_on-words _ ∙ sym c.loop-coefs-test.ensures) (rw c.as_slice-in-loop-coefs.ensures at c.in_ok-term.ensures.gives) c.in_ok-term.ensures.shorter,
    )

pub returns-clause-gives : goal.returns-clause-gives
returns-clause-gives c =
    let wanted = term_wanted c.args.draft.now.vars c.args.draft.now.rows in
    goes_on-end (λ _. false) wanted (to_the_end wanted (words_of c.args.words.now)) c.loop-coefs.terms (words_of c.loop-coefs.rest.now) c.loop-coefs.invariant.2 (goes_on-words _ ∙ sym c.loop-coefs-test.ensures)
