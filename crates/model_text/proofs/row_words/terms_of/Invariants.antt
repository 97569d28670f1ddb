use Rattle.std.proofs.Common.{false, ◌+◌, ◌≤◌, length}
use Rattle.vrp_lex.specs.Text.{words_of}
use Rattle.line_text.specs.Words.{to_the_end}
use Rattle.model_text.specs.LineWords.{term_wanted}
use Rattle.model_text.specs.Totals.{AreCoefs}
use Rattle.line_text.proofs.ItemLemmas.{GoesOn}
use Rattle.model_text.proofs.row_words.terms_of.Given as goal

abbrev pub invariant-loop-coefs : goal.invariant-loop-coefs
invariant-loop-coefs l =
    AreCoefs l.coefs l.draft.vars l.draft.rows l.terms
    × (l.total + length l.terms ≤ 1000000)
    × GoesOn (λ _. false) (term_wanted l.draft.vars l.draft.rows) (to_the_end (term_wanted l.draft.vars l.draft.rows) (words_of l.words)) l.terms (words_of l.rest)

abbrev pub decreases-loop-coefs : goal.decreases-loop-coefs
decreases-loop-coefs l = length (words_of l.rest)
