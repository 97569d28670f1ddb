use Rattle.std.proofs.Common.{subst, sym, ◌∙◌}
use Rattle.vrp_lex.specs.Text.{words_of}
use Rattle.line_text.specs.Gives.{Gives}
use Rattle.certificate.proofs.KindLemmas.{line_by_word}
use Rattle.certificate.proofs.cert_lines.take_line.Goals as goal

pub returns-clause-gives : goal.returns-clause-gives
returns-clause-gives c =
    let off = sym c.wants_version.ensures ∙ c.if-wants_version.false in
    subst (Gives (λ rest. (c.take_known.new.draft, words_of rest.now)) c.take_known.result)
    (line_by_word c.args.sizes.now c.args.draft.now c.args.number (words_of c.args.words.now) (words_of c.in_ok-first.words.now) c.in_ok-first.first.now c.in_ok-first.ensures.gives off) c.take_known.ensures.gives
