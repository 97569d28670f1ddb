use Rattle.std.proofs.Common.{subst}
use Rattle.vrp_lex.specs.Text.{words_of}
use Rattle.line_text.specs.Gives.{Gives}
use Rattle.certificate.proofs.KindLemmas.{inside_lines}
use Rattle.certificate.proofs.cert_lines.take_inside_line.Goals as goal

pub returns-clause-gives : goal.returns-clause-gives
returns-clause-gives c =
    subst (Gives (λ rest. (c.take_inside.new.draft, words_of rest.now)) c.take_inside.result)
    (inside_lines c.args.sizes.now c.args.kind c.args.draft.now c.args.number (words_of c.args.words.now) c.requires.inside) c.take_inside.ensures.gives
