use Rattle.std.proofs.Common.{refl}
use Rattle.vrp_lex.specs.Text.{words_of}
use Rattle.line_text.proofs.ItemLemmas.{gives_twice}
use Rattle.model_text.specs.PathFault.{Path, path_wanted, with_path, put}
use Rattle.model_text.proofs.path_reader.take_path_line.Goals as goal

pub returns-clause-gives : goal.returns-clause-gives
returns-clause-gives c =
    let d = c.args.draft.now in
    gives_twice (λ rest. (c.take_path.new.plan, words_of rest.now)) c.take_path.result (path_wanted d.plan (words_of c.args.words.now)) (with_path d.plan) (λ p. record d { plan = p }) Path (put d) (λ t. refl) c.take_path.ensures.gives
