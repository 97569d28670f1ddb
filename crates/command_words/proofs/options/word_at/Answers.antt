use Rattle.std.proofs.Common.{[], ap, sym, ◌∙◌}
use Rattle.std.proofs.lemmas.List.{get_or-map}
use Rattle.std.specs.Prelude.{string_bytes}
use Rattle.command_words.proofs.options.word_at.Goals as goal

pub returns : goal.returns
returns c = c.as_bytes.ensures.value ∙ ap string_bytes c.index-words-at.is ∙ sym (get_or-map string_bytes c.args.words.now c.args.at c.index-words-at.result [] c.requires)
