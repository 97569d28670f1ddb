use Rattle.std.proofs.Common.{[], ap, sym, ◌∙◌}
use Rattle.std.proofs.lemmas.List.{get_or-map}
use Rattle.std.specs.Prelude.{string_bytes}
use Rattle.command_words.proofs.command.first_word.Goals as goal

pub returns : goal.returns
returns c = c.as_str.ensures.value ∙ ap string_bytes c.index-words-0.is ∙ sym (get_or-map string_bytes c.args.words.now 0 c.index-words-0.result [] c.requires)
