use Rattle.std.proofs.Common.{map, drop, string_bytes}
use Rattle.command_words.proofs.CommandLemmas.{are_limits}
use Rattle.command_words.proofs.settings.limits_from.Goals as goal

pub returns : goal.returns
returns c = are_limits (drop 1 (map string_bytes c.args.words.now)) c.in_ok-draft.draft c.unwrap_or.result c.unwrap_or-2.result c.unwrap_or-3.result c.in_ok-draft.ensures c.unwrap_or.ensures c.unwrap_or-2.ensures c.unwrap_or-3.ensures
