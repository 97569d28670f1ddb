use Rattle.std.proofs.Common.{◌-◌, map, drop, length, string_bytes}
use Rattle.command_words.specs.Settings.{IsReadUpTo}
use Rattle.command_words.proofs.settings.draft_from.Given as goal

abbrev pub invariant-loop-at : goal.invariant-loop-at
invariant-loop-at l = IsReadUpTo (drop l.first (map string_bytes l.words)) (drop l.at (map string_bytes l.words)) l.draft

abbrev pub decreases-loop-at : goal.decreases-loop-at
decreases-loop-at l = length l.words - l.at
