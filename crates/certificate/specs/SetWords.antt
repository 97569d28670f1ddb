-- Packing sets that ascend strictly, as words and as a set of packing sets.
use Rattle.std.specs.Prelude.{ℕ, List, ◌==◌, not, filter, map, decimal}
use Rattle.std.specs.List.{list_any, range_with_len}
use Rattle.path_graph.specs.declared.limits.TheConstants.{MAX_SETS}
use Rattle.path_graph.specs.declared.set_bits.SetBits.{SetBits}
use Rattle.path_graph.specs.SetBits.{has_set, set_of}
use Rattle.line_text.specs.declared.fault.Kind.TheVariants as fault
use Rattle.line_text.specs.Words.{Words, Wants, ◌>>=◌, ◌>>◌, give, fault_if, known_below, to_the_end}
use Rattle.model_text.specs.LineWords.{last_of, is_above}

-- the members of a set, ascending
unfoldable pub members : SetBits → List ℕ
members set = filter (has_set set) (range_with_len 0 MAX_SETS)

-- the set of these members
abbrev pub set_with : List ℕ → SetBits
set_with sets = set_of (λ s. list_any (λ t. t == s) sets)

-- a set, above those before
abbrev pub set_wanted : ℕ → List ℕ → Wants ℕ
set_wanted sets before = do
  set ← known_below sets
  fault_if fault.Order (not (is_above (last_of before) set))
  give set

-- sets to the end of the line, perhaps none
abbrev pub sets_wanted : ℕ → Wants SetBits
sets_wanted sets = do
  members ← to_the_end (set_wanted sets)
  give (set_with members)

abbrev pub set_words : SetBits → Words
set_words set = map decimal (members set)
