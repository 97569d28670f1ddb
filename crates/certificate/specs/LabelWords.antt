-- A label line: `VERTEX COST VALUE ..`, where the memory is not empty `m SET ..`, and where the proof has cuts `s STATE ..`.
use Rattle.std.specs.Prelude.{ℕ, ◌-◌, ◌^◌, ℤ, pos, neg_ℤ, List, [], ◌∷◌, ◌++◌, take, map, codes, decimal, Bool, ◌==◌, nat_lt, if◌then◌else◌}
use Rattle.std.specs.Fmt.{signed_decimal}
use Rattle.std.specs.List.{range_with_len}
use Rattle.std.specs.Str.{bytes_eq}
use Rattle.path_graph.specs.declared.parts.Ends.{Ends}
use Rattle.path_graph.specs.Fit.{is_used_at}
use Rattle.path_graph.specs.Walk.{positions}
use Rattle.label_rules.specs.declared.label.Label.{Label}
use Rattle.line_text.specs.declared.fault.Kind.TheVariants as fault
use Rattle.line_text.specs.Words.{Words, Wants, ◌>>=◌, ◌>>◌, give, fault_if, number_in, natural_in, known_below, for_each, until, is_none, exactly, tail}
use Rattle.model_text.specs.ModelText.{used}
pub use Rattle.certificate.specs.declared.sizes.Shape.{Shape}
use Rattle.certificate.specs.SetWords.{set_wanted, set_with, set_words}

-- the value at a position; one that has no resource takes no word
abbrev pub value_at : Ends → ℕ → Wants ℤ
value_at ends k = if is_used_at ends k then number_in (neg_ℤ (pos (2 ^ 31))) (pos (2 ^ 31 - 1)) else give (pos 0)

-- `s` ends the sets of the memory
abbrev pub ends_memory : List ℕ → Bool
ends_memory w = bytes_eq w (codes "s")

-- behind `m` stands one set or more
abbrev pub memory_wanted : ℕ → Wants (List ℕ)
memory_wanted sets = tail (codes "m") (do
  memory ← until ends_memory (set_wanted sets)
  fault_if fault.Word (is_none memory)
  give memory)

-- the places of states, and the state of the cut of this number; a place behind the last cut takes no word
unfoldable pub state_places : List ℕ
state_places = range_with_len 0 64

abbrev pub state_at : ℕ → ℕ → Wants ℕ
state_at cuts k = if nat_lt k cuts then natural_in 0 255 else give 0

-- the states of all cuts, behind `s`; where there is no cut they take no word
abbrev pub states_wanted : ℕ → Wants (List ℕ)
states_wanted cuts = (if cuts == 0 then give tt else exactly (codes "s")) >> for_each (state_at cuts) state_places

-- a label
abbrev pub label_wanted : Shape → Wants Label
label_wanted shape = do
  vertex ← known_below shape.vertices
  cost ← number_in (neg_ℤ (pos (2 ^ 112))) (pos (2 ^ 112))
  values ← for_each (value_at shape.ends) positions
  memory ← memory_wanted shape.sets
  states ← states_wanted shape.cuts
  give (record { vertex = vertex; values = record { at = values }; memory = set_with memory; states = states; cost = cost })

-- the words of the memory and of the states
abbrev pub behind_key : List ℕ → Words → Words
behind_key key words = if is_none words then [] else key ∷ words

abbrev pub label_words : Shape → Label → Words
label_words shape l =
    decimal l.vertex ∷ signed_decimal l.cost
    ∷ map signed_decimal (used shape.ends l.values.at)
    ++ (behind_key (codes "m") (set_words l.memory) ++ behind_key (codes "s") (map decimal (take shape.cuts l.states)))
