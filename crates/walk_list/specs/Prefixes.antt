-- The prefixes that are kept, and which arcs are wanted after them.
use Rattle.std.specs.Prelude.{◌≡◌, ℕ, true, ℤ, pos, List, [], slice_index, slice_index_or}
use Rattle.path_graph.specs.Parts.{arcs_from}
use Rattle.label_rules.specs.declared.label.Label.{Label}
use Rattle.label_rules.specs.Labels.{Forward, Setting}
use Rattle.label_rules.specs.Spaces.{is_label}
use Rattle.concatenate.specs.Fit.{MayJoin}
use Rattle.list_check.specs.Prefixes.{IsOver, IsWanted}
use Rattle.walk_list.specs.declared.prefixes.Prefix.{Prefix}

-- a prefix by number
abbrev pub prefix_at : List Prefix → ℕ → Prefix
prefix_at prefixes k = slice_index_or prefixes k (record {
  label = record { vertex = 0; values = record { at = [] }; memory = record { bits = [] }; states = []; cost = pos 0 };
  visited = record { bits = [] };
})

-- the arc out of its vertex at a place
abbrev pub arc_after : Setting → Prefix → ℕ → ℕ
arc_after S prefix i = slice_index (arcs_from S.graph.arcs prefix.label.vertex) i

-- its label is one of the space, and may be joined
pub record LabelsFit (S : Setting) (prefix : Prefix) : Type 0 where
  pub fits : is_label Forward S prefix.label ≡ true
  pub may : MayJoin S prefix.label

-- an arc is wanted after it; and this is the next prefix
abbrev pub IsWantedOf : Setting → List Label → ℤ → Prefix → ℕ → Type 0
IsWantedOf S back limit prefix a = IsWanted S back limit prefix.label prefix.visited a

pub record IsWantedNext (S : Setting) (back : List Label) (limit : ℤ) (prefix : Prefix) (a : ℕ) (next : Prefix) : Type 0 where
  pub wanted : IsWantedOf S back limit prefix a
  pub over : IsOver S prefix.label prefix.visited a next.label next.visited
