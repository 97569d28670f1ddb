-- The labels of a list by the vertices at which they stand.
use Rattle.std.specs.Prelude.{ℕ, ◌==◌, pos, List, [], length, filter, slice_index_or}
use Rattle.std.specs.List.{range_with_len}
use Rattle.label_rules.specs.declared.label.Label.{Label}

-- a label by its place
abbrev pub label_at : List Label → ℕ → Label
label_at labels k = slice_index_or labels k (record { vertex = 0; values = record { at = [] }; memory = record { bits = [] }; states = []; cost = pos 0 })

-- the places of the labels at a vertex, in order
abbrev pub places_at : List Label → ℕ → List ℕ
places_at labels v = filter (λ k. (label_at labels k).vertex == v) (range_with_len 0 (length labels))
