-- Labels by their vertex.
use Rattle.std.specs.Prelude.{◌≡◌, ◌==◌, ℕ, pos, List, [], length, map, filter, slice_index_or}
use Rattle.std.specs.List.{range_with_len}
use Rattle.label_rules.specs.declared.label.Label.{Label}

-- a label by its place; nothing is said past the end
abbrev pub label_at : List Label → ℕ → Label
label_at labels k =
    slice_index_or labels k
    (record { vertex = 0; values = record { at = [] }; memory = record { bits = [] }; states = []; cost = pos 0 })

-- the places of the labels at a vertex, ascending
abbrev pub places_at : List Label → ℕ → List ℕ
places_at labels v = filter (λ k. (label_at labels k).vertex == v) (range_with_len 0 (length labels))

-- for each of so many vertices the places of its labels
abbrev pub IsIndex : List Label → ℕ → List (List ℕ) → Type 0
IsIndex labels count index = index ≡ map (places_at labels) (range_with_len 0 count)
