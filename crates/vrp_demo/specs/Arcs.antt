-- The arcs, by tail, then by head, and their variables.
use Rattle.std.specs.Prelude.{ℕ, ◌+◌, ◌<◌, ℤ, pos, Bool, not, ◌&&◌, ◌==◌, List, [], ◌∷◌, length, map, filter, flat_map, slice_index_or}
use Rattle.std.specs.Int.{abs_diff}
use Rattle.std.specs.List.{range_with_len}
use Rattle.path_graph.specs.declared.parts.GraphArc.{GraphArc}
use Rattle.route_model.specs.declared.parts.Var.{Var}
use Rattle.vrp_demo.specs.declared.stops.Stop.{Stop}
use Rattle.vrp_demo.specs.declared.arcs.Pair.{Pair}

-- no arc goes from a vertex to itself, or from the source to the sink
abbrev pub is_arc : ℕ → ℕ → ℕ → Bool
is_arc size tail head = not (tail == head) && not (tail == 0 && head == size + 1)

-- the arcs out of a vertex, by their heads: 1 to size + 1
abbrev pub pairs_from : ℕ → ℕ → List Pair
pairs_from size tail =
    map (λ head. record { tail = tail; head = head }) (filter (is_arc size tail) (range_with_len 1 (size + 1)))

-- all arcs, by their tails: 0 to size
abbrev pub all_pairs : ℕ → List Pair
all_pairs size = flat_map (pairs_from size) (range_with_len 0 (size + 1))

-- a stop by the number of its vertex; nothing is said of a number past the end
abbrev pub stop_in : List Stop → ℕ → Stop
stop_in stops v = slice_index_or stops v (record { x = 0; y = 0; demand = 0 })

-- the difference of X plus that of Y
abbrev pub distance : Stop → Stop → ℤ
distance a b = pos (abs_diff a.x b.x + abs_diff a.y b.y)

-- an arc consumes the demand of its head
abbrev pub arc_over : List Stop → Pair → GraphArc
arc_over stops p =
    let demand = (stop_in stops p.head).demand in
    record { tail = p.tail; head = p.head; needs = pos demand ∷ pos 0 ∷ pos 0 ∷ pos 0 ∷ pos 0 ∷ pos 0 ∷ [] }

-- its variable is 0 or 1, at the cost of the distance
abbrev pub variable_over : List Stop → Pair → Var
variable_over stops p =
    record { low = pos 0; high = pos 1; cost = distance (stop_in stops p.tail) (stop_in stops p.head) }

-- both vertices have their stops
abbrev pub AreIn : List Stop → Pair → Type 0
AreIn stops p = (p.tail < length stops) × (p.head < length stops)
