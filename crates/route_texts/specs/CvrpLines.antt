-- The lines of a CVRP text.
use Rattle.std.specs.Prelude.{ℕ, ℤ, pos, neg_ℤ, negsuc, unsigned_abs, int_lt, List, [], ◌∷◌, length, codes, Bool, true, false, ◌==◌, ◌||◌, ◌&&◌, not, if◌then◌else◌, Option, None, Some, is_some, Result, Ok, Err}
use Rattle.std.specs.List.{list_all}
use Rattle.std.specs.Ordering.{int_eq}
use Rattle.std.specs.Str.{bytes_eq}
use Rattle.vrp_lex.specs.Text.{number_of, is_some_bytes}
use Rattle.route_tasks.specs.declared.limits.TheConstants.{MAX_LOAD}
use Rattle.route_texts.specs.declared.fault.RouteKind.{RouteKind}
use Rattle.route_texts.specs.declared.fault.RouteKind.TheVariants as kind
use Rattle.route_texts.specs.declared.stops.Point.{Point}
use Rattle.route_texts.specs.declared.cvrp_draft.Key.{Key}
use Rattle.route_texts.specs.declared.cvrp_draft.Key.TheVariants as key
use Rattle.route_texts.specs.declared.cvrp_draft.Section.{Section}
use Rattle.route_texts.specs.declared.cvrp_draft.Section.TheVariants as section
use Rattle.route_texts.specs.declared.cvrp_draft.Node.{Node}
use Rattle.route_texts.specs.declared.cvrp_draft.CvrpDraft.{CvrpDraft}
use Rattle.route_texts.specs.Words.{Words, words_in, cut_at, are_some_words, Wants, ◌>>=◌, ◌>>◌, give, fault_if, word, limited, number_in, whole, after}
use Rattle.route_texts.specs.CvrpDraft.{bare_nodes, has_key, has_keys, has_begun, with_section, node_at, with_point, with_demand, are_placed, are_demanded}

-- Before the first section come lines of a key, a colon and a value; these four keys count.
abbrev pub key_of : List ℕ → Option Key
key_of w =
    if bytes_eq w (codes "TYPE") then Some key.Type
    else (if bytes_eq w (codes "EDGE_WEIGHT_TYPE") then Some key.Distances
    else (if bytes_eq w (codes "DIMENSION") then Some key.Dimension
    else (if bytes_eq w (codes "CAPACITY") then Some key.Capacity else None)))

-- a stated word, else Type
abbrev pub stated : List ℕ → Wants (Unit {0})
stated name = word >>= (λ w. fault_if kind.Type (not (bytes_eq w name)))

-- how many nodes there are: the depot and 1 to 244 customers
abbrev pub counted : Option ℤ → Wants ℕ
counted None words = Err kind.Number
counted (Some z) words =
    if int_lt z (pos 2) then Err kind.Range
    else (if int_lt (pos 245) z then Err kind.TooMany else Ok (unsigned_abs z, words))

abbrev pub dimension_wanted : Wants ℕ
dimension_wanted = word >>= (λ w. counted (number_of w))

abbrev pub value_read : CvrpDraft → Key → Words → Result CvrpDraft RouteKind
value_read d key.Type value = after (whole (stated (codes "CVRP")) value) (λ _. Ok (record d { has_type = true }))
value_read d key.Distances value = after (whole (stated (codes "EUC_2D")) value) (λ _. Ok (record d { has_distances = true }))
value_read d key.Dimension value = after (whole dimension_wanted value) (λ n. Ok (record d { nodes = bare_nodes n }))
value_read d key.Capacity value = after (whole (number_in (pos 1) MAX_LOAD) value) (λ z. Ok (record d { capacity = Some z }))

-- a key once, and no word between it and its colon; a line of another key is skipped
abbrev pub key_read : CvrpDraft → Option Key → Words → Words → Result CvrpDraft RouteKind
key_read d None further value = Ok d
key_read d (Some k) (w ∷ further) value = Err kind.Word
key_read d (Some k) [] value = if has_key d k then Err kind.Repeated else value_read d k value

abbrev pub before_colon : CvrpDraft → Words → Words → Result CvrpDraft RouteKind
before_colon d [] value = Ok d
before_colon d (w ∷ further) value = key_read d (key_of w) further value

-- a line without colon is Word
abbrev pub key_line : CvrpDraft → Option (List ℕ × List ℕ) → Result CvrpDraft RouteKind
key_line d None = Err kind.Word
key_line d (Some parts) = before_colon d (words_in parts.0) (words_in parts.1)

-- a coordinate may have a fraction, which has zeros alone
abbrev pub are_zeros : List ℕ → Bool
are_zeros bs = is_some_bytes bs && list_all (λ b. b == 48) bs

abbrev pub whole_part : List ℕ → Option (List ℕ × List ℕ) → Option ℤ
whole_part w None = number_of w
whole_part w (Some parts) = if are_zeros parts.1 then number_of parts.0 else None

abbrev pub coordinate : Wants ℤ
coordinate = word >>= (λ w. limited (neg_ℤ (pos 100000)) (pos 100000) (whole_part w (cut_at 46 w)))

-- the number of a node; a word that is no number makes an unknown line
abbrev pub known_node : ℕ → Option ℤ → Wants ℕ
known_node count None words = Err kind.Word
known_node count (Some z) words =
    if int_lt z (pos 1) || int_lt (pos count) z then Err kind.Range else Ok (unsigned_abs z, words)

abbrev pub node_wanted : List Node → Wants ℕ
node_wanted nodes = word >>= (λ w. known_node (length nodes) (number_of w))

-- a line of the section of coordinates: a node that has none yet, and where it lies
abbrev pub bare_place : List Node → Wants ℕ
bare_place nodes = do
  number ← node_wanted nodes
  fault_if kind.Repeated (is_some (node_at nodes number).point)
  give number

abbrev pub two_coordinates : Wants Point
two_coordinates = do
  x ← coordinate
  y ← coordinate
  give (record { x = x; y = y })

abbrev pub point_wanted : List Node → Wants (ℕ × Point)
point_wanted nodes = do
  number ← bare_place nodes
  point ← two_coordinates
  give (number, point)

abbrev pub point_line : CvrpDraft → Words → Result CvrpDraft RouteKind
point_line d words =
    if are_placed d.nodes then Err kind.Word
    else after (whole (point_wanted d.nodes) words) (λ x. Ok (record d { nodes = with_point d.nodes x.0 x.1 }))

abbrev pub is_depot : Option ℕ → ℕ → Bool
is_depot None number = false
is_depot (Some depot) number = depot == number

-- a line of the section of demands: a node that has none yet, and its demand, which is 0 for the depot
abbrev pub bare_load : List Node → Wants ℕ
bare_load nodes = do
  number ← node_wanted nodes
  fault_if kind.Repeated (is_some (node_at nodes number).demand)
  give number

abbrev pub demand_wanted : List Node → Wants (ℕ × ℤ)
demand_wanted nodes = do
  number ← bare_load nodes
  demand ← number_in (pos 0) MAX_LOAD
  give (number, demand)

abbrev pub demand_line : CvrpDraft → Words → Result CvrpDraft RouteKind
demand_line d words =
    if are_demanded d.nodes then Err kind.Word
    else after (whole (demand_wanted d.nodes) words)
    (λ x. if is_depot d.depot x.0 && not (int_eq x.1 (pos 0)) then Err kind.Depot
    else Ok (record d { nodes = with_demand d.nodes x.0 x.1 }))

-- a line of the section of the depot: one node, which has no demand; and then -1
abbrev pub has_load : Option ℤ → Bool
has_load None = false
has_load (Some demand) = not (int_eq demand (pos 0))

abbrev pub depot_wanted : CvrpDraft → Wants ℕ
depot_wanted d = do
  number ← node_wanted d.nodes
  fault_if kind.Repeated (is_depot d.depot number)
  give number

abbrev pub with_depot : CvrpDraft → ℕ → Result CvrpDraft RouteKind
with_depot d number =
    if is_some d.depot || has_load (node_at d.nodes number).demand then Err kind.Depot
    else Ok (record d { depot = Some number })

abbrev pub is_minus_one : Option ℤ → Bool
is_minus_one None = false
is_minus_one (Some z) = int_eq z (negsuc 0)

abbrev pub closes : Words → Bool
closes [] = false
closes (w ∷ words) = is_minus_one (number_of w)

abbrev pub depot_line : CvrpDraft → Words → Result CvrpDraft RouteKind
depot_line d words =
    if d.closed then Err kind.Word
    else (if closes words
    then after (whole word words) (λ _. Ok (record d { closed = true }))
    else after (whole (depot_wanted d) words) (with_depot d))

-- a line of a section, or before all sections
abbrev pub inner_line : CvrpDraft → Option Section → List ℕ → Result CvrpDraft RouteKind
inner_line d None line = key_line d (cut_at 58 line)
inner_line d (Some section.Points) line = point_line d (words_in line)
inner_line d (Some section.Demands) line = demand_line d (words_in line)
inner_line d (Some section.Depot) line = depot_line d (words_in line)

-- the name of a section, which stands alone in its line and once, behind the four keys
abbrev pub section_of : List ℕ → Option Section
section_of w =
    if bytes_eq w (codes "NODE_COORD_SECTION") then Some section.Points
    else (if bytes_eq w (codes "DEMAND_SECTION") then Some section.Demands
    else (if bytes_eq w (codes "DEPOT_SECTION") then Some section.Depot else None))

abbrev pub section_line : CvrpDraft → Section → Words → Result CvrpDraft RouteKind
section_line d s further =
    if not (has_keys d) then Err kind.Missing
    else (if has_begun d.begun s then Err kind.Repeated
    else (if are_some_words further then Err kind.Word else Ok (with_section d s)))

abbrev pub by_section : CvrpDraft → Option Section → Words → List ℕ → Result CvrpDraft RouteKind
by_section d (Some s) further line = section_line d s further
by_section d None further line = inner_line d d.section line

abbrev pub is_end : List ℕ → Bool
is_end w = bytes_eq w (codes "EOF")

-- a line with words; `EOF` stands alone in its line
abbrev pub worded_line : CvrpDraft → Words → List ℕ → Result CvrpDraft RouteKind
worded_line d [] line = Ok d
worded_line d (w ∷ further) line =
    if is_end w then (if are_some_words further then Err kind.Word else Ok d)
    else by_section d (section_of w) further line

abbrev pub cvrp_line : CvrpDraft → List ℕ → Result CvrpDraft RouteKind
cvrp_line d line = worded_line d (words_in line) line

abbrev pub ends_text : Words → Bool
ends_text [] = false
ends_text (w ∷ words) = is_end w
