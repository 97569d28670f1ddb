-- A search, in the words of trees with open places.
use Rattle.std.proofs.Common.{◌≡◌, ◌≢◌, ◌≤◌, ◌≤ℤ◌, ℤ, Option, None, Some, List, [], ◌∷◌, ◌++◌, All, inl, inr, length, map, count_by, cond, refl, sym, ap, subst, ◌∙◌, arith}
use Rattle.std.specs.Int.{int_max}
use Rattle.std.proofs.lemmas.Int.{clamps, ints}
use Rattle.std.proofs.lemmas.List.Elements.{All-cons, All-head, All-nil, All-tail}
use Rattle.std.proofs.lemmas.List.Sums.{sum_by-cons}
use Rattle.route_model.specs.declared.plan.Plan.{Plan}
use Rattle.route_model.specs.Costs.{cost_above_all, least_box_cost}
use Rattle.route_model.specs.Fit.{ModelFits}
use Rattle.route_model.specs.Parts.{ModelParts}
use Rattle.route_model.specs.Quantities.{cost_of}
use Rattle.route_model.specs.Solution.{IsSolution}
use Rattle.route_model.proofs.SolutionLemmas.{cost_between}
use Rattle.proof_rules.specs.Grows.{Grows, HoldsForSome}
use Rattle.proof_rules.specs.NodeWalls.{IsCostToBeat, is_made, is_open, wall_rules}
use Rattle.proof_rules.specs.Nodes.{AtCounts, AtPlace, Close, CountClose, CountSplit, Fix, Item, ListWalks, Node, Point, SplitAt, children_of}
use Rattle.proof_rules.specs.OpenTrees.{Valued, handed, open_items, open_rules, raised, rounded_up, value_rules, valued_root}
use Rattle.proof_rules.specs.Proofs.{bound_at}
use Rattle.cert_rules.specs.Meaning.{node_of}
use Rattle.open_tree.specs.Open.{mades, opens, with_open}
use Rattle.open_tree.specs.declared.slots.Slot.{Slot}
use Rattle.open_tree.specs.declared.slots.Slot.TheVariants.{Made, Open}
use Rattle.open_tree.proofs.OpenLaws.{opens_all}
use Rattle.made_nodes.specs.declared.node.MadeNode.{MadeNode}
use Rattle.made_nodes.specs.Better.{IsBetter}
use Rattle.made_nodes.specs.Made.{IsMade, StaysOpen, made_children, made_rules}
use Rattle.made_nodes.proofs.MadeLemmas.{made_node, made_stays}
use Rattle.search_tree.specs.declared.places.OpenPlace.{OpenPlace}
use Rattle.search_tree.specs.Places.{all_valued, valued}
use Rattle.search_tree.specs.Search.{place_of, seen}
use Rattle.search_tree.proofs.GrowthLemmas.{all_one}
use Rattle.search_tree.proofs.SeenLemmas.{seen_opens}

-- ---- the nodes and open places as a tree, and as a wall
pub tree_places : (m : ModelParts) (z : ℤ) (is : List Valued) (slots : List (Slot OpenPlace MadeNode))
    → Grows (with_open (made_rules m z)) is (seen slots) [] → Grows (open_rules (value_rules m z)) is (map (place_of m) slots) []
tree_places m z is [] tree = tree
tree_places m z [] (x ∷ slots) tree = absurd tree
tree_places m z (i ∷ is) (Open p ∷ slots) tree = (tt, tree_places m z is slots tree.1)
tree_places m z (i ∷ is) (Made n ∷ slots) tree = (made_node m z i n tree.0, tree_places m z (made_children m i n ++ is) slots tree.1)

pub wall_places : (m : ModelParts) (z : ℤ) (is : List Valued) (slots : List (Slot OpenPlace MadeNode)) → All (StaysOpen z) (mades slots)
    → Grows (with_open (made_rules m z)) is (seen slots) [] → Grows (open_rules (wall_rules m z)) is (map (place_of m) slots) []
wall_places m z is [] stay tree = tree
wall_places m z [] (x ∷ slots) stay tree = absurd tree
wall_places m z (i ∷ is) (Open p ∷ slots) stay tree = (tt, wall_places m z is slots stay tree.1)
wall_places m z (i ∷ is) (Made n ∷ slots) stay tree = (
  record {
    fits = made_node m z i n tree.0;
    stays = made_stays m z i.item n tree.0 (All-head (StaysOpen z) n (mades slots) stay);
  },
  wall_places m z (made_children m i n ++ is) slots (All-tail (StaysOpen z) n (mades slots) stay) tree.1,
)

-- ---- how many
pub count_made : (m : ModelParts) (slots : List (Slot OpenPlace MadeNode)) → count_by is_made (map (place_of m) slots) ≡ length (mades slots)
count_made m [] = refl
count_made m (Open p ∷ slots) =
    let one = sum_by-cons (λ (x : Option Node). cond (is_made x) 1 0) None (map (place_of m) slots) in
    let rest = count_made m slots in
    omega (arith, one, rest)
count_made m (Made n ∷ slots) =
    let one = sum_by-cons (λ (x : Option Node). cond (is_made x) 1 0) (Some (node_of m n.form)) (map (place_of m) slots) in
    let rest = count_made m slots in
    omega (arith, one, rest)

pub count_open : (m : ModelParts) (slots : List (Slot OpenPlace MadeNode)) → count_by is_open (map (place_of m) slots) ≡ length (opens slots)
count_open m [] = refl
count_open m (Open p ∷ slots) =
    let one = sum_by-cons (λ (x : Option Node). cond (is_open x) 1 0) None (map (place_of m) slots) in
    let rest = count_open m slots in
    omega (arith, one, rest)
count_open m (Made n ∷ slots) =
    let one = sum_by-cons (λ (x : Option Node). cond (is_open x) 1 0) (Some (node_of m n.form)) (map (place_of m) slots) in
    let rest = count_open m slots in
    omega (arith, one, rest)

pub some_left : {X : Type 0} (xs : List X) → xs ≢ [] → 1 ≤ length xs
some_left [] some = absurd (some refl)
some_left (x ∷ xs) some = omega arith

-- ---- the values of the open places
pub open_items_are : (m : ModelParts) (z : ℤ) (is : List Valued) (slots : List (Slot OpenPlace MadeNode))
    → Grows (with_open (made_rules m z)) is (seen slots) [] → open_items (value_rules m z) is (map (place_of m) slots) ≡ all_valued (opens slots)
open_items_are m z [] [] tree = refl
open_items_are m z (i ∷ is) [] tree = refl
open_items_are m z [] (x ∷ slots) tree = absurd tree
open_items_are m z (i ∷ is) (Open p ∷ slots) tree =
    ap (λ (j : Valued). j ∷ open_items (value_rules m z) is (map (place_of m) slots)) tree.0
    ∙ ap (λ (js : List Valued). valued p ∷ js) (open_items_are m z is slots tree.1)
open_items_are m z (i ∷ is) (Made n ∷ slots) tree = open_items_are m z (made_children m i n ++ is) slots tree.1

pub each_value : (P : ℤ → Type 0) (places : List OpenPlace) → All (λ (p : OpenPlace). P p.value) places → All P (map (λ (i : Valued). i.value) (all_valued places))
each_value P [] all = All-nil P
each_value P (p ∷ places) all =
    All-cons P p.value (map (λ (i : Valued). i.value) (all_valued places)) (All-head (λ (q : OpenPlace). P q.value) p places all)
    (each_value P places (All-tail (λ (q : OpenPlace). P q.value) p places all))

pub some_value : (P : ℤ → Type 0) (places : List OpenPlace) → HoldsForSome (λ (p : OpenPlace). P p.value) places
    → HoldsForSome P (map (λ (i : Valued). i.value) (all_valued places))
some_value P [] some = absurd some
some_value P (p ∷ places) (inl h) = inl h
some_value P (p ∷ places) (inr h) = inr (some_value P places h)

-- ---- values never fall below the least cost over the boxes
no_less : (x : ℤ) → x ≤ℤ x
no_less x = omega (arith, ints)

through : (x y z : ℤ) → x ≤ℤ y → y ≤ℤ z → x ≤ℤ z
through x y z h k = omega (arith, ints, h, k)

max_more : (x y : ℤ) → x ≤ℤ int_max x y
max_more x y = omega (arith, ints, clamps)

raised_more : (value : ℤ) (bound : Option ℤ) → value ≤ℤ raised value bound
raised_more value None = no_less value
raised_more value (Some b) = max_more value (rounded_up b)

handed_more : (m : ModelParts) (item : Item) (node : Node) (value : ℤ) → value ≤ℤ handed m item node value
handed_more m (AtPlace spot) (SplitAt split None) value = no_less value
handed_more m (AtPlace spot) (SplitAt split (Some p)) value = raised_more value (bound_at m spot p)
handed_more m (AtPlace spot) (Close p) value = no_less value
handed_more m (AtPlace spot) (Fix p arcs) value = raised_more value (bound_at m spot p)
handed_more m (AtPlace spot) (ListWalks p trees) value = no_less value
handed_more m (AtPlace spot) (CountSplit k d) value = no_less value
handed_more m (AtPlace spot) (CountClose mult) value = no_less value
handed_more m (AtPlace spot) Point value = no_less value
handed_more m (AtCounts spot walks boxes) (SplitAt split None) value = no_less value
handed_more m (AtCounts spot walks boxes) (SplitAt split (Some p)) value = no_less value
handed_more m (AtCounts spot walks boxes) (Close p) value = no_less value
handed_more m (AtCounts spot walks boxes) (Fix p arcs) value = no_less value
handed_more m (AtCounts spot walks boxes) (ListWalks p trees) value = no_less value
handed_more m (AtCounts spot walks boxes) (CountSplit k d) value = no_less value
handed_more m (AtCounts spot walks boxes) (CountClose mult) value = no_less value
handed_more m (AtCounts spot walks boxes) Point value = no_less value

abbrev pub IsAbove : ModelParts → Valued → Type 0
IsAbove m i = least_box_cost m ≤ℤ i.value

each_above : (m : ModelParts) (value : ℤ) (items : List Item) → least_box_cost m ≤ℤ value → All (IsAbove m) (map (λ (item : Item). record { item = item; value = value }) items)
each_above m value [] above = All-nil (IsAbove m)
each_above m value (item ∷ items) above =
    All-cons (IsAbove m) (record { item = item; value = value }) (map (λ (it : Item). record { item = it; value = value }) items) above (each_above m value items above)

children_above : (m : ModelParts) (z : ℤ) (i : Valued) (n : MadeNode) → IsAbove m i → IsMade m z i.item n → All (IsAbove m) (made_children m i n)
children_above m z i n above is =
    each_above m (handed m i.item (node_of m n.form) i.value) (children_of m i.item (node_of m n.form))
    (through (least_box_cost m) i.value (handed m i.item (node_of m n.form) i.value) above (handed_more m i.item (node_of m n.form) i.value))

opens_above : (m : ModelParts) (z : ℤ) (slots : List (Slot OpenPlace MadeNode)) → Grows (with_open (made_rules m z)) (valued_root m ∷ []) (seen slots) []
    → All (IsAbove m) (all_valued (opens slots))
opens_above m z slots tree =
    subst (λ (is : List Valued). All (IsAbove m) is) (seen_opens slots)
    (opens_all (made_rules m z) (IsAbove m) (children_above m z) (valued_root m ∷ []) (seen slots) (all_one (IsAbove m) (valued_root m) (no_less (least_box_cost m))) tree)

above_some : (m : ModelParts) (bound : ℤ) (places : List OpenPlace) → All (IsAbove m) (all_valued places) → HoldsForSome (λ (p : OpenPlace). bound ≡ p.value) places
    → least_box_cost m ≤ℤ bound
above_some m bound [] all some = absurd some
above_some m bound (p ∷ places) all (inl is) =
    subst (λ (x : ℤ). least_box_cost m ≤ℤ x) (sym is) (All-head (IsAbove m) (valued p) (all_valued places) all)
above_some m bound (p ∷ places) all (inr some) = above_some m bound places (All-tail (IsAbove m) (valued p) (all_valued places) all) some

pub open_above : (m : ModelParts) (z bound : ℤ) (slots : List (Slot OpenPlace MadeNode)) → Grows (with_open (made_rules m z)) (valued_root m ∷ []) (seen slots) []
    → HoldsForSome (λ (p : OpenPlace). bound ≡ p.value) (opens slots) → least_box_cost m ≤ℤ bound
open_above m z bound slots tree some = above_some m bound (opens slots) (opens_above m z slots tree) some

-- so does the cost of the best plan
pub best_above : (m : ModelParts) (best : Option Plan) (above z bound : ℤ) → ModelFits m → IsBetter m above best z → best ≢ None → bound ≡ z → least_box_cost m ≤ℤ bound
best_above m None above z bound fits better some is = absurd (some refl)
best_above m (Some plan) above z bound fits better some is =
    let least = (cost_between m plan fits better.0).0 in
    let cost = better.2 in
    omega (arith, ints, least, cost, is)

-- ---- the cost to beat
pub to_beat : (m : ModelParts) (best : Option Plan) (z : ℤ) → IsBetter m (cost_above_all m) best z → IsCostToBeat m best z
to_beat m None z is = is
to_beat m (Some plan) z is = record { solution = is.0; is = is.2 }

-- ---- no solution costs less than the bound
pub least_of : (bound cost : ℤ) (values : List ℤ) → All (λ v. bound ≤ℤ v) values → HoldsForSome (λ v. v ≤ℤ cost) values → bound ≤ℤ cost
least_of bound cost [] all h = absurd h
least_of bound cost (v ∷ values) all (inl h) = through bound v cost (All-head (λ w. bound ≤ℤ w) v values all) h
least_of bound cost (v ∷ values) all (inr h) = least_of bound cost values (All-tail (λ w. bound ≤ℤ w) v values all) h

pub past_best : (m : ModelParts) (best : Option Plan) (z bound : ℤ) (plan : Plan) → ModelFits m → IsBetter m (cost_above_all m) best z → (best ≢ None → bound ≤ℤ z)
    → IsSolution m plan → z ≤ℤ cost_of m plan → bound ≤ℤ cost_of m plan
past_best m None z bound plan fits better most solution past =
    let below = (cost_between m plan fits solution).1 in
    absurd (omega (arith, ints, below, past, better))
past_best m (Some other) z bound plan fits better most solution past = through bound z (cost_of m plan) (most (λ e. cc)) past
