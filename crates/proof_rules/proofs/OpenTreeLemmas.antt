-- The values of open places bound each solution that costs less than z.
use Rattle.std.proofs.Common.{◌≡◌, ◌≢◌, suc, ◌+◌, ◌*◌, ◌/◌, ◌≤◌, ℤ, pos, negsuc, neg_ℤ, ◌≤ℤ◌, ◌<ℤ◌, Option, None, Some, List, [], ◌∷◌, ◌++◌, map, All, inl, inr, refl, subst, arith}
use Rattle.std.proofs.lemmas.Int.{ints, clamps, by_lt_z}
use Rattle.std.proofs.lemmas.List.Elements.{All-head, All-tail}
use Rattle.path_graph.specs.Bounds.{IsAtLeast}
use Rattle.route_model.specs.declared.places.Spot.{Spot}
use Rattle.route_model.specs.declared.plan.Plan.{Plan}
use Rattle.route_model.specs.Fit.{ModelFits}
use Rattle.route_model.specs.Parts.{ModelParts}
use Rattle.route_model.specs.Quantities.{cost_of}
use Rattle.route_model.specs.Solution.{IsSolution}
use Rattle.route_model.proofs.SolutionLemmas.{cost_between}
use Rattle.multipliers.specs.Quantities.{scaled}
use Rattle.proof_rules.specs.Grows.{Descends, Grows, HoldsForSome, Rules}
use Rattle.proof_rules.specs.NodeWalls.{IsCostToBeat, OpenValueLaw, WallBoundLaw, WallTreeLaw, wall_rules}
use Rattle.proof_rules.specs.Nodes.{AtCounts, AtPlace, Close, CountClose, CountSplit, Fix, IsNode, Item, ListWalks, Node, Point, SplitAt, children_of}
use Rattle.proof_rules.specs.OpenTrees.{HasProof, OpenFits, RoundedUpLaw, Valued, handed, open_children, open_items, open_rules, open_values, raised, value_rules, valued_root}
use Rattle.proof_rules.specs.Proofs.{IsProof, Proof, bound_at}
use Rattle.proof_rules.specs.ValidLaws.{Has, HasAtPlace}
use Rattle.proof_rules.proofs.GrowsLemmas.{grows_weaken, some_first, some_last}
use Rattle.proof_rules.proofs.ProofLemmas.{bound_law}
use Rattle.proof_rules.proofs.ValidLemmas.{at_root, node_law}

-- what lies below z at an item lies at an open one
pub open_reach : {I N : Type 0} (r : Rules I N) (Has : I → ℤ → Type 0) (z : ℤ) → Descends r Has z
    → (is : List I) (places : List (Option N)) (cost : ℤ) → Grows (open_rules r) is places []
    → HoldsForSome (λ i. Has i cost) is → cost <ℤ z → HoldsForSome (λ i. Has i cost) (open_items r is places)
open_reach {I} r Has z d [] [] cost g at below = at
open_reach {I} r Has z d (i ∷ is) [] cost g at below = absurd (none_left g)
  where
    none_left : i ∷ is ≡ [] → ⊥
    none_left e = cc
open_reach r Has z d [] (p ∷ places) cost g at below = absurd g
open_reach r Has z d (i ∷ is) (None ∷ places) cost g (inl h) below = inl h
open_reach r Has z d (i ∷ is) (None ∷ places) cost g (inr h) below = inr (open_reach r Has z d is places cost g.1 h below)
open_reach r Has z d (i ∷ is) (Some n ∷ places) cost g (inl h) below =
    open_reach r Has z d (r.children i n ++ is) places cost g.1 (some_first (λ j. Has j cost) (r.children i n) is (d i n cost g.0 h below)) below
open_reach r Has z d (i ∷ is) (Some n ∷ places) cost g (inr h) below =
    open_reach r Has z d (r.children i n ++ is) places cost g.1 (some_last (λ j. Has j cost) (r.children i n) is h) below

-- a bound that is rounded up is at most each cost that it bounds
pub rounded_up_law : RoundedUpLaw
rounded_up_law (pos k) (pos c) h = up (omega (arith, ints, h))
  where
    up : k ≤ 65536 * c → pos ((k + 65535) / 65536) ≤ℤ pos c
    up l = let quotient : (k + 65535) / 65536 ≤ c = omega arith in omega (arith, ints, quotient)
rounded_up_law (pos k) (negsuc c) h = absurd (omega (arith, ints, h))
rounded_up_law (negsuc k) (pos c) h = omega (arith, ints)
rounded_up_law (negsuc k) (negsuc c) h = down (omega (arith, ints, h))
  where
    down : 65536 * suc c ≤ suc k → neg_ℤ (pos (suc k / 65536)) ≤ℤ negsuc c
    down l = let quotient : suc c ≤ suc k / 65536 = omega arith in omega (arith, ints, quotient)

raised_below : (value : ℤ) (bound : Option ℤ) (cost : ℤ) → value ≤ℤ cost → IsAtLeast bound (scaled cost) → raised value bound ≤ℤ cost
raised_below value None cost less h = absurd h
raised_below value (Some b) cost less h =
    let number = rounded_up_law b cost h in
    omega (arith, ints, clamps, less, number)

-- some plan of the item has this cost, which is at least its value
pub record HasAbove (m : ModelParts) (i : Valued) (cost : ℤ) : Type 0 where
  pub has : Has m i.item cost
  pub above : i.value ≤ℤ cost

plan_bound : (m : ModelParts) (spot : Spot) (p : Proof) (cost : ℤ) → ModelFits m → IsProof m spot p → HasAtPlace m spot cost → IsAtLeast (bound_at m spot p) (scaled cost)
plan_bound m spot p cost fits proof has = subst (λ (c : ℤ). IsAtLeast (bound_at m spot p) (scaled c)) has.is (bound_law m spot p has.plan fits proof has.solves)

handed_below : (m : ModelParts) (z : ℤ) (item : Item) (node : Node) (value cost : ℤ) → ModelFits m → IsNode m z item node → HasProof m item node → Has m item cost → value ≤ℤ cost → handed m item node value ≤ℤ cost
handed_below m z (AtPlace spot) (SplitAt split None) value cost fits node proof has less = absurd proof
handed_below m z (AtPlace spot) (SplitAt split (Some p)) value cost fits node proof has less = raised_below value (bound_at m spot p) cost less (plan_bound m spot p cost fits proof has)
handed_below m z (AtPlace spot) (Fix p arcs) value cost fits node proof has less = raised_below value (bound_at m spot p) cost less (plan_bound m spot p cost fits node.proof has)
handed_below m z (AtPlace spot) (Close p) value cost fits node proof has less = less
handed_below m z (AtPlace spot) (ListWalks p trees) value cost fits node proof has less = less
handed_below m z (AtPlace spot) (CountSplit i d) value cost fits node proof has less = less
handed_below m z (AtPlace spot) (CountClose mult) value cost fits node proof has less = less
handed_below m z (AtPlace spot) Point value cost fits node proof has less = less
handed_below m z (AtCounts spot walks boxes) (SplitAt split None) value cost fits node proof has less = less
handed_below m z (AtCounts spot walks boxes) (SplitAt split (Some p)) value cost fits node proof has less = less
handed_below m z (AtCounts spot walks boxes) (Fix p arcs) value cost fits node proof has less = less
handed_below m z (AtCounts spot walks boxes) (Close p) value cost fits node proof has less = less
handed_below m z (AtCounts spot walks boxes) (ListWalks p trees) value cost fits node proof has less = less
handed_below m z (AtCounts spot walks boxes) (CountSplit i d) value cost fits node proof has less = less
handed_below m z (AtCounts spot walks boxes) (CountClose mult) value cost fits node proof has less = less
handed_below m z (AtCounts spot walks boxes) Point value cost fits node proof has less = less

-- children with the value that is handed to them
some_valued : (m : ModelParts) (value cost : ℤ) (items : List Item) → value ≤ℤ cost → HoldsForSome (λ item. Has m item cost) items
    → HoldsForSome (λ i. HasAbove m i cost) (map (λ (item : Item). record { item = item; value = value }) items)
some_valued m value cost [] less h = absurd h
some_valued m value cost (item ∷ items) less (inl h) = inl (record { has = h; above = less })
some_valued m value cost (item ∷ items) less (inr h) = inr (some_valued m value cost items less h)

valued_descends : (m : ModelParts) (z : ℤ) → ModelFits m → Descends (value_rules m z) (HasAbove m) z
valued_descends m z fits i node cost is has below =
    some_valued m (handed m i.item node i.value) cost (children_of m i.item node)
    (handed_below m z i.item node i.value cost fits is.is_node is.has_proof has.has has.above) (node_law m z fits i.item node cost is.is_node has.has below)

some_value : (m : ModelParts) (cost : ℤ) (items : List Valued) → HoldsForSome (λ i. HasAbove m i cost) items → HoldsForSome (λ v. v ≤ℤ cost) (map (λ (i : Valued). i.value) items)
some_value m cost [] h = absurd h
some_value m cost (i ∷ items) (inl h) = inl h.above
some_value m cost (i ∷ items) (inr h) = inr (some_value m cost items h)

pub open_value : OpenValueLaw
open_value m z places plan fits tree solution below =
    let least = (cost_between m plan fits solution).0 in
    some_value m (cost_of m plan) (open_items (value_rules m z) (valued_root m ∷ []) places)
    (open_reach (value_rules m z) (HasAbove m) z (valued_descends m z fits) (valued_root m ∷ []) places (cost_of m plan) tree
    (inl (record { has = record { plan = plan; solves = at_root m plan fits solution; is = refl }; above = least })) below)

-- a wall
wall_fits : (m : ModelParts) (z : ℤ) (i : Valued) (p : Option Node) → OpenFits (wall_rules m z) i p → OpenFits (value_rules m z) i p × (open_children (wall_rules m z) i p ≡ open_children (value_rules m z) i p)
wall_fits m z i None h = (tt, refl)
wall_fits m z i (Some n) h = (h.fits, refl)

pub wall_tree : WallTreeLaw
wall_tree m limit best z places wall = grows_weaken (open_rules (wall_rules m z)) (open_rules (value_rules m z)) (wall_fits m z) (valued_root m ∷ []) [] places wall.tree

least_of : (bound cost : ℤ) (values : List ℤ) → All (λ v. bound ≤ℤ v) values → HoldsForSome (λ v. v ≤ℤ cost) values → bound ≤ℤ cost
least_of bound cost [] all h = absurd h
least_of bound cost (v ∷ values) all (inl h) = let least = All-head (λ w. bound ≤ℤ w) v values all in omega (arith, ints, least, h)
least_of bound cost (v ∷ values) all (inr h) = least_of bound cost values (All-tail (λ w. bound ≤ℤ w) v values all) h

past_best : (m : ModelParts) (best : Option Plan) (z bound : ℤ) (plan : Plan) → ModelFits m → IsCostToBeat m best z → (best ≢ None → bound ≤ℤ z) → IsSolution m plan → z ≤ℤ cost_of m plan → bound ≤ℤ cost_of m plan
past_best m None z bound plan fits to_beat most solution past =
    let below = (cost_between m plan fits solution).1 in
    absurd (omega (arith, ints, below, past, to_beat))
past_best m (Some other) z bound plan fits to_beat most solution past =
    let less = most (λ e. cc) in
    omega (arith, ints, less, past)

pub wall_bound : WallBoundLaw
wall_bound m limit best z places bound plan fits wall is solution =
    by_lt_z (cost_of m plan) z
    (λ below. least_of bound (cost_of m plan) (open_values m z places) is.values (open_value m z places plan fits (wall_tree m limit best z places wall) solution below))
    (λ past. past_best m best z bound plan fits wall.to_beat is.cost solution past)
