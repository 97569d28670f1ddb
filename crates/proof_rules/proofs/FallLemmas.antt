-- Nodes against z stand against each number that is no greater.
use Rattle.std.proofs.Common.{ℕ, ℤ, pos, ◌-ℤ◌, ◌≤ℤ◌, Bool, true, false, Option, None, Some, refl, arith}
use Rattle.std.specs.Prelude.{if◌then◌else◌}
use Rattle.std.proofs.lemmas.Int.{ints}
use Rattle.path_graph.specs.Bounds.{IsNoGreater}
use Rattle.path_graph.proofs.IntLemmas.{pos_mul-≤}
use Rattle.route_model.specs.declared.places.Spot.{Spot}
use Rattle.route_model.specs.Parts.{ModelParts}
use Rattle.route_model.specs.PlaceParts.{NamedArc}
use Rattle.multipliers.specs.Quantities.{scaled}
use Rattle.proof_rules.specs.Nodes.{AtCounts, AtPlace, Close, CountClose, CountSplit, Fix, IsFixed, ListWalks, Point, SplitAt, node_rules, tree_at}
use Rattle.proof_rules.specs.Proofs.{ClosesAgainst, Proof, setting_of, table_at, walk_limit}
use Rattle.proof_rules.specs.ValidLaws.{NodeFallsLaw, TreeFallsLaw}
use Rattle.label_rules.proofs.LeastLemmas.{limit_falls}
use Rattle.proof_rules.proofs.CompleteLemmas.{complete_falls}
use Rattle.proof_rules.proofs.GrowsLemmas.{grows_weaken}

scaled_falls : (less z : ℤ) → less ≤ℤ z → scaled (less -ℤ pos 1) ≤ℤ scaled (z -ℤ pos 1)
scaled_falls less z falls = pos_mul-≤ 65536 (less -ℤ pos 1) (z -ℤ pos 1) (omega (arith, ints))

closes_falls : (less z : ℤ) (bound : Option ℤ) → less ≤ℤ z → ClosesAgainst z bound → ClosesAgainst less bound
closes_falls less z None falls closes = closes
closes_falls less z (Some b) falls closes = omega (arith, ints, scaled_falls less z falls, closes)

-- the limit of a walk falls with z
when_less : (b : Bool) (x y : ℤ) → x ≤ℤ y → IsNoGreater (if b then None else Some x) (if b then None else Some y)
when_less true x y h = tt
when_less false x y h = h

pub walk_limit_falls : (m : ModelParts) (less z : ℤ) (spot : Spot) (p : Proof) (g : ℕ) → less ≤ℤ z → IsNoGreater (walk_limit m spot p less g) (walk_limit m spot p z g)
walk_limit_falls m less z spot p g falls = when_less _ _ _ (taken_from _ _ _ _ _ (scaled_falls less z falls))
  where
    taken_from : (x y b o r : ℤ) → x ≤ℤ y → (x -ℤ b -ℤ o -ℤ r) ≤ℤ (y -ℤ b -ℤ o -ℤ r)
    taken_from x y b o r h = omega (arith, ints)

fixed_falls : (m : ModelParts) (less z : ℤ) (spot : Spot) (p : Proof) (d : NamedArc) → less ≤ℤ z → IsFixed m z spot p d → IsFixed m less spot p d
fixed_falls m less z spot p d falls fixed = (
  fixed.0,
  fixed.1,
  limit_falls (setting_of m spot p d.0) (table_at p.tables d.0).fore (table_at p.tables d.0).back (walk_limit m spot p less d.0) (walk_limit m spot p z d.0) d.1 (walk_limit_falls m less z spot p d.0 falls) fixed.2,
)

pub falls_law : NodeFallsLaw
falls_law m less z (AtPlace spot) (SplitAt split proof) falls node = node
falls_law m less z (AtPlace spot) (Close p) falls node = (node.0, closes_falls less z _ falls node.1)
falls_law m less z (AtPlace spot) (Fix p arcs) falls node = record { proof = node.proof; both = node.both; each = λ k d l. fixed_falls m less z spot p _ falls (node.each k d l) }
falls_law m less z (AtPlace spot) (ListWalks p trees) falls node = record {
  proof = node.proof;
  both = node.both;
  count = node.count;
  each = λ g l. complete_falls (setting_of m spot p g) (table_at p.tables g).back (walk_limit m spot p less g) (walk_limit m spot p z g) (tree_at trees g) (walk_limit_falls m less z spot p g falls) (node.each g l);
}
falls_law m less z (AtPlace spot) (CountSplit i d) falls node = node
falls_law m less z (AtPlace spot) (CountClose mult) falls node = node
falls_law m less z (AtPlace spot) Point falls node = node
falls_law m less z (AtCounts spot walks boxes) (CountSplit i d) falls node = node
falls_law m less z (AtCounts spot walks boxes) (CountClose mult) falls node =
    record { defined = node.defined; near = node.near; above = omega (arith, ints, scaled_falls less z falls, node.above) }
falls_law m less z (AtCounts spot walks boxes) Point falls node =
    record { points = node.points; not_below = λ solves. at_least less z _ falls (node.not_below solves) }
  where
    at_least : (x y c : ℤ) → x ≤ℤ y → y ≤ℤ c → x ≤ℤ c
    at_least x y c h k = omega (arith, ints)
falls_law m less z (AtCounts spot walks boxes) (SplitAt split proof) falls node = node
falls_law m less z (AtCounts spot walks boxes) (Close p) falls node = node
falls_law m less z (AtCounts spot walks boxes) (Fix p arcs) falls node = node
falls_law m less z (AtCounts spot walks boxes) (ListWalks p trees) falls node = node

pub tree_falls_law : TreeFallsLaw
tree_falls_law m less z items open_items nodes falls grows =
    grows_weaken (node_rules m z) (node_rules m less) (λ item node is. (falls_law m less z item node falls is, refl)) items open_items nodes grows
