-- What made nodes are in the words of the rules.
use Rattle.std.proofs.Common.{◌≡◌, ℤ, pos, ◌-ℤ◌, ◌≤ℤ◌, Option, None, Some, length, refl, sym, subst, arith}
use Rattle.std.proofs.lemmas.Int.{by_lt_z, ints}
use lib.Signed.{◌<ℤ◌}
use Rattle.route_model.specs.Fit.{ModelFits}
use Rattle.route_model.specs.Parts.{ModelParts}
use Rattle.multipliers.specs.Quantities.{scaled}
use Rattle.proof_rules.specs.Grows.{HoldsForEach}
use Rattle.proof_rules.specs.Nodes.{AtCounts, AtPlace, IsNode, Item, children_of}
use Rattle.proof_rules.specs.NodeWalls.{Stays}
use Rattle.proof_rules.specs.OpenTrees.{Valued, ValuedFits}
use Rattle.proof_rules.specs.Proofs.{ClosesAgainst, bound_at}
use Rattle.proof_rules.proofs.FallLemmas.{falls_law}
use Rattle.certificate.specs.declared.cert.NodeForm.{NodeForm}
use Rattle.certificate.specs.declared.cert.NodeForm.TheVariants as node
use Rattle.cert_rules.specs.Meaning.{node_of, proof_of}
use Rattle.cert_check.specs.Faults.{Stands}
use Rattle.cert_check.specs.Reads.{ItemFits}
use Rattle.cert_check.proofs.FitLemmas.{children_fit}
use Rattle.cert_check.proofs.NodeLemmas.{stands_from}
use Rattle.made_nodes.specs.declared.node.MadeNode.{MadeNode}
use Rattle.made_nodes.specs.Made.{Drops, HasBound, IsMade, StaysOpen, child_count}

pub made_node : (m : ModelParts) (z : ℤ) (i : Valued) (made : MadeNode) → IsMade m z i.item made → ValuedFits m z i (node_of m made.form)
made_node m z i made is = record { is_node = is.is_node; has_proof = is.has_proof }

pub made_form : (m : ModelParts) (z : ℤ) (item : Item) (made : MadeNode) → IsMade m z item made → Stands m z item made.form
made_form m z item made is = stands_from m z item made.form is.is_node is.named

pub made_children_fit : (m : ModelParts) (z : ℤ) (item : Item) (made : MadeNode) → ModelFits m → ItemFits m item → IsMade m z item made
    → HoldsForEach (ItemFits m) (children_of m item (node_of m made.form))
made_children_fit m z item made fits item_fits is = children_fit m z item made.form fits is.told item_fits (made_form m z item made is)

pub made_falls : (m : ModelParts) (less z : ℤ) (item : Item) (made : MadeNode) → less ≤ℤ z → IsMade m z item made → IsMade m less item made
made_falls m less z item made falls is = record {
  is_node = falls_law m less z item (node_of m made.form) falls is.is_node;
  has_proof = is.has_proof;
  bound = is.bound;
  drops = is.drops;
  named = is.named;
  told = is.told;
  proof_told = is.proof_told;
}

-- as many items as the form says
items_are : (m : ModelParts) (z : ℤ) (item : Item) (form : NodeForm) → IsNode m z item (node_of m form) → length (children_of m item (node_of m form)) ≡ child_count form
items_are m z (AtPlace spot) (node.Split split None) is = refl
items_are m z (AtPlace spot) (node.Split split (Some p)) is = refl
items_are m z (AtPlace spot) (node.Close p) is = refl
items_are m z (AtPlace spot) (node.Fix p arcs) is = refl
items_are m z (AtPlace spot) (node.List p tries) is = refl
items_are m z (AtPlace spot) (node.CountSplit i d) is = absurd is
items_are m z (AtPlace spot) (node.CountClose mult) is = absurd is
items_are m z (AtPlace spot) node.Point is = absurd is
items_are m z (AtCounts spot walks boxes) (node.Split split None) is = absurd is
items_are m z (AtCounts spot walks boxes) (node.Split split (Some p)) is = absurd is
items_are m z (AtCounts spot walks boxes) (node.Close p) is = absurd is
items_are m z (AtCounts spot walks boxes) (node.Fix p arcs) is = absurd is
items_are m z (AtCounts spot walks boxes) (node.List p tries) is = absurd is
items_are m z (AtCounts spot walks boxes) (node.CountSplit i d) is = refl
items_are m z (AtCounts spot walks boxes) (node.CountClose mult) is = refl
items_are m z (AtCounts spot walks boxes) node.Point is = refl

pub child_count_is : (m : ModelParts) (z : ℤ) (item : Item) (made : MadeNode) → IsMade m z item made → length (children_of m item (node_of m made.form)) ≡ child_count made.form
child_count_is m z item made is = items_are m z item made.form is.is_node

pub not_at_most : (x y : ℤ) → ¬ (x ≤ℤ y) → y <ℤ x
not_at_most x y above = by_lt_z y x (λ more. more) (λ less. absurd (above less))

-- a bound closes against z exactly where it is above 65,536 × (z - 1)
pub closes_against : (z b : ℤ) (bound : Option ℤ) → bound ≡ Some b → ¬ (b ≤ℤ scaled (z -ℤ pos 1)) → ClosesAgainst z bound
closes_against z b bound is above = subst (ClosesAgainst z) (sym is) (not_at_most b (scaled (z -ℤ pos 1)) above)

leaves_open : (z b : ℤ) (bound : Option ℤ) → bound ≡ Some b → b ≤ℤ scaled (z -ℤ pos 1) → ¬ (ClosesAgainst z bound)
leaves_open z b bound is below closes = let above = subst (ClosesAgainst z) is closes in omega (arith, ints, above)

-- a node whose bound leaves its item open was needed
stays_as : (m : ModelParts) (z : ℤ) (item : Item) (form : NodeForm) (b : ℤ) → HasBound m item form b → Drops m item form → StaysOpen z (record { form = form; bound = b })
    → Stays m z item (node_of m form)
stays_as m z (AtPlace spot) (node.Split split None) b has drops below = has
stays_as m z (AtPlace spot) (node.Split split (Some p)) b has drops below = leaves_open z b (bound_at m spot (proof_of m p)) has below
stays_as m z (AtPlace spot) (node.Close p) b has drops below = tt
stays_as m z (AtPlace spot) (node.Fix p arcs) b has drops below = (drops, leaves_open z b (bound_at m spot (proof_of m p)) has below)
stays_as m z (AtPlace spot) (node.List p tries) b has drops below = tt
stays_as m z (AtPlace spot) (node.CountSplit i d) b has drops below = tt
stays_as m z (AtPlace spot) (node.CountClose mult) b has drops below = tt
stays_as m z (AtPlace spot) node.Point b has drops below = tt
stays_as m z (AtCounts spot walks boxes) (node.Split split None) b has drops below = tt
stays_as m z (AtCounts spot walks boxes) (node.Split split (Some p)) b has drops below = tt
stays_as m z (AtCounts spot walks boxes) (node.Close p) b has drops below = tt
stays_as m z (AtCounts spot walks boxes) (node.Fix p arcs) b has drops below = tt
stays_as m z (AtCounts spot walks boxes) (node.List p tries) b has drops below = tt
stays_as m z (AtCounts spot walks boxes) (node.CountSplit i d) b has drops below = not_above _ _ _ has below
  where
    not_above : (y x sum : ℤ) → x ≡ sum → x ≤ℤ y → ¬ (y <ℤ sum)
    not_above y x sum is at_most above = omega (arith, ints, is, at_most, above)
stays_as m z (AtCounts spot walks boxes) (node.CountClose mult) b has drops below = tt
stays_as m z (AtCounts spot walks boxes) node.Point b has drops below = tt

pub made_stays : (m : ModelParts) (z : ℤ) (item : Item) (made : MadeNode) → IsMade m z item made → StaysOpen z made → Stays m z item (node_of m made.form)
made_stays m z item made is below = stays_as m z item made.form made.bound is.bound is.drops below
