-- What a step tells of: a node alone, or a tree over counts.
use Rattle.std.proofs.Common.{◌≡◌, ℕ, ◌≤◌, ℤ, None, List, [], ◌∷◌, Global, length, refl, sym, ap, subst, ◌∙◌, arith}
use Rattle.std.specs.declared.rc.Rc.{Rc}
use Rattle.std.specs.Prelude.{Err, IfOk, Ok, Result}
use Rattle.std.proofs.lemmas.List.{append-nil}
use Rattle.std.proofs.lemmas.List.Elements.{All-cons, All-nil, All-same}
use Rattle.path_graph.specs.declared.list.NoMemory.{NoMemory}
use Rattle.route_model.specs.declared.places.Span.{Span}
use Rattle.route_model.specs.declared.places.Spot.{Spot}
use Rattle.route_model.specs.Parts.{ModelParts}
use Rattle.made_nodes.specs.declared.node.MadeNode.{MadeNode}
use Rattle.made_nodes.specs.Made.{StaysOpen, made_children}
use Rattle.search_tree.specs.declared.growing.Grown.{Grown}
use Rattle.search_tree.specs.declared.places.Listing.{Listing}
use Rattle.search_tree.specs.declared.places.OpenPlace.{OpenPlace}
use Rattle.search_tree.specs.Grown.{IsGrownAt}
use Rattle.search_tree.specs.Places.{IsOpenIn, valued}
use Rattle.place_nodes.specs.Worked.{IsNodeOf, at_place}
use Rattle.search_steps.specs.declared.stepping.Stepped.{Stepped}
use Rattle.search_steps.specs.Steps.{IsStep}
use Rattle.search_steps.specs.Told.{IsSteppedAs}
use Rattle.search_steps.specs.Trees.{IsGrownBelow, IsOneNode, counts_at, listed_at, place_at}
use Rattle.search_steps.proofs.TreeLemmas.{below_grown, better_as, grows_as}

-- a node alone
pub one_grown : (m : ModelParts) (spot : Spot) (value z : ℤ) (budget : ℕ) (made : MadeNode) (opened : List OpenPlace) (g : Grown) → 1 ≤ budget → IsNodeOf m spot value z made opened → IsOneNode made opened z g
    → IsGrownAt m (place_at spot value) z budget g
one_grown m spot value z budget made opened g some at one = record {
  grows = grows_as m (at_place spot value ∷ []) z g.z (made ∷ []) g.nodes.items opened g.rest.items one.same one.nodes one.rest (at.stands, append-nil (made_children m (at_place spot value) made) ∙ sym at.opens);
  better = better_as m z None g.best z g.z one.best one.same refl;
  stay = λ none. All-same (StaysOpen z) g.nodes.items (made ∷ []) one.nodes (All-cons (StaysOpen z) made [] at.stays (All-nil (StaysOpen z)));
  fit = All-same (IsOpenIn m) g.rest.items opened one.rest at.fit;
  some = omega (arith, ap length one.nodes);
  few = omega (arith, ap length one.nodes, some);
}

-- what a step tells
pub tree_stepped : (m : ModelParts) (at : OpenPlace) (z : ℤ) (labels budget : ℕ) (tree : Result Grown NoMemory) (step : Stepped) → IfOk tree (IsGrownAt m at z budget) → IsSteppedAs tree step → IsStep m at z labels budget step
tree_stepped m at z labels budget (Ok g) step grown is = subst (IsStep m at z labels budget) (sym is) grown
tree_stepped m at z labels budget (Err e) step grown is = subst (IsStep m at z labels budget) (sym is) tt

pub node_stepped : (m : ModelParts) (spot : Spot) (value z y : ℤ) (labels budget : ℕ) (made : MadeNode) (opened : List OpenPlace) (tree : Result Grown NoMemory) (step : Stepped) → y ≡ z → 1 ≤ budget → IsNodeOf m spot value y made opened
    → IfOk tree (IsOneNode made opened y) → IsSteppedAs tree step → IsStep m (place_at spot value) z labels budget step
node_stepped m spot value z y labels budget made opened tree step same some at one told =
    subst (λ (x : ℤ). IsStep m (place_at spot value) x labels budget step) same (tree_stepped m (place_at spot value) y labels budget tree step (by tree one) told)
  where
    by : (t : Result Grown NoMemory) → IfOk t (IsOneNode made opened y) → IfOk t (IsGrownAt m (place_at spot value) y budget)
    by (Ok g) one = one_grown m spot value y budget made opened g some at one
    by (Err e) one = tt

pub counts_stepped : (m : ModelParts) (listing : Rc Listing Global) (boxes : List Span) (value v y z : ℤ) (labels budget : ℕ) (tree : Result Grown NoMemory) (step : Stepped) → v ≡ value → y ≡ z → 1 ≤ budget
    → IfOk tree (IsGrownBelow m (listed_at listing.value v boxes) y budget) → IsSteppedAs tree step → IsStep m (counts_at listing boxes value) z labels budget step
counts_stepped m listing boxes value v y z labels budget tree step same same_z some below told =
    let at : OpenPlace = counts_at listing boxes value in
    tree_stepped m at z labels budget tree step (by tree (subst (λ (x : ℤ). IfOk tree (IsGrownBelow m (valued at) x budget)) same_z (subst (λ (x : ℤ). IfOk tree (IsGrownBelow m (listed_at listing.value x boxes) y budget)) same below))) told
  where
    by : (t : Result Grown NoMemory) → IfOk t (IsGrownBelow m (valued (counts_at listing boxes value)) z budget) → IfOk t (IsGrownAt m (counts_at listing boxes value) z budget)
    by (Ok g) grown = below_grown m (counts_at listing boxes value) z budget g some grown
    by (Err e) grown = tt
