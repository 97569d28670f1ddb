-- A search begins, finds a better plan, and grows.
use Rattle.std.proofs.Common.{◌≡◌, ◌≤ℤ◌, ℕ, ℤ, ◌+◌, true, false, Option, None, Some, List, [], ◌∷◌, ◌++◌, All, length, take, drop, reverse, refl, sym, ap, subst, ◌∙◌, arith}
use Rattle.std.specs.Option.{option_or}
use Rattle.std.proofs.lemmas.Int.{ints}
use Rattle.std.proofs.lemmas.List.Elements.{All-nil}
use Rattle.route_model.specs.declared.plan.Plan.{Plan}
use Rattle.route_model.specs.Costs.{cost_above_all}
use Rattle.route_model.specs.Parts.{ModelParts}
use Rattle.proof_rules.specs.Grows.{Grows}
use Rattle.proof_rules.specs.OpenTrees.{Valued, valued_root}
use Rattle.open_tree.specs.Open.{mades, opens, slots_of, with_open}
use Rattle.open_tree.specs.Slots.{IsOpenAt}
use Rattle.open_tree.specs.declared.slots.Slot.{Slot}
use Rattle.open_tree.specs.declared.slots.Slot.TheVariants.{Open}
use Rattle.open_tree.proofs.PlaceLaws.{see_open_at}
use Rattle.open_tree.proofs.TreeLaws.{put_law, weaken_law}
use Rattle.made_nodes.specs.declared.node.MadeNode.{MadeNode}
use Rattle.made_nodes.specs.Better.{IsBetter}
use Rattle.made_nodes.specs.Made.{StaysOpen, made_rules}
use Rattle.made_nodes.proofs.MadeLemmas.{made_falls}
use Rattle.search_tree.specs.declared.growing.Grown.{Grown}
use Rattle.search_tree.specs.declared.places.OpenPlace.{OpenPlace}
use Rattle.search_tree.specs.declared.search.Search.{Search}
use Rattle.search_tree.specs.Grown.{IsGrownAt}
use Rattle.search_tree.specs.Places.{IsOpenIn, all_valued, valued}
use Rattle.search_tree.specs.Search.{IsSearch, seen, slots_in}
use Rattle.search_tree.proofs.GrowthLemmas.{all_one, all_reverse}
use Rattle.search_tree.proofs.SeenLemmas.{mades_after, mades_count, opens_after, seen_put}

pub begins : (m : ModelParts) (s : Search) (p : OpenPlace) → slots_in s ≡ Open p ∷ [] → valued p ≡ valued_root m → IsOpenIn m p
    → s.z ≡ cost_above_all m → s.best ≡ None → IsSearch m s
begins m s p slots root fits z none = record {
  tree = subst (λ (xs : List (Slot OpenPlace MadeNode)). Grows (with_open (made_rules m s.z)) (valued_root m ∷ []) (seen xs) []) (sym slots) (sym root, refl);
  better = subst (λ (b : Option Plan). IsBetter m (cost_above_all m) b s.z) (sym none) z;
  fit = subst (λ (xs : List (Slot OpenPlace MadeNode)). All (IsOpenIn m) (opens xs)) (sym slots) (all_one (IsOpenIn m) p fits);
  tested = λ t. subst (λ (xs : List (Slot OpenPlace MadeNode)). All (StaysOpen s.z) (mades xs)) (sym slots) (All-nil (StaysOpen s.z));
}

-- ---- the cost to beat falls
pub better_most : (m : ModelParts) (z less : ℤ) (best : Option Plan) → IsBetter m z best less → less ≤ℤ z
better_most m z less None is = omega (arith, ints, is)
better_most m z less (Some plan) is = let below = is.3 in omega (arith, ints, below)

pub better_through : (m : ModelParts) (above z less : ℤ) (old new : Option Plan) → IsBetter m above old z → IsBetter m z new less
    → IsBetter m above (option_or new old) less
better_through m above z less old None was is = subst (λ (y : ℤ). IsBetter m above old y) (sym is) was
better_through m above z less old (Some plan) was is =
    let most = better_most m above z old was in
    let below = is.3 in
    (is.0, is.1, is.2, omega (arith, ints, most, below))

pub tree_falls : (m : ModelParts) (less z : ℤ) (top : List Valued) (slots : List (Slot Valued MadeNode)) → less ≤ℤ z
    → Grows (with_open (made_rules m z)) top slots [] → Grows (with_open (made_rules m less)) top slots []
tree_falls m less z top slots falls tree =
    weaken_law (made_rules m z) (made_rules m less) (λ i n is. (made_falls m less z i.item n falls is, refl)) top slots tree

-- a better plan
pub betters : (m : ModelParts) (s new : Search) (plan : Plan) (z : ℤ) → IsSearch m s → IsBetter m s.z (Some plan) z
    → slots_in new ≡ slots_in s → new.z ≡ z → new.best ≡ Some plan → new.is_tested ≡ false → IsSearch m new
betters m s new plan z is found slots same best untested =
    let better = subst (λ (y : ℤ). IsBetter m s.z (Some plan) y) (sym same) found in
    record {
      tree = subst (λ (xs : List (Slot OpenPlace MadeNode)). Grows (with_open (made_rules m new.z)) (valued_root m ∷ []) (seen xs) []) (sym slots)
          (tree_falls m new.z s.z (valued_root m ∷ []) (seen (slots_in s)) (better_most m s.z new.z (Some plan) better) is.tree);
      better = subst (λ (b : Option Plan). IsBetter m (cost_above_all m) b new.z) (sym best)
          (better_through m (cost_above_all m) s.z new.z s.best (Some plan) is.better better);
      fit = subst (λ (xs : List (Slot OpenPlace MadeNode)). All (IsOpenIn m) (opens xs)) (sym slots) is.fit;
      tested = λ t. cc;
    }

-- ---- an open place gives way
module _ (m : ModelParts) (s : Search) (at : ℕ) (place : OpenPlace) (budget : ℕ) (g : Grown) (is : IsSearch m s) (opened : IsOpenAt (slots_in s) at place) (grown : IsGrownAt m place s.z budget g) where
  abbrev rest : List OpenPlace
  rest = reverse g.rest.items

  abbrev after : List (Slot OpenPlace MadeNode)
  after = take at (slots_in s) ++ (slots_of g.nodes.items rest ++ drop (at + 1) (slots_in s))

  tree_after : Grows (with_open (made_rules m g.z)) (valued_root m ∷ []) (seen after) []
  tree_after =
      let r = made_rules m g.z in
      let slots = seen (slots_in s) in
      let fallen = tree_falls m g.z s.z (valued_root m ∷ []) slots (better_most m s.z g.z g.best grown.better) is.tree in
      let there = see_open_at valued (λ (n : MadeNode). n) (slots_in s) at place opened in
      let parts = subst (λ (xs : List (Slot Valued MadeNode)). Grows (with_open r) (valued_root m ∷ []) xs []) there.slot fallen in
      let put = put_law r (valued_root m ∷ []) (take at slots) (drop (at + 1) slots) (valued place) g.nodes.items (all_valued rest) parts grown.grows in
      subst (λ (xs : List (Slot Valued MadeNode)). Grows (with_open r) (valued_root m ∷ []) xs []) (sym (seen_put (slots_in s) at g.nodes.items rest)) put

  tested_after : g.best ≡ None → s.is_tested ≡ true → All (StaysOpen g.z) (mades after)
  tested_after none tested =
      let same : g.z ≡ s.z = subst (λ (b : Option Plan). IsBetter m s.z b g.z) none grown.better in
      subst (λ (z : ℤ). All (StaysOpen z) (mades after)) (sym same)
      (mades_after (slots_in s) at place opened g.nodes.items rest (StaysOpen s.z) (is.tested tested) (grown.stay none))

  pub gives_way : (new : Search) → slots_in new ≡ after → new.z ≡ g.z → new.best ≡ option_or g.best s.best
      → (new.is_tested ≡ true → (s.is_tested ≡ true) × (g.best ≡ None)) → IsSearch m new
  gives_way new slots z best tested = record {
    tree = subst (λ (y : ℤ). Grows (with_open (made_rules m y)) (valued_root m ∷ []) (seen (slots_in new)) []) (sym z)
        (subst (λ (xs : List (Slot OpenPlace MadeNode)). Grows (with_open (made_rules m g.z)) (valued_root m ∷ []) (seen xs) []) (sym slots) tree_after);
    better = subst (λ (y : ℤ). IsBetter m (cost_above_all m) new.best y) (sym z)
        (subst (λ (b : Option Plan). IsBetter m (cost_above_all m) b g.z) (sym best)
        (better_through m (cost_above_all m) s.z g.z s.best g.best is.better grown.better));
    fit = subst (λ (xs : List (Slot OpenPlace MadeNode)). All (IsOpenIn m) (opens xs)) (sym slots)
        (opens_after (slots_in s) at place opened g.nodes.items rest (IsOpenIn m) is.fit (all_reverse (IsOpenIn m) g.rest.items grown.fit));
    tested = λ t. let was = tested t in
        subst (λ (y : ℤ). All (StaysOpen y) (mades (slots_in new))) (sym z)
        (subst (λ (xs : List (Slot OpenPlace MadeNode)). All (StaysOpen g.z) (mades xs)) (sym slots) (tested_after was.1 was.0));
  }

pub put_count : (olds news : List (Slot OpenPlace MadeNode)) (at : ℕ) (place : OpenPlace) (nodes : List MadeNode) (left : List OpenPlace)
    → IsOpenAt olds at place → news ≡ take at olds ++ (slots_of nodes left ++ drop (at + 1) olds)
    → length (mades news) ≡ length (mades olds) + length nodes
put_count olds news at place nodes left opened is =
    ap (λ (xs : List (Slot OpenPlace MadeNode)). length (mades xs)) is ∙ mades_count olds at place opened nodes left
