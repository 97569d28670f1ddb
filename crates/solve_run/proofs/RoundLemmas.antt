-- A round leaves a search with less to do.
use Rattle.std.proofs.Common.{◌≡◌, ◌≢◌, ℕ, ◌+◌, ◌<◌, ◌≤◌, ℤ, ◌≤ℤ◌, true, false, Option, None, Some, List, [], ◌∷◌, All, length, refl, ap, ◌∙◌, Vec, Global, arith}
use Rattle.std.specs.Prelude.{◌↔◌, Err, IfOk, Ok, Result}
use Rattle.std.proofs.lemmas.Int.{ints}
use Rattle.std.proofs.lemmas.List.Elements.{All-cons, All-nil}
use Rattle.route_model.specs.declared.plan.Plan.{Plan}
use Rattle.route_model.specs.Costs.{cost_above_all}
use Rattle.route_model.specs.Fit.{ModelFits}
use Rattle.route_model.specs.Parts.{ModelParts}
use Rattle.proof_rules.specs.OpenTrees.{Valued}
use Rattle.open_tree.specs.declared.slots.Slot.{Slot}
use Rattle.open_tree.specs.Open.{mades, opens}
use Rattle.open_tree.specs.Slots.{IsOpenAt}
use Rattle.open_tree.proofs.PlaceLaws.{open_among, open_some}
use Rattle.made_nodes.specs.declared.node.MadeNode.{MadeNode}
use Rattle.made_nodes.specs.Better.{IsBetter}
use Rattle.search_tree.specs.declared.growing.Grown.{Grown}
use Rattle.search_tree.specs.declared.places.OpenPlace.{OpenPlace}
use Rattle.search_tree.specs.declared.search.Search.{Search}
use Rattle.search_tree.specs.Grown.{IsGrownAt}
use Rattle.search_tree.specs.Places.{all_valued, valued}
use Rattle.search_tree.specs.Search.{IsSearch, made_in}
use Rattle.solve_run.specs.declared.outcome.Limits.{Limits}
use Rattle.solve_run.specs.declared.rounds.Next.{Next}
use Rattle.solve_run.specs.declared.rounds.Next.TheVariants.{Ends, Goes}
use Rattle.solve_run.specs.Rounds.{GoesOn, HasOpenAt, IsKept, IsRound, IsWithin}
use Rattle.solve_run.specs.Work.{work_left}
use Rattle.solve_run.proofs.WorkLemmas.{least_below, work_cheaper, work_more, work_tested}

-- a tree that was grown took an open place
grown_less : (m : ModelParts) (n : ℕ) (old new : Search) (found : Option Plan) (z : ℤ) → ModelFits m → IsSearch m new → new.z ≡ z → IsBetter m old.z found z → (found ≡ None → old.is_tested ≡ true → new.is_tested ≡ true)
    → made_in old < made_in new → made_in new ≤ n → work_left m n new < work_left m n old
grown_less m n old new None z fits search is better keeps more few = work_more m n old new (is ∙ better) (keeps refl) more few
grown_less m n old new (Some plan) z fits search is better keeps more few =
    let less = better.3 in
    work_cheaper m n old new (least_below m new.best new.z fits search.better) (omega (arith, ints, is))

pub grown_goes : (m : ModelParts) (limits : Limits) (old new : Search) (place : OpenPlace) (budget : ℕ) (g : Grown) → ModelFits m → made_in old + budget ≡ limits.nodes → IsGrownAt m place old.z budget g
    → IsSearch m new → made_in new ≡ made_in old + length g.nodes.items → new.z ≡ g.z → (new.is_tested ≡ true) ↔ ((old.is_tested ≡ true) × (g.best ≡ None)) → GoesOn m limits old new
grown_goes m limits old new place budget g fits room grown search count is tested =
    let few : made_in new ≤ limits.nodes = omega (arith, room, count, grown.few) in
    let more : made_in old < made_in new = omega (arith, count, grown.some) in
    record {
      within = record { search = search; few = few };
      less = grown_less m limits.nodes old new g.best g.z fits search is grown.better (λ none was. tested.1 (was, none)) more few;
    }

-- all nodes were tested
pub tested_goes : (m : ModelParts) (limits : Limits) (old new : Search) → IsWithin m limits old → old.is_tested ≡ false → IsSearch m new → new.is_tested ≡ true → made_in new ≤ made_in old → new.z ≡ old.z → GoesOn m limits old new
tested_goes m limits old new within before search after fewer same = record {
  within = record { search = search; few = omega (arith, fewer, within.few) };
  less = work_tested m limits.nodes old new same before after;
}

-- a better plan was found elsewhere
pub better_goes : (m : ModelParts) (limits : Limits) (old new : Search) (plan : Plan) (z : ℤ) → ModelFits m → IsWithin m limits old → IsSearch m new → IsBetter m old.z (Some plan) z → new.slots ≡ old.slots → new.z ≡ z → GoesOn m limits old new
better_goes m limits old new plan z fits within search better slots is =
    let less = better.3 in
    record {
      within = record { search = search; few = let same = ap (λ (s : Vec (Slot OpenPlace MadeNode) Global). length (mades s.items)) slots in omega (arith, same, within.few) };
      less = work_cheaper m limits.nodes old new (least_below m new.best new.z fits search.better) (omega (arith, ints, is));
    }

-- where one was found beside a place that gives way, the slots stay as they are
pub kept_same : (m : ModelParts) (limits : Limits) (s : Search) → IsWithin m limits s → IsKept m limits s s
kept_same m limits s within = record { within = within; slots = refl; most = omega arith }

pub kept_better : (m : ModelParts) (limits : Limits) (old new : Search) (plan : Plan) (z : ℤ) → ModelFits m → IsWithin m limits old → IsSearch m new → IsBetter m old.z (Some plan) z → new.slots ≡ old.slots → new.z ≡ z → IsKept m limits old new
kept_better m limits old new plan z fits within search better slots is =
    let goes = better_goes m limits old new plan z fits within search better slots is in
    let less = goes.less in
    record { within = goes.within; slots = slots; most = omega (arith, less) }

-- what comes of a round of the one is what comes of the other
pub round_from : (m : ModelParts) (limits : Limits) (old mid : Search) (next : Next) → work_left m limits.nodes mid ≤ work_left m limits.nodes old → IsRound m limits mid next → IsRound m limits old next
round_from m limits old mid (Goes new) most goes = let less = goes.less in record { within = goes.within; less = omega (arith, less, most) }
round_from m limits old mid (Ends outcome) most ending = ending

pub each_round_from : {E : Type 0} (m : ModelParts) (limits : Limits) (old mid : Search) (r : Result Next E) → work_left m limits.nodes mid ≤ work_left m limits.nodes old → IfOk r (IsRound m limits mid) → IfOk r (IsRound m limits old)
each_round_from m limits old mid (Ok next) most round = round_from m limits old mid next most round
each_round_from m limits old mid (Err e) most round = tt

-- a cost to beat is at most above all costs
pub most_cost : (m : ModelParts) (best : Option Plan) (z : ℤ) → IsBetter m (cost_above_all m) best z → z ≤ℤ cost_above_all m
most_cost m None z better = omega (arith, ints, better)
most_cost m (Some plan) z better = omega (arith, ints, better.3)

-- a place is open
pub some_open : (slots : List (Slot OpenPlace MadeNode)) (at : ℕ) → HasOpenAt slots at → opens slots ≢ []
some_open slots at has none =
    let some = open_some slots at has.0 has.1 in
    let empty = ap (λ (places : List OpenPlace). length places) none in
    omega (arith, some, empty)

-- an open place where the root alone is open is the root
all_root : (r : Valued) (places : List OpenPlace) → all_valued places ≡ r ∷ [] → All (λ (p : OpenPlace). valued p ≡ r) places
all_root r [] alone = All-nil (λ (p : OpenPlace). valued p ≡ r)
all_root r (p ∷ []) alone = let is : valued p ≡ r = cc in All-cons (λ (q : OpenPlace). valued q ≡ r) p [] is (All-nil (λ (q : OpenPlace). valued q ≡ r))
all_root r (p ∷ q ∷ places) alone = cc

pub open_root : (r : Valued) (slots : List (Slot OpenPlace MadeNode)) (at : ℕ) (place : OpenPlace) → all_valued (opens slots) ≡ r ∷ [] → IsOpenAt slots at place → valued place ≡ r
open_root r slots at place alone opened = open_among (λ (p : OpenPlace). valued p ≡ r) slots at place opened (all_root r (opens slots) alone)
