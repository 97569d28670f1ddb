use Rattle.std.proofs.Common.{◌≡◌, ℕ, List, take}
use Rattle.route_model.specs.Parts.{plan_with}
use Rattle.route_model.specs.Quantities.{quantity}
use Rattle.route_model.specs.Tidy.{IsTidy}
use Rattle.route_model.proofs.TidyLemmas.{ComeBelow}
use Rattle.route_model.proofs.tidying.tidy.Given as goal

abbrev pub invariant-loop-taken : goal.invariant-loop-taken
invariant-loop-taken l =
    record {
      tidy : IsTidy (plan_with l.paths.items);
      sums : (of_walk : ℕ → List ℕ → ℕ) → quantity of_walk (plan_with l.paths.items) ≡ quantity of_walk (plan_with (take l.taken-index l.plan.paths));
      walks : ComeBelow l.plan l.taken-index (plan_with l.paths.items);
    }
