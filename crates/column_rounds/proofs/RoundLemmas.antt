-- Lemmas on what is known between two rounds.
use Rattle.std.proofs.Common.{◌≡◌, ℤ, Option, List, length, sym, subst, ◌∙◌, ap}
use Rattle.std.specs.Prelude.{IfSome}
use Rattle.path_graph.specs.declared.set_bits.SetBits.{SetBits}
use Rattle.route_model.specs.declared.multipliers.Mult.{Mult}
use Rattle.route_model.specs.Parts.{ModelParts}
use Rattle.ng_sets.specs.Near.{FitsGraphs}
use Rattle.multipliers.specs.Ranges.{MultFits}
use Rattle.column_rounds.specs.declared.found.FoundPlan.{FoundPlan}
use Rattle.column_rounds.specs.declared.master.Master.{Master}
use Rattle.column_rounds.specs.declared.state.State.{State}
use Rattle.column_rounds.specs.Found.{IsPlanBelow}
use Rattle.column_rounds.specs.Masters.{IsMaster}
use Rattle.column_rounds.specs.Rounds.{IsState, IsStateFrom}

-- the state with the multipliers of a master and other near lists
pub state_after : (m : ModelParts) (old : State) (master : Master) (new : State) (near : List (List SetBits)) → IsState m old → IsMaster m master → FitsGraphs near m.graphs
    → new.near ≡ near → new.mult ≡ master.mult → new.values ≡ master.values → new.first ≡ old.first → new.best ≡ old.best → IsStateFrom m old.first new
state_after m old master new near state is fits near_is mult_is values_is first_is best_is = record {
  state = record {
    near = subst (λ (lists : List (List SetBits)). FitsGraphs lists m.graphs) (sym near_is) fits;
    mult = subst (MultFits m) (sym mult_is) is.mult;
    no_cuts = ap (λ (mult : Mult). mult.cuts) mult_is ∙ is.no_cuts;
    values = ap (λ (values : _). length values.items) values_is ∙ is.values;
    best = subst (λ (first : ℤ). IfSome new.best (IsPlanBelow m first)) (sym first_is) (subst (λ (best : Option FoundPlan). IfSome best (IsPlanBelow m old.first)) (sym best_is) state.best);
  };
  same = first_is;
}
