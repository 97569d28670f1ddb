use Rattle.std.proofs.Common.{◌≡◌, List, sym, ◌∙◌, subst}
use Rattle.std.specs.Prelude.{IfOk}
use Rattle.vrp_demo.specs.declared.stops.Stop.{Stop}
use Rattle.vrp_demo.specs.Stops.{stops}
use Rattle.vrp_demo.specs.Generated.{model_over, generated}
use Rattle.vrp_demo.specs.Sound.{AreStops}
use Rattle.vrp_demo.proofs.StopLemmas.{are_stops}
use Rattle.vrp_demo.proofs.generator.make_model.Goals as goal

pub model_over-requires-clause-stops : goal.model_over-requires-clause-stops
model_over-requires-clause-stops c =
    let seed = c.args.seed in
    let size = c.args.size in
    let them : c.as_slice.result.now ≡ stops seed size = c.as_slice.ensures ∙ c.in_ok-stops.ensures in
    subst (AreStops size) (sym them) (are_stops seed size)

pub returns : goal.returns
unfolding generated
returns c =
    let them : c.as_slice.result.now ≡ stops c.args.seed c.args.size = c.as_slice.ensures ∙ c.in_ok-stops.ensures in
    subst (λ (s : List Stop). IfOk c.model_over.result (λ model. model ≡ model_over c.args.size s)) them c.model_over.ensures
