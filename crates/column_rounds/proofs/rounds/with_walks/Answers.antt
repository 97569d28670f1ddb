use Rattle.column_rounds.proofs.RoundLemmas.{state_after}
use Rattle.column_rounds.proofs.rounds.with_walks.Goals as goal

pub returns-clause-step : goal.returns-clause-step
returns-clause-step c =
    c.step_of.ensures c.args.model.now c.args.state.first
    (state_after c.args.model.now c.args.state c.args.master c.with_master-state.result c.in_ok-near.near c.requires.state c.requires.master c.in_ok-near.ensures
    c.with_master-state.ensures.near c.with_master-state.ensures.mult c.with_master-state.ensures.values c.with_master-state.ensures.first c.with_master-state.ensures.best)
