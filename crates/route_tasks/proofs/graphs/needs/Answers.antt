use Rattle.std.proofs.Common.{◌≡◌, ap, ◌∙◌, pos, ℕ, to_z, of_z, w32, rules}
use Rattle.route_tasks.specs.declared.task.Stop.{Stop}
use Rattle.route_tasks.specs.ModelOf.{stop_need}
use Rattle.route_tasks.proofs.GraphLemmas.{laid_is}
use Rattle.route_tasks.proofs.graphs.needs.Goals as goal

pub returns : goal.returns
returns c =
    let time : to_z w32 (of_z w32 c.time_of-time.result) ≡ c.time_of-time.result = search rules in
    let stops : to_z w32 (of_z w32 c.stops_at-stops.result) ≡ c.stops_at-stops.result = search rules in
    let load : to_z w32 (of_z w32 c.place-load.result.demand) ≡ c.place-load.result.demand = search rules in
    laid_is c.args.task.now c.args.shape _ _ _ (pos 0) _ _ _ c.laid_needs.result
    c.requires.of_task c.laid_needs.ensures (time ∙ c.time_of-time.ensures)
    (stops ∙ (c.stops_at-stops.ensures ∙ ap (λ (n : ℕ). stop_need n c.args.head) c.customer_count.ensures.count))
    (load ∙ ap (λ (s : Stop). s.demand) c.place-load.ensures.place)
