use Rattle.std.proofs.Common.{List, subst, sym, ◌∙◌, ap}
use Rattle.std.specs.List.{insert}
use Rattle.route_model.specs.declared.plan.Taken.{Taken}
use Rattle.route_model.specs.Parts.{plan_with}
use Rattle.route_model.specs.Tidy.{IsTidy}
use Rattle.route_model.proofs.TidyLemmas.{quantity-set, tidy-insert}
use Rattle.route_model.proofs.tidying.add_path.Goals as goal

pub returns-in-Ok-clause-adds : goal.returns-in-Ok-clause-adds
returns-in-Ok-clause-adds c =
    let there = rw c.as_slice.ensures.value at c.in-Ok.ensures in
    quantity-set c.args.paths.now.items c.in-Ok.place c.args.taken.now c.index_mut-path.result.now there.0 c.index_mut-path.ensures.value there.1

pub returns-in_ok-insert-in-Err-clause-tidy : goal.returns-in_ok-insert-in-Err-clause-tidy
returns-in_ok-insert-in-Err-clause-tidy c =
    let there = rw c.as_slice.ensures.value at c.in-Err.ensures in
    let plan = c.args.paths.now.items in
    let done = tidy-insert plan c.in-Err.place c.args.taken.now c.requires.tidy there.0 there.1 there.2 in
    let items = c.in_ok-insert-in-Err.ensures.items ∙ ap (insert plan c.in-Err.place) c.in_ok-copy-in-Err.ensures in
    subst (λ (xs : List Taken). IsTidy (plan_with xs)) (sym items) done
