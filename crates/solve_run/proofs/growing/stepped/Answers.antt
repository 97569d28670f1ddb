use Rattle.std.proofs.Common.{subst}
use Rattle.route_model.specs.Fit.{IsModel}
use Rattle.route_model.specs.Parts.{ModelParts}
use Rattle.search_tree.specs.Search.{slots_in}
use Rattle.solve_run.proofs.RoundLemmas.{grown_goes, some_open}
use Rattle.solve_run.proofs.growing.stepped.Goals as goal

pub label_limit-requires-clause-some_open : goal.label_limit-requires-clause-some_open
label_limit-requires-clause-some_open c = some_open (slots_in c.args.search) c.args.at (c.requires.step.place, c.requires.step.is_open)

pub returns-in_ok-give_way-in-Grown : goal.returns-in_ok-give_way-in-Grown
returns-in_ok-give_way-in-Grown c =
    let m = c.args.model.now in
    let s = c.args.search in
    let place = c.requires.step.place in
    let opened = c.requires.step.is_open in
    let grown = c.in-Grown.grown in
    let new = c.in_ok-give_way-in-Grown.field-0 in
    let is = c.in_ok-give_way-in-Grown.ensures in
    let model = subst (λ (p : ModelParts). IsModel p) c.model.view_is c.model.invariant in
    let grows = rw c.in-Grown.is at c.requires.step.comes in
    grown_goes m c.args.limits.now s new place c.args.budget grown model.fits c.requires.budget.1 grows
    (is.search m place c.args.budget model.fits c.requires.search.search opened grows)
    (is.count place opened) is.cost is.tested

pub returns-in-Wall : goal.returns-in-Wall
returns-in-Wall c = let wall = rw c.in-Wall.is at c.requires.step.comes in c.label_limit.ensures c.args.limits.now wall
