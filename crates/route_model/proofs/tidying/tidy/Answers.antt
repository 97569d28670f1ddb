use Rattle.std.proofs.Common.{arith, ◌≡◌, ℕ, ◌<◌, ◌≤◌, ◌+◌, List, sym, subst, take, length, get_or, ap, ◌∙◌}
use Rattle.std.proofs.lemmas.List.{take_all}
use Rattle.route_model.specs.declared.plan.Taken.{Taken}
use Rattle.route_model.specs.Quantities.{quantity, is_of, paths_of}
use Rattle.route_model.specs.Parts.{taken_at, plan_with}
use Rattle.route_model.specs.Tidy.{Covers}
use Rattle.route_model.proofs.TidyLemmas.{few_more, come_more, sums_more, walks_kept, ComeBelow}
use Rattle.route_model.proofs.tidying.tidy.Goals as goal

pub add_path-requires-clause-few : goal.add_path-requires-clause-few
add_path-requires-clause-few c =
    let taken = c.taken-item.result in
    let plan = c.args.plan.now in
    let i = c.loop-taken.taken-index in
    let same = c.as_slice-taken-items.ensures in
    let below : i < length plan.paths = subst (λ (xs : List Taken). i < length xs) same c.loop-taken-test.true in
    let room = few_more plan i taken c.requires below (c.taken-item.is ∙ ap (λ (xs : List Taken). get_or xs i taken) same) in
    let sums : paths_of (plan_with c.loop-taken.paths.items) taken.graph ≡ paths_of (plan_with (take i plan.paths)) taken.graph = c.loop-taken.invariant.sums (is_of taken.graph) in
    subst (λ (n : ℕ). n + taken.count ≤ 4096) (sym sums) room

pub loop-taken-preserved : goal.loop-taken-preserved
loop-taken-preserved c =
    let taken = c.taken-item.result in
    let plan = c.args.plan.now in
    let i = c.loop-taken.taken-index in
    let same = c.as_slice-taken-items.ensures in
    let below : i < length plan.paths = subst (λ (xs : List Taken). i < length xs) same c.loop-taken-test.true in
    let is : taken ≡ get_or plan.paths i taken = c.taken-item.is ∙ ap (λ (xs : List Taken). get_or xs i taken) same in
    record {
      tidy = c.in_ok-add_path.ensures.tidy;
      sums = sums_more plan i taken (plan_with c.loop-taken.paths.items) (plan_with c.add_path.new.paths.items) below is c.loop-taken.invariant.sums c.in_ok-add_path.ensures.adds;
      walks = come_more plan i taken (plan_with c.loop-taken.paths.items) (plan_with c.add_path.new.paths.items) below is c.loop-taken.invariant.walks c.in_ok-add_path.ensures.walks;
    }

pub returns-clause-walks : goal.returns-clause-walks
returns-clause-walks c k below =
    let plan = c.args.plan.now in
    let done : ComeBelow plan c.loop-taken.taken-index (plan_with c.loop-taken.paths.items) = c.loop-taken.invariant.walks in
    let found = done k (subst (λ (xs : List Taken). k < length xs) c.from_vec.ensures below) in
    let short : found.0 < length plan.paths = omega (arith, found.1, c.loop-taken.auto.taken-index-end, ap (λ (xs : List Taken). length xs) c.as_slice-taken-items.ensures) in
    (found.0, short, subst (λ (xs : List Taken). Covers (taken_at plan.paths found.0) (taken_at xs k)) (sym c.from_vec.ensures) found.2)

pub returns-clause-kept : goal.returns-clause-kept
returns-clause-kept c =
    let plan = c.args.plan.now in
    let all : length plan.paths ≤ c.loop-taken.taken-index = omega (arith, c.loop-taken-test.false, ap (λ (xs : List Taken). length xs) c.as_slice-taken-items.ensures) in
    walks_kept plan _ (λ of_walk.
    ap (λ (xs : List Taken). quantity of_walk (plan_with xs)) c.from_vec.ensures
    ∙ (c.loop-taken.invariant.sums of_walk ∙ ap (λ (xs : List Taken). quantity of_walk (plan_with xs)) (take_all c.loop-taken.taken-index plan.paths all)))
