use Rattle.std.proofs.Common.{ℤ, refl, rules, subst, w64}
use Rattle.std.specs.List.{AllZip}
use Rattle.std.proofs.lemmas.Int.{to_z-of_z}
use Rattle.std.specs.Prelude.{Contains}
use Rattle.std.proofs.lemmas.List.Elements.{All-contains_itself}
use Rattle.route_model.specs.Fit.{ModelFits}
use Rattle.search_tree.specs.Retested.{IsRetested}
use Rattle.search_tree.specs.Search.{opens_in}
use Rattle.search_tree.proofs.RetestLemmas.{all_small, opens_kept, retest_tree, retests}
use Rattle.search_tree.proofs.retesting.retest.Goals as goal

pub prune-requires : goal.prune-requires
prune-requires c = all_small c.args.model.now _ c.args.search.slots.items c.in_ok-tested.tested.items c.in_ok-tested.ensures

pub returns-clause-search : goal.returns-clause-search
returns-clause-search c =
    let m = c.args.model.now in
    let s = c.args.search in
    let ts = c.in_ok-tested.tested.items in
    let fits = subst ModelFits c.model.view_is c.model.invariant.fits in
    let z = to_z-of_z w64 s.z (search rules) in
    let zip = subst (λ (y : ℤ). AllZip (IsRetested m y) s.slots.items ts) z c.in_ok-tested.ensures in
    retests m s _ ts fits c.requires zip c.in_ok-slots.ensures z refl

pub returns-clause-few : goal.returns-clause-few
returns-clause-few c =
    let m = c.args.model.now in
    let s = c.args.search in
    let ts = c.in_ok-tested.tested.items in
    let fits = subst ModelFits c.model.view_is c.model.invariant.fits in
    let z = to_z-of_z w64 s.z (search rules) in
    let zip = subst (λ (y : ℤ). AllZip (IsRetested m y) s.slots.items ts) z c.in_ok-tested.ensures in
    (retest_tree m s.z s.slots.items c.in_ok-slots.slots.items ts fits zip c.in_ok-slots.ensures c.requires.tree).1

pub returns-clause-places : goal.returns-clause-places
returns-clause-places c =
    let ts = c.in_ok-tested.tested.items in
    let before = opens_in c.args.search in
    opens_kept c.args.model.now (Contains before) _ c.args.search.slots.items c.in_ok-slots.slots.items ts c.in_ok-tested.ensures c.in_ok-slots.ensures (All-contains_itself before)
