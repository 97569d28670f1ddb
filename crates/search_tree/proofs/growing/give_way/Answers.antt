use Rattle.std.proofs.Common.{◌≡◌, Bool, true, false, Option, None, Some, reverse, rules, w64}
use Rattle.std.specs.Prelude.{is_some, not}
use Rattle.std.proofs.lemmas.Int.{to_z-of_z}
use Rattle.search_tree.proofs.SearchLemmas.{gives_way, put_count}
use Rattle.search_tree.proofs.growing.give_way.Goals as goal
use Rattle.search_tree.proofs.growing.give_way.Goals.{else-search, then-search}

is_none_so : {X : Type 0} (o : Option X) (b r : Bool) → is_some o ≡ not r → b ≡ r → b ≡ true → o ≡ None
is_none_so None b r is same so = search rules
is_none_so (Some x) b true is same so = cc
is_none_so (Some x) b false is same so = cc

pub returns-clause-search : goal.returns-clause-search
returns-clause-search c m place budget fits is opened grown =
    let tested : (c.if-search.is_tested ≡ true) → (c.args.search.is_tested ≡ true) × (c.args.grown.best ≡ None) = λ so. elim c.if-search.branch [
      | then-search w ↦ (w.if-search.true, is_none_so c.args.grown.best c.if-search.is_tested w.is_none-is_tested.result w.is_none-is_tested.ensures w.is_tested-is so)
      | else-search w ↦ let no_test = w.is_tested-is in cc
    ] in
    gives_way m c.args.search c.args.at place budget c.args.grown is opened grown _ c.in_ok-slots.ensures
    (to_z-of_z w64 c.args.grown.z (search rules)) c.or-best.ensures tested

pub returns-clause-count : goal.returns-clause-count
returns-clause-count c place opened =
    put_count c.args.search.slots.items c.in_ok-slots.slots.items c.args.at place c.args.grown.nodes.items (reverse c.args.grown.rest.items) opened c.in_ok-slots.ensures
