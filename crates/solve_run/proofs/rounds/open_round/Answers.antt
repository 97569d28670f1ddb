use Rattle.std.proofs.Common.{◌≡◌, true, List, length, ap, ◌∙◌, arith, rules}
use Rattle.open_tree.specs.declared.slots.Slot.{Slot}
use Rattle.open_tree.specs.Open.{mades}
use Rattle.made_nodes.specs.declared.node.MadeNode.{MadeNode}
use Rattle.search_tree.specs.declared.places.OpenPlace.{OpenPlace}
use Rattle.search_tree.specs.Search.{made_in, slots_in}
use Rattle.solve_run.proofs.RoundLemmas.{some_open}
use Rattle.solve_run.proofs.rounds.open_round.Goals as goal

-- src/rounds.rt:163:5
pub plain_round-requires-clause-search : goal.plain_round-requires-clause-search
plain_round-requires-clause-search c =
    let s = c.args.search in
    let slots : c.as_slice.result.now ≡ slots_in s = c.as_slice.ensures.value in
    let count : c.made_count-made.result ≡ made_in s = c.made_count-made.ensures ∙ ap (λ (them : List (Slot OpenPlace MadeNode)). length (mades them)) slots in
    let most = c.if-made-most.false in
    let full : made_in s ≡ c.args.limits.now.nodes = omega (arith, count, most, c.requires.search.few) in
    let tested : s.is_tested ≡ true = search rules in
    record {
      within = c.requires.search;
      made = full;
      tested = tested;
      some_open = some_open (slots_in s) c.args.at c.requires.place;
    }
