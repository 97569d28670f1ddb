use Rattle.std.proofs.Common.{◌<◌, [], subst, sym, ◌∙◌}
use Rattle.std.proofs.lemmas.List.Elements.{All-get_or}
use Rattle.route_labels.specs.Meaning.{setting_of}
use Rattle.pricing.specs.JoinedWalks.{MayAllJoin}
use Rattle.pricing.proofs.join_ranks.cheapest_join.Goals as goal

pub cheapest_over-requires-clause-rests : goal.cheapest_over-requires-clause-rests
cheapest_over-requires-clause-rests c =
    let S = setting_of c.args.field.now in
    subst (MayAllJoin S) (c.at.ensures [] ∙ sym c.as_slice-rests.ensures)
    (All-get_or (MayAllJoin S) c.args.back.now.cells c.arc-head.result.head [] (subst (λ (n : _). c.arc-head.result.head < n) c.len.ensures c.if-head-len.true) c.requires.back)
