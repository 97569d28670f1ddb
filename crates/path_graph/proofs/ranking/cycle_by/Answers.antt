use Rattle.std.proofs.Common.{◌∙◌, ◌++◌, ◌∷◌, [], ℕ, List, reverse, ap, sym, subst}
use Rattle.path_graph.specs.Free.{IsFreeCycle}
use Rattle.path_graph.proofs.RankingLemmas.{back_below, closes_cycle}
use Rattle.path_graph.proofs.ranking.cycle_by.Goals as goal

pub part_from-part-requires : goal.part_from-part-requires
part_from-part-requires c = record { arcs = back_below c.args.arcs.now c.requires.path.0 c.args.path.now _ c.requires.path.1 }

pub returns : goal.returns
returns c =
    let part = c.part_from-part.result.now in
    let back = c.part_from-part.ensures c.requires.path.0 _ c.requires.path.1 c.requires.path.2 in
    let made = c.from_vec.ensures ∙ (c.in_ok-push.ensures.items ∙ ap (λ (xs : List ℕ). xs ++ c.args.arc ∷ []) (c.reverse.ensures.items ∙ ap (λ (xs : List ℕ). reverse xs) c.in_ok-cycle.ensures.items)) in
    subst (λ (xs : List ℕ). IsFreeCycle c.args.arcs.now xs) (sym made) (closes_cycle c.args.arcs.now part c.args.arc back c.requires.arc c.requires.free)
