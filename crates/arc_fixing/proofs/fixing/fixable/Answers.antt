use Rattle.std.proofs.Common.{◌≡◌, ◌<◌, ℤ, Option, None, List, [], All, length, sym, ◌∙◌, subst, arith, to_z, of_z}
use Rattle.std.specs.Int.{w64}
use Rattle.std.proofs.lemmas.List.{get_or_default}
use Rattle.label_rules.specs.declared.table.ProofTable.{ProofTable}
use Rattle.label_rules.specs.Labels.{Backward, Forward}
use Rattle.concatenate.specs.Fit.{MayJoin}
use Rattle.safe_bound.specs.Bounds.{limit_of}
use Rattle.safe_bound.specs.Promise.{LeastsFit}
use Rattle.arc_fixing.specs.Fixable.{Parts, limit_by, setting_by, table_by}
use Rattle.arc_fixing.proofs.FixingLemmas.{closed_may_join, graph_more, leasts_fit}
use Rattle.arc_fixing.proofs.fixing.fixable.Goals as goal

pub walk_limit-limit-requires-clause-leasts : goal.walk_limit-limit-requires-clause-leasts
walk_limit-limit-requires-clause-leasts c =
    let parts : Parts = record { spot = c.args.spot.now; priced = c.args.priced.now; near = c.args.near.now; cuts = c.args.cuts.now; y = c.args.y.now } in
    subst (λ (xs : List (Option ℤ)). LeastsFit c.args.spot.now.boxes.paths xs) (sym (c.as_slice.ensures ∙ c.in_ok-leasts.ensures)) (leasts_fit c.args.model.now parts c.args.tables.now c.requires.parts c.requires.tables)

pub push_fixable-requires-clause-fore : goal.push_fixable-requires-clause-fore
push_fixable-requires-clause-fore c =
    let parts : Parts = record { spot = c.args.spot.now; priced = c.args.priced.now; near = c.args.near.now; cuts = c.args.cuts.now; y = c.args.y.now } in
    let S = setting_by c.args.model.now parts c.loop-g.g in
    let tables = c.args.tables.now in
    let there : c.loop-g.g < length tables = c.loop-g-test.true in
    let graph : c.loop-g.g < length c.args.model.now.graphs = omega (arith, there, c.requires.tables.count) in
    let same = get_or_default tables c.loop-g.g (table_by [] 0) c.index-tables-g.result there ∙ sym c.index-tables-g.is in
    let whole = c.requires.tables.each c.loop-g.g graph in
    subst (λ (t : ProofTable). All (MayJoin S) t.fore) same (closed_may_join Forward S None (table_by tables c.loop-g.g).fore whole.fore whole.fore_near)

pub push_fixable-requires-clause-back : goal.push_fixable-requires-clause-back
push_fixable-requires-clause-back c =
    let parts : Parts = record { spot = c.args.spot.now; priced = c.args.priced.now; near = c.args.near.now; cuts = c.args.cuts.now; y = c.args.y.now } in
    let S = setting_by c.args.model.now parts c.loop-g.g in
    let tables = c.args.tables.now in
    let there : c.loop-g.g < length tables = c.loop-g-test.true in
    let graph : c.loop-g.g < length c.args.model.now.graphs = omega (arith, there, c.requires.tables.count) in
    let same = get_or_default tables c.loop-g.g (table_by [] 0) c.index-tables-g.result there ∙ sym c.index-tables-g.is in
    let whole = c.requires.tables.each c.loop-g.g graph in
    subst (λ (t : ProofTable). All (MayJoin S) t.back) same (closed_may_join Backward S None (table_by tables c.loop-g.g).back whole.back whole.back_near)

pub loop-g-preserved : goal.loop-g-preserved
loop-g-preserved c =
    let m = c.args.model.now in
    let parts : Parts = record { spot = c.args.spot.now; priced = c.args.priced.now; near = c.args.near.now; cuts = c.args.cuts.now; y = c.args.y.now } in
    let tables = c.args.tables.now in
    let g = c.loop-g.g in
    let z = to_z w64 (of_z w64 c.args.z) in
    let same = get_or_default tables g (table_by [] 0) c.index-tables-g.result c.loop-g-test.true ∙ sym c.index-tables-g.is in
    let leasts = c.as_slice.ensures ∙ c.in_ok-leasts.ensures in
    let paths = c.requires.parts.spot.boxes.paths in
    let limit : c.walk_limit-limit.result ≡ limit_by m parts tables z g =
    c.walk_limit-limit.ensures.limit ∙ (λ i. limit_of (paths i) c.args.spot.now.boxes.paths (leasts i) c.args.priced.now.base g z) in
    graph_more m parts tables z g c.index-tables-g.result c.walk_limit-limit.result same limit c.loop-g.arcs.items c.push_fixable.new.arcs.items c.loop-g.invariant c.in_ok-push_fixable.ensures
