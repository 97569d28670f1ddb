use Rattle.std.proofs.Common.{◌≡◌, [], All, List, length, ap, subst, arith}
use Rattle.std.specs.Vec.Iter.{into_iter_items}
use Rattle.std.proofs.lemmas.List.{nil_from_length}
use Rattle.std.proofs.lemmas.List.Elements.{All-head, All-tail}
use Rattle.open_tree.specs.Slots.{IsSmall}
use Rattle.open_tree.specs.declared.pruning.Tested.{Tested}
use Rattle.open_tree.proofs.SlotLemmas.{prune_next, prune_ends}
use Rattle.open_tree.proofs.pruning.prune.Goals as goal

pub keep_tested-requires : goal.keep_tested-requires
keep_tested-requires g c =
    let next = c.in-Some.ensures.steps.0 in
    let long = ap (λ (ts : List (Tested g.row.I.Denot g.row.N.Denot)). length ts) next in
    let small = subst (λ (ts : List (Tested g.row.I.Denot g.row.N.Denot)). All IsSmall ts) next c.loop-one.invariant.small in
    record {
      small = All-head IsSmall c.in-Some.one (into_iter_items c.next.new.self) small;
      room = omega (arith, long, c.loop-one.invariant.room, c.args.tested.ok.0, c.args.tested.ok.1, c.args.tested.small);
    }

pub loop-one-preserved : goal.loop-one-preserved
loop-one-preserved g c =
    let ahead = into_iter_items c.next.new.self in
    let next = c.in-Some.ensures.steps.0 in
    let long = ap (λ (ts : List (Tested g.row.I.Denot g.row.N.Denot)). length ts) next in
    let small = subst (λ (ts : List (Tested g.row.I.Denot g.row.N.Denot)). All IsSmall ts) next c.loop-one.invariant.small in
    record {
      small = All-tail IsSmall c.in-Some.one ahead small;
      stays = prune_next c.args.tested.items (into_iter_items c.loop-one.one-iterator) ahead c.in-Some.one
          c.loop-one.kept.items c.keep_tested.new.kept.items c.loop-one.skip c.in_ok-skip.skip
          c.loop-one.invariant.stays next c.in_ok-skip.ensures.stays;
      room = omega (arith, long, c.loop-one.invariant.room, c.in_ok-skip.ensures.small);
    }

pub returns : goal.returns
returns g c =
    let none : into_iter_items c.loop-one.one-iterator ≡ [] =
    nil_from_length (into_iter_items c.loop-one.one-iterator) (omega (arith, c.in-None.ensures.steps.0, c.loop-one.one-iterator.rest.ok.0)) in
    prune_ends c.args.tested.items (into_iter_items c.loop-one.one-iterator) c.loop-one.kept.items c.loop-one.skip
    c.loop-one.invariant.stays none
