use Rattle.std.proofs.Common.{◌+◌, length, subst}
use Rattle.std.proofs.lemmas.Option.{slice_get_within}
use Rattle.label_core.specs.Tables.{place}
use Rattle.label_core.specs.Steps.{Backs}
use Rattle.label_core.specs.Plays.{Decides}
use Rattle.label_core.proofs.Refusing.{held_within, ticket_few, held_known, claim_there, put_back_within, put_ends}
use Rattle.label_core.proofs.puts.put_entry.Goals as goal

pub put_at-requires-clause-cell : goal.put_at-requires-clause-cell
put_at-requires-clause-cell g c =
    let m = c.in-Some.ensures in
    held_within (g.S.Space.rules c.args.space.now) c.args.core c.requires.rule c.args.p m.0 m.3.holds.0 c.in-Some.spot.cell m.3.holds.2

pub put_at-requires-clause-few : goal.put_at-requires-clause-few
put_at-requires-clause-few g c =
    let m = c.in-Some.ensures in
    ticket_few (g.S.Space.rules c.args.space.now) c.args.core c.requires.rule c.args.p m.0 m.3.holds.0 c.in-Some.spot.cell m.3.holds.2 m.3.ticket c.requires.limit

pub put_at-requires-clause-label : goal.put_at-requires-clause-label
put_at-requires-clause-label g c =
    let m = c.in-Some.ensures in
    let law = g.met.S.Space.lawful c.args.space.now in
    law.extension_fits m.2.label (length m.1.fates + length c.args.fates.now) c.args.label.now
    (c.requires.rule.shape.worked.sound.at_home m.1.place m.2 m.3.parent).0 m.3.new.extends

pub put_at-requires-clause-each : goal.put_at-requires-clause-each
put_at-requires-clause-each g c = λ i d at. (c.requires.rule.shape.worked.sound.at_home (place c.in-Some.spot.cell i) d at).0

pub put_at-requires-clause-pass : goal.put_at-requires-clause-pass
put_at-requires-clause-pass g c = let m = c.in-Some.ensures in slice_get_within c.args.core.passes c.args.p m.0 m.3.holds.0

pub put_at-requires-clause-known : goal.put_at-requires-clause-known
put_at-requires-clause-known g c =
    let m = c.in-Some.ensures in
    held_known (g.S.Space.rules c.args.space.now) c.args.core c.requires.rule c.args.p m.0 m.3.holds.0 c.in-Some.spot.cell m.3.holds.1 m.3.holds.2

pub put_at-requires-clause-claim : goal.put_at-requires-clause-claim
put_at-requires-clause-claim g c =
    let m = c.in-Some.ensures in
    claim_there (g.S.Space.rules c.args.space.now) c.args.core c.requires.rule c.args.p m.0 m.3.holds.0 c.in-Some.spot.claim m.1 m.3.claim_at

pub give_back-requires : goal.give_back-requires
give_back-requires g c =
    let m = c.in-Some.ensures in
    record {
      holds = put_back_within (g.S.Space.rules c.args.space.now) c.args.core c.args.p c.in-Some.spot.cell m.0 c.in-Some.spot.claim m.1 m.2 c.args.q c.args.fates.now c.args.label.now m.3 m.4
          c.requires.rule c.in_ok-put.put (c.in_ok-put.ensures m.0 m.1 m.3.holds.0 m.3.claim_at);
    }

pub returns : goal.returns
returns g c =
    let r = g.S.Space.rules c.args.space.now in
    let m = c.in-Some.ensures in
    put_ends r c.args.core c.args.p c.in-Some.spot.cell m.0 c.in-Some.spot.claim m.1 m.2 c.args.q c.args.fates.now c.args.label.now m.3 m.4 c.give_back.result
    (subst (λ z. Decides (λ y. Backs z c.args.p y) c.give_back.result) (c.in_ok-put.ensures m.0 m.1 m.3.holds.0 m.3.claim_at) c.give_back.ensures)
