use Rattle.std.proofs.Common.{true, inr, refl, w64, rules}
use Rattle.std.proofs.lemmas.Int.{to_z-of_z}
use Rattle.cert_check.proofs.NameLemmas.{all_listed, named_size, none_listed}
use Rattle.cert_check.proofs.ProvedLemmas.{list_error, proved_by}
use Rattle.cert_check.proofs.list.list_walks.Goals as goal

pub returns-in-Err : goal.returns-in-Err
returns-in-Err c = list_error c.args.model.now c.args.z c.args.spot.now c.args.proof.now c.args.tries.now c.in-Err.error c.in-Err.ensures

pub all_walks-requires-clause-proved : goal.all_walks-requires-clause-proved
all_walks-requires-clause-proved c = proved_by _ true c.requires.fits c.requires.told c.in-Ok.ensures

pub all_walks-requires-clause-both : goal.all_walks-requires-clause-both
all_walks-requires-clause-both c = c.in-Ok.ensures.sound.both refl

pub all_walks-requires-clause-count : goal.all_walks-requires-clause-count
all_walks-requires-clause-count c = named_size c.args.model.now c.args.tries.now (c.are_named.ensures.0 c.if-not-are_named.false)

pub returns-in-Ok-None : goal.returns-in-Ok-None
returns-in-Ok-None c =
    let none = rw c.in-Ok-None.field-0-is at c.in-Ok-None.ensures in
    inr (c.in-Ok.ensures.sound.proof, c.in-Ok.ensures.sound.both refl, (refl, none_listed c.args.model.now c.args.spot.now c.args.proof.now c.args.z _ c.args.tries.now (to_z-of_z w64 c.args.z (search rules)) (c.are_named.ensures.0 c.if-not-are_named.false) none))

pub returns : goal.returns
returns c =
    let by = rw c.in-Ok-Some.field-0-is at c.in-Ok-Some.ensures in
    all_listed c.args.model.now c.args.spot.now c.args.proof.now c.args.z _ c.args.tries.now c.in-Ok-Some.walks (to_z-of_z w64 c.args.z (search rules)) (c.are_named.ensures.0 c.if-not-are_named.false) c.in-Ok.ensures.sound by
