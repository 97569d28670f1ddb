use Rattle.std.proofs.Common.{◌≡◌, ℤ, All, true, inr, refl, w64, subst, sym, rules}
use Rattle.std.proofs.lemmas.Int.{to_z-of_z}
use Rattle.proof_rules.specs.Nodes.{IsFixed}
use Rattle.cert_rules.specs.Meaning.{proof_of}
use Rattle.cert_check.proofs.ProvedLemmas.{fix_error, proved_by}
use Rattle.cert_check.proofs.proof.fix_arcs.Goals as goal

pub returns-in-Err : goal.returns-in-Err
returns-in-Err c = fix_error c.args.model.now c.args.z c.args.spot.now c.args.proof.now c.args.arcs.now c.in-Err.error c.in-Err.ensures

pub are_fixed-requires-clause-proved : goal.are_fixed-requires-clause-proved
are_fixed-requires-clause-proved c = proved_by _ true c.requires.fits c.requires.told c.in-Ok.ensures

pub are_fixed-requires-clause-both : goal.are_fixed-requires-clause-both
are_fixed-requires-clause-both c = c.in-Ok.ensures.sound.both refl

pub returns-then-are_fixed : goal.returns-then-are_fixed
returns-then-are_fixed c =
    let p = proof_of c.args.model.now c.args.proof.now in
    record {
      proof = c.in-Ok.ensures.sound.proof;
      both = c.in-Ok.ensures.sound.both refl;
      each = subst (λ (x : ℤ). All (IsFixed c.args.model.now x c.args.spot.now p) c.args.arcs.now) (to_z-of_z w64 c.args.z (search rules)) (c.are_fixed.ensures.0 c.if-are_fixed.true);
    }

pub returns : goal.returns
returns c =
    let p = proof_of c.args.model.now c.args.proof.now in
    inr (
      c.in-Ok.ensures.sound.proof,
      c.in-Ok.ensures.sound.both refl,
      (
        refl,
        (λ each.
            let t : c.are_fixed.result ≡ true = c.are_fixed.ensures.1 (subst (λ (x : ℤ). All (IsFixed c.args.model.now x c.args.spot.now p) c.args.arcs.now) (sym (to_z-of_z w64 c.args.z (search rules))) each) in
            cc),
      ),
    )
