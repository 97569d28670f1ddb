use Rattle.std.proofs.Common.{◌≡◌, ℤ, true, false, inr, refl, w64, subst, sym, rules}
use Rattle.std.proofs.lemmas.Int.{to_z-of_z}
use Rattle.proof_rules.specs.Proofs.{ClosesAgainst, bound_at}
use Rattle.cert_rules.specs.Meaning.{proof_of}
use Rattle.cert_check.proofs.ProvedLemmas.{close_error, proved_by}
use Rattle.cert_check.proofs.proof.close_place.Goals as goal

pub returns-in-Err : goal.returns-in-Err
returns-in-Err c = close_error c.args.model.now c.args.z c.args.spot.now c.args.proof.now c.in-Err.error c.in-Err.ensures

pub closes_place-requires : goal.closes_place-requires
closes_place-requires c = proved_by _ false c.requires.fits c.requires.told c.in-Ok.ensures

pub returns-then-closes_place : goal.returns-then-closes_place
returns-then-closes_place c =
    let bound = bound_at c.args.model.now c.args.spot.now (proof_of c.args.model.now c.args.proof.now) in
    (c.in-Ok.ensures.sound.proof, subst (λ (x : ℤ). ClosesAgainst x bound) (to_z-of_z w64 c.args.z (search rules)) (c.closes_place.ensures.0 c.if-closes_place.true))

pub returns : goal.returns
returns c =
    let bound = bound_at c.args.model.now c.args.spot.now (proof_of c.args.model.now c.args.proof.now) in
    inr (
      c.in-Ok.ensures.sound.proof,
      (
        refl,
        (λ closes.
            let t : c.closes_place.result ≡ true = c.closes_place.ensures.1 (subst (λ (x : ℤ). ClosesAgainst x bound) (sym (to_z-of_z w64 c.args.z (search rules))) closes) in
            cc),
      ),
    )
