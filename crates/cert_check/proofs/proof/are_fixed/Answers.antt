use Rattle.std.proofs.Common.{◌≡◌, ℤ, All, true, false, refl, to_z, of_z, w64, subst, rules, arith}
use Rattle.std.specs.Prelude.{IsTrue, ◌↔◌}
use Rattle.std.proofs.lemmas.Int.{to_z-of_z}
use Rattle.std.proofs.lemmas.List.Elements.{All-more}
use Rattle.proof_rules.specs.Nodes.{IsFixed}
use Rattle.proof_check.specs.Checked.{proof_in}
use Rattle.cert_check.proofs.LoopLemmas.{all_seen, not_all}
use Rattle.cert_check.proofs.proof.are_fixed.Goals as goal

pub loop-arc-preserved : goal.loop-arc-preserved
loop-arc-preserved c =
    let at = c.args.at.now in
    All-more (IsFixed at.model.now (to_z w64 (of_z w64 c.args.z)) at.spot.now (proof_in at)) c.args.arcs.now c.loop-arc.arc-index (0, 0) c.loop-arc-test.true c.loop-arc.invariant (c.if-not-is_fixed.ensures.0 refl)

pub returns-then-not-is_fixed : goal.returns-then-not-is_fixed
returns-then-not-is_fixed c =
    let at = c.args.at.now in
    subst (λ (x : ℤ). IsTrue false ↔ All (IsFixed at.model.now x at.spot.now (proof_in at)) c.args.arcs.now) (to_z-of_z w64 c.args.z (search rules))
    (not_all (IsFixed at.model.now (to_z w64 (of_z w64 c.args.z)) at.spot.now (proof_in at)) c.args.arcs.now c.loop-arc.arc-index (0, 0) c.loop-arc-test.true
    (λ fixed. let t : c.is_fixed.result ≡ true = c.is_fixed.ensures.1 fixed in cc))

pub returns : goal.returns
returns c =
    let at = c.args.at.now in
    subst (λ (x : ℤ). IsTrue true ↔ All (IsFixed at.model.now x at.spot.now (proof_in at)) c.args.arcs.now) (to_z-of_z w64 c.args.z (search rules))
    (all_seen (IsFixed at.model.now (to_z w64 (of_z w64 c.args.z)) at.spot.now (proof_in at)) c.args.arcs.now c.loop-arc.arc-index (omega arith) c.loop-arc.invariant)
