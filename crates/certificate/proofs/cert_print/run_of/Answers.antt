use Rattle.std.proofs.Common.{◌≡◌, ℕ}
use Rattle.std.proofs.lemmas.List.Elements.{All-more}
use Rattle.certificate.proofs.cert_print.run_of.Goals as goal

pub loop-k-preserved : goal.loop-k-preserved
loop-k-preserved c =
    All-more (λ (d : ℕ × ℕ). d.0 ≡ c.args.graph) c.args.drops.now c.loop-k.k (0, 0) c.loop-k-test.true c.loop-k.invariant c.if-drops-k.false
