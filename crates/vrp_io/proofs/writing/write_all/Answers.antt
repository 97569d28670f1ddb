use Rattle.std.proofs.Common.{arith, [], refl, length-drop, ap, length, subst, sym, ◌∙◌}
use Rattle.std.proofs.lemmas.Bool.Decides.{nat_tests}
use Rattle.std.proofs.KnownBytes.{Appends-nil}
use Rattle.vrp_io.specs.Handed.{Handed, begun, took}
use Rattle.vrp_io.proofs.Parts.{wrote_more, take-drop}
use Rattle.vrp_io.proofs.writing.write_all.Goals as goal

pub loop-rest-init : goal.loop-rest-init
loop-rest-init g c =
    record {
      front = ([], refl, Appends-nil _);
      handed = begun;
      later = omega arith;
      kept = λ each. refl;
      writes = omega arith;
    }

pub loop-rest-preserved : goal.loop-rest-preserved
loop-rest-preserved g c =
    let before = c.loop-rest.invariant.front in
    let done = c.in-Ok.ensures in
    let shorter = ap length (take-drop c.loop-rest.rest.now c.in-Ok.count) in
    record {
      front = wrote_more _ _ _ _ before.0 _ _ before.1 before.2 done.bytes;
      handed = subst (Handed g.K.Sink.wrote c.args.sink.now c.args.bytes.now c.write.new.self) (sym (take-drop c.loop-rest.rest.now c.in-Ok.count)) (took _ _ _ _ c.loop-rest.invariant.handed done.told);
      later = omega (arith, done.cause.later, c.loop-rest.invariant.later);
      kept = λ each. done.kept each ∙ c.loop-rest.invariant.kept each;
      writes = grind (arith, nat_tests, shorter, length-drop c.in-Ok.count c.loop-rest.rest.now, c.loop-rest.invariant.writes, done.counted, done.some);
    }
