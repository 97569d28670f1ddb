use Rattle.std.proofs.Common.{refl, arith}
use Rattle.route_labels.proofs.ArrivalLemmas.{zeros_at}
use Rattle.route_labels.proofs.arrival.states_after.Goals as goal

pub loop-i-init : goal.loop-i-init
loop-i-init c = record {
  size = refl;
  each = λ k l. absurd (omega arith);
  unused = λ k l. zeros_at 64 k;
  risen = refl;
  light = omega arith;
}
