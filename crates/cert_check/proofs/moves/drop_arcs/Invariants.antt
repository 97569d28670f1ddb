use Rattle.std.proofs.Common.{◌≡◌, take}
use Rattle.route_model.specs.PlaceParts.{dropping}
use Rattle.cert_check.specs.Frames.{left_open}
use Rattle.cert_check.proofs.moves.drop_arcs.Given as goal

abbrev pub invariant-loop-arc : goal.invariant-loop-arc
invariant-loop-arc l = record {
  spot : l.tree.spot ≡ dropping l.fn.tree.spot (take l.arc-index l.arcs);
  left : left_open l.tree ≡ left_open l.fn.tree;
}
