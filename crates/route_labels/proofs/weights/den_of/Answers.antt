use Rattle.std.proofs.Common.{ap}
use Rattle.std.proofs.lemmas.List.{get_or_default}
use Rattle.rank1_cuts.specs.declared.cut.Cut.{Cut}
use Rattle.route_labels.proofs.weights.den_of.Goals as goal

pub returns : goal.returns
returns c = ap (λ (cut : Cut). cut.den) (get_or_default c.args.cuts.now c.args.i c.index-cuts-i.result _ c.requires)
