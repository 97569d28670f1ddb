use Rattle.std.proofs.Common.{w64, subst, arith}
use Rattle.std.proofs.lemmas.Int.{to_z-of_z}
use Rattle.route_model.specs.Fit.{IsModel}
use Rattle.route_model.specs.Parts.{ModelParts}
use Rattle.search_steps.proofs.PlainLemmas.{listed_last}
use Rattle.search_steps.proofs.plain.list_tree.Goals as goal

pub returns : goal.returns
returns c =
    let model = subst (λ (p : ModelParts). IsModel p) c.model.view_is c.model.invariant in
    listed_last c.args.model.now c.args.z _ _ c.args.nodes c.args.made c.args.opened.items c.in_ok-below.below c.on_top.result model.fits (omega (arith, c.requires.some)) (to_z-of_z w64 c.args.z c.ranges.z) c.requires.root c.in_ok-below.ensures c.on_top.ensures
