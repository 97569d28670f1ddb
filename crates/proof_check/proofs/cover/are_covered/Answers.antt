use Rattle.std.proofs.Common.{List, [], All, refl, subst}
use Rattle.std.proofs.lemmas.List.{take_all}
use Rattle.std.proofs.lemmas.List.Elements.{All-more}
use Rattle.label_rules.specs.declared.label.Label.{Label}
use Rattle.route_labels.specs.Meaning.{setting_of}
use Rattle.proof_check.specs.Index.{label_at}
use Rattle.proof_check.specs.Ways.{AreCovered, direction_of}
use Rattle.proof_check.proofs.cover.are_covered.Goals as goal

pub loop-label-preserved : goal.loop-label-preserved
loop-label-preserved c =
    All-more (AreCovered (direction_of c.args.way.now.backward) (setting_of c.args.way.now.field) c.args.way.now.threshold c.args.labels.now) c.args.labels.now c.loop-label.label-index
    (label_at [] 0) c.loop-label-test.true c.loop-label.invariant (c.if-not-is_covered.ensures.0 refl)

pub returns : goal.returns
returns c = (
  λ h. subst (λ (xs : List Label). All (AreCovered (direction_of c.args.way.now.backward) (setting_of c.args.way.now.field) c.args.way.now.threshold c.args.labels.now) xs)
      (take_all c.loop-label.label-index c.args.labels.now c.loop-label-test.false) c.loop-label.invariant,
  λ h. refl,
)
