use Rattle.std.proofs.Common.{◌<◌, get_or, refl, sym, ◌∙◌, ap, subst, arith}
use Rattle.std.specs.Prelude.{Contains}
use Rattle.std.proofs.lemmas.Bool.{false≢true}
use Rattle.std.proofs.lemmas.List.Elements.{Contains-get_or}
use Rattle.path_graph.specs.Walk.{arc_at}
use Rattle.label_rules.specs.declared.label.Label.{Label}
use Rattle.label_rules.specs.Joins.{JoinsWithin}
use Rattle.label_rules.specs.Labels.{Setting}
use Rattle.concatenate.specs.Fit.{MayJoin}
use Rattle.route_labels.specs.Meaning.{setting_of}
use Rattle.list_check.proofs.HeadLemmas.{place_found, place_read}
use Rattle.list_check.proofs.joining.joins_one.Goals as goal

pub rest_at-requires : goal.rest_at-requires
rest_at-requires c =
    let S : Setting = setting_of c.args.field.now in
    (place_read c.args.rests.now.labels.now (arc_at S.graph.arcs c.args.arc).head c.args.places.now c.loop-place.place-index c.requires.places c.loop-place-test.true).0

pub joins_within-requires-clause-rest : goal.joins_within-requires-clause-rest
joins_within-requires-clause-rest c =
    let S : Setting = setting_of c.args.field.now in
    let labels = c.args.rests.now.labels.now in
    let at = place_read labels (arc_at S.graph.arcs c.args.arc).head c.args.places.now c.loop-place.place-index c.requires.places c.loop-place-test.true in
    subst (MayJoin S) (sym c.rest_at.ensures) (c.requires.rests.may (get_or c.args.places.now c.loop-place.place-index 0) _ at.0)

pub joins_within-requires-clause-head : goal.joins_within-requires-clause-head
joins_within-requires-clause-head c =
    let S : Setting = setting_of c.args.field.now in
    let labels = c.args.rests.now.labels.now in
    let at = place_read labels (arc_at S.graph.arcs c.args.arc).head c.args.places.now c.loop-place.place-index c.requires.places c.loop-place-test.true in
    sym (ap (λ (l : Label). l.vertex) c.rest_at.ensures ∙ at.1)

pub returns-then-joins_within : goal.returns-then-joins_within
returns-then-joins_within c =
    let S : Setting = setting_of c.args.field.now in
    let labels = c.args.rests.now.labels.now in
    let at = place_read labels (arc_at S.graph.arcs c.args.arc).head c.args.places.now c.loop-place.place-index c.requires.places c.loop-place-test.true in (
      λ h. record {
        rest = c.rest_at.result.now;
        in_back = subst (Contains labels) (sym c.rest_at.ensures) (Contains-get_or labels (get_or c.args.places.now c.loop-place.place-index 0) _ at.0);
        join = c.joins_within.ensures.0 c.if-joins_within.true;
      },
      λ h. refl,
    )

pub returns : goal.returns
returns c =
    let S : Setting = setting_of c.args.field.now in
    let labels = c.args.rests.now.labels.now in (
      λ h. absurd (false≢true h),
      λ one.
          let found = place_found labels (arc_at S.graph.arcs c.args.arc).head c.args.places.now one.rest c.requires.places one.in_back (sym one.join.joins.enters) in
          let l : found.0 < c.loop-place.place-index = omega (arith, found.1, c.loop-place-test.false) in
          absurd (c.loop-place.invariant found.0 l (subst (λ (r : Label). JoinsWithin S c.args.label.now c.args.arc r c.args.rests.now.limit) (sym found.2) one.join)),
    )
