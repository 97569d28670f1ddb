use Rattle.std.proofs.Common.{◌≤◌, length, map, arith}
use Rattle.label_rules.specs.Labels.{Setting}
use Rattle.cert_rules.specs.Meaning.{step_of}
use Rattle.route_labels.specs.Meaning.{setting_of}
use Rattle.route_labels.proofs.AgreeLemmas.{parts_agree}
use Rattle.walk_list.proofs.GrowthLemmas.{grow_whole}
use Rattle.walk_list.proofs.grow.grow_all.Goals as goal

pub returns-clause-whole : goal.returns-clause-whole
returns-clause-whole c =
    let f = c.args.field.now in
    let S : Setting = setting_of f in
    let growth = c.loop-number.growth in
    let fits = (parts_agree f c.requires.model c.requires.field).setting in
    let l : length growth.prefixes.items ≤ c.loop-number.number = omega (arith, c.len.ensures, c.loop-number-test.false, growth.prefixes.ok.0) in
    grow_whole S c.args.rests.now.labels.now c.args.rests.now.limit (map step_of growth.steps.items) growth.prefixes.items c.loop-number.number fits c.loop-number.invariant.0 l
