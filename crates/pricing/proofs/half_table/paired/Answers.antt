use Rattle.std.proofs.Common.{Some, ℤ, w32, ap, refl, ◌∙◌}
use Rattle.std.proofs.lemmas.Int.{to_z-of_z}
use Rattle.label_rules.specs.declared.table.Form.TheVariants as text
use Rattle.label_rules.specs.Labels.{Backward, Forward}
use Rattle.route_labels.specs.Meaning.{setting_of}
use Rattle.pricing.proofs.TableLemmas.{each_joins, half_is, kept_join, start_near}
use Rattle.pricing.proofs.half_table.paired.Goals as goal

pub half_table-requires-clause-fore : goal.half_table-requires-clause-fore
half_table-requires-clause-fore c =
    let agree = c.path_graph-graph.ensures.agree in
    kept_join Forward (setting_of c.args.field) (Some c.args.threshold) c.args.pair.fore.cells agree.setting agree.costs (start_near c.args.field c.requires.fit) c.requires.sound c.requires.walks

pub half_table-requires-clause-back : goal.half_table-requires-clause-back
half_table-requires-clause-back c =
    let agree = c.path_graph-graph.ensures.agree in
    kept_join Backward (setting_of c.args.field) (Some c.args.threshold) c.args.pair.back.cells agree.setting agree.costs (start_near c.args.field c.requires.fit) c.requires.sound_back c.requires.walks_back

pub returns-in-Ok : goal.returns-in-Ok
returns-in-Ok c limit =
    let S = setting_of c.args.field in
    let T = Some c.args.threshold in
    let fore = c.args.pair.fore.cells in
    let back = c.args.pair.back.cells in
    let agree = c.path_graph-graph.ensures.agree in
    let start = start_near c.args.field c.requires.fit in
    let r = c.requires in
    let t = c.in-Ok.ensures in
    let form = t.form ∙ ap (λ (z : ℤ). text.Half z) (to_z-of_z w32 c.args.threshold c.ranges.threshold) in
    record {
      table = half_is S T fore back agree.setting agree.costs start r.sound r.walks r.sound_back r.walks_back c.args.field.graph c.in-Ok.table c.args.threshold refl t.graph form t.fore t.back t.least r.from r.closed r.closed_back;
      threshold = c.args.threshold;
      form = form;
      pair_is = record {
        fore = r.sound;
        back = r.sound_back;
        fore_joins = each_joins Forward S T fore agree.setting agree.costs start r.sound r.walks;
        back_joins = each_joins Backward S T back agree.setting agree.costs start r.sound_back r.walks_back;
      };
    }
