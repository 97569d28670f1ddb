use Rattle.std.proofs.Common.{None, refl, ◌∙◌, arith}
use Rattle.route_labels.specs.Meaning.{setting_of}
use Rattle.route_labels.specs.Tables.{kept_labels}
use Rattle.label_rules.specs.Labels.{Forward}
use Rattle.pricing.proofs.TableLemmas.{alone_is, kept_near, made_is, start_near}
use Rattle.pricing.proofs.ToldLemmas.{alone_told, kept_few, kept_fit, sets_known}
use Rattle.pricing.proofs.graph_table.table_alone.Goals as goal

pub returns-in-Ok : goal.returns-in-Ok
returns-in-Ok c =
    let S = setting_of c.args.field in
    let m = c.args.field.model.now in
    let g = c.args.field.graph in
    let cells = c.args.made.cells in
    let t = c.in-Ok.ensures in
    let agree = t.agree in
    let near = kept_near Forward S None cells agree.setting agree.costs (start_near c.args.field c.requires.fit) c.requires.sound c.requires.walks in
    let is = alone_is S g c.in-Ok.table (kept_labels cells) t.graph t.form t.fore (t.back ∙ c.new.ensures) near t.least c.requires.closed in
    let fits = kept_fit Forward S None cells m.sets agree.setting agree.costs (sets_known m g c.requires.model c.requires.fit.graph) c.requires.sound c.requires.walks near in
    record {
      outcome = λ limit. (is, t.form, made_is S cells c.requires.sound c.requires.walks);
      told = λ limit few. alone_told m S g limit c.in-Ok.table c.requires.model c.requires.fit.graph refl (kept_labels cells) is t.form t.fore (t.back ∙ c.new.ensures) fits (omega (arith, few, kept_few cells));
    }
