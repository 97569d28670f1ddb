use Rattle.std.proofs.Common.{None, refl, ◌∙◌, arith}
use Rattle.route_labels.specs.Meaning.{setting_of}
use Rattle.route_labels.specs.Tables.{kept_labels}
use Rattle.label_rules.specs.Labels.{Backward, Forward}
use Rattle.pricing.proofs.TableLemmas.{both_is, kept_near, made_is, start_near}
use Rattle.pricing.proofs.ToldLemmas.{both_told, kept_few, kept_fit, sets_known}
use Rattle.pricing.proofs.graph_table.table_of_both.Goals as goal

pub returns-in-Ok-proof_table : goal.returns-in-Ok-proof_table
returns-in-Ok-proof_table c =
    let S = setting_of c.args.field in
    let m = c.args.field.model.now in
    let g = c.args.field.graph in
    let cells = c.args.made.cells in
    let rests = c.args.rests.now.cells in
    let t = c.in-Ok-proof_table.ensures in
    let agree = t.agree in
    let start = start_near c.args.field c.requires.fit in
    let all = sets_known m g c.requires.model c.requires.fit.graph in
    let near = kept_near Forward S None cells agree.setting agree.costs start c.requires.sound c.requires.walks in
    let near_back = kept_near Backward S None rests agree.setting agree.costs start c.requires.sound_back c.requires.walks_back in
    let is = both_is S g c.in-Ok-proof_table.table (kept_labels cells) (kept_labels rests) t.graph t.form t.fore (t.back ∙ c.in-Ok.ensures) near near_back t.least c.requires.closed c.requires.closed_back in
    let fits = kept_fit Forward S None cells m.sets agree.setting agree.costs all c.requires.sound c.requires.walks near in
    let fits_back = kept_fit Backward S None rests m.sets agree.setting agree.costs all c.requires.sound_back c.requires.walks_back near_back in
    record {
      outcome = λ limit. (is, t.form, made_is S cells c.requires.sound c.requires.walks);
      told = λ limit few few_back. both_told m S g limit c.in-Ok-proof_table.table c.requires.model c.requires.fit.graph refl (kept_labels cells) (kept_labels rests) is t.form t.fore (t.back ∙ c.in-Ok.ensures) fits fits_back
          (omega (arith, few, kept_few cells)) (omega (arith, few_back, kept_few rests));
    }
