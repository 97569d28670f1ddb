use Rattle.std.proofs.Common.{◌≡◌, ℕ, ◌+◌, ◌∷◌, [], ◌++◌, ◌∙◌, List, length, sym, ap, subst}
use Rattle.label_core.specs.declared.table.Table.{Table}
use Rattle.label_rules.specs.declared.label.Label.{Label}
use Rattle.label_rules.specs.declared.table.ProofTable.{ProofTable}
use Rattle.label_rules.specs.Labels.{Setting}
use Rattle.route_model.specs.Fit.{ModelFits}
use Rattle.route_labels.specs.declared.field.Field.{Field}
use Rattle.route_labels.specs.Meaning.{setting_of}
use Rattle.certificate.specs.Sizes.{sizes_of}
use Rattle.pricing.specs.Fields.{setting_in}
use Rattle.pricing.specs.Outcomes.{AreTables, EachHas, IsMadeIn}
use Rattle.pricing.specs.Tables.{IsTableIn}
use Rattle.pricing.specs.Told.{IsTold}
use Rattle.pricing.proofs.TableLemmas.{each_more, tables_more, told_ok}
use Rattle.pricing.proofs.ToldLemmas.{all_told}
use Rattle.pricing.proofs.every_graph.tables_at.Goals as goal

pub table_of-requires-clause-model : goal.table_of-requires-clause-model
table_of-requires-clause-model c = subst (λ (f : Field). ModelFits f.model.now) (sym c.field.ensures.is) c.graph_count-graph-end.ensures.model

pub loop-graph-preserved : goal.loop-graph-preserved
loop-graph-preserved c =
    let p = c.args.place.now in
    let g = c.loop-graph.graph in
    let setting = setting_in p.model.now p.spot.now p.priced.now p.near.now p.cuts.now p.y.now in
    let pushed = told_ok c.push.result (c.push.new.self ≡ c.loop-graph.tables ++ c.in-Table.table ∷ []) c.push.ensures.ok (sym c.is_err.ensures.value ∙ c.if-is_err.false) in
    let made = told_ok c.push-else-is_err.result (c.push-else-is_err.new.self ≡ c.loop-graph.filled ++ c.in-Table.made ∷ []) c.push-else-is_err.ensures.ok (sym c.is_err-else-is_err.ensures.value ∙ c.if-is_err-2.false) in
    let outcome = c.in-Table.ensures.outcome in
    let table : IsTableIn (setting g) g c.in-Table.table = subst (λ (S : Setting). IsTableIn S g c.in-Table.table) c.field.ensures.setting (subst (λ (n : ℕ). IsTableIn (setting_of c.field.result) n c.in-Table.table) c.field.ensures.graph outcome.0) in
    let as_made : IsMadeIn (setting g) c.in-Table.made = subst (λ (S : Setting). IsMadeIn S c.in-Table.made) c.field.ensures.setting outcome.2 in
    let told : IsTold (sizes_of p.model.now) (length p.cuts.now) c.args.limit g c.in-Table.table =
    subst (λ (f : Field). IsTold (sizes_of f.model.now) (length f.cuts.now) c.args.limit f.graph c.in-Table.table) c.field.ensures.is c.in-Table.ensures.told in
    record {
      outcome = subst (λ (ts : List ProofTable). AreTables (g + 1) setting c.args.both ts c.push-else-is_err.new.self) (sym pushed)
          (subst (λ (us : List (Table Label)). AreTables (g + 1) setting c.args.both (c.loop-graph.tables ++ c.in-Table.table ∷ []) us) (sym made)
          (tables_more g setting c.args.both c.loop-graph.tables c.loop-graph.filled c.in-Table.table c.in-Table.made c.loop-graph.invariant.outcome table outcome.1 as_made));
      told = subst (λ (ts : List ProofTable). EachHas (g + 1) ts (IsTold (sizes_of p.model.now) (length p.cuts.now) c.args.limit)) (sym pushed)
          (each_more g c.loop-graph.tables c.in-Table.table (IsTold (sizes_of p.model.now) (length p.cuts.now) c.args.limit) c.loop-graph.invariant.told told);
    }

pub returns-clause-told : goal.returns-clause-told
returns-clause-told c = all_told (sizes_of c.args.place.now.model.now) (length c.args.place.now.cuts.now) c.args.limit c.loop-graph.graph c.loop-graph.tables c.loop-graph.invariant.told
