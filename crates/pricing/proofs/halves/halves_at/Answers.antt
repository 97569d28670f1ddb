use Rattle.std.proofs.Common.{◌≡◌, ℕ, ◌+◌, ◌∷◌, [], ◌++◌, ◌∙◌, List, sym, ap, subst}
use Rattle.label_rules.specs.declared.table.ProofTable.{ProofTable}
use Rattle.label_rules.specs.Labels.{Setting}
use Rattle.route_labels.specs.Meaning.{setting_of}
use Rattle.pricing.specs.Fields.{setting_in}
use Rattle.pricing.specs.declared.half_table.HalfPair.{HalfPair}
use Rattle.pricing.specs.Halves.{AreHalves, IsHalfIn}
use Rattle.pricing.proofs.TableLemmas.{halves_more, told_ok}
use Rattle.pricing.proofs.halves.halves_at.Goals as goal

pub loop-graph-preserved : goal.loop-graph-preserved
loop-graph-preserved c =
    let p = c.args.place.now in
    let g = c.loop-graph.graph in
    let setting = setting_in p.model.now p.spot.now p.priced.now p.near.now p.cuts.now p.y.now in
    let pushed = told_ok c.push.result (c.push.new.self ≡ c.loop-graph.tables ++ c.in-Pair.table ∷ []) c.push.ensures.ok (sym c.is_err.ensures.value ∙ c.if-is_err.false) in
    let paired = told_ok c.push-else-is_err.result (c.push-else-is_err.new.self ≡ c.loop-graph.pairs ++ c.in-Pair.pair ∷ []) c.push-else-is_err.ensures.ok (sym c.is_err-else-is_err.ensures.value ∙ c.if-is_err-2.false) in
    let half : IsHalfIn (setting g) g c.in-Pair.table c.in-Pair.pair =
    subst (λ (S : Setting). IsHalfIn S g c.in-Pair.table c.in-Pair.pair) c.field.ensures.setting
    (subst (λ (n : ℕ). IsHalfIn (setting_of c.field.result) n c.in-Pair.table c.in-Pair.pair) c.field.ensures.graph c.in-Pair.ensures) in
    subst (λ (ts : List ProofTable). AreHalves (g + 1) setting ts c.push-else-is_err.new.self) (sym pushed)
    (subst (λ (us : List HalfPair). AreHalves (g + 1) setting (c.loop-graph.tables ++ c.in-Pair.table ∷ []) us) (sym paired)
    (halves_more g setting c.loop-graph.tables c.loop-graph.pairs c.in-Pair.table c.in-Pair.pair c.loop-graph.invariant half))
