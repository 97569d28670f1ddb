use Rattle.std.proofs.Common.{length, refl, sym, ◌∙◌}
use Rattle.std.proofs.lemmas.Bool.{false≢true}
use Rattle.label_rules.specs.Labels.{Setting}
use Rattle.label_rules.specs.Leasts.{IsLeast}
use Rattle.route_labels.specs.Meaning.{setting_of}
use Rattle.proof_rules.specs.Proofs.{Table}
use Rattle.cert_rules.specs.Meaning.{form_of, table_of}
use Rattle.proof_check.specs.Checked.{setting_in, table_in}
use Rattle.proof_check.specs.Demands.{AreExtended, Demand, Extensions, IsMet, Least, Roots}
use Rattle.proof_check.proofs.DemandLemmas.{extensions_first, least_first, roots_first, three_met}
use Rattle.proof_check.proofs.JoinLemmas.{moved_to, table_may_join}
use Rattle.proof_check.proofs.check.graph_fault.Goals as goal

pub returns-then-not-has_roots : goal.returns-then-not-has_roots
returns-then-not-has_roots c =
    let P = λ (d : Demand). IsMet c.args.at.now.model.now c.args.at.now.spot.now c.args.at.now.proof.now c.args.whole d in
    (Roots c.args.g, refl, roots_first P c.args.g (λ h. false≢true (c.if-not-has_roots.ensures.1 h)))

pub returns-then-not-branch : goal.returns-then-not-branch
returns-then-not-branch c =
    let P = λ (d : Demand). IsMet c.args.at.now.model.now c.args.at.now.spot.now c.args.at.now.proof.now c.args.whole d in
    let at = c.args.at.now in
    let back = moved_to AreExtended (setting_in at c.args.g) (setting_of c.field-field.result) (table_in at c.args.g) (table_of c.table-table.result.now)
    (sym c.field-field.ensures.setting) (sym c.table-table.ensures.table) in
    (Extensions c.args.g, refl, extensions_first P c.args.g (c.if-not-has_roots.ensures.0 refl) (λ h. false≢true (sym c.if-not-branch.true ∙ c.in_ok-are_extended.ensures.1 (back h))))

pub is_least-requires-clause-fore : goal.is_least-requires-clause-fore
is_least-requires-clause-fore c =
    let t = c.table-table.result.now in
    let x = c.in_ok-are_extended.ensures.0 c.if-not-branch.false in
    (table_may_join (setting_of c.field-field.result) (length c.args.at.now.proof.now.cuts) (form_of t.form) t.fore t.back x.fore x.back c.table-table.ensures.fore c.table-table.ensures.back).0

pub is_least-requires-clause-back : goal.is_least-requires-clause-back
is_least-requires-clause-back c =
    let t = c.table-table.result.now in
    let x = c.in_ok-are_extended.ensures.0 c.if-not-branch.false in
    (table_may_join (setting_of c.field-field.result) (length c.args.at.now.proof.now.cuts) (form_of t.form) t.fore t.back x.fore x.back c.table-table.ensures.fore c.table-table.ensures.back).1

pub returns-then-not-is_least : goal.returns-then-not-is_least
returns-then-not-is_least c =
    let P = λ (d : Demand). IsMet c.args.at.now.model.now c.args.at.now.spot.now c.args.at.now.proof.now c.args.whole d in
    let at = c.args.at.now in
    let L = λ (S : Setting) (t : Table). IsLeast S t.form t.fore t.back t.least in
    let extended = moved_to AreExtended (setting_of c.field-field.result) (setting_in at c.args.g) (table_of c.table-table.result.now) (table_in at c.args.g)
    c.field-field.ensures.setting c.table-table.ensures.table (c.in_ok-are_extended.ensures.0 c.if-not-branch.false) in
    let back = moved_to L (setting_in at c.args.g) (setting_of c.field-field.result) (table_in at c.args.g) (table_of c.table-table.result.now)
    (sym c.field-field.ensures.setting) (sym c.table-table.ensures.table) in
    (Least c.args.g, refl, least_first P c.args.g (c.if-not-has_roots.ensures.0 refl) extended (λ h. false≢true (c.if-not-is_least.ensures.1 (back h))))

pub returns : goal.returns
returns c =
    let P = λ (d : Demand). IsMet c.args.at.now.model.now c.args.at.now.spot.now c.args.at.now.proof.now c.args.whole d in
    let at = c.args.at.now in
    let L = λ (S : Setting) (t : Table). IsLeast S t.form t.fore t.back t.least in
    let extended = moved_to AreExtended (setting_of c.field-field.result) (setting_in at c.args.g) (table_of c.table-table.result.now) (table_in at c.args.g)
    c.field-field.ensures.setting c.table-table.ensures.table (c.in_ok-are_extended.ensures.0 c.if-not-branch.false) in
    let least = moved_to L (setting_of c.field-field.result) (setting_in at c.args.g) (table_of c.table-table.result.now) (table_in at c.args.g)
    c.field-field.ensures.setting c.table-table.ensures.table (c.if-not-is_least.ensures.0 refl) in
    three_met P c.args.g (c.if-not-has_roots.ensures.0 refl) extended least
