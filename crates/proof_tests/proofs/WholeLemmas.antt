-- A proof that was checked, all of whose tables have both lists, has what fixing asks for.
use Rattle.std.proofs.Common.{◌≡◌, ℕ, ◌<◌, ◌^◌, ℤ, Option, None, List, length, refl, sym, ◌∙◌, ap, subst, arith}
use Rattle.std.proofs.lemmas.List.{length-map}
use Rattle.std.proofs.lemmas.List.Elements.{All-get_or, All-weaker}
use Rattle.path_graph.specs.Within.{IsWithin}
use Rattle.rank1_cuts.specs.declared.cut.Cut.{Cut}
use Rattle.label_rules.specs.declared.label.Label.{Label}
use Rattle.label_rules.specs.declared.table.Form.{Form as TextForm}
use Rattle.label_rules.specs.declared.table.Form.TheVariants as text
use Rattle.label_rules.specs.declared.table.ProofTable.{ProofTable}
use Rattle.label_rules.specs.Labels.{Backward, Forward, Setting}
use Rattle.label_rules.specs.Leasts.{Both, Form, IsLeast, IsTable}
use Rattle.label_rules.specs.Tables.{IsClosed}
use Rattle.proof_rules.specs.Proofs.{AreBoth, IsTableOf, Table}
use Rattle.cert_rules.specs.Meaning.{form_of, table_of}
use Rattle.proof_check.specs.declared.proved.Proved.{Proved}
use Rattle.proof_check.specs.Checked.{IsProved, proof_in, setting_in, table_in}
use Rattle.proof_check.specs.Keeps.{LabelKeeps, ListKeeps, TableKeeps}
use Rattle.proof_check.proofs.DemandLemmas.{in_place, table_is}
use Rattle.proof_check.proofs.FieldLemmas.{cuts_of_ready, field_setting, near_of_ready}
use Rattle.arc_fixing.specs.Fixable.{AreNear, AreWholeTables, IsWholeTable, Parts, PartsFit, setting_by, table_by}

-- the parts at the place, with these cuts and weights
abbrev pub parts_at : Proved → List Cut → List ℕ → Parts
parts_at at cuts y = record { spot = at.spot.now; priced = at.checked.now.priced; near = at.checked.now.near; cuts = cuts; y = y }

form_both : (f : TextForm) → form_of f ≡ Both → f ≡ text.Both
form_both text.Full e = absurd (cc)
form_both text.Both e = refl
form_both (text.Half t) e = absurd (cc)

near_of : (cuts : ℕ) (labels : List Label) → ListKeeps cuts labels → AreNear labels
near_of cuts labels keeps = All-weaker (LabelKeeps cuts) (λ (l : Label). IsWithin (2 ^ 112) l.cost) (λ l k. k.cost) labels keeps

closed_pair : (S : Setting) (form : Form) (fore back : List Label) → form ≡ Both → IsTable S form fore back → IsClosed Forward S None fore × IsClosed Backward S None back
closed_pair S form fore back e h = subst (λ (f : Form). IsTable S f fore back) e h

both_least : (S : Setting) (form : Form) (fore back : List Label) (least : Option ℤ) → form ≡ Both → IsLeast S form fore back least → IsLeast S Both fore back least
both_least S form fore back least e h = subst (λ (f : Form). IsLeast S f fore back least) e h

module _ (at : Proved) (proved : IsProved at) (both : AreBoth at.model.now (proof_in at)) where
  own_parts : PartsFit at.model.now (parts_at at at.proof.now.cuts at.proof.now.mult.cuts)
  own_parts = record {
    spot = proved.ready.spot;
    mult = at.proof.now.mult;
    mult_fits = proved.ready.keeps.mult;
    cuts = cuts_of_ready at proved.ready;
    weights = refl;
    priced = proved.ready.checked.priced;
    range = proved.ready.checked.range;
    near = near_of_ready at proved.ready;
  }

  pub parts_fit : (cuts : List Cut) (y : List ℕ) → cuts ≡ at.proof.now.cuts → y ≡ at.proof.now.mult.cuts → PartsFit at.model.now (parts_at at cuts y)
  parts_fit cuts y e f =
      subst (λ (xs : List Cut). PartsFit at.model.now (parts_at at xs y)) (sym e) (subst (λ (ys : List ℕ). PartsFit at.model.now (parts_at at at.proof.now.cuts ys)) (sym f) own_parts)

  table_count : length at.proof.now.tables ≡ length at.model.now.graphs
  table_count =
      let mapped = length-map at.proof.now.tables table_of in
      let count = proved.proof.count in
      omega (arith, mapped, count)

  whole_at : (g : ℕ) → g < length at.model.now.graphs → IsWholeTable (setting_by at.model.now (parts_at at at.proof.now.cuts at.proof.now.mult.cuts) g) g (table_by at.proof.now.tables g)
  whole_at g l =
      let p = at.proof.now in
      let S = setting_by at.model.now (parts_at at p.cuts p.mult.cuts) g in
      let t = table_by p.tables g in
      let same : S ≡ setting_in at g = field_setting at.model.now at.spot.now p at.checked.now g p.cuts p.mult.cuts proved.ready.checked refl refl in
      let told : table_in at g ≡ table_of t = table_is p.tables g in
      let of : IsTableOf S (table_of t) = subst (λ (U : Setting). IsTableOf U (table_of t)) (sym same) (subst (IsTableOf (setting_in at g)) told (proved.proof.each g l)) in
      let form : form_of t.form ≡ Both = sym (ap (λ (u : Table). u.form) told) ∙ both g l in
      let closed = closed_pair S (form_of t.form) t.fore t.back form of.closed in
      let keeps : TableKeeps (length at.model.now.graphs) (length p.cuts) t =
      All-get_or (TableKeeps (length at.model.now.graphs) (length p.cuts)) p.tables g _ (omega (arith, table_count, l)) proved.ready.keeps.tables in
      record {
        graph = (in_place at.model.now p proved.ready.keeps table_count g l).1;
        form = form_both t.form form;
        fore = closed.0;
        back = closed.1;
        least = both_least S (form_of t.form) t.fore t.back t.least form of.least_is;
        fore_near = near_of (length p.cuts) t.fore keeps.fore;
        back_near = near_of (length p.cuts) t.back keeps.back;
        least_near = keeps.least;
      }

  own_tables : AreWholeTables at.model.now (parts_at at at.proof.now.cuts at.proof.now.mult.cuts) at.proof.now.tables
  own_tables = record { count = table_count; each = whole_at }

  pub tables_whole : (cuts : List Cut) (y : List ℕ) (tables : List ProofTable) → cuts ≡ at.proof.now.cuts → y ≡ at.proof.now.mult.cuts → tables ≡ at.proof.now.tables
      → AreWholeTables at.model.now (parts_at at cuts y) tables
  tables_whole cuts y tables e f h =
      subst (λ (xs : List Cut). AreWholeTables at.model.now (parts_at at xs y) tables) (sym e)
      (subst (λ (ys : List ℕ). AreWholeTables at.model.now (parts_at at at.proof.now.cuts ys) tables) (sym f)
      (subst (λ (ts : List ProofTable). AreWholeTables at.model.now (parts_at at at.proof.now.cuts at.proof.now.mult.cuts) ts) (sym h) own_tables))
