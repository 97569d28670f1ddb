use Rattle.std.proofs.Common.{[], length, sym, ◌∙◌, ap, subst}
use Rattle.std.proofs.lemmas.List.Elements.{All-get_or}
use Rattle.label_rules.specs.declared.table.ProofTable.{ProofTable}
use Rattle.cert_rules.specs.Meaning.{table_of}
use Rattle.proof_check.specs.Demands.{text_table}
use Rattle.proof_check.specs.Keeps.{ListKeeps, TableKeeps}
use Rattle.proof_check.proofs.DemandLemmas.{table_is}
use Rattle.proof_check.proofs.proved.Proved.table.Goals as goal

pub returns-clause-table : goal.returns-clause-table
returns-clause-table c =
    let tables = c.args.self.now.proof.now.tables in
    ap table_of (sym (c.at.ensures (text_table [] 0))) ∙ sym (table_is tables c.args.g)

pub returns-clause-fore : goal.returns-clause-fore
returns-clause-fore c =
    let p = c.args.self.now.proof.now in
    let keeps = All-get_or (TableKeeps (length c.args.self.now.model.now.graphs) (length p.cuts)) p.tables c.args.g (text_table [] 0) c.requires.there c.requires.ready.keeps.tables in
    subst (λ (t : ProofTable). ListKeeps (length p.cuts) t.fore) (c.at.ensures (text_table [] 0)) keeps.fore

pub returns-clause-back : goal.returns-clause-back
returns-clause-back c =
    let p = c.args.self.now.proof.now in
    let keeps = All-get_or (TableKeeps (length c.args.self.now.model.now.graphs) (length p.cuts)) p.tables c.args.g (text_table [] 0) c.requires.there c.requires.ready.keeps.tables in
    subst (λ (t : ProofTable). ListKeeps (length p.cuts) t.back) (c.at.ensures (text_table [] 0)) keeps.back
