-- What a reader returns says which model a text spells, or why it spells none.
use Rattle.std.proofs.Common.{◌≡◌, ℕ, List, subst, sym, Result, Ok, Err, IfOk, IfErr, refl}
use Rattle.route_model.specs.Parts.{ModelParts}
use Rattle.line_text.specs.declared.fault.TextFault.{TextFault}
use Rattle.line_text.specs.declared.fault.ReadError.{ReadError}
use Rattle.line_text.specs.declared.fault.ReadError.TheVariants as read
use Rattle.model_text.specs.declared.draft.Draft.{Draft}
use Rattle.model_text.specs.FirstFault.{text_read, IsModelOf, IsFaultOf}
use Rattle.model_text.specs.Spelling.{Spells}
use Rattle.model_text.specs.Refusal.{IsRefusal, IsLateRefusal}
use Rattle.line_text.specs.Gives.{FailsText}
use Rattle.model_text.proofs.ReadsSpelledLemmas.{reads_spelled}
use Rattle.model_text.proofs.SpellsLawLemmas.{spells_one, fault_spells_nothing}

spelled : (text : List ℕ) (d : Draft) (m : ModelParts) → text_read text ≡ Ok d → IsModelOf (Ok d) m → Spells text m
spelled text d m told is = reads_spelled text m (subst (λ (r : Result Draft TextFault). IsModelOf r m) (sym told) is)

pub built_spells : (text : List ℕ) (d : Draft) (r : Result ModelParts ReadError) → text_read text ≡ Ok d → IfOk r (IsModelOf (Ok d)) → IfOk r (Spells text)
built_spells text d (Ok m) told is = spelled text d m told is
built_spells text d (Err e) told is = tt

pub built_only : (text : List ℕ) (d : Draft) (r : Result ModelParts ReadError) → text_read text ≡ Ok d → IfOk r (IsModelOf (Ok d)) → IfOk r (λ model. (m : ModelParts) → Spells text m → m ≡ model)
built_only text d (Ok n) told is = λ m spells. spells_one text m n spells (spelled text d n told is)
built_only text d (Err e) told is = tt

late : (text : List ℕ) (d : Draft) (e : ReadError) → text_read text ≡ Ok d → IsLateRefusal d e → IsRefusal text e
late text d read.Memory told is = tt
late text d (read.Text fault) told is =
    let first = subst (λ (r : Result Draft TextFault). IsFaultOf r fault) (sym told) is in
    (first, fault_spells_nothing text fault first)

pub built_refused : (text : List ℕ) (d : Draft) (r : Result ModelParts ReadError) → text_read text ≡ Ok d → IfErr r (IsLateRefusal d) → IfErr r (IsRefusal text)
built_refused text d (Ok m) told is = tt
built_refused text d (Err e) told is = late text d e told is

-- a fault that the lines have
pub failed_refused : (text : List ℕ) (e : ReadError) → FailsText e (text_read text) → IsRefusal text e
failed_refused text read.Memory is = tt
failed_refused text (read.Text fault) is =
    let first = subst (λ (r : Result Draft TextFault). IsFaultOf r fault) (sym is) refl in
    (first, fault_spells_nothing text fault first)
