-- A text spells at most one model, and has at most one first fault; it spells a model exactly where it has no fault.
use Rattle.std.proofs.Common.{◌≡◌, ℕ, ◌^◌, ◌≤◌, ◌<◌, List, subst, sym, ◌∙◌, ap, arith, Result, Ok, Err, inl, inr, refl}
use Rattle.std.specs.Prelude.{Any}
use Rattle.route_model.specs.Parts.{ModelParts}
use Rattle.route_model.specs.Fit.{cost_range}
use Rattle.line_text.specs.declared.fault.Kind.{Kind}
use Rattle.line_text.specs.declared.fault.Kind.TheVariants as kinds
use Rattle.line_text.specs.declared.fault.TextFault.{TextFault}
use Rattle.model_text.specs.declared.draft.Draft.{Draft}
use Rattle.model_text.specs.Draft.{parts_of}
use Rattle.model_text.specs.FreeCycles.{HasFreeCycle}
use Rattle.model_text.specs.FirstFault.{text_read, IsModelOf, IsFaultOf, IsFirstTextFault}
use Rattle.model_text.specs.Spelling.{Spells, SpellsNothing}
use Rattle.model_text.proofs.BuildLemmas.{not_above}
use Rattle.model_text.proofs.ReadsSpelledLemmas.{reads_spelled}
use Rattle.model_text.proofs.SpelledReadsLemmas.{spelled_reads}

model_of_one : (r : Result Draft TextFault) (m n : ModelParts) → IsModelOf r m → IsModelOf r n → m ≡ n
model_of_one (Err first) m n p q = absurd p
model_of_one (Ok d) m n p q = sym p.0 ∙ q.0

pub spells_one : (text : List ℕ) (m n : ModelParts) → Spells text m → Spells text n → m ≡ n
spells_one text m n p q = model_of_one (text_read text) m n (spelled_reads text m p) (spelled_reads text n q)

no_fault_of_model : (r : Result Draft TextFault) (fault : TextFault) (m : ModelParts) → IsFaultOf r fault → IsModelOf r m → ⊥
no_fault_of_model (Err first) fault m p q = q
no_fault_of_model (Ok d) fault m p q =
    let cyclic : Any HasFreeCycle (parts_of d).graphs → ⊥ = subst (λ (x : ModelParts). Any HasFreeCycle x.graphs → ⊥) (sym q.0) q.1 in
    let costs : cost_range (parts_of d).vars ≤ 2 ^ 40 = subst (λ (x : ModelParts). cost_range x.vars ≤ 2 ^ 40) (sym q.0) q.2 in
    elim p.1 [
      | inl cycle ↦ cyclic cycle.1
      | inr range ↦ omega (arith, costs, range.2)
    ]

pub fault_spells_nothing : (text : List ℕ) (fault : TextFault) → IsFirstTextFault text fault → SpellsNothing text
fault_spells_nothing text fault is m spelled = no_fault_of_model (text_read text) fault m is (spelled_reads text m spelled)

-- a text without a fault spells a model
model_without_fault : (r : Result Draft TextFault) → ((fault : TextFault) → IsFaultOf r fault → ⊥) → (m : ModelParts) × IsModelOf r m
model_without_fault (Err first) none = absurd (none first refl)
model_without_fault (Ok d) none = (parts_of d, (refl, no_cycle, not_above (cost_range d.vars) (2 ^ 40) in_range))
  where
    late : Kind → TextFault
    late kind = record { line = d.end; kind = kind }

    no_cycle : Any HasFreeCycle (parts_of d).graphs → ⊥
    no_cycle some = none (late kinds.FreeCycle) (refl, inl (refl, some))

    in_range : 2 ^ 40 < cost_range d.vars → ⊥
    in_range above = none (late kinds.CostRange) (refl, inr (refl, no_cycle, above))

pub faultless_spells : (text : List ℕ) → ((fault : TextFault) → IsFirstTextFault text fault → ⊥) → (m : ModelParts) × Spells text m
faultless_spells text none = let model = model_without_fault (text_read text) none in (model.0, reads_spelled text model.0 model.1)

-- the first fault is one
late_same : (d : Draft) (f g : TextFault) → IsFaultOf (Ok d) f → IsFaultOf (Ok d) g → f ≡ g
late_same d f g p q =
    elim p.1 [
      | inl cycle ↦ elim q.1 [
        | inl other ↦ same (p.0 ∙ sym q.0) (cycle.0 ∙ sym other.0)
        | inr other ↦ absurd (other.1 cycle.1)
      ]
      | inr range ↦ elim q.1 [
        | inl other ↦ absurd (range.1 other.1)
        | inr other ↦ same (p.0 ∙ sym q.0) (range.0 ∙ sym other.0)
      ]
    ]
  where
    same : f.line ≡ g.line → f.kind ≡ g.kind → f ≡ g
    same lines kinds = ap (λ n. record f { line = n }) lines ∙ ap (λ k. record g { kind = k }) kinds

fault_of_one : (r : Result Draft TextFault) (f g : TextFault) → IsFaultOf r f → IsFaultOf r g → f ≡ g
fault_of_one (Err first) f g p q = p ∙ sym q
fault_of_one (Ok d) f g p q = late_same d f g p q

pub first_fault_one : (text : List ℕ) (f g : TextFault) → IsFirstTextFault text f → IsFirstTextFault text g → f ≡ g
first_fault_one text f g p q = fault_of_one (text_read text) f g p q
