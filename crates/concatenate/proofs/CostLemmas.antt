-- The cost of a join from its parts.
use Rattle.std.proofs.Common.{◌≡◌, ◌&&◌, Bool, true, false, sym, ◌∙◌, ap}
use Rattle.std.proofs.lemmas.Bool.{false≢true}
use Rattle.path_graph.specs.declared.set_bits.SetBits.{SetBits}
use Rattle.path_graph.specs.SetBits.{HasNoMember, IsMeet, IsWhole, has_set}
use Rattle.path_graph.proofs.SetBitsMade.{set_of-same}
use Rattle.label_rules.specs.Memories.{AreDisjoint, nothing}

-- two sets whose meet is the empty set have no member in common
both_hold : (b c : Bool) → b ≡ true → c ≡ true → (b && c) ≡ true
both_hold true true h k = h
both_hold true false h k = absurd (false≢true k)
both_hold false c h k = absurd (false≢true h)

not_both : (b c : Bool) → (b ≡ true → c ≡ true → ⊥) → (b && c) ≡ false
not_both true true h = absurd (h (λ i. true) (λ i. true))
not_both true false h = λ i. false
not_both false c h = λ i. false

pub disjoint_from : (a b meet empty : SetBits) → IsMeet a b meet → HasNoMember empty → meet ≡ empty → AreDisjoint (has_set a) (has_set b)
disjoint_from a b meet empty is none same s in_a in_b =
    false≢true (sym (none s) ∙ (ap (λ (set : SetBits). has_set set s) (sym same) ∙ (is s ∙ both_hold (has_set a s) (has_set b s) in_a in_b)))

pub disjoint_to : (a b meet empty : SetBits) → IsMeet a b meet → IsWhole meet → HasNoMember empty → IsWhole empty → AreDisjoint (has_set a) (has_set b) → meet ≡ empty
disjoint_to a b meet empty is whole none empty_whole disjoint =
    set_of-same meet nothing whole (λ s below. is s ∙ not_both (has_set a s) (has_set b s) (disjoint s)) ∙ sym (set_of-same empty nothing empty_whole (λ s below. none s))
