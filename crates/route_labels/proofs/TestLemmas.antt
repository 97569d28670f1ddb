-- The test of a label, from its parts.
use Rattle.std.proofs.Common.{◌≡◌, ◌^◌, ◌&&◌, eqb, int_eq, ℕ, List, refl, Bool, false, ℤ, pos, neg_ℤ, ◌+ℤ◌, ◌*ℤ◌, ◌≤ℤ◌, Decides, subst}
use Rattle.std.specs.Prelude.{◌↔◌, IsTrue}
use Rattle.std.proofs.lemmas.Bool.{false≢true}
use Rattle.std.proofs.lemmas.Bool.Decides.{same_from_decides, Decides-and, Decides-eqb, Decides-int_eq, Decides-like}
use Rattle.std.proofs.lemmas.Slice.Eq.{slice_eq-Decides}
use Rattle.std.specs.Cmp.Lexicographic.{pointwise}
use Rattle.std.specs.Cmp.Rules.{signed_items}
use Rattle.label_rules.specs.declared.label.Label.{Label}
use Rattle.label_rules.specs.Labels.{Direction, Setting}
use Rattle.label_rules.specs.Spaces.{IsInRange, IsLabel, is_label, level}
use Rattle.label_rules.proofs.TestLemmas.{label_decides}
use Rattle.route_labels.specs.Rules.{Stands}

-- what does not stand is no label
pub not_standing : (direction : Direction) (S : Setting) (l : Label) → ¬ (Stands S l) → false ≡ is_label direction S l
not_standing direction S l h =
    same_from_decides false (is_label direction S l)
    (λ e. absurd (false≢true e), λ (is : IsLabel direction S l). absurd (h (record { windows = is.windows; states = is.states; unused = is.unused })))
    (label_decides direction S l)

-- what stands is one exactly where its cost is in range
pub standing : (direction : Direction) (S : Setting) (l : Label) (r : Bool) → Stands S l → Decides r (IsInRange direction S l) → r ≡ is_label direction S l
standing direction S l r h range =
    same_from_decides r (is_label direction S l)
    (λ e. record { windows = h.windows; states = h.states; unused = h.unused; cost = range.0 e }, λ (is : IsLabel direction S l). range.1 is.cost)
    (label_decides direction S l)

-- the cost and the level as they are read
pub range_read : (direction : Direction) (S : Setting) (l : Label) (r : Bool) (x low : ℤ) → x ≡ l.cost → low ≡ level direction S l
    → (IsTrue r ↔ (((neg_ℤ (pos (2 ^ 112) +ℤ (pos (2 ^ 73) *ℤ (low +ℤ pos (2 ^ 38))))) ≤ℤ x) × (x ≤ℤ (pos (2 ^ 112) +ℤ (pos (2 ^ 73) *ℤ (low +ℤ pos (2 ^ 38)))))))
    → Decides r (IsInRange direction S l)
range_read direction S l r x low cost height h =
    let at = subst (λ (y : ℤ). IsTrue r ↔ (((neg_ℤ (pos (2 ^ 112) +ℤ (pos (2 ^ 73) *ℤ (y +ℤ pos (2 ^ 38))))) ≤ℤ x) × (x ≤ℤ (pos (2 ^ 112) +ℤ (pos (2 ^ 73) *ℤ (y +ℤ pos (2 ^ 38))))))) height h in
    subst (λ (y : ℤ). IsTrue r ↔ (((neg_ℤ (pos (2 ^ 112) +ℤ (pos (2 ^ 73) *ℤ (level direction S l +ℤ pos (2 ^ 38))))) ≤ℤ y) × (y ≤ℤ (pos (2 ^ 112) +ℤ (pos (2 ^ 73) *ℤ (level direction S l +ℤ pos (2 ^ 38))))))) cost at

-- two labels are equal where their parts are
naturals : (xs ys : List ℕ) → Decides (pointwise eqb xs ys) (xs ≡ ys)
naturals xs ys = slice_eq-Decides Decides-eqb xs ys (pointwise eqb xs ys) refl

pub same_parts : (a b : Label) → Decides (eqb a.vertex b.vertex && (pointwise int_eq a.values.at b.values.at && (pointwise eqb a.memory.bits b.memory.bits
    && (pointwise eqb a.states b.states && int_eq a.cost b.cost)))) (a ≡ b)
same_parts a b =
    let last = Decides-and _ _ (naturals a.states b.states) (Decides-int_eq a.cost b.cost) in
    let more = Decides-and _ _ (naturals a.memory.bits b.memory.bits) last in
    let values = Decides-and _ _ (signed_items a.values.at b.values.at) more in
    let all = Decides-and _ _ (Decides-eqb a.vertex b.vertex) values in
    Decides-like _
    (λ (h : (a.vertex ≡ b.vertex) × ((a.values.at ≡ b.values.at) × ((a.memory.bits ≡ b.memory.bits) × ((a.states ≡ b.states) × (a.cost ≡ b.cost))))).
    λ i. record { vertex = h.0 i; values = record { at = h.1.0 i }; memory = record { bits = h.1.1.0 i }; states = h.1.1.1.0 i; cost = h.1.1.1.1 i })
    (λ (e : a ≡ b). (λ i. (e i).vertex, (λ i. (e i).values.at, (λ i. (e i).memory.bits, (λ i. (e i).states, λ i. (e i).cost)))))
    all
