-- The tests of a space of labels decide what they stand for.
use Rattle.std.proofs.Common.{◌≡◌, ◌==◌, ℕ, ◌<◌, ◌≤◌, nat_lt, not, ◌&&◌, ◌||◌, Bool, true, false, cond, ℤ, neg_ℤ, ◌+ℤ◌, ◌≤ℤ◌, ◌<ℤ◌, Option, None, Some, length, inl, inr, refl, sym, ◌∙◌, ap, arith, Decides}
use lib.Signed.{le_z, lt_z}
use Rattle.std.proofs.lemmas.Bool.{false≢true, cond-true, cases_lt}
use Rattle.std.proofs.lemmas.Bool.Decides.{nat_tests, Decides-and, Decides-not, Decides-eqb, Decides-ltb, Decides-like, Decides-below_and}
use Rattle.std.proofs.lemmas.Int.{ints}
use Rattle.path_graph.specs.declared.parts.Values.{Values}
use Rattle.path_graph.specs.declared.set_bits.SetBits.{SetBits}
use Rattle.path_graph.specs.Fit.{int_at, window_at, vertex_at}
use Rattle.path_graph.specs.SetBits.{all_below, is_subset}
use Rattle.path_graph.proofs.SetBitsMade.{is_subset-decides}
use Rattle.ng_sets.specs.Memory.{IsRemembered}
use Rattle.label_rules.specs.Dominance.{Dominates, IsNoWorse, StatesFit, excess}
use Rattle.label_rules.specs.Labels.{Backward, CanExtend, Direction, Forward, Label, Setting, WindowsTake, cut_at, extended, state_at, visit_of}
use Rattle.label_rules.specs.SpaceLaws.{DominanceTestLaw, ExtensionTestLaw, IsExtension, LabelTestLaw}
use Rattle.label_rules.specs.Spaces.{IsLabel, can_extend, cost_limit, dominates, extension, is_label, is_no_worse, is_remembered, lies_at, lies_in_windows, needs_dominator, states_fit, window_takes}
use Rattle.label_rules.specs.Tables.{LiesInWindows, NeedsDominator, first_value}

pub le_decides : (x y : ℤ) → Decides (le_z x y) (x ≤ℤ y)
le_decides x y = (λ h. grind (arith, ints, h), λ h. grind (arith, ints, h))

lt_decides : (x y : ℤ) → Decides (lt_z x y) (x <ℤ y)
lt_decides x y = (λ h. grind (arith, ints, h), λ h. grind (arith, ints, h))

below_decides : (test : ℕ → Bool) (P : ℕ → Type 0) → ((k : ℕ) → Decides (test k) (P k)) → (n : ℕ) → Decides (all_below test n) ((k : ℕ) → k < n → P k)
unfolding all_below
below_decides test P each = Decides-below_and test P (all_below test) each refl (λ n. refl)

pub shut_decides : (x : Bool) → Decides (not x) (x ≡ false)
shut_decides true = (λ h. absurd (false≢true h), λ h. absurd (false≢true (sym h)))
shut_decides false = (λ h. refl, λ h. refl)

remembered_decides : (memory : SetBits) (set : Option ℕ) → Decides (is_remembered memory set) (IsRemembered memory set)
remembered_decides memory None = (λ h. absurd (false≢true h), λ h. absurd h)
remembered_decides memory (Some s) = (λ h. h, λ h. h)

taken_decides : (direction : Direction) (S : Setting) (value : Values) (a : ℕ) → Decides (all_below (window_takes direction S value a) 6) (WindowsTake direction S value a)
taken_decides Forward S value a = below_decides (window_takes Forward S value a) _ (λ k. le_decides _ _) 6
taken_decides Backward S value a = below_decides (window_takes Backward S value a) _ (λ k. le_decides _ _) 6

pub can_extend_decides : (direction : Direction) (S : Setting) (l : Label) (a : ℕ) → Decides (can_extend direction S l a) (CanExtend direction S l a)
can_extend_decides direction S l a =
    let set = (visit_of direction S a).set in
    let all = Decides-and (not (S.is_shut a)) (all_below (window_takes direction S l.values a) 6 && not (is_remembered l.memory set)) (shut_decides (S.is_shut a))
    (Decides-and (all_below (window_takes direction S l.values a) 6) (not (is_remembered l.memory set)) (taken_decides direction S l.values a)
    (Decides-not (is_remembered l.memory set) (remembered_decides l.memory set))) in
    Decides-like (can_extend direction S l a)
    (λ (h : (S.is_shut a ≡ false) × (WindowsTake direction S l.values a × ¬ (IsRemembered l.memory set))). record { open_arc = h.0; values = h.1.0; memory = h.1.1 })
    (λ h. (h.open_arc, (h.values, h.memory)))
    all

pub needed_decides : (direction : Direction) (S : Setting) (threshold : Option ℤ) (l : Label) → Decides (needs_dominator direction S threshold l) (NeedsDominator direction S threshold l)
needed_decides Forward S None l = (λ h. tt, λ h. refl)
needed_decides Backward S None l = (λ h. tt, λ h. refl)
needed_decides Forward S (Some t) l = Decides-and _ _ (le_decides (first_value l) t) (Decides-not _ (Decides-eqb l.vertex S.graph.ends.sink))
needed_decides Backward S (Some t) l = Decides-and _ _ (lt_decides t (first_value l)) (Decides-not _ (Decides-eqb l.vertex S.graph.ends.source))

pub no_worse_decides : (direction : Direction) (x y : ℤ) → Decides (is_no_worse direction x y) (IsNoWorse direction x y)
no_worse_decides Forward x y = le_decides x y
no_worse_decides Backward x y = le_decides y x

pub dominates_decides : (direction : Direction) (S : Setting) (a b : Label) → Decides (dominates direction S a b) (Dominates direction S a b)
dominates_decides direction S a b =
    let values = below_decides (λ k. is_no_worse direction (int_at a.values.at k) (int_at b.values.at k)) (λ k. IsNoWorse direction (int_at a.values.at k) (int_at b.values.at k))
    (λ k. no_worse_decides direction (int_at a.values.at k) (int_at b.values.at k)) 6 in
    let rest = Decides-and (is_subset a.memory b.memory) (le_z (a.cost +ℤ excess S a b) b.cost) (is_subset-decides a.memory b.memory) (le_decides (a.cost +ℤ excess S a b) b.cost) in
    let more = Decides-and _ _ values rest in
    let all = Decides-and (a.vertex == b.vertex) _ (Decides-eqb a.vertex b.vertex) more in
    Decides-like (dominates direction S a b)
    (λ h. record { vertex = h.0; values = h.1.0; memory = h.1.1.0; cost = h.1.1.1 })
    (λ (h : Dominates direction S a b). (h.vertex, (h.values, (h.memory, h.cost))))
    all

-- a label lies in the windows, its states are below the denominators, and those beyond the cuts are 0
pub windows_decides : (S : Setting) (l : Label) → Decides (lies_in_windows S l) (LiesInWindows S l)
windows_decides S l =
    let windows = (vertex_at S.graph.vertices l.vertex).windows in
    let at : ℕ → ℤ = λ k. int_at l.values.at k in
    let within = below_decides (lies_at S l) (λ k. ((window_at windows k).low ≤ℤ at k) × (at k ≤ℤ (window_at windows k).high))
    (λ k. Decides-and (le_z (window_at windows k).low (at k)) (le_z (at k) (window_at windows k).high) (le_decides (window_at windows k).low (at k)) (le_decides (at k) (window_at windows k).high)) 6 in
    let all = Decides-and (nat_lt l.vertex (length S.graph.vertices)) _ (Decides-ltb l.vertex (length S.graph.vertices)) within in
    Decides-like (lies_in_windows S l)
    (λ h. record { vertex = h.0; values = h.1 })
    (λ (h : LiesInWindows S l). (h.vertex, h.values))
    all

pub states_decides : (S : Setting) (l : Label) → Decides (states_fit S l) (StatesFit S l)
states_decides S l =
    below_decides (λ i. nat_lt (state_at l i) (cut_at S i).den) (λ i. state_at l i < (cut_at S i).den) (λ i. Decides-ltb (state_at l i) (cut_at S i).den) (length S.cuts)

unused_decides : (S : Setting) (l : Label) (i : ℕ) → Decides (nat_lt i (length S.cuts) || (state_at l i == 0)) (length S.cuts ≤ i → state_at l i ≡ 0)
unused_decides S l i = (
  λ h k. grind (arith, nat_tests, h, k),
  λ h. elim (cases_lt i (length S.cuts)) [
    | inl less ↦ grind (arith, nat_tests, less)
    | inr past ↦ let none = h past in grind (arith, nat_tests, none)
  ],
)

pub label_decides : (direction : Direction) (S : Setting) (l : Label) → Decides (is_label direction S l) (IsLabel direction S l)
label_decides direction S l =
    let limit : ℤ = cost_limit direction S l in
    let unused = below_decides (λ i. nat_lt i (length S.cuts) || (state_at l i == 0)) (λ i. length S.cuts ≤ i → state_at l i ≡ 0) (unused_decides S l) 64 in
    let cost = Decides-and (le_z (neg_ℤ limit) l.cost) (le_z l.cost limit) (le_decides (neg_ℤ limit) l.cost) (le_decides l.cost limit) in
    let last = Decides-and _ _ unused cost in
    let more = Decides-and (states_fit S l) _ (states_decides S l) last in
    let all = Decides-and (lies_in_windows S l) _ (windows_decides S l) more in
    Decides-like (is_label direction S l)
    (λ h. record { windows = h.0; states = h.1.0; unused = h.1.1.0; cost = h.1.1.1 })
    (λ (h : IsLabel direction S l). (h.windows, (h.states, (h.unused, h.cost))))
    all

-- an extension that is there
chosen : (b : Bool) (x m : Label) → cond b (Some x) None ≡ Some m → (b ≡ true) × (x ≡ m)
chosen true x m e = (refl, cc)
chosen false x m e = absurd (cc)

extension_decides : (direction : Direction) (S : Setting) (threshold : Option ℤ) (l : Label) (a : ℕ)
    → Decides (can_extend direction S l a && needs_dominator direction S threshold (extended direction S l a)) (CanExtend direction S l a × NeedsDominator direction S threshold (extended direction S l a))
extension_decides direction S threshold l a =
    Decides-and (can_extend direction S l a) (needs_dominator direction S threshold (extended direction S l a)) (can_extend_decides direction S l a) (needed_decides direction S threshold (extended direction S l a))

pub extension_is : (direction : Direction) (S : Setting) (threshold : Option ℤ) (l : Label) (a : ℕ) (m : Label) → extension direction S threshold l a ≡ Some m → IsExtension direction S threshold l a m
extension_is direction S threshold l a m e =
    let parts = chosen (can_extend direction S l a && needs_dominator direction S threshold (extended direction S l a)) (extended direction S l a) m e in
    let holds = (extension_decides direction S threshold l a).0 parts.0 in
    record { defined = holds.0; needed = holds.1; is = parts.1 }

pub is_extension : (direction : Direction) (S : Setting) (threshold : Option ℤ) (l : Label) (a : ℕ) → CanExtend direction S l a → NeedsDominator direction S threshold (extended direction S l a) → extension direction S threshold l a ≡ Some (extended direction S l a)
is_extension direction S threshold l a can needed = cond-true _ (Some (extended direction S l a)) None ((extension_decides direction S threshold l a).1 (can, needed))

-- the tests as laws
pub label_test : LabelTestLaw
label_test direction S l = label_decides direction S l

pub dominance_test : DominanceTestLaw
dominance_test direction S a b = dominates_decides direction S a b

pub extension_test : ExtensionTestLaw
extension_test direction S threshold l a m = (
  extension_is direction S threshold l a m,
  λ (h : IsExtension direction S threshold l a m). is_extension direction S threshold l a h.defined h.needed ∙ ap Some h.is,
)
