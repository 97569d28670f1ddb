-- Tests by which worked tables are seen to be closed, or not, and their leasts to be leasts.
use Rattle.std.proofs.Common.{◌≡◌, ◌==◌, ℕ, zero, suc, ◌<◌, nat_lt, not, ◌&&◌, Bool, true, false, ℤ, ◌+ℤ◌, ◌≤ℤ◌, Option, None, Some, List, [], ◌∷◌, length, inl, inr, ◌⊎◌, refl, sym, subst, arith, Decides}
use Rattle.std.specs.Prelude.{Contains, All, IsTrue, slice_index_or}
use lib.Signed.{le_z}
use Rattle.std.proofs.lemmas.Bool.{false≢true, cases_lt}
use Rattle.std.proofs.lemmas.Bool.Decides.{Decides-eqb, Decides-ltb, Decides-like}
use Rattle.std.proofs.lemmas.List.Elements.{All-contains}
use Rattle.std.proofs.lemmas.List.{get_or_default}
use Rattle.path_graph.specs.declared.limits.TheConstants.{MAX_SETS}
use Rattle.path_graph.specs.declared.set_bits.SetBits.{SetBits}
use Rattle.path_graph.specs.Bounds.{IsAtLeast}
use Rattle.path_graph.specs.Fit.{int_at}
use Rattle.path_graph.specs.SetBits.{has_set, is_subset}
use Rattle.path_graph.specs.Walk.{arc_at, root_of}
use Rattle.path_graph.proofs.SetBitsLemmas.{member-below}
use Rattle.path_graph.proofs.SetBitsMade.{is_subset-decides}
use Rattle.label_rules.specs.Dominance.{Dominates, IsNoWorse, StatesFit, excess}
use Rattle.label_rules.specs.Joins.{Joins, join_cost}
use Rattle.label_rules.specs.Labels.{Backward, CanExtend, Direction, Forward, Label, Setting, extended, left, root}
use Rattle.label_rules.specs.Leasts.{Both, Form, Full, Half, IsLeast, IsTable}
use Rattle.label_rules.specs.Memories.{AreDisjoint}
use Rattle.label_rules.specs.Spaces.{can_extend, is_no_worse, lies_in_windows, needs_dominator, states_fit}
use Rattle.label_rules.specs.Tables.{Covers, IsClosed, LiesInWindows, NeedsDominator}
use Rattle.label_rules.proofs.TestLemmas.{le_decides, shut_decides, can_extend_decides, needed_decides, windows_decides, states_decides, no_worse_decides}

-- one test and, where it passes, another
abbrev pub also : Bool → (Unit {0} → Bool) → Bool
also true next = next tt
also false next = false

pub also_decides : {P Q : Type 0} (b : Bool) (next : Unit {0} → Bool) → Decides b P → Decides (next tt) Q → Decides (also b next) (P × Q)
also_decides true next p q = (λ h. (p.0 refl, q.0 h), λ h. q.1 h.1)
also_decides false next p q = (λ h. absurd (false≢true h), λ h. absurd (false≢true (p.1 h.0)))

-- another test, but only where the one passes
abbrev pub unless : Bool → (Unit {0} → Bool) → Bool
unless true next = next tt
unless false next = true

pub unless_decides : {P Q : Type 0} (b : Bool) (next : Unit {0} → Bool) → Decides b P → Decides (next tt) Q → Decides (unless b next) (P → Q)
unless_decides true next p q = (λ h x. q.0 h, λ h. q.1 (h (p.0 refl)))
unless_decides false next p q = (λ h x. absurd (false≢true (p.1 x)), λ h. refl)

-- each number below n passes
abbrev pub below_all : (ℕ → Bool) → ℕ → Bool
below_all test zero = true
below_all test (suc n) = also (test n) (λ u. below_all test n)

pub below_all_decides : (test : ℕ → Bool) (P : ℕ → Type 0) (n : ℕ) → ((k : ℕ) → Decides (test k) (P k)) → Decides (below_all test n) ((k : ℕ) → k < n → P k)
below_all_decides test P zero each = (λ h k l. absurd (omega (arith, l)), λ h. refl)
below_all_decides test P (suc n) each =
    let both = also_decides (test n) (λ u. below_all test n) (each n) (below_all_decides test P n each) in (
      λ h k l. elim (cases_lt k n) [
        | inl less ↦ (both.0 h).1 k less
        | inr past ↦ let same : n ≡ k = omega (arith, l, past) in subst P same (both.0 h).0
      ],
      λ h. both.1 (h n (omega arith), λ k l. h k (omega (arith, l))),
    )

-- each label of a list passes, or some label does
abbrev pub each_of : (Label → Bool) → List Label → Bool
each_of test [] = true
each_of test (l ∷ rest) = also (test l) (λ u. each_of test rest)

abbrev pub some_of : (Label → Bool) → List Label → Bool
some_of test [] = false
some_of test (l ∷ rest) = elim (test l) [ true ↦ true | false ↦ some_of test rest ]

contains_none : (l : Label) → Contains [] l → ⊥
contains_none l h = omega (arith, h.1)

contains_cases : (x : Label) (rest : List Label) (l : Label) → Contains (x ∷ rest) l → (x ≡ l) ⊎ Contains rest l
contains_cases x rest l h = at h.0 h.1 h.2
  where
    at : (k : ℕ) → k < length (x ∷ rest) → slice_index_or (x ∷ rest) k l ≡ l → (x ≡ l) ⊎ Contains rest l
    at zero within is = inl is
    at (suc k) within is = inr (k, omega (arith, within), is)

contains_first : (x : Label) (rest : List Label) → Contains (x ∷ rest) x
contains_first x rest = (0, omega arith, refl)

contains_more : (x : Label) (rest : List Label) (l : Label) → Contains rest l → Contains (x ∷ rest) l
contains_more x rest l h = (suc h.0, omega (arith, h.1), h.2)

pub each_decides : (test : Label → Bool) (P : Label → Type 0) (labels : List Label) → ((l : Label) → Decides (test l) (P l)) → Decides (each_of test labels) ((l : Label) → Contains labels l → P l)
each_decides test P [] each = (λ h l c. absurd (contains_none l c), λ h. refl)
each_decides test P (x ∷ rest) each =
    let both = also_decides (test x) (λ u. each_of test rest) (each x) (each_decides test P rest each) in (
      λ h l c. elim (contains_cases x rest l c) [
        | inl e ↦ subst P e (both.0 h).0
        | inr more ↦ (both.0 h).1 l more
      ],
      λ h. both.1 (h x (contains_first x rest), λ l c. h l (contains_more x rest l c)),
    )

abbrev pub Some_of : (Label → Type 0) → List Label → Type 0
Some_of P labels = (l : Label) × Contains labels l × P l

pub some_decides : (test : Label → Bool) (P : Label → Type 0) (labels : List Label) → ((l : Label) → Decides (test l) (P l)) → Decides (some_of test labels) (Some_of P labels)
some_decides test P [] each = (λ h. absurd (false≢true h), λ h. absurd (contains_none h.0 h.1))
some_decides test P (x ∷ rest) each =
    let more = some_decides test P rest each in
    at (test x) (each x) more
  where
    at : (b : Bool) → Decides b (P x) → Decides (some_of test rest) (Some_of P rest) → Decides (elim b [ true ↦ true | false ↦ some_of test rest ]) (Some_of P (x ∷ rest))
    at true here more = (λ h. (x, contains_first x rest, here.0 refl), λ h. refl)
    at false here more = (
      λ h. let found = more.0 h in (found.0, contains_more x rest found.0 found.1, found.2),
      λ h. elim (contains_cases x rest h.0 h.1) [
        | inl e ↦ absurd (false≢true (here.1 (subst P (sym e) h.2)))
        | inr c ↦ more.1 (h.0, c, h.2)
      ],
    )

-- one label dominates the other
abbrev pub dominates_test : Direction → Setting → Label → Label → Bool
dominates_test direction S a b =
    also (a.vertex == b.vertex) (λ u. also (below_all (λ k. is_no_worse direction (int_at a.values.at k) (int_at b.values.at k)) 6)
    (λ u. also (le_z (a.cost +ℤ excess S a b) b.cost) (λ u. is_subset a.memory b.memory)))

pub dominates_test_decides : (direction : Direction) (S : Setting) (a b : Label) → Decides (dominates_test direction S a b) (Dominates direction S a b)
dominates_test_decides direction S a b =
    let values = below_all_decides (λ k. is_no_worse direction (int_at a.values.at k) (int_at b.values.at k)) (λ k. IsNoWorse direction (int_at a.values.at k) (int_at b.values.at k)) 6
    (λ k. no_worse_decides direction (int_at a.values.at k) (int_at b.values.at k)) in
    let last = also_decides (le_z (a.cost +ℤ excess S a b) b.cost) (λ u. is_subset a.memory b.memory) (le_decides (a.cost +ℤ excess S a b) b.cost) (is_subset-decides a.memory b.memory) in
    let more = also_decides _ (λ u. also (le_z (a.cost +ℤ excess S a b) b.cost) (λ u. is_subset a.memory b.memory)) values last in
    let all = also_decides (a.vertex == b.vertex) (λ u. also (below_all (λ k. is_no_worse direction (int_at a.values.at k) (int_at b.values.at k)) 6)
    (λ u. also (le_z (a.cost +ℤ excess S a b) b.cost) (λ u. is_subset a.memory b.memory))) (Decides-eqb a.vertex b.vertex) more in
    Decides-like (dominates_test direction S a b)
    (λ h. record { vertex = h.0; values = h.1.0; cost = h.1.1.0; memory = h.1.1.1 })
    (λ (h : Dominates direction S a b). (h.vertex, (h.values, (h.cost, h.memory))))
    all

-- a list covers a label
abbrev pub covers : Direction → Setting → List Label → Label → Bool
covers direction S labels m = some_of (λ l. dominates_test direction S l m) labels

covers_decides : (direction : Direction) (S : Setting) (labels : List Label) (m : Label) → Decides (covers direction S labels m) (Covers direction S labels m)
covers_decides direction S labels m =
    Decides-like (covers direction S labels m)
    (λ h. record { by = h.0; listed = h.1; dominates = h.2 })
    (λ (h : Covers direction S labels m). (h.by, h.listed, h.dominates))
    (some_decides (λ l. dominates_test direction S l m) (λ l. Dominates direction S l m) labels (λ l. dominates_test_decides direction S l m))

-- an extension is covered where it needs a dominator
abbrev pub covered_test : Direction → Setting → Option ℤ → List Label → Label → Bool
covered_test direction S threshold labels m = unless (needs_dominator direction S threshold m) (λ u. covers direction S labels m)

abbrev IsCovered : Direction → Setting → Option ℤ → List Label → Label → Type 0
IsCovered direction S threshold labels m = NeedsDominator direction S threshold m → Covers direction S labels m

covered_test_decides : (direction : Direction) (S : Setting) (threshold : Option ℤ) (labels : List Label) (m : Label) → Decides (covered_test direction S threshold labels m) (IsCovered direction S threshold labels m)
covered_test_decides direction S threshold labels m =
    unless_decides (needs_dominator direction S threshold m) (λ u. covers direction S labels m) (needed_decides direction S threshold m) (covers_decides direction S labels m)

-- so is each that is defined over an arc on from a label
abbrev pub arc_test : Direction → Setting → Option ℤ → List Label → Label → ℕ → Bool
arc_test direction S threshold labels l a =
    unless (left direction S a == l.vertex) (λ u. unless (can_extend direction S l a) (λ u. covered_test direction S threshold labels (extended direction S l a)))

abbrev IsArcCovered : Direction → Setting → Option ℤ → List Label → Label → ℕ → Type 0
IsArcCovered direction S threshold labels l a = left direction S a ≡ l.vertex → CanExtend direction S l a → IsCovered direction S threshold labels (extended direction S l a)

arc_test_decides : (direction : Direction) (S : Setting) (threshold : Option ℤ) (labels : List Label) (l : Label) (a : ℕ) → Decides (arc_test direction S threshold labels l a) (IsArcCovered direction S threshold labels l a)
arc_test_decides direction S threshold labels l a =
    let inner = unless_decides (can_extend direction S l a) (λ u. covered_test direction S threshold labels (extended direction S l a)) (can_extend_decides direction S l a)
    (covered_test_decides direction S threshold labels (extended direction S l a)) in
    unless_decides (left direction S a == l.vertex) (λ u. unless (can_extend direction S l a) (λ u. covered_test direction S threshold labels (extended direction S l a))) (Decides-eqb (left direction S a) l.vertex) inner

-- a list is closed
abbrev pub arcs_test : Direction → Setting → Option ℤ → List Label → Label → Bool
arcs_test direction S threshold labels l = below_all (arc_test direction S threshold labels l) (length S.graph.arcs)

abbrev pub is_closed : Direction → Setting → Option ℤ → List Label → Bool
is_closed direction S threshold labels =
    also (each_of (lies_in_windows S) labels) (λ u. also (each_of (states_fit S) labels) (λ u. also (covers direction S labels (root direction S))
    (λ u. each_of (arcs_test direction S threshold labels) labels)))

all_listed : (P : Label → Type 0) (labels : List Label) → ((l : Label) → Contains labels l → P l) → All P labels
all_listed P labels h k d below = h (slice_index_or labels k d) (k, below, get_or_default labels k (slice_index_or labels k d) d below)

pub is_closed_decides : (direction : Direction) (S : Setting) (threshold : Option ℤ) (labels : List Label) → Decides (is_closed direction S threshold labels) (IsClosed direction S threshold labels)
is_closed_decides direction S threshold labels =
    let steps = each_decides (arcs_test direction S threshold labels) (λ l. (a : ℕ) → a < length S.graph.arcs → IsArcCovered direction S threshold labels l a) labels
    (λ l. below_all_decides (arc_test direction S threshold labels l) (IsArcCovered direction S threshold labels l) (length S.graph.arcs) (arc_test_decides direction S threshold labels l)) in
    let first = also_decides (covers direction S labels (root direction S)) (λ u. each_of (arcs_test direction S threshold labels) labels) (covers_decides direction S labels (root direction S)) steps in
    let second = also_decides (each_of (states_fit S) labels) (λ u. also (covers direction S labels (root direction S)) (λ u. each_of (arcs_test direction S threshold labels) labels))
    (each_decides (states_fit S) (StatesFit S) labels (states_decides S)) first in
    let all = also_decides (each_of (lies_in_windows S) labels) (λ u. also (each_of (states_fit S) labels) (λ u. also (covers direction S labels (root direction S)) (λ u. each_of (arcs_test direction S threshold labels) labels)))
    (each_decides (lies_in_windows S) (LiesInWindows S) labels (windows_decides S)) second in
    Decides-like (is_closed direction S threshold labels)
    (λ h. record {
      windows = all_listed (LiesInWindows S) labels h.0;
      cover = record {
        states = all_listed (StatesFit S) labels h.1.0;
        root = h.1.1.0;
        extensions = λ l a listed there from can needed. h.1.1.1 l listed a there from can needed;
      };
    })
    (λ (h : IsClosed direction S threshold labels). (
      λ l listed. All-contains (LiesInWindows S) labels l h.windows listed,
      (λ l listed. All-contains (StatesFit S) labels l h.cover.states listed, (h.cover.root, λ l listed a there from can needed. h.cover.extensions l a listed there from can needed)),
    ))
    all

-- a table is closed
abbrev pub is_table : Setting → Form → List Label → List Label → Bool
is_table S Full fore back = is_closed Forward S None fore
is_table S Both fore back = also (is_closed Forward S None fore) (λ u. is_closed Backward S None back)
is_table S (Half t) fore back =
    also (le_z (int_at (root_of S.graph).at 0) t) (λ u. also (is_closed Forward S (Some t) fore) (λ u. is_closed Backward S (Some t) back))

pub is_table_decides : (S : Setting) (form : Form) (fore back : List Label) → Decides (is_table S form fore back) (IsTable S form fore back)
is_table_decides S Full fore back = is_closed_decides Forward S None fore
is_table_decides S Both fore back =
    also_decides (is_closed Forward S None fore) (λ u. is_closed Backward S None back) (is_closed_decides Forward S None fore) (is_closed_decides Backward S None back)
is_table_decides S (Half t) fore back =
    let both = also_decides (is_closed Forward S (Some t) fore) (λ u. is_closed Backward S (Some t) back) (is_closed_decides Forward S (Some t) fore) (is_closed_decides Backward S (Some t) back) in
    let all = also_decides (le_z (int_at (root_of S.graph).at 0) t) (λ u. also (is_closed Forward S (Some t) fore) (λ u. is_closed Backward S (Some t) back)) (le_decides (int_at (root_of S.graph).at 0) t) both in
    Decides-like (is_table S (Half t) fore back) (λ h. (h.0, h.1.0, h.1.1)) (λ (h : IsTable S (Half t) fore back). (h.0, (h.1, h.2))) all

-- a number is at least a least
abbrev pub at_least : Option ℤ → ℤ → Bool
at_least None x = false
at_least (Some least) x = le_z least x

pub at_least_decides : (least : Option ℤ) (x : ℤ) → Decides (at_least least x) (IsAtLeast least x)
at_least_decides None x = (λ h. absurd (false≢true h), λ h. absurd h)
at_least_decides (Some least) x = le_decides least x

-- memories have no set in common
abbrev pub are_disjoint : SetBits → SetBits → Bool
are_disjoint a b = below_all (λ s. not (has_set a s && has_set b s)) MAX_SETS

apart_decides : (x y : Bool) → Decides (not (x && y)) (IsTrue x → ¬ (IsTrue y))
apart_decides true true = (λ h. absurd (false≢true h), λ h. absurd (h refl refl))
apart_decides true false = (λ h x y. false≢true y, λ h. refl)
apart_decides false y = (λ h x. absurd (false≢true x), λ h. refl)

are_disjoint_decides : (a b : SetBits) → Decides (are_disjoint a b) (AreDisjoint (has_set a) (has_set b))
are_disjoint_decides a b =
    let all = below_all_decides (λ s. not (has_set a s && has_set b s)) (λ s. IsTrue (has_set a s) → ¬ (IsTrue (has_set b s))) MAX_SETS (λ s. apart_decides (has_set a s) (has_set b s)) in
    (λ h s x. all.0 h s (member-below a s x) x, λ h. all.1 (λ s l. h s))

-- labels join over an arc
abbrev pub join_test : Setting → Label → ℕ → Label → Bool
join_test S f a b =
    also (nat_lt a (length S.graph.arcs)) (λ u. also ((arc_at S.graph.arcs a).tail == f.vertex) (λ u. also ((arc_at S.graph.arcs a).head == b.vertex)
    (λ u. also (not (S.is_shut a)) (λ u. also (below_all (λ k. le_z (int_at f.values.at k +ℤ int_at (arc_at S.graph.arcs a).needs k) (int_at b.values.at k)) 6) (λ u. are_disjoint f.memory b.memory)))))

pub join_test_decides : (S : Setting) (f : Label) (a : ℕ) (b : Label) → Decides (join_test S f a b) (Joins S f a b)
join_test_decides S f a b =
    let arc = arc_at S.graph.arcs a in
    let room = λ (u : Unit {0}). are_disjoint f.memory b.memory in
    let values : Bool = below_all (λ k. le_z (int_at f.values.at k +ℤ int_at arc.needs k) (int_at b.values.at k)) 6 in
    let fifth = also_decides values room (below_all_decides (λ k. le_z (int_at f.values.at k +ℤ int_at arc.needs k) (int_at b.values.at k)) (λ k. (int_at f.values.at k +ℤ int_at arc.needs k) ≤ℤ (int_at b.values.at k)) 6
    (λ k. le_decides (int_at f.values.at k +ℤ int_at arc.needs k) (int_at b.values.at k))) (are_disjoint_decides f.memory b.memory) in
    let fourth = also_decides (not (S.is_shut a)) (λ (u : Unit {0}). also values room) (shut_decides (S.is_shut a)) fifth in
    let third = also_decides (arc.head == b.vertex) (λ (u : Unit {0}). also (not (S.is_shut a)) (λ u. also values room)) (Decides-eqb arc.head b.vertex) fourth in
    let second = also_decides (arc.tail == f.vertex) (λ (u : Unit {0}). also (arc.head == b.vertex) (λ u. also (not (S.is_shut a)) (λ u. also values room))) (Decides-eqb arc.tail f.vertex) third in
    let all = also_decides (nat_lt a (length S.graph.arcs)) (λ (u : Unit {0}). also (arc.tail == f.vertex) (λ u. also (arc.head == b.vertex) (λ u. also (not (S.is_shut a)) (λ u. also values room))))
    (Decides-ltb a (length S.graph.arcs)) second in
    Decides-like (join_test S f a b)
    (λ h. record { there = h.0; leaves = h.1.0; enters = h.1.1.0; open_arc = h.1.1.1.0; values = h.1.1.1.1.0; memories = h.1.1.1.1.1 })
    (λ (h : Joins S f a b). (h.there, (h.leaves, (h.enters, (h.open_arc, (h.values, h.memories))))))
    all

-- a least is one
abbrev pub sink_test : Setting → Option ℤ → Label → Bool
sink_test S least l = unless (l.vertex == S.graph.ends.sink) (λ u. at_least least l.cost)

abbrev pub join_least : Setting → Option ℤ → Label → ℕ → Label → Bool
join_least S least f a b = unless (join_test S f a b) (λ u. at_least least (join_cost S f a b))

abbrev pub is_least : Setting → Form → List Label → List Label → Option ℤ → Bool
is_least S Full fore back least = each_of (sink_test S least) fore
is_least S Both fore back least = each_of (sink_test S least) fore
is_least S (Half t) fore back least = each_of (λ f. each_of (λ b. below_all (λ a. join_least S least f a b) (length S.graph.arcs)) back) fore

sink_decides : (S : Setting) (fore : List Label) (least : Option ℤ) → Decides (each_of (sink_test S least) fore) ((l : Label) → Contains fore l → l.vertex ≡ S.graph.ends.sink → IsAtLeast least l.cost)
sink_decides S fore least =
    each_decides (sink_test S least) (λ l. l.vertex ≡ S.graph.ends.sink → IsAtLeast least l.cost) fore
    (λ l. unless_decides (l.vertex == S.graph.ends.sink) (λ u. at_least least l.cost) (Decides-eqb l.vertex S.graph.ends.sink) (at_least_decides least l.cost))

pub is_least_decides : (S : Setting) (form : Form) (fore back : List Label) (least : Option ℤ) → Decides (is_least S form fore back least) (IsLeast S form fore back least)
is_least_decides S Full fore back least = sink_decides S fore least
is_least_decides S Both fore back least = sink_decides S fore least
is_least_decides S (Half t) fore back least =
    let one = λ (f b : Label) (a : ℕ). unless_decides (join_test S f a b) (λ u. at_least least (join_cost S f a b)) (join_test_decides S f a b) (at_least_decides least (join_cost S f a b)) in
    let all = each_decides (λ f. each_of (λ b. below_all (λ a. join_least S least f a b) (length S.graph.arcs)) back)
    (λ f. (b : Label) → Contains back b → (a : ℕ) → a < length S.graph.arcs → Joins S f a b → IsAtLeast least (join_cost S f a b)) fore
    (λ f. each_decides (λ b. below_all (λ a. join_least S least f a b) (length S.graph.arcs)) (λ b. (a : ℕ) → a < length S.graph.arcs → Joins S f a b → IsAtLeast least (join_cost S f a b)) back
    (λ b. below_all_decides (λ a. join_least S least f a b) (λ a. Joins S f a b → IsAtLeast least (join_cost S f a b)) (length S.graph.arcs) (one f b))) in
    Decides-like (is_least S (Half t) fore back least)
    (λ h f a b is. h f is.in_fore b is.in_back a is.joins.there is.joins)
    (λ (h : IsLeast S (Half t) fore back least). λ f listed b rest a there joins. h f a b (record { in_fore = listed; in_back = rest; joins = joins }))
    all
