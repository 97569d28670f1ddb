-- Tests by which worked proofs are seen to be proofs, and the joins over an arc to be above a limit.
use Rattle.std.proofs.Common.{◌≡◌, ℕ, zero, suc, ◌<◌, Bool, true, ℤ, Option, None, Some, List, [], ◌∷◌, length, refl, sym, subst, arith, Decides}
use Rattle.std.specs.Prelude.{Contains, All, is_some}
use Rattle.std.specs.List.{list_all}
use lib.Signed.{lt_z}
use Rattle.std.proofs.lemmas.Bool.{and_parts}
use Rattle.std.proofs.lemmas.Bool.Decides.{Decides-like}
use Rattle.std.proofs.lemmas.Int.{ints}
use Rattle.std.proofs.lemmas.List.Elements.{All-nil}
use Rattle.path_graph.specs.Bounds.{IsAbove}
use Rattle.rank1_cuts.specs.Fit.{CutFits}
use Rattle.route_model.specs.declared.multipliers.Mult.{Mult}
use Rattle.route_model.specs.declared.multipliers.Quantity.{Quantity}
use Rattle.route_model.specs.declared.places.Boxes.{Boxes}
use Rattle.route_model.specs.declared.places.Spot.{Spot}
use Rattle.route_model.specs.Parts.{ModelParts}
use Rattle.multipliers.specs.Quantities.{AreDefined, quantities, term_of}
use Rattle.label_rules.specs.Joins.{Joins, join_cost}
use Rattle.label_rules.specs.Labels.{Setting}
use Rattle.label_rules.specs.Leasts.{AreAllAbove}
use Rattle.label_rules.specs.declared.label.Label.{Label}
use Rattle.proof_rules.specs.Proofs.{IsProof, IsTableOf, Proof, Table, setting_of, table_at}
use Rattle.label_rules.proofs.ClosedTests.{each_decides, each_of, is_least, is_least_decides, is_table, is_table_decides, join_test, join_test_decides, unless, unless_decides, also, also_decides}

-- every term is defined
abbrev pub are_defined : ModelParts → Boxes → Mult → Bool
are_defined m boxes mult = list_all (λ (q : Quantity). is_some (term_of m [] boxes mult q)) (quantities m [])

all_pass : {X : Type 0} (test : X → Bool) (xs : List X) → list_all test xs ≡ true → All (λ x. test x ≡ true) xs
all_pass test [] h k d l = absurd (omega (arith, l))
all_pass test (x ∷ xs) h zero d l = (and_parts (test x) (list_all test xs) h).0
all_pass test (x ∷ xs) h (suc k) d l = all_pass test xs (and_parts (test x) (list_all test xs) h).1 k d (omega (arith, l))

pub defined_by : (m : ModelParts) (boxes : Boxes) (mult : Mult) → are_defined m boxes mult ≡ true → AreDefined m [] boxes mult
defined_by m boxes mult h = all_pass (λ (q : Quantity). is_some (term_of m [] boxes mult q)) (quantities m []) h

-- the table of the one graph is closed, with its least
abbrev pub is_table_of : Setting → Table → Bool
is_table_of S t = also (is_table S t.form t.fore t.back) (λ u. is_least S t.form t.fore t.back t.least)

pub is_table_of_decides : (S : Setting) (t : Table) → Decides (is_table_of S t) (IsTableOf S t)
is_table_of_decides S t =
    Decides-like (is_table_of S t)
    (λ h. record { closed = h.0; least_is = h.1 })
    (λ (h : IsTableOf S t). (h.closed, h.least_is))
    (also_decides (is_table S t.form t.fore t.back) (λ u. is_least S t.form t.fore t.back t.least) (is_table_decides S t.form t.fore t.back) (is_least_decides S t.form t.fore t.back t.least))

-- of a model with one graph, a proof without cuts
pub proof_by : (m : ModelParts) (spot : Spot) (p : Proof) → p.cuts ≡ [] → length m.graphs ≡ 1 → length p.tables ≡ 1 → are_defined m spot.boxes p.mult ≡ true
    → is_table_of (setting_of m spot p 0) (table_at p.tables 0) ≡ true → IsProof m spot p
proof_by m spot p none one count defined table = record {
  cuts_fit = subst (All CutFits) (back none) (All-nil CutFits);
  defined = subst (λ cuts. AreDefined m cuts spot.boxes p.mult) (back none) (defined_by m spot.boxes p.mult defined);
  count = same length_tables;
  each = λ g l. at g (omega (arith, l, one));
}
  where
    back : {X : Type 0} {a b : X} → a ≡ b → b ≡ a
    back e = sym e

    length_tables : (length p.tables ≡ 1) × (length m.graphs ≡ 1)
    length_tables = (count, one)

    same : (length p.tables ≡ 1) × (length m.graphs ≡ 1) → length p.tables ≡ length m.graphs
    same h = omega (arith, h.0, h.1)

    at : (g : ℕ) → g < 1 → IsTableOf (setting_of m spot p g) (table_at p.tables g)
    at zero l = (is_table_of_decides (setting_of m spot p 0) (table_at p.tables 0)).0 table
    at (suc g) l = absurd (omega (arith, l))

-- every join over an arc is above a limit
abbrev pub is_above : Option ℤ → ℤ → Bool
is_above None x = true
is_above (Some limit) x = lt_z limit x

above_decides : (limit : Option ℤ) (x : ℤ) → Decides (is_above limit x) (IsAbove limit x)
above_decides None x = (λ h. tt, λ h. refl)
above_decides (Some limit) x = (λ h. grind (arith, ints, h), λ h. grind (arith, ints, h))

abbrev pub join_above : Setting → Option ℤ → ℕ → Label → Label → Bool
join_above S limit a f b = unless (join_test S f a b) (λ u. is_above limit (join_cost S f a b))

abbrev pub all_above : Setting → List Label → List Label → Option ℤ → ℕ → Bool
all_above S fore back limit a = each_of (λ f. each_of (join_above S limit a f) back) fore

pub all_above_decides : (S : Setting) (fore back : List Label) (limit : Option ℤ) (a : ℕ) → Decides (all_above S fore back limit a) (AreAllAbove S fore back limit a)
all_above_decides S fore back limit a =
    let one = λ (f b : Label). unless_decides (join_test S f a b) (λ u. is_above limit (join_cost S f a b)) (join_test_decides S f a b) (above_decides limit (join_cost S f a b)) in
    let all = each_decides (λ f. each_of (join_above S limit a f) back) (λ f. (b : Label) → Contains back b → Joins S f a b → IsAbove limit (join_cost S f a b)) fore
    (λ f. each_decides (join_above S limit a f) (λ b. Joins S f a b → IsAbove limit (join_cost S f a b)) back (one f)) in
    Decides-like (all_above S fore back limit a)
    (λ h f b is. h f is.in_fore b is.in_back is.joins)
    (λ (h : AreAllAbove S fore back limit a). λ f listed b rest joins. h f b (record { in_fore = listed; in_back = rest; joins = joins }))
    all
