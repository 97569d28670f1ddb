-- Worked proof trees of two models: trees that close, split and fix grow from the root place and leave nothing open.
use Rattle.std.proofs.Common.{◌≡◌, ℕ, zero, suc, ◌<◌, ◌*◌, true, false, ℤ, pos, ◌*ℤ◌, ◌^◌, ◌++◌, length, Option, None, Some, List, [], ◌∷◌, refl, sym, ◌∙◌, arith}
use Rattle.std.specs.Prelude.{All, Contains}
use Rattle.std.proofs.lemmas.Bool.{false≢true}
use Rattle.std.proofs.lemmas.Int.{ints}
use Rattle.std.proofs.lemmas.List.{get_or_default}
use Rattle.std.proofs.lemmas.List.Elements.{All-nil, All-cons}
use Rattle.path_graph.specs.SetBits.{has_set, word_of, set_of, all_below, is_subset}
use Rattle.path_graph.specs.Walk.{GraphParts}
use Rattle.path_graph.specs.Within.{IsWithin}
use Rattle.multipliers.specs.Quantities.{reduced_cost}
use Rattle.route_model.specs.declared.multipliers.Mult.{Mult}
use Rattle.route_model.specs.declared.multipliers.Quantity.TheVariants.{Var as OfVar}
use Rattle.route_model.specs.declared.parts.Row.{Row}
use Rattle.route_model.specs.declared.parts.Var.{Var}
use Rattle.route_model.specs.declared.places.Split.{Split}
use Rattle.route_model.specs.declared.places.Spot.{Spot}
use Rattle.route_model.specs.Costs.{cost_above_all}
use Rattle.route_model.specs.Parts.{ModelParts}
use Rattle.route_model.specs.PlaceParts.{NamedArc, SplitFits, dropping, high_place, low_place}
use Rattle.route_model.specs.Places.{root_place}
use Rattle.label_rules.specs.Admitted.{IsElementary}
use Rattle.label_rules.specs.Labels.{Forward, Setting, forward_label, root}
use Rattle.label_rules.specs.Leasts.{Both, Form, Full}
use Rattle.label_rules.specs.Spaces.{can_extend}
use Rattle.label_rules.specs.declared.label.Label.{Label}
use Rattle.proof_rules.specs.Counts.{Walk}
use Rattle.proof_rules.specs.Grows.{Grows}
use Rattle.proof_rules.specs.Nodes.{AtPlace, Close, CountClose, Fix, IsCountClose, IsFix, IsFixed, IsList, IsNode, ListWalks, SplitAt, first_boxes, listed_walks, node_rules, tree_at}
use Rattle.proof_rules.specs.PrefixTrees.{IsComplete, IsDemanded, IsTree, Step}
use Rattle.proof_rules.specs.Proofs.{AreBoth, IsProof, Proof, setting_of, table_at, walk_limit}
use Rattle.proof_rules.specs.Validity.{IsProofTree}
use Rattle.label_rules.proofs.ClosedTests.{join_test, join_test_decides}
use Rattle.label_rules.proofs.TestLemmas.{can_extend_decides}
use Rattle.label_rules.proofs.Examples.{fixing_back, fixing_fore, label, minus, priced_fore, small, tight_fore, unpriced_back, unpriced_fore}
use Rattle.proof_rules.proofs.GrowthLemmas.{elementary_step, empty_tree, tree_grows}
use Rattle.proof_rules.proofs.ListTests.{complete_by, goes_by, goes_on, is_complete, step_below, step_known}
use Rattle.proof_rules.proofs.TreeTests.{all_above, all_above_decides, are_defined, defined_by, is_table_of, proof_by}

-- six arcs, each with a variable of its own; the arcs into each of two customers sum to 1
abbrev var : ℕ → Var
var cost = record { low = pos 0; high = pos 2; cost = pos cost }

abbrev one_of : ℕ → ℕ → Row
one_of j k = record { low = Some (pos 1); high = Some (pos 1); terms = record { var = j; coef = pos 1 } ∷ record { var = k; coef = pos 1 } ∷ [] }

abbrev model_on : GraphParts → ModelParts
model_on g = record {
  vars = var 3 ∷ var 4 ∷ var 2 ∷ var 5 ∷ var 3 ∷ var 4 ∷ [];
  rows = one_of 0 3 ∷ one_of 1 2 ∷ [];
  sets = 2;
  graphs = g ∷ [];
  maps = ((0 ∷ []) ∷ (1 ∷ []) ∷ (2 ∷ []) ∷ (3 ∷ []) ∷ (4 ∷ []) ∷ (5 ∷ []) ∷ []) ∷ [];
}

-- multipliers on the rows, in units of 65,536, and a proof with one table
abbrev on_rows : ℕ → ℕ → Mult
on_rows first second = record { vars = []; rows = pos (65536 * first) ∷ pos (65536 * second) ∷ []; sets = []; cuts = []; paths = [] }

abbrev proof_of : Mult → Form → ℤ → List Label → List Label → Proof
proof_of mult form least fore back = record {
  mult = mult;
  cuts = [];
  near = [];
  tables = record { form = form; least = Some (pos 65536 *ℤ least); fore = fore; back = back } ∷ [];
}

-- room for two, a bound of 9 against 9: it closes at the root
abbrev pub wide : ModelParts
wide = model_on (small 2 0 2)

abbrev pub wide_root : Spot
wide_root = root_place wide

abbrev pub priced : Proof
priced = proof_of (on_rows 4 5) Full (pos 0) priced_fore []

priced_is_defined : are_defined wide wide_root.boxes priced.mult ≡ true
priced_is_defined = refl

priced_is_table : is_table_of (setting_of wide wide_root priced 0) (table_at priced.tables 0) ≡ true
unfolding has_set word_of set_of all_below is_subset
priced_is_table = refl

priced_is : IsProof wide wide_root priced
priced_is = proof_by wide wide_root priced refl refl refl priced_is_defined priced_is_table

pub closes : IsProofTree wide (pos 9) (Close priced ∷ [])
closes = ((priced_is, omega (arith, ints)), refl)

-- it does not close against 10
pub closes_not : ¬ (IsProofTree wide (pos 10) (Close priced ∷ []))
closes_not h = omega (arith, ints, h.0.1)

-- the nodes of a tree that lacks its end leave places open
abbrev halved : Split
halved = record { quantity = OfVar 0; at = pos 0 }

abbrev low : Spot
low = low_place wide_root halved

abbrev high : Spot
high = high_place wide_root halved

low_is_defined : are_defined wide low.boxes priced.mult ≡ true
low_is_defined = refl

low_is_table : is_table_of (setting_of wide low priced 0) (table_at priced.tables 0) ≡ true
unfolding has_set word_of set_of all_below is_subset
low_is_table = refl

low_is : IsProof wide low priced
low_is = proof_by wide low priced refl refl refl low_is_defined low_is_table

high_is_defined : are_defined wide high.boxes priced.mult ≡ true
high_is_defined = refl

high_is_table : is_table_of (setting_of wide high priced 0) (table_at priced.tables 0) ≡ true
unfolding has_set word_of set_of all_below is_subset
high_is_table = refl

high_is : IsProof wide high priced
high_is = proof_by wide high priced refl refl refl high_is_defined high_is_table

halves : SplitFits wide wide_root halved
halves = record { quantity = omega arith; low = omega (arith, ints); high = omega (arith, ints) }

pub splits : IsProofTree wide (pos 9) (SplitAt halved None ∷ Close priced ∷ Close priced ∷ [])
splits = (halves, ((low_is, omega (arith, ints)), ((high_is, omega (arith, ints)), refl)))

pub cut_short : Grows (node_rules wide (pos 9)) (AtPlace wide_root ∷ []) (SplitAt halved None ∷ Close priced ∷ []) (AtPlace high ∷ [])
cut_short = (halves, ((low_is, omega (arith, ints)), refl))

-- a split whose upper part is empty may not stand
pub splits_nothing : ¬ (IsNode wide (pos 9) (AtPlace wide_root) (SplitAt (record { quantity = OfVar 0; at = pos 2 }) None))
splits_nothing h = omega (arith, ints, h.high)

-- one path with room for one, and a bound of 43 against 43, one more than the cost of all variables at 2
abbrev pub narrow : ModelParts
narrow = model_on (small 1 1 1)

abbrev pub tight : Proof
tight = proof_of (on_rows 37 37) Full (minus 31) tight_fore []

abbrev narrow_root : Spot
narrow_root = root_place narrow

tight_is_defined : are_defined narrow narrow_root.boxes tight.mult ≡ true
tight_is_defined = refl

tight_is_table : is_table_of (setting_of narrow narrow_root tight 0) (table_at tight.tables 0) ≡ true
unfolding has_set word_of set_of all_below is_subset
tight_is_table = refl

tight_is : IsProof narrow narrow_root tight
tight_is = proof_by narrow narrow_root tight refl refl refl tight_is_defined tight_is_table

pub none_there : IsProofTree narrow (cost_above_all narrow) (Close tight ∷ [])
none_there = ((tight_is, omega (arith, ints)), refl)

-- a bound of 8 does not close against 9, but every join over three arcs is above the limit of a walk, -1
abbrev fixing : Proof
fixing = proof_of (on_rows 5 5) Both (minus 1) fixing_fore fixing_back

abbrev named : List NamedArc
named = (0, 1) ∷ (0, 3) ∷ (0, 4) ∷ []

abbrev dropped : Spot
dropped = dropping wide_root named

abbrev fewer : Proof
fewer = proof_of (on_rows 4 5) Full (pos 0) (label 0 (pos 0) 0 0 ∷ label 1 (minus 1) 1 1 ∷ label 2 (minus 4) 2 2 ∷ label 3 (pos 0) 2 0 ∷ []) []

fixing_is_defined : are_defined wide wide_root.boxes fixing.mult ≡ true
fixing_is_defined = refl

fixing_is_table : is_table_of (setting_of wide wide_root fixing 0) (table_at fixing.tables 0) ≡ true
unfolding has_set word_of set_of all_below is_subset
fixing_is_table = refl

fixing_is : IsProof wide wide_root fixing
fixing_is = proof_by wide wide_root fixing refl refl refl fixing_is_defined fixing_is_table

fewer_is_defined : are_defined wide dropped.boxes fewer.mult ≡ true
fewer_is_defined = refl

fewer_is_table : is_table_of (setting_of wide dropped fewer 0) (table_at fewer.tables 0) ≡ true
unfolding has_set word_of set_of all_below is_subset
fewer_is_table = refl

fewer_is : IsProof wide dropped fewer
fewer_is = proof_by wide dropped fewer refl refl refl fewer_is_defined fewer_is_table

above_1 : all_above (setting_of wide wide_root fixing 0) fixing_fore fixing_back (walk_limit wide wide_root fixing (pos 9) 0) 1 ≡ true
unfolding has_set word_of set_of all_below is_subset
above_1 = refl

above_3 : all_above (setting_of wide wide_root fixing 0) fixing_fore fixing_back (walk_limit wide wide_root fixing (pos 9) 0) 3 ≡ true
unfolding has_set word_of set_of all_below is_subset
above_3 = refl

above_4 : all_above (setting_of wide wide_root fixing 0) fixing_fore fixing_back (walk_limit wide wide_root fixing (pos 9) 0) 4 ≡ true
unfolding has_set word_of set_of all_below is_subset
above_4 = refl

both : AreBoth wide fixing
both zero l = refl
both (suc g) l = absurd (omega (arith, l))

fixed : (a : ℕ) → a < 6 → all_above (setting_of wide wide_root fixing 0) fixing_fore fixing_back (walk_limit wide wide_root fixing (pos 9) 0) a ≡ true → IsFixed wide (pos 9) wide_root fixing (0, a)
fixed a l h = (omega arith, l, (all_above_decides (setting_of wide wide_root fixing 0) fixing_fore fixing_back (walk_limit wide wide_root fixing (pos 9) 0) a).0 h)

fixes : IsFix wide (pos 9) wide_root fixing named
fixes = record {
  proof = fixing_is;
  both = both;
  each = All-cons (IsFixed wide (pos 9) wide_root fixing) (0, 1) ((0, 3) ∷ (0, 4) ∷ []) (fixed 1 (omega arith) above_1)
      (All-cons (IsFixed wide (pos 9) wide_root fixing) (0, 3) ((0, 4) ∷ []) (fixed 3 (omega arith) above_3)
      (All-cons (IsFixed wide (pos 9) wide_root fixing) (0, 4) [] (fixed 4 (omega arith) above_4) (All-nil (IsFixed wide (pos 9) wide_root fixing))));
}

pub drops : IsProofTree wide (pos 9) (Fix fixing named ∷ Close fewer ∷ [])
drops = (fixes, ((fewer_is, omega (arith, ints)), refl))

-- arc 0 may not be fixed: some join over it is at the limit
above_0 : all_above (setting_of wide wide_root fixing 0) fixing_fore fixing_back (walk_limit wide wide_root fixing (pos 9) 0) 0 ≡ false
unfolding has_set word_of set_of all_below is_subset
above_0 = refl

pub fixed_not : ¬ (IsFixed wide (pos 9) wide_root fixing (0, 0))
fixed_not h = false≢true (sym above_0 ∙ (all_above_decides (setting_of wide wide_root fixing 0) fixing_fore fixing_back (walk_limit wide wide_root fixing (pos 9) 0) 0).1 h.2)

-- without multipliers but with both lists whole, a list of the two walks of the narrow model, and multipliers that close
-- their counts: 37 + 37 - 29 - 2 is 43
abbrev zeros : Mult
zeros = record { vars = []; rows = []; sets = []; cuts = []; paths = [] }

abbrev pub listing : Proof
listing = proof_of zeros Both (pos 6) unpriced_fore unpriced_back

abbrev step : ℕ → ℕ → Step
step parent arc = record { parent = parent; arc = arc }

abbrev three : List Step
three = step 0 0 ∷ step 0 1 ∷ step 1 4 ∷ []

abbrev pub lines : List Step
lines = three ++ step 2 5 ∷ []

abbrev seen : Setting
seen = setting_of narrow narrow_root listing 0

abbrev most : Option ℤ
most = walk_limit narrow narrow_root listing (pos 43) 0

listing_defined : are_defined narrow narrow_root.boxes listing.mult ≡ true
listing_defined = refl

listing_table : is_table_of seen (table_at listing.tables 0) ≡ true
unfolding has_set word_of set_of all_below is_subset
listing_table = refl

listing_is : IsProof narrow narrow_root listing
listing_is = proof_by narrow narrow_root listing refl refl refl listing_defined listing_table

-- the tree grows step by step
none_yet : IsElementary seen [] 0
none_yet = record { leads = refl; passes = tt; open_arcs = tt; once = λ s. omega arith }

goes_0 : goes_on seen [] 0 0 ≡ true
unfolding has_set word_of set_of all_below is_subset
goes_0 = refl

goes_1 : goes_on seen [] 0 1 ≡ true
unfolding has_set word_of set_of all_below is_subset
goes_1 = refl

goes_4 : goes_on seen (0 ∷ []) 1 4 ≡ true
unfolding has_set word_of set_of all_below is_subset
goes_4 = refl

goes_5 : goes_on seen (1 ∷ []) 2 5 ≡ true
unfolding has_set word_of set_of all_below is_subset
goes_5 = refl

over_0 : IsElementary seen (0 ∷ []) 1
over_0 = elementary_step seen [] 0 0 none_yet (goes_by seen [] 0 0 goes_0)

over_1 : IsElementary seen (1 ∷ []) 2
over_1 = elementary_step seen [] 0 1 none_yet (goes_by seen [] 0 1 goes_1)

first_tree : IsTree seen (step 0 0 ∷ [])
first_tree = tree_grows seen [] (step 0 0) (empty_tree seen) (record { from = omega arith; new = λ h. omega (arith, h.1); arcs = []; prefix = refl; elementary = over_0 })

is_new : (steps : List Step) (k a : ℕ) → step_below steps k a (length steps) ≡ false → ¬ (Contains steps (step k a))
is_new steps k a none h = false≢true (sym none ∙ step_known steps k a h)

second_tree : IsTree seen (step 0 0 ∷ step 0 1 ∷ [])
second_tree = tree_grows seen (step 0 0 ∷ []) (step 0 1) first_tree (record { from = omega arith; new = is_new (step 0 0 ∷ []) 0 1 refl; arcs = []; prefix = refl; elementary = over_1 })

third_tree : IsTree seen three
third_tree = tree_grows seen (step 0 0 ∷ step 0 1 ∷ []) (step 1 4) second_tree (record {
  from = omega arith;
  new = is_new (step 0 0 ∷ step 0 1 ∷ []) 1 4 refl;
  arcs = 0 ∷ [];
  prefix = (0, record { within = omega arith; is = refl }, refl);
  elementary = elementary_step seen (0 ∷ []) 1 4 over_0 (goes_by seen (0 ∷ []) 1 4 goes_4);
})

whole_tree : IsTree seen lines
whole_tree = tree_grows seen three (step 2 5) third_tree (record {
  from = omega arith;
  new = is_new three 2 5 refl;
  arcs = 1 ∷ [];
  prefix = (1, record { within = omega arith; is = refl }, refl);
  elementary = elementary_step seen (1 ∷ []) 2 5 over_1 (goes_by seen (1 ∷ []) 2 5 goes_5);
})

lines_done : is_complete seen unpriced_back most lines ≡ true
unfolding has_set word_of set_of all_below is_subset
lines_done = refl

lists : IsList narrow (pos 43) narrow_root listing (lines ∷ [])
lists = record { proof = listing_is; both = both_there; count = refl; each = at }
  where
    both_there : AreBoth narrow listing
    both_there zero l = refl
    both_there (suc g) l = absurd (omega (arith, l))

    at : (g : ℕ) → g < 1 → IsComplete (setting_of narrow narrow_root listing g) (table_at listing.tables g).back (walk_limit narrow narrow_root listing (pos 43) g) (tree_at (lines ∷ []) g)
    at zero l = complete_by seen unpriced_back most lines whole_tree lines_done
    at (suc g) l = absurd (omega (arith, l))

-- without its last line the tree is not complete: arc 5 is demanded of the node over arc 1
joins_5 : join_test seen (forward_label seen (1 ∷ [])) 5 (label 3 (pos 0) 1 0) ≡ true
unfolding has_set word_of set_of all_below is_subset
joins_5 = refl

extends_1 : can_extend Forward seen (root Forward seen) 1 ≡ true
unfolding has_set word_of set_of all_below is_subset
extends_1 = refl

wanted : IsDemanded seen unpriced_back most (1 ∷ []) 5
wanted =
    let goes = goes_by seen (1 ∷ []) 2 5 goes_5 in
    record {
      takes = goes.takes;
      new = goes.new;
      label = ((can_extend_decides Forward seen (root Forward seen) 1).0 extends_1, tt);
      rest = label 3 (pos 0) 1 0;
      in_back = (0, omega arith, refl);
      joins = (join_test_decides seen (forward_label seen (1 ∷ [])) 5 (label 3 (pos 0) 1 0)).0 joins_5;
      within = omega (arith, ints);
    }

pub incomplete : ¬ (IsComplete seen unpriced_back most three)
incomplete h =
    let at = h.has_steps 2 (1 ∷ []) 5 (1, record { within = omega arith; is = refl }, refl) (λ e. omega (arith, e)) wanted in
    is_new three 2 5 refl (at.0, at.1.within, get_or_default three at.0 (step 2 5) (step 0 0) at.1.within ∙ at.1.is)

-- the counts of both walks close
abbrev walks : List Walk
walks = listed_walks narrow narrow_root listing (lines ∷ [])

abbrev pub priced_counts : Mult
priced_counts = record { vars = []; rows = pos 2424832 ∷ pos 2424832 ∷ []; sets = []; cuts = []; paths = minus 1900544 ∷ [] }

counts_defined : are_defined narrow narrow_root.boxes priced_counts ≡ true
counts_defined = refl

near_each : All (λ (w : Walk). IsWithin (2 ^ 88) (reduced_cost narrow [] priced_counts w.graph w.arcs)) walks
near_each zero d l = (omega (arith, ints), omega (arith, ints))
near_each (suc zero) d l = (omega (arith, ints), omega (arith, ints))
near_each (suc (suc k)) d l = absurd (omega (arith, l))

count_closes : IsCountClose narrow (pos 43) narrow_root walks (first_boxes narrow_root walks) priced_counts
count_closes = record { defined = defined_by narrow narrow_root.boxes priced_counts counts_defined; near = near_each; above = omega (arith, ints) }

pub lists_none : IsProofTree narrow (pos 43) (ListWalks listing (lines ∷ []) ∷ CountClose priced_counts ∷ [])
lists_none = (lists, (count_closes, refl))
