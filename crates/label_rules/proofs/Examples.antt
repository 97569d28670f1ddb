-- Worked tables: two models, with the tables of certificates of theirs, whole, half and both, proved by computing.
use Rattle.std.proofs.Common.{◌≡◌, ℕ, true, false, ℤ, pos, neg_ℤ, ◌*ℤ◌, Option, None, Some, List, [], ◌∷◌, ◌∙◌, refl, sym}
use Rattle.std.specs.Prelude.{replicate}
use Rattle.std.proofs.lemmas.Bool.{false≢true}
use Rattle.path_graph.specs.declared.parts.Vertex.{Vertex}
use Rattle.path_graph.specs.declared.parts.GraphArc.{GraphArc}
use Rattle.path_graph.specs.declared.parts.Window.{Window}
use Rattle.path_graph.specs.declared.set_bits.SetBits.{SetBits}
use Rattle.path_graph.specs.Fit.{int_at}
use Rattle.path_graph.specs.SetBits.{has_set, word_of, set_of, all_below, is_subset}
use Rattle.path_graph.specs.Walk.{GraphParts}
use Rattle.rank1_cuts.specs.declared.cut.Cut.{Cut}
use Rattle.label_rules.specs.Dominance.{Dominates}
use Rattle.label_rules.specs.Labels.{Forward, Label, Setting}
use Rattle.label_rules.specs.Leasts.{Both, Full, Half, IsLeast, IsTable}
use Rattle.label_rules.proofs.ClosedTests.{is_table, is_table_decides, is_least, is_least_decides, dominates_test, dominates_test_decides}

-- a window from 0 to a high end, and five that are not used
abbrev pub windows : ℕ → List Window
windows high = record { low = pos 0; high = pos high } ∷ replicate 5 (record { low = pos 0; high = pos 0 })

abbrev pub vertex : ℕ → Option ℕ → Vertex
vertex high set = record { set = set; windows = windows high }

abbrev pub arc : ℕ → ℕ → ℕ → GraphArc
arc tail head need = record { tail = tail; head = head; needs = pos need ∷ replicate 5 (pos 0) }

-- from 0 to 3, over 1 in set 0 and 2 in set 1, with room for so many, and so many paths
abbrev pub small : ℕ → ℕ → ℕ → GraphParts
small high least most = record {
  ends = record { source = 0; sink = 3; low = least; high = most; mains = 1; seconds = 0 };
  vertices = vertex high None ∷ vertex high (Some 0) ∷ vertex high (Some 1) ∷ vertex high None ∷ [];
  arcs = arc 0 1 1 ∷ arc 0 2 1 ∷ arc 1 2 1 ∷ arc 2 1 1 ∷ arc 1 3 0 ∷ arc 2 3 0 ∷ [];
}

-- costs in units of 65,536
abbrev units : List ℤ → ℕ → ℤ
units costs a = pos 65536 *ℤ int_at costs a

abbrev plain : GraphParts → List ℤ → Setting
plain g costs = record {
  graph = g;
  near = [];
  is_shut = λ a. false;
  arc_cost = units costs;
  set_cost = λ s. pos 0;
  start = pos 0;
  cuts = [];
  weights = [];
}

-- the sets whose numbers are the bits of a word
abbrev pub sets : ℕ → SetBits
sets word = record { bits = word ∷ replicate 7 0 }

-- a label: vertex, cost in units, value of the one resource, memory as a word, states
abbrev pub label_with : ℕ → ℤ → ℕ → ℕ → List ℕ → Label
label_with v cost value memory states = record {
  vertex = v;
  values = record { at = pos value ∷ replicate 5 (pos 0) };
  memory = sets memory;
  states = states;
  cost = pos 65536 *ℤ cost;
}

abbrev pub label : ℕ → ℤ → ℕ → ℕ → Label
label v cost value memory = label_with v cost value memory (replicate 64 0)

abbrev pub minus : ℕ → ℤ
minus n = neg_ℤ (pos n)

-- room 2; the rows of the two sets have multipliers 4 and 5
abbrev priced : Setting
priced = plain (small 2 0 2) (minus 1 ∷ minus 1 ∷ minus 3 ∷ pos 1 ∷ pos 3 ∷ pos 4 ∷ [])

abbrev pub priced_fore : List Label
priced_fore = label 0 (pos 0) 0 0 ∷ label 1 (minus 1) 1 1 ∷ label 2 (minus 1) 1 2 ∷ label 2 (minus 4) 2 2 ∷ label 3 (pos 2) 1 0 ∷ label 3 (pos 0) 2 0 ∷ []

priced_closed_test : is_table priced Full priced_fore [] ≡ true
unfolding has_set word_of set_of all_below is_subset
priced_closed_test = refl

pub priced_closed : IsTable priced Full priced_fore []
priced_closed = (is_table_decides priced Full priced_fore []).0 priced_closed_test

priced_least_test : is_least priced Full priced_fore [] (Some (pos 0)) ≡ true
unfolding has_set word_of set_of all_below is_subset
priced_least_test = refl

pub priced_least : IsLeast priced Full priced_fore [] (Some (pos 0))
priced_least = (is_least_decides priced Full priced_fore [] (Some (pos 0))).0 priced_least_test

-- 1 is no least, and to name none is none either
priced_not_above_test : is_least priced Full priced_fore [] (Some (pos 65536)) ≡ false
unfolding has_set word_of set_of all_below is_subset
priced_not_above_test = refl

pub priced_not_above : ¬ (IsLeast priced Full priced_fore [] (Some (pos 65536)))
priced_not_above h = false≢true (sym priced_not_above_test ∙ (is_least_decides priced Full priced_fore [] (Some (pos 65536))).1 h)

priced_not_none_test : is_least priced Full priced_fore [] None ≡ false
unfolding has_set word_of set_of all_below is_subset
priced_not_none_test = refl

pub priced_not_none : ¬ (IsLeast priced Full priced_fore [] None)
priced_not_none h = false≢true (sym priced_not_none_test ∙ (is_least_decides priced Full priced_fore [] None).1 h)

-- without the label at vertex 2 with value 2 the list is not closed: the extension of the label at vertex 1 has no dominator
abbrev priced_without : List Label
priced_without = label 0 (pos 0) 0 0 ∷ label 1 (minus 1) 1 1 ∷ label 2 (minus 1) 1 2 ∷ label 3 (pos 2) 1 0 ∷ label 3 (pos 0) 2 0 ∷ []

without_not_closed_test : is_table priced Full priced_without [] ≡ false
unfolding has_set word_of set_of all_below is_subset
without_not_closed_test = refl

pub without_not_closed : ¬ (IsTable priced Full priced_without [])
without_not_closed h = false≢true (sym without_not_closed_test ∙ (is_table_decides priced Full priced_without []).1 h)

-- without the root it is not closed
abbrev priced_rootless : List Label
priced_rootless = label 1 (minus 1) 1 1 ∷ label 2 (minus 1) 1 2 ∷ label 2 (minus 4) 2 2 ∷ label 3 (pos 2) 1 0 ∷ label 3 (pos 0) 2 0 ∷ []

rootless_not_closed_test : is_table priced Full priced_rootless [] ≡ false
unfolding has_set word_of set_of all_below is_subset
rootless_not_closed_test = refl

pub rootless_not_closed : ¬ (IsTable priced Full priced_rootless [])
rootless_not_closed h = false≢true (sym rootless_not_closed_test ∙ (is_table_decides priced Full priced_rootless []).1 h)

-- room 1, exactly one path; both multipliers are 37
abbrev tight : Setting
tight = plain (small 1 1 1) (minus 34 ∷ minus 33 ∷ minus 35 ∷ minus 32 ∷ pos 3 ∷ pos 4 ∷ [])

abbrev pub tight_fore : List Label
tight_fore = label 0 (pos 0) 0 0 ∷ label 1 (minus 34) 1 1 ∷ label 2 (minus 33) 1 2 ∷ label 3 (minus 31) 1 0 ∷ []

tight_closed_test : is_table tight Full tight_fore [] ≡ true
unfolding has_set word_of set_of all_below is_subset
tight_closed_test = refl

pub tight_closed : IsTable tight Full tight_fore []
tight_closed = (is_table_decides tight Full tight_fore []).0 tight_closed_test

tight_least_test : is_least tight Full tight_fore [] (Some (minus 2031616)) ≡ true
unfolding has_set word_of set_of all_below is_subset
tight_least_test = refl

pub tight_least : IsLeast tight Full tight_fore [] (Some (minus 2031616))
tight_least = (is_least_decides tight Full tight_fore [] (Some (minus 2031616))).0 tight_least_test

-- the same without multipliers, both lists whole
abbrev unpriced : Setting
unpriced = plain (small 1 1 1) (pos 3 ∷ pos 4 ∷ pos 2 ∷ pos 5 ∷ pos 3 ∷ pos 4 ∷ [])

abbrev pub unpriced_fore : List Label
unpriced_fore = label 0 (pos 0) 0 0 ∷ label 1 (pos 3) 1 1 ∷ label 2 (pos 4) 1 2 ∷ label 3 (pos 6) 1 0 ∷ []

abbrev pub unpriced_back : List Label
unpriced_back = label 3 (pos 0) 1 0 ∷ label 1 (pos 3) 1 1 ∷ label 2 (pos 4) 1 2 ∷ label 0 (pos 6) 0 0 ∷ []

unpriced_closed_test : is_table unpriced Both unpriced_fore unpriced_back ≡ true
unfolding has_set word_of set_of all_below is_subset
unpriced_closed_test = refl

pub unpriced_closed : IsTable unpriced Both unpriced_fore unpriced_back
unpriced_closed = (is_table_decides unpriced Both unpriced_fore unpriced_back).0 unpriced_closed_test

unpriced_least_test : is_least unpriced Both unpriced_fore unpriced_back (Some (pos 393216)) ≡ true
unfolding has_set word_of set_of all_below is_subset
unpriced_least_test = refl

pub unpriced_least : IsLeast unpriced Both unpriced_fore unpriced_back (Some (pos 393216))
unpriced_least = (is_least_decides unpriced Both unpriced_fore unpriced_back (Some (pos 393216))).0 unpriced_least_test

-- a half pair with threshold 1 for the first setting
abbrev pub half_fore : List Label
half_fore = label 0 (pos 0) 0 0 ∷ label 1 (minus 1) 1 1 ∷ label 2 (minus 1) 1 2 ∷ []

abbrev pub half_back : List Label
half_back = label 3 (pos 0) 2 0 ∷ label 1 (pos 3) 2 1 ∷ label 2 (pos 4) 2 2 ∷ []

half_closed_test : is_table priced (Half (pos 1)) half_fore half_back ≡ true
unfolding has_set word_of set_of all_below is_subset
half_closed_test = refl

pub half_closed : IsTable priced (Half (pos 1)) half_fore half_back
half_closed = (is_table_decides priced (Half (pos 1)) half_fore half_back).0 half_closed_test

half_least_test : is_least priced (Half (pos 1)) half_fore half_back (Some (pos 0)) ≡ true
unfolding has_set word_of set_of all_below is_subset
half_least_test = refl

pub half_least : IsLeast priced (Half (pos 1)) half_fore half_back (Some (pos 0))
half_least = (is_least_decides priced (Half (pos 1)) half_fore half_back (Some (pos 0))).0 half_least_test

half_not_above_test : is_least priced (Half (pos 1)) half_fore half_back (Some (pos 65536)) ≡ false
unfolding has_set word_of set_of all_below is_subset
half_not_above_test = refl

pub half_not_above : ¬ (IsLeast priced (Half (pos 1)) half_fore half_back (Some (pos 65536)))
half_not_above h = false≢true (sym half_not_above_test ∙ (is_least_decides priced (Half (pos 1)) half_fore half_back (Some (pos 65536))).1 h)

-- with the threshold below the source's low end it is no closed table, nor without its label back at vertex 1
low_threshold_test : is_table priced (Half (minus 1)) half_fore half_back ≡ false
unfolding has_set word_of set_of all_below is_subset
low_threshold_test = refl

pub low_threshold : ¬ (IsTable priced (Half (minus 1)) half_fore half_back)
low_threshold h = false≢true (sym low_threshold_test ∙ (is_table_decides priced (Half (minus 1)) half_fore half_back).1 h)

abbrev half_back_without : List Label
half_back_without = label 3 (pos 0) 2 0 ∷ label 2 (pos 4) 2 2 ∷ []

half_not_closed_test : is_table priced (Half (pos 1)) half_fore half_back_without ≡ false
unfolding has_set word_of set_of all_below is_subset
half_not_closed_test = refl

pub half_not_closed : ¬ (IsTable priced (Half (pos 1)) half_fore half_back_without)
half_not_closed h = false≢true (sym half_not_closed_test ∙ (is_table_decides priced (Half (pos 1)) half_fore half_back_without).1 h)

-- both multipliers are 5, both lists whole
abbrev fixing : Setting
fixing = plain (small 2 0 2) (minus 2 ∷ minus 1 ∷ minus 3 ∷ pos 0 ∷ pos 3 ∷ pos 4 ∷ [])

abbrev pub fixing_fore : List Label
fixing_fore = label 0 (pos 0) 0 0 ∷ label 1 (minus 2) 1 1 ∷ label 2 (minus 1) 1 2 ∷ label 2 (minus 5) 2 2 ∷ label 3 (pos 1) 1 0 ∷ label 3 (minus 1) 2 0 ∷ []

abbrev pub fixing_back : List Label
fixing_back = label 3 (pos 0) 2 0 ∷ label 1 (pos 3) 2 1 ∷ label 2 (pos 4) 2 2 ∷ label 1 (pos 1) 1 1 ∷ label 2 (pos 3) 1 2 ∷ label 2 (pos 1) 0 2 ∷ label 1 (pos 0) 0 1 ∷ label 0 (pos 1) 1 0 ∷ label 0 (minus 1) 0 0 ∷ []

fixing_closed_test : is_table fixing Both fixing_fore fixing_back ≡ true
unfolding has_set word_of set_of all_below is_subset
fixing_closed_test = refl

pub fixing_closed : IsTable fixing Both fixing_fore fixing_back
fixing_closed = (is_table_decides fixing Both fixing_fore fixing_back).0 fixing_closed_test

fixing_least_test : is_least fixing Both fixing_fore fixing_back (Some (minus 65536)) ≡ true
unfolding has_set word_of set_of all_below is_subset
fixing_least_test = refl

pub fixing_least : IsLeast fixing Both fixing_fore fixing_back (Some (minus 65536))
fixing_least = (is_least_decides fixing Both fixing_fore fixing_back (Some (minus 65536))).0 fixing_least_test

-- three customers of which two fit a path, with a cut on their sets of weight 2
abbrev trio : GraphParts
trio = record {
  ends = record { source = 0; sink = 4; low = 0; high = 3; mains = 1; seconds = 0 };
  vertices = vertex 2 None ∷ vertex 2 (Some 0) ∷ vertex 2 (Some 1) ∷ vertex 2 (Some 2) ∷ vertex 2 None ∷ [];
  arcs = arc 0 1 1 ∷ arc 0 2 1 ∷ arc 0 3 1 ∷ arc 1 2 1 ∷ arc 1 3 1 ∷ arc 2 1 1 ∷ arc 2 3 1 ∷ arc 3 1 1 ∷ arc 3 2 1 ∷ arc 1 4 0 ∷ arc 2 4 0 ∷ arc 3 4 0 ∷ [];
}

abbrev one_half : Cut
one_half = record { den = 2; sets = record { set = 0; num = 1 } ∷ record { set = 1; num = 1 } ∷ record { set = 2; num = 1 } ∷ []; memory = sets 7 }

abbrev cut_setting : Setting
cut_setting = record (plain trio (pos 0 ∷ pos 0 ∷ pos 0 ∷ minus 2 ∷ minus 2 ∷ minus 2 ∷ minus 2 ∷ minus 2 ∷ minus 2 ∷ [])) { cuts = one_half ∷ []; weights = 131072 ∷ [] }

abbrev stated : ℕ → ℕ → ℕ → ℕ → Label
stated v value memory state = label_with v (pos 0) value memory (state ∷ replicate 63 0)

abbrev cut_fore : List Label
cut_fore = stated 0 0 0 0 ∷ stated 1 1 1 1 ∷ stated 2 1 2 1 ∷ stated 3 1 4 1 ∷ stated 1 2 1 0 ∷ stated 2 2 2 0 ∷ stated 3 2 4 0 ∷ stated 4 1 0 1 ∷ stated 4 2 0 0 ∷ []

cut_closed_test : is_table cut_setting Full cut_fore [] ≡ true
unfolding has_set word_of set_of all_below is_subset
cut_closed_test = refl

pub cut_closed : IsTable cut_setting Full cut_fore []
cut_closed = (is_table_decides cut_setting Full cut_fore []).0 cut_closed_test

cut_least_test : is_least cut_setting Full cut_fore [] (Some (pos 0)) ≡ true
unfolding has_set word_of set_of all_below is_subset
cut_least_test = refl

pub cut_least : IsLeast cut_setting Full cut_fore [] (Some (pos 0))
cut_least = (is_least_decides cut_setting Full cut_fore [] (Some (pos 0))).0 cut_least_test

-- the label with state 1 does not dominate the one with state 0, though it costs no more and has used less
apart_test : dominates_test Forward cut_setting (stated 2 1 2 1) (stated 2 2 2 0) ≡ false
unfolding has_set word_of set_of all_below is_subset
apart_test = refl

pub apart : ¬ (Dominates Forward cut_setting (stated 2 1 2 1) (stated 2 2 2 0))
apart h = false≢true (sym apart_test ∙ (dominates_test_decides Forward cut_setting (stated 2 1 2 1) (stated 2 2 2 0)).1 h)

-- so without the latter the list is not closed
abbrev cut_without : List Label
cut_without = stated 0 0 0 0 ∷ stated 1 1 1 1 ∷ stated 2 1 2 1 ∷ stated 3 1 4 1 ∷ stated 1 2 1 0 ∷ stated 3 2 4 0 ∷ stated 4 1 0 1 ∷ stated 4 2 0 0 ∷ []

cut_without_not_closed_test : is_table cut_setting Full cut_without [] ≡ false
unfolding has_set word_of set_of all_below is_subset
cut_without_not_closed_test = refl

pub cut_without_not_closed : ¬ (IsTable cut_setting Full cut_without [])
cut_without_not_closed h = false≢true (sym cut_without_not_closed_test ∙ (is_table_decides cut_setting Full cut_without []).1 h)
