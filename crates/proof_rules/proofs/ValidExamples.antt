-- Worked certificates: a plan of cost 9 and a tree that closes at its root are valid, with another cost they are not; of a model
-- without solutions, a tree that closes and one that lists walks are.
use Rattle.std.proofs.Common.{◌≡◌, ◌≢◌, ℕ, zero, suc, ◌<◌, true, ℤ, pos, [], ◌∷◌, refl, sym, arith}
use Rattle.std.proofs.lemmas.Int.{ints}
use Rattle.path_graph.specs.SetBits.{has_set, word_of, set_of, all_below, is_subset}
use Rattle.path_graph.specs.Walk.{IsFeasibleWalk}
use Rattle.route_model.specs.declared.plan.Plan.{Plan}
use Rattle.route_model.specs.Parts.{graph_at}
use Rattle.route_model.specs.Solution.{ArePaths, CountFits, InBox, IsSolution, RowHolds, SetFits}
use Rattle.label_rules.specs.Labels.{CanExtend, Forward, Setting, extended, root}
use Rattle.label_rules.specs.Spaces.{can_extend}
use Rattle.label_rules.specs.declared.label.Label.{Label}
use Rattle.proof_rules.specs.Nodes.{Close, CountClose, ListWalks}
use Rattle.proof_rules.specs.Proofs.{setting_of}
use Rattle.proof_rules.specs.Validity.{Certificate, Infeasible, IsValid, Optimal}
use Rattle.label_rules.proofs.TestLemmas.{can_extend_decides}
use Rattle.proof_rules.proofs.Examples.{closes, lines, listing, lists_none, narrow, none_there, priced, priced_counts, tight, wide, wide_root}

abbrev plan : Plan
plan = record { paths = record { graph = 0; count = 1; arcs = 0 ∷ 2 ∷ 5 ∷ [] } ∷ [] }

abbrev seen : Setting
seen = setting_of wide wide_root priced 0

abbrev first : Label
first = root Forward seen

abbrev second : Label
second = extended Forward seen first 0

abbrev third : Label
third = extended Forward seen second 2

first_test : can_extend Forward seen first 0 ≡ true
unfolding has_set word_of set_of all_below is_subset
first_test = refl

second_test : can_extend Forward seen second 2 ≡ true
unfolding has_set word_of set_of all_below is_subset
second_test = refl

third_test : can_extend Forward seen third 5 ≡ true
unfolding has_set word_of set_of all_below is_subset
third_test = refl

goes : (l : Label) (a : ℕ) → can_extend Forward seen l a ≡ true → CanExtend Forward seen l a
goes l a = (can_extend_decides Forward seen l a).0

walks : IsFeasibleWalk (graph_at wide 0) (0 ∷ 2 ∷ 5 ∷ [])
walks = record {
  walk = (omega (arith), refl, (omega (arith), refl, (omega (arith), refl, refl)));
  passes = ((goes first 0 first_test).values, ((goes second 2 second_test).values, ((goes third 5 third_test).values, tt)));
}

paths : ArePaths wide plan
paths zero l = record { graph = omega (arith); count = omega (arith); walk = walks }
paths (suc i) l = absurd (omega (arith, l))

visited : (s : ℕ) → s < 2 → SetFits wide plan s
visited zero l = omega (arith)
visited (suc zero) l = omega (arith)
visited (suc (suc s)) l = absurd (omega (arith, l))

in_box : (j : ℕ) → j < 6 → InBox wide plan j
in_box zero l = (omega (arith, ints), omega (arith, ints))
in_box (suc zero) l = (omega (arith, ints), omega (arith, ints))
in_box (suc (suc zero)) l = (omega (arith, ints), omega (arith, ints))
in_box (suc (suc (suc zero))) l = (omega (arith, ints), omega (arith, ints))
in_box (suc (suc (suc (suc zero)))) l = (omega (arith, ints), omega (arith, ints))
in_box (suc (suc (suc (suc (suc zero))))) l = (omega (arith, ints), omega (arith, ints))
in_box (suc (suc (suc (suc (suc (suc j)))))) l = absurd (omega (arith, l))

holds : (i : ℕ) → i < 2 → RowHolds wide plan i
holds zero l = (omega (arith, ints), omega (arith, ints))
holds (suc zero) l = (omega (arith, ints), omega (arith, ints))
holds (suc (suc i)) l = absurd (omega (arith, l))

counted : (g : ℕ) → g < 1 → CountFits wide.graphs plan g
counted zero l = (omega (arith), omega (arith))
counted (suc g) l = absurd (omega (arith, l))

solves : IsSolution wide plan
solves = record { paths = paths; counts = counted; sets = visited; vars = in_box; rows = holds }

abbrev certificate : ℤ → Certificate
certificate cost = record { claim = Optimal cost plan; nodes = Close priced ∷ [] }

pub valid : IsValid wide (certificate (pos 9))
valid = record { solution = solves; is = refl; tree = closes }

pub not_valid : (cost : ℤ) → cost ≢ pos 9 → ¬ (IsValid wide (certificate cost))
not_valid cost other v = other (sym v.is)

-- no solution: a tree that closes at once, and one that lists the walks and closes their counts
pub refuses : IsValid narrow (record { claim = Infeasible; nodes = Close tight ∷ [] })
refuses = none_there

pub refuses_counts : IsValid narrow (record { claim = Infeasible; nodes = ListWalks listing (lines ∷ []) ∷ CountClose priced_counts ∷ [] })
refuses_counts = lists_none
