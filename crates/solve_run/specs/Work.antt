-- What is left to do of a search: it falls at every round.
use Rattle.std.specs.Prelude.{ℕ, ◌+◌, ◌*◌, ◌-◌, suc, ◌-ℤ◌, unsigned_abs, Bool, true, false}
use Rattle.route_model.specs.Costs.{least_box_cost}
use Rattle.route_model.specs.Parts.{ModelParts}
use Rattle.search_tree.specs.declared.search.Search.{Search}
use Rattle.search_tree.specs.Search.{made_in}

abbrev pub to_test : Bool → ℕ
to_test true = 0
to_test false = 1

-- the costs below the cost to beat, each with a test of the nodes; and within these the nodes that may be made
abbrev pub work_left : ModelParts → ℕ → Search → ℕ
work_left m nodes s = (2 * unsigned_abs (s.z -ℤ least_box_cost m) + to_test s.is_tested) * suc nodes + (nodes - made_in s)
