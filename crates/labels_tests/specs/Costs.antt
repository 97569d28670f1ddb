-- Labels with a state from 0 to 3 and a cost: the root leads to the states 1 and 2, each of which leads to the state 3 at
-- the costs 5, 3, 1 and 1. Labels of one state are compared by cost.
use Rattle.std.specs.Prelude.{ℕ, ◌+◌, pos, Option, Some, ◌==◌, ◌&&◌, nat_le, if◌then◌else◌}
use Rattle.label_space.specs.Rules.{Rules}
use Rattle.labels_tests.specs.declared.costs.Paid.{Paid}

-- a label with this state and this cost
abbrev pub paid : ℕ → ℕ → Paid
paid s c = record { state = s; cost = c }

-- how many choices a state has
abbrev pub choices : ℕ → ℕ
choices s = if s == 0 then 2 else (if s == 3 then 0 else 4)

-- what a state leads to
abbrev pub next_label : ℕ → ℕ → Paid
next_label s k = if s == 0 then paid (1 + k) 0 else paid 3 (if k == 0 then 5 else (if k == 1 then 3 else 1))

-- the rules of states and costs
abbrev pub cost_rules : Rules Paid
cost_rules = record {
  fits = λ l. nat_le l.state 3;
  root = paid 0 0;
  cells = 4;
  cell = λ l. l.state;
  degree = λ l. choices l.state;
  level = λ l. pos l.state;
  extend = λ l k. Some (next_label l.state k);
  dominates = λ a b. (a.state == b.state) && nat_le a.cost b.cost;
}
