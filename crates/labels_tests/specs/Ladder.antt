-- The numbers 0 to 8 as labels: choices lead down by 3, 5 or 7, and a lesser number dominates a
-- greater, across three cells: the even ones, the odd ones, and 0.
use Rattle.std.specs.Prelude.{ℕ, ◌+◌, ◌-◌, ◌*◌, ◌%◌, pos, Some, ◌==◌, nat_le, if◌then◌else◌}
use Rattle.label_space.specs.Rules.{Rules}

-- the rules of the ladder
abbrev pub ladder_rules : Rules ℕ
ladder_rules = record {
  fits = λ n. nat_le n 8;
  root = 8;
  cells = 3;
  cell = λ n. if n == 0 then 2 else n % 2;
  degree = λ _. 3;
  level = λ n. pos n;
  extend = λ n k. Some (n - (2 * k + 3));
  dominates = nat_le;
}
