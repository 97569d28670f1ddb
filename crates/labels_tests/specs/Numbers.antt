-- The numbers 1 to 127 as labels: n leads to 2n and to 2n + 1, and each dominates itself alone.
use Rattle.std.specs.Prelude.{ℕ, ◌+◌, ◌*◌, ◌%◌, pos, Some, ◌==◌, ◌&&◌, nat_le, if◌then◌else◌}
use Rattle.label_space.specs.Rules.{Rules}

-- the rules of the numbers
abbrev pub number_rules : Rules ℕ
number_rules = record {
  fits = λ n. nat_le 1 n && nat_le n 127;
  root = 1;
  cells = 4;
  cell = λ n. n % 4;
  degree = λ n. if nat_le n 63 then 2 else 0;
  level = λ n. pos n;
  extend = λ n k. Some (2 * n + k);
  dominates = λ a b. a == b;
}
