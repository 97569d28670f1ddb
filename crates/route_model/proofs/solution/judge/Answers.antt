use Rattle.std.proofs.Common.{◌∙◌, w64}
use Rattle.std.proofs.lemmas.Int.{to_z-of_z}
use Rattle.route_model.proofs.solution.judge.Goals as goal

pub returns-in-Some-first_bad_var : goal.returns-in-Some-first_bad_var
returns-in-Some-first_bad_var c =
    (c.in_default.ensures, c.in_default-first_bad_count.ensures, c.in_default-first_bad_set.ensures, c.in-Some-first_bad_var.ensures)

pub returns-in-Some-first_bad_row : goal.returns-in-Some-first_bad_row
returns-in-Some-first_bad_row c =
    (c.in_default.ensures, c.in_default-first_bad_count.ensures, c.in_default-first_bad_set.ensures, c.in_default-first_bad_var.ensures, c.in-Some-first_bad_row.ensures)

pub returns : goal.returns
returns c = (
  record {
    paths = c.in_default.ensures;
    counts = c.in_default-first_bad_count.ensures;
    sets = c.in_default-first_bad_set.ensures;
    vars = c.in_default-first_bad_var.ensures;
    rows = c.in_default-first_bad_row.ensures;
  },
  to_z-of_z w64 c.plan_cost.result (record { sfits = c.plan_cost.type_inv }) ∙ c.plan_cost.ensures,
)
