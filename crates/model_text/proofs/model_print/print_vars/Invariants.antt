use Rattle.std.proofs.Common.{◌≡◌, ◌++◌, take}
use Rattle.std.specs.List.{flat_map}
use Rattle.model_text.specs.ModelText.{var_line}
use Rattle.model_text.proofs.model_print.print_vars.Given as goal

abbrev pub invariant-loop-var : goal.invariant-loop-var
invariant-loop-var l = l.text ≡ l.initial.text ++ flat_map var_line (take l.var-index l.vars)
