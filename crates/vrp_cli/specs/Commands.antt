-- The parts of an input that a command reads.
use Rattle.std.specs.Prelude.{ℕ, List, take, drop}
use Rattle.model_text.specs.ModelEnd.{model_end}
use Rattle.command_words.specs.declared.command.Command.{Command}
use Rattle.command_words.specs.declared.command.Command.TheVariants.{Solve, Print, Eval, Check}

-- the model text of an input: all of it, but for `eval` and `check`, which read one up to and with the first line that begins
-- with `end`
abbrev pub model_part : Command → List ℕ → List ℕ
model_part (Solve limits) input = input
model_part Print input = input
model_part Eval input = take (model_end input) input
model_part Check input = take (model_end input) input

-- what stands behind the model text of an input: the path text of `eval`, or the text of the certificate of `check`
abbrev pub second_part : List ℕ → List ℕ
second_part input = drop (model_end input) input
