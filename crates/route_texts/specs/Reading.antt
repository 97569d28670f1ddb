-- How the lines of a routing text are read one after the other, and the first fault of a text.
use Rattle.std.specs.Prelude.{ℕ, ◌+◌, List, [], ◌∷◌, Bool, if◌then◌else◌, Result, Ok, Err}
use Rattle.vrp_lex.specs.Text.{lines_of}
use Rattle.route_tasks.specs.declared.task.RouteTask.{RouteTask}
use Rattle.route_texts.specs.declared.fault.RouteKind.{RouteKind}
use Rattle.route_texts.specs.declared.fault.RouteFault.{RouteFault}

-- what is said before the first line, and with one more line; the lines behind which no other is read; and the task that all say
pub record Reading (D : Type 0) : Type 0 where
  pub empty : D
  pub line : D → List ℕ → Result D RouteKind
  pub ends : List ℕ → Bool
  pub task : D → Result RouteTask RouteKind

-- a fault in a line has the number of the line
abbrev pub at_line : {A : Type 0} → ℕ → Result A RouteKind → Result A RouteFault
at_line number (Ok x) = Ok x
at_line number (Err kind) = Err (record { line = number; kind = kind })

abbrev pub go_on : {A B : Type 0} → Result A RouteFault → (A → Result B RouteFault) → Result B RouteFault
go_on (Ok x) next = next x
go_on (Err fault) next = Err fault

-- the lines from this number on: the first fault is that of the first faulty line; what is missing has the line after the last
abbrev pub lines_read : {D : Type 0} → Reading D → D → ℕ → List (List ℕ) → Result RouteTask RouteFault
lines_read r d number [] = at_line number (r.task d)
lines_read r d number (line ∷ lines) =
    go_on (at_line number (r.line d line))
    (λ next. if r.ends line then at_line (number + 1) (r.task next) else lines_read r next (number + 1) lines)

-- the task of a text, or its first fault
abbrev pub text_read : {D : Type 0} → Reading D → List ℕ → Result RouteTask RouteFault
text_read r text = lines_read r r.empty 1 (lines_of text)
