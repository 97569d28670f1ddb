-- A VRPTW text as a table of numbers.
use Rattle.std.specs.Prelude.{◌≡◌, ℕ, ℤ, pos, List, [], ◌∷◌, map, if◌then◌else◌, Option, None, Some, unwrap_or, Err}
use Rattle.std.specs.List.{filter_map}
use Rattle.vrp_lex.specs.Text.{lines_of, number_of}
use Rattle.route_tasks.specs.declared.task.Stop.{Stop}
use Rattle.route_tasks.specs.declared.task.RouteTask.{RouteTask}
use Rattle.route_tasks.specs.declared.task.Style.TheVariants as style
use Rattle.route_tasks.specs.Fit.{TaskFits}
use Rattle.route_texts.specs.declared.fault.RouteError.{RouteError}
use Rattle.route_texts.specs.declared.fault.RouteError.TheVariants as error
use Rattle.route_texts.specs.Words.{Words, words_in}
use Rattle.route_texts.specs.Vrptw.{is_row, vrptw_read}

-- the numbers of words
abbrev pub values_of : Words → List ℤ
values_of words = map (λ w. unwrap_or (number_of w) (pos 0)) words

-- the rows of a text: the numbers of each line that has words, where each word is a number
abbrev pub row_of : List ℕ → Option (List ℤ)
row_of line = if is_row (words_in line) then Some (values_of (words_in line)) else None

abbrev pub rows_of : List ℕ → List (List ℤ)
rows_of text = filter_map row_of (lines_of text)

-- the rows of a task: the fleet, the depot and each customer
abbrev pub stop_row : Stop → List ℤ
stop_row s = pos s.number ∷ s.x ∷ s.y ∷ s.demand ∷ s.ready ∷ s.due ∷ s.service ∷ []

abbrev pub rows_of_task : RouteTask → List (List ℤ)
rows_of_task t = (pos t.vehicles ∷ t.capacity ∷ []) ∷ stop_row t.depot ∷ map stop_row t.stops

-- A text says a task: its rows are those of the task, which lies within the limits and counts tenths.
pub record SaysVrptw (text : List ℕ) (task : RouteTask) : Type 0 where
  pub rows : rows_of text ≡ rows_of_task task
  pub tenths : task.style ≡ style.Tenths
  pub fits : TaskFits task

-- the first fault of a text, which then says no task; running out of memory says nothing
abbrev pub IsVrptwRefusal : List ℕ → RouteError → Type 0
IsVrptwRefusal text error.Memory = Unit {0}
IsVrptwRefusal text (error.Text fault) = (vrptw_read text ≡ Err fault) × ((task : RouteTask) → SaysVrptw text task → ⊥)
