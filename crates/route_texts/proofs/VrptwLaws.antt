-- What a reader of VRPTW texts gives, in terms of rows.
use Rattle.std.proofs.Common.{◌≡◌, ℕ, ◌+◌, List, [], ◌∷◌, ap, sym, ◌∙◌, Option, None, Some, Result, Ok, Err}
use Rattle.std.specs.Prelude.{IfOk, IfErr}
use Rattle.route_tasks.specs.declared.task.Stop.{Stop}
use Rattle.route_tasks.specs.declared.task.Style.TheVariants as style
use Rattle.route_tasks.specs.declared.task.RouteTask.{RouteTask}
use Rattle.route_tasks.specs.Fit.{TaskFits}
use Rattle.vrp_lex.specs.Text.{lines_of}
use Rattle.route_texts.specs.declared.fault.RouteFault.{RouteFault}
use Rattle.route_texts.specs.declared.fault.RouteError.{RouteError}
use Rattle.route_texts.specs.declared.fault.RouteError.TheVariants as error
use Rattle.route_texts.specs.declared.vrptw_draft.Fleet.{Fleet}
use Rattle.route_texts.specs.declared.vrptw_draft.VrptwDraft.{VrptwDraft}
use Rattle.route_texts.specs.Gives.{GivesText}
use Rattle.route_texts.specs.Reading.{lines_read}
use Rattle.route_texts.specs.Vrptw.{vrptw_line, task_of, vrptw_reading, vrptw_read}
use Rattle.route_texts.specs.VrptwRows.{SaysVrptw, IsVrptwRefusal}
use Rattle.route_texts.proofs.RowLemmas.{ok_same}
use Rattle.route_texts.proofs.RowsLaw.{rows-read, at_line-ok, go_on-ok}
use Rattle.route_texts.proofs.RowsBackLaw.{says-read}

task-style : (fleet : Option Fleet) (depot : Option Stop) (stops : List Stop) (task : RouteTask) → task_of fleet depot stops ≡ Ok task → task.style ≡ style.Tenths
task-style None depot stops task e = cc
task-style (Some f) None stops task e = cc
task-style (Some f) (Some depot) [] task e = cc
task-style (Some f) (Some depot) (s ∷ stops) task e = sym (ap (λ (t : RouteTask). t.style) (ok_same _ task e))

lines-style : (lines : List (List ℕ)) (number : ℕ) (d : VrptwDraft) (task : RouteTask) → lines_read vrptw_reading d number lines ≡ Ok task → task.style ≡ style.Tenths
lines-style [] number d task e = task-style d.fleet d.depot d.stops task (at_line-ok number (task_of d.fleet d.depot d.stops) task e)
lines-style (line ∷ lines) number d task e =
    let s = go_on-ok number (vrptw_line d line) (λ next. lines_read vrptw_reading next (number + 1) lines) task e in
    lines-style lines (number + 1) s.got task s.then_read

pub read-says : (text : List ℕ) (result : Result RouteTask RouteError) → GivesText (λ task. task) result (vrptw_read text) → IfOk result TaskFits → IfOk result (SaysVrptw text)
read-says text (Ok task) gives fits =
    record {
      rows = rows-read text task gives;
      tenths = lines-style (lines_of text) 1 (record { fleet = None; depot = None; stops = [] }) task gives;
      fits = fits;
    }
read-says text (Err e) gives fits = tt

pub says-one : (text : List ℕ) (result : Result RouteTask RouteError) → GivesText (λ task. task) result (vrptw_read text) → IfOk result (λ task. (other : RouteTask) → SaysVrptw text other → other ≡ task)
says-one text (Ok task) gives = λ other says. ok_same_text other task (sym (says-read text other says) ∙ gives)
  where
    ok_same_text : (a b : RouteTask) → ◌≡◌ {A = Result RouteTask RouteFault} (Ok a) (Ok b) → a ≡ b
    ok_same_text a b e = cc
says-one text (Err e) gives = tt

pub fault-says : (text : List ℕ) (result : Result RouteTask RouteError) → GivesText (λ task. task) result (vrptw_read text) → IfErr result (IsVrptwRefusal text)
fault-says text (Ok task) gives = tt
fault-says text (Err error.Memory) gives = tt
fault-says text (Err (error.Text fault)) gives = (gives, λ task says. apart task (sym (says-read text task says) ∙ gives))
  where
    apart : (task : RouteTask) → ◌≡◌ {A = Result RouteTask RouteFault} (Ok task) (Err fault) → ⊥
    apart task e = cc
