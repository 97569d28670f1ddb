-- The rows of a text that says a task are the rows of the task.
use Rattle.std.proofs.Common.{◌≡◌, ℕ, ◌+◌, ℤ, pos, List, [], ◌∷◌, ◌++◌, map, refl, ap, sym, ◌∙◌, subst, Bool, true, false, Option, None, Some, Result, Ok, Err, append_assoc, append-nil}
use Rattle.std.specs.Prelude.{◌==◌, length, if◌then◌else◌}
use Rattle.std.specs.List.{filter_map, cons_option}
use Rattle.std.specs.Ordering.{int_eq}
use Rattle.std.proofs.lemmas.List.{map-append}
use Rattle.vrp_lex.specs.Text.{lines_of}
use Rattle.route_tasks.specs.declared.limits.TheConstants.{MAX_CUSTOMERS}
use Rattle.route_tasks.specs.declared.task.Stop.{Stop}
use Rattle.route_tasks.specs.declared.task.RouteTask.{RouteTask}
use Rattle.route_texts.specs.declared.fault.RouteKind.{RouteKind}
use Rattle.route_texts.specs.declared.fault.RouteKind.TheVariants as kind
use Rattle.route_texts.specs.declared.fault.RouteFault.{RouteFault}
use Rattle.route_texts.specs.declared.vrptw_draft.Fleet.{Fleet}
use Rattle.route_texts.specs.declared.vrptw_draft.VrptwDraft.{VrptwDraft}
use Rattle.route_texts.specs.Words.{Words, words_in, whole, after}
use Rattle.route_texts.specs.Reading.{at_line, go_on, lines_read}
use Rattle.route_texts.specs.Vrptw.{fleet_wanted, stop_wanted, is_taken, is_row, row, vrptw_line, task_of, vrptw_reading, vrptw_read}
use Rattle.route_texts.specs.VrptwRows.{values_of, row_of, rows_of, rows_of_task}
use Rattle.route_texts.specs.VrptwRows as told
use Rattle.route_texts.proofs.RowLemmas.{after-ok, ok_same, whole_fleet, whole_stop}

-- the rows that were read so far
abbrev pub fleet_row : Fleet → List ℤ
fleet_row f = pos f.vehicles ∷ f.capacity ∷ []

abbrev pub rows_with : Option Fleet → Option Stop → List Stop → List (List ℤ)
rows_with None depot stops = []
rows_with (Some f) None stops = fleet_row f ∷ []
rows_with (Some f) (Some depot) stops = fleet_row f ∷ told.stop_row depot ∷ map told.stop_row stops

-- the fleet is read before the depot, and the depot before the customers
abbrev pub IsOrdered : Option Fleet → Option Stop → List Stop → Type 0
IsOrdered None None [] = Unit {0}
IsOrdered (Some f) None [] = Unit {0}
IsOrdered (Some f) (Some depot) stops = Unit {0}
IsOrdered None None (s ∷ stops) = ⊥
IsOrdered None (Some depot) stops = ⊥
IsOrdered (Some f) None (s ∷ stops) = ⊥

-- one more row is read
pub record Extends (rows : List (List ℤ)) (r : List ℤ) (next : VrptwDraft) : Type 0 where
  pub longer : rows_with next.fleet next.depot next.stops ≡ rows ++ r ∷ []
  pub ordered : IsOrdered next.fleet next.depot next.stops

then_ok : {A : Type 0} (b : Bool) (k : RouteKind) (x y : A) → ◌≡◌ {A = Result A RouteKind} (if b then Ok x else Err k) (Ok y) → x ≡ y
then_ok true k x y e = ok_same x y e
then_ok false k x y e = cc

else_ok : {A : Type 0} (b : Bool) (k : RouteKind) (r : Result A RouteKind) (y : A) → (if b then Err k else r) ≡ Ok y → r ≡ Ok y
else_ok true k r y e = cc
else_ok false k r y e = e

row-ok : (fleet : Option Fleet) (depot : Option Stop) (stops : List Stop) (words : Words) (next : VrptwDraft) → IsOrdered fleet depot stops → row (record { fleet = fleet; depot = depot; stops = stops }) fleet words ≡ Ok next → Extends (rows_with fleet depot stops) (values_of words) next
row-ok None None [] words next h e =
    let with_fleet : Fleet → VrptwDraft = λ f. record { fleet = Some f; depot = None; stops = [] } in
    let s = after-ok (whole fleet_wanted words) (λ f. Ok (with_fleet f)) next e in
    let value = whole_fleet words s.got s.first in
    let made : Extends [] (values_of words) (with_fleet s.got) = record { longer = ap (λ r. r ∷ []) (sym value); ordered = tt } in
    subst (Extends [] (values_of words)) (ok_same (with_fleet s.got) next s.then_read) made
row-ok (Some f) None [] words next h e =
    let d : VrptwDraft = record { fleet = Some f; depot = None; stops = [] } in
    let with_depot : Stop → VrptwDraft = λ x. record d { depot = Some x } in
    let s = after-ok (whole (stop_wanted (is_taken d)) words) (λ x. if int_eq x.demand (pos 0) then Ok (with_depot x) else Err kind.Depot) next e in
    let value = whole_stop (is_taken d) words s.got s.first in
    let made : Extends (fleet_row f ∷ []) (values_of words) (with_depot s.got) = record { longer = ap (λ r. fleet_row f ∷ r ∷ []) (sym value); ordered = tt } in
    subst (Extends (fleet_row f ∷ []) (values_of words)) (then_ok (int_eq s.got.demand (pos 0)) kind.Depot (with_depot s.got) next s.then_read) made
row-ok (Some f) (Some depot) stops words next h e =
    let d : VrptwDraft = record { fleet = Some f; depot = Some depot; stops = stops } in
    let with_stop : Stop → VrptwDraft = λ x. record d { stops = stops ++ x ∷ [] } in
    let read = after (whole (stop_wanted (is_taken d)) words) (λ x. Ok (with_stop x)) in
    let s = after-ok (whole (stop_wanted (is_taken d)) words) (λ x. Ok (with_stop x)) next (else_ok (length stops == MAX_CUSTOMERS) kind.TooMany read next e) in
    let value = whole_stop (is_taken d) words s.got s.first in
    let old = fleet_row f ∷ told.stop_row depot ∷ map told.stop_row stops in
    let longer : rows_with (Some f) (Some depot) (stops ++ s.got ∷ []) ≡ old ++ values_of words ∷ [] = ap (λ rows. fleet_row f ∷ told.stop_row depot ∷ rows) (map-append told.stop_row stops (s.got ∷ []) ∙ ap (λ r. map told.stop_row stops ++ r ∷ []) (sym value)) in
    let made : Extends old (values_of words) (with_stop s.got) = record { longer = longer; ordered = tt } in
    subst (Extends old (values_of words)) (ok_same (with_stop s.got) next s.then_read) made
row-ok None None (x ∷ stops) words next h e = absurd h
row-ok None (Some depot) stops words next h e = absurd h
row-ok (Some f) None (x ∷ stops) words next h e = absurd h

-- a line, skipped or not
line-ok : (d : VrptwDraft) (line : List ℕ) (next : VrptwDraft) (more : List (List ℤ)) → IsOrdered d.fleet d.depot d.stops → vrptw_line d line ≡ Ok next → (rows_with next.fleet next.depot next.stops ++ more ≡ rows_with d.fleet d.depot d.stops ++ cons_option (row_of line) more) × IsOrdered next.fleet next.depot next.stops
line-ok d line next more h e = by_test (is_row (words_in line)) refl
  where
    by_test : (b : Bool) → is_row (words_in line) ≡ b → (rows_with next.fleet next.depot next.stops ++ more ≡ rows_with d.fleet d.depot d.stops ++ cons_option (row_of line) more) × IsOrdered next.fleet next.depot next.stops
    by_test true test =
        let x = row-ok d.fleet d.depot d.stops (words_in line) next h (rw test at e) in
        (rw test (ap (λ rs. rs ++ more) x.longer ∙ append_assoc (rows_with d.fleet d.depot d.stops) (values_of (words_in line) ∷ []) more), x.ordered)
    by_test false test =
        let same : d ≡ next = ok_same d next (rw test at e) in
        rw (test, ← same) (refl, h)

task-ok : (fleet : Option Fleet) (depot : Option Stop) (stops : List Stop) (task : RouteTask) → task_of fleet depot stops ≡ Ok task → rows_with fleet depot stops ≡ rows_of_task task
task-ok None depot stops task e = cc
task-ok (Some f) None stops task e = cc
task-ok (Some f) (Some depot) [] task e = cc
task-ok (Some f) (Some depot) (s ∷ stops) task e = ap rows_of_task (ok_same _ task e)

-- what follows a line that is read
pub at_line-ok : {A : Type 0} (number : ℕ) (r : Result A RouteKind) (x : A) → at_line number r ≡ Ok x → r ≡ Ok x
at_line-ok number (Ok y) x e = cc
at_line-ok number (Err k) x e = cc

pub record Goes {A B : Type 0} (r : Result A RouteKind) (next : A → Result B RouteFault) (y : B) : Type 0 where
  pub got : A
  pub first : r ≡ Ok got
  pub then_read : next got ≡ Ok y

pub go_on-ok : {A B : Type 0} (number : ℕ) (r : Result A RouteKind) (next : A → Result B RouteFault) (y : B) → go_on (at_line number r) next ≡ Ok y → Goes r next y
go_on-ok number (Ok x) next y e = record { got = x; first = refl; then_read = e }
go_on-ok number (Err k) next y e = cc

lines-ok : (lines : List (List ℕ)) (number : ℕ) (d : VrptwDraft) (task : RouteTask) → IsOrdered d.fleet d.depot d.stops → lines_read vrptw_reading d number lines ≡ Ok task → rows_with d.fleet d.depot d.stops ++ filter_map row_of lines ≡ rows_of_task task
lines-ok [] number d task h e =
    append-nil (rows_with d.fleet d.depot d.stops) ∙ task-ok d.fleet d.depot d.stops task (at_line-ok number (task_of d.fleet d.depot d.stops) task e)
lines-ok (line ∷ lines) number d task h e =
    let s = go_on-ok number (vrptw_line d line) (λ next. lines_read vrptw_reading next (number + 1) lines) task e in
    let x = line-ok d line s.got (filter_map row_of lines) h s.first in
    sym x.0 ∙ lines-ok lines (number + 1) s.got task x.1 s.then_read

pub rows-read : (text : List ℕ) (task : RouteTask) → vrptw_read text ≡ Ok task → rows_of text ≡ rows_of_task task
rows-read text task e = lines-ok (lines_of text) 1 (record { fleet = None; depot = None; stops = [] }) task tt e
