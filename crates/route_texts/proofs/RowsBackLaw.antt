-- A text whose rows are those of a task within the limits is read as the task.
use Rattle.std.proofs.Common.{◌≡◌, ◌≢◌, ℕ, suc, ◌+◌, ◌<◌, ℤ, pos, List, [], ◌∷◌, ◌++◌, map, refl, ap, sym, ◌∙◌, Bool, true, false, arith, length, Option, None, Some, Result, Ok, append_assoc, append-nil}
use Rattle.std.specs.Prelude.{◌==◌, ◌||◌, ◌&&◌, All, slice_index}
use Rattle.std.specs.List.{filter_map}
use Rattle.std.specs.Ordering.{int_eq}
use Rattle.std.proofs.lemmas.Bool.Decides.{nat_tests, Decides-int_eq}
use Rattle.std.proofs.lemmas.List.{map-append, length-append}
use Rattle.std.proofs.lemmas.List.Elements.{All-head, All-tail}
use Rattle.vrp_lex.specs.Text.{lines_of}
use Rattle.route_tasks.specs.declared.limits.TheConstants.{MAX_CUSTOMERS}
use Rattle.route_tasks.specs.declared.task.Stop.{Stop}
use Rattle.route_tasks.specs.declared.task.Style.TheVariants as style
use Rattle.route_tasks.specs.declared.task.RouteTask.{RouteTask}
use Rattle.route_tasks.specs.Fit.{StopFits, AllDiffer, TaskFits}
use Rattle.route_texts.specs.declared.fault.RouteKind.{RouteKind}
use Rattle.route_texts.specs.declared.fault.RouteFault.{RouteFault}
use Rattle.route_texts.specs.declared.vrptw_draft.Fleet.{Fleet}
use Rattle.route_texts.specs.declared.vrptw_draft.VrptwDraft.{VrptwDraft}
use Rattle.route_texts.specs.Stops.{has_number}
use Rattle.route_texts.specs.Words.{Words, words_in, are_some_words}
use Rattle.route_texts.specs.Reading.{at_line, go_on, lines_read}
use Rattle.route_texts.specs.Vrptw.{is_taken, are_numbers, is_row, row, vrptw_line, task_of, vrptw_reading, vrptw_read, FleetFits}
use Rattle.route_texts.specs.VrptwRows.{values_of, row_of, rows_of, rows_of_task, SaysVrptw}
use Rattle.route_texts.specs.VrptwRows as told
use Rattle.route_texts.proofs.RowBackLemmas.{fleet_told, stop_told}
use Rattle.route_texts.proofs.RowsLaw.{fleet_row, rows_with, IsOrdered, Extends}

head_same : {A : Type 0} (x y : A) (xs ys : List A) → x ∷ xs ≡ y ∷ ys → (x ≡ y) × (xs ≡ ys)
head_same x y xs ys e = (cc, cc)

-- a stop by its row
pub same_stop : (s t : Stop) → told.stop_row s ≡ told.stop_row t → s ≡ t
same_stop s t e =
    let number : s.number ≡ t.number = cc in
    let x : s.x ≡ t.x = cc in
    let y : s.y ≡ t.y = cc in
    let demand : s.demand ≡ t.demand = cc in
    let ready : s.ready ≡ t.ready = cc in
    let due : s.due ≡ t.due = cc in
    let service : s.service ≡ t.service = cc in
    λ i. record {
      number = number i;
      x = x i;
      y = y i;
      demand = demand i;
      ready = ready i;
      due = due i;
      service = service i;
    }

same_stops : (xs ys : List Stop) → map told.stop_row xs ≡ map told.stop_row ys → xs ≡ ys
same_stops [] [] e = refl
same_stops [] (y ∷ ys) e = cc
same_stops (x ∷ xs) [] e = cc
same_stops (x ∷ xs) (y ∷ ys) e =
    let parts = head_same (told.stop_row x) (told.stop_row y) (map told.stop_row xs) (map told.stop_row ys) e in
    let first : x ≡ y = same_stop x y parts.0 in
    let rest : xs ≡ ys = same_stops xs ys parts.1 in
    cc

-- the customer whose row follows those that were read
record Next (stops all : List Stop) (r : List ℤ) : Type 0 where
  stop : Stop
  later : List Stop
  parts : all ≡ stops ++ stop ∷ later
  row_is : r ≡ told.stop_row stop

next_stop : (stops all : List Stop) (r : List ℤ) (more : List (List ℤ)) → map told.stop_row stops ++ r ∷ more ≡ map told.stop_row all → Next stops all r
next_stop [] [] r more e = cc
next_stop [] (s ∷ all) r more e =
    let parts = head_same r (told.stop_row s) more (map told.stop_row all) e in
    record { stop = s; later = all; parts = refl; row_is = parts.0 }
next_stop (x ∷ stops) [] r more e = cc
next_stop (x ∷ stops) (s ∷ all) r more e =
    let parts = head_same (told.stop_row x) (told.stop_row s) (map told.stop_row stops ++ r ∷ more) (map told.stop_row all) e in
    let first : x ≡ s = same_stop x s parts.0 in
    let n = next_stop stops all r more parts.1 in
    let rest : all ≡ stops ++ n.stop ∷ n.later = n.parts in
    record { stop = n.stop; later = n.later; parts = cons_same x s all (stops ++ n.stop ∷ n.later) first rest; row_is = n.row_is }
  where
    cons_same : (x s : Stop) (all rest : List Stop) → x ≡ s → all ≡ rest → s ∷ all ≡ x ∷ rest
    cons_same x s all rest e f = cc

fits_of : (stops : List Stop) (s : Stop) (later : List Stop) → All StopFits (stops ++ s ∷ later) → StopFits s
fits_of [] s later h = All-head StopFits s later h
fits_of (x ∷ stops) s later h = fits_of stops s later (All-tail StopFits x (stops ++ s ∷ later) h)

-- a number that differs from all before it
abbrev numbers : List Stop → List ℕ
numbers stops = map (λ s. s.number) stops

number_there : (stops : List Stop) (s : Stop) (later : List Stop) → (length stops < length (numbers (stops ++ s ∷ later))) × (slice_index (numbers (stops ++ s ∷ later)) (length stops) ≡ s.number)
number_there [] s later = (omega arith, refl)
number_there (x ∷ stops) s later = let rest = number_there stops s later in (omega (arith, rest.0), rest.1)

not_same : (a b : ℕ) → a ≢ b → (a == b) ≡ false
not_same a b h = grind (arith, nat_tests)

tail_differ : (n : ℕ) (ns : List ℕ) → AllDiffer (n ∷ ns) → AllDiffer ns
tail_differ n ns h i j order below = h (suc i) (suc j) (omega arith) (omega arith)

first_other : (n : ℕ) (stops : List Stop) (s : Stop) (later : List Stop) → AllDiffer (n ∷ numbers (stops ++ s ∷ later)) → (n == s.number) ≡ false
first_other n stops s later h =
    let there = number_there stops s later in
    not_same n s.number (λ e. h 0 (suc (length stops)) (omega arith) (omega (arith, there.0)) (e ∙ sym there.1))

or_false : (a b : Bool) → a ≡ false → b ≡ false → (a || b) ≡ false
or_false a b h k = rw (h, k) refl

not_before : (stops : List Stop) (s : Stop) (later : List Stop) → AllDiffer (numbers (stops ++ s ∷ later)) → has_number s.number stops ≡ false
not_before [] s later h = refl
not_before (x ∷ stops) s later h =
    or_false (x.number == s.number) (has_number s.number stops) (first_other x.number stops s later h) (not_before stops s later (tail_differ x.number (numbers (stops ++ s ∷ later)) h))

differ_of : (first second : Stop) (all stops : List Stop) (s : Stop) (later : List Stop) → first ≡ second → all ≡ stops ++ s ∷ later → AllDiffer (second.number ∷ numbers all) → AllDiffer (first.number ∷ numbers (stops ++ s ∷ later))
differ_of first second all stops s later same parts h = rw (same, ← parts) h

-- a row that is read
record Reads (d : VrptwDraft) (words : Words) : Type 0 where
  next : VrptwDraft
  read : row d d.fleet words ≡ Ok next
  extends : Extends (rows_with d.fleet d.depot d.stops) (values_of words) next

is_zero : (z : ℤ) → z ≡ pos 0 → int_eq z (pos 0) ≡ true
is_zero z e = (Decides-int_eq z (pos 0)).1 e

row-reads : (task : RouteTask) (fleet : Option Fleet) (depot : Option Stop) (stops : List Stop) (words : Words) (more : List (List ℤ)) → TaskFits task → IsOrdered fleet depot stops → are_numbers words ≡ true → rows_with fleet depot stops ++ values_of words ∷ more ≡ rows_of_task task → Reads (record { fleet = fleet; depot = depot; stops = stops }) words
row-reads task None None [] words more fits h are e =
    let f : Fleet = record { vehicles = task.vehicles; capacity = task.capacity } in
    let parts = head_same (values_of words) (fleet_row f) more (told.stop_row task.depot ∷ map told.stop_row task.stops) e in
    let limits : FleetFits f = record { some_vehicles = fits.some_vehicles; few_vehicles = fits.few_vehicles; capacity_fits = fits.capacity_fits } in
    let read = fleet_told words f (record { numbers = are; told = parts.0 }) limits in
    record {
      next = record { fleet = Some f; depot = None; stops = [] };
      read = rw read refl;
      extends = record { longer = ap (λ r. r ∷ []) (sym parts.0); ordered = tt };
    }
row-reads task (Some f) None [] words more fits h are e =
    let d : VrptwDraft = record { fleet = Some f; depot = None; stops = [] } in
    let own : Fleet = record { vehicles = task.vehicles; capacity = task.capacity } in
    let behind = head_same (fleet_row f) (fleet_row own) (values_of words ∷ more) (told.stop_row task.depot ∷ map told.stop_row task.stops) e in
    let parts = head_same (values_of words) (told.stop_row task.depot) more (map told.stop_row task.stops) behind.1 in
    let read = stop_told (is_taken d) words task.depot (record { numbers = are; told = parts.0 }) fits.depot_fits refl in
    let empty = is_zero task.depot.demand fits.depot_empty in
    record {
      next = record { fleet = Some f; depot = Some task.depot; stops = [] };
      read = rw (read, empty) refl;
      extends = record { longer = ap (λ r. fleet_row f ∷ r ∷ []) (sym parts.0); ordered = tt };
    }
row-reads task (Some f) (Some depot) stops words more fits h are e =
    let d : VrptwDraft = record { fleet = Some f; depot = Some depot; stops = stops } in
    let own : Fleet = record { vehicles = task.vehicles; capacity = task.capacity } in
    let behind = head_same (fleet_row f) (fleet_row own) (told.stop_row depot ∷ (map told.stop_row stops ++ values_of words ∷ more)) (told.stop_row task.depot ∷ map told.stop_row task.stops) e in
    let parts = head_same (told.stop_row depot) (told.stop_row task.depot) (map told.stop_row stops ++ values_of words ∷ more) (map told.stop_row task.stops) behind.1 in
    let same : depot ≡ task.depot = same_stop depot task.depot parts.0 in
    let n = next_stop stops task.stops (values_of words) more parts.1 in
    let s = n.stop in
    let all : All StopFits (stops ++ s ∷ n.later) = rw n.parts at fits.each_fits in
    let differ : AllDiffer (depot.number ∷ numbers (stops ++ s ∷ n.later)) = differ_of depot task.depot task.stops stops s n.later same n.parts fits.all_differ in
    let free : is_taken d s.number ≡ false = or_false (depot.number == s.number) (has_number s.number stops) (first_other depot.number stops s n.later differ) (not_before stops s n.later (tail_differ depot.number (numbers (stops ++ s ∷ n.later)) differ)) in
    let few = fits.few_customers in
    let size : length task.stops ≡ length stops + suc (length n.later) = ap length n.parts ∙ length-append stops (s ∷ n.later) in
    let room : (length stops == MAX_CUSTOMERS) ≡ false = not_same (length stops) MAX_CUSTOMERS (λ full. omega (arith, full, few, size)) in
    let read = stop_told (is_taken d) words s (record { numbers = are; told = n.row_is }) (fits_of stops s n.later all) free in
    record {
      next = record { fleet = Some f; depot = Some depot; stops = stops ++ s ∷ [] };
      read = rw (room, read) refl;
      extends = record { longer = ap (λ rows. fleet_row f ∷ told.stop_row depot ∷ rows) (map-append told.stop_row stops (s ∷ []) ∙ ap (λ r. map told.stop_row stops ++ r ∷ []) (sym n.row_is)); ordered = tt };
    }
row-reads task None None (x ∷ stops) words more fits h are e = absurd h
row-reads task None (Some depot) stops words more fits h are e = absurd h
row-reads task (Some f) None (x ∷ stops) words more fits h are e = absurd h

at_line-back : {A B : Type 0} (number : ℕ) (r : Result A RouteKind) (next : A → Result B RouteFault) (x : A) → r ≡ Ok x → go_on (at_line number r) next ≡ next x
at_line-back number r next x e = rw e refl

task-back : (fleet : Option Fleet) (depot : Option Stop) (stops : List Stop) (task : RouteTask) → TaskFits task → task.style ≡ style.Tenths → rows_with fleet depot stops ≡ rows_of_task task → task_of fleet depot stops ≡ Ok task
task-back None depot stops task fits tenths e = cc
task-back (Some f) None stops task fits tenths e = cc
task-back (Some f) (Some depot) [] task fits tenths e =
    let own : Fleet = record { vehicles = task.vehicles; capacity = task.capacity } in
    let behind = head_same (fleet_row f) (fleet_row own) (told.stop_row depot ∷ []) (told.stop_row task.depot ∷ map told.stop_row task.stops) e in
    let parts = head_same (told.stop_row depot) (told.stop_row task.depot) [] (map told.stop_row task.stops) behind.1 in
    let none : [] ≡ task.stops = same_stops [] task.stops parts.1 in
    let some = fits.some_customers in
    let size : 0 ≡ length task.stops = ap length none in
    absurd (omega (arith, some, size))
task-back (Some f) (Some depot) (s ∷ stops) task fits tenths e =
    let own : Fleet = record { vehicles = task.vehicles; capacity = task.capacity } in
    let behind = head_same (fleet_row f) (fleet_row own) (told.stop_row depot ∷ map told.stop_row (s ∷ stops)) (told.stop_row task.depot ∷ map told.stop_row task.stops) e in
    let parts = head_same (told.stop_row depot) (told.stop_row task.depot) (map told.stop_row (s ∷ stops)) (map told.stop_row task.stops) behind.1 in
    let fleet_parts = head_same (pos f.vehicles) (pos task.vehicles) (f.capacity ∷ []) (task.capacity ∷ []) behind.0 in
    let vehicles : f.vehicles ≡ task.vehicles = cc in
    let capacity : f.capacity ≡ task.capacity = (head_same f.capacity task.capacity [] [] fleet_parts.1).0 in
    let depots : depot ≡ task.depot = same_stop depot task.depot parts.0 in
    let customers : s ∷ stops ≡ task.stops = same_stops (s ∷ stops) task.stops parts.1 in
    let counts : style.Tenths ≡ task.style = sym tenths in
    let made : RouteTask = record { style = style.Tenths; vehicles = f.vehicles; capacity = f.capacity; depot = depot; stops = s ∷ stops } in
    let same : made ≡ task = λ i. record {
      style = counts i;
      vehicles = vehicles i;
      capacity = capacity i;
      depot = depots i;
      stops = customers i;
    } in
    ap Ok same

both_true : (a b : Bool) → (a && b) ≡ true → (a ≡ true) × (b ≡ true)
both_true true true h = (refl, refl)
both_true true false h = (refl, h)
both_true false b h = cc

lines-back : (lines : List (List ℕ)) (number : ℕ) (d : VrptwDraft) (task : RouteTask) → TaskFits task → task.style ≡ style.Tenths → IsOrdered d.fleet d.depot d.stops → rows_with d.fleet d.depot d.stops ++ filter_map row_of lines ≡ rows_of_task task → lines_read vrptw_reading d number lines ≡ Ok task
lines-back [] number d task fits tenths h e =
    let read = task-back d.fleet d.depot d.stops task fits tenths (sym (append-nil (rows_with d.fleet d.depot d.stops)) ∙ e) in
    rw read refl
lines-back (line ∷ lines) number d task fits tenths h e =
    by_test (λ next ordered told_all. lines-back lines (number + 1) next task fits tenths ordered told_all) (is_row (words_in line)) refl
  where
    by_test : ((next : VrptwDraft) → IsOrdered next.fleet next.depot next.stops → rows_with next.fleet next.depot next.stops ++ filter_map row_of lines ≡ rows_of_task task → lines_read vrptw_reading next (number + 1) lines ≡ Ok task) → (b : Bool) → is_row (words_in line) ≡ b → lines_read vrptw_reading d number (line ∷ lines) ≡ Ok task
    by_test rest true test =
        let all : rows_with d.fleet d.depot d.stops ++ values_of (words_in line) ∷ filter_map row_of lines ≡ rows_of_task task = rw test at e in
        let are = (both_true (are_some_words (words_in line)) (are_numbers (words_in line)) test).1 in
        let r = row-reads task d.fleet d.depot d.stops (words_in line) (filter_map row_of lines) fits h are all in
        let read : vrptw_line d line ≡ Ok r.next = rw test r.read in
        let longer : rows_with r.next.fleet r.next.depot r.next.stops ++ filter_map row_of lines ≡ rows_of_task task = ap (λ rs. rs ++ filter_map row_of lines) r.extends.longer ∙ (append_assoc (rows_with d.fleet d.depot d.stops) (values_of (words_in line) ∷ []) (filter_map row_of lines) ∙ all) in
        at_line-back number (vrptw_line d line) (λ next. lines_read vrptw_reading next (number + 1) lines) r.next read ∙ rest r.next r.extends.ordered longer
    by_test rest false test =
        let read : vrptw_line d line ≡ Ok d = rw test refl in
        at_line-back number (vrptw_line d line) (λ next. lines_read vrptw_reading next (number + 1) lines) d read ∙ rest d h (rw test at e)

pub says-read : (text : List ℕ) (task : RouteTask) → SaysVrptw text task → vrptw_read text ≡ Ok task
says-read text task says = lines-back (lines_of text) 1 (record { fleet = None; depot = None; stops = [] }) task says.fits says.tenths tt says.rows
