-- The lines of a VRPTW text.
use Rattle.std.specs.Prelude.{◌≡◌, ℕ, ◌≤◌, ℤ, pos, ◌≤ℤ◌, neg_ℤ, List, [], ◌∷◌, ◌++◌, length, map, All, IfSome, Bool, false, ◌==◌, ◌||◌, ◌&&◌, if◌then◌else◌, Option, None, Some, is_some, Result, Ok, Err}
use Rattle.std.specs.List.{list_all}
use Rattle.std.specs.Ordering.{int_eq}
use Rattle.vrp_lex.specs.Text.{number_of}
use Rattle.route_tasks.specs.declared.limits.TheConstants.{MAX_CUSTOMERS, MAX_LOAD, MAX_TIME, MAX_SERVICE, MAX_NUMBER, MAX_VEHICLES}
use Rattle.route_tasks.specs.declared.task.Stop.{Stop}
use Rattle.route_tasks.specs.declared.task.Style.TheVariants as style
use Rattle.route_tasks.specs.declared.task.RouteTask.{RouteTask}
use Rattle.route_tasks.specs.Fit.{IsFromTo, StopFits, AllDiffer}
use Rattle.route_texts.specs.declared.fault.RouteKind.{RouteKind}
use Rattle.route_texts.specs.declared.fault.RouteKind.TheVariants as kind
use Rattle.route_texts.specs.declared.fault.RouteFault.{RouteFault}
use Rattle.route_texts.specs.declared.vrptw_draft.Fleet.{Fleet}
use Rattle.route_texts.specs.declared.stops.Point.{Point}
use Rattle.route_texts.specs.declared.vrptw_draft.Times.{Times}
use Rattle.route_texts.specs.declared.vrptw_draft.VrptwDraft.{VrptwDraft}
use Rattle.route_texts.specs.Words.{Words, words_in, are_some_words, Wants, ◌>>=◌, ◌>>◌, give, fault_if, number_in, natural_in, whole, after}
use Rattle.route_texts.specs.Stops.{has_number}
use Rattle.route_texts.specs.Reading.{Reading, text_read}

-- a row: there are words, and each is a whole number; any other line is skipped
abbrev pub are_numbers : Words → Bool
are_numbers words = list_all (λ w. is_some (number_of w)) words

abbrev pub is_row : Words → Bool
is_row words = are_some_words words && are_numbers words

-- the first row: vehicles and capacity
abbrev pub fleet_wanted : Wants Fleet
fleet_wanted = do
  vehicles ← natural_in 1 MAX_VEHICLES
  capacity ← number_in (pos 1) MAX_LOAD
  give (record { vehicles = vehicles; capacity = capacity })

-- a number that no stop has yet, else Repeated
abbrev pub new_number : (ℕ → Bool) → Wants ℕ
new_number is_taken = do
  number ← natural_in 0 MAX_NUMBER
  fault_if kind.Repeated (is_taken number)
  give number

abbrev pub point_wanted : Wants Point
point_wanted = do
  x ← number_in (neg_ℤ (pos 100000)) (pos 100000)
  y ← number_in (neg_ℤ (pos 100000)) (pos 100000)
  give (record { x = x; y = y })

-- ready, due, which is no earlier, and service
abbrev pub times_wanted : Wants Times
times_wanted = do
  ready ← number_in (pos 0) MAX_TIME
  due ← number_in ready MAX_TIME
  service ← number_in (pos 0) MAX_SERVICE
  give (record { ready = ready; due = due; service = service })

abbrev pub stop_of : ℕ → Point → ℤ → Times → Stop
stop_of number point demand times =
    record {
      number = number;
      x = point.x;
      y = point.y;
      demand = demand;
      ready = times.ready;
      due = times.due;
      service = times.service;
    }

-- each further row: number, place, demand and times of a stop
abbrev pub stop_wanted : (ℕ → Bool) → Wants Stop
stop_wanted is_taken = do
  number ← new_number is_taken
  point ← point_wanted
  demand ← number_in (pos 0) MAX_LOAD
  times ← times_wanted
  give (stop_of number point demand times)

-- a number of the depot or of a customer
abbrev pub depot_has : ℕ → Option Stop → Bool
depot_has number None = false
depot_has number (Some depot) = depot.number == number

abbrev pub is_taken : VrptwDraft → ℕ → Bool
is_taken d number = depot_has number d.depot || has_number number d.stops

-- the first row
abbrev pub fleet_row : VrptwDraft → Words → Result VrptwDraft RouteKind
fleet_row d words = after (whole fleet_wanted words) (λ fleet. Ok (record d { fleet = Some fleet }))

-- the row of the depot, which has no demand
abbrev pub depot_row : VrptwDraft → Words → Result VrptwDraft RouteKind
depot_row d words =
    after (whole (stop_wanted (is_taken d)) words)
    (λ s. if int_eq s.demand (pos 0) then Ok (record d { depot = Some s }) else Err kind.Depot)

-- the row of a customer
abbrev pub customer_row : VrptwDraft → Words → Result VrptwDraft RouteKind
customer_row d words =
    if length d.stops == MAX_CUSTOMERS then Err kind.TooMany
    else after (whole (stop_wanted (is_taken d)) words) (λ s. Ok (record d { stops = d.stops ++ s ∷ [] }))

-- the rows in this order
abbrev pub stop_row : VrptwDraft → Option Stop → Words → Result VrptwDraft RouteKind
stop_row d None words = depot_row d words
stop_row d (Some depot) words = customer_row d words

abbrev pub row : VrptwDraft → Option Fleet → Words → Result VrptwDraft RouteKind
row d None words = fleet_row d words
row d (Some fleet) words = stop_row d d.depot words

abbrev pub vrptw_line : VrptwDraft → List ℕ → Result VrptwDraft RouteKind
vrptw_line d line = if is_row (words_in line) then row d d.fleet (words_in line) else Ok d

-- the task of all rows; Missing where there are none of the fleet, the depot or a customer
abbrev pub task_of : Option Fleet → Option Stop → List Stop → Result RouteTask RouteKind
task_of None depot stops = Err kind.Missing
task_of (Some fleet) None stops = Err kind.Missing
task_of (Some fleet) (Some depot) [] = Err kind.Missing
task_of (Some fleet) (Some depot) (s ∷ stops) =
    Ok
    (record {
      style = style.Tenths;
      vehicles = fleet.vehicles;
      capacity = fleet.capacity;
      depot = depot;
      stops = s ∷ stops;
    })

abbrev pub vrptw_reading : Reading VrptwDraft
vrptw_reading =
    record {
      empty = record { fleet = None; depot = None; stops = [] };
      line = vrptw_line;
      ends = λ line. false;
      task = λ d. task_of d.fleet d.depot d.stops;
    }

-- the task of a text, or its first fault
abbrev pub vrptw_read : List ℕ → Result RouteTask RouteFault
vrptw_read text = text_read vrptw_reading text

-- within the limits
pub record FleetFits (f : Fleet) : Type 0 where
  pub some_vehicles : 1 ≤ f.vehicles
  pub few_vehicles : f.vehicles ≤ MAX_VEHICLES
  pub capacity_fits : IsFromTo (pos 1) MAX_LOAD f.capacity

pub record TimesFit (t : Times) : Type 0 where
  pub opens : pos 0 ≤ℤ t.ready
  pub order : t.ready ≤ℤ t.due
  pub closes : t.due ≤ℤ MAX_TIME
  pub served : IsFromTo (pos 0) MAX_SERVICE t.service

-- a number, and a stop, that may be taken after these rows
pub record IsNewNumber (d : VrptwDraft) (number : ℕ) : Type 0 where
  pub small : number ≤ MAX_NUMBER
  pub other : is_taken d number ≡ false

pub record IsNewStop (d : VrptwDraft) (s : Stop) : Type 0 where
  pub stop_fits : StopFits s
  pub other : is_taken d s.number ≡ false

-- the numbers of the depot, if there is one, and of the customers
abbrev pub numbers_with : Option Stop → List Stop → List ℕ
numbers_with None stops = map (λ s. s.number) stops
numbers_with (Some depot) stops = depot.number ∷ map (λ s. s.number) stops

-- what was said so far lies within the limits
pub record VrptwFits (d : VrptwDraft) : Type 0 where
  pub fleet_fits : IfSome d.fleet FleetFits
  pub depot_fits : IfSome d.depot StopFits
  pub depot_empty : IfSome d.depot (λ s. s.demand ≡ pos 0)
  pub each_fits : All StopFits d.stops
  pub few_customers : length d.stops ≤ MAX_CUSTOMERS
  pub all_differ : AllDiffer (numbers_with d.depot d.stops)
