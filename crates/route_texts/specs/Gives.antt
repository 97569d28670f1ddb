-- What a call that reads a text returned.
use Rattle.std.specs.Prelude.{◌≡◌, ℤ, ◌≤ℤ◌, Result, Ok, Err}
use Rattle.route_texts.specs.declared.fault.RouteKind.{RouteKind}
use Rattle.route_texts.specs.declared.fault.RouteFault.{RouteFault}
use Rattle.route_texts.specs.declared.fault.RouteError.{RouteError}
use Rattle.route_texts.specs.declared.fault.RouteError.TheVariants as read
use Rattle.route_texts.specs.declared.fault.LineFault.{LineFault}
use Rattle.route_texts.specs.declared.fault.LineFault.TheVariants.{Fault, Memory}

-- a fault is that of the reading; running out of memory says nothing
abbrev pub Fails : {Y : Type 0} → LineFault → Result Y RouteKind → Type 0
Fails Memory reading = Unit {0}
Fails (Fault kind) reading = reading ≡ Err kind

-- what was returned, seen by view, is what the reading gives
abbrev pub Gives : {X Y : Type 0} → (X → Y) → Result X LineFault → Result Y RouteKind → Type 0
Gives view (Ok x) reading = reading ≡ Ok (view x)
Gives view (Err e) reading = Fails e reading

-- a number is not outside its limits
abbrev pub IsWithinEnds : ℤ → ℤ → ℤ → Type 0
IsWithinEnds low high z = (low ≤ℤ z) × (z ≤ℤ high)

-- the same for a whole text
abbrev pub FailsText : {Y : Type 0} → RouteError → Result Y RouteFault → Type 0
FailsText read.Memory reading = Unit {0}
FailsText (read.Text fault) reading = reading ≡ Err fault

abbrev pub GivesText : {X Y : Type 0} → (X → Y) → Result X RouteError → Result Y RouteFault → Type 0
GivesText view (Ok x) reading = reading ≡ Ok (view x)
GivesText view (Err e) reading = FailsText e reading
