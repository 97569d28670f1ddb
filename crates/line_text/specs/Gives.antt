-- What a call that reads words of a line returned.
use Rattle.std.specs.Prelude.{◌≡◌, ℕ, ◌<◌, length, ℤ, ◌≤ℤ◌, List, Result, Ok, Err}
use Rattle.vrp_lex.specs.Text.{words_of}
use Rattle.line_text.specs.declared.fault.Kind.{Kind}
use Rattle.line_text.specs.declared.fault.TextFault.{TextFault}
use Rattle.line_text.specs.declared.fault.ReadError.{ReadError}
use Rattle.line_text.specs.declared.fault.ReadError.TheVariants as read
use Rattle.line_text.specs.declared.fault.LineFault.{LineFault}
use Rattle.line_text.specs.declared.fault.LineFault.TheVariants.{Fault, Memory}

-- a fault is that of the reading; running out of memory says nothing
abbrev pub Fails : {Y : Type 0} → LineFault → Result Y Kind → Type 0
Fails Memory reading = Unit {0}
Fails (Fault kind) reading = reading ≡ Err kind

-- what was returned, seen by view, is what the reading gives
abbrev pub Gives : {X Y : Type 0} → (X → Y) → Result X LineFault → Result Y Kind → Type 0
Gives view (Ok x) reading = reading ≡ Ok (view x)
Gives view (Err e) reading = Fails e reading

-- fewer words are left
abbrev pub IsShorter : List ℕ → List ℕ → Type 0
IsShorter old new = length (words_of new) < length (words_of old)

-- a number is not outside its limits
abbrev pub IsWithinEnds : ℤ → ℤ → ℤ → Type 0
IsWithinEnds low high z = (low ≤ℤ z) × (z ≤ℤ high)

-- the same for a whole text
abbrev pub FailsText : {Y : Type 0} → ReadError → Result Y TextFault → Type 0
FailsText read.Memory reading = Unit {0}
FailsText (read.Text fault) reading = reading ≡ Err fault

abbrev pub GivesText : {X Y : Type 0} → (X → Y) → Result X ReadError → Result Y TextFault → Type 0
GivesText view (Ok x) reading = reading ≡ Ok (view x)
GivesText view (Err e) reading = FailsText e reading
