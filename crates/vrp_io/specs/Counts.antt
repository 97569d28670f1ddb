-- Counts of calls and of faults, and what the answer of a call says of them.
use Rattle.std.specs.Prelude.{◌≡◌, Bool, true, ℕ, ◌+◌, ◌-◌, ◌^◌, ◌≤◌, min, Result, OnErr}

-- the count after one more, which stands still at the end of its type
abbrev pub next_count : ℕ → ℕ
next_count before = min (before + 1) (2 ^ 64 - 1)

-- a count of faults rose, or stands at the end of its type
abbrev pub Rose : ℕ → ℕ → Type 0
Rose before now = next_count before ≤ now

-- the count stays as it was, where each fault that is counted is answered
abbrev pub Kept : Bool → ℕ → ℕ → Type 0
Kept answers_each before now = answers_each ≡ true → now ≡ before

-- the count of faults never falls, and rises where the call fails
pub record HasCause {T E : Type 0} (before now : ℕ) (result : Result T E) : Type 0 where
  pub later : before ≤ now
  pub failed : OnErr result (Rose before now)
