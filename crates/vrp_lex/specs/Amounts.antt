-- What a word is as a number of at most 2^120 in magnitude.
use Rattle.std.specs.Prelude.{◌^◌, ℤ, unsigned_abs, nat_le, if◌then◌else◌, Option, None, Some}
use Rattle.vrp_lex.specs.declared.numbers.Amount.{Amount}
use Rattle.vrp_lex.specs.declared.numbers.Amount.TheVariants.{Value, Big, Not}

-- the number where it is within 2^120 of 0, Big outside, and Not where there is none
abbrev pub amount_of : Option ℤ → Amount
amount_of None = Not
amount_of (Some z) = if nat_le (unsigned_abs z) (2 ^ 120) then Value z else Big
