-- The words of the program: a command, and the options of `solve`.
use Rattle.std.specs.Prelude.{◌≡◌, ◌≢◌, ℕ, ◌≤◌, Bool, true, false, List, [], ◌∷◌, ◌++◌, codes, length, All, if◌then◌else◌}
use Rattle.std.specs.List.{AllPairs, flat_map}
use Rattle.vrp_lex.specs.Text.{are_digits, digits_value}
use Rattle.solve_run.specs.declared.outcome.Limits.{Limits}
use Rattle.command_words.specs.declared.command.Command.{Command}
use Rattle.command_words.specs.declared.command.Command.TheVariants.{Check, Eval, Print, Solve}
use Rattle.command_words.specs.declared.options.Choice.{Choice}
use Rattle.command_words.specs.declared.options.Choice.TheVariants.{Labels, Nodes, Workers}
use Rattle.command_words.specs.declared.options.TheConstants.{DEFAULT_LABELS, DEFAULT_NODES, DEFAULT_WORKERS, MOST_DIGITS, MOST_LABELS, MOST_NODES, MOST_WORKERS}

-- the word of an option, and the greatest number that it takes
abbrev pub name_of : Choice → List ℕ
name_of Workers = codes "--workers"
name_of Labels = codes "--labels"
name_of Nodes = codes "--nodes"

abbrev pub most_of : Choice → ℕ
most_of Workers = MOST_WORKERS
most_of Labels = MOST_LABELS
most_of Nodes = MOST_NODES

-- an option with the digits of its number, in one word with `=` between them or in two
pub record Setting : Type 0 where
  pub choice : Choice
  pub digits : List ℕ
  pub joined : Bool

abbrev pub words_of : Setting → List (List ℕ)
words_of s = spelled s.joined
  where
    spelled : Bool → List (List ℕ)
    spelled true = (name_of s.choice ++ 61 ∷ s.digits) ∷ []
    spelled false = name_of s.choice ∷ s.digits ∷ []

-- the number is written in 1 to 10 digits, and lies within the limits of the option
pub record IsSetting (s : Setting) : Type 0 where
  pub digits : are_digits s.digits ≡ true
  pub few : length s.digits ≤ MOST_DIGITS
  pub some : 1 ≤ digits_value s.digits
  pub most : digits_value s.digits ≤ most_of s.choice

-- no option is named twice
abbrev pub AreApart : List Setting → Type 0
AreApart settings = AllPairs (λ (s t : Setting). s.choice ≢ t.choice) settings

-- the number that the settings give an option, or else another one
abbrev pub is_of : Choice → Choice → Bool
is_of Workers Workers = true
is_of Labels Labels = true
is_of Nodes Nodes = true
is_of _ _ = false

abbrev pub number_said : Choice → List Setting → ℕ → ℕ
number_said c [] other = other
number_said c (s ∷ rest) other = if is_of c s.choice then digits_value s.digits else number_said c rest other

-- the limits: each is as its option says, or else as it is without one
abbrev pub limits_said : List Setting → Limits
limits_said settings = record {
  workers = number_said Workers settings DEFAULT_WORKERS;
  labels = number_said Labels settings DEFAULT_LABELS;
  nodes = number_said Nodes settings DEFAULT_NODES;
}

-- the words of `solve` with options that say these limits
pub record TakesSolve (words : List (List ℕ)) (limits : Limits) : Type 0 where
  pub settings : List Setting
  pub each : All IsSetting settings
  pub apart : AreApart settings
  pub spelled : words ≡ codes "solve" ∷ flat_map words_of settings
  pub said : limits ≡ limits_said settings

-- the words are those of a command; only `solve` takes options
abbrev pub Takes : List (List ℕ) → Command → Type 0
Takes words (Solve limits) = TakesSolve words limits
Takes words Print = words ≡ codes "print" ∷ []
Takes words Eval = words ≡ codes "eval" ∷ []
Takes words Check = words ≡ codes "check" ∷ []

-- the words of some command
abbrev pub AreTaken : List (List ℕ) → Type 0
AreTaken words = (command : Command) × Takes words command
