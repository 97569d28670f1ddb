-- The options of `solve`, read one after another.
use Rattle.std.specs.Prelude.{◌≡◌, ◌≢◌, ℕ, List, [], ◌∷◌, ◌++◌, All, Option, None, Some, codes, if◌then◌else◌}
use Rattle.std.specs.List.{flat_map}
use Rattle.vrp_lex.specs.Text.{digits_value}
use Rattle.solve_run.specs.declared.outcome.Limits.{Limits}
use Rattle.command_words.specs.declared.command.Command.{Command}
use Rattle.command_words.specs.declared.command.Command.TheVariants.{Check, Eval, Print, Solve}
use Rattle.command_words.specs.declared.options.Choice.{Choice}
use Rattle.command_words.specs.declared.options.Draft.{Draft}
use Rattle.command_words.specs.declared.options.Named.{Named}
use Rattle.command_words.specs.Commands.{AreApart, IsSetting, Setting, is_of, limits_said, words_of}
use Rattle.command_words.specs.Options.{drafted}

-- what the settings say of an option
abbrev pub said_of : List Setting → Choice → Option ℕ
said_of [] c = None
said_of (s ∷ rest) c = if is_of c s.choice then Some (digits_value s.digits) else said_of rest c

abbrev pub IsDraftOf : List Setting → Draft → Type 0
IsDraftOf settings d = (c : Choice) → drafted d c ≡ said_of settings c

-- the draft has the option, and each other as before; or it had it already
pub record IsDraftWith (old : Draft) (named : Named) (new : Draft) : Type 0 where
  pub fresh : drafted old named.choice ≡ None
  pub has : drafted new named.choice ≡ Some named.number
  pub same : (c : Choice) → c ≢ named.choice → drafted new c ≡ drafted old c

abbrev pub MatchWith : Draft → Named → Option Draft → Type 0
MatchWith old named None = drafted old named.choice ≢ None
MatchWith old named (Some new) = IsDraftWith old named new

-- the words are those of settings, of which no two are of one option, and the draft is theirs
pub record AreSettings (words : List (List ℕ)) (settings : List Setting) : Type 0 where
  pub each : All IsSetting settings
  pub apart : AreApart settings
  pub spelled : words ≡ flat_map words_of settings

pub record IsReadAs (words : List (List ℕ)) (d : Draft) : Type 0 where
  pub settings : List Setting
  pub are : AreSettings words settings
  pub draft : IsDraftOf settings d

abbrev pub MatchSettings : List (List ℕ) → Option Draft → Type 0
MatchSettings words None = (settings : List Setting) → AreSettings words settings → ⊥
MatchSettings words (Some d) = IsReadAs words d

-- the words so far are those of settings, before the rest, and the draft is theirs
pub record IsReadUpTo (words rest : List (List ℕ)) (d : Draft) : Type 0 where
  pub settings : List Setting
  pub each : All IsSetting settings
  pub apart : AreApart settings
  pub spelled : words ≡ flat_map words_of settings ++ rest
  pub draft : IsDraftOf settings d

-- what the settings among the words say of the limits
pub record AreLimits (words : List (List ℕ)) (limits : Limits) : Type 0 where
  pub settings : List Setting
  pub are : AreSettings words settings
  pub said : limits ≡ limits_said settings

abbrev pub MatchLimits : List (List ℕ) → Option Limits → Type 0
MatchLimits words None = (settings : List Setting) → AreSettings words settings → ⊥
MatchLimits words (Some limits) = AreLimits words limits

-- a word that is a command by itself
abbrev pub IsLone : List ℕ → Command → Type 0
IsLone word (Solve limits) = ⊥
IsLone word Print = word ≡ codes "print"
IsLone word Eval = word ≡ codes "eval"
IsLone word Check = word ≡ codes "check"

abbrev pub MatchLone : List ℕ → Option Command → Type 0
MatchLone word None = (command : Command) → IsLone word command → ⊥
MatchLone word (Some command) = IsLone word command
