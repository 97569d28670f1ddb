-- One option of `solve` among the words.
use Rattle.std.specs.Prelude.{◌≡◌, ℕ, ◌≤◌, true, List, ◌∷◌, ◌++◌, Option, None, Some, length}
use Rattle.command_words.specs.declared.options.Choice.{Choice}
use Rattle.command_words.specs.declared.options.Draft.{Draft}
use Rattle.command_words.specs.declared.options.Named.{Named}
use Rattle.command_words.specs.declared.options.Choice.TheVariants.{Labels, Nodes, Workers}
use Rattle.vrp_lex.specs.Text.{are_digits, digits_value}
use Rattle.command_words.specs.Commands.{IsSetting, Setting, most_of, name_of, words_of}

-- the digits of a number that an option takes
pub record IsNumber (c : Choice) (digits : List ℕ) : Type 0 where
  pub digits_alone : are_digits digits ≡ true
  pub few : length digits ≤ 10
  pub some : 1 ≤ digits_value digits
  pub most : digits_value digits ≤ most_of c

abbrev pub IsNumberRead : Choice → List ℕ → Option ℕ → Type 0
IsNumberRead c digits None = IsNumber c digits → ⊥
IsNumberRead c digits (Some n) = IsNumber c digits × (n ≡ digits_value digits)

-- the words begin with those of a setting, which says this
abbrev pub told : Setting → Named
told s = record { choice = s.choice; number = digits_value s.digits; words = length (words_of s) }

pub record Begins (words : List (List ℕ)) (named : Named) : Type 0 where
  pub setting : Setting
  pub is_setting : IsSetting setting
  pub rest : List (List ℕ)
  pub spelled : words ≡ words_of setting ++ rest
  pub said : named ≡ told setting

-- no setting of the option begins the words
abbrev pub NoneBegins : Choice → List (List ℕ) → Type 0
NoneBegins c words = (s : Setting) (rest : List (List ℕ)) → s.choice ≡ c → IsSetting s → words ≡ words_of s ++ rest → ⊥

abbrev pub MatchBeginsBy : Choice → List (List ℕ) → Option Named → Type 0
MatchBeginsBy c words None = NoneBegins c words
MatchBeginsBy c words (Some named) = Begins words named

abbrev pub MatchBegins : List (List ℕ) → Option Named → Type 0
MatchBegins words None = (c : Choice) → NoneBegins c words
MatchBegins words (Some named) = Begins words named

-- the number of an option stands in the first of the words
pub record NumberStands (c : Choice) (words : List (List ℕ)) (named : Named) : Type 0 where
  pub digits : List ℕ
  pub is_number : IsNumber c digits
  pub rest : List (List ℕ)
  pub stands : words ≡ digits ∷ rest
  pub said : named ≡ record { choice = c; number = digits_value digits; words = 2 }

abbrev pub MatchNumber : Choice → List (List ℕ) → Option Named → Type 0
MatchNumber c words None = (digits : List ℕ) (rest : List (List ℕ)) → IsNumber c digits → words ≡ digits ∷ rest → ⊥
MatchNumber c words (Some named) = NumberStands c words named

-- the word is that of the option, `=` and its number
pub record IsJoined (c : Choice) (word : List ℕ) (named : Named) : Type 0 where
  pub digits : List ℕ
  pub is_number : IsNumber c digits
  pub spelled : word ≡ name_of c ++ 61 ∷ digits
  pub said : named ≡ record { choice = c; number = digits_value digits; words = 1 }

abbrev pub MatchJoined : Choice → List ℕ → Option Named → Type 0
MatchJoined c word None = (digits : List ℕ) → IsNumber c digits → word ≡ name_of c ++ 61 ∷ digits → ⊥
MatchJoined c word (Some named) = IsJoined c word named

-- what a draft has of an option
abbrev pub drafted : Draft → Choice → Option ℕ
drafted d Workers = d.workers
drafted d Labels = d.labels
drafted d Nodes = d.nodes
