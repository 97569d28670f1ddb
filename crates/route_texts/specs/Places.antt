-- Where the first word of bytes lies.
use Rattle.std.specs.Prelude.{ℕ, ◌<◌, ◌≤◌, List, length, take, drop, slice_range, not, IsTrue}
use Rattle.std.specs.List.{list_all}
use Rattle.vrp_lex.specs.Text.{is_blank}
use Rattle.route_texts.specs.Words.{ends_word}

-- blanks, a word between the two places, and no byte of that word behind it
pub record IsFirstWord (bytes : List ℕ) (word : ℕ × ℕ) : Type 0 where
  pub ordered : (word.0 < word.1) × (word.1 ≤ length bytes)
  pub blanks : IsTrue (list_all is_blank (take word.0 bytes))
  pub plain : IsTrue (list_all (λ b. not (is_blank b)) (slice_range bytes word.0 word.1))
  pub ends : IsTrue (ends_word (drop word.1 bytes))
