-- Where lines and words lie in a text.
use Rattle.std.specs.Prelude.{◌≡◌, ℕ, ◌<◌, ◌≤◌, List, ◌∷◌, ◌++◌, length, take, drop, slice_range, IsTrue}
use Rattle.std.specs.List.{list_all}
use Rattle.vrp_lex.specs.declared.lines.Line.{Line}
use Rattle.vrp_lex.specs.Text.{lines_of, words_of, is_blank, is_plain, ends_word}

-- the line of this number that begins at a place: its bytes are the next line of the text from there, and `next` is where the lines after it begin
pub record IsLineAt (text : List ℕ) (from number : ℕ) (line : Line) : Type 0 where
  pub numbered : line.number ≡ number
  pub begins : line.from ≡ from
  pub ordered : (line.from ≤ line.to) × (line.to ≤ line.next) × (line.next ≤ length text)
  pub goes_on : line.from < line.next
  pub lines : lines_of (drop from text) ≡ slice_range text line.from line.to ∷ lines_of (drop line.next text)

-- the places of a line lie in the text
pub record IsInText (text : List ℕ) (line : Line) : Type 0 where
  pub from : line.from ≤ line.to
  pub to : line.to ≤ length text

-- the bytes of a line
abbrev pub bytes_of : List ℕ → Line → List ℕ
bytes_of text line = slice_range text line.from line.to

-- the word of this number, counted from 0: so many words, then the word between the two places, and then the other words
pub record IsWordAt (text : List ℕ) (from to k : ℕ) (word : ℕ × ℕ) : Type 0 where
  pub ordered : (from ≤ word.0) × (word.0 < word.1) × (word.1 ≤ to)
  pub before : length (words_of (slice_range text from word.0)) ≡ k
  pub words : words_of (slice_range text from to) ≡ words_of (slice_range text from word.0) ++ slice_range text word.0 word.1 ∷ words_of (slice_range text word.1 to)

-- the first word of bytes: blanks, a word between the two places, and no byte of that word behind it
pub record IsFirstWord (bytes : List ℕ) (word : ℕ × ℕ) : Type 0 where
  pub ordered : (word.0 < word.1) × (word.1 ≤ length bytes)
  pub blanks : IsTrue (list_all is_blank (take word.0 bytes))
  pub plain : IsTrue (list_all is_plain (slice_range bytes word.0 word.1))
  pub ends : IsTrue (ends_word (drop word.1 bytes))
