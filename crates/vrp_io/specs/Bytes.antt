-- What a call took from the bytes that a source had left, or appended to those of a sink.
use Rattle.std.specs.Prelude.{◌≡◌, ℕ, ◌≤◌, List, ◌++◌, length, Option}
use Rattle.std.specs.Io.KnownBytes.{Consumes, IsAtEnd, Appends}

-- these bytes were all that was left
pub record TookAll (old new : Option (List ℕ)) (bytes : List ℕ) : Type 0 where
  pub taken : Consumes old new bytes
  pub end : IsAtEnd new

-- at most so many bytes were taken
pub record TookAtMost (old new : Option (List ℕ)) (most : ℕ) : Type 0 where
  pub bytes : List ℕ
  pub few : length bytes ≤ most
  pub taken : Consumes old new bytes

-- exactly so many bytes were taken
pub record TookExactly (old new : Option (List ℕ)) (count : ℕ) : Type 0 where
  pub bytes : List ℕ
  pub count_is : length bytes ≡ count
  pub taken : Consumes old new bytes

-- so many bytes were taken and put at the end of a buffer, none only at the end of the source
pub record MovesBytes (old new : Option (List ℕ)) (before now : List ℕ) (count : ℕ) : Type 0 where
  pub bytes : List ℕ
  pub count_is : length bytes ≡ count
  pub taken : Consumes old new bytes
  pub put : now ≡ before ++ bytes
  pub end : count ≡ 0 → IsAtEnd new

-- a prefix of the bytes was appended
pub record AppendedPrefix (old new : Option (List ℕ)) (bytes : List ℕ) : Type 0 where
  pub front : List ℕ
  pub rest : List ℕ
  pub parts : bytes ≡ front ++ rest
  pub appended : Appends old new front
