-- Runs of writes, each of which is handed all the bytes that are left.
use Rattle.std.specs.Prelude.{ℕ, ◌<◌, List, length, drop, Result, Ok, Err}

-- from a sink and the bytes for it, some writes lead to this sink and these bytes left
pub data Handed {S E : Type 0} (wrote : S → List ℕ → Result ℕ E → S → Type 0) (start : S) (bytes : List ℕ) : S → List ℕ → Type 0 where
  begun : Handed wrote start bytes start bytes
  took : (s t : S) (rest : List ℕ) (n : ℕ) → Handed wrote start bytes s rest → wrote s rest (Ok n) t → Handed wrote start bytes t (drop n rest)

-- some writes, and then one that fails with bytes left
pub record HandedUntilFault {S E : Type 0} (wrote : S → List ℕ → Result ℕ E → S → Type 0) (start : S) (bytes : List ℕ) (end : S) : Type 0 where
  pub last : S
  pub rest : List ℕ
  pub fault : E
  pub before : Handed wrote start bytes last rest
  pub some : 0 < length rest
  pub failed : wrote last rest (Err fault) end
