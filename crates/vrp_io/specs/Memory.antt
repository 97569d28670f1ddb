-- Sources and sinks in memory: what they hold, and exactly what a read or a write does.
use Rattle.std.specs.Prelude.{◌≡◌, ℕ, ◌-◌, ◌<◌, ◌↔◌, List, [], ◌++◌, length, take, drop, min, Contains, ◌⊎◌, Result, IsErr, IfOk, OnErr}
use Rattle.vrp_io.specs.Counts.{next_count}

-- a source: the bytes left, the most that a read gives, the numbers of the reads that fail
pub record SourceParts : Type 0 where
  pub left : List ℕ
  pub piece : ℕ
  pub failing : List ℕ
  pub calls : ℕ
  pub faults : ℕ

-- a source that was not read yet
abbrev pub new_source : List ℕ → ℕ → List ℕ → SourceParts
new_source bytes piece failing =
    record { left = bytes; piece = piece; failing = failing; calls = 0; faults = 0 }

-- the next read fails
abbrev pub ReadFails : SourceParts → Type 0
ReadFails s = Contains s.failing (next_count s.calls)

-- a read that fails takes nothing, and is counted
abbrev pub failed_read : SourceParts → SourceParts
failed_read s = record s { calls = next_count s.calls; faults = next_count s.faults }

-- a read gives as many bytes as the piece, the buffer and the bytes left allow
pub record GivesBytes (old new : SourceParts) (buf : List ℕ) (count : ℕ) : Type 0 where
  pub count_is : count ≡ min old.piece (min (length buf) (length old.left))
  pub front : take count buf ≡ take count old.left
  pub after : new ≡ record old { left = drop count old.left; calls = next_count old.calls }

-- what a read of memory does
pub record ReadsMemory {E : Type 0} (old new : SourceParts) (buf : List ℕ) (result : Result ℕ E) : Type 0 where
  pub fails : IsErr result ↔ ReadFails old
  pub gives : IfOk result (λ count. GivesBytes old new buf count)
  pub failed : OnErr result (new ≡ failed_read old)

-- a sink: the bytes written, the room left, the most that a write takes, the numbers of the writes that fail
pub record SinkParts : Type 0 where
  pub written : List ℕ
  pub room : ℕ
  pub piece : ℕ
  pub failing : List ℕ
  pub calls : ℕ
  pub faults : ℕ

-- an empty sink
abbrev pub new_sink : ℕ → ℕ → List ℕ → SinkParts
new_sink room piece failing =
    record { written = []; room = room; piece = piece; failing = failing; calls = 0; faults = 0 }

-- the next write fails: its number is among the failing ones, or no room is left for bytes that it has
abbrev pub WriteFails : SinkParts → List ℕ → Type 0
WriteFails s bytes = Contains s.failing (next_count s.calls) ⊎ (s.room ≡ 0) × (0 < length bytes)

-- a write that fails appends nothing, and is counted
abbrev pub failed_write : SinkParts → SinkParts
failed_write s = record s { calls = next_count s.calls; faults = next_count s.faults }

-- a write takes as many bytes as the piece, the room and the bytes handed in allow
pub record TakesBytes (old new : SinkParts) (bytes : List ℕ) (count : ℕ) : Type 0 where
  pub count_is : count ≡ min old.piece (min old.room (length bytes))
  pub after : new ≡ record old { written = old.written ++ take count bytes; room = old.room - count; calls = next_count old.calls }

-- what a write to memory does
pub record WritesMemory {E : Type 0} (old : SinkParts) (bytes : List ℕ) (result : Result ℕ E) (new : SinkParts) : Type 0 where
  pub fails : IsErr result ↔ WriteFails old bytes
  pub takes : IfOk result (λ count. TakesBytes old new bytes count)
  pub failed : OnErr result (new ≡ failed_write old)
