-- The memory of a walk: the packing sets that it may not visit again.
use Rattle.std.specs.Prelude.{◌≡◌, ℕ, ◌==◌, ◌&&◌, ◌||◌, Bool, false, IsTrue, Option, None, Some}
use Rattle.path_graph.specs.declared.set_bits.SetBits.{SetBits}
use Rattle.path_graph.specs.SetBits.{has_set}

-- the visited set, if any, is in the memory: so the visit is refused
abbrev pub IsRemembered : SetBits → Option ℕ → Type 0
IsRemembered memory None = ⊥
IsRemembered memory (Some s) = IsTrue (has_set memory s)

-- the visited set is number k
abbrev pub is_visited : Option ℕ → ℕ → Bool
is_visited None k = false
is_visited (Some s) k = k == s

-- after a visit the memory has what it had and is near, and the visited set
abbrev pub Remembers : SetBits → SetBits → Option ℕ → SetBits → Type 0
Remembers memory near set after = (k : ℕ) → has_set after k ≡ ((has_set memory k && has_set near k) || is_visited set k)
