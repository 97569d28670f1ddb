-- What becomes of a pool when a walk is handed to it.
use Rattle.std.specs.Prelude.{◌≡◌, ℕ, List, [], ◌∷◌, ◌++◌, length}
use Rattle.column_pool.specs.declared.kept.KeptWalk.{KeptWalk}
use Rattle.column_pool.specs.declared.pool.Known.{Known}
use Rattle.column_pool.specs.declared.pool.Known.TheVariants.{New, Had, Memory}
use Rattle.column_pool.specs.Walks.{IsKept, PoolParts}
use Rattle.route_model.specs.Parts.{ModelParts}

-- the walk of the graph by these arcs is the last, and its number is how many there were before
pub record IsLonger (old new : PoolParts) (g : ℕ) (path : List ℕ) (number : ℕ) : Type 0 where
  pub last : KeptWalk
  pub graph : last.graph ≡ g
  pub arcs : last.arcs ≡ path
  pub walks : new ≡ record old { walks = old.walks ++ last ∷ [] }
  pub numbered : number ≡ length old.walks

-- a new walk makes the pool longer by it; else the pool is as before
abbrev pub Adds : PoolParts → PoolParts → ℕ → List ℕ → Known → Type 0
Adds old new g path (New number) = IsLonger old new g path number
Adds old new g path (Had number) = new ≡ old
Adds old new g path Memory = new ≡ old

-- a walk of the model is put after the others, and has as its number how many there were
pub record IsPut (m : ModelParts) (old new : List KeptWalk) (g : ℕ) (path : List ℕ) (number : ℕ) : Type 0 where
  pub last : KeptWalk
  pub kept : IsKept m last
  pub graph : last.graph ≡ g
  pub arcs : last.arcs ≡ path
  pub walks : new ≡ old ++ last ∷ []
  pub numbered : number ≡ length old
