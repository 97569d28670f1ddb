-- Lemmas on the rows and the multipliers of the master.
use Rattle.std.proofs.Common.{◌+◌, ◌<◌, ℤ, List, [], ◌∷◌, All, arith}
use Rattle.std.specs.List.{AllZip}
use Rattle.std.proofs.lemmas.Int.{ints}
use Rattle.std.proofs.lemmas.List.Elements.{All-cons, All-nil}
use Rattle.path_graph.specs.Within.{IsWithin}
use Rattle.route_model.specs.declared.limits.TheConstants.{MAX_MULT}
use Rattle.route_model.specs.Fit.{ModelFits}
use Rattle.route_model.specs.Parts.{ModelParts}
use Rattle.column_pool.specs.Walks.{IsPoolOf, PoolParts, place_count}
use Rattle.fixed_master.specs.declared.parts.Side.{Side}
use Rattle.fixed_master.specs.Duals.{SuitsSide}

-- a pool of a model has few rows
pub few_places : (m : ModelParts) (pool : PoolParts) → ModelFits m → IsPoolOf m pool → place_count pool + 0 < 4294967295
few_places m pool fits is = omega (arith, is.vars, is.rows, is.sets, is.graphs, fits.vars.few, fits.rows.few, fits.few_sets, fits.graphs.few)

-- multipliers that suit sides are in range
suits_within : (side : Side) (x : ℤ) → SuitsSide side x → IsWithin MAX_MULT x
suits_within side x suits = (omega (arith, ints, suits.least), omega (arith, ints, suits.most))

pub all_within : (sides : List Side) (mult : List ℤ) → AllZip SuitsSide sides mult → All (IsWithin MAX_MULT) mult
all_within [] [] suits = All-nil (IsWithin MAX_MULT)
all_within [] (x ∷ mult) suits = absurd suits
all_within (side ∷ sides) [] suits = absurd suits
all_within (side ∷ sides) (x ∷ mult) suits = All-cons (IsWithin MAX_MULT) x mult (suits_within side x suits.0) (all_within sides mult suits.1)
