-- What a proof at a place says of the solutions of the place.
use Rattle.std.proofs.Common.{◌≡◌, ℕ, ◌<◌, ℤ, ◌≤ℤ◌, [], length, Option, None, Some, sym, subst}
use Rattle.std.proofs.Math.ListN.{get_or-map}
use Rattle.path_graph.specs.Bounds.{IsAtLeast, IsAtMost}
use Rattle.route_model.specs.declared.places.Spot.{Spot}
use Rattle.route_model.specs.declared.plan.Plan.{Plan}
use Rattle.route_model.specs.Fit.{ModelFits}
use Rattle.route_model.specs.Parts.{ModelParts, taken_at}
use Rattle.route_model.specs.Places.{SolvesAt}
use Rattle.route_model.specs.Quantities.{cost_of}
use Rattle.multipliers.specs.Quantities.{reduced_cost, scaled}
use Rattle.safe_bound.specs.Bounds.{least_at}
use Rattle.safe_bound.proofs.BoundLemmas.{bound_holds, limit_holds, scaled_apart}
use Rattle.label_rules.specs.Labels.{Setting}
use Rattle.label_rules.specs.Leasts.{Both, Form, IsTable}
use Rattle.label_rules.specs.Tables.{AreCovers}
use Rattle.proof_rules.specs.Proofs.{AreBoth, BoundLaw, ClosesAgainst, IsProof, LeastsLaw, LimitLaw, Proof, Table, bound_at, leasts_of, setting_of, table_at, walk_limit}
use Rattle.label_rules.proofs.LeastLemmas.{least_law, table_covers}
use Rattle.proof_rules.proofs.PlaceLemmas.{reduced_is, setting_fits, walk_admitted}

least_at-is : (p : Proof) (g : ℕ) → least_at (leasts_of p) g ≡ (table_at p.tables g).least
least_at-is p g = get_or-map (λ (t : Table). t.least) p.tables g (table_at [] g)

pub leasts_law : LeastsLaw
leasts_law m spot p plan fits proof solves i below =
    let g : ℕ = (taken_at plan.paths i).graph in
    let S : Setting = setting_of m spot p g in
    let path = solves.within.solution.paths i below in
    let is = walk_admitted m spot p.near p.cuts p.mult plan i fits proof.cuts_fit solves below in
    let table = proof.each g path.graph in
    let t : Table = table_at p.tables g in
    let least = least_law S t.form t.fore t.back t.least (taken_at plan.paths i).arcs (setting_fits m spot p.near p.cuts p.mult g fits path.graph proof.cuts_fit)
    (table_covers S t.form t.fore t.back table.closed) table.least_is is in
    let cost = reduced_is m spot p.near p.cuts p.mult g _ _ (taken_at plan.paths i).arcs fits path.graph path.walk.walk in
    subst (λ (l : Option ℤ). IsAtLeast l (reduced_cost m p.cuts p.mult g (taken_at plan.paths i).arcs)) (sym (least_at-is p g)) (subst (IsAtLeast t.least) cost least)

pub bound_law : BoundLaw
bound_law m spot p plan fits proof solves =
    bound_holds m p.cuts spot.boxes p.mult (leasts_of p) plan fits proof.cuts_fit solves.within proof.defined (leasts_law m spot p plan fits proof solves)

pub limit_law : LimitLaw
limit_law m spot p z plan i fits proof solves cheap below =
    let g : ℕ = (taken_at plan.paths i).graph in
    let path = solves.within.solution.paths i below in
    let limit = limit_holds m p.cuts spot.boxes p.mult (leasts_of p) plan z fits proof.cuts_fit solves.within proof.defined (leasts_law m spot p plan fits proof solves) cheap i below in
    subst (IsAtMost (walk_limit m spot p z g)) (sym (reduced_is m spot p.near p.cuts p.mult g _ _ (taken_at plan.paths i).arcs fits path.graph path.walk.walk)) limit

-- what closes leaves no solution below z
closed_bound : (bound : Option ℤ) (z cost : ℤ) → ClosesAgainst z bound → IsAtLeast bound (scaled cost) → z ≤ℤ cost
closed_bound None z cost closes least = absurd least
closed_bound (Some b) z cost closes least = scaled_apart z cost b closes least

pub close_none : (m : ModelParts) (z : ℤ) (spot : Spot) (p : Proof) (plan : Plan) → ModelFits m → IsProof m spot p → ClosesAgainst z (bound_at m spot p) → SolvesAt m spot plan → z ≤ℤ cost_of m plan
close_none m z spot p plan fits proof closes solves = closed_bound (bound_at m spot p) z (cost_of m plan) closes (bound_law m spot p plan fits proof solves)

-- the two lists of a pair are covers
pub both_covers : (m : ModelParts) (spot : Spot) (p : Proof) (g : ℕ) → IsProof m spot p → AreBoth m p → g < length m.graphs
    → AreCovers (setting_of m spot p g) None (table_at p.tables g).fore (table_at p.tables g).back
both_covers m spot p g proof both inside =
    let S : Setting = setting_of m spot p g in
    let t : Table = table_at p.tables g in
    table_covers S Both t.fore t.back (subst (λ (f : Form). IsTable S f t.fore t.back) (both g inside) (proof.each g inside).closed)
