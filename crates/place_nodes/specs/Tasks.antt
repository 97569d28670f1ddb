-- An open place that is worked, and what the labels there are made from.
use Rattle.std.specs.Prelude.{◌≡◌, ℕ, ◌≤◌, ◌≤ℤ◌, List, [], length}
use Rattle.route_model.specs.Costs.{cost_above_all}
use Rattle.route_model.specs.declared.places.Spot.{Spot}
use Rattle.route_model.specs.Fit.{ModelFits}
use Rattle.route_model.specs.Parts.{ModelParts}
use Rattle.route_model.specs.Places.{SpotFits}
use Rattle.multipliers.specs.Priced.{IsPriced}
use Rattle.multipliers.specs.Ranges.{AreInRange, MultFits}
use Rattle.label_rules.specs.declared.table.Form.TheVariants.{Both}
use Rattle.label_rules.specs.declared.table.ProofTable.{ProofTable}
use Rattle.label_rules.specs.Labels.{Setting}
use Rattle.proof_rules.specs.Places.{setting_at}
use Rattle.line_text.specs.Items.{EachAfter}
use Rattle.certificate.specs.declared.limits.TheConstants.{MAX_LABELS}
use Rattle.certificate.specs.CertText.{NearMay}
use Rattle.certificate.specs.Sizes.{sizes_of}
use Rattle.cert_rules.specs.Meaning.{near_lists}
use Rattle.pricing.specs.Outcomes.{EachHas}
use Rattle.pricing.specs.Tables.{IsTableIn}
use Rattle.place_nodes.specs.declared.prices.Basis.{Basis}
use Rattle.place_nodes.specs.declared.task.Task.{Task}
use Rattle.place_nodes.specs.declared.work.Worked.{Worked}
use Rattle.place_nodes.specs.Worked.{IsPricedWork, IsWorked}

-- the place is one of the model, the limit is one of a certificate's lists, and the cost to beat is at most above all costs
pub record TaskFits (t : Task) : Type 0 where
  pub model : ModelFits t.model.now
  pub spot : SpotFits t.model.now t.spot.now
  pub some : 1 ≤ t.limit
  pub few : t.limit ≤ MAX_LABELS
  pub cost : t.z ≤ℤ cost_above_all t.model.now

-- what comes of it
abbrev pub IsWorkedAt : Task → Worked → Type 0
IsWorkedAt t = IsWorked t.model.now t.spot.now t.value t.z t.limit

abbrev pub IsPricedAt : Task → Worked → Type 0
IsPricedAt t = IsPricedWork t.model.now t.spot.now t.value t.z t.limit

-- multipliers in their ranges, no cuts, what the multipliers make of the boxes of the place, and the near lists that lines of a
-- certificate's text can tell
pub record IsBasis (m : ModelParts) (spot : Spot) (b : Basis) : Type 0 where
  pub fits : MultFits m b.mult
  pub none : b.cuts ≡ []
  pub weights : b.mult.cuts ≡ []
  pub prices : IsPriced m b.cuts spot.boxes b.mult b.priced
  pub range : AreInRange spot.boxes b.priced
  pub told : EachAfter (NearMay (sizes_of m)) [] b.lines
  pub lists : b.near ≡ near_lists m b.lines

-- how many graphs there are, and what the labels of each see by these
abbrev pub graphs_of : Task → ℕ
graphs_of t = length t.model.now.graphs

abbrev pub setting_by : Task → Basis → ℕ → Setting
setting_by t b = setting_at t.model.now t.spot.now (near_lists t.model.now b.lines) b.cuts b.mult

-- a closed table of each graph in order, a pair of whole lists, with exactly its least
abbrev pub AreBothTables : Task → Basis → List ProofTable → Type 0
AreBothTables t b tables = EachHas (graphs_of t) tables (λ g (table : ProofTable). IsTableIn (setting_by t b g) g table × (table.form ≡ Both))
