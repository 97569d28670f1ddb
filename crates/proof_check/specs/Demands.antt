-- What is asked of a proof at a place, demand by demand in order, and which demand is the first that is not met.
use Rattle.std.specs.Prelude.{◌≡◌, ◌≢◌, ◌↔◌, ℕ, zero, suc, ◌<◌, ◌≤ℤ◌, ℤ, Bool, IsTrue, Option, None, Some, List, [], ◌∷◌, ◌++◌, length, All, Contains, slice_index_or}
use Rattle.path_graph.specs.Fit.{int_at}
use Rattle.path_graph.specs.Walk.{GraphParts, root_of}
use Rattle.rank1_cuts.specs.Fit.{CutFits}
use Rattle.route_model.specs.declared.places.Spot.{Spot}
use Rattle.route_model.specs.Parts.{ModelParts}
use Rattle.multipliers.specs.Quantities.{AreDefined}
use Rattle.label_rules.specs.declared.table.Form.TheVariants as text
use Rattle.label_rules.specs.declared.table.ProofTable.{ProofTable}
use Rattle.label_rules.specs.declared.label.Label.{Label}
use Rattle.label_rules.specs.Labels.{Direction, Forward, Backward, Setting, CanExtend, extended, left, root}
use Rattle.label_rules.specs.Dominance.{StatesFit}
use Rattle.label_rules.specs.Tables.{Covers, LiesInWindows, NeedsDominator}
use Rattle.label_rules.specs.Leasts.{Form, Full, Both, Half, IsLeast}
use Rattle.proof_rules.specs.Proofs.{AreBoth, IsProof, Table, setting_of, table_at}
use Rattle.certificate.specs.declared.cert.Proof.{Proof}
use Rattle.cert_rules.specs.Meaning.{proof_of}
use Rattle.proof_check.specs.declared.error.ProofError.{ProofError}
use Rattle.proof_check.specs.declared.error.ProofError.TheVariants.{Side, Root, Cover, Sink, Memory}
use Rattle.proof_check.specs.Keeps.{ProofKeeps}

-- a demand is on the sides; or, for a graph, on the roots of its table, on its covers, or on its least
pub data Demand : Type 0 where
  Sides : Demand
  Roots : ℕ → Demand
  Extensions : ℕ → Demand
  Least : ℕ → Demand

-- the demands on one graph
abbrev pub demands_of : ℕ → List Demand
demands_of g = Roots g ∷ Extensions g ∷ Least g ∷ []

-- the demands in order: the sides, then graph by graph its three
abbrev pub demands : ℕ → List Demand
demands zero = Sides ∷ []
demands (suc g) = demands g ++ demands_of g

-- the fault where a demand is not met
abbrev pub fault_of : Demand → ProofError
fault_of Sides = Side
fault_of (Roots g) = Root
fault_of (Extensions g) = Cover
fault_of (Least g) = Sink

-- the table at a place; nothing is said past the end
abbrev pub text_table : List ProofTable → ℕ → ProofTable
text_table tables g = slice_index_or tables g (record { graph = 0; form = text.Full; least = None; fore = []; back = [] })

-- graph g has a table: it stands at place g
abbrev pub HasTable : List ProofTable → ℕ → Type 0
HasTable tables g = (g < length tables) × ((text_table tables g).graph ≡ g)

-- what is said of backward lists, of which a full table has none
abbrev pub IfBack : Form → Type 0 → Type 0
IfBack Full P = Unit {0}
IfBack Both P = P
IfBack (Half t) P = P

-- the threshold, if there is one, and that it is at least the first main value at the source
abbrev pub threshold_of : Form → Option ℤ
threshold_of Full = None
threshold_of Both = None
threshold_of (Half t) = Some t

abbrev pub IsFrom : Option ℤ → GraphParts → Type 0
IsFrom None graph = Unit {0}
IsFrom (Some t) graph = int_at (root_of graph).at 0 ≤ℤ t

-- where whole lists are asked for, the table has both; its threshold is not below the source; and a label of each list
-- dominates the root
pub record IsRooted (whole : Bool) (S : Setting) (t : Table) : Type 0 where
  pub form : IsTrue whole → t.form ≡ Both
  pub threshold : IsFrom (threshold_of t.form) S.graph
  pub fore : Covers Forward S t.fore (root Forward S)
  pub back : IfBack t.form (Covers Backward S t.back (root Backward S))

-- the labels of a list lie in their windows, with states below the denominators, and each extension that needs a dominator
-- has one
pub record IsExtended (direction : Direction) (S : Setting) (threshold : Option ℤ) (labels : List Label) : Type 0 where
  pub windows : All (LiesInWindows S) labels
  pub states : All (StatesFit S) labels
  pub extensions : (l : Label) (a : ℕ) → Contains labels l → a < length S.graph.arcs → left direction S a ≡ l.vertex → CanExtend direction S l a
      → NeedsDominator direction S threshold (extended direction S l a) → Covers direction S labels (extended direction S l a)

-- so do both lists of a table
pub record AreExtended (S : Setting) (t : Table) : Type 0 where
  pub fore : IsExtended Forward S (threshold_of t.form) t.fore
  pub back : IfBack t.form (IsExtended Backward S (threshold_of t.form) t.back)

-- what each demand asks
abbrev pub IsMet : ModelParts → Spot → Proof → Bool → Demand → Type 0
IsMet m spot p whole Sides = All CutFits p.cuts × AreDefined m p.cuts spot.boxes p.mult
IsMet m spot p whole (Roots g) = HasTable p.tables g × IsRooted whole (setting_of m spot (proof_of m p) g) (table_at (proof_of m p).tables g)
IsMet m spot p whole (Extensions g) = AreExtended (setting_of m spot (proof_of m p) g) (table_at (proof_of m p).tables g)
IsMet m spot p whole (Least g) =
    let t = table_at (proof_of m p).tables g in
    IsLeast (setting_of m spot (proof_of m p) g) t.form t.fore t.back t.least

-- the first demand that is not met
pub record IsFirstUnmet (IsHeld : Demand → Type 0) (all : List Demand) (d : Demand) : Type 0 where
  pub before : List Demand
  pub after : List Demand
  pub order : all ≡ before ++ d ∷ after
  pub met : All IsHeld before
  pub unmet : ¬ (IsHeld d)

-- the fault of a proof is that of the first demand that is not met; want of memory may come at any time
abbrev pub IsProofFault : ModelParts → Spot → Proof → Bool → ProofError → Type 0
IsProofFault m spot p whole Memory = Unit {0}
IsProofFault m spot p whole fault = (d : Demand) × (fault_of d ≡ fault) × IsFirstUnmet (IsMet m spot p whole) (demands (length m.graphs)) d

-- a fault tells of something asked that it is not so, unless it is want of memory
abbrev pub TellsOf : Type 0 → ProofError → ProofError → Type 0
TellsOf Held kind Memory = Unit {0}
TellsOf Held kind fault = (kind ≡ fault) × ¬ Held

-- the fault of a graph is that of the first of its demands that is not met
abbrev pub IsGraphFault : ModelParts → Spot → Proof → Bool → ℕ → ProofError → Type 0
IsGraphFault m spot p whole g fault = (d : Demand) × (fault_of d ≡ fault) × IsFirstUnmet (IsMet m spot p whole) (demands_of g) d

-- a valid proof, all of whose tables have both lists where these are asked for
pub record IsSound (m : ModelParts) (spot : Spot) (p : Proof) (whole : Bool) : Type 0 where
  pub proof : IsProof m spot (proof_of m p)
  pub both : IsTrue whole → AreBoth m (proof_of m p)

-- the demands together ask just this
abbrev pub DemandsLaw : Type 0
DemandsLaw = (m : ModelParts) (spot : Spot) (p : Proof) (whole : Bool) → ProofKeeps m p
    → (All (IsMet m spot p whole) (demands (length m.graphs)) ↔ IsSound m spot p whole)

-- so where there is a fault, the proof is not valid
abbrev pub FaultLaw : Type 0
FaultLaw = (m : ModelParts) (spot : Spot) (p : Proof) (whole : Bool) (fault : ProofError) → ProofKeeps m p → fault ≢ Memory
    → IsProofFault m spot p whole fault → ¬ (IsSound m spot p whole)
