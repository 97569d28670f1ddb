-- What a listing of the walks of a place answers.
use Rattle.std.specs.Prelude.{◌≡◌, ℕ, ◌<◌, ◌≤◌, ◌^◌, ℤ, None, IfSome, List, [], All, length, map, sum_by, slice_index_or}
use Rattle.path_graph.specs.declared.set_bits.SetBits.{SetBits}
use Rattle.path_graph.specs.First.{EachBelow}
use Rattle.path_graph.specs.Within.{IsWithin}
use Rattle.rank1_cuts.specs.declared.cut.Cut.{Cut}
use Rattle.route_model.specs.declared.multipliers.Mult.{Mult}
use Rattle.route_model.specs.declared.multipliers.Priced.{Priced}
use Rattle.route_model.specs.declared.places.Spot.{Spot}
use Rattle.route_model.specs.Parts.{ModelParts}
use Rattle.route_model.specs.Places.{SpotFits}
use Rattle.ng_sets.specs.Near.{FitsGraphs}
use Rattle.multipliers.specs.Priced.{IsPriced}
use Rattle.multipliers.specs.Ranges.{AreInRange, CutsFit, MultFits}
use Rattle.label_rules.specs.declared.table.Form.TheVariants.{Full}
use Rattle.label_rules.specs.declared.table.ProofTable.{ProofTable}
use Rattle.proof_rules.specs.ListWalls.{IsDemandedTree, IsUnfinished, OfGraph}
use Rattle.proof_rules.specs.Places.{setting_at}
use Rattle.proof_rules.specs.PrefixTrees.{IsComplete}
use Rattle.proof_rules.specs.Proofs.{Proof}
use Rattle.concatenate.specs.Fit.{MayJoin}
use Rattle.certificate.specs.declared.cert.Trie.{Trie}
use Rattle.cert_rules.specs.Meaning.{steps_of, table_of}
use Rattle.walk_list.specs.declared.listing.Listed.{Listed}
use Rattle.walk_list.specs.declared.listing.Listed.TheVariants.{Tries, Wall, Memory}

-- the table of a graph; nothing is said of a graph past the end
abbrev pub table_at : List ProofTable → ℕ → ProofTable
table_at tables g = slice_index_or tables g (record { graph = 0; form = Full; least = None; fore = []; back = [] })

-- the place, the cuts with their weights, the near lists and the prices fit as the parts of a field do, for each graph; there
-- is one table for each graph in order, whose labels of rests may be joined, and the leasts are within 2^112 of 0
pub record ListingFits (m : ModelParts) (spot : Spot) (priced : Priced) (near : List (List SetBits)) (cuts : List Cut) (y : List ℕ) (tables : List ProofTable) : Type 0 where
  pub spot_fits : SpotFits m spot
  pub mult : Mult
  pub mult_fits : MultFits m mult
  pub cuts_fit : CutsFit cuts mult
  pub weights : mult.cuts ≡ y
  pub priced_is : IsPriced m cuts spot.boxes mult priced
  pub range : AreInRange spot.boxes priced
  pub near_fits : FitsGraphs near m.graphs
  pub count : length tables ≡ length m.graphs
  pub rests : EachBelow (length m.graphs) (λ g. All (MayJoin (setting_at m spot near cuts mult g)) (table_at tables g).back)
  pub leasts : All (λ (t : ProofTable). IfSome t.least (IsWithin (2 ^ 112))) tables

-- a proof has these parts: multipliers of which these are the prices and the weights, and these cuts, near lists and tables
pub record IsProofWith (m : ModelParts) (spot : Spot) (priced : Priced) (near : List (List SetBits)) (cuts : List Cut) (y : List ℕ) (tables : List ProofTable) (p : Proof) : Type 0 where
  pub weights : p.mult.cuts ≡ y
  pub priced_is : IsPriced m cuts spot.boxes p.mult priced
  pub cuts_same : p.cuts ≡ cuts
  pub near_same : p.near ≡ near
  pub tables_same : p.tables ≡ map table_of tables

-- the trees are one for each graph in order
abbrev pub trie_at : List Trie → ℕ → Trie
trie_at tries g = slice_index_or tries g (record { graph = 0; steps = [] })

pub record AreInOrder (count : ℕ) (tries : List Trie) : Type 0 where
  pub count_is : length tries ≡ count
  pub graphs : EachBelow count (λ g. (trie_at tries g).graph ≡ g)

-- they have at most so many lines together
abbrev pub AreFew : ℕ → List Trie → Type 0
AreFew most tries = sum_by length (map steps_of tries) ≤ most

-- each is complete against z, whichever proof has these parts
pub record AreComplete (m : ModelParts) (spot : Spot) (IsOf : Proof → Type 0) (z : ℤ) (tries : List Trie) : Type 0 where
  pub order : AreInOrder (length m.graphs) tries
  pub each : (p : Proof) → IsOf p → EachBelow (length m.graphs) (OfGraph IsComplete m spot p z (map steps_of tries))

-- they have so many lines together, each over a demanded arc, and in one of them a demanded arc leads to no child
pub record AreCutOff (m : ModelParts) (spot : Spot) (IsOf : Proof → Type 0) (z : ℤ) (limit : ℕ) (tries : List Trie) : Type 0 where
  pub order : AreInOrder (length m.graphs) tries
  pub lines : sum_by length (map steps_of tries) ≡ limit
  pub each : (p : Proof) → IsOf p → EachBelow (length m.graphs) (OfGraph IsDemandedTree m spot p z (map steps_of tries))
  pub graph : ℕ
  pub there : graph < length m.graphs
  pub unfinished : (p : Proof) → IsOf p → OfGraph IsUnfinished m spot p z (map steps_of tries) graph

-- what holds of the trees, whether they are whole or cut off
abbrev pub MatchListed : Listed → (List Trie → Type 0) → (List Trie → Type 0) → Type 0
MatchListed (Tries tries) P Q = P tries
MatchListed (Wall tries) P Q = Q tries
MatchListed Memory P Q = Unit {0}
