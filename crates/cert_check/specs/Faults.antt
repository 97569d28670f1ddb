-- The first fault at a node: which demands a node must meet at an item, in the order in which they are tried.
use Rattle.std.specs.Prelude.{◌≡◌, Bool, true, false, ◌⊎◌, ◌^◌, ℤ, pos, ◌-ℤ◌, ◌+ℤ◌, List, [], length, map, All}
use lib.Signed.{◌<ℤ◌}
use Rattle.std.specs.List.{range_with_len}
use Rattle.path_graph.specs.Within.{IsWithin}
use Rattle.path_graph.specs.First.{EachBelow}
use Rattle.route_model.specs.declared.multipliers.Mult.{Mult}
use Rattle.route_model.specs.declared.places.Span.{Span}
use Rattle.route_model.specs.declared.places.Spot.{Spot}
use Rattle.route_model.specs.Parts.{ModelParts}
use Rattle.route_model.specs.PlaceParts.{SplitFits}
use Rattle.multipliers.specs.Quantities.{AreDefined, base, reduced_cost, scaled}
use Rattle.proof_rules.specs.Counts.{Walk}
use Rattle.proof_rules.specs.Grows.{Rules}
use Rattle.proof_rules.specs.Nodes.{AtCounts, AtPlace, IsCountSplit, IsFixed, IsNode, IsPoint, Item, children_of, count_terms, tree_at}
use Rattle.proof_rules.specs.PrefixTrees.{IsComplete}
use Rattle.proof_rules.specs.Proofs.{AreBoth, ClosesAgainst, IsProof, Proof, bound_at, setting_of, table_at, walk_limit}
use Rattle.certificate.specs.declared.cert.NodeForm.{NodeForm}
use Rattle.certificate.specs.declared.cert.NodeForm.TheVariants as node
use Rattle.certificate.specs.declared.cert.Proof.{Proof as TextProof}
use Rattle.certificate.specs.declared.cert.Trie.{Trie}
use Rattle.cert_rules.specs.Meaning.{node_of, proof_of, steps_of}
use Rattle.proof_check.specs.Demands.{Demand, Extensions, IsFirstUnmet, IsMet, Least, Roots, Sides, demands}
use Rattle.cert_check.specs.declared.fault.CheckKind.{CheckKind}
use Rattle.cert_check.specs.declared.fault.CheckKind.TheVariants as kind

-- a demand of this kind fails
abbrev pub Fails : CheckKind → Type 0 → CheckKind → Type 0
Fails kind demand k = (k ≡ kind) × ¬ demand

-- one demand fails, or it holds and a later one does
abbrev pub FailsFirst : CheckKind → Type 0 → (CheckKind → Type 0) → CheckKind → Type 0
FailsFirst kind demand later k = Fails kind demand k ⊎ (demand × later k)

-- the trees of a list node are named graph by graph in order
abbrev pub AreNamed : ModelParts → List Trie → Type 0
AreNamed m tries = map (λ (t : Trie). t.graph) tries ≡ range_with_len 0 (length m.graphs)

-- the trees of the graphs in order, and each is complete
pub record AreListed (m : ModelParts) (z : ℤ) (spot : Spot) (p : Proof) (tries : List Trie) : Type 0 where
  pub named : AreNamed m tries
  pub each : EachBelow (length m.graphs) (λ g. IsComplete (setting_of m spot p g) (table_at p.tables g).back (walk_limit m spot p z g) (tree_at (map steps_of tries) g))

-- each reduced cost of the walks is near 0, and the terms of the place and of the walks close against z
pub record CountsClose (m : ModelParts) (z : ℤ) (spot : Spot) (walks : List Walk) (boxes : List Span) (mult : Mult) : Type 0 where
  pub near : All (λ (w : Walk). IsWithin (2 ^ 88) (reduced_cost m [] mult w.graph w.arcs)) walks
  pub above : scaled (z -ℤ pos 1) <ℤ (base m [] spot.boxes mult +ℤ count_terms m mult walks boxes)

-- which nodes may stand at an item, and the items that they open; the trees of a list must be named in order besides
abbrev pub Stands : ModelParts → ℤ → Item → NodeForm → Type 0
Stands m z item (node.List p tries) = IsNode m z item (node_of m (node.List p tries)) × AreNamed m tries
Stands m z item form = IsNode m z item (node_of m form)

abbrev pub form_rules : ModelParts → ℤ → Rules Item NodeForm
form_rules m z = record { Fits = Stands m z; children = λ item form. children_of m item (node_of m form) }

-- the kind of fault where a demand on a proof is not met
abbrev pub kind_of : Demand → CheckKind
kind_of Sides = kind.Side
kind_of (Roots g) = kind.Root
kind_of (Extensions g) = kind.Cover
kind_of (Least g) = kind.Sink

-- a proof at a place has this fault: its first demand that is not met is of this kind; in a fix or a list all tables must be
-- pairs of whole lists
abbrev pub IsProofFault : ModelParts → Spot → Bool → TextProof → CheckKind → Type 0
IsProofFault m spot whole p k =
    (d : Demand) × (k ≡ kind_of d) × IsFirstUnmet (IsMet m spot p whole) (demands (length m.graphs)) d

-- the kind of the first demand that fails at a node
abbrev pub IsNodeFault : ModelParts → ℤ → Item → NodeForm → CheckKind → Type 0
IsNodeFault m z (AtPlace spot) (node.Split split proof) k = Fails kind.Split (SplitFits m spot split) k
IsNodeFault m z (AtPlace spot) (node.Close p) k =
    IsProofFault m spot false p k
    ⊎ (IsProof m spot (proof_of m p) × Fails kind.Bound (ClosesAgainst z (bound_at m spot (proof_of m p))) k)
IsNodeFault m z (AtPlace spot) (node.Fix p arcs) k =
    IsProofFault m spot true p k
    ⊎ (IsProof m spot (proof_of m p) × AreBoth m (proof_of m p) × Fails kind.Fix (All (IsFixed m z spot (proof_of m p)) arcs) k)
IsNodeFault m z (AtPlace spot) (node.List p tries) k =
    IsProofFault m spot true p k
    ⊎ (IsProof m spot (proof_of m p) × AreBoth m (proof_of m p) × Fails kind.List (AreListed m z spot (proof_of m p) tries) k)
IsNodeFault m z (AtCounts spot walks boxes) (node.CountSplit i d) k = Fails kind.Split (IsCountSplit boxes i d) k
IsNodeFault m z (AtCounts spot walks boxes) (node.CountClose mult) k =
    FailsFirst kind.Side (AreDefined m [] spot.boxes mult) (Fails kind.Bound (CountsClose m z spot walks boxes mult)) k
IsNodeFault m z (AtCounts spot walks boxes) node.Point k = Fails kind.Point (IsPoint m z spot walks boxes) k
IsNodeFault m z item form k = k ≡ kind.Split
