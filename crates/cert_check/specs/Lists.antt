-- What the trees of a list node give.
use Rattle.std.specs.Prelude.{◌≡◌, ℕ, ℤ, Option, None, Some, List, [], length, map, slice_index_or}
use Rattle.path_graph.specs.First.{EachBelow}
use Rattle.route_model.specs.declared.places.Spot.{Spot}
use Rattle.route_model.specs.Parts.{ModelParts}
use Rattle.proof_rules.specs.Nodes.{AtPlace, listed_walks, tree_at}
use Rattle.proof_rules.specs.PrefixTrees.{IsComplete}
use Rattle.certificate.specs.declared.cert.NodeForm.TheVariants as node
use Rattle.certificate.specs.declared.cert.Proof.{Proof}
use Rattle.certificate.specs.declared.cert.Trie.{Trie}
use Rattle.cert_rules.specs.Meaning.{proof_of, steps_of}
use Rattle.proof_check.specs.declared.proved.Proved.{Proved}
use Rattle.proof_check.specs.Checked.{limit_in, proof_in, setting_in, table_in}
use Rattle.cert_check.specs.declared.stack.Listed.{Listed}
use Rattle.cert_check.specs.Faults.{Stands}
use Rattle.cert_check.specs.Frames.{walks_said}

-- a tree by its place
abbrev pub trie_at : List Trie → ℕ → Trie
trie_at tries g = slice_index_or tries g (record { graph = 0; steps = [] })

-- each tree is complete
abbrev pub AreComplete : Proved → ℤ → List Trie → Type 0
AreComplete at z tries = EachBelow (length tries) (λ g. IsComplete (setting_in at g) (table_in at g).back (limit_in at z g) (tree_at (map steps_of tries) g))

-- some tree is not complete; or all are, and these are their walks in order
abbrev pub AreListedBy : Proved → ℤ → List Trie → Option (List Listed) → Type 0
AreListedBy at z tries None = ¬ (AreComplete at z tries)
AreListedBy at z tries (Some walks) =
    AreComplete at z tries × (walks_said walks ≡ listed_walks at.model.now at.spot.now (proof_in at) (map steps_of tries))

-- a list node stands, and these are its walks
pub record ListsWalks (m : ModelParts) (z : ℤ) (spot : Spot) (p : Proof) (tries : List Trie) (walks : List Listed) : Type 0 where
  pub stands : Stands m z (AtPlace spot) (node.List p tries)
  pub are : walks_said walks ≡ listed_walks m spot (proof_of m p) (map steps_of tries)
