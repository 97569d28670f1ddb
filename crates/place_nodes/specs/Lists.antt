-- The counts of the walks that trees list at a place.
use Rattle.std.specs.Prelude.{List, [], ◌∷◌, map}
use Rattle.proof_rules.specs.Counts.{Walk}
use Rattle.proof_rules.specs.Nodes.{AtCounts, first_boxes, listed_walks}
use Rattle.proof_rules.specs.OpenTrees.{Valued}
use Rattle.certificate.specs.declared.cert.Trie.{Trie}
use Rattle.cert_rules.specs.Meaning.{steps_of}
use Rattle.place_nodes.specs.declared.proof.Known.{Known}
use Rattle.place_nodes.specs.declared.task.Task.{Task}
use Rattle.place_nodes.specs.Proofs.{proof_in}

-- the walks of the trees, by the rules
abbrev pub walks_at : Task → Known → List Trie → List Walk
walks_at t k tries = listed_walks t.model.now t.spot.now (proof_in t k) (map steps_of tries)

-- their counts, each from 0 to the most paths of its graph, with the value of the place
abbrev pub counts_opened : Task → Known → List Trie → List Valued
counts_opened t k tries = record { item = AtCounts t.spot.now (walks_at t k tries) (first_boxes t.spot.now (walks_at t k tries)); value = t.value } ∷ []
