-- A node that closes a place by its proof.
use Rattle.std.proofs.Common.{◌≡◌, ℤ, None, List, [], ap}
use Rattle.std.specs.Prelude.{reverse}
use Rattle.certificate.specs.declared.cert.NodeForm.TheVariants as node
use Rattle.proof_rules.specs.Nodes.{AtPlace}
use Rattle.made_nodes.specs.Made.{IsMade}
use Rattle.search_tree.specs.declared.places.OpenPlace.{OpenPlace}
use Rattle.search_tree.specs.Places.{all_valued}
use Rattle.place_nodes.specs.declared.proof.Known.{Known}
use Rattle.place_nodes.specs.declared.task.Task.{Task}
use Rattle.place_nodes.specs.Bounds.{LeavesOpen}
use Rattle.place_nodes.specs.Proofs.{IsPlaceProof}
use Rattle.place_nodes.specs.Tasks.{TaskFits}
use Rattle.place_nodes.specs.Worked.{IsNodeAt}
use Rattle.place_nodes.proofs.NodeLemmas.{node_at}

close_made : (t : Task) (k : Known) (b : ℤ) → IsPlaceProof t.model.now t.spot.now k → LeavesOpen t k None → IsMade t.model.now t.z (AtPlace t.spot.now) (record { form = node.Close k.proof; bound = b })
close_made t k b is closed = record {
  is_node = (is.stands, closed);
  has_proof = tt;
  bound = tt;
  drops = tt;
  named = tt;
  told = is.told;
  proof_told = tt;
}

pub close_at : (t : Task) (k : Known) (b : ℤ) (opened : List OpenPlace) → TaskFits t → IsPlaceProof t.model.now t.spot.now k → LeavesOpen t k None → opened ≡ []
    → IsNodeAt t.model.now t.spot.now t.value t.z t.limit (record { form = node.Close k.proof; bound = b }) opened
close_at t k b opened fits is closed none =
    node_at t (record { form = node.Close k.proof; bound = b }) opened fits (close_made t k b is closed) tt (ap (λ (places : List OpenPlace). all_valued (reverse places)) none) tt
