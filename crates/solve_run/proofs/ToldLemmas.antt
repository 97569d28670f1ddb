-- What the endings of a search tell.
use Rattle.std.proofs.Common.{◌≡◌, ℤ, List, [], ◌∷◌, All, map, inl, inr, refl, sym, ap, subst}
use Rattle.std.specs.Prelude.{Option}
use Rattle.std.proofs.lemmas.List.Elements.{All-cons, All-map, All-nil}
use Rattle.route_model.specs.Parts.{ModelParts}
use Rattle.proof_rules.specs.Nodes.{Node as NodeSaid}
use Rattle.proof_rules.specs.Validity.{IsProofTree}
use Rattle.certificate.specs.declared.cert.Node.{Node}
use Rattle.certificate.specs.CertFits.{NodeIsTold}
use Rattle.cert_rules.specs.Meaning.{node_of, nodes_of}
use Rattle.cert_check.specs.Verdicts.{IsNamedNode}
use Rattle.open_tree.specs.declared.slots.Slot.{Slot}
use Rattle.open_tree.specs.declared.slots.Slot.TheVariants.{Made, Open}
use Rattle.made_nodes.specs.declared.node.MadeNode.{MadeNode}
use Rattle.search_tree.specs.declared.places.OpenPlace.{OpenPlace}
use Rattle.search_tree.specs.Laws.{IsWholeTree}
use Rattle.search_tree.specs.Search.{place_of}
use Rattle.solve_run.specs.Stops.{IsWallLine, nodes_said}
use Rattle.solve_run.specs.Told.{IsToldTree, told_node, told_slot}

-- the nodes of a certificate
told_forms : (m : ModelParts) (nodes : List MadeNode) → nodes_of m (map told_node nodes) ≡ map (λ (n : MadeNode). node_of m n.form) nodes
told_forms m [] = refl
told_forms m (n ∷ nodes) = ap (λ (ns : List NodeSaid). node_of m n.form ∷ ns) (told_forms m nodes)

pub told_tree : (m : ModelParts) (z : ℤ) (nodes : List MadeNode) → IsWholeTree m z nodes → IsToldTree m z (map told_node nodes)
told_tree m z nodes whole = record {
  tree = subst (λ (ns : List NodeSaid). IsProofTree m z ns) (sym (told_forms m nodes)) whole.tree;
  named = All-map (λ (n : Node). IsNamedNode m n.form) told_node nodes whole.named;
  told = All-map (λ (n : Node). NodeIsTold m n.form) told_node nodes whole.told;
}

-- the slots of a tree that is not whole
pub slots_said : (m : ModelParts) (slots : List (Slot OpenPlace MadeNode)) → nodes_said m (map told_slot slots) ≡ map (place_of m) slots
slots_said m [] = refl
slots_said m (Open p ∷ slots) = ap (λ (ns : List (Option NodeSaid)). place_of m (Open p) ∷ ns) (slots_said m slots)
slots_said m (Made n ∷ slots) = ap (λ (ns : List (Option NodeSaid)). place_of m (Made n) ∷ ns) (slots_said m slots)

pub slots_lines : (slots : List (Slot OpenPlace MadeNode)) → All IsWallLine (map told_slot slots)
slots_lines [] = All-nil IsWallLine
slots_lines (Open p ∷ slots) = All-cons IsWallLine (told_slot (Open p)) (map told_slot slots) (inr (refl, refl)) (slots_lines slots)
slots_lines (Made n ∷ slots) = All-cons IsWallLine (told_slot (Made n)) (map told_slot slots) (inl refl) (slots_lines slots)
