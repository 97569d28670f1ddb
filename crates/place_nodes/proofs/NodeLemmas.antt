-- A made node with what it opens.
use Rattle.std.proofs.Common.{◌≡◌, ◌<◌, ℤ, List, [], ◌∷◌, All, length, map, sym, subst, arith}
use Rattle.std.specs.Prelude.{reverse}
use Rattle.std.proofs.lemmas.List.{get_or-map, get_or-reverse, length-map, length-reverse, reverse-reverse}
use Rattle.std.proofs.lemmas.List.Elements.{All-cons, All-nil}
use Rattle.route_model.specs.Parts.{ModelParts}
use Rattle.proof_rules.specs.Grows.{HoldsForEach}
use Rattle.proof_rules.specs.Nodes.{AtPlace, Item, children_of}
use Rattle.proof_rules.specs.OpenTrees.{Valued}
use Rattle.cert_rules.specs.Meaning.{node_of}
use Rattle.cert_check.specs.Reads.{ItemFits}
use Rattle.made_nodes.specs.declared.node.MadeNode.{MadeNode}
use Rattle.made_nodes.specs.Made.{IsMade, StaysOpen, made_children}
use Rattle.made_nodes.proofs.MadeLemmas.{made_children_fit}
use Rattle.search_tree.specs.declared.places.OpenPlace.{OpenPlace}
use Rattle.search_tree.specs.Places.{IsOpenIn, all_valued, valued}
use Rattle.place_nodes.specs.declared.task.Task.{Task}
use Rattle.place_nodes.specs.declared.work.Worked.{Worked}
use Rattle.place_nodes.specs.declared.work.Worked.TheVariants.{Memory, Node, Wall}
use Rattle.place_nodes.specs.Tasks.{IsPricedAt, IsWorkedAt, TaskFits}
use Rattle.place_nodes.specs.Worked.{IsNodeAt, IsNodeOf, IsSplitWhereCutOff, at_place}

-- what holds of each item holds of each with a value
each_valued : (P : Item → Type 0) (items : List Item) (value : ℤ) → HoldsForEach P items → All (λ (x : Valued). P x.item) (map (λ (item : Item). let x : Valued = record { item = item; value = value } in x) items)
each_valued P [] value each = All-nil (λ (x : Valued). P x.item)
each_valued P (item ∷ items) value each =
    All-cons (λ (x : Valued). P x.item) (record { item = item; value = value }) (map (λ (i : Item). let x : Valued = record { item = i; value = value } in x) items) each.0 (each_valued P items value each.1)

-- and of each open place that is read so
each_open : (m : ModelParts) (opened : List OpenPlace) → All (λ (x : Valued). ItemFits m x.item) (all_valued opened) → All (IsOpenIn m) opened
each_open m opened all i d l =
    subst (λ (x : Valued). ItemFits m x.item) (get_or-map valued opened i d (valued d) l) (all i (valued d) (omega (arith, l, length-map opened valued)))

each_back : {X : Type 0} (P : X → Type 0) (xs : List X) → All P xs → All P (reverse xs)
each_back P xs all i d l =
    let inside : i < length xs = omega (arith, l, length-reverse xs) in
    subst P (sym (get_or-reverse xs i d inside)) (all _ d (omega (arith, inside)))

-- of a task
pub node_of_task : (t : Task) (made : MadeNode) (opened : List OpenPlace) → TaskFits t → IsMade t.model.now t.z (AtPlace t.spot.now) made → StaysOpen t.z made
    → all_valued (reverse opened) ≡ made_children t.model.now (at_place t.spot.now t.value) made → IsNodeOf t.model.now t.spot.now t.value t.z made opened
node_of_task t made opened fits stands stays opens =
    let m = t.model.now in
    let each = each_valued (ItemFits m) (children_of m (AtPlace t.spot.now) (node_of m made.form)) _ (made_children_fit m t.z (AtPlace t.spot.now) made fits.model fits.spot stands) in
    let back = each_open m (reverse opened) (subst (All (λ (x : Valued). ItemFits m x.item)) (sym opens) each) in
    record {
      stands = stands;
      stays = stays;
      opens = opens;
      fit = subst (All (IsOpenIn m)) (reverse-reverse opened) (each_back (IsOpenIn m) (reverse opened) back);
    }

pub node_at : (t : Task) (made : MadeNode) (opened : List OpenPlace) → TaskFits t → IsMade t.model.now t.z (AtPlace t.spot.now) made → StaysOpen t.z made
    → all_valued (reverse opened) ≡ made_children t.model.now (at_place t.spot.now t.value) made → IsSplitWhereCutOff t.model.now t.limit t.spot.now t.z made.form
    → IsNodeAt t.model.now t.spot.now t.value t.z t.limit made opened
node_at t made opened fits stands stays opens form = record { node = node_of_task t made opened fits stands stays opens; form = form }

-- what comes of a task as it was worked, where a split may be given
pub priced_from : (t : Task) (w : Worked) → IsWorkedAt t w → IsPricedAt t w
priced_from t (Node made opened) is = is.node
priced_from t (Wall wall) is = is
priced_from t Memory is = tt
