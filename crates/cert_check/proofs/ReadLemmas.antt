-- The nodes that are read grow the tree, and where reading stops the tree has its first fault.
use Rattle.std.proofs.Common.{◌≡◌, ℕ, ◌+◌, ◌<◌, ◌≤◌, ℤ, Option, None, Some, List, [], ◌∷◌, ◌++◌, length, take, get_or, refl, sym, ap, subst, ◌∙◌, drop-cons}
use Rattle.std.proofs.Math.Seq.{take-length, drop-length}
use Rattle.std.proofs.lemmas.List.{map-append, take_all, take_more}
use Rattle.route_model.specs.Fit.{ModelFits}
use Rattle.route_model.specs.Parts.{ModelParts}
use Rattle.proof_rules.specs.Grows.{Grows, HoldsForEach}
use Rattle.proof_rules.proofs.GrowsLemmas.{grows_append}
use Rattle.proof_rules.specs.Nodes.{Item, children_of}
use Rattle.certificate.specs.declared.cert.Node.{Node}
use Rattle.certificate.specs.declared.cert.NodeForm.{NodeForm}
use Rattle.cert_rules.specs.Meaning.{node_of}
use Rattle.cert_check.specs.declared.fault.CheckError.{CheckError}
use Rattle.cert_check.specs.declared.fault.NodeError.{NodeError}
use Rattle.cert_check.specs.declared.fault.NodeError.TheVariants as node_error
use Rattle.cert_check.specs.declared.fault.CheckKind.{CheckKind}
use Rattle.cert_check.specs.declared.fault.CheckKind.TheVariants as kind
use Rattle.cert_check.specs.declared.stack.Open.{Open}
use Rattle.cert_check.specs.declared.stack.Tree.{Tree}
use Rattle.cert_check.specs.Faults.{IsNodeFault, form_rules}
use Rattle.cert_check.specs.Frames.{item_of, left_open, open_items}
use Rattle.cert_check.specs.Reads.{IsNext, IsNodeError, IsRead, ItemFits}
use Rattle.certificate.specs.CertFits.{NodeIsTold}
use Rattle.cert_check.specs.Verdicts.{IsTreeError, IsTreeFault, StopsWith, error_at, forms_of, root_items}
use Rattle.cert_check.proofs.FitLemmas.{children_fit}

forms_more : (nodes : List Node) (k : ℕ) (d : Node) → k < length nodes → forms_of (take (k + 1) nodes) ≡ forms_of (take k nodes) ++ (get_or nodes k d).form ∷ []
forms_more nodes k d below = ap forms_of (take_more nodes k d below) ∙ map-append (λ (n : Node). n.form) (take k nodes) (get_or nodes k d ∷ [])

each_append : (P : Item → Type 0) (is js : List Item) → HoldsForEach P is → HoldsForEach P js → HoldsForEach P (is ++ js)
each_append P [] js first then = then
each_append P (i ∷ is) js first then = (first.0, each_append P is js first.1 then)

module _ (m : ModelParts) (z : ℤ) (nodes : List Node) (k : ℕ) (d : Node) (below : k < length nodes) where
  -- a node that stands is read
  pub read_more : (at : Open) (old new : Tree) (next : Option Open) → ModelFits m → NodeIsTold m (get_or nodes k d).form
      → IsRead m z (take k nodes) (Some at) old → IsNext m z (item_of old at) (left_open old) (get_or nodes k d).form (open_items new next)
      → IsRead m z (take (k + 1) nodes) next new
  read_more at old new next fits told read step =
      let form : NodeForm = (get_or nodes k d).form in
      let item : Item = item_of old at in
      let before : List NodeForm = forms_of (take k nodes) in
      record {
        grows = subst (λ (fs : List NodeForm). Grows (form_rules m z) (root_items m) fs (open_items new next)) (sym (forms_more nodes k d below))
            (grows_append (form_rules m z) (root_items m) (item ∷ left_open old) (open_items new next) before (form ∷ []) read.grows (step.stands, sym step.items_are));
        fit = subst (HoldsForEach (ItemFits m)) (sym step.items_are)
            (each_append (ItemFits m) (children_of m item (node_of m form)) (left_open old) (children_fit m z item form fits told read.fit.0 step.stands) read.fit.1);
      }

  -- a node stands after the tree's end
  pub past_end : (end : ℕ) (tree : Tree) → IsRead m z (take k nodes) None tree
      → IsTreeFault m z nodes end (record { line = (get_or nodes k d).line; kind = kind.Tail })
  past_end end tree read = record {
    place = k;
    open_items = [];
    grows = read.grows;
    stops = subst (λ (ns : List Node). StopsWith m z end [] ns (record { line = (get_or nodes k d).line; kind = kind.Tail })) (sym (drop-cons nodes k d below)) refl;
  }

  -- a node does not stand
  pub at_node : (end : ℕ) (at : Open) (tree : Tree) (what : CheckKind) → IsRead m z (take k nodes) (Some at) tree
      → IsNodeFault m z (item_of tree at) (get_or nodes k d).form what
      → IsTreeFault m z nodes end (record { line = (get_or nodes k d).line; kind = what })
  at_node end at tree what read fault = record {
    place = k;
    open_items = item_of tree at ∷ left_open tree;
    grows = read.grows;
    stops = subst (λ (ns : List Node). StopsWith m z end (item_of tree at ∷ left_open tree) ns (record { line = (get_or nodes k d).line; kind = what })) (sym (drop-cons nodes k d below)) (refl, fault);
  }

-- the nodes end before the tree does
pub too_short : (m : ModelParts) (z : ℤ) (nodes : List Node) (end : ℕ) (at : Open) (tree : Tree) → IsRead m z nodes (Some at) tree
    → IsTreeFault m z nodes end (record { line = end; kind = kind.Tail })
too_short m z nodes end at tree read = record {
  place = length nodes;
  open_items = item_of tree at ∷ left_open tree;
  grows = subst (λ (ns : List Node). Grows (form_rules m z) (root_items m) (forms_of ns) (item_of tree at ∷ left_open tree)) (sym (take-length nodes)) read.grows;
  stops = subst (λ (ns : List Node). StopsWith m z end (item_of tree at ∷ left_open tree) ns (record { line = end; kind = kind.Tail })) (sym (drop-length nodes)) refl;
}

none_from : (o : Option Open) → ((x : Open) → o ≡ Some x → ⊥) → o ≡ None
none_from None other = refl
none_from (Some x) other = absurd (other x refl)

-- the same as code reads it: the number z, the node and what is left come as they are
module _ (m : ModelParts) (z y : ℤ) (nodes : List Node) (k : ℕ) (item : Node) (below : k < length nodes) (read_z : y ≡ z) (is : item ≡ get_or nodes k item) where
  pub stop_past : (end : ℕ) (tree : Tree) (left : Option Open) (error : CheckError) → ((x : Open) → left ≡ Some x → ⊥) → IsRead m y (take k nodes) left tree
      → error ≡ error_at item.line (node_error.Fault kind.Tail) → IsTreeError m z nodes end error
  stop_past end tree left error other read made =
      let at : IsRead m z (take k nodes) None tree = subst (λ (x : ℤ). IsRead m x (take k nodes) None tree) read_z (subst (λ (l : Option Open). IsRead m y (take k nodes) l tree) (none_from left other) read) in
      subst (IsTreeError m z nodes end) (sym (made ∙ ap (λ (n : Node). error_at n.line (node_error.Fault kind.Tail)) is)) (past_end m z nodes k item below end tree at)

  pub stop_node : (end : ℕ) (tree : Tree) (left : Option Open) (at : Open) (what : NodeError) (error : CheckError) → left ≡ Some at → IsRead m y (take k nodes) left tree
      → IsNodeError m y (item_of tree at) item.form what → error ≡ error_at item.line what → IsTreeError m z nodes end error
  stop_node end tree left at (node_error.Fault what) error some read fault made =
      let here : IsRead m z (take k nodes) (Some at) tree = subst (λ (x : ℤ). IsRead m x (take k nodes) (Some at) tree) read_z (subst (λ (l : Option Open). IsRead m y (take k nodes) l tree) some read) in
      let one = subst (λ (x : ℤ). IsNodeFault m x (item_of tree at) (get_or nodes k item).form what) read_z (subst (λ (n : Node). IsNodeFault m y (item_of tree at) n.form what) is fault) in
      subst (IsTreeError m z nodes end) (sym (made ∙ ap (λ (n : Node). error_at n.line (node_error.Fault what)) is)) (at_node m z nodes k item below end at tree what here one)
  stop_node end tree left at node_error.Memory error some read fault made = subst (IsTreeError m z nodes end) (sym made) tt

  pub go_on : (at : Open) (left next : Option Open) (old new : Tree) → ModelFits m → NodeIsTold m (get_or nodes k item).form → left ≡ Some at → IsRead m y (take k nodes) left old
      → IsNext m y (item_of old at) (left_open old) item.form (open_items new next) → IsRead m y (take (k + 1) nodes) next new
  go_on at left next old new fits told some read step =
      read_more m y nodes k item below at old new next fits told (subst (λ (l : Option Open). IsRead m y (take k nodes) l old) some read)
      (subst (λ (n : Node). IsNext m y (item_of old at) (left_open old) n.form (open_items new next)) is step)

pub stop_short : (m : ModelParts) (z y : ℤ) (nodes : List Node) (k end : ℕ) (tree : Tree) (left : Option Open) (at : Open) (error : CheckError) → y ≡ z → length nodes ≤ k → left ≡ Some at
    → IsRead m y (take k nodes) left tree → error ≡ error_at end (node_error.Fault kind.Tail) → IsTreeError m z nodes end error
stop_short m z y nodes k end tree left at error read_z whole some read made =
    let here : IsRead m z (take k nodes) (Some at) tree = subst (λ (x : ℤ). IsRead m x (take k nodes) (Some at) tree) read_z (subst (λ (l : Option Open). IsRead m y (take k nodes) l tree) some read) in
    subst (IsTreeError m z nodes end) (sym made) (too_short m z nodes end at tree (subst (λ (ns : List Node). IsRead m z ns (Some at) tree) (take_all k nodes whole) here))
