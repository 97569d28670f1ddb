-- The plain tree at the root, and what is passed where there is none.
use Rattle.std.proofs.Common.{◌≡◌, ◌≢◌, ℕ, suc, ◌≤◌, ℤ, None, List, [], ◌∷◌, ◌++◌, inl, inr, ◌⊎◌, length, map, refl, sym, ap, subst, ◌∙◌, arith}
use Rattle.std.specs.Prelude.{Err, IfOk, Ok, Result, reverse}
use Rattle.std.proofs.lemmas.List.{append-nil, length-map, reverse-append}
use Rattle.std.proofs.lemmas.List.Elements.{All-cons, All-same}
use Rattle.path_graph.specs.declared.list.NoMemory.{NoMemory}
use Rattle.route_model.specs.declared.places.Spot.{Spot}
use Rattle.route_model.specs.Costs.{least_box_cost}
use Rattle.route_model.specs.Fit.{ModelFits}
use Rattle.route_model.specs.Parts.{ModelParts}
use Rattle.route_model.specs.Places.{root_place}
use Rattle.proof_rules.specs.Grows.{Grows}
use Rattle.proof_rules.specs.Nodes.{AtPlace, IsNode, Item, children_of, node_rules}
use Rattle.proof_rules.specs.OpenTrees.{Valued, valued_root}
use Rattle.certificate.specs.declared.cert.NodeForm.{NodeForm}
use Rattle.certificate.specs.declared.cert.NodeForm.TheVariants as node
use Rattle.cert_rules.specs.Meaning.{near_lists, node_of, proof_of, steps_of}
use Rattle.pricing.specs.Outcomes.{direction_of}
use Rattle.search_rules.proofs.ListLemmas.{list_wall_cuts_off, list_wall_passes}
use Rattle.search_rules.proofs.PlainLemmas.{plain_tree}
use Rattle.search_rules.proofs.TableLemmas.{table_wall_passes}
use Rattle.made_nodes.specs.declared.node.MadeNode.{MadeNode}
use Rattle.made_nodes.specs.Made.{IsMade, StaysOpen, made_children, made_rules}
use Rattle.made_nodes.proofs.MadeLemmas.{made_falls}
use Rattle.search_tree.specs.declared.growing.Grown.{Grown}
use Rattle.search_tree.specs.declared.places.OpenItem.{OpenItem}
use Rattle.search_tree.specs.declared.places.OpenItem.TheVariants.{Place}
use Rattle.search_tree.specs.declared.places.OpenPlace.{OpenPlace}
use Rattle.search_tree.specs.Grown.{IsGrownAt}
use Rattle.search_tree.specs.Places.{IsOpenIn, all_valued, item_of, valued}
use Rattle.place_nodes.specs.declared.wall.LabelWall.{LabelWall}
use Rattle.place_nodes.specs.declared.wall.LabelWall.TheVariants.{List as ListWall, Table}
use Rattle.place_nodes.specs.Walls.{IsLabelWall}
use Rattle.place_nodes.specs.declared.work.Worked.{Worked}
use Rattle.place_nodes.specs.Worked.{HasCutOff, IsNodeAt, IsSplitWhereCutOff, IsWorked}
use Rattle.search_steps.specs.declared.plain.Plain.{Plain}
use Rattle.search_steps.specs.declared.plain.Plain.TheVariants as plain
use Rattle.search_steps.specs.Passed.{PassesLabels, PassesNodes}
use Rattle.search_steps.specs.Steps.{IsPlain}
use Rattle.search_steps.specs.Told.{IsGrownAtLast, IsListedRoot, IsPlainTree, IsToldAs, IsTreeBelowRoot, Lists, Splits}
use Rattle.search_steps.specs.Trees.{IsGrownBelow, IsOnTop, IsOneNode, place_at}
use Rattle.search_steps.proofs.StepLemmas.{one_grown}
use Rattle.search_steps.proofs.TreeLemmas.{better_as, better_falls, children_said, grows_as, grows_said, items, map_nil, none_open, said}

-- walls
pub cut_off_passes : (m : ModelParts) (limit : ℕ) (spot : Spot) (z : ℤ) → HasCutOff m limit spot z → PassesLabels m limit
cut_off_passes m limit spot z has partials rests all_partials all_rests = inl (list_wall_passes m limit spot has.proof z has.trees partials has.cut_off all_partials)

pub wall_passes : (m : ModelParts) (limit : ℕ) (wall : LabelWall) → IsLabelWall m limit wall → PassesLabels m limit
wall_passes m limit (Table g is_backward spot p t) is partials rests all_partials all_rests =
    table_wall_passes m limit g (direction_of is_backward) spot (near_lists m p.near) p.cuts p.mult t.cells partials rests is all_partials all_rests
wall_passes m limit (ListWall spot p z tries) is partials rests all_partials all_rests =
    inl (list_wall_passes m limit spot (proof_of m p) z (map steps_of tries) partials (list_wall_cuts_off m limit spot (proof_of m p) z (map steps_of tries) is) all_partials)

-- below a node that lists walks is one item
one_child : (m : ModelParts) (form : NodeForm) (bound : ℤ) (at : Valued) (more : List Valued) → Lists form → made_children m (valued_root m) (record { form = form; bound = bound }) ≡ at ∷ more → more ≡ []
one_child m (node.List p tries) bound at more lists is = cc
one_child m (node.Split split p) bound at more lists is = absurd lists
one_child m (node.Close p) bound at more lists is = absurd lists
one_child m (node.Fix p arcs) bound at more lists is = absurd lists
one_child m (node.CountSplit i d) bound at more lists is = absurd lists
one_child m (node.CountClose mult) bound at more lists is = absurd lists
one_child m node.Point bound at more lists is = absurd lists

opens_one : (m : ModelParts) (made : MadeNode) (opened front : List OpenPlace) (place : OpenPlace) → Lists made.form → all_valued (reverse opened) ≡ made_children m (valued_root m) made → opened ≡ front ++ place ∷ []
    → made_children m (valued_root m) made ≡ valued place ∷ []
opens_one m made opened front place lists opens are =
    let all : made_children m (valued_root m) made ≡ valued place ∷ all_valued (reverse front) =
    sym opens ∙ (ap (λ (ps : List OpenPlace). all_valued (reverse ps)) are ∙ ap (λ (ps : List OpenPlace). all_valued ps) (reverse-append front (place ∷ []))) in
    all ∙ ap (λ (vs : List Valued). valued place ∷ vs) (one_child m made.form made.bound (valued place) (all_valued (reverse front)) lists all)

-- where items stay open below it, the nodes are fewer than are enough
list_passes : (m : ModelParts) (z : ℤ) (form : NodeForm) (at : Valued) (below : List MadeNode) (js : List Valued) (nodes : ℕ) → ModelFits m → Lists form → IsNode m z (AtPlace (root_place m)) (node_of m form)
    → children_of m (AtPlace (root_place m)) (node_of m form) ≡ at.item ∷ [] → Grows (made_rules m z) (at ∷ []) below js → js ≢ [] → suc (length below) ≡ nodes → PassesNodes m nodes
list_passes m z (node.List p tries) at below js nodes fits lists is children grows some many =
    λ walks all.
    let below_list = subst (λ (is : List Item). Grows (node_rules m z) is (said m below) (items js)) (sym children) (grows_said m z (at ∷ []) js below grows) in
    let few = plain_tree m z (proof_of m p) (map steps_of tries) (said m below) (items js) walks fits is below_list (λ none. some (map_nil (λ (i : Valued). i.item) js none)) all in
    omega (arith, few, length-map below (λ (n : MadeNode). node_of m n.form), many)
list_passes m z (node.Split split p) at below js nodes fits lists is children grows some many = absurd lists
list_passes m z (node.Close p) at below js nodes fits lists is children grows some many = absurd lists
list_passes m z (node.Fix p arcs) at below js nodes fits lists is children grows some many = absurd lists
list_passes m z (node.CountSplit i d) at below js nodes fits lists is children grows some many = absurd lists
list_passes m z (node.CountClose mult) at below js nodes fits lists is children grows some many = absurd lists
list_passes m z node.Point at below js nodes fits lists is children grows some many = absurd lists

-- whole, or the limit is passed
whole_or_passed : (m : ModelParts) (z : ℤ) (made : MadeNode) (at : Valued) (below : List MadeNode) (rest : List OpenPlace) (budget nodes : ℕ) → ModelFits m → Lists made.form → IsMade m z (AtPlace (root_place m)) made
    → made_children m (valued_root m) made ≡ at ∷ [] → Grows (made_rules m z) (at ∷ []) below (all_valued (reverse rest)) → (rest ≡ []) ⊎ (length below ≡ budget) → suc budget ≡ nodes
    → (rest ≡ []) ⊎ PassesNodes m nodes
whole_or_passed m z made at below rest budget nodes fits lists is children grows (inl none) many = inl none
whole_or_passed m z made at below [] budget nodes fits lists is children grows (inr full) many = inl refl
whole_or_passed m z made at below (p ∷ rest) budget nodes fits lists is children grows (inr full) many =
    inr (list_passes m z made.form at below (all_valued (reverse (p ∷ rest))) nodes fits lists is.is_node (sym (children_said m (valued_root m) made) ∙ ap items children) grows
    (λ none. let e = none_open (p ∷ rest) none in cc) (ap (λ (n : ℕ). suc n) full ∙ many))

-- a node that lists walks, and the tree below it
pub listed_tree : (m : ModelParts) (z : ℤ) (budget nodes : ℕ) (made : MadeNode) (opened front : List OpenPlace) (place : OpenPlace) (below g : Grown) → ModelFits m → suc budget ≡ nodes → IsListedRoot m z made opened
    → opened ≡ front ++ place ∷ [] → IsGrownBelow m (valued place) z budget below → IsOnTop made below g → IsTreeBelowRoot m z nodes g
listed_tree m z budget nodes made opened front place below g fits many at are grown top =
    let less = below.z in
    let stands = made_falls m less z (AtPlace (root_place m)) made (better_falls m z less below.best grown.better) at.stands in
    let children = opens_one m made opened front place at.lists at.opens are in
    let js : List Valued = all_valued (reverse below.rest.items) in
    let whole : Grows (made_rules m less) (valued_root m ∷ []) (made ∷ below.nodes.items) js =
    (stands, subst (λ (is : List Valued). Grows (made_rules m less) is below.nodes.items js) (sym (append-nil (made_children m (valued_root m) made) ∙ children)) grown.grows) in
    record {
      grown = λ root is. record {
        grows = grows_as m (valued root ∷ []) less g.z (made ∷ below.nodes.items) g.nodes.items below.rest.items g.rest.items top.same top.nodes top.rest
            (subst (λ (v : Valued). Grows (made_rules m less) (v ∷ []) (made ∷ below.nodes.items) js) (sym is) whole);
        better = better_as m z below.best g.best less g.z top.best top.same grown.better;
        stay = λ none. All-same (StaysOpen z) g.nodes.items (made ∷ below.nodes.items) top.nodes (All-cons (StaysOpen z) made below.nodes.items at.stays (grown.stay (sym top.best ∙ none)));
        fit = All-same (IsOpenIn m) g.rest.items below.rest.items top.rest grown.fit;
        some = omega (arith, ap length top.nodes);
        few = omega (arith, ap length top.nodes, grown.few, many);
      };
      passes = elim (whole_or_passed m less made (valued place) below.nodes.items below.rest.items budget nodes fits at.lists stands children grown.grows grown.ended many) [
        | inl none ↦ inl (top.rest ∙ none)
        | inr passes ↦ inr passes
      ];
    }

-- the node of the root, as one that lists walks
pub listed_root : (m : ModelParts) (z : ℤ) (labels : ℕ) (made : MadeNode) (opened : List OpenPlace) → IsNodeAt m (root_place m) (least_box_cost m) z labels made opened → Lists made.form → IsListedRoot m z made opened
listed_root m z labels made opened at lists = record { stands = at.node.stands; stays = at.node.stays; opens = at.node.opens; fit = at.node.fit; lists = lists }

-- a node that closes the root
closes_root : (m : ModelParts) (form : NodeForm) (bound z : ℤ) (limit : ℕ) (vs : List Valued) → ¬ (Lists form) → ¬ (Splits form) → IsSplitWhereCutOff m limit (root_place m) z form
    → vs ≡ made_children m (valued_root m) (record { form = form; bound = bound }) → vs ≡ []
closes_root m (node.Close p) bound z limit vs other split form is = is
closes_root m (node.List p tries) bound z limit vs other split form is = absurd (other tt)
closes_root m (node.Split s p) bound z limit vs other split form is = absurd (split tt)
closes_root m (node.Fix p arcs) bound z limit vs other split form is = absurd form
closes_root m (node.CountSplit i d) bound z limit vs other split form is = absurd form
closes_root m (node.CountClose mult) bound z limit vs other split form is = absurd form
closes_root m node.Point bound z limit vs other split form is = absurd form

same_place : (m : ModelParts) (at root : OpenPlace) (z : ℤ) (budget : ℕ) (g : Grown) → valued root ≡ valued at → IsGrownAt m at z budget g → IsGrownAt m root z budget g
same_place m at root z budget g is grown = record {
  grows = subst (λ (v : Valued). Grows (made_rules m g.z) (v ∷ []) g.nodes.items (all_valued (reverse g.rest.items))) (sym is) grown.grows;
  better = grown.better;
  stay = grown.stay;
  fit = grown.fit;
  some = grown.some;
  few = grown.few;
}

pub closed_tree : (m : ModelParts) (z : ℤ) (labels nodes : ℕ) (made : MadeNode) (opened : List OpenPlace) (g : Grown) → 1 ≤ nodes → IsNodeAt m (root_place m) (least_box_cost m) z labels made opened → ¬ (Lists made.form) → ¬ (Splits made.form)
    → IsOneNode made opened z g → IsTreeBelowRoot m z nodes g
closed_tree m z labels nodes made opened g some at other split one = record {
  grown = λ root is. same_place m (place_at (root_place m) (least_box_cost m)) root z nodes g is (one_grown m (root_place m) (least_box_cost m) z nodes made opened g some at.node one);
  passes = inl (one.rest ∙ none_open opened (closes_root m made.form made.bound z labels (all_valued (reverse opened)) other split at.form at.node.opens));
}

-- what is told
pub tree_told : (m : ModelParts) (z : ℤ) (labels nodes : ℕ) (tree : Result Grown NoMemory) (p : Plain) → IfOk tree (IsTreeBelowRoot m z nodes) → IsToldAs tree p → IsPlainTree m z labels nodes p
tree_told m z labels nodes (Err e) p grown is root at = subst (IsPlain m root z labels nodes) (sym is) tt
tree_told m z labels nodes (Ok g) p grown (inl whole) root at = subst (IsPlain m root z labels nodes) (sym whole.1) (grown.grown root at, whole.0)
tree_told m z labels nodes (Ok g) p grown (inr left) root at = subst (IsPlain m root z labels nodes) (sym left.1) (
  (grown.grown root at).better,
  elim grown.passes [
    | inl none ↦ absurd (left.0 none)
    | inr passes ↦ inr passes
  ],
)

pub listed_last : {E : Type 0} (m : ModelParts) (z y : ℤ) (budget nodes : ℕ) (made : MadeNode) (opened : List OpenPlace) (below : Grown) (r : Result Grown E) → ModelFits m → suc budget ≡ nodes → y ≡ z → IsListedRoot m z made opened
    → IsGrownAtLast m opened y budget below → IfOk r (IsOnTop made below) → IfOk r (IsTreeBelowRoot m z nodes)
listed_last m z y budget nodes made opened below (Err e) fits many same at grown top = tt
listed_last m z y budget nodes made opened below (Ok g) fits many same at grown top =
    listed_tree m z budget nodes made opened grown.front grown.place below g fits many at grown.last (subst (λ (x : ℤ). IsGrownBelow m (valued grown.place) x budget below) same grown.grown) top

-- a root that is split, and one that is closed
was_cut_off : (m : ModelParts) (limit : ℕ) (form : NodeForm) (z : ℤ) → Splits form → IsSplitWhereCutOff m limit (root_place m) z form → HasCutOff m limit (root_place m) z
was_cut_off m limit (node.Split split p) z splits is = is
was_cut_off m limit (node.Close p) z splits is = absurd splits
was_cut_off m limit (node.List p tries) z splits is = absurd splits
was_cut_off m limit (node.Fix p arcs) z splits is = absurd splits
was_cut_off m limit (node.CountSplit i d) z splits is = absurd splits
was_cut_off m limit (node.CountClose mult) z splits is = absurd splits
was_cut_off m limit node.Point z splits is = absurd splits

pub split_told : (m : ModelParts) (z y : ℤ) (labels nodes : ℕ) (made : MadeNode) (opened : List OpenPlace) (p : Plain) → y ≡ z → IsNodeAt m (root_place m) (least_box_cost m) z labels made opened → Splits made.form
    → p ≡ plain.Left y None → IsPlainTree m z labels nodes p
split_told m z y labels nodes made opened p same at splits is root there =
    subst (IsPlain m root z labels nodes) (sym is) (same, inl (cut_off_passes m labels (root_place m) z (was_cut_off m labels made.form z splits at.form)))

pub closed_told : (m : ModelParts) (z y : ℤ) (labels nodes : ℕ) (made : MadeNode) (opened : List OpenPlace) (tree : Result Grown NoMemory) (p : Plain) → y ≡ z → 1 ≤ nodes → IsNodeAt m (root_place m) (least_box_cost m) z labels made opened
    → (¬ (Lists made.form)) × (¬ (Splits made.form)) → IfOk tree (IsOneNode made opened y) → IsToldAs tree p → IsPlainTree m z labels nodes p
closed_told m z y labels nodes made opened tree p same some at other one told = tree_told m z labels nodes tree p (by tree one) told
  where
    by : (t : Result Grown NoMemory) → IfOk t (IsOneNode made opened y) → IfOk t (IsTreeBelowRoot m z nodes)
    by (Ok g) one = closed_tree m z labels nodes made opened g some at other.0 other.1 (subst (λ (x : ℤ). IsOneNode made opened x g) same one)
    by (Err e) one = tt

pub wall_told : (m : ModelParts) (z y : ℤ) (labels nodes : ℕ) (wall : LabelWall) (p : Plain) → y ≡ z → IsLabelWall m labels wall → p ≡ plain.Left y None → IsPlainTree m z labels nodes p
wall_told m z y labels nodes wall p same at is root there = subst (IsPlain m root z labels nodes) (sym is) (same, inl (wall_passes m labels wall at))

-- the root place is that of an open root
pub root_worked : (m : ModelParts) (spot : Spot) (root : OpenPlace) (value z y : ℤ) (labels : ℕ) (worked : Worked) → root.item ≡ Place spot → valued root ≡ valued_root m → value ≡ root.value → y ≡ z → IsWorked m spot value y labels worked
    → IsWorked m (root_place m) (least_box_cost m) z labels worked
root_worked m spot root value z y labels worked is root_is same same_z at =
    let item : AtPlace spot ≡ AtPlace (root_place m) = ap (λ (i : OpenItem). item_of i) (sym is) ∙ ap (λ (v : Valued). v.item) root_is in
    let there = same_spot spot (root_place m) item in
    let worth : value ≡ least_box_cost m = same ∙ ap (λ (v : Valued). v.value) root_is in
    subst (λ (s : Spot). IsWorked m s (least_box_cost m) z labels worked) there
    (subst (λ (v : ℤ). IsWorked m spot v z labels worked) worth (subst (λ (x : ℤ). IsWorked m spot value x labels worked) same_z at))
  where
    same_spot : (a b : Spot) → AtPlace a ≡ AtPlace b → a ≡ b
    same_spot a b e = cc
