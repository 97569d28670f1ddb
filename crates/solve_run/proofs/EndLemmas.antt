-- How a search ends: at the wall of a limit, or with a whole tree that was grown at the root.
use Rattle.std.proofs.Common.{◌≡◌, ◌≢◌, ℕ, ℤ, true, List, [], ◌∷◌, ◌++◌, All, map, reverse, inl, refl, sym, ap, subst, ◌∙◌}
use Rattle.std.specs.Prelude.{Option}
use Rattle.std.proofs.lemmas.List.{map-append}
use Rattle.std.proofs.lemmas.List.Elements.{All-cons, All-nil}
use Rattle.route_model.specs.declared.plan.Plan.{Plan}
use Rattle.route_model.specs.Costs.{cost_above_all}
use Rattle.route_model.specs.Fit.{ModelFits}
use Rattle.route_model.specs.Parts.{ModelParts}
use Rattle.proof_rules.specs.Grows.{Grows}
use Rattle.proof_rules.specs.Nodes.{Item, Node as NodeSaid, children_of, node_rules}
use Rattle.proof_rules.specs.NodeWalls.{IsNodeWall, IsOpenBound}
use Rattle.proof_rules.specs.OpenTrees.{Valued, handed, valued_root}
use Rattle.certificate.specs.declared.cert.Node.{Node}
use Rattle.certificate.specs.CertFits.{NodeIsTold}
use Rattle.cert_rules.specs.Meaning.{near_lists, node_of, proof_of, steps_of}
use Rattle.cert_check.specs.Verdicts.{IsNamedNode}
use Rattle.pricing.specs.Outcomes.{direction_of}
use Rattle.search_rules.specs.Laws.{ListWallCutsOffLaw, ListWallPassesLaw, TableWallPassesLaw}
use Rattle.made_nodes.specs.declared.node.MadeNode.{MadeNode}
use Rattle.made_nodes.specs.Made.{made_children, made_rules}
use Rattle.search_tree.specs.declared.growing.Grown.{Grown}
use Rattle.search_tree.specs.declared.places.OpenPlace.{OpenPlace}
use Rattle.search_tree.specs.declared.search.Search.{Search}
use Rattle.search_tree.specs.Bounds.{IsBoundOf}
use Rattle.search_tree.specs.Laws.{IsWholeTree, SearchBoundLaw, StoppedSearchLaw}
use Rattle.search_tree.specs.Places.{all_valued, valued}
use Rattle.search_tree.specs.Search.{IsSearch, made_in, opens_in, slots_in}
use Rattle.place_nodes.specs.declared.wall.LabelWall.{LabelWall}
use Rattle.place_nodes.specs.declared.wall.LabelWall.TheVariants.{List as ListWall, Table}
use Rattle.place_nodes.specs.Walls.{IsLabelWall}
use Rattle.search_steps.specs.Passed.{PassesLabels}
use Rattle.solve_run.specs.declared.outcome.Best.{Best}
use Rattle.solve_run.specs.declared.outcome.Outcome.TheVariants.{LabelLimit, NodeLimit}
use Rattle.solve_run.specs.Rounds.{IsWholeAtRoot}
use Rattle.solve_run.specs.Stops.{IsBoundBeside, IsStoppedTree, nodes_said, plan_in}
use Rattle.solve_run.specs.Told.{EndsAtNodes, EndsAtWall, best_said, told_slot}
use Rattle.solve_run.proofs.BestLemmas.{best_is, bound_most, plan_said}
use Rattle.solve_run.proofs.ToldLemmas.{slots_lines, slots_said}

-- ---- a whole tree at the root

abbrev item_in : Valued → Item
item_in i = i.item

abbrev node_in : ModelParts → MadeNode → NodeSaid
node_in m made = node_of m made.form

items_of : (m : ModelParts) (i : Valued) (n : MadeNode) (items : List Item) → map item_in (map (λ (item : Item). record { item = item; value = handed m i.item (node_in m n) i.value }) items) ≡ items
items_of m i n [] = refl
items_of m i n (item ∷ items) = ap (λ (its : List Item). item ∷ its) (items_of m i n items)

items_more : (m : ModelParts) (i : Valued) (n : MadeNode) (is : List Valued) → map item_in (made_children m i n ++ is) ≡ children_of m i.item (node_in m n) ++ map item_in is
items_more m i n is =
    map-append item_in (made_children m i n) is ∙ ap (λ (its : List Item). its ++ map item_in is) (items_of m i n (children_of m i.item (node_in m n)))

grows_said : (m : ModelParts) (z : ℤ) (is : List Valued) (nodes : List MadeNode) → Grows (made_rules m z) is nodes [] → Grows (node_rules m z) (map item_in is) (map (node_in m) nodes) []
grows_said m z is [] grows = ap (λ (js : List Valued). map item_in js) grows
grows_said m z [] (n ∷ nodes) grows = absurd grows
grows_said m z (i ∷ is) (n ∷ nodes) grows =
    (grows.0.is_node, subst (λ (its : List Item). Grows (node_rules m z) its (map (node_in m) nodes) []) (items_more m i n is) (grows_said m z (made_children m i n ++ is) nodes grows.1))

grows_named : (m : ModelParts) (z : ℤ) (is : List Valued) (nodes : List MadeNode) → Grows (made_rules m z) is nodes [] → All (λ (n : MadeNode). IsNamedNode m n.form) nodes
grows_named m z is [] grows = All-nil (λ (n : MadeNode). IsNamedNode m n.form)
grows_named m z [] (n ∷ nodes) grows = absurd grows
grows_named m z (i ∷ is) (n ∷ nodes) grows =
    All-cons (λ (k : MadeNode). IsNamedNode m k.form) n nodes grows.0.named (grows_named m z (made_children m i n ++ is) nodes grows.1)

grows_told : (m : ModelParts) (z : ℤ) (is : List Valued) (nodes : List MadeNode) → Grows (made_rules m z) is nodes [] → All (λ (n : MadeNode). NodeIsTold m n.form) nodes
grows_told m z is [] grows = All-nil (λ (n : MadeNode). NodeIsTold m n.form)
grows_told m z [] (n ∷ nodes) grows = absurd grows
grows_told m z (i ∷ is) (n ∷ nodes) grows =
    All-cons (λ (k : MadeNode). NodeIsTold m k.form) n nodes grows.0.told (grows_told m z (made_children m i n ++ is) nodes grows.1)

pub whole_tree : (m : ModelParts) (z : ℤ) (g : Grown) → IsWholeAtRoot m z g → IsWholeTree m g.z g.nodes.items
whole_tree m z g at =
    let none = ap (λ (rest : List OpenPlace). all_valued (reverse rest)) at.whole in
    let from = subst (λ (is : List Valued). Grows (made_rules m g.z) (valued at.root ∷ []) g.nodes.items is) none at.grown.grows in
    let root = subst (λ (i : Valued). Grows (made_rules m g.z) (i ∷ []) g.nodes.items []) at.at_root from in
    record {
      tree = grows_said m g.z (valued_root m ∷ []) g.nodes.items root;
      named = grows_named m g.z (valued_root m ∷ []) g.nodes.items root;
      told = grows_told m g.z (valued_root m ∷ []) g.nodes.items root;
    }

-- ---- at a limit

bound_beside : SearchBoundLaw → (m : ModelParts) (s : Search) (bound : ℤ) → ModelFits m → IsSearch m s → IsBoundOf s bound → IsBoundBeside m (best_said s.z s.best) bound
bound_beside law m s bound fits search is =
    let right = law m s bound fits search is in
    record {
      best_is = best_is m (cost_above_all m) s.best s.z search.better;
      holds = right.holds;
      least = right.least;
      most = bound_most s.z bound s.best is.cost;
    }

wall_passes : TableWallPassesLaw → ListWallPassesLaw → ListWallCutsOffLaw → (m : ModelParts) (limit : ℕ) (wall : LabelWall) → IsLabelWall m limit wall → PassesLabels m limit
wall_passes table list cut_off m limit (Table g is_backward spot p t) is =
    λ partials rests all all_rests. table m limit g (direction_of is_backward) spot (near_lists m p.near) p.cuts p.mult t.cells partials rests is all all_rests
wall_passes table list cut_off m limit (ListWall spot p z tries) is =
    λ partials rests all all_rests. inl (list m limit spot (proof_of m p) z (map steps_of tries) partials (cut_off m limit spot (proof_of m p) z (map steps_of tries) is) all)

pub label_ends : SearchBoundLaw → TableWallPassesLaw → ListWallPassesLaw → ListWallCutsOffLaw → (m : ModelParts) (s : Search) (wall : LabelWall) (bound : ℤ) (best : Option Best) → ModelFits m → IsSearch m s → IsBoundOf s bound
    → best ≡ best_said s.z s.best → EndsAtWall m wall (LabelLimit wall best bound)
label_ends law table list cut_off m s wall bound best fits search is told limits at = record {
  outcome = (at, subst (λ (b : Option Best). IsBoundBeside m b bound) (sym told) (bound_beside law m s bound fits search is));
  passed = wall_passes table list cut_off m limits.labels wall at;
}

stopped_tree : StoppedSearchLaw → SearchBoundLaw → (m : ModelParts) (s : Search) (bound : ℤ) (limit : ℕ) → ModelFits m → IsSearch m s → opens_in s ≢ [] → s.is_tested ≡ true → IsBoundOf s bound → made_in s ≡ limit
    → IsStoppedTree m limit (best_said s.z s.best) (map told_slot (slots_in s)) bound
stopped_tree stopped law m s bound limit fits search some tested is full =
    let wall = stopped m s search tested some in
    let right = law m s bound fits search is in
    let nodes = sym (slots_said m (slots_in s)) in
    let best = sym (plan_said s.z s.best) in
    record {
      lines = slots_lines (slots_in s);
      z = s.z;
      wall = subst (λ (n : ℕ). IsNodeWall m n (plan_in (best_said s.z s.best)) s.z (nodes_said m (map told_slot (slots_in s)))) full
          (subst (λ (b : Option Plan). IsNodeWall m (made_in s) b s.z (nodes_said m (map told_slot (slots_in s)))) best
          (subst (λ (ns : List (Option NodeSaid)). IsNodeWall m (made_in s) s.best s.z ns) nodes wall));
      open_bound = subst (λ (b : Option Plan). IsOpenBound m b s.z (nodes_said m (map told_slot (slots_in s))) bound) best
          (subst (λ (ns : List (Option NodeSaid)). IsOpenBound m s.best s.z ns bound) nodes right.open_bound);
    }

pub node_ends : StoppedSearchLaw → SearchBoundLaw → (m : ModelParts) (s : Search) (nodes : List Node) (bound : ℤ) (best : Option Best) → ModelFits m → IsSearch m s → opens_in s ≢ [] → s.is_tested ≡ true → IsBoundOf s bound
    → nodes ≡ map told_slot (slots_in s) → best ≡ best_said s.z s.best → EndsAtNodes m s (NodeLimit nodes best bound)
node_ends stopped law m s nodes bound best fits search some tested is lines told limits full passed = record {
  outcome = (
    subst (λ (b : Option Best). IsStoppedTree m limits.nodes b nodes bound) (sym told)
        (subst (λ (ns : List Node). IsStoppedTree m limits.nodes (best_said s.z s.best) ns bound) (sym lines) (stopped_tree stopped law m s bound limits.nodes fits search some tested is full)),
    subst (λ (b : Option Best). IsBoundBeside m b bound) (sym told) (bound_beside law m s bound fits search is),
  );
  passed = passed;
}
