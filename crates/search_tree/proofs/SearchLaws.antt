-- What a search proves where it ends, and where it stops.
use Rattle.std.proofs.Common.{◌≡◌, ◌≢◌, ◌⊎◌, ◌≤◌, ◌≤ℤ◌, ℕ, ℤ, None, List, [], ◌∷◌, All, inl, inr, map, refl, sym, ap, subst, ◌∙◌}
use Rattle.std.proofs.lemmas.Int.{by_lt_z}
use Rattle.route_model.specs.Costs.{least_box_cost}
use Rattle.route_model.specs.Fit.{ModelFits}
use Rattle.route_model.specs.Parts.{ModelParts}
use Rattle.route_model.specs.Quantities.{cost_of}
use Rattle.proof_rules.specs.Grows.{Grows, HoldsForSome}
use Rattle.proof_rules.specs.Nodes.{Item, children_of, node_rules}
use Rattle.proof_rules.specs.OpenTrees.{Valued, handed, open_values, valued_root}
use Rattle.proof_rules.proofs.OpenTreeLemmas.{open_value}
use Rattle.certificate.specs.CertFits.{NodeIsTold}
use Rattle.cert_check.specs.Verdicts.{IsNamedNode}
use Rattle.cert_rules.specs.Meaning.{node_of}
use Rattle.open_tree.specs.Open.{opens}
use Rattle.open_tree.proofs.OpenLaws.{made_whole}
use Rattle.made_nodes.specs.declared.node.MadeNode.{MadeNode}
use Rattle.made_nodes.specs.Made.{IsMade, made_children, made_rules}
use Rattle.search_tree.specs.declared.places.OpenPlace.{OpenPlace}
use Rattle.search_tree.specs.declared.search.Search.{Search}
use Rattle.search_tree.specs.Laws.{EndedSearchLaw, SearchBoundLaw, StoppedSearchLaw}
use Rattle.search_tree.specs.Places.{all_valued}
use Rattle.search_tree.specs.Search.{IsSearch, mades_in, opens_in, places_in, seen, slots_in}
use Rattle.search_tree.proofs.GrowthLemmas.{grows_nodes, grows_read}
use Rattle.search_tree.proofs.SeenLemmas.{seen_mades, seen_opens}
use Rattle.search_tree.proofs.WallLemmas.{best_above, count_made, count_open, each_value, least_of, open_above, open_items_are, past_best, some_left, some_value, to_beat, tree_places, wall_places}

-- ---- where no place is open
items_of : (value : ℤ) (items : List Item) → map (λ (i : Valued). i.item) (map (λ (item : Item). record { item = item; value = value }) items) ≡ items
items_of value [] = refl
items_of value (item ∷ items) = ap (λ (its : List Item). item ∷ its) (items_of value items)

node_stands : (m : ModelParts) (z : ℤ) (i : Valued) (n : MadeNode) → IsMade m z i.item n
    → (node_rules m z).Fits i.item (node_of m n.form) × (map (λ (j : Valued). j.item) (made_children m i n) ≡ (node_rules m z).children i.item (node_of m n.form))
node_stands m z i n is = (is.is_node, items_of (handed m i.item (node_of m n.form) i.value) (children_of m i.item (node_of m n.form)))

pub ended_search : EndedSearchLaw
ended_search m s is none =
    let root = valued_root m in
    let nodes = mades_in s in
    let closed : opens (seen (slots_in s)) ≡ [] = seen_opens (slots_in s) ∙ ap (λ (ps : List OpenPlace). all_valued ps) none in
    let tree = subst (λ (ns : List MadeNode). Grows (made_rules m s.z) (root ∷ []) ns []) (seen_mades (slots_in s))
    (made_whole (made_rules m s.z) (root ∷ []) [] (seen (slots_in s)) closed is.tree) in
    record {
      tree = grows_read (made_rules m s.z) (node_rules m s.z) (λ (i : Valued). i.item) (λ (n : MadeNode). node_of m n.form) (node_stands m s.z) (root ∷ []) [] nodes tree;
      named = grows_nodes (made_rules m s.z) (λ (n : MadeNode). IsNamedNode m n.form) (λ i n made. made.named) (root ∷ []) [] nodes tree;
      told = grows_nodes (made_rules m s.z) (λ (n : MadeNode). NodeIsTold m n.form) (λ i n made. made.told) (root ∷ []) [] nodes tree;
    }

-- ---- where some place is open
pub stopped_search : StoppedSearchLaw
stopped_search m s is tested some = record {
  to_beat = to_beat m s.best s.z is.better;
  tree = wall_places m s.z (valued_root m ∷ []) (slots_in s) (is.tested tested) is.tree;
  made = count_made m (slots_in s);
  some_open = subst (λ (n : ℕ). 1 ≤ n) (sym (count_open m (slots_in s))) (some_left (opens_in s) some);
}

-- ---- the bound
values_are : (m : ModelParts) (s : Search) → IsSearch m s → open_values m s.z (places_in m s) ≡ map (λ (i : Valued). i.value) (all_valued (opens_in s))
values_are m s is = ap (λ (items : List Valued). map (λ (i : Valued). i.value) items) (open_items_are m s.z (valued_root m ∷ []) (slots_in s) is.tree)

reached_so : (m : ModelParts) (s : Search) (bound : ℤ) → IsSearch m s → HoldsForSome (λ (p : OpenPlace). bound ≡ p.value) (opens_in s) ⊎ ((s.best ≢ None) × (bound ≡ s.z))
    → HoldsForSome (λ v. bound ≡ v) (open_values m s.z (places_in m s)) ⊎ ((s.best ≢ None) × (bound ≡ s.z))
reached_so m s bound is (inl some) = inl (subst (λ (vs : List ℤ). HoldsForSome (λ v. bound ≡ v) vs) (sym (values_are m s is)) (some_value (λ v. bound ≡ v) (opens_in s) some))
reached_so m s bound is (inr best) = inr best

least_so : (m : ModelParts) (s : Search) (bound : ℤ) → ModelFits m → IsSearch m s → HoldsForSome (λ (p : OpenPlace). bound ≡ p.value) (opens_in s) ⊎ ((s.best ≢ None) × (bound ≡ s.z))
    → least_box_cost m ≤ℤ bound
least_so m s bound fits is (inl some) = open_above m s.z bound (slots_in s) is.tree some
least_so m s bound fits is (inr best) = best_above m s.best _ s.z bound fits is.better best.0 best.1

pub search_bound : SearchBoundLaw
search_bound m s bound fits is right =
    let values = subst (λ (vs : List ℤ). All (λ v. bound ≤ℤ v) vs) (sym (values_are m s is)) (each_value (λ v. bound ≤ℤ v) (opens_in s) right.values) in
    record {
      open_bound = record { values = values; cost = right.cost; reached = reached_so m s bound is right.reached };
      holds = λ plan solution. by_lt_z (cost_of m plan) s.z
          (λ below. least_of bound (cost_of m plan) (open_values m s.z (places_in m s)) values
          (open_value m s.z (places_in m s) plan fits (tree_places m s.z (valued_root m ∷ []) (slots_in s) is.tree) solution below))
          (λ past. past_best m s.best s.z bound plan fits is.better right.cost solution past);
      least = least_so m s bound fits is right.reached;
    }
