-- Trees of made nodes that are put together, and those over counts.
use Rattle.std.proofs.Common.{◌≡◌, ℕ, ◌≤◌, ℤ, ◌≤ℤ◌, Option, None, Some, List, [], ◌∷◌, ◌++◌, All, inl, inr, length, map, refl, sym, ap, subst, ◌∙◌, arith}
use Rattle.std.specs.Prelude.{reverse}
use Rattle.std.proofs.Math.ListN.{get_or-map}
use Rattle.std.proofs.lemmas.Int.{ints}
use Rattle.std.proofs.lemmas.List.{length-map, map-append, reverse-append, reverse-reverse}
use Rattle.std.proofs.lemmas.List.Elements.{All-map, All-same}
use Rattle.route_model.specs.declared.places.Span.{Span}
use Rattle.route_model.specs.declared.places.Spot.{Spot}
use Rattle.route_model.specs.declared.plan.Plan.{Plan}
use Rattle.route_model.specs.Parts.{ModelParts}
use Rattle.proof_rules.specs.Counts.{Walk}
use Rattle.proof_rules.specs.Grows.{Grows}
use Rattle.proof_rules.specs.Nodes.{Item, Node, children_of, node_rules}
use Rattle.proof_rules.specs.OpenTrees.{Valued, handed}
use Rattle.cert_rules.specs.Meaning.{node_of}
use Rattle.cert_check.specs.Reads.{CountsFit, ItemFits}
use Rattle.made_nodes.specs.declared.node.MadeNode.{MadeNode}
use Rattle.made_nodes.specs.Better.{IsBetter}
use Rattle.made_nodes.specs.Made.{StaysOpen, made_children, made_rules}
use Rattle.count_trees.specs.declared.growth.CountGrowth.{CountGrowth}
use Rattle.count_trees.specs.Growth.{IsCountGrowth}
use Rattle.search_tree.specs.declared.growing.Grown.{Grown}
use Rattle.search_tree.specs.declared.places.Listing.{Listing}
use Rattle.search_tree.specs.declared.places.OpenPlace.{OpenPlace}
use Rattle.search_tree.specs.Grown.{IsGrownAt}
use Rattle.search_tree.specs.Places.{IsOpenIn, all_valued, valued}
use Rattle.search_steps.specs.Trees.{IsGrownBelow, listed_at, walks_in}

-- lists whose items are read as others
pub map_reverse : {X Y : Type 0} (f : X → Y) (xs : List X) → map f (reverse xs) ≡ reverse (map f xs)
map_reverse f [] = refl
map_reverse {X} {Y} f (x ∷ xs) =
    ap (map f) (reverse-append (x ∷ []) xs)
    ∙ (map-append f (reverse xs) (x ∷ []) ∙ (ap (λ (ys : List Y). ys ++ f x ∷ []) (map_reverse f xs) ∙ sym (reverse-append (f x ∷ []) (map f xs))))

pub map_nil : {X Y : Type 0} (f : X → Y) (xs : List X) → map f xs ≡ [] → xs ≡ []
map_nil f [] e = refl
map_nil f (x ∷ xs) e = cc

pub none_open : (rest : List OpenPlace) → all_valued (reverse rest) ≡ [] → rest ≡ []
none_open rest none = sym (reverse-reverse rest) ∙ ap (λ (ps : List OpenPlace). reverse ps) (map_nil valued (reverse rest) none)

all_unmap : {X Y : Type 0} (P : Y → Type 0) (f : X → Y) (xs : List X) → All P (map f xs) → All (λ (x : X). P (f x)) xs
all_unmap P f xs all k d below = subst P (get_or-map f xs k d) (all k (f d) (omega (arith, below, length-map xs f)))

-- a tree, as code has it
pub grows_as : (m : ModelParts) (is : List Valued) (z less : ℤ) (nodes ns : List MadeNode) (rest opened : List OpenPlace) → less ≡ z → ns ≡ nodes → opened ≡ rest
    → Grows (made_rules m z) is nodes (all_valued (reverse rest)) → Grows (made_rules m less) is ns (all_valued (reverse opened))
grows_as m is z less nodes ns rest opened same_z same_nodes same_rest grows =
    subst (λ (x : ℤ). Grows (made_rules m x) is ns (all_valued (reverse opened))) (sym same_z)
    (subst (λ (xs : List MadeNode). Grows (made_rules m z) is xs (all_valued (reverse opened))) (sym same_nodes)
    (subst (λ (ps : List OpenPlace). Grows (made_rules m z) is nodes (all_valued (reverse ps))) (sym same_rest) grows))

pub better_as : (m : ModelParts) (z : ℤ) (best found : Option Plan) (less new : ℤ) → found ≡ best → new ≡ less → IsBetter m z best less → IsBetter m z found new
better_as m z best found less new same_best same_z better =
    subst (λ (b : Option Plan). IsBetter m z b new) (sym same_best) (subst (IsBetter m z best) (sym same_z) better)

pub better_falls : (m : ModelParts) (z less : ℤ) (best : Option Plan) → IsBetter m z best less → less ≤ℤ z
better_falls m z less None better = omega (arith, ints, better)
better_falls m z less (Some plan) better = omega (arith, ints, better.3)

-- a tree over counts
some_nodes : (m : ModelParts) (z : ℤ) (at : Valued) (nodes : List MadeNode) (rest : List OpenPlace) → Grows (made_rules m z) (at ∷ []) nodes (all_valued (reverse rest)) → rest ≡ [] → 1 ≤ length nodes
some_nodes m z at [] rest grows none = let e : at ∷ [] ≡ [] = grows ∙ ap (λ (ps : List OpenPlace). all_valued (reverse ps)) none in cc
some_nodes m z at (n ∷ nodes) rest grows none = omega arith

pub below_grown : (m : ModelParts) (at : OpenPlace) (z : ℤ) (budget : ℕ) (g : Grown) → 1 ≤ budget → IsGrownBelow m (valued at) z budget g → IsGrownAt m at z budget g
below_grown m at z budget g some below = record {
  grows = below.grows;
  better = below.better;
  stay = below.stay;
  fit = below.fit;
  some = elim below.ended [
    | inl none ↦ some_nodes m g.z (valued at) g.nodes.items g.rest.items below.grows none
    | inr full ↦ omega (arith, full, some)
  ];
  few = below.few;
}

-- growth, as code has it
pub growth_as : (m : ModelParts) (spot at : Spot) (walks listed : List Walk) (boxes bs : List Span) (z y : ℤ) (budget : ℕ) (growth : CountGrowth) → at ≡ spot → listed ≡ walks → bs ≡ boxes → y ≡ z
    → IsCountGrowth m at listed bs y budget growth → IsCountGrowth m spot walks boxes z budget growth
growth_as m spot at walks listed boxes bs z y budget growth same_spot same_walks same_boxes same_z grown =
    subst (λ (s : Spot). IsCountGrowth m s walks boxes z budget growth) same_spot
    (subst (λ (ws : List Walk). IsCountGrowth m at ws boxes z budget growth) same_walks
    (subst (λ (b : List Span). IsCountGrowth m at listed b z budget growth) same_boxes (subst (λ (x : ℤ). IsCountGrowth m at listed bs x budget growth) same_z grown)))

module _ (m : ModelParts) (listing : Listing) (value : ℤ) where
  open_as : (places : List OpenPlace) (rest : List (List Span)) → all_valued places ≡ map (listed_at listing value) rest → map (listed_at listing value) (reverse rest) ≡ all_valued (reverse places)
  open_as places rest are = map_reverse (listed_at listing value) rest ∙ (ap (λ (vs : List Valued). reverse vs) (sym are) ∙ sym (map_reverse valued places))

  open_fit : (places : List OpenPlace) (rest : List (List Span)) → all_valued places ≡ map (listed_at listing value) rest → All (CountsFit m listing.spot (walks_in listing)) rest → All (IsOpenIn m) places
  open_fit places rest are fit =
      let P : Valued → Type 0 = λ v. ItemFits m v.item in
      all_unmap P valued places (All-same P (all_valued places) (map (listed_at listing value) rest) are (All-map P (listed_at listing value) rest fit))

  pub counts_grown : (boxes : List Span) (z : ℤ) (budget : ℕ) (growth : CountGrowth) (g : Grown) → IsCountGrowth m listing.spot (walks_in listing) boxes z budget growth → g.nodes.items ≡ growth.nodes.items
      → all_valued g.rest.items ≡ map (listed_at listing value) growth.rest.items → g.z ≡ growth.z → g.best ≡ growth.best → IsGrownBelow m (listed_at listing value boxes) z budget g
  counts_grown boxes z budget growth g grown same_nodes are same_z same_best = record {
    grows = subst (λ (x : ℤ). Grows (made_rules m x) (listed_at listing value boxes ∷ []) g.nodes.items (all_valued (reverse g.rest.items))) (sym same_z)
        (subst (λ (ns : List MadeNode). Grows (made_rules m growth.z) (listed_at listing value boxes ∷ []) ns (all_valued (reverse g.rest.items))) (sym same_nodes)
        (subst (Grows (made_rules m growth.z) (listed_at listing value boxes ∷ []) growth.nodes.items) (open_as g.rest.items growth.rest.items are) (grown.grows value)));
    better = better_as m z growth.best g.best growth.z g.z same_best same_z grown.better;
    stay = λ none. All-same (StaysOpen z) g.nodes.items growth.nodes.items same_nodes (grown.stay (sym same_best ∙ none));
    fit = open_fit g.rest.items growth.rest.items are grown.fit;
    few = omega (arith, ap length same_nodes, grown.few);
    ended = elim grown.ended [
      | inl none ↦ inl (map_nil valued g.rest.items (are ∙ ap (map (listed_at listing value)) none))
      | inr full ↦ inr (ap length same_nodes ∙ full)
    ];
  }

-- trees of made nodes, where the rules see items without values and nodes without bounds
abbrev pub items : List Valued → List Item
items is = map (λ (i : Valued). i.item) is

abbrev pub said : ModelParts → List MadeNode → List Node
said m nodes = map (λ (n : MadeNode). node_of m n.form) nodes

without_value : (value : ℤ) (is : List Item) → items (map (λ (item : Item). record { item = item; value = value }) is) ≡ is
without_value value [] = refl
without_value value (i ∷ is) = ap (λ (js : List Item). i ∷ js) (without_value value is)

pub children_said : (m : ModelParts) (i : Valued) (made : MadeNode) → items (made_children m i made) ≡ children_of m i.item (node_of m made.form)
children_said m i made = without_value (handed m i.item (node_of m made.form) i.value) (children_of m i.item (node_of m made.form))

pub grows_said : (m : ModelParts) (z : ℤ) (is js : List Valued) (nodes : List MadeNode) → Grows (made_rules m z) is nodes js → Grows (node_rules m z) (items is) (said m nodes) (items js)
grows_said m z is js [] g = ap items g
grows_said m z [] js (n ∷ nodes) g = absurd g
grows_said m z (i ∷ is) js (n ∷ nodes) g =
    let rest = grows_said m z (made_children m i n ++ is) js nodes g.1 in
    let same : items (made_children m i n ++ is) ≡ children_of m i.item (node_of m n.form) ++ items is =
    map-append (λ (v : Valued). v.item) (made_children m i n) is ∙ ap (λ (ks : List Item). ks ++ items is) (children_said m i n) in
    (g.0.is_node, subst (λ (ks : List Item). Grows (node_rules m z) ks (said m nodes) (items js)) same rest)
