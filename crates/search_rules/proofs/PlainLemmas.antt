-- Below a node that lists walks at the root there are few nodes: the listed walks are different feasible ones.
use Rattle.std.proofs.Common.{◌≡◌, ◌≢◌, ℕ, suc, ◌+◌, ◌*◌, ◌<◌, ◌≤◌, ℤ, pos, List, [], ◌∷◌, length, get_or, map, All, refl, sym, ◌∙◌, ap, subst, arith}
use Rattle.std.specs.Prelude.{Contains}
use Rattle.std.proofs.lemmas.Int.{ints}
use Rattle.std.proofs.Math.ListN.{get_or-map}
use Rattle.std.proofs.lemmas.List.Elements.{All-map}
use Rattle.std.proofs.Math.Nat.{one-le-mul, mul-le-mul_right}
use Rattle.path_graph.specs.Walk.{Leads}
use Rattle.route_model.specs.declared.places.Span.{Span}
use Rattle.route_model.specs.declared.places.Spot.{Spot}
use Rattle.route_model.specs.Fit.{ModelFits}
use Rattle.route_model.specs.Parts.{ModelParts, graph_in}
use Rattle.route_model.specs.Places.{path_span, root_place, span_at, var_span}
use Rattle.label_rules.specs.Labels.{Setting}
use Rattle.proof_rules.specs.Counts.{Walk}
use Rattle.proof_rules.specs.Grows.{Grows}
use Rattle.proof_rules.specs.Nodes.{AtPlace, IsList, Item, ListWalks, Node, children_of, first_box, first_boxes, listed_walks, node_rules, tree_at, walks_from}
use Rattle.proof_rules.specs.PrefixTrees.{IsTree, Step, walks_of}
use Rattle.proof_rules.specs.Proofs.{Proof, setting_of}
use Rattle.proof_rules.proofs.WalkListLemmas.{walks_differ, walks_listed}
use Rattle.search_rules.specs.Completeness.{AllWalks, HasPoints, IsWholeWalk, arc_total, enough_nodes, graph_of, points_in, points_of_boxes, points_of_counts, product_by}
use Rattle.search_rules.specs.Laws.{PlainTreeLaw}
use Rattle.search_rules.proofs.CountLemmas.{few_count_nodes, points_from_zero, some_ways}
use Rattle.search_rules.proofs.ProductLemmas.{product_within}
use Rattle.search_rules.proofs.WalkLemmas.{AreWalksFrom, here, more_from, next, none_from, of_arcs}

-- a walk of a tree is a feasible one
listed_whole : (m : ModelParts) (spot : Spot) (p : Proof) (g : ℕ) (tree : List Step) (arcs : List ℕ) → g < length m.graphs → IsTree (setting_of m spot p g) tree
    → Contains (walks_of (setting_of m spot p g) tree) arcs → IsWholeWalk m (of_arcs g arcs)
listed_whole m spot p g tree arcs there is h =
    let S : Setting = setting_of m spot p g in
    let at = (walks_listed S tree arcs is).0 h in
    let walk = is.each at.node arcs at.prefix in
    record { there = there; feasible = record { walk = subst (Leads S.graph S.graph.ends.source arcs) at.at_sink walk.leads; passes = walk.passes } }

listed_from : (m : ModelParts) (spot : Spot) (p : Proof) (g : ℕ) (trees : List (List Step)) → g + length trees ≤ length m.graphs
    → ((k : ℕ) → k < length trees → IsTree (setting_of m spot p (g + k)) (tree_at trees k)) → AreWalksFrom (IsWholeWalk m) g (walks_from m spot p g trees)
listed_from m spot p g [] few are = none_from (IsWholeWalk m) g
listed_from m spot p g (tree ∷ rest) few are =
    let S : Setting = setting_of m spot p g in
    let is = here (λ (n : ℕ). IsTree (setting_of m spot p n) tree) g (are 0 (omega arith)) in
    more_from (IsWholeWalk m) g (walks_of S tree) (walks_from m spot p (suc g) rest) (walks_differ S tree is)
    (λ arcs h. listed_whole m spot p g tree arcs (omega (arith, few)) is h)
    (listed_from m spot p (suc g) rest (omega (arith, few)) (λ k l. next (λ (n : ℕ). IsTree (setting_of m spot p n) (tree_at rest k)) g k (are (suc k) (omega (arith, l)))))

pub listed_are : (m : ModelParts) (z : ℤ) (spot : Spot) (p : Proof) (trees : List (List Step)) → IsList m z spot p trees → AreWalksFrom (IsWholeWalk m) 0 (listed_walks m spot p trees)
listed_are m z spot p trees list =
    listed_from m spot p 0 trees (omega (arith, list.count)) (λ k l.
    let at : k ≡ 0 + k = omega arith in
    subst (λ (n : ℕ). IsTree (setting_of m spot p n) (tree_at trees k)) at (list.each k (omega (arith, l, list.count))).tree)

-- the boxes at the root
path_box : (m : ModelParts) (g : ℕ) → span_at (root_place m).boxes.paths g ≡ path_span (graph_in m.graphs g)
path_box m g = get_or-map path_span m.graphs g (graph_in [] 0)

first_at_root : (m : ModelParts) (w : Walk) → first_box (root_place m) w ≡ record { low = pos 0; high = pos (graph_of m w).ends.high }
first_at_root m w = ap (λ (span : Span). record { low = pos 0; high = span.high }) (path_box m w.graph)

first_points : (m : ModelParts) (walks : List Walk) → product_by points_in (first_boxes (root_place m) walks) ≡ points_of_counts m walks
first_points m [] = refl
first_points m (w ∷ walks) =
    let first : points_in (first_box (root_place m) w) ≡ suc (graph_of m w).ends.high = ap points_in (first_at_root m w) ∙ points_from_zero (graph_of m w).ends.high in
    let more = first_points m walks in
    λ i. first i * more i

first_have : (m : ModelParts) (walks : List Walk) → All HasPoints (first_boxes (root_place m) walks)
first_have m walks =
    All-map HasPoints (first_box (root_place m)) walks (λ i d l. subst HasPoints (sym (first_at_root m (get_or walks i d))) (omega (arith, ints)))

vars_have : (m : ModelParts) → ModelFits m → All HasPoints (map var_span m.vars)
vars_have m fits = All-map HasPoints var_span m.vars (λ i d l. (fits.vars.each i d l).sides)

paths_have : (m : ModelParts) → ModelFits m → All HasPoints (map path_span m.graphs)
paths_have m fits = All-map HasPoints path_span m.graphs (λ i d l. let paths = (fits.graphs.each i d l).graph.fits.ends_fit.paths in omega (arith, ints, paths))

pub some_boxes : (m : ModelParts) → ModelFits m → 1 ≤ points_of_boxes m
some_boxes m fits = one-le-mul (some_ways (map var_span m.vars) (vars_have m fits)) (some_ways (map path_span m.graphs) (paths_have m fits))

-- the listed walks are some of all
pub few_listed : (m : ModelParts) (z : ℤ) (spot : Spot) (p : Proof) (trees : List (List Step)) (walks : List Walk) → IsList m z spot p trees → AllWalks m walks
    → points_of_counts m (listed_walks m spot p trees) ≤ points_of_counts m walks
few_listed m z spot p trees walks list all =
    let are = listed_are m z spot p trees list in
    let listed : List Walk = listed_walks m spot p trees in
    product_within (λ (w : Walk). suc (graph_of m w).ends.high) listed walks (λ w. omega arith) are.differ (λ i d l. all (get_or listed i d) (are.each i d l))

within_enough : (n some counts ways rest : ℕ) → n < 2 * some → some ≤ counts → counts ≤ ways * counts → n < 2 * ways * counts + rest
within_enough n some counts ways rest few most scaled = omega (arith, few, most, scaled)

-- with the items that stay open
pub few_plain : (m : ModelParts) (z : ℤ) (p : Proof) (trees : List (List Step)) (nodes : List Node) (open_items : List Item) (walks : List Walk) → ModelFits m
    → IsList m z (root_place m) p trees → Grows (node_rules m z) (children_of m (AtPlace (root_place m)) (ListWalks p trees)) nodes open_items → AllWalks m walks
    → length nodes + length open_items < enough_nodes m walks
few_plain m z p trees nodes open_items walks fits list grows all =
    let spot : Spot = root_place m in
    let listed : List Walk = listed_walks m spot p trees in
    let few = few_count_nodes m z spot listed (first_boxes spot listed) nodes open_items (first_have m listed) grows in
    let same = ap (λ (n : ℕ). 2 * n) (first_points m listed) in
    let scaled = scale (points_of_boxes m) (points_of_counts m walks) (some_boxes m fits) in
    within_enough (length nodes + length open_items) (points_of_counts m listed) (points_of_counts m walks) (points_of_boxes m) (arc_total m) (omega (arith, few, same)) (few_listed m z spot p trees walks list all) scaled
  where
    scale : (ways counts : ℕ) → 1 ≤ ways → counts ≤ ways * counts
    scale ways counts some = let more = mul-le-mul_right counts some in omega (arith, more)

pub plain_tree : PlainTreeLaw
plain_tree m z p trees nodes open_items walks fits list grows some_open all =
    let few = few_plain m z p trees nodes open_items walks fits list grows all in
    omega (arith, few, some_length open_items some_open)
  where
    some_length : (items : List Item) → items ≢ [] → 1 ≤ length items
    some_length [] some = absurd (some refl)
    some_length (i ∷ items) some = omega arith
