-- The walks of complete trees, and their first boxes.
use Rattle.std.proofs.Common.{◌≡◌, ◌==◌, ℕ, zero, suc, add-zero, drop-cons, ◌+◌, ◌*◌, ◌^◌, ◌<◌, ◌≤◌, ℤ, pos, Bool, List, [], ◌∷◌, length, map, drop, get_or, ap, subst, ◌∙◌, arith, length-append}
use Rattle.std.specs.Prelude.{All, sum_by, unsigned_abs}
use Rattle.std.specs.List.{range_with_len}
use Rattle.std.proofs.lemmas.Int.{ints}
use Rattle.std.proofs.lemmas.List.{length-map, map-append}
use Rattle.std.proofs.lemmas.List.FromFn.{length-range_with_len}
use Rattle.std.proofs.lemmas.List.Sums.{count_by-le-length, length-filter, sum_by-append, sum_by-cons}
use Rattle.std.proofs.lemmas.List.Elements.{All-map, All-nil, All-append, All-head, All-tail, Contains-get_or}
use Rattle.std.proofs.Math.Nat.{mul-le-mul_right}
use Rattle.path_graph.specs.First.{EachBelow}
use Rattle.path_graph.specs.Walk.{GraphParts, Leads}
use Rattle.route_model.specs.declared.places.Span.{Span}
use Rattle.route_model.specs.declared.places.Spot.{Spot}
use Rattle.route_model.specs.Fit.{ModelFits}
use Rattle.route_model.specs.Parts.{ModelParts, graph_in}
use Rattle.route_model.specs.Places.{SpotFits, span_at}
use Rattle.multipliers.proofs.BaseLemmas.{paths_fit}
use Rattle.label_rules.specs.Labels.{Setting}
use Rattle.proof_rules.specs.Counts.{Walk}
use Rattle.proof_rules.specs.Nodes.{IsList, first_box, first_boxes, listed_walks, tree_at, walks_from, walks_in}
use Rattle.proof_rules.specs.PrefixTrees.{IsTree, Step, node_count, node_vertex, prefix_of, prefix_within, sink_nodes, step_at, walks_of}
use Rattle.proof_rules.proofs.WalkListLemmas.{nodes_within, walks_listed}
use Rattle.proof_rules.specs.Proofs.{Proof, setting_of}
use Rattle.certificate.specs.declared.cert.Proof.{Proof as TextProof}
use Rattle.certificate.specs.declared.cert.Trie.{Trie}
use Rattle.certificate.specs.CertText.{TrieFits}
use Rattle.certificate.specs.Sizes.{sizes_of}
use Rattle.cert_rules.specs.Meaning.{proof_of, step_of, steps_of}
use Rattle.cert_check.specs.Reads.{CountsFit, IsCountBox, WalkFits}

-- a prefix is no longer than its number says
prefix_short : (steps : List Step) (bound k : ℕ) → length (prefix_within steps bound k) ≤ bound
prefix_short steps zero k = omega arith
prefix_short steps (suc bound) zero = omega arith
prefix_short steps (suc bound) (suc n) =
    let parent : ℕ = (step_at steps n).parent in
    omega (arith, prefix_short steps bound parent, length-append (prefix_within steps bound parent) ((step_at steps n).arc ∷ []))

-- there are at most as many walks as nodes
walks_few : (S : Setting) (steps : List Step) → length (walks_of S steps) ≤ suc (length steps)
walks_few S steps =
    let nodes : List ℕ = range_with_len 0 (node_count steps) in
    let test : ℕ → Bool = λ k. node_vertex S steps k == S.graph.ends.sink in
    omega (arith, length-map (sink_nodes S steps) (prefix_of steps), length-filter test nodes, count_by-le-length test nodes, length-range_with_len 0 (node_count steps))

walks_short : (S : Setting) (steps : List Step) → length steps ≤ 2 ^ 24 → All (λ arcs. length arcs ≤ 2 ^ 25) (walks_of S steps)
walks_short S steps few =
    All-map (λ (arcs : List ℕ). length arcs ≤ 2 ^ 25) (prefix_of steps) (sink_nodes S steps)
    (λ i d l. omega (arith, few, nodes_within S steps i d l, prefix_short steps (suc (get_or (sink_nodes S steps) i d)) (get_or (sink_nodes S steps) i d)))

abbrev IsSmall : List Step → Type 0
IsSmall steps = length steps ≤ 2 ^ 24

module _ (m : ModelParts) (spot : Spot) (p : Proof) where
  -- the walks of one tree
  tree_walks : (g : ℕ) (steps : List Step) → g < length m.graphs → IsTree (setting_of m spot p g) steps → IsSmall steps
      → All (WalkFits m) (walks_in g (walks_of (setting_of m spot p g) steps))
  tree_walks g steps below tree few =
      let S : Setting = setting_of m spot p g in
      All-map (WalkFits m) (λ (arcs : List ℕ). record { graph = g; arcs = arcs }) (walks_of S steps)
      (λ i d l.
      let walk : List ℕ = get_or (walks_of S steps) i d in
      let listed = (walks_listed S steps walk tree).0 (Contains-get_or (walks_of S steps) i d l) in
      let elementary = tree.each listed.node walk listed.prefix in
      record {
        graph = below;
        there = subst (λ (v : ℕ). Leads S.graph S.graph.ends.source walk v) listed.at_sink elementary.leads;
        few = walks_short S steps few i d l;
      })

  -- those of all trees
  all_walks : (g : ℕ) (trees : List (List Step)) → g + length trees ≤ length m.graphs → EachBelow (length trees) (λ k. IsTree (setting_of m spot p (g + k)) (tree_at trees k))
      → All IsSmall trees → All (WalkFits m) (walks_from m spot p g trees)
  all_walks g [] below each few = All-nil (WalkFits m)
  all_walks g (tree ∷ rest) below each few =
      let here = subst (λ (h : ℕ). IsTree (setting_of m spot p h) tree) (add-zero g) (each 0 (omega arith)) in
      All-append (WalkFits m) (walks_in g (walks_of (setting_of m spot p g) tree)) (walks_from m spot p (suc g) rest)
      (tree_walks g tree (omega (arith, below)) here (All-head IsSmall tree rest few))
      (all_walks (suc g) rest (omega (arith, below))
      (λ k l. let same : g + suc k ≡ suc g + k = omega arith in subst (λ (h : ℕ). IsTree (setting_of m spot p h) (tree_at rest k)) same (each (suc k) (omega (arith, l))))
      (All-tail IsSmall tree rest few))

  count_walks : (g : ℕ) (trees : List (List Step)) → All IsSmall trees → length (walks_from m spot p g trees) ≤ length trees * (2 ^ 24 + 1)
  count_walks g [] few = omega arith
  count_walks g (tree ∷ rest) few =
      let S : Setting = setting_of m spot p g in
      let here : List Walk = walks_in g (walks_of S tree) in
      omega (
        arith,
        length-append here (walks_from m spot p (suc g) rest),
        length-map (walks_of S tree) (λ (arcs : List ℕ). let w : Walk = record { graph = g; arcs = arcs } in w),
        walks_few S tree,
        All-head IsSmall tree rest few,
        count_walks (suc g) rest (All-tail IsSmall tree rest few),
      )

  -- the boxes of the walks of one tree have one top
  same_tops : (g : ℕ) (walks : List (List ℕ)) → sum_by (λ (b : Span). unsigned_abs b.high) (first_boxes spot (walks_in g walks)) ≡ length walks * unsigned_abs (span_at spot.boxes.paths g).high
  same_tops g [] = omega arith
  same_tops g (walk ∷ rest) =
      let box : Span = first_box spot (record { graph = g; arcs = walk }) in
      omega (arith, sum_by-cons (λ (b : Span). unsigned_abs b.high) box (first_boxes spot (walks_in g rest)), same_tops g rest)

  all_tops : (g : ℕ) (trees : List (List Step)) → g + length trees ≤ length spot.boxes.paths → All IsSmall trees
      → sum_by (λ (b : Span). unsigned_abs b.high) (first_boxes spot (walks_from m spot p g trees)) ≤ (2 ^ 24 + 1) * sum_by (λ (b : Span). unsigned_abs b.high) (drop g spot.boxes.paths)
  all_tops g [] below few = omega arith
  all_tops g (tree ∷ rest) below few =
      let S : Setting = setting_of m spot p g in
      let here : List Walk = walks_in g (walks_of S tree) in
      let more : List Walk = walks_from m spot p (suc g) rest in
      let none : Span = record { low = pos 0; high = pos 0 } in
      let size : ℕ = length (walks_of S tree) in
      let high : ℕ = unsigned_abs (span_at spot.boxes.paths g).high in
      let inside : g < length spot.boxes.paths = omega (arith, below) in
      let split = ap (sum_by (λ (b : Span). unsigned_abs b.high)) (map-append (first_box spot) here more) ∙ sum_by-append (λ (b : Span). unsigned_abs b.high) (first_boxes spot here) (first_boxes spot more) in
      let dropped = ap (sum_by (λ (b : Span). unsigned_abs b.high)) (drop-cons spot.boxes.paths g none inside) ∙ sum_by-cons (λ (b : Span). unsigned_abs b.high) (span_at spot.boxes.paths g) (drop (suc g) spot.boxes.paths) in
      let most : size * high ≤ (2 ^ 24 + 1) * high = mul-le-mul_right high (omega (arith, walks_few S tree, All-head IsSmall tree rest few)) in
      omega (arith, split, dropped, most, same_tops g (walks_of S tree), all_tops (suc g) rest (omega (arith, below)) (All-tail IsSmall tree rest few))

first_fits : (m : ModelParts) (spot : Spot) (w : Walk) → ModelFits m → SpotFits m spot → w.graph < length m.graphs → IsCountBox (first_box spot w)
first_fits m spot w fits place below =
    let graph : GraphParts = graph_in m.graphs w.graph in
    let most : graph.ends.high ≤ 4096 = (fits.graphs.each w.graph (graph_in [] 0) below).graph.fits.ends_fit.most_paths in
    let part = place.boxes.each_path w.graph below in
    record {
      low = omega (arith, ints);
      order = omega (arith, ints, part.0, part.1);
      high = omega (arith, ints, part.2, most);
    }

small_trees : (m : ModelParts) (tries : List Trie) → All (TrieFits (sizes_of m)) tries → All IsSmall (map steps_of tries)
small_trees m tries told = All-map IsSmall steps_of tries (λ i d l. let t : Trie = get_or tries i d in omega (arith, (told i d l).few, length-map t.steps step_of))

pub listed_fit : (m : ModelParts) (z : ℤ) (spot : Spot) (p : TextProof) (tries : List Trie) → ModelFits m → All (TrieFits (sizes_of m)) tries → SpotFits m spot
    → IsList m z spot (proof_of m p) (map steps_of tries)
    → CountsFit m spot (listed_walks m spot (proof_of m p) (map steps_of tries)) (first_boxes spot (listed_walks m spot (proof_of m p) (map steps_of tries)))
listed_fit m z spot p tries fits told place list =
    let proof : Proof = proof_of m p in
    let trees : List (List Step) = map steps_of tries in
    let walks : List Walk = listed_walks m spot proof trees in
    let small = small_trees m tries told in
    let paths = paths_fit m spot.boxes fits place.boxes in
    let each = all_walks m spot proof 0 trees (omega (arith, list.count)) (λ k l.
    let same : k ≡ 0 + k = omega arith in
    subst (λ (h : ℕ). IsTree (setting_of m spot proof h) (tree_at trees k)) same (list.each k (omega (arith, l, list.count))).tree) small in
    let some = count_walks m spot proof 0 trees small in
    record {
      place = place;
      size = length-map walks (first_box spot);
      each_walk = each;
      each_box = All-map IsCountBox (first_box spot) walks (λ i d l. first_fits m spot (get_or walks i d) fits place (each i d l).graph);
      sum = omega (arith, all_tops m spot proof 0 trees (omega (arith, list.count, place.boxes.paths)) small, paths.few);
      few = omega (arith, some, list.count, fits.graphs.few);
    }
