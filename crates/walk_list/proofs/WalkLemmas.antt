-- The walks of the trees of all graphs.
use Rattle.std.proofs.Common.{◌≡◌, ◌≢◌, ◌==◌, ℕ, zero, suc, add-zero, ◌+◌, ◌<◌, ◌≤◌, ℤ, Bool, false, List, [], ◌∷◌, ◌++◌, All, length, get_or, map, sum_by, take, inl, inr, refl, sym, ◌∙◌, ap, subst, arith, append-nil, append_assoc, length-append}
use Rattle.std.specs.Prelude.{filter}
use Rattle.std.specs.List.{range_with_len}
use Rattle.std.proofs.lemmas.Bool.{cases_lt, cond-false}
use Rattle.std.proofs.lemmas.Bool.Decides.{eqb_tells}
use Rattle.std.proofs.lemmas.List.{get_or-map, get_or_default, get_or_past, length-map, length-take-le, take_all, take_more}
use Rattle.std.proofs.lemmas.List.Elements.{All-append, All-map, All-nil, Contains-get_or}
use Rattle.std.proofs.lemmas.List.FromFn.{length-range_with_len}
use Rattle.std.proofs.lemmas.List.Sums.{count_by-le-length, length-filter, sum_by-cons}
use Rattle.path_graph.specs.First.{EachBelow}
use Rattle.path_graph.specs.Walk.{Leads}
use Rattle.route_model.specs.declared.places.Spot.{Spot}
use Rattle.route_model.specs.Fit.{ModelFits}
use Rattle.route_model.specs.Parts.{ModelParts, graph_in}
use Rattle.label_rules.specs.Labels.{Setting}
use Rattle.proof_rules.specs.Counts.{Walk}
use Rattle.proof_rules.specs.Nodes.{listed_walks, tree_at, walks_from, walks_in}
use Rattle.proof_rules.specs.PrefixTrees.{IsTree, Step, node_count, node_vertex, prefix_of, prefix_within, sink_nodes, step_at, walks_of}
use Rattle.proof_rules.specs.Proofs.{Proof, setting_of}
use Rattle.proof_rules.proofs.WalkListLemmas.{nodes_within, walks_listed}
use Rattle.certificate.specs.declared.cert.Trie.{Trie}
use Rattle.cert_rules.specs.Meaning.{step_of, steps_of, table_of}
use Rattle.walk_list.specs.declared.task.Task.{Task}
use Rattle.walk_list.specs.declared.walks.ListedWalk.{ListedWalk}
use Rattle.walk_list.specs.Listings.{AreComplete}
use Rattle.walk_list.specs.Tasks.{IsProofOf, TaskFits, setting_in}
use Rattle.walk_list.specs.Walks.{AreTrees, AreWalksOf, WalkStands, WalksStand, walk_said, walks_said}
use Rattle.walk_list.proofs.TaskLemmas.{setting_is}

-- complete trees are trees
pub complete_trees : (m : ModelParts) (spot : Spot) (IsOf : Proof → Type 0) (z : ℤ) (tries : List Trie) → AreComplete m spot IsOf z tries → AreTrees m spot IsOf tries
complete_trees m spot IsOf z tries complete = record { order = complete.order; each = λ p is g l. (complete.each p is g l).tree }

-- a proof that has the parts of a task
abbrev proof_in : (t : Task) → TaskFits t → Proof
proof_in t fits = record { mult = fits.mult; cuts = t.cuts.now; near = t.near.now; tables = map table_of t.tables.now }

has_parts : (t : Task) (fits : TaskFits t) → IsProofOf t (proof_in t fits)
has_parts t fits = record { weights = fits.weights; priced_is = fits.priced_is; cuts_same = refl; near_same = refl; tables_same = refl }

-- the steps of a tree by its place
steps_at : (tries : List Trie) (k : ℕ) (trie : Trie) → k < length tries → trie ≡ get_or tries k trie → tree_at (map steps_of tries) k ≡ steps_of trie
steps_at tries k trie below is =
    get_or-map steps_of tries k (record { graph = 0; steps = [] }) [] below
    ∙ ap steps_of (get_or_default tries k (record { graph = 0; steps = [] }) trie below ∙ sym is)

-- the tree of a graph is one where its labels are made
pub tree_in : (t : Task) (tries : List Trie) (g : ℕ) (trie : Trie) → TaskFits t → AreTrees t.model.now t.spot.now (IsProofOf t) tries → g < length t.model.now.graphs
    → trie ≡ get_or tries g trie → IsTree (setting_in t g) (steps_of trie)
tree_in t tries g trie fits trees below is =
    let p : Proof = proof_in t fits in
    let has : IsProofOf t p = has_parts t fits in
    let tree = trees.each p has g below in
    let same = steps_at tries g trie (omega (arith, below, trees.order.count_is)) is in
    subst (λ (S : Setting). IsTree S (steps_of trie)) (sym (setting_is t fits p has tries g)) (subst (IsTree (setting_of t.model.now t.spot.now p g)) same tree)

-- the walks of one tree more
walks_push : (m : ModelParts) (spot : Spot) (p : Proof) (g : ℕ) (trees : List (List Step)) (tree : List Step)
    → walks_from m spot p g (trees ++ tree ∷ []) ≡ walks_from m spot p g trees ++ walks_in (g + length trees) (walks_of (setting_of m spot p (g + length trees)) tree)
walks_push m spot p g [] tree =
    let e : g ≡ g + 0 = omega arith in
    append-nil (walks_in g (walks_of (setting_of m spot p g) tree)) ∙ ap (λ (h : ℕ). walks_in h (walks_of (setting_of m spot p h) tree)) e
walks_push m spot p g (t ∷ trees) tree =
    let here : List Walk = walks_in g (walks_of (setting_of m spot p g) t) in
    let e : suc g + length trees ≡ g + suc (length trees) = omega arith in
    ap (λ (ws : List Walk). here ++ ws) (walks_push m spot p (suc g) trees tree
    ∙ ap (λ (h : ℕ). walks_from m spot p (suc g) trees ++ walks_in h (walks_of (setting_of m spot p h) tree)) e)
    ∙ sym (append_assoc here (walks_from m spot p (suc g) trees) (walks_in (g + suc (length trees)) (walks_of (setting_of m spot p (g + suc (length trees))) tree)))

-- these are the walks of the trees of the graphs below a number
abbrev pub AreWalksBelow : Task → List Trie → ℕ → List ListedWalk → Type 0
AreWalksBelow t tries n walks = (p : Proof) → IsProofOf t p → walks_said walks ≡ walks_from t.model.now t.spot.now p 0 (take n (map steps_of tries))

pub below_none : (t : Task) (tries : List Trie) (walks : List ListedWalk) → walks ≡ [] → AreWalksBelow t tries 0 walks
below_none t tries walks none p has = ap walks_said none

pub below_more : (t : Task) (tries : List Trie) (g : ℕ) (trie : Trie) (walks new : List ListedWalk) (more : List (List ℕ)) → TaskFits t → g < length tries → trie ≡ get_or tries g trie
    → AreWalksBelow t tries g walks → more ≡ walks_of (setting_in t g) (steps_of trie) → walks_said new ≡ walks_said walks ++ walks_in g more → AreWalksBelow t tries (g + 1) new
below_more t tries g trie walks new more fits below is before walks_are made p has =
    let trees : List (List Step) = map steps_of tries in
    let m : ModelParts = t.model.now in
    let spot : Spot = t.spot.now in
    let inside : g < length trees = omega (arith, below, length-map tries steps_of) in
    let same = steps_at tries g trie below is in
    let size : 0 + length (take g trees) ≡ g = omega (arith, length-take-le g trees (omega (arith, inside))) in
    let pushed : walks_from m spot p 0 (take (g + 1) trees) ≡ walks_from m spot p 0 (take g trees) ++ walks_in g (walks_of (setting_of m spot p g) (tree_at trees g)) =
    ap (walks_from m spot p 0) (take_more trees g [] inside) ∙ (walks_push m spot p 0 (take g trees) (tree_at trees g)
    ∙ ap (λ (h : ℕ). walks_from m spot p 0 (take g trees) ++ walks_in h (walks_of (setting_of m spot p h) (tree_at trees g))) size) in
    let one : walks_in g more ≡ walks_in g (walks_of (setting_of m spot p g) (tree_at trees g)) =
    ap (walks_in g) (walks_are ∙ (ap (λ (S : Setting). walks_of S (steps_of trie)) (setting_is t fits p has tries g) ∙ ap (walks_of (setting_of m spot p g)) (sym same))) in
    made ∙ ((λ i. before p has i ++ one i) ∙ sym pushed)

pub below_all : (t : Task) (tries : List Trie) (n : ℕ) (walks : List ListedWalk) → length tries ≤ n → AreWalksBelow t tries n walks → AreWalksOf t.model.now t.spot.now (IsProofOf t) tries walks
below_all t tries n walks all below p has =
    below p has ∙ ap (walks_from t.model.now t.spot.now p 0) (take_all n (map steps_of tries) (omega (arith, all, length-map tries steps_of)))

-- a prefix has no more arcs than the number of its node
parent_before : (S : Setting) (steps : List Step) (n : ℕ) → IsTree S steps → (step_at steps n).parent ≤ n
parent_before S steps n tree = elim (cases_lt n (length steps)) [
  | inl less ↦ tree.parents n less
  | inr past ↦ let none : step_at steps n ≡ record { parent = 0; arc = 0 } = get_or_past steps n _ past in omega (arith, ap (λ (s : Step). s.parent) none)
]

prefix_short : (S : Setting) (steps : List Step) (bound k : ℕ) → IsTree S steps → length (prefix_within steps bound k) ≤ k
prefix_short S steps zero k tree = omega arith
prefix_short S steps (suc bound) zero tree = omega arith
prefix_short S steps (suc bound) (suc n) tree =
    let parent : ℕ = (step_at steps n).parent in
    omega (arith, parent_before S steps n tree, prefix_short S steps bound parent tree, length-append (prefix_within steps bound parent) ((step_at steps n).arc ∷ []))

walks_short : (S : Setting) (steps : List Step) → IsTree S steps → All (λ (arcs : List ℕ). length arcs ≤ length steps) (walks_of S steps)
walks_short S steps tree =
    All-map (λ (arcs : List ℕ). length arcs ≤ length steps) (prefix_of steps) (sink_nodes S steps)
    (λ i d l. omega (arith, nodes_within S steps i d l, prefix_short S steps (suc (get_or (sink_nodes S steps) i d)) (get_or (sink_nodes S steps) i d) tree))

-- the empty prefix is no walk, so that there are no more walks than lines
walks_few : (S : Setting) (steps : List Step) → S.graph.ends.source ≢ S.graph.ends.sink → length (walks_of S steps) ≤ length steps
walks_few S steps differ =
    let test : ℕ → Bool = λ k. node_vertex S steps k == S.graph.ends.sink in
    let rest : List ℕ = range_with_len 1 (length steps) in
    let first : filter test (0 ∷ rest) ≡ filter test rest = cond-false (test 0) (0 ∷ filter test rest) (filter test rest) (other_end S differ) in
    omega (arith, length-map (sink_nodes S steps) (prefix_of steps), ap (λ (ks : List ℕ). length ks) first, length-filter test rest, count_by-le-length test rest, length-range_with_len 1 (length steps))
  where
    other_end : (S : Setting) → S.graph.ends.source ≢ S.graph.ends.sink → (S.graph.ends.source == S.graph.ends.sink) ≡ false
    other_end S differ = elim (eqb_tells S.graph.ends.source S.graph.ends.sink) [
      | inl both ↦ absurd (differ both.1)
      | inr both ↦ both.0
    ]

-- so many lines have the trees from one on
abbrev lines_of : List (List Step) → ℕ
lines_of trees = sum_by length trees

module _ (m : ModelParts) (spot : Spot) (p : Proof) where
  one_stands : (g : ℕ) (steps : List Step) (most : ℕ) → g < length m.graphs → IsTree (setting_of m spot p g) steps → length steps ≤ most
      → All (WalkStands m most) (walks_in g (walks_of (setting_of m spot p g) steps))
  one_stands g steps most below tree few =
      let S : Setting = setting_of m spot p g in
      All-map (WalkStands m most) (λ (arcs : List ℕ). record { graph = g; arcs = arcs }) (walks_of S steps)
      (λ i d l.
      let walk : List ℕ = get_or (walks_of S steps) i d in
      let listed = (walks_listed S steps walk tree).0 (Contains-get_or (walks_of S steps) i d l) in
      let elementary = tree.each listed.node walk listed.prefix in
      record {
        graph = below;
        walk = subst (λ (v : ℕ). Leads S.graph S.graph.ends.source walk v) listed.at_sink elementary.leads;
        short = omega (arith, walks_short S steps tree i d l, few);
      })

  all_stand : (g : ℕ) (trees : List (List Step)) (most : ℕ) → g + length trees ≤ length m.graphs → EachBelow (length trees) (λ k. IsTree (setting_of m spot p (g + k)) (tree_at trees k))
      → lines_of trees ≤ most → All (WalkStands m most) (walks_from m spot p g trees)
  all_stand g [] most below each few = All-nil (WalkStands m most)
  all_stand g (tree ∷ rest) most below each few =
      let sum = sum_by-cons length tree rest in
      let here = subst (λ (h : ℕ). IsTree (setting_of m spot p h) tree) (add-zero g) (each 0 (omega arith)) in
      All-append (WalkStands m most) (walks_in g (walks_of (setting_of m spot p g) tree)) (walks_from m spot p (suc g) rest)
      (one_stands g tree most (omega (arith, below)) here (omega (arith, sum, few)))
      (all_stand (suc g) rest most (omega (arith, below))
      (λ k l. let same : g + suc k ≡ suc g + k = omega arith in subst (λ (h : ℕ). IsTree (setting_of m spot p h) (tree_at rest k)) same (each (suc k) (omega (arith, l))))
      (omega (arith, sum, few)))

  count_walks : (g : ℕ) (trees : List (List Step)) → ModelFits m → g + length trees ≤ length m.graphs → length (walks_from m spot p g trees) ≤ lines_of trees
  count_walks g [] model below = omega arith
  count_walks g (tree ∷ rest) model below =
      let S : Setting = setting_of m spot p g in
      let here : List Walk = walks_in g (walks_of S tree) in
      let graph = (model.graphs.each g (graph_in [] 0) (omega (arith, below))).graph in
      omega (
        arith,
        length-append here (walks_from m spot p (suc g) rest),
        length-map (walks_of S tree) (λ (arcs : List ℕ). let w : Walk = record { graph = g; arcs = arcs } in w),
        walks_few S tree graph.fits.ends_fit.different,
        sum_by-cons length tree rest,
        count_walks (suc g) rest model (omega (arith, below)),
      )

-- what holds of each walk that is said holds of each that is listed
each_said : (P : Walk → Type 0) (walks : List ListedWalk) → All P (walks_said walks) → All (λ (w : ListedWalk). P (walk_said w)) walks
each_said P walks all i d l =
    subst P (get_or-map walk_said walks i d (walk_said d) l) (all i (walk_said d) (omega (arith, l, length-map walks walk_said)))

pub walks_stand : (t : Task) (tries : List Trie) (walks : List ListedWalk) → TaskFits t → ModelFits t.model.now → AreTrees t.model.now t.spot.now (IsProofOf t) tries
    → AreWalksOf t.model.now t.spot.now (IsProofOf t) tries walks → WalksStand t.model.now tries walks
walks_stand t tries walks fits model trees are =
    let m : ModelParts = t.model.now in
    let p : Proof = proof_in t fits in
    let has : IsProofOf t p = has_parts t fits in
    let all : List (List Step) = map steps_of tries in
    let size : length all ≡ length m.graphs = length-map tries steps_of ∙ trees.order.count_is in
    let each : EachBelow (length all) (λ k. IsTree (setting_of m t.spot.now p (0 + k)) (tree_at all k)) =
    λ k l. let same : k ≡ 0 + k = omega arith in subst (λ (h : ℕ). IsTree (setting_of m t.spot.now p h) (tree_at all k)) same (trees.each p has k (omega (arith, l, size))) in
    let stand = all_stand m t.spot.now p 0 all (lines_of all) (omega (arith, size)) each (omega arith) in
    let same = are p has in
    record {
      each = each_said (WalkStands m (lines_of all)) walks (subst (All (WalkStands m (lines_of all))) (sym same) stand);
      few = omega (arith, count_walks m t.spot.now p 0 all model (omega (arith, size)), ap (λ (ws : List Walk). length ws) same, length-map walks walk_said);
    }
