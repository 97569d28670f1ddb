-- A wall at a list shows more different partial walks than the limit.
use Rattle.std.proofs.Common.{◌≡◌, ◌≢◌, ℕ, suc, ◌+◌, ◌<◌, ◌≤◌, ℤ, List, [], ◌∷◌, ◌++◌, length, get_or, map, All, refl, sym, ◌∙◌, ap, subst, arith, length-append}
use Rattle.std.specs.Prelude.{Contains, sum_by}
use Rattle.std.specs.List.{AllPairs, range_with_len}
use Rattle.std.proofs.lemmas.List.{length-map, get_or-map}
use Rattle.std.proofs.lemmas.List.Elements.{All-nil, All-cons, All-append, All-head, All-tail, All-map, Contains-get_or}
use Rattle.std.proofs.lemmas.List.FromFn.{length-range_with_len, get_or-range_with_len}
use Rattle.std.proofs.lemmas.List.Kept.{AllPairs-cons}
use Rattle.std.proofs.lemmas.List.Sums.{sum_by-cons}
use Rattle.route_model.specs.declared.places.Spot.{Spot}
use Rattle.route_model.specs.Parts.{ModelParts}
use Rattle.label_rules.specs.Admitted.{IsElementary}
use Rattle.label_rules.specs.Labels.{Setting}
use Rattle.proof_rules.specs.Counts.{Walk}
use Rattle.proof_rules.specs.ListWalls.{AreDifferentPartials, IsListWall, IsPartialOf, ListWallLaw}
use Rattle.proof_rules.specs.Nodes.{tree_at, walks_in}
use Rattle.proof_rules.specs.PrefixLaws.{head_of}
use Rattle.proof_rules.specs.PrefixTrees.{IsPrefix, IsStep, IsTree, LeadsDown, Step, node_vertex, prefix_of}
use Rattle.proof_rules.specs.Proofs.{Proof, setting_of, table_at, walk_limit}
use Rattle.proof_rules.proofs.GrowthLemmas.{demanded_step, elementary_step}
use Rattle.proof_rules.proofs.PrefixTreeLemmas.{one_node, prefix_of_law}

-- the prefixes of the nodes of a tree but the first
abbrev nodes_made : List Step → List ℕ
nodes_made steps = range_with_len 1 (length steps)

abbrev prefixes : List Step → List (List ℕ)
prefixes steps = map (prefix_of steps) (nodes_made steps)

prefixes_size : (steps : List Step) → length (prefixes steps) ≡ length steps
prefixes_size steps = length-map (nodes_made steps) (prefix_of steps) ∙ length-range_with_len 1 (length steps)

prefix_at : (steps : List Step) (i : ℕ) (d : List ℕ) → i < length (prefixes steps) → (i < length steps) × (get_or (prefixes steps) i d ≡ prefix_of steps (suc i))
prefix_at steps i d l =
    let within : i < length steps = omega (arith, l, prefixes_size steps) in
    let size = length-range_with_len 1 (length steps) in
    let node : get_or (nodes_made steps) i 0 ≡ suc i = omega (arith, get_or-range_with_len 1 (length steps) i 0 within) in
    (within, get_or-map (prefix_of steps) (nodes_made steps) i 0 d (omega (arith, within, size)) ∙ ap (prefix_of steps) node)

prefix_is : (S : Setting) (steps : List Step) (i : ℕ) (d : List ℕ) → IsTree S steps → i < length (prefixes steps) → IsPrefix steps (suc i) (get_or (prefixes steps) i d)
prefix_is S steps i d tree l =
    let at = prefix_at steps i d l in
    subst (IsPrefix steps (suc i)) (sym at.1) (prefix_of_law S steps (suc i) tree (omega (arith, at.0)))

prefixes_differ : (S : Setting) (steps : List Step) → IsTree S steps → AllPairs (λ x y. x ≢ y) (prefixes steps)
prefixes_differ S steps tree i j d less l same =
    let first = prefix_is S steps i d tree (omega (arith, less, l)) in
    let second = prefix_is S steps j d tree l in
    let node = one_node S steps (suc i) (suc j) (get_or (prefixes steps) j d) tree (subst (IsPrefix steps (suc i)) same first) second in
    omega (arith, node, less)

-- those of the trees of all graphs
abbrev of_arcs : ℕ → List ℕ → Walk
of_arcs g arcs = record { graph = g; arcs = arcs }

abbrev gathered : ℕ → List (List Step) → List Walk
gathered g [] = []
gathered g (tree ∷ rest) = walks_in g (prefixes tree) ++ gathered (suc g) rest

gathered_size : (g : ℕ) (trees : List (List Step)) → length (gathered g trees) ≡ sum_by length trees
gathered_size g [] = refl
gathered_size g (tree ∷ rest) =
    let both = length-append (walks_in g (prefixes tree)) (gathered (suc g) rest) in
    let here = length-map (prefixes tree) (of_arcs g) ∙ prefixes_size tree in
    let next = sum_by-cons (length {A = Step}) tree rest in
    omega (arith, both, here, next, gathered_size (suc g) rest)

gathered_all : (P : Walk → Type 0) (g : ℕ) (trees : List (List Step)) → ((k : ℕ) (arcs : List ℕ) → k < length trees → Contains (prefixes (tree_at trees k)) arcs → P (of_arcs (g + k) arcs))
    → All P (gathered g trees)
gathered_all P g [] each = All-nil P
gathered_all P g (tree ∷ rest) each =
    let here : g + 0 ≡ g = omega arith in
    let first : (arcs : List ℕ) → Contains (prefixes tree) arcs → P (of_arcs g arcs) =
    subst (λ (n : ℕ). (arcs : List ℕ) → Contains (prefixes tree) arcs → P (of_arcs n arcs)) here (λ arcs h. each 0 arcs (omega arith) h) in
    All-append P (walks_in g (prefixes tree)) (gathered (suc g) rest)
    (All-map P (of_arcs g) (prefixes tree) (λ k d l. first (get_or (prefixes tree) k d) (Contains-get_or (prefixes tree) k d l)))
    (gathered_all P (suc g) rest (λ k arcs l h.
    let next : g + suc k ≡ suc g + k = omega arith in
    subst (λ (n : ℕ). P (of_arcs n arcs)) next (each (suc k) arcs (omega (arith, l)) h)))

-- lists of which no element is one of the other
pub pairs_append : {X : Type 0} (R : X → X → Type 0) (xs ys : List X) → AllPairs R xs → AllPairs R ys → All (λ x. All (R x) ys) xs → AllPairs R (xs ++ ys)
pairs_append R [] ys p q across = q
pairs_append R (x ∷ xs) ys p q across =
    AllPairs-cons R x (xs ++ ys)
    (All-append (R x) xs ys (λ k d l. p 0 (suc k) d (omega arith) (omega arith)) (All-head (λ z. All (R z) ys) x xs across))
    (pairs_append R xs ys (λ i j d less l. p (suc i) (suc j) d (omega arith) (omega arith)) q (All-tail (λ z. All (R z) ys) x xs across))

in_graph : (g : ℕ) (walks : List (List ℕ)) → All (λ (w : Walk). w.graph ≡ g) (walks_in g walks)
in_graph g walks = All-map (λ (w : Walk). w.graph ≡ g) (of_arcs g) walks (λ k d l. refl)

from_graph : (g : ℕ) (trees : List (List Step)) → All (λ (w : Walk). g ≤ w.graph) (gathered g trees)
from_graph g trees = gathered_all (λ (w : Walk). g ≤ w.graph) g trees (λ k arcs l h. omega arith)

differ_in : (g : ℕ) (walks : List (List ℕ)) → AllPairs (λ x y. x ≢ y) walks → AllPairs (λ x y. x ≢ y) (walks_in g walks)
differ_in g walks differ i j d less l same =
    let within : j < length walks = omega (arith, l, length-map walks (of_arcs g)) in
    let first = get_or-map (of_arcs g) walks i [] d (omega (arith, less, within)) in
    let second = get_or-map (of_arcs g) walks j [] d within in
    differ i j [] less within (ap (λ (w : Walk). w.arcs) (sym first ∙ (same ∙ second)))

gathered_differ : (g : ℕ) (trees : List (List Step)) → ((k : ℕ) → k < length trees → AllPairs (λ x y. x ≢ y) (prefixes (tree_at trees k))) → AllPairs (λ x y. x ≢ y) (gathered g trees)
gathered_differ g [] each = λ i j d less l same. omega (arith, l)
gathered_differ g (tree ∷ rest) each =
    pairs_append (λ x y. x ≢ y) (walks_in g (prefixes tree)) (gathered (suc g) rest)
    (differ_in g (prefixes tree) (each 0 (omega arith)))
    (gathered_differ (suc g) rest (λ k l. each (suc k) (omega (arith, l))))
    (λ i d l j e m same.
    let here = in_graph g (prefixes tree) i d l in
    let later = from_graph (suc g) rest j e m in
    omega (arith, here, later, ap (λ (w : Walk). w.graph) same))

-- the prefix of a node, and one arc more, is the prefix of no node where the arc leads to no child
down_split : (steps : List Step) (j : ℕ) (xs ys : List ℕ) (k : ℕ) → LeadsDown steps j (xs ++ ys) k → (i : ℕ) × LeadsDown steps j xs i × LeadsDown steps i ys k
down_split steps j [] ys k h = (j, refl, h)
down_split steps j (a ∷ xs) ys k h =
    let more = down_split steps (suc h.0) xs ys k h.2 in
    (more.0, (h.0, h.1, more.1), more.2)

no_node : (S : Setting) (steps : List Step) (node k a : ℕ) (arcs : List ℕ) → IsTree S steps → IsPrefix steps node arcs → ((n : ℕ) → ¬ (IsStep steps node a n)) → ¬ (IsPrefix steps k (arcs ++ a ∷ []))
no_node S steps node k a arcs tree prefix none h =
    let cut = down_split steps 0 arcs (a ∷ []) k h in
    let same = one_node S steps cut.0 node arcs tree cut.1 prefix in
    none cut.2.0 (subst (λ (i : ℕ). IsStep steps i a cut.2.0) same cut.2.1)

-- of elementary arcs
partial_of : (m : ModelParts) (spot : Spot) (p : Proof) (g v : ℕ) (arcs : List ℕ) → g < length m.graphs → arcs ≢ [] → IsElementary (setting_of m spot p g) arcs v → IsPartialOf m (of_arcs g arcs)
partial_of m spot p g v arcs inside some is = record { graph = inside; partial = record { some = some; ends = v; leads = is.leads; passes = is.passes } }

not_empty : (arcs : List ℕ) (a : ℕ) → arcs ++ a ∷ [] ≢ []
not_empty [] a e = cc
not_empty (b ∷ arcs) a e = cc

module _ (m : ModelParts) (limit : ℕ) (spot : Spot) (p : Proof) (z : ℤ) (trees : List (List Step)) (wall : IsListWall m limit spot p z trees) where
  tree_of : (g : ℕ) → g < length trees → IsTree (setting_of m spot p g) (tree_at trees g)
  tree_of g l = (wall.each g (omega (arith, l, wall.count))).tree

  -- a gathered walk is the prefix of a node
  node_of : (g : ℕ) (arcs : List ℕ) → g < length trees → Contains (prefixes (tree_at trees g)) arcs → (k : ℕ) × IsPrefix (tree_at trees g) (suc k) arcs
  node_of g arcs l h = (h.0, subst (IsPrefix (tree_at trees g) (suc h.0)) h.2 (prefix_is (setting_of m spot p g) (tree_at trees g) h.0 arcs (tree_of g l) h.1))

  is_partial : (g : ℕ) (arcs : List ℕ) → g < length trees → Contains (prefixes (tree_at trees g)) arcs → IsPartialOf m (of_arcs g arcs)
  is_partial g arcs l h =
      let at = node_of g arcs l h in
      let root : arcs ≢ [] = λ e. apart (subst (IsPrefix (tree_at trees g) (suc at.0)) e at.1) in
      partial_of m spot p g (node_vertex (setting_of m spot p g) (tree_at trees g) (suc at.0)) arcs (omega (arith, l, wall.count)) root
      ((tree_of g l).each (suc at.0) arcs at.1)
    where
      apart : {k : ℕ} → 0 ≡ suc k → ⊥
      apart e = omega (arith, e)

  all_partial : All (IsPartialOf m) (gathered 0 trees)
  all_partial = gathered_all (IsPartialOf m) 0 trees (λ k arcs l h. subst (λ (n : ℕ). IsPartialOf m (of_arcs n arcs)) (omega arith) (is_partial k arcs l h))

  -- the one more
  more : Walk
  more = of_arcs wall.graph (wall.unfinished.arcs ++ wall.unfinished.arc ∷ [])

  there : wall.graph < length trees
  there = omega (arith, wall.there, wall.count)

  more_partial : IsPartialOf m more
  unfolding more
  more_partial =
      let S : Setting = setting_of m spot p wall.graph in
      let u = wall.unfinished in
      let is = (tree_of wall.graph there).each u.node u.arcs u.prefix in
      let next = elementary_step S u.arcs (node_vertex S (tree_at trees wall.graph) u.node) u.arc is
      (demanded_step S (table_at p.tables wall.graph).back (walk_limit m spot p z wall.graph) u.arcs (node_vertex S (tree_at trees wall.graph) u.node) u.arc is u.demanded) in
      partial_of m spot p wall.graph (head_of S u.arc) (u.arcs ++ u.arc ∷ []) wall.there (not_empty u.arcs u.arc) next

  more_other : All (λ w. more ≢ w) (gathered 0 trees)
  unfolding more
  more_other =
      gathered_all (λ w. more ≢ w) 0 trees (λ k arcs l h e.
      let u = wall.unfinished in
      let graph : wall.graph ≡ k = omega (arith, ap (λ (w : Walk). w.graph) e) in
      let same : u.arcs ++ u.arc ∷ [] ≡ arcs = ap (λ (w : Walk). w.arcs) e in
      let at = node_of k arcs l h in
      let there_too = subst (λ (n : ℕ). IsPrefix (tree_at trees n) (suc at.0) (u.arcs ++ u.arc ∷ [])) (sym graph) (subst (IsPrefix (tree_at trees k) (suc at.0)) (sym same) at.1) in
      no_node (setting_of m spot p wall.graph) (tree_at trees wall.graph) u.node (suc at.0) u.arc u.arcs (tree_of wall.graph there) u.prefix u.none there_too)

  shown : (walks : List Walk) × (length walks ≡ suc limit) × AreDifferentPartials m walks
  shown = (
    more ∷ gathered 0 trees,
    omega (arith, gathered_size 0 trees, wall.lines),
    record {
      each = all_each;
      differ = AllPairs-cons (λ x y. x ≢ y) more (gathered 0 trees) more_other (gathered_differ 0 trees (λ k l. prefixes_differ (setting_of m spot p k) (tree_at trees k) (tree_of k l)));
    },
  )
    where
      all_each : All (IsPartialOf m) (more ∷ gathered 0 trees)
      all_each = All-cons (IsPartialOf m) more (gathered 0 trees) more_partial all_partial

pub list_wall : ListWallLaw
list_wall m limit spot p z trees wall = shown m limit spot p z trees wall
