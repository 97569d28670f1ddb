-- The parts of a listing by graph, and a listing graph by graph.
use Rattle.std.proofs.Common.{◌≡◌, ℕ, ◌+◌, ◌-◌, ◌<◌, ◌≤◌, ℤ, Option, List, [], ◌∷◌, ◌++◌, All, length, get_or, map, sum_by, inl, inr, refl, sym, ◌∙◌, ap, subst, arith}
use Rattle.std.proofs.lemmas.Bool.{cases_lt}
use Rattle.std.proofs.lemmas.List.{get_or_append_left, get_or_default, get_or_push, length-map, length_push}
use Rattle.std.proofs.lemmas.List.Elements.{All-map}
use Rattle.std.proofs.lemmas.List.Sums.{sum_by-cons, sum_by_push}
use Rattle.path_graph.specs.declared.set_bits.SetBits.{SetBits}
use Rattle.rank1_cuts.specs.declared.cut.Cut.{Cut}
use Rattle.route_model.specs.Fit.{ModelFits}
use Rattle.route_model.specs.Parts.{ModelParts}
use Rattle.label_rules.specs.declared.label.Label.{Label}
use Rattle.label_rules.specs.declared.table.ProofTable.{ProofTable}
use Rattle.label_rules.specs.Labels.{Setting}
use Rattle.multipliers.specs.Quantities.{base}
use Rattle.safe_bound.specs.Bounds.{limit_of}
use Rattle.safe_bound.specs.Promise.{IsLeastNear, LeastsFit}
use Rattle.proof_rules.specs.ListWalls.{IsDemandedTree, IsUnfinished, OfGraph}
use Rattle.proof_rules.specs.Nodes.{tree_at}
use Rattle.proof_rules.specs.Places.{setting_at}
use Rattle.proof_rules.specs.PrefixTrees.{IsComplete, Step}
use Rattle.proof_rules.specs.Proofs.{Proof, Table, leasts_of, setting_of, table_at as table_in, walk_limit}
use Rattle.concatenate.specs.Fit.{MayJoin}
use Rattle.route_labels.specs.declared.field.Field.{Field}
use Rattle.route_labels.specs.Fit.{FieldFits}
use Rattle.route_labels.specs.Meaning.{setting_of as setting_of_field}
use Rattle.certificate.specs.declared.cert.Trie.{Trie}
use Rattle.cert_rules.specs.Meaning.{step_of, steps_of, table_of}
use Rattle.list_check.proofs.SettingLemmas.{mapped_at, prefix_may, setting_same}
use Rattle.walk_list.specs.declared.task.Task.{Task}
use Rattle.walk_list.specs.declared.prefixes.Prefix.{Prefix}
use Rattle.walk_list.specs.Growing.{IsFull, IsGrowingAt, IsNode, IsWhole}
use Rattle.walk_list.specs.Prefixes.{LabelsFit}
use Rattle.walk_list.specs.Listings.{AreComplete, AreCutOff, AreInOrder, IsProofWith, trie_at}
use Rattle.walk_list.specs.Tasks.{AreAllWhole, AreFull, AreWholeBelow, InGraph, TaskFits, back_in, field_in, leasts_in, limit_in, lines_in, setting_in}
use Rattle.walk_list.proofs.GrowthLemmas.{empty_demanded}

-- the parts of a graph fit
pub field_fits : (t : Task) (g : ℕ) → TaskFits t → g < length t.model.now.graphs → FieldFits (field_in t g)
field_fits t g fits there = record {
  graph = there;
  spot = fits.spot_fits;
  mult = fits.mult;
  mult_fits = fits.mult_fits;
  cuts = fits.cuts_fit;
  weights = fits.weights;
  priced = fits.priced_is;
  near = fits.near_fits;
}

pub rests_may : (t : Task) (g : ℕ) → TaskFits t → g < length t.model.now.graphs → All (MayJoin (setting_in t g)) (back_in t g)
rests_may t g fits there =
    subst (λ (S : Setting). All (MayJoin S) (back_in t g)) (sym (setting_same (field_in t g) fits.mult fits.priced_is fits.weights)) (fits.rests g there)

pub leasts_fit : (t : Task) → TaskFits t → LeastsFit t.spot.now.boxes.paths (leasts_in t)
leasts_fit t fits = record {
  count = length-map t.tables.now (λ (table : ProofTable). table.least) ∙ (fits.count ∙ sym fits.spot_fits.boxes.paths);
  each = All-map IsLeastNear (λ (table : ProofTable). table.least) t.tables.now fits.leasts;
}

-- without trees
pub whole_none : (t : Task) (limit : ℕ) → AreWholeBelow t limit limit 0 []
whole_none t limit = record {
  order = record { count_is = refl; graphs = λ g l. absurd (omega (arith, l)) };
  each = λ g l. absurd (omega (arith, l));
  lines = omega arith;
}

-- the tree of a graph stays where further ones are put
old_trie : (tries : List Trie) (trie : Trie) (n g : ℕ) → length tries ≡ n → g < n → trie_at (tries ++ trie ∷ []) g ≡ trie_at tries g
old_trie tries trie n g size l = get_or_append_left tries (trie ∷ []) _ g (omega (arith, size, l))

last_trie : (tries : List Trie) (trie : Trie) (n : ℕ) → length tries ≡ n → trie_at (tries ++ trie ∷ []) n ≡ trie
last_trie tries trie n size = get_or_push tries trie _ n size

order_more : (tries : List Trie) (trie : Trie) (n : ℕ) → AreInOrder n tries → trie.graph ≡ n → AreInOrder (n + 1) (tries ++ trie ∷ [])
order_more tries trie n order is = record {
  count_is = omega (arith, length_push tries trie, order.count_is);
  graphs = λ g l. elim (cases_lt g n) [
    | inl old ↦ ap (λ (x : Trie). x.graph) (old_trie tries trie n g order.count_is old) ∙ order.graphs g old
    | inr past ↦
        let same : n ≡ g = omega (arith, past, l) in
        ap (λ (k : ℕ). (trie_at (tries ++ trie ∷ []) k).graph) (sym same) ∙ (ap (λ (x : Trie). x.graph) (last_trie tries trie n order.count_is) ∙ (is ∙ same))
  ];
}

-- a property of the trees, with one tree more
graph_more : (Is : (S : Setting) → List Label → Option ℤ → List Step → Type 0) (t : Task) (tries : List Trie) (trie : Trie) (n : ℕ) → length tries ≡ n
    → ((g : ℕ) → g < n → InGraph Is t tries g) → Is (setting_in t n) (back_in t n) (limit_in t n) (steps_of trie) → (g : ℕ) → g < n + 1 → InGraph Is t (tries ++ trie ∷ []) g
graph_more Is t tries trie n size each is g l = elim (cases_lt g n) [
  | inl old ↦ subst (λ (x : Trie). Is (setting_in t g) (back_in t g) (limit_in t g) (steps_of x)) (sym (old_trie tries trie n g size old)) (each g old)
  | inr past ↦
      let same : n ≡ g = omega (arith, past, l) in
      let here : InGraph Is t (tries ++ trie ∷ []) n = subst (λ (x : Trie). Is (setting_in t n) (back_in t n) (limit_in t n) (steps_of x)) (sym (last_trie tries trie n size)) is in
      subst (λ (k : ℕ). InGraph Is t (tries ++ trie ∷ []) k) same here
]

lines_more : (tries : List Trie) (trie : Trie) → lines_in (tries ++ trie ∷ []) ≡ lines_in tries + length trie.steps
lines_more tries trie = sum_by_push (λ (x : Trie). length x.steps) tries trie

-- one whole tree more
pub whole_more : (t : Task) (limit room n : ℕ) (tries : List Trie) (trie : Trie) → AreWholeBelow t limit room n tries → trie.graph ≡ n → length trie.steps ≤ room
    → IsWhole (setting_in t n) (back_in t n) (limit_in t n) (steps_of trie) → AreWholeBelow t limit (room - length trie.steps) (n + 1) (tries ++ trie ∷ [])
whole_more t limit room n tries trie below is few whole = record {
  order = order_more tries trie n below.order is;
  each = graph_more IsWhole t tries trie n below.order.count_is below.each whole;
  lines = omega (arith, lines_more tries trie, below.lines, few);
}

-- one that is full
pub full_here : (t : Task) (limit room n : ℕ) (tries : List Trie) (trie : Trie) → AreWholeBelow t limit room n tries → trie.graph ≡ n
    → IsFull (setting_in t n) (back_in t n) (limit_in t n) room (steps_of trie) → AreFull t limit (n + 1) (tries ++ trie ∷ [])
full_here t limit room n tries trie below is full = record {
  order = order_more tries trie n below.order is;
  each = graph_more IsDemandedTree t tries trie n below.order.count_is (λ g l. (below.each g l).demanded) full.demanded;
  lines = let size : length (steps_of trie) ≡ length trie.steps = length-map trie.steps step_of in omega (arith, lines_more tries trie, below.lines, full.lines, size);
  graph = n;
  there = omega arith;
  unfinished = subst (λ (x : Trie). IsUnfinished (setting_in t n) (back_in t n) (limit_in t n) (steps_of x)) (sym (last_trie tries trie n below.order.count_is)) full.unfinished;
}

-- one without lines behind it
pub full_more : (t : Task) (limit n : ℕ) (tries : List Trie) (trie : Trie) → AreFull t limit n tries → trie.graph ≡ n → trie.steps ≡ [] → AreFull t limit (n + 1) (tries ++ trie ∷ [])
full_more t limit n tries trie full is none = record {
  order = order_more tries trie n full.order is;
  each = graph_more IsDemandedTree t tries trie n full.order.count_is full.each
      (subst (IsDemandedTree (setting_in t n) (back_in t n) (limit_in t n)) (sym (ap (map step_of) none)) (empty_demanded (setting_in t n) (back_in t n) (limit_in t n)));
  lines = let size = ap length none in omega (arith, lines_more tries trie, full.lines, size);
  graph = full.graph;
  there = omega (arith, full.there);
  unfinished = subst (λ (x : Trie). IsUnfinished (setting_in t full.graph) (back_in t full.graph) (limit_in t full.graph) (steps_of x))
      (sym (old_trie tries trie n full.graph full.order.count_is full.there)) full.unfinished;
}

-- all of them
pub all_whole : (t : Task) (limit room n : ℕ) (tries : List Trie) → AreWholeBelow t limit room n tries → n ≡ length t.model.now.graphs → AreAllWhole t limit tries
all_whole t limit room n tries below all = record {
  order = subst (λ (k : ℕ). AreInOrder k tries) all below.order;
  each = λ g l. below.each g (omega (arith, l, all));
  lines = omega (arith, below.lines);
}

-- with a proof that has these parts
moved : (Is : (S : Setting) → List Label → Option ℤ → List Step → Type 0) (S T : Setting) (xs ys : List Label) (a b : Option ℤ) (s u : List Step) → S ≡ T → xs ≡ ys → a ≡ b → s ≡ u → Is S xs a s → Is T ys b u
moved Is S T xs ys a b s u e f h k is =
    subst (λ (r : Setting). Is r ys b u) e (subst (λ (r : List Label). Is S r b u) f (subst (λ (r : Option ℤ). Is S xs r u) h (subst (λ (r : List Step). Is S xs a r) k is)))

module _ (t : Task) (fits : TaskFits t) (p : Proof) (is : IsProofWith t.model.now t.spot.now t.priced.now t.near.now t.cuts.now t.y.now t.tables.now p) (tries : List Trie) (g : ℕ) where
  abbrev m : ModelParts
  m = t.model.now

  pub setting_is : setting_in t g ≡ setting_of m t.spot.now p g
  setting_is =
      setting_same (field_in t g) p.mult is.priced_is is.weights
      ∙ (ap (λ (near : List (List SetBits)). setting_at m t.spot.now near t.cuts.now p.mult g) (sym is.near_same)
      ∙ ap (λ (cuts : List Cut). setting_at m t.spot.now p.near cuts p.mult g) (sym is.cuts_same))

  back_is : back_in t g ≡ (table_in p.tables g).back
  back_is = ap (λ (table : Table). table.back) (sym (ap (λ (tables : List Table). table_in tables g) is.tables_same ∙ mapped_at table_of t.tables.now g _))

  leasts_are : leasts_in t ≡ leasts_of p
  leasts_are = sym (ap (λ (tables : List Table). map (λ (table : Table). table.least) tables) is.tables_same ∙ map_twice t.tables.now)
    where
      map_twice : (tables : List ProofTable) → map (λ (table : Table). table.least) (map table_of tables) ≡ map (λ (table : ProofTable). table.least) tables
      map_twice [] = refl
      map_twice (x ∷ xs) = ap (λ (rest : List (Option ℤ)). x.least ∷ rest) (map_twice xs)

  base_is : t.priced.now.base ≡ base m p.cuts t.spot.now.boxes p.mult
  base_is = is.priced_is.base ∙ ap (λ (cuts : List Cut). base m cuts t.spot.now.boxes p.mult) (sym is.cuts_same)

  limit_is : limit_in t g ≡ walk_limit m t.spot.now p t.z g
  limit_is =
      ap (λ (n : ℕ). limit_of n t.spot.now.boxes.paths (leasts_in t) t.priced.now.base g t.z) fits.spot_fits.boxes.paths
      ∙ (ap (λ (leasts : List (Option ℤ)). limit_of (length m.graphs) t.spot.now.boxes.paths leasts t.priced.now.base g t.z) leasts_are
      ∙ ap (λ (b : ℤ). limit_of (length m.graphs) t.spot.now.boxes.paths (leasts_of p) b g t.z) base_is)

  steps_are : steps_of (trie_at tries g) ≡ tree_at (map steps_of tries) g
  steps_are = sym (mapped_at steps_of tries g _)

  of_graph : (Is : (S : Setting) → List Label → Option ℤ → List Step → Type 0) → InGraph Is t tries g → OfGraph Is m t.spot.now p t.z (map steps_of tries) g
  of_graph Is h = moved Is _ _ _ _ _ _ _ _ setting_is back_is limit_is steps_are h

pub lines_are : (tries : List Trie) → sum_by length (map steps_of tries) ≡ lines_in tries
lines_are [] = refl
lines_are (x ∷ xs) =
    let size : length (steps_of x) ≡ length x.steps = length-map x.steps step_of in
    let rest = lines_are xs in
    let one = sum_by-cons length (steps_of x) (map steps_of xs) in
    let two = sum_by-cons (λ (y : Trie). length y.steps) x xs in
    omega (arith, size, rest, one, two)

pub complete_is : (t : Task) (limit : ℕ) (tries : List Trie) → TaskFits t → AreAllWhole t limit tries
    → AreComplete t.model.now t.spot.now (IsProofWith t.model.now t.spot.now t.priced.now t.near.now t.cuts.now t.y.now t.tables.now) t.z tries
complete_is t limit tries fits whole = record {
  order = whole.order;
  each = λ p is g l. of_graph t fits p is tries g IsComplete (whole.each g l).complete;
}

pub cut_off_is : (t : Task) (limit : ℕ) (tries : List Trie) → TaskFits t → AreFull t limit (length t.model.now.graphs) tries
    → AreCutOff t.model.now t.spot.now (IsProofWith t.model.now t.spot.now t.priced.now t.near.now t.cuts.now t.y.now t.tables.now) t.z limit tries
cut_off_is t limit tries fits full = record {
  order = full.order;
  lines = lines_are tries ∙ full.lines;
  each = λ p is g l. of_graph t fits p is tries g IsDemandedTree (full.each g l);
  graph = full.graph;
  there = full.there;
  unfinished = λ p is. of_graph t fits p is tries full.graph IsUnfinished full.unfinished;
}

-- the label of a node that grows may be joined
pub node_fits : (f : Field) (back : List Label) (limit : ℤ) (steps : List Step) (prefixes : List Prefix) (number : ℕ) (node : Prefix) (place : ℕ) → ModelFits f.model.now → FieldFits f
    → IsGrowingAt (setting_of_field f) back limit steps prefixes number node place → LabelsFit (setting_of_field f) node
node_fits f back limit steps prefixes number node place model fits at =
    let is = subst (IsNode (setting_of_field f) steps number) at.node_is (at.grown.each number at.there) in
    record { fits = is.is.fits; may = prefix_may f is.arcs node.label node.visited model fits is.is }

-- the labels of rests of a graph, as they are read
pub back_read : (t : Task) (g : ℕ) (table : ProofTable) → table ≡ get_or t.tables.now g table → g < length t.tables.now → back_in t g ≡ table.back
back_read t g table is l = ap (λ (x : ProofTable). x.back) (get_or_default t.tables.now g _ table l ∙ sym is)
