-- A list of walks that stops at a limit shows more partial walks than the limit: over the demanded arc that leads to no
-- child, its tree grows by a line.
use Rattle.std.proofs.Common.{◌≡◌, ℕ, suc, ◌+◌, ◌<◌, ◌≤◌, ℤ, List, [], ◌∷◌, ◌++◌, length, get_or, inl, inr, refl, sym, ◌∙◌, subst, arith, length-append, get_or-set_same, get_or-set_other}
use Rattle.std.specs.Prelude.{slice_set, sum_by}
use Rattle.std.proofs.lemmas.Bool.{cases_eq}
use Rattle.std.proofs.lemmas.List.{length-map, length-set, get_or_default}
use Rattle.std.proofs.lemmas.List.Elements.{All-contains}
use Rattle.std.proofs.lemmas.List.Sums.{sum_by-cons, sum_by-set}
use Rattle.route_model.specs.declared.places.Spot.{Spot}
use Rattle.route_model.specs.Parts.{ModelParts}
use Rattle.label_rules.specs.Admitted.{IsElementary}
use Rattle.label_rules.specs.Labels.{Setting}
use Rattle.proof_rules.specs.Counts.{Walk}
use Rattle.proof_rules.specs.Nodes.{tree_at, walks_in}
use Rattle.proof_rules.specs.PrefixLaws.{IsNewStep}
use Rattle.proof_rules.specs.PrefixTrees.{IsTree, Step, node_vertex}
use Rattle.proof_rules.specs.Proofs.{Proof, setting_of, table_at, walk_limit}
use Rattle.proof_rules.proofs.GrowthLemmas.{demanded_step, elementary_step, tree_grows}
use Rattle.proof_rules.proofs.PrefixTreeLemmas.{down_within}
use Rattle.proof_rules.proofs.WalkListLemmas.{partial_walks}
use Rattle.search_rules.specs.Completeness.{AllPartialWalks, IsCutOffList, IsPartialWalk}
use Rattle.search_rules.specs.Laws.{ListWallCutsOffLaw, ListWallPassesLaw}
use Rattle.search_rules.proofs.ProductLemmas.{differ_within}
use Rattle.search_rules.proofs.WalkLemmas.{AreWalksFrom, here, more_from, next, none_from, of_arcs}

pub list_wall_cuts_off : ListWallCutsOffLaw
list_wall_cuts_off m limit spot p z trees wall = record {
  place = wall.place;
  proof = wall.proof;
  both = wall.both;
  count = wall.count;
  each = wall.each;
  lines = wall.lines;
  graph = wall.graph;
  there = wall.there;
  unfinished = wall.unfinished;
}

-- trees of the graphs from one on, and as many different partial walks as they have lines
abbrev AreTreesFrom : ModelParts → Spot → Proof → ℕ → List (List Step) → Type 0
AreTreesFrom m spot p g trees = (k : ℕ) → k < length trees → IsTree (setting_of m spot p (g + k)) (tree_at trees k)

record HasPartials (m : ModelParts) (g : ℕ) (trees : List (List Step)) : Type 0 where
  walks : List Walk
  size : length walks ≡ sum_by length trees
  are : AreWalksFrom (IsPartialWalk m) g walks

has_partials : (m : ModelParts) (spot : Spot) (p : Proof) (g : ℕ) (trees : List (List Step)) → g + length trees ≤ length m.graphs → AreTreesFrom m spot p g trees → HasPartials m g trees
has_partials m spot p g [] few are = record { walks = []; size = refl; are = none_from (IsPartialWalk m) g }
has_partials m spot p g (tree ∷ rest) few are =
    let S : Setting = setting_of m spot p g in
    let is = here (λ (n : ℕ). IsTree (setting_of m spot p n) tree) g (are 0 (omega arith)) in
    let shown = partial_walks S tree is in
    let lists : List (List ℕ) = shown.0 in
    let more = has_partials m spot p (suc g) rest (omega (arith, few)) (λ k l. next (λ (n : ℕ). IsTree (setting_of m spot p n) (tree_at rest k)) g k (are (suc k) (omega (arith, l)))) in
    let both = length-append (walks_in g lists) more.walks in
    let mapped = length-map lists (of_arcs g) in
    let sums = sum_by-cons (length {A = Step}) tree rest in
    let each = All-contains (λ (arcs : List ℕ). (v : ℕ) × IsElementary S arcs v) lists in
    record {
      walks = walks_in g lists ++ more.walks;
      size = omega (arith, both, mapped, sums, shown.1, more.size);
      are = more_from (IsPartialWalk m) g lists more.walks shown.2.differ
          (λ arcs h.
          let at = each arcs shown.2.each h in
          record { there = omega (arith, few); ends = at.0; leads = at.1.leads; passes = at.1.passes })
          more.are;
    }

-- the trees, of which one has grown
module _ (m : ModelParts) (limit : ℕ) (spot : Spot) (p : Proof) (z : ℤ) (trees : List (List Step)) (cut : IsCutOffList m limit spot p z trees) where
  abbrev S : Setting
  S = setting_of m spot p cut.graph

  abbrev tree : List Step
  tree = tree_at trees cut.graph

  abbrev step : Step
  step = record { parent = cut.unfinished.node; arc = cut.unfinished.arc }

  tree_of : (g : ℕ) → g < length m.graphs → IsTree (setting_of m spot p g) (tree_at trees g)
  tree_of g l = (cut.each g l).tree

  is_new : IsNewStep S tree step
  is_new =
      let u = cut.unfinished in
      let is = (tree_of cut.graph cut.there).each u.node u.arcs u.prefix in
      let v : ℕ = node_vertex S tree u.node in
      record {
        from = down_within tree 0 u.arcs u.node (omega arith) u.prefix;
        new = λ h. u.none h.0 (record { within = h.1; is = get_or_default tree h.0 _ step h.1 ∙ h.2 });
        arcs = u.arcs;
        prefix = u.prefix;
        elementary = elementary_step S u.arcs v u.arc is (demanded_step S (table_at p.tables cut.graph).back (walk_limit m spot p z cut.graph) u.arcs v u.arc is u.demanded);
      }

  abbrev grown : List (List Step)
  grown = slice_set trees cut.graph (tree ++ step ∷ [])

  grown_size : length grown ≡ length m.graphs
  grown_size = length-set trees cut.graph (tree ++ step ∷ []) ∙ cut.count

  grown_lines : sum_by length grown ≡ suc limit
  grown_lines =
      let sums = sum_by-set (length {A = Step}) trees cut.graph (tree ++ step ∷ []) [] (omega (arith, cut.there, cut.count)) in
      let line = length-append tree (step ∷ []) in
      omega (arith, sums, line, cut.lines)

  grown_tree : (g : ℕ) → g < length m.graphs → IsTree (setting_of m spot p g) (tree_at grown g)
  grown_tree g l = elim (cases_eq g cut.graph) [
    | inl same ↦
        subst (λ (n : ℕ). IsTree (setting_of m spot p n) (tree_at grown n)) (sym same)
        (subst (IsTree S) (sym (get_or-set_same trees cut.graph (tree ++ step ∷ []) [] (omega (arith, cut.there, cut.count)))) (tree_grows S tree step (tree_of cut.graph cut.there) is_new))
    | inr other ↦ subst (IsTree (setting_of m spot p g)) (sym (get_or-set_other trees cut.graph g (tree ++ step ∷ []) [] other)) (tree_of g l)
  ]

  more_partials : HasPartials m 0 grown
  more_partials =
      has_partials m spot p 0 grown (omega (arith, grown_size)) (λ k l.
      let at : 0 + k ≡ k = omega arith in
      subst (λ (n : ℕ). IsTree (setting_of m spot p n) (tree_at grown k)) (sym at) (grown_tree k (omega (arith, l, grown_size))))

  passes : (partials : List Walk) → AllPartialWalks m partials → limit < length partials
  passes partials all =
      let more = more_partials in
      let few = differ_within more.walks partials more.are.differ (λ i d l. all (get_or more.walks i d) (more.are.each i d l)) in
      omega (arith, few, more.size, grown_lines)

pub list_wall_passes : ListWallPassesLaw
list_wall_passes m limit spot p z trees partials cut all = passes m limit spot p z trees cut partials all
