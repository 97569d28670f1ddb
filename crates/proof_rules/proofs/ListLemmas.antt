-- A node that lists walks: a solution below z is, by its quantities, one of counts over the listed walks.
use Rattle.std.proofs.Common.{◌≡◌, ℕ, zero, suc, ◌+◌, ◌<◌, ◌≤◌, ℤ, pos, ◌*ℤ◌, ◌≤ℤ◌, ◌<ℤ◌, Bool, true, false, ◌||◌, List, [], ◌∷◌, length, get_or, map, All, refl, sym, ◌∙◌, ap, subst, arith}
use Rattle.std.specs.Prelude.{Contains}
use Rattle.std.proofs.lemmas.Bool.Decides.{nat_tests}
use Rattle.std.proofs.lemmas.Int.{ints}
use Rattle.std.proofs.lemmas.List.{length-map, get_or-map, get_or_default}
use Rattle.std.proofs.lemmas.List.Elements.{All-append, All-contains, All-map, All-nil, Contains-append_left, Contains-append_right, Contains-get_or}
use Rattle.path_graph.specs.First.{EachBelow}
use Rattle.path_graph.specs.Sums.{sum_below}
use Rattle.path_graph.specs.Walk.{IsFeasibleWalk}
use Rattle.route_model.specs.declared.places.Span.{Span}
use Rattle.route_model.specs.declared.places.Spot.{Spot}
use Rattle.route_model.specs.declared.plan.Plan.{Plan}
use Rattle.route_model.specs.declared.plan.Taken.{Taken}
use Rattle.route_model.specs.Fit.{ModelFits}
use Rattle.route_model.specs.Parts.{ModelParts, graph_in, row_at, taken_at, term_at, var_at}
use Rattle.route_model.specs.Places.{IsInSpan, SolvesAt, UsesNone, is_dropped, span_at}
use Rattle.route_model.specs.Quantities.{cost_of, is_of, quantity, row_sum, uses_in, visits_in}
use Rattle.route_model.specs.Solution.{IsBetween, IsPath}
use Rattle.multipliers.specs.Quantities.{plan_sum}
use Rattle.multipliers.proofs.PlanSumLemmas.{plan_sum-pos}
use Rattle.label_rules.specs.Admitted.{AreOpen, IsElementary}
use Rattle.label_rules.specs.Labels.{Setting}
use Rattle.proof_rules.specs.Counts.{AreCounts, Walk, plan_of, walk_at, walk_of}
use Rattle.proof_rules.specs.Nodes.{IsList, first_box, first_boxes, listed_walks, tree_at, walks_from, walks_in}
use Rattle.proof_rules.specs.PrefixTrees.{Step, walks_of}
use Rattle.proof_rules.specs.Proofs.{Proof, setting_of, table_at, walk_limit}
use Rattle.proof_rules.specs.ValidLaws.{AreInBoxes, HasAtCounts}
use Rattle.proof_rules.proofs.CompleteLemmas.{listed}
use Rattle.proof_rules.proofs.CountLemmas.{count_most_law, counts_law, plan_of_law}
use Rattle.proof_rules.proofs.CountNodeLemmas.{plan_sums}
use Rattle.proof_rules.proofs.PlaceLemmas.{setting_fits, walk_elementary}
use Rattle.proof_rules.proofs.ProofLemmas.{both_covers, limit_law}
use Rattle.proof_rules.proofs.WalkListLemmas.{walks_listed, contains_more}

-- an item of a mapped list
contains_map : {A B : Type 0} (f : A → B) (xs : List A) (x : A) → Contains xs x → Contains (map f xs) (f x)
contains_map {A} {B} f xs x h = at xs h.0 h.1 h.2
  where
    at : (ys : List A) (k : ℕ) → k < length ys → get_or ys k x ≡ x → Contains (map f ys) (f x)
    at [] k l e = absurd (omega (arith, l))
    at (y ∷ ys) zero l e = (0, omega arith, ap f e)
    at (y ∷ ys) (suc k) l e = contains_more (f y) (map f ys) (f x) (at ys k (omega (arith, l)) e)

-- the walks of trees side by side
abbrev of_arcs : ℕ → List ℕ → Walk
of_arcs g arcs = record { graph = g; arcs = arcs }

-- a walk of the tree of a graph
abbrev IsIn : ModelParts → Spot → Proof → ℕ → List Step → List ℕ → Type 0
IsIn m spot p g tree arcs = Contains (walks_of (setting_of m spot p g) tree) arcs

contained : (m : ModelParts) (spot : Spot) (p : Proof) (g k : ℕ) (trees : List (List Step)) (arcs : List ℕ) → k < length trees → IsIn m spot p (g + k) (tree_at trees k) arcs → Contains (walks_from m spot p g trees) (of_arcs (g + k) arcs)
contained m spot p g k [] arcs below h = absurd (omega (arith, below))
contained m spot p g zero (tree ∷ rest) arcs below h =
    let here : g + 0 ≡ g = omega arith in
    subst (λ (n : ℕ). Contains (walks_from m spot p g (tree ∷ rest)) (of_arcs n arcs)) (sym here)
    (Contains-append_left (walks_in g (walks_of (setting_of m spot p g) tree)) (walks_from m spot p (suc g) rest) (of_arcs g arcs)
    (contains_map (of_arcs g) (walks_of (setting_of m spot p g) tree) arcs (subst (λ (n : ℕ). IsIn m spot p n tree arcs) here h)))
contained m spot p g (suc k) (tree ∷ rest) arcs below h =
    let next : suc g + k ≡ g + suc k = omega arith in
    subst (λ (n : ℕ). Contains (walks_from m spot p g (tree ∷ rest)) (of_arcs n arcs)) next
    (Contains-append_right (walks_in g (walks_of (setting_of m spot p g) tree)) (walks_from m spot p (suc g) rest) (of_arcs (suc g + k) arcs)
    (contained m spot p (suc g) k rest arcs (omega (arith, below)) (subst (λ (n : ℕ). IsIn m spot p n (tree_at rest k) arcs) (sym next) h)))

all_from : (m : ModelParts) (spot : Spot) (p : Proof) (P : Walk → Type 0) (g : ℕ) (trees : List (List Step)) → ((k : ℕ) (arcs : List ℕ) → k < length trees → IsIn m spot p (g + k) (tree_at trees k) arcs → P (of_arcs (g + k) arcs))
    → All P (walks_from m spot p g trees)
all_from m spot p P g [] each = All-nil P
all_from m spot p P g (tree ∷ rest) each =
    let here : g + 0 ≡ g = omega arith in
    let first : (arcs : List ℕ) → IsIn m spot p g tree arcs → P (of_arcs g arcs) =
    subst (λ (n : ℕ). (arcs : List ℕ) → IsIn m spot p n tree arcs → P (of_arcs n arcs)) here (λ arcs h. each 0 arcs (omega arith) h) in
    All-append P (walks_in g (walks_of (setting_of m spot p g) tree)) (walks_from m spot p (suc g) rest)
    (All-map P (of_arcs g) (walks_of (setting_of m spot p g) tree) (λ k d l. first (get_or (walks_of (setting_of m spot p g) tree) k d) (Contains-get_or (walks_of (setting_of m spot p g) tree) k d l)))
    (all_from m spot p P (suc g) rest (λ k arcs l h.
    let next : g + suc k ≡ suc g + k = omega arith in
    subst (λ (n : ℕ). IsIn m spot p n (tree_at rest k) arcs → P (of_arcs n arcs)) next (each (suc k) arcs (omega (arith, l))) h))

-- listed walks are walks of the model, over arcs that are not dropped
record IsWalkAt (m : ModelParts) (spot : Spot) (w : Walk) : Type 0 where
  pub graph : w.graph < length m.graphs
  pub walk : IsFeasibleWalk (graph_in m.graphs w.graph) w.arcs
  pub kept : All (λ a. is_dropped spot w.graph a ≡ false) w.arcs

open_kept : (m : ModelParts) (spot : Spot) (p : Proof) (g : ℕ) (arcs : List ℕ) → AreOpen (setting_of m spot p g) arcs → All (λ a. is_dropped spot g a ≡ false) arcs
open_kept m spot p g [] are k d l = absurd (omega (arith, l))
open_kept m spot p g (a ∷ arcs) are zero d l = first (is_dropped spot g a) _ are.0
  where
    first : (b c : Bool) → (b || c) ≡ false → b ≡ false
    first true c h = h
    first false c h = refl
open_kept m spot p g (a ∷ arcs) are (suc k) d l = open_kept m spot p g arcs are.1 k d (omega (arith, l))

tree_walk_is : (m : ModelParts) (z : ℤ) (spot : Spot) (p : Proof) (trees : List (List Step)) (g : ℕ) (arcs : List ℕ) → IsList m z spot p trees → g < length m.graphs → IsIn m spot p g (tree_at trees g) arcs → IsWalkAt m spot (of_arcs g arcs)
tree_walk_is m z spot p trees g arcs list inside h =
    let tree = (list.each g inside).tree in
    let at = (walks_listed (setting_of m spot p g) (tree_at trees g) arcs tree).0 h in
    let is : IsElementary (setting_of m spot p g) arcs (graph_in m.graphs g).ends.sink = subst (IsElementary (setting_of m spot p g) arcs) at.at_sink (tree.each at.node arcs at.prefix) in
    record { graph = inside; walk = record { walk = is.leads; passes = is.passes }; kept = open_kept m spot p g arcs is.open_arcs }

listed_are : (m : ModelParts) (z : ℤ) (spot : Spot) (p : Proof) (trees : List (List Step)) → IsList m z spot p trees → All (IsWalkAt m spot) (listed_walks m spot p trees)
listed_are m z spot p trees list =
    all_from m spot p (IsWalkAt m spot) 0 trees (λ k arcs l h.
    let same : k ≡ 0 + k = omega arith in
    subst (λ (n : ℕ). IsIn m spot p n (tree_at trees k) arcs → IsWalkAt m spot (of_arcs n arcs)) same (tree_walk_is m z spot p trees k arcs list (omega (arith, l, list.count))) h)

-- plans with the same amounts of everything
abbrev HaveSame : Plan → Plan → Type 0
HaveSame plan other = (f : ℕ → List ℕ → ℤ) → plan_sum f other ≡ plan_sum f plan

same_quantity : (plan other : Plan) → HaveSame plan other → (f : ℕ → List ℕ → ℕ) → quantity f other ≡ quantity f plan
same_quantity plan other same f =
    let both : pos (quantity f other) ≡ pos (quantity f plan) = sym (plan_sum-pos f other) ∙ (same (λ g arcs. pos (f g arcs)) ∙ plan_sum-pos f plan) in
    omega (arith, ints, both)

same_cost : (m : ModelParts) (plan other : Plan) → HaveSame plan other → cost_of m other ≡ cost_of m plan
same_cost m plan other same = λ i. sum_below (length m.vars) (λ j. (var_at m.vars j).cost *ℤ pos (same_quantity plan other same (uses_in m.maps j) i))

same_row : (m : ModelParts) (plan other : Plan) (r : ℕ) → HaveSame plan other → row_sum m other (row_at m.rows r).terms ≡ row_sum m plan (row_at m.rows r).terms
same_row m plan other r same =
    λ i. sum_below (length (row_at m.rows r).terms) (λ k. (term_at (row_at m.rows r).terms k).coef *ℤ pos (same_quantity plan other same (uses_in m.maps (term_at (row_at m.rows r).terms k).var) i))

-- so one of such walks solves the place where the other does
same_solves : (m : ModelParts) (spot : Spot) (plan other : Plan) → SolvesAt m spot plan → HaveSame plan other → EachBelow (length other.paths) (λ i. IsPath m (taken_at other.paths i))
    → UsesNone (is_dropped spot) other → SolvesAt m spot other
same_solves m spot plan other solves same paths kept =
    let quantities = λ (f : ℕ → List ℕ → ℕ). sym (same_quantity plan other same f) in
    let solution = solves.within.solution in
    record {
      within = record {
        solution = record {
          paths = paths;
          counts = λ g l. subst (λ (n : ℕ). ((graph_in m.graphs g).ends.low ≤ n) × (n ≤ (graph_in m.graphs g).ends.high)) (quantities (is_of g)) (solution.counts g l);
          sets = λ k l. subst (λ (n : ℕ). n ≤ 1) (quantities (visits_in m.graphs k)) (solution.sets k l);
          vars = λ j l. subst (λ (n : ℕ). ((var_at m.vars j).low ≤ℤ pos n) × (pos n ≤ℤ (var_at m.vars j).high)) (quantities (uses_in m.maps j)) (solution.vars j l);
          rows = λ i l. subst (λ (x : ℤ). IsBetween (row_at m.rows i).low (row_at m.rows i).high x) (sym (same_row m plan other i same)) (solution.rows i l);
        };
        vars = λ j l. subst (λ (n : ℕ). IsInSpan (span_at spot.boxes.vars j) (pos n)) (quantities (uses_in m.maps j)) (solves.within.vars j l);
        paths = λ g l. subst (λ (n : ℕ). IsInSpan (span_at spot.boxes.paths g) (pos n)) (quantities (is_of g)) (solves.within.paths g l);
      };
      kept = kept;
    }

-- each walk of a plan below z is listed
walk_in_list : (m : ModelParts) (z : ℤ) (spot : Spot) (p : Proof) (trees : List (List Step)) (plan : Plan) (i : ℕ) → ModelFits m → IsList m z spot p trees → SolvesAt m spot plan → cost_of m plan <ℤ z → i < length plan.paths
    → Contains (listed_walks m spot p trees) (walk_of (taken_at plan.paths i))
walk_in_list m z spot p trees plan i fits list solves cheap below =
    let g : ℕ = (taken_at plan.paths i).graph in
    let arcs : List ℕ = (taken_at plan.paths i).arcs in
    let inside = (solves.within.solution.paths i below).graph in
    let complete = list.each g inside in
    let S : Setting = setting_of m spot p g in
    let at =
    listed S (table_at p.tables g).back (walk_limit m spot p z g) (tree_at trees g) arcs (setting_fits m spot p.near p.cuts p.mult g fits inside list.proof.cuts_fit) (both_covers m spot p g list.proof list.both inside).rests complete
    (walk_elementary m spot p.near p.cuts p.mult plan i fits solves below) (limit_law m spot p z plan i fits list.proof solves cheap below) in
    let has = (walks_listed S (tree_at trees g) arcs complete.tree).1 at in
    let same : g ≡ 0 + g = omega arith in
    let there = contained m spot p 0 g trees arcs (omega (arith, inside, list.count)) (subst (λ (n : ℕ). IsIn m spot p n (tree_at trees g) arcs) same has) in
    subst (λ (n : ℕ). Contains (listed_walks m spot p trees) (of_arcs n arcs)) (sym same) there

-- the counts of a plan lie in the first boxes
is_of-low : (h g : ℕ) (arcs : List ℕ) → pos 0 ≤ℤ pos (is_of h g arcs)
is_of-low h g arcs = omega (arith, ints)

is_of-own : (g : ℕ) (arcs : List ℕ) → is_of g g arcs ≡ 1
is_of-own g arcs = grind (arith, nat_tests)

counts_inside : (m : ModelParts) (spot : Spot) (walks : List Walk) (plan : Plan) (counts : List ℕ) → SolvesAt m spot plan → All (IsWalkAt m spot) walks → AreCounts walks plan counts → AreInBoxes (first_boxes spot walks) counts
counts_inside m spot walks plan counts solves are is = record {
  size = is.size ∙ sym (length-map walks (first_box spot));
  each = λ i l.
      let there : i < length walks = omega (arith, l, length-map walks (first_box spot)) in
      let w : Walk = walk_at walks i in
      let own = is_of-own w.graph w.arcs in
      let few = count_most_law walks counts i (λ g arcs. pos (is_of w.graph g arcs)) (is_of-low w.graph) is.size there (omega (arith, ints, own)) in
      let all = is.same (λ g arcs. pos (is_of w.graph g arcs)) ∙ plan_sum-pos (is_of w.graph) plan in
      let inside = solves.within.paths w.graph (are i _ there).graph in
      subst (λ (box : Span). IsInSpan box (pos (get_or counts i 0))) (sym (get_or-map (first_box spot) walks i (of_arcs 0 []) _ there))
      (omega (arith, ints), omega (arith, ints, few, all, inside.1));
}

-- the plan of counts
plan_paths : (m : ModelParts) (spot : Spot) (walks : List Walk) (counts : List ℕ) → All (IsWalkAt m spot) walks
    → All (λ (t : Taken). IsPath m t × All (λ a. is_dropped spot t.graph a ≡ false) t.arcs) (plan_of walks counts).paths
plan_paths m spot walks counts are k d l =
    let is = plan_of_law walks counts in
    let t : Taken = get_or (plan_of walks counts).paths k d in
    let w = All-contains (IsWalkAt m spot) walks (walk_of t) are (is.among k d l) in
    (record { graph = w.graph; count = is.some k d l; walk = w.walk }, w.kept)

pub list_child : (m : ModelParts) (z : ℤ) (spot : Spot) (p : Proof) (trees : List (List Step)) (plan : Plan) (cost : ℤ) → ModelFits m → IsList m z spot p trees → SolvesAt m spot plan → cost_of m plan ≡ cost → cost <ℤ z
    → HasAtCounts m spot (listed_walks m spot p trees) (first_boxes spot (listed_walks m spot p trees)) cost
list_child m z spot p trees plan cost fits list solves is below =
    let walks : List Walk = listed_walks m spot p trees in
    let cheap : cost_of m plan <ℤ z = omega (arith, ints, is, below) in
    let are = listed_are m z spot p trees list in
    let found = counts_law walks plan (λ k d l. subst (λ (t : Taken). Contains walks (walk_of t)) (get_or_default plan.paths k (taken_at [] k) d l) (walk_in_list m z spot p trees plan k fits list solves cheap l)) in
    let counts : List ℕ = found.0 in
    let same : HaveSame plan (plan_of walks counts) = λ f. plan_sums f walks counts ∙ found.1.same f in
    let paths = plan_paths m spot walks counts are in
    record {
      counts = counts;
      size = found.1.size;
      inside = counts_inside m spot walks plan counts solves are found.1;
      solves = same_solves m spot plan (plan_of walks counts) solves same (λ i l. (paths i (record { graph = 0; count = 0; arcs = [] }) l).0) (λ i l. (paths i (record { graph = 0; count = 0; arcs = [] }) l).1);
      is = same_cost m plan (plan_of walks counts) same ∙ is;
    }
