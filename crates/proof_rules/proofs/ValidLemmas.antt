-- A valid certificate proves its claim.
use Rattle.std.proofs.Common.{◌≡◌, ℕ, zero, suc, ℤ, pos, ◌≤ℤ◌, false, List, [], ◌∷◌, get_or, map, inl, inr, refl, sym, subst, arith}
use Rattle.std.specs.Prelude.{slice_index_or}
use Rattle.std.proofs.Math.ListN.{get_or-map}
use Rattle.std.proofs.lemmas.Int.{ints}
use Rattle.path_graph.specs.declared.parts.GraphArc.{GraphArc}
use Rattle.path_graph.specs.Walk.{GraphParts}
use Rattle.route_model.specs.declared.places.Span.{Span}
use Rattle.route_model.specs.declared.plan.Plan.{Plan}
use Rattle.route_model.specs.Costs.{cost_above_all}
use Rattle.route_model.specs.Fit.{ModelFits}
use Rattle.route_model.specs.Parts.{ModelParts, graph_in, taken_at, var_at}
use Rattle.route_model.specs.Places.{IsInSpan, SolvesAt, is_dropped, path_span, root_place, var_span}
use Rattle.route_model.specs.Quantities.{cost_of, paths_of, value_of}
use Rattle.route_model.specs.Solution.{IsSolution}
use Rattle.route_model.proofs.PlaceLemmas.{split_law}
use Rattle.route_model.proofs.SolutionLemmas.{cost_between}
use Rattle.proof_rules.specs.Grows.{Grows}
use Rattle.proof_rules.specs.Nodes.{AtCounts, AtPlace, Close, CountClose, CountSplit, Fix, ListWalks, Node, Point, SplitAt, node_rules}
use Rattle.proof_rules.specs.TreeOrder.{Forest, Stand, preorder}
use Rattle.proof_rules.specs.ValidLaws.{Has, NodeLaw, OpenLaw, PreorderLaw, SoundLaw, TreeLaw, ValidLaw}
use Rattle.proof_rules.specs.Validity.{Claim, Holds, Infeasible, IsProofTree, Optimal, Supports}
use Rattle.proof_rules.proofs.CountNodeLemmas.{count_close_none, count_parts, point_none}
use Rattle.proof_rules.proofs.FixLemmas.{fix_child}
use Rattle.proof_rules.proofs.GrowsLemmas.{descends_sound, grows_reach, grows_sound}
use Rattle.proof_rules.proofs.ListLemmas.{list_child}
use Rattle.proof_rules.proofs.ProofLemmas.{close_none}
use Rattle.proof_rules.proofs.TreeOrderLemmas.{grown_trees, trees_grow}

-- a plan below z of an item is, by its cost, one of a child
pub node_law : NodeLaw
node_law m z fits (AtPlace spot) (SplitAt split proof) cost node has below = elim (split_law m spot split has.plan node has.solves) [
  | inl low ↦ inl (record { plan = has.plan; solves = low; is = has.is })
  | inr high ↦ inr (inl (record { plan = has.plan; solves = high; is = has.is }))
]
node_law m z fits (AtPlace spot) (Close p) cost node has below =
    let least = close_none m z spot p has.plan fits node.0 node.1 has.solves in
    omega (arith, ints, least, below, has.is)
node_law m z fits (AtPlace spot) (Fix p arcs) cost node has below =
    inl (record { plan = has.plan; solves = fix_child m z spot p arcs has.plan fits node has.solves (omega (arith, ints, below, has.is)); is = has.is })
node_law m z fits (AtPlace spot) (ListWalks p trees) cost node has below =
    inl (list_child m z spot p trees has.plan cost fits node has.solves has.is below)
node_law m z fits (AtPlace spot) (CountSplit i d) cost node has below = node
node_law m z fits (AtPlace spot) (CountClose mult) cost node has below = node
node_law m z fits (AtPlace spot) Point cost node has below = node
node_law m z fits (AtCounts spot walks boxes) (CountSplit i d) cost node has below = elim (count_parts m spot walks boxes i d cost node.walk has) [
  | inl low ↦ inl low
  | inr high ↦ inr (inl high)
]
node_law m z fits (AtCounts spot walks boxes) (CountClose mult) cost node has below =
    let least = count_close_none m z spot walks boxes mult cost fits node has in
    omega (arith, ints, least, below)
node_law m z fits (AtCounts spot walks boxes) Point cost node has below =
    let least = point_none m z spot walks boxes cost node has in
    omega (arith, ints, least, below)
node_law m z fits (AtCounts spot walks boxes) (SplitAt split proof) cost node has below = node
node_law m z fits (AtCounts spot walks boxes) (Close p) cost node has below = node
node_law m z fits (AtCounts spot walks boxes) (Fix p arcs) cost node has below = node
node_law m z fits (AtCounts spot walks boxes) (ListWalks p trees) cost node has below = node

pub sound_law : SoundLaw
sound_law m z fits = descends_sound (node_rules m z) (Has m) z (node_law m z fits)

pub tree_law : TreeLaw
tree_law m z items nodes fits grows = grows_sound (node_rules m z) (Has m) z (sound_law m z fits) items nodes grows

pub open_law : OpenLaw
open_law m z items open_items nodes fits grows cost has below = grows_reach (node_rules m z) (Has m) z (node_law m z fits) items open_items nodes cost grows has below

-- each solution solves the root
no_marks : (m : ModelParts) (g a : ℕ) → is_dropped (root_place m) g a ≡ false
no_marks m g a = at m.graphs g
  where
    none : (arcs : List GraphArc) (k : ℕ) → slice_index_or (map (λ arc. false) arcs) k false ≡ false
    none [] k = refl
    none (arc ∷ arcs) zero = refl
    none (arc ∷ arcs) (suc k) = none arcs k

    at : (graphs : List GraphParts) (k : ℕ) → slice_index_or (slice_index_or (map (λ g. map (λ arc. false) g.arcs) graphs) k []) a false ≡ false
    at [] k = refl
    at (g ∷ graphs) zero = none g.arcs a
    at (g ∷ graphs) (suc k) = at graphs k

pub at_root : (m : ModelParts) (plan : Plan) → ModelFits m → IsSolution m plan → SolvesAt m (root_place m) plan
at_root m plan fits solution = record {
  within = record {
    solution = solution;
    vars = λ j l. subst (λ (box : Span). IsInSpan box (pos (value_of m plan j))) (sym (get_or-map var_span m.vars j (var_at [] j))) (solution.vars j l);
    paths = λ g l.
        subst (λ (box : Span). IsInSpan box (pos (paths_of plan g))) (sym (get_or-map path_span m.graphs g (graph_in [] g)))
        (omega (arith, ints, solution.counts g l), omega (arith, ints, solution.counts g l));
  };
  kept = λ i l k d inside. no_marks m (taken_at plan.paths i).graph (get_or (taken_at plan.paths i).arcs k d);
}

none_below : (m : ModelParts) (z : ℤ) (nodes : List Node) (plan : Plan) → ModelFits m → IsProofTree m z nodes → IsSolution m plan → z ≤ℤ cost_of m plan
none_below m z nodes plan fits tree solution =
    (tree_law m z (AtPlace (root_place m) ∷ []) nodes fits tree).0 (cost_of m plan) (record { plan = plan; solves = at_root m plan fits solution; is = refl })

claim_holds : (m : ModelParts) (nodes : List Node) (claim : Claim) → ModelFits m → Supports m nodes claim → Holds m claim
claim_holds m nodes (Optimal cost plan) fits valid = (
  record {
    solution = valid.solution;
    least = λ other solution. subst (λ (c : ℤ). c ≤ℤ cost_of m other) (sym valid.is) (none_below m cost nodes other fits valid.tree solution);
  },
  valid.is,
)
claim_holds m nodes Infeasible fits valid = λ plan solution.
    let above = none_below m (cost_above_all m) nodes plan fits valid solution in
    let below = (cost_between m plan fits solution).1 in
    omega (arith, ints, above, below)

pub valid_law : ValidLaw
valid_law m c fits valid = claim_holds m c.nodes c.claim fits valid

-- nodes that leave nothing open are those of ordinary trees
pub preorder_law : PreorderLaw
preorder_law m z items nodes = (
  λ grows. grown_trees (node_rules m z) items nodes grows,
  λ (h : (trees : Forest Node) × (preorder trees ≡ nodes) × Stand (node_rules m z) items trees).
      subst (λ (ns : List Node). Grows (node_rules m z) items ns []) h.1 (trees_grow (node_rules m z) items h.0 h.2),
)
