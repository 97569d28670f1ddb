-- The place at the root: it is one of the model, and its solutions are those of the model.
use Rattle.std.proofs.Common.{◌≡◌, ℕ, ◌+◌, ◌<◌, pos, ◌≤ℤ◌, Bool, false, List, [], ◌∷◌, ◌++◌, length, map, take, get_or, sym, ◌∙◌, ap, subst, arith}
use Rattle.std.specs.Prelude.{◌↔◌}
use Rattle.std.proofs.lemmas.Int.{ints}
use Rattle.std.proofs.lemmas.List.{take_more, map-append, length-map}
use Rattle.std.proofs.Math.ListN.{get_or-map}
use Rattle.path_graph.specs.declared.parts.GraphArc.{GraphArc}
use Rattle.path_graph.specs.Walk.{GraphParts, arc_at}
use Rattle.route_model.specs.declared.parts.Var.{Var}
use Rattle.route_model.specs.declared.places.Span.{Span}
use Rattle.route_model.specs.declared.plan.Plan.{Plan}
use Rattle.route_model.specs.Fit.{ModelFits}
use Rattle.route_model.specs.Parts.{ModelParts, graph_in, taken_at, var_at}
use Rattle.route_model.specs.Places.{IsInSpan, IsPartOf, SolvesAt, SpotFits, is_dropped, marks_of, path_span, root_place, span_at, var_span}
use Rattle.route_model.specs.Quantities.{paths_of, value_of}
use Rattle.route_model.specs.Solution.{IsSolution}

-- one mark more
pub marks_more : {X : Type 0} (xs : List X) (k : ℕ) (items new : List Bool) → k < length xs → items ≡ map (λ (x : X). false) (take k xs) → new ≡ items ++ false ∷ [] → new ≡ map (λ (x : X). false) (take (k + 1) xs)
marks_more [] k items new below before push = absurd (omega (arith, below))
marks_more {X} (x ∷ xs) k items new below before push =
    push
    ∙ (ap (λ (marks : List Bool). marks ++ false ∷ []) before
    ∙ sym (ap (map (λ (y : X). false)) (take_more (x ∷ xs) k x below) ∙ map-append (λ (y : X). false) (take k (x ∷ xs)) (get_or (x ∷ xs) k x ∷ [])))

-- the boxes and marks of the root by number
var_box : (m : ModelParts) (j : ℕ) → span_at (root_place m).boxes.vars j ≡ var_span (var_at m.vars j)
var_box m j = get_or-map var_span m.vars j (var_at [] 0)

path_box : (m : ModelParts) (g : ℕ) → span_at (root_place m).boxes.paths g ≡ path_span (graph_in m.graphs g)
path_box m g = get_or-map path_span m.graphs g (graph_in [] 0)

marks_are : (m : ModelParts) (g : ℕ) → marks_of (root_place m).fixed g ≡ map (λ (arc : GraphArc). false) (graph_in m.graphs g).arcs
marks_are m g = get_or-map (λ (graph : GraphParts). map (λ (arc : GraphArc). false) graph.arcs) m.graphs g (graph_in [] 0)

none_dropped : (m : ModelParts) (g a : ℕ) → is_dropped (root_place m) g a ≡ false
none_dropped m g a = ap (λ (marks : List Bool). get_or marks a false) (marks_are m g) ∙ get_or-map (λ (arc : GraphArc). false) (graph_in m.graphs g).arcs a (arc_at [] 0)

-- a box is part of itself
whole_part : (span : Span) → span.low ≤ℤ span.high → IsPartOf span span
whole_part span order = (omega (arith, ints), order, omega (arith, ints))

pub root_fits : (m : ModelParts) → ModelFits m → SpotFits m (root_place m)
root_fits m fits = record {
  boxes = record {
    vars = length-map m.vars var_span;
    paths = length-map m.graphs path_span;
    each_var = λ j l. subst (IsPartOf (var_span (var_at m.vars j))) (sym (var_box m j)) (whole_part (var_span (var_at m.vars j)) (fits.vars.each j (var_at [] 0) l).sides);
    each_path = λ g l. subst (IsPartOf (path_span (graph_in m.graphs g))) (sym (path_box m g))
        (whole_part (path_span (graph_in m.graphs g)) (omega (arith, ints, (fits.graphs.each g (graph_in [] 0) l).graph.fits.ends_fit.paths)));
  };
  marks = record {
    graphs = length-map m.graphs (λ (graph : GraphParts). map (λ (arc : GraphArc). false) graph.arcs);
    arcs = λ g l. ap length (marks_are m g) ∙ length-map (graph_in m.graphs g).arcs (λ (arc : GraphArc). false);
  };
}

solves_root : (m : ModelParts) (plan : Plan) → IsSolution m plan → SolvesAt m (root_place m) plan
solves_root m plan solution = record {
  within = record {
    solution = solution;
    vars = λ j l. subst (λ (span : Span). IsInSpan span (pos (value_of m plan j))) (sym (var_box m j)) (solution.vars j l);
    paths = λ g l. subst (λ (span : Span). IsInSpan span (pos (paths_of plan g))) (sym (path_box m g)) (let fits = solution.counts g l in (omega (arith, ints, fits.0), omega (arith, ints, fits.1)));
  };
  kept = λ i l k d inside. none_dropped m (taken_at plan.paths i).graph (get_or (taken_at plan.paths i).arcs k d);
}

pub root_solutions : (m : ModelParts) (plan : Plan) → SolvesAt m (root_place m) plan ↔ IsSolution m plan
root_solutions m plan = (λ solves. solves.within.solution, solves_root m plan)

-- the place as code makes it
pub root_made : (m : ModelParts) (vars_of : List Var) (graphs graphs_of : List GraphParts) (vars paths : List Span) (fixed : List (List Bool)) → vars_of ≡ m.vars → graphs ≡ m.graphs → graphs_of ≡ m.graphs
    → vars ≡ map var_span vars_of → paths ≡ map path_span graphs → fixed ≡ map (λ (g : GraphParts). map (λ (arc : GraphArc). false) g.arcs) graphs_of
    → root_place m ≡ record { boxes = record { vars = vars; paths = paths }; fixed = fixed }
root_made m vars_of graphs graphs_of vars paths fixed is_vars is_graphs is_graphs_of made_vars made_paths made_fixed =
    let v : vars ≡ map var_span m.vars = made_vars ∙ ap (map var_span) is_vars in
    let p : paths ≡ map path_span m.graphs = made_paths ∙ ap (map path_span) is_graphs in
    let f : fixed ≡ map (λ (g : GraphParts). map (λ (arc : GraphArc). false) g.arcs) m.graphs = made_fixed ∙ ap (map (λ (g : GraphParts). map (λ (arc : GraphArc). false) g.arcs)) is_graphs_of in
    λ i. record { boxes = record { vars = sym v i; paths = sym p i }; fixed = sym f i }
