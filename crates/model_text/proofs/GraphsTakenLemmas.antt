-- The lines of all graphs of a model are read as these.
use Rattle.std.proofs.Common.{◌≡◌, ℕ, ◌+◌, ◌≤◌, ◌<◌, true, List, [], ◌∷◌, ◌++◌, length, map, refl, ap, subst, sym, ◌∙◌, arith, append_assoc}
use Rattle.std.specs.Prelude.{All, sum_by}
use Rattle.std.specs.List.{flat_map, zip}
use Rattle.std.specs.Map.{keys_of, values_of}
use Rattle.std.proofs.lemmas.List.{length-append, append-nil}
use Rattle.std.proofs.lemmas.List.Elements.{All-head, All-tail}
use Rattle.std.proofs.lemmas.List.Sums.{sum_by_push, sum_by-cons}
use Rattle.std.proofs.lemmas.Slice.Zip.{length-zip}
use Rattle.std.proofs.lemmas.Map.Made.{keys_of-zip}
use Rattle.path_graph.specs.Walk.{GraphParts}
use Rattle.path_graph.specs.Fit.{ArcFits}
use Rattle.route_model.specs.Fit.{GraphFits, GraphMapsFit, MapFits}
use Rattle.model_text.specs.declared.draft.Stage.{Stage}
use Rattle.model_text.specs.declared.draft.Stage.TheVariants.{Variables, Rows, Sets, Arcs}
use Rattle.model_text.specs.declared.draft.Section.{Section}
use Rattle.model_text.specs.declared.draft.Draft.{Draft}
use Rattle.model_text.specs.declared.line_kind.LineKind.TheVariants as line
use Rattle.model_text.specs.Draft.{sections_of, graph_of}
use Rattle.model_text.specs.LineKinds.{may_stand}
use Rattle.model_text.specs.ModelLines.{graph_lines}
use Rattle.model_text.specs.Totals.{path_total, arc_total}
use Rattle.model_text.proofs.ItemLemmas.{All-zip}
use Rattle.model_text.proofs.LineTakenLemmas.{Goes, goes_on, stays}
use Rattle.model_text.proofs.GraphLineTakenLemmas.{section_of, stage_whole, graph_begins, vertices_go, arcs_go, with_arcs}

pub values_of-zip : {K X : Type 0} (ks : List K) (xs : List X) → length xs ≡ length ks → values_of (zip ks xs) ≡ xs
values_of-zip [] [] same = refl
values_of-zip [] (x ∷ xs) same = absurd (omega (arith, same))
values_of-zip (k ∷ ks) [] same = absurd (omega (arith, same))
values_of-zip (k ∷ ks) (x ∷ xs) same = ap (λ ys. x ∷ ys) (values_of-zip ks xs (omega (arith, same)))

-- a graph with the variables of its arcs
abbrev pub Pair : Type 0
Pair = GraphParts × List (List ℕ)

abbrev pub whole_section : Pair → Section
whole_section p = section_of p.0 p.0.vertices p.0.arcs p.1

abbrev pub with_graph : Draft → Pair → Draft
with_graph d p = record d { stage = Arcs; done = sections_of d; current = whole_section p }

-- what a graph must keep beside those before it
pub record GraphRoom (d : Draft) (p : Pair) : Type 0 where
  pub graphs : length (sections_of d) < 64
  pub paths : path_total (sections_of d) + p.0.ends.high ≤ 4096
  pub arcs : arc_total (sections_of d) + length p.0.arcs ≤ 100000

abbrev pub PairFits : ℕ → ℕ → Pair → Type 0
PairFits vars sets p = GraphFits sets p.0 × GraphMapsFit vars p.0 p.1

arcs_fit : (vars sets : ℕ) (p : Pair) → PairFits vars sets p → All (λ q. ArcFits p.0.ends (length p.0.vertices) q.0 × MapFits vars q.1) (zip p.0.arcs p.1)
arcs_fit vars sets p fit =
    All-zip (λ q. ArcFits p.0.ends (length p.0.vertices) q.0 × MapFits vars q.1) p.0.arcs p.1 (λ k x y left right.
    (fit.0.graph.fits.each_arc k x left, fit.1.each k y right))

graph_goes : (d : Draft) (p : Pair) → may_stand line.Graph d.stage ≡ true → length d.vars ≤ 30000 → d.sets ≤ 512 → PairFits (length d.vars) d.sets p → GraphRoom d p → Goes d (graph_lines p.0 p.1) (with_graph d p)
graph_goes d p stands few_vars few_sets fit room =
    let parts = fit.0.graph.fits in
    let e : Draft = record d { done = sections_of d } in
    let same = fit.1.arcs in
    let size : length (zip p.0.arcs p.1) ≡ length p.0.arcs = omega (arith, same, length-zip p.0.arcs p.1) in
    let few_arcs = parts.few_arcs in
    let in_all = room.arcs in
    let begins = graph_begins d p.0 stands room.graphs parts room.paths in
    let vertices = vertices_go e p.0 few_sets fit.0 in
    let arcs = arcs_go e p.0 (zip p.0.arcs p.1) few_vars parts (omega (arith, size, few_arcs)) (omega (arith, size, in_all)) (arcs_fit (length d.vars) d.sets p fit) in
    let keys = keys_of-zip p.0.arcs p.1 same in
    let values = values_of-zip p.0.arcs p.1 same in
    let whole = stage_whole (whole_section p) refl in
    let end : with_arcs e p.0 (zip p.0.arcs p.1) ≡ with_graph d p = rw (keys, values) (ap (λ (s : Stage). record e { stage = s; current = whole_section p }) whole) in
    subst (λ (x : Draft). Goes d (graph_lines p.0 p.1) x) end (goes_on (goes_on begins vertices) arcs)

-- all graphs
abbrev pub with_graphs : Draft → List Pair → Draft
with_graphs d [] = d
with_graphs d (p ∷ ps) = with_graphs (with_graph d p) ps

pub record GraphsRoom (d : Draft) (ps : List Pair) : Type 0 where
  pub graphs : length (sections_of d) + length ps ≤ 64
  pub paths : path_total (sections_of d) + sum_by (λ p. p.0.ends.high) ps ≤ 4096
  pub arcs : arc_total (sections_of d) + sum_by (λ p. length p.0.arcs) ps ≤ 100000

room_of_first : (d : Draft) (p : Pair) (ps : List Pair) → GraphsRoom d (p ∷ ps) → GraphRoom d p
room_of_first d p ps room =
    let graphs = room.graphs in
    let paths = room.paths in
    let arcs = room.arcs in
    let path_sum : sum_by (λ (q : Pair). q.0.ends.high) (p ∷ ps) ≡ p.0.ends.high + sum_by (λ (q : Pair). q.0.ends.high) ps = sum_by-cons (λ (q : Pair). q.0.ends.high) p ps in
    let arc_sum : sum_by (λ (q : Pair). length q.0.arcs) (p ∷ ps) ≡ length p.0.arcs + sum_by (λ (q : Pair). length q.0.arcs) ps = sum_by-cons (λ (q : Pair). length q.0.arcs) p ps in
    record {
      graphs = omega (arith, graphs);
      paths = omega (arith, paths, path_sum);
      arcs = omega (arith, arcs, arc_sum);
    }

room_of_others : (d : Draft) (p : Pair) (ps : List Pair) → GraphsRoom d (p ∷ ps) → GraphsRoom (with_graph d p) ps
room_of_others d p ps room =
    let s : Section = whole_section p in
    let graphs = room.graphs in
    let paths = room.paths in
    let arcs = room.arcs in
    let path_sum : sum_by (λ (q : Pair). q.0.ends.high) (p ∷ ps) ≡ p.0.ends.high + sum_by (λ (q : Pair). q.0.ends.high) ps = sum_by-cons (λ (q : Pair). q.0.ends.high) p ps in
    let arc_sum : sum_by (λ (q : Pair). length q.0.arcs) (p ∷ ps) ≡ length p.0.arcs + sum_by (λ (q : Pair). length q.0.arcs) ps = sum_by-cons (λ (q : Pair). length q.0.arcs) p ps in
    let size = length-append (sections_of d) (s ∷ []) in
    let more_paths : path_total (sections_of d ++ s ∷ []) ≡ path_total (sections_of d) + s.ends.high = sum_by_push (λ (t : Section). t.ends.high) (sections_of d) s in
    let more_arcs : arc_total (sections_of d ++ s ∷ []) ≡ arc_total (sections_of d) + length s.arcs = sum_by_push (λ (t : Section). length t.arcs) (sections_of d) s in
    record {
      graphs = omega (arith, graphs, size);
      paths = omega (arith, paths, path_sum, more_paths);
      arcs = omega (arith, arcs, arc_sum, more_arcs);
    }

pub graphs_go : (d : Draft) (ps : List Pair) → may_stand line.Graph d.stage ≡ true → length d.vars ≤ 30000 → d.sets ≤ 512 → All (PairFits (length d.vars) d.sets) ps → GraphsRoom d ps → Goes d (flat_map (λ p. graph_lines p.0 p.1) ps) (with_graphs d ps)
graphs_go d [] stands few_vars few_sets fit room = stays d
graphs_go d (p ∷ ps) stands few_vars few_sets fit room =
    let P : Pair → Type 0 = PairFits (length d.vars) d.sets in
    goes_on (graph_goes d p stands few_vars few_sets (All-head P p ps fit) (room_of_first d p ps room))
    (graphs_go (with_graph d p) ps refl few_vars few_sets (All-tail P p ps fit) (room_of_others d p ps room))

-- what the draft tells then
pub with_graphs-vars : (d : Draft) (ps : List Pair) → (with_graphs d ps).vars ≡ d.vars
with_graphs-vars d [] = refl
with_graphs-vars d (p ∷ ps) = with_graphs-vars (with_graph d p) ps

pub with_graphs-rows : (d : Draft) (ps : List Pair) → (with_graphs d ps).rows ≡ d.rows
with_graphs-rows d [] = refl
with_graphs-rows d (p ∷ ps) = with_graphs-rows (with_graph d p) ps

pub with_graphs-sets : (d : Draft) (ps : List Pair) → (with_graphs d ps).sets ≡ d.sets
with_graphs-sets d [] = refl
with_graphs-sets d (p ∷ ps) = with_graphs-sets (with_graph d p) ps

pub with_graphs-sections : (d : Draft) (ps : List Pair) → sections_of (with_graphs d ps) ≡ sections_of d ++ map whole_section ps
with_graphs-sections d [] = sym (append-nil (sections_of d))
with_graphs-sections d (p ∷ ps) =
    with_graphs-sections (with_graph d p) ps ∙ append_assoc (sections_of d) (whole_section p ∷ []) (map whole_section ps)

end_stands : (stage : Stage) → may_stand line.Graph stage ≡ true → may_stand line.End stage ≡ true
end_stands Variables h = refl
end_stands Rows h = refl
end_stands Sets h = refl
end_stands Arcs h = refl
end_stands _ h = cc

pub with_graphs-stage : (d : Draft) (ps : List Pair) → may_stand line.Graph d.stage ≡ true → may_stand line.End (with_graphs d ps).stage ≡ true
with_graphs-stage d [] stands = end_stands d.stage stands
with_graphs-stage d (p ∷ ps) stands = with_graphs-stage (with_graph d p) ps refl

-- the graphs and the variables of their arcs
pub graphs_of_sections : (ps : List Pair) → map graph_of (map whole_section ps) ≡ keys_of ps
graphs_of_sections [] = refl
graphs_of_sections (p ∷ ps) = ap (λ gs. p.0 ∷ gs) (graphs_of_sections ps)

pub maps_of_sections : (ps : List Pair) → map (λ (s : Section). s.maps) (map whole_section ps) ≡ values_of ps
maps_of_sections [] = refl
maps_of_sections (p ∷ ps) = ap (λ ms. p.1 ∷ ms) (maps_of_sections ps)
