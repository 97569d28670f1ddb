-- What the labels need follows where the parts of a field fit.
use Rattle.std.proofs.Common.{◌≡◌, ℕ, ◌<◌, ◌≤◌, ◌+◌, ◌^◌, ℤ, pos, neg_ℤ, List, [], All, length, get_or, map, inl, inr, sym, ◌∙◌, ap, subst, arith}
use Rattle.std.specs.Prelude.{IfSome}
use Rattle.std.proofs.lemmas.Bool.{cases_lt}
use Rattle.std.proofs.lemmas.Int.{ints}
use Rattle.std.proofs.lemmas.List.{length-map, get_or-map, get_or_past}
use Rattle.std.proofs.lemmas.List.Elements.{All-get_or}
use Rattle.path_graph.specs.declared.parts.Vertex.{Vertex}
use Rattle.path_graph.specs.Fit.{int_at}
use Rattle.path_graph.specs.Sums.{sum_over}
use Rattle.path_graph.specs.Walk.{GraphParts}
use Rattle.path_graph.specs.Within.{IsWithin}
use Rattle.path_graph.specs.declared.set_bits.SetBits.{SetBits}
use Rattle.rank1_cuts.specs.Fit.{CutFits}
use Rattle.route_model.specs.Fit.{ModelFits, GraphFits}
use Rattle.route_model.specs.Parts.{graph_in, maps_in}
use Rattle.ng_sets.specs.Near.{graph_at}
use Rattle.multipliers.specs.Priced.{reduced_unit}
use Rattle.multipliers.proofs.NearLemmas.{arcs_near, turned_near}
use Rattle.label_rules.specs.Labels.{SettingFits}
use Rattle.label_rules.specs.Spaces.{CostsFit}
use Rattle.route_labels.specs.declared.field.Field.{Field}
use Rattle.route_labels.specs.Fit.{FieldFits, PartsAgree}
use Rattle.route_labels.specs.Meaning.{arc_costs_of, setting_of}

-- a number of a list whose numbers lie in a range lies in it, also past the end
int_near : (n : ℕ) (xs : List ℤ) (k : ℕ) → All (IsWithin n) xs → IsWithin n (int_at xs k)
int_near n xs k all = elim (cases_lt k (length xs)) [
  | inl less ↦ All-get_or (IsWithin n) xs k (pos 0) less all
  | inr past ↦ subst (IsWithin n) (sym (get_or_past xs k (pos 0) past)) (omega (arith, ints), omega (arith, ints))
]

wider : (n m : ℕ) (x : ℤ) → n ≤ m → IsWithin n x → IsWithin m x
wider n m x less near = let low = near.0 in let high = near.1 in (omega (arith, ints, low, less), omega (arith, ints, high, less))

module _ (f : Field) (model : ModelFits f.model.now) (fits : FieldFits f) where
  abbrev graph_fits : GraphFits f.model.now.sets (graph_in f.model.now.graphs f.graph)
  graph_fits = All-get_or (GraphFits f.model.now.sets) f.model.now.graphs f.graph _ fits.graph model.graphs.each

  arcs_all : All (All (IsWithin (2 ^ 72 + 2 ^ 53))) f.priced.now.arcs
  arcs_all = subst (λ (arcs : List (List ℤ)). All (All (IsWithin (2 ^ 72 + 2 ^ 53))) arcs) (sym fits.priced.arcs) (arcs_near f.model.now fits.mult model fits.mult_fits)

  visits_all : All (IsWithin (2 ^ 48)) f.priced.now.visits
  visits_all = subst (λ (visits : List ℤ). All (IsWithin (2 ^ 48)) visits) (sym fits.priced.visits) (turned_near fits.mult.sets fits.mult_fits.each_set)

  starts_all : All (IsWithin (2 ^ 48)) f.priced.now.starts
  starts_all = subst (λ (starts : List ℤ). All (IsWithin (2 ^ 48)) starts) (sym fits.priced.starts) (turned_near fits.mult.paths fits.mult_fits.each_path)

  arcs_there : f.graph < length f.priced.now.arcs
  arcs_there =
      let same = ap length fits.priced.arcs in
      let mapped = length-map f.model.now.maps (map (sum_over (reduced_unit f.model.now fits.mult))) in
      omega (arith, same, mapped, model.maps.graphs_mapped, fits.graph)

  arc_count : length (arc_costs_of f) ≡ length (setting_of f).graph.arcs
  arc_count =
      let unit = sum_over (reduced_unit f.model.now fits.mult) in
      let maps = f.model.now.maps in
      let there : f.graph < length maps = omega (arith, model.maps.graphs_mapped, fits.graph) in
      let read = ap (λ (arcs : List (List ℤ)). length (get_or arcs f.graph [])) fits.priced.arcs in
      let mapped = ap length (get_or-map (map unit) maps f.graph [] [] there) in
      let one = length-map (maps_in maps f.graph) unit in
      let same = (model.maps.each f.graph fits.graph).arcs in
      read ∙ (mapped ∙ (one ∙ same))

  starts_there : f.graph < length f.priced.now.starts
  starts_there =
      let same = ap length fits.priced.starts in
      let mapped = length-map fits.mult.paths neg_ℤ in
      omega (arith, same, mapped, fits.mult_fits.paths, fits.graph)

  visits_count : length f.priced.now.visits ≡ f.model.now.sets
  visits_count =
      let same = ap length fits.priced.visits in
      let mapped = length-map fits.mult.sets neg_ℤ in
      omega (arith, same, mapped, fits.mult_fits.sets)

  near_there : f.graph < length f.near.now
  near_there =
      let same = ap length fits.near in
      let first = length-map f.near.now (λ (sets : List SetBits). length sets) in
      let second = length-map f.model.now.graphs (λ (g : GraphParts). length g.vertices) in
      omega (arith, same, first, second, fits.graph)

  near_count : length (graph_at f.near.now f.graph) ≡ length (setting_of f).graph.vertices
  near_count =
      let first = get_or-map (λ (sets : List SetBits). length sets) f.near.now f.graph [] 0 near_there in
      let second = get_or-map (λ (g : GraphParts). length g.vertices) f.model.now.graphs f.graph (graph_in [] 0) 0 fits.graph in
      sym first ∙ (ap (λ (xs : List ℕ). get_or xs f.graph 0) fits.near ∙ second)

  setting_fits : SettingFits (setting_of f)
  setting_fits = record { graph = graph_fits.graph; cuts = λ i less. All-get_or CutFits f.cuts.now i _ less fits.cuts.each }

  costs_fit : CostsFit (setting_of f)
  costs_fit = record {
    few = fits.cuts.few;
    start = wider (2 ^ 48) (2 ^ 112) _ (omega arith) (int_near (2 ^ 48) f.priced.now.starts f.graph starts_all);
    arcs = λ a less. wider (2 ^ 72 + 2 ^ 53) (2 ^ 72 + 2 ^ 54) _ (omega arith)
        (int_near (2 ^ 72 + 2 ^ 53) (arc_costs_of f) a (All-get_or (All (IsWithin (2 ^ 72 + 2 ^ 53))) f.priced.now.arcs f.graph [] arcs_there arcs_all));
    sets = λ s less. wider (2 ^ 48) (2 ^ 54) _ (omega arith) (int_near (2 ^ 48) f.priced.now.visits s visits_all);
    weights = λ i less. subst (λ (ys : List ℕ). get_or ys i 0 ≤ 2 ^ 48) fits.weights
        (All-get_or (λ y. y ≤ 2 ^ 48) fits.mult.cuts i 0 (omega (arith, less, fits.cuts.count)) fits.cuts.each_mult);
  }

  pub parts_agree : PartsAgree f
  parts_agree = record {
    setting = setting_fits;
    costs = costs_fit;
    graph = fits.graph;
    spot = record { vars = fits.spot.boxes.vars; paths = fits.spot.boxes.paths; marks = fits.spot.marks };
    arcs = arcs_there;
    arc_costs = arc_count;
    starts = starts_there;
    sets = subst (λ (n : ℕ). All (λ (v : Vertex). IfSome v.set (λ s. s < n)) (setting_of f).graph.vertices) (sym visits_count) graph_fits.declared;
    near = near_there;
    near_vertices = near_count;
    weights = ap length (sym fits.weights) ∙ fits.cuts.count;
  }
