-- What the labels of a field see is what labels see at its place, and the labels of prefixes may be joined.
use Rattle.std.proofs.Common.{◌≡◌, ℕ, ◌^◌, ℤ, pos, neg_ℤ, List, [], length, get_or, map, inl, inr, refl, sym, ◌∙◌, ap, subst, arith}
use Rattle.std.proofs.lemmas.Bool.{cases_lt}
use Rattle.std.proofs.lemmas.List.{get_or-map, get_or_past, length-map}
use Rattle.path_graph.specs.declared.set_bits.SetBits.{SetBits}
use Rattle.path_graph.specs.Fit.{int_at}
use Rattle.path_graph.specs.Sums.{sum_over}
use Rattle.path_graph.specs.Rest.{IsPartial}
use Rattle.path_graph.specs.Walk.{root_of, values_at_end}
use Rattle.path_graph.specs.Within.{IsWithin}
use Rattle.path_graph.proofs.SumLemmas.{abs_within}
use Rattle.route_model.specs.declared.multipliers.Mult.{Mult}
use Rattle.route_model.specs.Fit.{ModelFits}
use Rattle.route_model.specs.Parts.{graph_in, maps_in}
use Rattle.route_model.specs.Places.{shut_at}
use Rattle.ng_sets.specs.Near.{graph_at}
use Rattle.multipliers.specs.Priced.{IsPriced, arc_cost, reduced_unit, start_cost}
use Rattle.multipliers.specs.Quantities.{reduced_cost}
use Rattle.multipliers.proofs.RangeLemmas.{partial_walks_stay_near}
use Rattle.label_rules.specs.Admitted.{IsElementary}
use Rattle.label_rules.specs.declared.label.Label.{Label}
use Rattle.label_rules.specs.Labels.{Forward, Setting, forward_label}
use Rattle.label_rules.proofs.TestLemmas.{label_decides}
use Rattle.proof_rules.specs.Places.{setting_at}
use Rattle.proof_rules.proofs.PlaceLemmas.{reduced_is}
use Rattle.route_labels.specs.declared.field.Field.{Field}
use Rattle.route_labels.specs.Fit.{FieldFits}
use Rattle.route_labels.specs.Meaning.{arc_costs_of, setting_of}
use Rattle.concatenate.specs.Fit.{MayJoin}
use Rattle.list_check.specs.Prefixes.{IsPrefixLabel}

-- a list that is mapped, read also past its end
pub mapped_at : {X Y : Type 0} (f : X → Y) (xs : List X) (k : ℕ) (d : X) → get_or (map f xs) k (f d) ≡ f (get_or xs k d)
mapped_at f xs k d = elim (cases_lt k (length xs)) [
  | inl less ↦ get_or-map f xs k d (f d) less
  | inr past ↦ let long = length-map xs f in get_or_past (map f xs) k (f d) (omega (arith, past, long)) ∙ ap f (sym (get_or_past xs k d past))
]

module _ (f : Field) (mult : Mult) (priced : IsPriced f.model.now f.cuts.now f.spot.now.boxes mult f.priced.now) (weights : mult.cuts ≡ f.y.now) where
  abbrev unit : List ℕ → ℤ
  unit vars = sum_over (reduced_unit f.model.now mult) vars

  arcs_same : (a : ℕ) → int_at (arc_costs_of f) a ≡ arc_cost f.model.now mult f.graph a
  arcs_same a =
      ap (λ (arcs : List (List ℤ)). get_or (get_or arcs f.graph []) a (pos 0)) priced.arcs
      ∙ (ap (λ (row : List ℤ). get_or row a (pos 0)) (mapped_at (map unit) f.model.now.maps f.graph [])
      ∙ mapped_at unit (maps_in f.model.now.maps f.graph) a [])

  sets_same : (s : ℕ) → int_at f.priced.now.visits s ≡ neg_ℤ (int_at mult.sets s)
  sets_same s = ap (λ (xs : List ℤ). get_or xs s (pos 0)) priced.visits ∙ mapped_at neg_ℤ mult.sets s (pos 0)

  start_same : int_at f.priced.now.starts f.graph ≡ start_cost mult f.graph
  start_same = ap (λ (xs : List ℤ). get_or xs f.graph (pos 0)) priced.starts ∙ mapped_at neg_ℤ mult.paths f.graph (pos 0)

  -- what the labels of the field see
  pub setting_same : setting_of f ≡ setting_at f.model.now f.spot.now f.near.now f.cuts.now mult f.graph
  setting_same = λ i. record {
    graph = graph_in f.model.now.graphs f.graph;
    near = graph_at f.near.now f.graph;
    is_shut = shut_at f.model.now f.spot.now f.graph;
    arc_cost = λ a. arcs_same a i;
    set_cost = λ s. sets_same s i;
    start = start_same i;
    cuts = f.cuts.now;
    weights = sym weights i;
  }

-- the label of an elementary prefix costs less than 2^112 from 0
cost_near : (f : Field) (arcs : List ℕ) (v : ℕ) → ModelFits f.model.now → FieldFits f → IsElementary (setting_of f) arcs v → IsWithin (2 ^ 112) (forward_label (setting_of f) arcs).cost
cost_near f arcs v model fits is =
    let g = graph_in f.model.now.graphs f.graph in
    let same = setting_same f fits.mult fits.priced fits.weights in
    let cost = ap (λ (S : Setting). (forward_label S arcs).cost) same
    ∙ reduced_is f.model.now f.spot.now f.near.now f.cuts.now fits.mult f.graph g.ends.source v arcs model fits.graph is.leads in
    let partial : IsPartial g arcs v (values_at_end g (root_of g) arcs) = record { leads = is.leads; passes = is.passes; values = refl } in
    let near = partial_walks_stay_near f.model.now f.cuts.now fits.mult model fits.mult_fits fits.cuts f.graph v arcs _ fits.graph partial in
    subst (IsWithin (2 ^ 112)) (sym cost) (abs_within (2 ^ 112) (reduced_cost f.model.now f.cuts.now fits.mult f.graph arcs) (omega (arith, near)))

-- so it may be joined
pub prefix_may : (f : Field) (arcs : List ℕ) (label : Label) (visited : SetBits) → ModelFits f.model.now → FieldFits f → IsPrefixLabel (setting_of f) arcs label visited → MayJoin (setting_of f) label
prefix_may f arcs label visited model fits is =
    let label_is = (label_decides Forward (setting_of f) label).0 is.fits in
    record {
      windows = label_is.windows;
      states = label_is.states;
      cost = subst (λ (l : Label). IsWithin (2 ^ 112) l.cost) (sym is.is) (cost_near f arcs label.vertex model fits is.elementary);
    }
