-- What the labels at a place are made from, as the rules and the tables have it.
use Rattle.std.proofs.Common.{◌≡◌, ℕ, ◌≤◌, List, [], length, refl, sym, ◌∙◌, ap, subst, arith}
use Rattle.std.specs.Prelude.{All, true}
use Rattle.std.proofs.lemmas.List.Elements.{All-nil}
use Rattle.path_graph.specs.declared.set_bits.SetBits.{SetBits}
use Rattle.rank1_cuts.specs.declared.cut.Cut.{Cut}
use Rattle.rank1_cuts.specs.Fit.{CutFits}
use Rattle.route_model.specs.declared.places.Spot.{Spot}
use Rattle.route_model.specs.Parts.{ModelParts}
use Rattle.route_model.specs.Places.{SpotFits}
use Rattle.ng_sets.specs.Near.{FitsGraphs}
use Rattle.multipliers.specs.Ranges.{CutsFit}
use Rattle.label_rules.specs.Labels.{Setting}
use Rattle.proof_rules.specs.Places.{setting_at}
use Rattle.certificate.specs.declared.cert.Proof.{Proof}
use Rattle.cert_rules.specs.Meaning.{near_lists}
use Rattle.proof_check.specs.declared.checked.Checked.{Checked}
use Rattle.proof_check.specs.Checked.{IsCheckedOf}
use Rattle.proof_check.proofs.FieldLemmas.{field_setting}
use Rattle.pricing.specs.declared.every_graph.TablesOut.{TablesOut}
use Rattle.pricing.specs.Outcomes.{IsOutcome}
use Rattle.pricing.specs.Fields.{PlaceFits, setting_in}
use Rattle.place_nodes.specs.declared.prices.Basis.{Basis}
use Rattle.place_nodes.specs.Tasks.{IsBasis}
use Rattle.place_nodes.proofs.NearLemmas.{near_shape}

module _ (m : ModelParts) (spot : Spot) (b : Basis) (is : IsBasis m spot b) where
  -- no cuts
  pub no_cuts_fit : All CutFits b.cuts
  no_cuts_fit = subst (All CutFits) (sym is.none) (All-nil CutFits)

  pub basis_cuts : CutsFit b.cuts b.mult
  basis_cuts =
      let none : length b.cuts ≡ 0 = ap (λ (cuts : List Cut). length cuts) is.none in
      let few : length b.mult.cuts ≡ 0 = ap (λ (weights : List ℕ). length weights) is.weights in
      record {
        few = omega (arith, none);
        each = no_cuts_fit;
        count = few ∙ sym none;
        each_mult = subst (All (λ (y : ℕ). y ≤ 281474976710656)) (sym is.weights) (All-nil (λ (y : ℕ). y ≤ 281474976710656));
      }

  -- the near lists have one for each vertex
  pub basis_shape : FitsGraphs b.near m.graphs
  basis_shape = subst (λ (near : List (List SetBits)). FitsGraphs near m.graphs) (sym is.lists) (near_shape m b.lines)

  -- the parts of a place fit
  pub basis_fits : SpotFits m spot → PlaceFits m spot b.priced b.near b.cuts b.mult.cuts
  basis_fits fits = record {
    spot_fits = fits;
    mult = b.mult;
    mult_fits = is.fits;
    cuts_fit = basis_cuts;
    weights = refl;
    priced_is = is.prices;
    near_fits = basis_shape;
  }

  -- labels see what the rules say
  pub basis_setting : (g : ℕ) → setting_in m spot b.priced b.near b.cuts b.mult.cuts g ≡ setting_at m spot (near_lists m b.lines) b.cuts b.mult g
  basis_setting g =
      let p : Proof = record { mult = b.mult; cuts = b.cuts; near = b.lines; tables = [] } in
      let c : Checked = record { priced = b.priced; near = b.near; leasts = [] } in
      let checked : IsCheckedOf m spot p c = record { priced = is.prices; range = is.range; near = is.lists; leasts = refl } in
      field_setting m spot p c g b.cuts b.mult.cuts checked refl refl

  basis_settings : setting_in m spot b.priced b.near b.cuts b.mult.cuts ≡ setting_at m spot (near_lists m b.lines) b.cuts b.mult
  basis_settings = λ i g. basis_setting g i

  -- so what is said of tables, by the slices that were handed over
  pub basis_outcome : (n limit : ℕ) (made : TablesOut) (cuts : List Cut) (y : List ℕ) → cuts ≡ b.cuts → y ≡ b.mult.cuts
      → IsOutcome n (setting_in m spot b.priced b.near cuts y) true limit made → IsOutcome n (setting_at m spot (near_lists m b.lines) b.cuts b.mult) true limit made
  basis_outcome n limit made cuts y same weights is_outcome =
      let handed : setting_in m spot b.priced b.near cuts y ≡ setting_in m spot b.priced b.near b.cuts b.mult.cuts = λ i. setting_in m spot b.priced b.near (same i) (weights i) in
      subst (λ (S : ℕ → Setting). IsOutcome n S true limit made) (handed ∙ basis_settings) is_outcome
