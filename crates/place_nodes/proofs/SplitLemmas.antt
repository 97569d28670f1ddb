-- A node that splits a place at the box of a variable or path count.
use Rattle.std.proofs.Common.{◌≡◌, ℕ, ◌<◌, ◌≤◌, ℤ, pos, ◌≤ℤ◌, Some, List, [], length, sym, ◌∙◌, ap, arith}
use Rattle.std.specs.Prelude.{reverse}
use lib.Signed.{◌<ℤ◌}
use Rattle.std.proofs.lemmas.Int.{by_lt_z, ints}
use Rattle.std.proofs.lemmas.List.{length-map}
use Rattle.path_graph.specs.Walk.{GraphParts}
use Rattle.route_model.specs.declared.multipliers.Quantity.{Quantity}
use Rattle.route_model.specs.declared.multipliers.Quantity.TheVariants.{Cut, Paths, Row, Set, Var}
use Rattle.route_model.specs.declared.places.Span.{Span}
use Rattle.route_model.specs.declared.places.Split.{Split}
use Rattle.route_model.specs.declared.places.Spot.{Spot}
use Rattle.route_model.specs.Fit.{ModelFits, VarFits}
use Rattle.route_model.specs.Parts.{ModelParts, graph_in, var_at}
use Rattle.route_model.specs.PlaceParts.{HasBox, SplitFits, box_in, high_part, high_place, low_part, low_place, with_box}
use Rattle.route_model.specs.Places.{IsPartOf, SpotFits, path_span, span_at, var_span}
use Rattle.proof_rules.specs.Nodes.{AtPlace}
use Rattle.proof_rules.specs.OpenTrees.{raised}
use Rattle.proof_rules.specs.Proofs.{bound_at}
use Rattle.certificate.specs.declared.cert.NodeForm.TheVariants as node
use Rattle.certificate.specs.CertText.{IsSigned, QuantityFits}
use Rattle.certificate.specs.Sizes.{graph_sizes, sizes_of}
use Rattle.made_nodes.specs.Made.{IsMade}
use Rattle.search_tree.specs.declared.places.OpenPlace.{OpenPlace}
use Rattle.search_tree.specs.Places.{all_valued}
use Rattle.place_nodes.specs.declared.proof.Known.{Known}
use Rattle.place_nodes.specs.declared.task.Task.{Task}
use Rattle.place_nodes.specs.Bounds.{IsOpenBound}
use Rattle.place_nodes.specs.Proofs.{IsPlaceProof, proof_in}
use Rattle.place_nodes.specs.Splits.{IsFirstWide, both_valued, parts_opened, split_at}
use Rattle.place_nodes.specs.Tasks.{TaskFits}
use Rattle.place_nodes.specs.Worked.{HasCutOff, IsNodeAt, IsNodeOf}
use Rattle.place_nodes.proofs.NodeLemmas.{node_of_task}

-- both parts as they are made
pub parts_are : (spot : Spot) (split : Split) (box low high : Span) (d : ℤ) (below above : Spot) (v value : ℤ) → box ≡ box_in spot split.quantity → d ≡ split.at → low ≡ low_part box d → high ≡ high_part box d
    → below ≡ with_box spot split.quantity low → above ≡ with_box spot split.quantity high → v ≡ value → both_valued below above v ≡ parts_opened spot split value
parts_are spot split box low high d below above v value at d_is low_is high_is below_is above_is v_is =
    let first : below ≡ low_place spot split = below_is ∙ ap (with_box spot split.quantity) (low_is ∙ (λ i. low_part (at i) (d_is i))) in
    let second : above ≡ high_place spot split = above_is ∙ ap (with_box spot split.quantity) (high_is ∙ (λ i. high_part (at i) (d_is i))) in
    λ i. both_valued (first i) (second i) (v_is i)

-- a box that is no point has two parts
wide_below : (low high : ℤ) → low ≤ℤ high → ¬ (low ≡ high) → low <ℤ high
wide_below low high order wide =
    by_lt_z low high (λ less. less) (λ back. absurd (wide (same back)))
  where
    same : high ≤ℤ low → low ≡ high
    same back = omega (arith, ints, order, back)

-- at the low end of the first box that is no point
module _ (t : Task) (j : ℕ) (fits : TaskFits t) (wide : IsFirstWide t.spot.now.boxes.vars j) where
  pub var_there : j < length t.model.now.vars
  var_there = omega (arith, wide.inside, fits.spot.boxes.vars)

  pub first_fits : SplitFits t.model.now t.spot.now (split_at t.spot.now j)
  first_fits =
      let part : IsPartOf (var_span (var_at t.model.now.vars j)) (span_at t.spot.now.boxes.vars j) = fits.spot.boxes.each_var j var_there in
      record {
        quantity = var_there;
        low = omega (arith, ints);
        high = wide_below (span_at t.spot.now.boxes.vars j).low (span_at t.spot.now.boxes.vars j).high part.1 wide.wide;
      }

-- the number of a split can be told
signed : (whole span : Span) (d : ℤ) → IsPartOf whole span → pos 0 ≤ℤ whole.low → whole.high ≤ℤ pos 1000000 → span.low ≤ℤ d → d <ℤ span.high → IsSigned 63 d
signed whole span d part low high above below = (omega (arith, ints, part.0, low, above), omega (arith, ints, part.2, high, below))

split_signed : (m : ModelParts) (spot : Spot) (q : Quantity) (d : ℤ) → ModelFits m → SpotFits m spot → HasBox m q → (box_in spot q).low ≤ℤ d → d <ℤ (box_in spot q).high → IsSigned 63 d
split_signed m spot (Var j) d model fits has low high =
    let var : VarFits (var_at m.vars j) = model.vars.each j _ has in
    signed (var_span (var_at m.vars j)) (span_at spot.boxes.vars j) d (fits.boxes.each_var j has) var.low var.high low high
split_signed m spot (Paths g) d model fits has low high =
    let graph : GraphParts = graph_in m.graphs g in
    let most : graph.ends.high ≤ 4096 = (model.graphs.each g (graph_in [] 0) has).graph.fits.ends_fit.most_paths in
    signed (path_span graph) (span_at spot.boxes.paths g) d (fits.boxes.each_path g has) (omega (arith, ints)) (omega (arith, ints, most)) low high
split_signed m spot (Row i) d model fits has low high = absurd has
split_signed m spot (Set s) d model fits has low high = absurd has
split_signed m spot (Cut c) d model fits has low high = absurd has

split_named : (m : ModelParts) (q : Quantity) → HasBox m q → QuantityFits (sizes_of m) q
split_named m (Var j) has = has
split_named m (Paths g) has = omega (arith, has, length-map m.graphs graph_sizes)
split_named m (Row i) has = absurd has
split_named m (Set s) has = absurd has
split_named m (Cut c) has = absurd has

module _ (t : Task) (split : Split) (fits : TaskFits t) (parts : SplitFits t.model.now t.spot.now split) (k : Known) (b : ℤ) (is : IsPlaceProof t.model.now t.spot.now k) (open_at : IsOpenBound t k b) where
  split_made : IsMade t.model.now t.z (AtPlace t.spot.now) (record { form = node.Split split (Some k.proof); bound = b })
  split_made = record {
    is_node = parts;
    has_proof = is.stands;
    bound = open_at.is;
    drops = tt;
    named = tt;
    told = (split_named t.model.now split.quantity parts.quantity, split_signed t.model.now t.spot.now split.quantity split.at fits.model fits.spot parts.quantity parts.low parts.high);
    proof_told = is.told;
  }

  pub split_node : (value : ℤ) (opened : List OpenPlace) → value ≡ raised t.value (Some b) → all_valued (reverse opened) ≡ parts_opened t.spot.now split value
      → IsNodeOf t.model.now t.spot.now t.value t.z (record { form = node.Split split (Some k.proof); bound = b }) opened
  split_node value opened value_is opens =
      let handed : value ≡ raised t.value (bound_at t.model.now t.spot.now (proof_in t k)) = value_is ∙ ap (raised t.value) (sym open_at.is) in
      node_of_task t (record { form = node.Split split (Some k.proof); bound = b }) opened fits split_made open_at.below
      (opens ∙ ap (parts_opened t.spot.now split) handed)

  -- where a list was cut off
  pub split_cut_off : (opened : List OpenPlace) → IsNodeOf t.model.now t.spot.now t.value t.z (record { form = node.Split split (Some k.proof); bound = b }) opened → HasCutOff t.model.now t.limit t.spot.now t.z
      → IsNodeAt t.model.now t.spot.now t.value t.z t.limit (record { form = node.Split split (Some k.proof); bound = b }) opened
  split_cut_off opened node cut_off = record { node = node; form = cut_off }
