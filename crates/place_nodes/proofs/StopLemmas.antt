-- Where a place stops: at a table of a graph, or at the list of its walks.
use Rattle.std.proofs.Common.{◌≡◌, ℕ, Bool, ℤ, List, map, sym, ◌∙◌, subst}
use Rattle.std.proofs.lemmas.List.{length-map}
use Rattle.route_model.specs.declared.places.Spot.{Spot}
use Rattle.label_core.specs.declared.table.Table.{Table as Filled}
use Rattle.label_rules.specs.declared.label.Label.{Label}
use Rattle.label_rules.specs.declared.table.ProofTable.{ProofTable}
use Rattle.proof_rules.specs.ListWalls.{IsListWall}
use Rattle.proof_rules.specs.Nodes.{ArePoints}
use Rattle.proof_rules.specs.TableWalls.{IsTableWall}
use Rattle.certificate.specs.declared.cert.Trie.{Trie}
use Rattle.cert_rules.specs.Meaning.{near_lists, steps_of}
use Rattle.walk_list.specs.Listings.{AreCutOff}
use Rattle.pricing.specs.Outcomes.{IsWallIn, direction_of}
use Rattle.search_rules.specs.Completeness.{IsCutOffList}
use Rattle.place_nodes.specs.declared.prices.Basis.{Basis}
use Rattle.place_nodes.specs.declared.proof.Known.{Known}
use Rattle.place_nodes.specs.declared.task.Task.{Task}
use Rattle.place_nodes.specs.declared.wall.LabelWall.TheVariants as wall
use Rattle.place_nodes.specs.Proofs.{IsOf, IsPlaceProof, proof_in}
use Rattle.place_nodes.specs.Tasks.{IsBasis, TaskFits, graphs_of, setting_by}
use Rattle.place_nodes.specs.Walls.{IsLabelWall}
use Rattle.place_nodes.specs.Worked.{HasCutOff}
use Rattle.place_nodes.proofs.BasisLemmas.{no_cuts_fit}

-- a table
pub table_stops : (t : Task) (b : Basis) (g : ℕ) (is_backward : Bool) (table : Filled Label) (spot : Spot) (tables : List ProofTable)
    → TaskFits t → IsBasis t.model.now t.spot.now b → IsWallIn (graphs_of t) (setting_by t b) t.limit g is_backward table → spot ≡ t.spot.now
    → IsLabelWall t.model.now t.limit (wall.Table g is_backward spot (record { mult = b.mult; cuts = b.cuts; near = b.lines; tables = tables }) table)
table_stops t b g is_backward table spot tables fits is stops same =
    subst (λ (s : Spot). IsTableWall t.model.now t.limit g (direction_of is_backward) s (near_lists t.model.now b.lines) b.cuts b.mult table.cells) (sym same) here
  where
    here : IsTableWall t.model.now t.limit g (direction_of is_backward) t.spot.now (near_lists t.model.now b.lines) b.cuts b.mult table.cells
    here = record {
      place = fits.spot;
      graph = stops.graph;
      cuts_fit = no_cuts_fit t.model.now t.spot.now b is;
      defined = is.prices.defined;
      table = stops.wall;
    }

module _ (t : Task) (k : Known) (tries : List Trie) (fits : TaskFits t) (is : IsPlaceProof t.model.now t.spot.now k)
    (cut : AreCutOff t.model.now t.spot.now (IsOf t k) t.z t.limit tries) where
  list_cut_off : IsCutOffList t.model.now t.limit t.spot.now (proof_in t k) t.z (map steps_of tries)
  list_cut_off = record {
    place = fits.spot;
    proof = is.stands;
    both = is.both;
    count = length-map tries steps_of ∙ cut.order.count_is;
    each = cut.each (proof_in t k) is.parts;
    lines = cut.lines;
    graph = cut.graph;
    there = cut.there;
    unfinished = cut.unfinished (proof_in t k) is.parts;
  }

  pub has_cut_off : HasCutOff t.model.now t.limit t.spot.now t.z
  has_cut_off = record { proof = proof_in t k; trees = map steps_of tries; cut_off = list_cut_off }

  -- where the variables are fixed, a list
  list_is_wall : ArePoints t.spot.now.boxes.vars → IsListWall t.model.now t.limit t.spot.now (proof_in t k) t.z (map steps_of tries)
  list_is_wall points = record {
    place = fits.spot;
    points = points;
    proof = is.stands;
    both = is.both;
    most = fits.cost;
    count = length-map tries steps_of ∙ cut.order.count_is;
    each = cut.each (proof_in t k) is.parts;
    lines = cut.lines;
    graph = cut.graph;
    there = cut.there;
    unfinished = cut.unfinished (proof_in t k) is.parts;
  }

  pub list_stops : (spot : Spot) (z : ℤ) → ArePoints t.spot.now.boxes.vars → spot ≡ t.spot.now → z ≡ t.z → IsLabelWall t.model.now t.limit (wall.List spot k.proof z tries)
  list_stops spot z points same read =
      subst (λ (s : Spot). IsListWall t.model.now t.limit s (proof_in t k) z (map steps_of tries)) (sym same)
      (subst (λ (x : ℤ). IsListWall t.model.now t.limit t.spot.now (proof_in t k) x (map steps_of tries)) (sym read) (list_is_wall points))
