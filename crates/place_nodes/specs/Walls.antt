-- Why no node is made at a place: a table of labels, or a list of walks, reached the limit.
use Rattle.std.specs.Prelude.{ℕ, map}
use Rattle.route_model.specs.Parts.{ModelParts}
use Rattle.proof_rules.specs.ListWalls.{IsListWall}
use Rattle.proof_rules.specs.TableWalls.{IsTableWall}
use Rattle.cert_rules.specs.Meaning.{near_lists, proof_of, steps_of}
use Rattle.pricing.specs.Outcomes.{direction_of}
use Rattle.place_nodes.specs.declared.wall.LabelWall.{LabelWall}
use Rattle.place_nodes.specs.declared.wall.LabelWall.TheVariants.{List as ListWall, Table}

-- a table of a graph at a place, with the multipliers, cuts and near lists that were used; or the trees of a list at a place
-- whose variables are fixed, with the proof and the cost to beat
abbrev pub IsLabelWall : ModelParts → ℕ → LabelWall → Type 0
IsLabelWall m limit (Table g is_backward spot p t) = IsTableWall m limit g (direction_of is_backward) spot (near_lists m p.near) p.cuts p.mult t.cells
IsLabelWall m limit (ListWall spot p z tries) = IsListWall m limit spot (proof_of m p) z (map steps_of tries)
