-- What the lines of a CVRP text say so far.
use Rattle.std.specs.Prelude.{ℕ, zero, suc, ◌-◌, ℤ, List, [], ◌∷◌, ◌++◌, Bool, true, false, ◌&&◌, None, Some, is_some, slice_index_or, slice_set}
use Rattle.std.specs.List.{list_all}
use Rattle.route_texts.specs.declared.stops.Point.{Point}
use Rattle.route_texts.specs.declared.cvrp_draft.Key.{Key}
use Rattle.route_texts.specs.declared.cvrp_draft.Key.TheVariants as key
use Rattle.route_texts.specs.declared.cvrp_draft.Section.{Section}
use Rattle.route_texts.specs.declared.cvrp_draft.Section.TheVariants as section
use Rattle.route_texts.specs.declared.cvrp_draft.Node.{Node}
use Rattle.route_texts.specs.declared.cvrp_draft.Begun.{Begun}
use Rattle.route_texts.specs.declared.cvrp_draft.CvrpDraft.{CvrpDraft}

-- a node of which nothing is told but its number, and the nodes up to this number
abbrev pub bare_node : ℕ → Node
bare_node number = record { number = number; point = None; demand = None }

abbrev pub bare_nodes : ℕ → List Node
bare_nodes zero = []
bare_nodes (suc n) = bare_nodes n ++ bare_node (suc n) ∷ []

abbrev pub empty_draft : CvrpDraft
empty_draft =
    record {
      has_type = false;
      has_distances = false;
      capacity = None;
      nodes = [];
      section = None;
      begun = record { points = false; demands = false; depot = false };
      depot = None;
      closed = false;
    }

-- there are nodes
abbrev pub are_some_nodes : List Node → Bool
are_some_nodes [] = false
are_some_nodes (n ∷ nodes) = true

-- a key is read, and all are
abbrev pub has_key : CvrpDraft → Key → Bool
has_key d key.Type = d.has_type
has_key d key.Distances = d.has_distances
has_key d key.Dimension = are_some_nodes d.nodes
has_key d key.Capacity = is_some d.capacity

abbrev pub has_keys : CvrpDraft → Bool
has_keys d = d.has_type && (d.has_distances && (are_some_nodes d.nodes && is_some d.capacity))

-- a section has begun, and the draft with one that begins
abbrev pub has_begun : Begun → Section → Bool
has_begun b section.Points = b.points
has_begun b section.Demands = b.demands
has_begun b section.Depot = b.depot

abbrev pub begun_with : Begun → Section → Begun
begun_with b section.Points = record b { points = true }
begun_with b section.Demands = record b { demands = true }
begun_with b section.Depot = record b { depot = true }

abbrev pub with_section : CvrpDraft → Section → CvrpDraft
with_section d s = record d { section = Some s; begun = begun_with d.begun s }

-- the node of a number, which counts from 1; and the nodes with what a line tells of it
abbrev pub node_at : List Node → ℕ → Node
node_at nodes number = slice_index_or nodes (number - 1) (bare_node 0)

abbrev pub with_point : List Node → ℕ → Point → List Node
with_point nodes number point = slice_set nodes (number - 1) (record (node_at nodes number) { point = Some point })

abbrev pub with_demand : List Node → ℕ → ℤ → List Node
with_demand nodes number demand = slice_set nodes (number - 1) (record (node_at nodes number) { demand = Some demand })

-- each node has a line in the section
abbrev pub are_placed : List Node → Bool
are_placed nodes = list_all (λ n. is_some n.point) nodes

abbrev pub are_demanded : List Node → Bool
are_demanded nodes = list_all (λ n. is_some n.demand) nodes
