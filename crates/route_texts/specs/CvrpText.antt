-- The task of a CVRP text, and the first fault of a text.
use Rattle.std.specs.Prelude.{◌≡◌, ℕ, ◌+◌, ◌≤◌, ℤ, pos, List, [], ◌∷◌, length, map, filter, Bool, ◌==◌, ◌&&◌, not, if◌then◌else◌, Option, None, Some, IfSome, All, unwrap_or, Result, Ok, Err}
use Rattle.route_tasks.specs.declared.limits.TheConstants.{MAX_LOAD, MAX_CUSTOMERS}
use Rattle.route_tasks.specs.declared.task.Stop.{Stop}
use Rattle.route_tasks.specs.declared.task.Style.TheVariants as style
use Rattle.route_tasks.specs.declared.task.RouteTask.{RouteTask}
use Rattle.route_tasks.specs.Fit.{IsFromTo}
use Rattle.route_texts.specs.declared.fault.RouteKind.{RouteKind}
use Rattle.route_texts.specs.declared.fault.RouteKind.TheVariants as kind
use Rattle.route_texts.specs.declared.fault.RouteFault.{RouteFault}
use Rattle.route_texts.specs.declared.cvrp_draft.Node.{Node}
use Rattle.route_texts.specs.declared.cvrp_draft.CvrpDraft.{CvrpDraft}
use Rattle.route_texts.specs.Words.{words_in}
use Rattle.route_texts.specs.Stops.{PointFits}
use Rattle.route_texts.specs.CvrpDraft.{empty_draft, has_keys, node_at, are_placed, are_demanded}
use Rattle.route_texts.specs.CvrpLines.{cvrp_line, ends_text}
use Rattle.route_texts.specs.Reading.{Reading, text_read}

-- the stop of a node, which has no times
abbrev pub stop_of : Node → Stop
stop_of n =
    let point = unwrap_or n.point (record { x = pos 0; y = pos 0 }) in
    record {
      number = n.number;
      x = point.x;
      y = point.y;
      demand = unwrap_or n.demand (pos 0);
      ready = pos 0;
      due = pos 0;
      service = pos 0;
    }

-- the stops of all nodes but the depot, by number
abbrev pub customers_of : ℕ → List Node → List Stop
customers_of depot nodes = map stop_of (filter (λ n. not (n.number == depot)) nodes)

-- nothing is missing but maybe the capacity or the depot
abbrev pub is_complete : CvrpDraft → Bool
is_complete d = are_placed d.nodes && (are_demanded d.nodes && (d.closed && has_keys d))

-- the task of all lines; as many vehicles as customers
abbrev pub task_of : CvrpDraft → Option ℤ → Option ℕ → Result RouteTask RouteKind
task_of d None depot = Err kind.Missing
task_of d (Some capacity) None = Err kind.Missing
task_of d (Some capacity) (Some depot) =
    if is_complete d
    then Ok
    (record {
      style = style.Euclid;
      vehicles = length (customers_of depot d.nodes);
      capacity = capacity;
      depot = stop_of (node_at d.nodes depot);
      stops = customers_of depot d.nodes;
    })
    else Err kind.Missing

abbrev pub cvrp_reading : Reading CvrpDraft
cvrp_reading =
    record {
      empty = empty_draft;
      line = cvrp_line;
      ends = λ line. ends_text (words_in line);
      task = λ d. task_of d d.capacity d.depot;
    }

-- the task of a text, or its first fault
abbrev pub cvrp_read : List ℕ → Result RouteTask RouteFault
cvrp_read text = text_read cvrp_reading text

-- the numbers of the nodes count from a number
abbrev pub AreNumbered : ℕ → List Node → Type 0
AreNumbered first [] = Unit {0}
AreNumbered first (n ∷ nodes) = (n.number ≡ first) × AreNumbered (first + 1) nodes

-- what is told of a node lies within the limits
pub record NodeFits (n : Node) : Type 0 where
  pub placed : IfSome n.point PointFits
  pub demanded : IfSome n.demand (IsFromTo (pos 0) MAX_LOAD)

-- the number of a node
pub record IsNode (nodes : List Node) (number : ℕ) : Type 0 where
  pub first : 1 ≤ number
  pub last : number ≤ length nodes

-- what was said so far lies within the limits
pub record CvrpFits (d : CvrpDraft) : Type 0 where
  pub capacity_fits : IfSome d.capacity (IsFromTo (pos 1) MAX_LOAD)
  pub some_nodes : 1 ≤ length d.nodes → 2 ≤ length d.nodes
  pub few_nodes : length d.nodes ≤ MAX_CUSTOMERS + 1
  pub numbered : AreNumbered 1 d.nodes
  pub nodes_fit : All NodeFits d.nodes
  pub depot_fits : IfSome d.depot (IsNode d.nodes)
  pub depot_empty : IfSome d.depot (λ number. IfSome (node_at d.nodes number).demand (λ z. z ≡ pos 0))
