-- What a search proves where it ends, and where it stops.
use Rattle.std.specs.Prelude.{◌≡◌, ◌≢◌, true, ℤ, ◌≤ℤ◌, List, [], map, All}
use Rattle.route_model.specs.declared.plan.Plan.{Plan}
use Rattle.route_model.specs.Costs.{least_box_cost}
use Rattle.route_model.specs.Fit.{ModelFits}
use Rattle.route_model.specs.Parts.{ModelParts}
use Rattle.route_model.specs.Quantities.{cost_of}
use Rattle.route_model.specs.Solution.{IsSolution}
use Rattle.proof_rules.specs.NodeWalls.{IsNodeWall, IsOpenBound}
use Rattle.proof_rules.specs.Validity.{IsProofTree}
use Rattle.certificate.specs.CertFits.{NodeIsTold}
use Rattle.cert_check.specs.Verdicts.{IsNamedNode}
use Rattle.cert_rules.specs.Meaning.{node_of}
use Rattle.made_nodes.specs.declared.node.MadeNode.{MadeNode}
use Rattle.search_tree.specs.declared.search.Search.{Search}
use Rattle.search_tree.specs.Bounds.{IsBoundOf}
use Rattle.search_tree.specs.Search.{IsSearch, made_in, mades_in, opens_in, places_in}

-- where no place is open, the nodes are a proof tree against the cost to beat, and the text of a certificate can tell them
pub record IsWholeTree (m : ModelParts) (z : ℤ) (nodes : List MadeNode) : Type 0 where
  pub tree : IsProofTree m z (map (λ (n : MadeNode). node_of m n.form) nodes)
  pub named : All (λ (n : MadeNode). IsNamedNode m n.form) nodes
  pub told : All (λ (n : MadeNode). NodeIsTold m n.form) nodes

abbrev pub EndedSearchLaw : Type 0
EndedSearchLaw = (m : ModelParts) (s : Search) → IsSearch m s → opens_in s ≡ [] → IsWholeTree m s.z (mades_in s)

-- where some place is open and all nodes were tested, the nodes are a wall
abbrev pub StoppedSearchLaw : Type 0
StoppedSearchLaw = (m : ModelParts) (s : Search) → IsSearch m s → s.is_tested ≡ true → opens_in s ≢ [] → IsNodeWall m (made_in s) s.best s.z (places_in m s)

-- the bound of a search is that of its places; no solution costs less; and it is no less than the least cost over the boxes of
-- the variables
pub record IsRightBound (m : ModelParts) (s : Search) (bound : ℤ) : Type 0 where
  pub open_bound : IsOpenBound m s.best s.z (places_in m s) bound
  pub holds : (plan : Plan) → IsSolution m plan → bound ≤ℤ cost_of m plan
  pub least : least_box_cost m ≤ℤ bound

abbrev pub SearchBoundLaw : Type 0
SearchBoundLaw = (m : ModelParts) (s : Search) (bound : ℤ) → ModelFits m → IsSearch m s → IsBoundOf s bound → IsRightBound m s bound
