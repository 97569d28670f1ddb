-- What column generation keeps of a model from one place to the next.
use Rattle.route_model.specs.Parts.{ModelParts}
use Rattle.ng_sets.specs.Near.{FitsGraphs}
use Rattle.column_pool.specs.Walks.{IsPoolOf}
use Rattle.column_rounds.specs.declared.columns.Columns.{Columns}

-- walks of the model, and near lists for its graphs
pub record AreColumnsOf (m : ModelParts) (c : Columns) : Type 0 where
  pub pool : IsPoolOf m c.pool
  pub near : FitsGraphs c.near m.graphs
