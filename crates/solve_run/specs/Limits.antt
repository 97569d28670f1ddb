-- The limits of a search.
use Rattle.std.specs.Prelude.{◌≤◌}
use Rattle.certificate.specs.declared.limits.TheConstants.{MAX_LABELS, MAX_NODES}
use Rattle.solve_run.specs.declared.outcome.Limits.{Limits}
use Rattle.solve_run.specs.declared.outcome.TheConstants.{MAX_WORKERS}

-- each is at least 1, and within its range
pub record LimitsFit (l : Limits) : Type 0 where
  pub some_workers : 1 ≤ l.workers
  pub workers : l.workers ≤ MAX_WORKERS
  pub some_labels : 1 ≤ l.labels
  pub labels : l.labels ≤ MAX_LABELS
  pub some_nodes : 1 ≤ l.nodes
  pub nodes : l.nodes ≤ MAX_NODES
