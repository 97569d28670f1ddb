use Rattle.std.proofs.Common.{ℕ, ◌<◌, All}
use Rattle.concatenate.specs.Fit.{MayJoin}
use Rattle.route_labels.specs.Meaning.{setting_of}
use Rattle.walk_list.specs.Listings.{table_at}
use Rattle.listing_tests.specs.Rows.{field_in}
use Rattle.listing_tests.proofs.listings.have_rests.Given as goal

abbrev pub invariant-loop-graph : goal.invariant-loop-graph
invariant-loop-graph l = (g : ℕ) → g < l.graph → All (MayJoin (setting_of (field_in l.row g))) (table_at l.row.tables.now g).back
