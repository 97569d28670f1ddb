use Rattle.std.proofs.Common.{◌≡◌, map}
use Rattle.search_tree.specs.Places.{all_valued}
use Rattle.search_steps.specs.Trees.{listed_at}
use Rattle.search_steps.proofs.counts.count_places.Given as goal

abbrev pub invariant-loop-boxes : goal.invariant-loop-boxes
invariant-loop-boxes l = all_valued l.places.items ≡ map (listed_at l.listing.value l.value) l.yielded
