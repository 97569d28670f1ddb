use Rattle.std.proofs.Common.{ℕ, sym, subst}
use Rattle.route_model.specs.Parts.{graph_in}
use Rattle.pricing.specs.Walks.{HasPartialWalks}
use Rattle.pricing_tests.proofs.found.cheap_at.Goals as goal

pub cheap_walks-requires-clause-made : goal.cheap_walks-requires-clause-made
cheap_walks-requires-clause-made c =
    subst (λ (g : ℕ). HasPartialWalks (graph_in c.args.place.model.now.graphs g) c.args.made.now.cells) (sym c.requires.table) c.requires.made.walks
