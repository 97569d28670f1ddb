use Rattle.pricing.proofs.joined.joined_walks.Goals as goal

pub chosen-requires-clause-fore : goal.chosen-requires-clause-fore
chosen-requires-clause-fore c = (c.requires.pair.1).fore.origins

pub chosen-requires-clause-back : goal.chosen-requires-clause-back
chosen-requires-clause-back c = (c.requires.pair.1).back.origins
