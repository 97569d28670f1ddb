use Rattle.std.proofs.Common.{◌∙◌, ap, length}
use Rattle.std.proofs.lemmas.List.{length-set}
use Rattle.ng_sets.proofs.NearLemmas.{shape_of_set}
use Rattle.ng_sets.proofs.near.Near.put.Goals as goal

pub returns-clause-shape : goal.returns-clause-shape
returns-clause-shape c =
    shape_of_set c.args.self.now c.self.inside.lists.items c.args.g c.index_mut.result.now c.set.new.self c.self.view_is c.index_mut.ensures.value
    (ap length c.set.ensures ∙ length-set c.index_mut.result.now _ c.args.sets)
