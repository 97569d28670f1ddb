use Rattle.std.proofs.Common.{ap, ◌∙◌, sym}
use Rattle.path_graph.specs.declared.parts.GraphArc.{GraphArc}
use Rattle.path_graph.specs.Walk.{GraphParts, arc_at}
use Rattle.label_rules.specs.Labels.{Setting}
use Rattle.route_labels.specs.Meaning.{setting_of}
use Rattle.concatenate.specs.Fit.{MayJoin}
use Rattle.concatenate.proofs.LeastLemmas.{over_parts}
use Rattle.concatenate.proofs.ListLemmas.{all_in_part}
use Rattle.concatenate.proofs.least.least_over.Goals as goal

pub least_among-requires-clause-fore : goal.least_among-requires-clause-fore
least_among-requires-clause-fore c = all_in_part (MayJoin (setting_of c.args.field.now)) c.args.fore.now c.part_at.result.now c.part_at.ensures.among c.requires.fore

pub least_among-requires-clause-back : goal.least_among-requires-clause-back
least_among-requires-clause-back c = all_in_part (MayJoin (setting_of c.args.field.now)) c.args.back.now c.part_at-2.result.now c.part_at-2.ensures.among c.requires.back

pub returns : goal.returns
returns c =
    let S : Setting = setting_of c.args.field.now in
    let ends = c.arc-ends.ensures.arc ∙ ap (λ (g : GraphParts). arc_at g.arcs c.args.arc) c.requires.graph in
    over_parts S c.args.arc c.args.fore.now c.args.back.now c.part_at.result.now c.part_at-2.result.now c.least_among.result
    (λ l h e. c.part_at.ensures.all l h (e ∙ sym (ap (λ (x : GraphArc). x.tail) ends))) c.part_at.ensures.among
    (λ l h e. c.part_at-2.ensures.all l h (e ∙ sym (ap (λ (x : GraphArc). x.head) ends))) c.part_at-2.ensures.among
    c.least_among.ensures
