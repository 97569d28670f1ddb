use Rattle.std.proofs.Common.{◌≤◌, All, length, subst, arith}
use Rattle.std.proofs.lemmas.List.{take_all}
use Rattle.path_graph.specs.Free.{HasNoFreeCycle}
use Rattle.model_text.specs.declared.draft.Section.{Section}
use Rattle.model_text.proofs.BuildLemmas.{graphs_more, acyclic_more}
use Rattle.model_text.proofs.model_build.graphs_of.Goals as goal

pub loop-section-preserved : goal.loop-section-preserved
loop-section-preserved c =
    let sections = c.args.sections.now in
    let i = c.loop-section.section-index in
    let s = c.section-item.result in (
      graphs_more sections i s _ c.loop-section.graphs c.push_graph.new.graphs c.loop-section-test.true c.loop-section.invariant.0 c.section-item.is c.in_ok-push_graph.ensures.graph,
      acyclic_more sections i s _ c.loop-section-test.true c.section-item.is c.loop-section.invariant.1 c.in_ok-push_graph.ensures.acyclic,
    )

pub returns-clause-acyclic : goal.returns-clause-acyclic
returns-clause-acyclic c =
    let sections = c.args.sections.now in
    let i = c.loop-section.section-index in
    let past : length sections ≤ i = omega (arith, c.loop-section-test.false) in
    subst (All (λ (s : Section). HasNoFreeCycle s.arcs)) (take_all i sections past) c.loop-section.invariant.1
