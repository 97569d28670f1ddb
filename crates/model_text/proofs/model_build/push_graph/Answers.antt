use Rattle.model_text.proofs.model_build.push_graph.Goals as goal

pub returns-clause-acyclic : goal.returns-clause-acyclic
returns-clause-acyclic c = rw c.as_slice-2.ensures at c.in_ok-graph.ensures.acyclic
