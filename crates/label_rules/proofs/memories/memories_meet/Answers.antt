use Rattle.label_rules.proofs.MemoryLemmas.{memory_law, reverse_law}
use Rattle.label_rules.proofs.memories.memories_meet.Goals as goal

pub returns-clause-meet : goal.returns-clause-meet
returns-clause-meet c = memory_law

pub returns-clause-reversed : goal.returns-clause-reversed
returns-clause-reversed c = reverse_law
