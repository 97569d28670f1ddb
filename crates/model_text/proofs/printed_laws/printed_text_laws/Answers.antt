use Rattle.model_text.proofs.PrintedLawLemmas.{printed_model_law, printed_again_law, printed_plan_law}
use Rattle.model_text.proofs.printed_laws.printed_text_laws.Goals as goal

pub returns-clause-models : goal.returns-clause-models
returns-clause-models c = printed_model_law

pub returns-clause-again : goal.returns-clause-again
returns-clause-again c = printed_again_law

pub returns-clause-plans : goal.returns-clause-plans
returns-clause-plans c = printed_plan_law
