use Rattle.vrp_cli.proofs.ClauseLemmas.{optimal_of, print_of, fine_of, accepted_of, infeasible_of, labels_of, nodes_of, kept_of, words_of, model_of, refused_of, read_of, write_of, long_of, unread_of}
use Rattle.vrp_cli.proofs.DueLemmas.{due_of}
use Rattle.vrp_cli.proofs.run.run_vrp.Goals as goal

pub returns-clause-optimal : goal.returns-clause-optimal
returns-clause-optimal g c = optimal_of c.answer_words.ensures.run

pub returns-clause-print : goal.returns-clause-print
returns-clause-print g c = print_of c.answer_words.ensures.run

pub returns-clause-fine : goal.returns-clause-fine
returns-clause-fine g c = fine_of c.answer_words.ensures.run

pub returns-clause-accepted : goal.returns-clause-accepted
returns-clause-accepted g c = accepted_of c.answer_words.ensures.run

pub returns-clause-infeasible : goal.returns-clause-infeasible
returns-clause-infeasible g c = infeasible_of c.answer_words.ensures.run

pub returns-clause-labels : goal.returns-clause-labels
returns-clause-labels g c = labels_of c.answer_words.ensures.run

pub returns-clause-nodes : goal.returns-clause-nodes
returns-clause-nodes g c = nodes_of c.answer_words.ensures.run

pub returns-clause-kept : goal.returns-clause-kept
returns-clause-kept g c = kept_of c.answer_words.ensures.run

pub returns-clause-words : goal.returns-clause-words
returns-clause-words g c = words_of c.answer_words.ensures.run

pub returns-clause-model : goal.returns-clause-model
returns-clause-model g c = model_of c.answer_words.ensures.run

pub returns-clause-refused : goal.returns-clause-refused
returns-clause-refused g c = refused_of c.answer_words.ensures.run

pub returns-clause-read : goal.returns-clause-read
returns-clause-read g c = read_of c.answer_words.ensures.run

pub returns-clause-write : goal.returns-clause-write
returns-clause-write g c = write_of c.answer_words.ensures.run

pub returns-clause-long : goal.returns-clause-long
returns-clause-long g c = long_of c.answer_words.ensures.run

pub returns-clause-due : goal.returns-clause-due
returns-clause-due g c = due_of c.answer_words.ensures.run

pub returns-clause-unread : goal.returns-clause-unread
returns-clause-unread g c not_taken = (c.answer_words.ensures.unread not_taken, unread_of c.answer_words.ensures.run not_taken)
