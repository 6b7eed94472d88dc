use Rattle.command_words_laws.proofs.Workers.{workers_are_bounded}
use Rattle.command_words_laws.proofs.Tasks.{tasks_are_in_range}
use Rattle.command_words_laws.proofs.WordsAnswered.{words_are_answered, runs_are_asked}
use Rattle.command_words_laws.proofs.word_laws.law_words.Goals as goal

pub returns-clause-workers : goal.returns-clause-workers
returns-clause-workers c = workers_are_bounded

pub returns-clause-ranges : goal.returns-clause-ranges
returns-clause-ranges c = tasks_are_in_range

pub returns-clause-answered : goal.returns-clause-answered
returns-clause-answered c = words_are_answered

pub returns-clause-asked : goal.returns-clause-asked
returns-clause-asked c = runs_are_asked
