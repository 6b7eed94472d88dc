use Rattle.place_laws.proofs.FilePlaces.{lines_go_on, columns_go_on, columns_are_the_same}
use Rattle.place_laws.proofs.laws.law_file_places.Goals as goal

pub returns-clause-lines : goal.returns-clause-lines
returns-clause-lines c = lines_go_on

pub returns-clause-columns : goal.returns-clause-columns
returns-clause-columns c = columns_go_on

pub returns-clause-same : goal.returns-clause-same
returns-clause-same c = columns_are_the_same
