use Rattle.std.proofs.Common.{None}
use Rattle.printing_meaning.specs.FolderLines.{LongFile}
use Rattle.folder_load.specs.Shown.{file_of}
use Rattle.folder_load.proofs.FileAnswers.{long_answer}
use Rattle.folder_load.proofs.file.file_modules.Goals as goal

pub returns-in_ok-bare_fault-in-TooBig-clause-outcome : goal.returns-in_ok-bare_fault-in-TooBig-clause-outcome
returns-in_ok-bare_fault-in-TooBig-clause-outcome c bytes read =
    let file = file_of c.args.file.now bytes in
    let long = rw c.in-TooBig.is at read in
    (record { at = 0; word = LongFile; about = None }, long_answer c.args.modules.now.log file long, c.in_ok-bare_fault-in-TooBig.ensures)
