use Rattle.std.proofs.Common.{None, sym, ap, subst, ◌∙◌}
use Rattle.text_meaning.specs.Splitting.{Pieces, SyntaxFault, UnsupportedFault}
use Rattle.printing_meaning.specs.FolderLines.{BadSyntax, Unsupported}
use Rattle.mmt_syntax.specs.declared.file_fault.FileWord.TheVariants as words
use Rattle.twelf_reader.specs.Division.{read_pieces}
use Rattle.folder_load.specs.Ahead.{IsFileOutcome}
use Rattle.folder_load.specs.Shown.{file_of, shown_bare_fault}
use Rattle.folder_load.proofs.FileAnswers.{short_answer, place_is}
use Rattle.folder_load.proofs.PlacesOfPieces.{division_stands}
use Rattle.folder_load.proofs.file.divided.Goals as goal

pub modules_of-requires-clause-stand : goal.modules_of-requires-clause-stand
modules_of-requires-clause-stand c = division_stands c.args.bytes.now (Pieces (read_pieces c.in-Ok.pieces)) c.in-Ok.ensures.ok

pub place_of-requires-clause-within : goal.place_of-requires-clause-within
place_of-requires-clause-within c =
    let fault = rw c.in-Err-Syntax.field-0-is at c.in-Err-Syntax.ensures.fault in
    division_stands c.args.bytes.now (SyntaxFault c.in-Err-Syntax.at) fault

pub place_of-requires-in-Err-Unsupported-clause-within : goal.place_of-requires-in-Err-Unsupported-clause-within
place_of-requires-in-Err-Unsupported-clause-within c =
    let fault = rw c.in-Err-Unsupported.field-0-is at c.in-Err-Unsupported.ensures.fault in
    division_stands c.args.bytes.now (UnsupportedFault c.in-Err-Unsupported.at) fault

pub returns-in-Ok-clause-outcome : goal.returns-in-Ok-clause-outcome
returns-in-Ok-clause-outcome c =
    let modules = c.args.modules.now in
    let file = file_of c.args.file.now c.args.bytes.now in
    subst (IsFileOutcome modules file c.modules_of.result)
    (sym (short_answer modules.log file (Pieces (read_pieces c.in-Ok.pieces)) c.requires.small c.in-Ok.ensures.ok)) c.modules_of.ensures.outcome

pub returns-in_ok-bare_fault-in-Err-Syntax-clause-outcome : goal.returns-in_ok-bare_fault-in-Err-Syntax-clause-outcome
returns-in_ok-bare_fault-in-Err-Syntax-clause-outcome c =
    let file = file_of c.args.file.now c.args.bytes.now in
    let at = c.in-Err-Syntax.at in
    let fault = rw c.in-Err-Syntax.field-0-is at c.in-Err-Syntax.ensures.fault in
    let place = place_is c.place_of.result c.args.bytes.now at c.place_of.ensures.line c.place_of.ensures.column in (
      record { at = at; word = BadSyntax; about = None },
      short_answer c.args.modules.now.log file (SyntaxFault at) c.requires.small fault,
      c.in_ok-bare_fault-in-Err-Syntax.ensures ∙ ap (λ p. shown_bare_fault file.name p words.Syntax) place,
    )

pub returns-in_ok-bare_fault-in-Err-Unsupported-clause-outcome : goal.returns-in_ok-bare_fault-in-Err-Unsupported-clause-outcome
returns-in_ok-bare_fault-in-Err-Unsupported-clause-outcome c =
    let file = file_of c.args.file.now c.args.bytes.now in
    let at = c.in-Err-Unsupported.at in
    let fault = rw c.in-Err-Unsupported.field-0-is at c.in-Err-Unsupported.ensures.fault in
    let place = place_is c.place_of-in-Err-Unsupported.result c.args.bytes.now at c.place_of-in-Err-Unsupported.ensures.line c.place_of-in-Err-Unsupported.ensures.column in (
      record { at = at; word = Unsupported; about = None },
      short_answer c.args.modules.now.log file (UnsupportedFault at) c.requires.small fault,
      c.in_ok-bare_fault-in-Err-Unsupported.ensures ∙ ap (λ p. shown_bare_fault file.name p words.Unsupported) place,
    )
