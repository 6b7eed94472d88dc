use Rattle.std.proofs.Common.{refl, sym, ap, ◌∙◌}
use Rattle.run_meaning.specs.Files.{text_in}
use Rattle.twelf_reader.specs.Division.{read_piece}
use Rattle.folder_load.specs.Ahead.{ahead, word_of}
use Rattle.folder_load.specs.Shown.{file_of, shown_word, shown_piece_fault}
use Rattle.list_laws.proofs.Options.{mapped_none}
use Rattle.folder_load.proofs.Mapped.{mapped_some}
use Rattle.folder_load.proofs.NextModules.{follows_after}
use Rattle.folder_load.proofs.following.Following.add.Goals as goal

pub returns-in-Some-clause-damage : goal.returns-in-Some-clause-damage
returns-in-Some-clause-damage c =
    let file = file_of c.args.file.now c.args.bytes.now in
    let piece = read_piece c.args.piece.now in
    let text = text_in file piece in
    let log = ahead c.args.modules.now c.args.self.now in
    let said = sym (c.word.ensures text refl) ∙ c.in-Some.is in
    let w = mapped_some shown_word (word_of log c.name_in-name.result.now text) c.in-Some.word said in
    (w.0, ap (λ name. word_of log name text) (sym c.name_in-name.ensures) ∙ w.1, c.in_ok-fault.ensures ∙ ap (shown_piece_fault file piece) w.2)

pub returns-clause-follows : goal.returns-clause-follows
returns-clause-follows c =
    let file = file_of c.args.file.now c.args.bytes.now in
    let piece = read_piece c.args.piece.now in
    let text = text_in file piece in
    let log = ahead c.args.modules.now c.args.self.now in
    let said = sym (c.word.ensures text refl) ∙ c.in_default.is in
    let passes = mapped_none shown_word (word_of log c.name_in-name.result.now text) said in
    follows_after c.args.modules.now c.args.self.now _ c.name_in-name.result.now text c.requires.follows passes c.in_ok-put.ensures.edits c.in_ok-put.ensures.names c.in_ok-put.ensures.size
