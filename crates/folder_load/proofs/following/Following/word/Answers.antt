use Rattle.std.proofs.Common.{◌≡◌, ℕ, ◌+◌, Bool, sym, ap, ◌∙◌, arith, length-append}
use Rattle.std.specs.Option.{option_map}
use Rattle.std.proofs.lemmas.List.{length-map}
use Rattle.edit_log_meaning.specs.Log.{version_of}
use Rattle.edit_log.specs.Readings.{read_edit}
use Rattle.folder_load.specs.Ahead.{ahead, edits_of, word_by}
use Rattle.folder_load.specs.Shown.{shown_word}
use Rattle.folder_load.proofs.FreshLogs.{word_is}
use Rattle.folder_load.proofs.following.Following.word.Goals as goal

alike : {a b : Bool} {j k l m n p : ℕ} → a ≡ b → j ≡ k → l ≡ m → n ≡ p → word_by a j l n ≡ word_by b k m p
alike there bytes modules size = λ i. word_by (there i) (bytes i) (modules i) (size i)

pub returns : goal.returns
returns c text same =
    let modules = c.args.modules.now in
    let own = c.args.self.now in
    let name = c.args.name.now in
    let there = c.has.ensures ∙ sym (c.requires.names name) in
    let count : c.version.result + c.len.result ≡ version_of (ahead modules own) =
    omega (arith, c.version.ensures.version, c.len.ensures, length-append modules.log (edits_of own), length-map own.edits.items read_edit) in
    c.refused.ensures ∙ ap (option_map shown_word) (alike there (sym same) count c.requires.size ∙ sym (word_is (ahead modules own) name text c.requires.fresh))
