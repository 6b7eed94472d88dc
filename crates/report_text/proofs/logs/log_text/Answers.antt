use Rattle.std.specs.Prelude.{codes}
use Rattle.std.specs.Fmt.{decimal}
use Rattle.std.proofs.Common.{◌+◌, ◌++◌, drop, append_assoc, sym, ap, ◌∙◌, arith}
use Rattle.std.proofs.lemmas.List.{append-nil}
use Rattle.edit_log.specs.Readings.{read_edit}
use Rattle.printing_meaning.specs.Printed.{end_of_line}
use Rattle.printing_meaning.specs.EditLines.{entry_line, entry_lines}
use Rattle.report_text.proofs.Entries.{edit_behind, next_line, no_line, none_within}
use Rattle.report_text.proofs.logs.log_text.Goals as goal
use Rattle.report_text.proofs.logs.log_text.Goals.{in-Some+in_ok-entry, in_default}

pub loop-before-preserved : goal.loop-before-preserved
loop-before-preserved c =
    let log = c.args.log.now in
    let before = c.loop-before.before in
    elim c.match-entry.branch [
      | in-Some+in_ok-entry w ↦
          let edit = read_edit w.in-Some.edit.now in
          let line = entry_line (before + 1) edit in
          let rest = entry_lines (before + 1 + 1) (drop (before + 1) log) in
          let there = sym (edit_behind log before) ∙ sym w.in-Some.ensures in
          ap (λ z. z ++ rest) (w.text-is ∙ w.in_ok-entry.ensures) ∙ append_assoc c.loop-before.text line rest
          ∙ ap (λ z. c.loop-before.text ++ z) (sym (next_line log before edit there)) ∙ c.loop-before.invariant
      | in_default w ↦ absurd (none_within log before (omega (arith, c.loop-before-test.true, c.version-before-end.ensures.version)) (sym (edit_behind log before) ∙ sym w.in_default.ensures))
    ]

pub returns : goal.returns
returns c =
    let log = c.args.log.now in
    let before = c.loop-before.before in
    sym (append-nil c.loop-before.text) ∙ ap (λ z. c.loop-before.text ++ z) (sym (no_line log before (omega (arith, c.loop-before-test.false, c.version-before-end.ensures.version)))) ∙ c.loop-before.invariant
    ∙ ap (λ z. z ++ entry_lines 1 log) (c.in_ok-text.ensures ∙ ap (λ v. codes "@" ++ decimal v ++ codes " log" ++ end_of_line) c.version.ensures.version)
