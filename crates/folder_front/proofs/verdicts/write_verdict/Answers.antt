use Rattle.std.proofs.Common.{sym, ap, ◌∙◌, subst}
use Rattle.std.proofs.lemmas.Result.{err_from_is_err_and}
use Rattle.mmt_outside.specs.Bytes.{appended, TookPrefix}
use Rattle.folder_front.specs.Sheets.{verdict_part, verdict_text}
use Rattle.folder_front.proofs.Told.{name_backed}
use Rattle.folder_front.proofs.Writing.{some_one, wrote_one}
use Rattle.folder_front.proofs.Results.{writes_error}
use Rattle.folder_front.proofs.verdicts.write_verdict.Goals as goal

pub returns-in_err-write_all-clause-writes : goal.returns-in_err-write_all-clause-writes
returns-in_err-write_all-clause-writes g c =
    let before = g.K.Sink.taken c.args.sink.now in
    let new = g.K.Sink.taken c.write_all.new.sink in
    let sheet = c.args.sheet.now in
    let name = c.args.name.now in
    let history = c.told.new.pass.seen in
    let p = err_from_is_err_and c.from_residual-in_err-write_all.result c.from_residual-in_err-write_all.ensures.1 in
    writes_error c.from_residual-in_err-write_all.result p.0 before new _ history p.1
    (some_one before new (verdict_part sheet name) history
    (name_backed history sheet.log name (verdict_text sheet name) (c.told.ensures.stays.logged ∙ sym c.requires.front.logged) c.in_ok-told.ensures.stands)
    (subst (TookPrefix before new) (c.as_slice.ensures ∙ c.in_ok-line.ensures) c.in_err-write_all.ensures.failed))

pub returns-clause-writes : goal.returns-clause-writes
returns-clause-writes g c =
    let before = g.K.Sink.taken c.args.sink.now in
    let new = g.K.Sink.taken c.write_all.new.sink in
    let sheet = c.args.sheet.now in
    let name = c.args.name.now in
    let history = c.told.new.pass.seen in
    wrote_one before new (verdict_part sheet name) history
    (name_backed history sheet.log name (verdict_text sheet name) (c.told.ensures.stays.logged ∙ sym c.requires.front.logged) c.in_ok-told.ensures.stands)
    (c.in_ok-write_all.ensures.all ∙ ap (appended before) (c.as_slice.ensures ∙ c.in_ok-line.ensures))
