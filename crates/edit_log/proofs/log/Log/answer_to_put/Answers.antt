use Rattle.std.proofs.Common.{Some, refl, sym, ap, ◌∙◌, subst, length, ◌<◌}
use Rattle.edit_log_meaning.specs.Log as logs
use Rattle.edit_log_meaning.specs.Log.{library_of}
use Rattle.name_meaning.specs.Limits.{module_limit}
use Rattle.name_laws.proofs.Order.{same_sound, same_turned}
use Rattle.edit_log.specs.Readings.{IsAnswer}
use Rattle.edit_log.proofs.Tables.{length_read}
use Rattle.edit_log.proofs.Answering.{put_long, put_same, put_too_many, put_new, put_other}
use Rattle.edit_log.proofs.log.Log.answer_to_put.Goals as goal
use Rattle.edit_log.proofs.log.Log.answer_to_put.Goals.{in-Some+else-eq, in-None+else-len-ge-MODULE_LIMIT}

pub returns-then-text-gt-TEXT_LIMIT-clause-answer : goal.returns-then-text-gt-TEXT_LIMIT-clause-answer
returns-then-text-gt-TEXT_LIMIT-clause-answer c = put_long _ _ _ c.if-text-gt-TEXT_LIMIT.true

pub returns-then-eq-clause-answer : goal.returns-then-eq-clause-answer
returns-then-eq-clause-answer c =
    rw c.version.ensures.version (put_same c.args.self.now c.args.name.now c.args.text.now c.if-text-gt-TEXT_LIMIT.false
    (sym c.in-Some.ensures.text ∙ ap Some (same_sound c.in-Some.present.now c.args.text.now (sym c.if-eq.ensures))))

pub returns-then-len-ge-MODULE_LIMIT-clause-answer : goal.returns-then-len-ge-MODULE_LIMIT-clause-answer
returns-then-len-ge-MODULE_LIMIT-clause-answer c =
    put_too_many c.args.self.now c.args.name.now c.args.text.now c.if-text-gt-TEXT_LIMIT.false (sym c.in-None.ensures.text)
    (rw (← c.self.view_is, ← c.self.invariant.library, length_read c.self.inside.texts, ← c.len.ensures.len) c.if-len-ge-MODULE_LIMIT.true)

pub returns-clause-answer : goal.returns-clause-answer
returns-clause-answer c =
    let made = c.made_unless_full.ensures.answer (logs.Put c.args.name.now c.args.text.now) refl in
    elim c.match-text.branch [
      | in-Some+else-eq w ↦ subst (IsAnswer c.made_unless_full.result) (sym (put_other c.args.self.now c.args.name.now c.args.text.now c.if-text-gt-TEXT_LIMIT.false
          w.in-Some.present.now (sym w.in-Some.ensures.text) (same_turned w.in-Some.present.now c.args.text.now (sym w.if-eq.ensures)))) made
      | in-None+else-len-ge-MODULE_LIMIT w ↦
          let few : length (library_of c.args.self.now) < module_limit = rw (← c.self.view_is, ← c.self.invariant.library, length_read c.self.inside.texts, ← w.len.ensures.len) w.if-len-ge-MODULE_LIMIT.false in
          subst (IsAnswer c.made_unless_full.result) (sym (put_new c.args.self.now c.args.name.now c.args.text.now c.if-text-gt-TEXT_LIMIT.false (sym w.in-None.ensures.text) few)) made
    ]
