-- Histories that go on, one after another.
use Rattle.std.proofs.Common.{◌≡◌, true, false, [], ◌++◌, append-nil, append_assoc, option_to_list, refl, sym, ap, ◌∙◌, subst}
use Rattle.edit_log_meaning.specs.Log.{Edit, Log}
use Rattle.text_meaning.specs.Dependencies.{dependencies}
use Rattle.board_meaning.specs.Events.{Entry, History}
use Rattle.board_meaning.specs.Machine.{Call, EditCall, entry_by, may_call, after_call}
use Rattle.board_meaning.specs.Legal.{IsLegal}
use Rattle.board_laws.specs.HistoryLaws.{is_edit_call}
use Rattle.board_laws.proofs.Legality.{legal_call}
use Rattle.board_laws.proofs.Entries.{edits_are_appended, others_leave_log}
use Rattle.turn_meaning.specs.Passes.{Pass}
use Rattle.board_seats.specs.Seats.{Keeps}
use Rattle.board_front.specs.Staying.{GoesOn, Stays, Edits}

pub stays_same : (history : History) → IsLegal dependencies history → Stays history history
stays_same history legal = record { legal = legal; later = []; begins = sym (append-nil history); logged = refl }

-- What goes on to this log, and then without an edit, goes on to this log.
pub stays_on : (log : Log) (first second third : History) → GoesOn log first second → Stays second third → GoesOn log first third
stays_on log first second third h k =
    record {
      legal = k.legal;
      later = h.later ++ k.later;
      begins = k.begins ∙ ap (λ z. z ++ k.later) h.begins ∙ append_assoc first h.later k.later;
      logged = k.logged ∙ h.logged;
    }

-- A call that is no edit.
pub stays_call : (history after : History) (call : Call) → IsLegal dependencies history → may_call history 0 call ≡ true → is_edit_call call ≡ false
    → after ≡ after_call dependencies history 0 call → Stays history after
unfolding after_call
stays_call history after call legal may no_edit e =
    subst (Stays history) (sym e)
    (record {
      legal = legal_call dependencies history 0 call legal may;
      later = option_to_list (entry_by dependencies history 0 call);
      begins = refl;
      logged = others_leave_log dependencies history 0 call no_edit;
    })

-- An edit.
pub edits_call : (history after : History) (edit : Edit) → IsLegal dependencies history → after ≡ after_call dependencies history 0 (EditCall edit) → Edits edit history after
unfolding after_call may_call
edits_call history after edit legal e =
    subst (Edits edit history) (sym e)
    (record {
      legal = legal_call dependencies history 0 (EditCall edit) legal refl;
      later = option_to_list (entry_by dependencies history 0 (EditCall edit));
      begins = refl;
      logged = edits_are_appended dependencies history 0 edit;
    })

pub keeps_on : {Lock : Type 0} (first second third : Pass Lock Entry) → Keeps first second → Keeps second third → Keeps first third
keeps_on first second third h k = k ∙ ap (λ (p : Pass _ Entry). record p { seen = third.seen }) h
