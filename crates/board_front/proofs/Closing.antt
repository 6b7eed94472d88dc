-- A board that was closed.
use Rattle.std.proofs.Common.{◌≡◌, ℕ, Bool, true, false, cond, [], ◌∷◌, ◌++◌, append-nil, option_to_list, Some, None, inl, refl, ap, ◌∙◌}
use Rattle.std.specs.Prelude.{option_map}
use Rattle.list_laws.proofs.Members.{any_found, any_of, append_left, append_right}
use Rattle.turn_meaning.specs.Passes.{Pass}
use Rattle.text_meaning.specs.Dependencies.{dependencies}
use Rattle.board_meaning.specs.Events.{Close, Entry, History, entry_of}
use Rattle.board_meaning.specs.Machine.{CloseCall, entry_by, event_of}
use Rattle.board_meaning.specs.Points.{Makes, NoReply}
use Rattle.board_meaning.specs.Ready.{is_close, is_closed}
use Rattle.verdict_meaning.specs.Rounds.{modules}
use Rattle.board_seats.specs.Seats.{IsCalled}
use Rattle.board_front.specs.Staying.{Stays}

pub closed_after : (point : History) (pass : ℕ) → is_closed (point ++ option_to_list (entry_by dependencies point pass CloseCall)) ≡ true
unfolding event_of is_closed
closed_after point pass = by (is_closed point) refl
  where
    by : (b : Bool) → is_closed point ≡ b → is_closed (point ++ option_to_list (option_map (entry_of point pass) (cond b None (Some Close)))) ≡ true
    by true e = ap is_closed (append-nil point) ∙ e
    by false e =
        any_of (λ (entry : Entry). is_close entry.event) (point ++ entry_of point pass Close ∷ []) (entry_of point pass Close)
        (append_right point (entry_of point pass Close ∷ []) (entry_of point pass Close) (inl refl)) refl

-- What was closed stays closed.
pub closed_later : (history after : History) → Stays history after → is_closed history ≡ true → is_closed after ≡ true
unfolding is_closed
closed_later history after stays closed =
    let close = any_found (λ (entry : Entry). is_close entry.event) history closed in
    ap is_closed stays.begins ∙ any_of (λ (entry : Entry). is_close entry.event) (history ++ stays.later) close.0 (append_left history stays.later close.0 close.1) close.2

pub call_closes : {Lock : Type 0} (before after : Pass Lock Entry) → IsCalled modules before (Makes CloseCall) (Some NoReply) after → is_closed after.seen ≡ true
call_closes before after r = ap is_closed r.happens.sees ∙ closed_after r.happens.point before.number
