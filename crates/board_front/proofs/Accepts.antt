-- What follows where an accepted module is told of.
use Rattle.std.proofs.Common.{◌≡◌, ℕ, true, false, [], Option, Some, None, Bor, option_copied, is_some, not, Result, Ok, Err, IsSome, refl, sym, ap, ◌∙◌, subst, true≢false}
use Rattle.name_meaning.specs.Names.{Name, Text}
use Rattle.name_meaning.specs.Rows.{Rows}
use Rattle.edit_log_meaning.specs.Log.{Log, library_of, version_of, text_of}
use Rattle.module_graph_meaning.specs.Walks.{is_grounded}
use Rattle.library_meaning.specs.Faces.{Environment, view_face}
use Rattle.text_meaning.specs.Dependencies.{dependencies}
use Rattle.board_meaning.specs.Events.{History, log_of, library_after}
use Rattle.verdict_meaning.specs.Rounds.{told_by, verdict_of}
use Rattle.printing_meaning.specs.CarriedLines.{carried_line}
use Rattle.run_meaning.specs.Judging as judging
use Rattle.run_meaning.specs.Judging.{seen_along}
use Rattle.run_meaning.specs.ScriptOutput.{carry_text, flat_by, flat_text}
use Rattle.judged_meaning.specs.Carrying.{carry}
use Rattle.judged_meaning.specs.JudgingByRules.{printed_carriage, rules}
use Rattle.mmt_interface.specs.Carriages.{IsCarriage}
use Rattle.mmt_interface.specs.Readings.{environment_of, read_verdict}
use Rattle.mmt_interface.specs.declared.carried.Carried.{Carried}
use Rattle.mmt_interface.specs.declared.carried.CarryFault.{CarryFault}
use Rattle.mmt_interface.specs.declared.carried.CarryFault.TheVariants.{NoView, Ill, Memory}
use Rattle.mmt_interface.specs.declared.verdict.Verdict as brought
use Rattle.mmt_interface.specs.declared.verdict.Verdict.TheVariants.{Accepted, Refused}
use Rattle.report_text.specs.CarryLines.{HasLine}
use Rattle.report_text.specs.FlatTexts.{known_text}
use Rattle.verdict_board.specs.declared.replies.Told as told_by_board
use Rattle.verdict_board.specs.declared.replies.Told.TheVariants as replies
use Rattle.board_front.specs.Faces.{AreFacesOf, accepted_in}
use Rattle.board_front.specs.Carries.{is_memory}
use Rattle.board_front.specs.Told.{IsToldOf, accepted_verdict, unaccepted}
use Rattle.board_front.proofs.FlatTexts.{carried_view, carry_printed, flat_printed, none_carried}
use Rattle.board_front.proofs.Standing.{accepted_grounded}

-- The verdict that is found is that of an accepted module, and it is the verdict of the library.
module _ (log : Log) (name : Name) where
  is_told : (told : told_by_board.Told brought.Verdict) (verdict : brought.Verdict) → IsToldOf log name told → accepted_verdict told ≡ Some verdict
      → (verdict_of (library_of log) name ≡ Some (read_verdict verdict)) × (is_some (accepted_in verdict) ≡ true)
  is_told (replies.Verdict (Accepted interface) version) verdict t e =
      let q : Accepted interface ≡ verdict = cc in (
        subst (λ (v : brought.Verdict). verdict_of (library_of log) name ≡ Some (read_verdict v)) q t.0,
        subst (λ (v : brought.Verdict). is_some (accepted_in v) ≡ true) q refl,
      )
  is_told (replies.Verdict (Refused refusal) version) verdict t e = absurd (cc)
  is_told (replies.Pending version) verdict t e = absurd (cc)
  is_told (replies.Absent version) verdict t e = absurd (cc)

  pub accepted_told : (told : told_by_board.Told brought.Verdict) (found : Option (Bor brought.Verdict)) (verdict : Bor brought.Verdict) → IsToldOf log name told → option_copied found ≡ accepted_verdict told
      → found ≡ Some verdict → (verdict_of (library_of log) name ≡ Some (read_verdict verdict.now)) × (is_some (accepted_in verdict.now) ≡ true)
  accepted_told told found verdict t e h = is_told told verdict.now t (sym e ∙ ap option_copied h)

  grounded_by : (verdict : brought.Verdict) → verdict_of (library_of log) name ≡ Some (read_verdict verdict) → is_some (accepted_in verdict) ≡ true → is_grounded dependencies (library_of log) name ≡ true
  grounded_by (Accepted interface) own h = accepted_grounded (library_of log) name _ own
  grounded_by (Refused refusal) own h = absurd (true≢false (sym h))

  -- The module is grounded.
  pub grounded_told : (told : told_by_board.Told brought.Verdict) (found : Option (Bor brought.Verdict)) (verdict : Bor brought.Verdict) → IsToldOf log name told → option_copied found ≡ accepted_verdict told
      → found ≡ Some verdict → is_grounded dependencies (library_of log) name ≡ true
  grounded_told told found verdict t e h = let a = accepted_told told found verdict t e h in grounded_by verdict.now a.0 a.1

  -- No accepted module is told of.
  pub none_accepted : (told : told_by_board.Told brought.Verdict) (found : Option (Bor brought.Verdict)) → option_copied found ≡ accepted_verdict told → found ≡ None → unaccepted told ≡ true
  none_accepted told found e h = ap (λ (o : Option brought.Verdict). not (is_some o)) (sym e ∙ ap option_copied h)

-- ---- the texts over the faces of the reach, as the rules give them

module _ (log : Log) (history : History) (logged : log ≡ log_of history) (name : Name) (version : ℕ) (now : version ≡ version_of log) where
  pub flat_is : (verdict : brought.Verdict) (faces : Rows brought.Verdict) → verdict_of (library_after history) name ≡ Some (read_verdict verdict) → AreFacesOf (library_after history) name verdict faces
      → is_some (accepted_in verdict) ≡ true → known_text (environment_of faces) name version (environment_of faces name) ≡ flat_text rules log name
  unfolding flat_text
  flat_is verdict faces own are accepted =
      flat_printed (library_after history) name verdict faces own are version accepted
      ∙ ap (λ (l : Log). flat_by rules (library_of l) version name (text_of (library_of l) name)) (sym logged)
      ∙ ap (λ (v : ℕ). flat_by rules (library_of log) v name (text_of (library_of log) name)) now

  carried_is : (text : Text) → carried_line name version (seen_along (judging.environment_of rules (library_after history)) name) (printed_carriage (carry (told_by (library_after history)) name text)) ≡ carry_text rules log name text
  unfolding carry_text
  carried_is text =
      ap (λ (l : Log). carried_line name version (seen_along (judging.environment_of rules (library_of l)) name) (printed_carriage (carry (told_by (library_of l)) name text))) (sym logged)
      ∙ ap (λ (v : ℕ). carried_line name v (seen_along (judging.environment_of rules (library_of log)) name) (printed_carriage (carry (told_by (library_of log)) name text))) now

  pub carry_is : (verdict : brought.Verdict) (faces : Rows brought.Verdict) (text : Text) → verdict_of (library_after history) name ≡ Some (read_verdict verdict) → AreFacesOf (library_after history) name verdict faces
      → carried_line name version (seen_along (environment_of faces) name) (printed_carriage (carry (environment_of faces) name text)) ≡ carry_text rules log name text
  carry_is verdict faces text own are = carry_printed (library_after history) name verdict faces own are version text ∙ carried_is text

  pub nothing_is : (told : told_by_board.Told brought.Verdict) (text : Text) → IsToldOf (log_of history) name told → unaccepted told ≡ true
      → carried_line name version (seen_along (environment_of []) name) (printed_carriage (carry (environment_of []) name text)) ≡ carry_text rules log name text
  nothing_is told text t h = none_carried (log_of history) name told version text t h ∙ carried_is text

-- What a judgement comes to has a line, unless memory was wanting.
pub has_line : (environment : Environment) (view : Name) (text : Text) (carried : Result Carried CarryFault) → IsCarriage carried (carry environment view text) → is_memory carried ≡ false
    → HasLine (environment view) carried
has_line environment view text (Ok own) is other = let q = carried_view environment view text _ _ is in subst (λ known. IsSome (view_face known)) (sym q.1) refl
has_line environment view text (Err NoView) is other = tt
has_line environment view text (Err (Ill span rule)) is other = tt
has_line environment view text (Err Memory) is other = absurd (true≢false other)
