-- The lines of what is told are those that the rules give.
use Rattle.std.proofs.Common.{◌≡◌, ◌≤◌, ◌^◌, ℕ, Bool, true, false, cond, length, Option, Some, None, is_some, refl, sym, ap, ◌∙◌, subst, true≢false, arith, Bor, IfSome, option_copied}
use Rattle.std.proofs.lemmas.List.{length-map}
use Rattle.name_meaning.specs.Limits.{text_limit}
use Rattle.name_meaning.specs.Names.{Name, Text}
use Rattle.edit_log_meaning.specs.Log.{Log, Library, library_of, version_of, text_of, is_present}
use Rattle.library_meaning.specs.Faces.{Environment, IsAbsent}
use Rattle.coherence_laws.proofs.LibrariesHold.{faces_are_coherent}
use Rattle.coherence_laws.proofs.SizesHold.{maps_have_lengths, sizes_are_lengths}
use Rattle.fault_laws.proofs.Grounds.{verdicts_stand_in_texts}
use Rattle.verdict_meaning.specs.Verdicts as verdicts
use Rattle.verdict_meaning.specs.Verdicts.{known_by}
use Rattle.verdict_meaning.specs.Rounds.{known_if, told_by, verdict_of}
use Rattle.verdict_laws.proofs.Verdicts.{verdict_exactly}
use Rattle.printing_meaning.specs.VerdictLines.{judged_line, place_text}
use Rattle.printing_meaning.specs.VerdictLines as lines
use Rattle.run_meaning.specs.Judging.{environment_of}
use Rattle.run_meaning.specs.ScriptOutput.{report_text, verdict_by}
use Rattle.judged_meaning.specs.JudgingByRules.{judged_by, judged_if, rules}
use Rattle.mmt_interface.specs.Readings.{read_verdict}
use Rattle.mmt_interface.specs.declared.verdict.Interface.TheVariants.{Theory, View}
use Rattle.mmt_interface.specs.declared.verdict.Verdict as verdict
use Rattle.mmt_interface.specs.declared.verdict.Verdict.TheVariants.{Accepted, Refused}
use Rattle.report_text.specs.ToldLines.{shown_place, text_or_none, told_text, CanBeTold, Counts, VerdictCounts, VerdictHasPlace}
use Rattle.verdict_board.specs.declared.replies.Told as told
use Rattle.verdict_board.specs.declared.replies.Told.TheVariants.{Verdict, Pending, Absent}
use Rattle.board_front.specs.Told.{IsToldOf}

known_as_judged : (verdict : verdicts.Verdict) → lines.known_by (judged_by verdict) ≡ known_by verdict
known_as_judged (verdicts.Accepted (verdicts.Theory face size)) = refl
known_as_judged (verdicts.Accepted (verdicts.View face)) = refl
known_as_judged (verdicts.Refused refusal) = refl

known_of : (present : Bool) (o : Option verdicts.Verdict) → is_some o ≡ present → cond present (lines.known_by (judged_if o)) IsAbsent ≡ known_if o
known_of false None h = refl
known_of false (Some verdict) h = absurd (true≢false h)
known_of true None h = absurd (true≢false (sym h))
known_of true (Some verdict) h = known_as_judged verdict

-- What is known by the rules is what the verdicts of the library tell.
pub rules_tell : (library : Library) → environment_of rules library ≡ told_by library
rules_tell library = λ i name. known_of (is_present library name) (verdict_of library name) (verdict_exactly library name) i

module _ (log : Log) (name : Name) where
  counts_verdict : (answer : verdict.Verdict) → verdict_of (library_of log) name ≡ Some (read_verdict answer) → VerdictCounts (told_by (library_of log)) answer
  counts_verdict (Accepted (Theory face size)) h = sizes_are_lengths (library_of log) name _ size h
  counts_verdict (Accepted (View face)) h = sym (length-map face.map _) ∙ maps_have_lengths (told_by (library_of log)) name _ (faces_are_coherent (library_of log)) (ap known_if h)
  counts_verdict (Refused refusal) h = tt

  -- The numbers of what is told are those that the rules give.
  pub counts : (told : told.Told verdict.Verdict) → IsToldOf log name told → Counts (environment_of rules (library_of log)) told
  counts (Verdict answer version) t = subst (λ (z : Environment). VerdictCounts z answer) (sym (rules_tell (library_of log))) (counts_verdict answer t.0)
  counts (Pending version) t = tt
  counts (Absent version) t = tt

  has_place : (text : Option Text) (answer : verdict.Verdict) → text ≡ text_of (library_of log) name → ((own : Text) → text ≡ Some own → length own ≤ 2 ^ 20)
      → verdict_of (library_of log) name ≡ Some (read_verdict answer) → VerdictHasPlace answer text
  has_place text (Accepted interface) e short h = tt
  has_place None (Refused refusal) e short h =
      absurd (true≢false (sym (ap is_some h) ∙ verdict_exactly (library_of log) name ∙ ap is_some (sym e)))
  has_place (Some own) (Refused refusal) e short h =
      let s = short own refl in
      let w = verdicts_stand_in_texts (library_of log) name own _ (sym e) h in
      (let f = w.forward in let b = w.before in (omega (arith, s), omega (arith, f, b)))

  -- It has its place.
  pub can_be_told : (text : Option Text) (told : told.Told verdict.Verdict) → text ≡ text_of (library_of log) name → ((own : Text) → text ≡ Some own → length own ≤ 2 ^ 20)
      → IsToldOf log name told → CanBeTold told text
  can_be_told text (Verdict answer version) e short t = has_place text answer e short t.0
  can_be_told text (Pending version) e short t = absurd t
  can_be_told text (Absent version) e short t = tt

  printed_verdict : (text : Option Text) (answer : verdict.Verdict) (version : ℕ) → text ≡ text_of (library_of log) name
      → verdict_of (library_of log) name ≡ Some (read_verdict answer) → version ≡ version_of log
      → judged_line (environment_of rules (library_of log)) name version (shown_place None (text_or_none text)) (judged_by (read_verdict answer)) ≡ verdict_by rules (library_of log) (version_of log) name text
  printed_verdict None answer version e h v = absurd (true≢false (sym (ap is_some h) ∙ verdict_exactly (library_of log) name ∙ ap is_some (sym e)))
  printed_verdict (Some own) answer version e h v =
      ap (λ (z : ℕ). judged_line (environment_of rules (library_of log)) name z (place_text own) (judged_by (read_verdict answer))) v
      ∙ ap (λ z. judged_line (environment_of rules (library_of log)) name (version_of log) (place_text own) (judged_if z)) (sym h)

  printed_absent : (text : Option Text) (version : ℕ) → is_some text ≡ false → version ≡ version_of log
      → told_text (environment_of rules (library_of log)) name (shown_place None (text_or_none text)) (Absent version) ≡ verdict_by rules (library_of log) (version_of log) name text
  printed_absent (Some own) version p v = absurd (true≢false p)
  printed_absent None version p v = ap (λ (z : ℕ). told_text (environment_of rules (library_of log)) name (shown_place None (text_or_none None)) (Absent z)) v

  -- What is told is printed as the rules report it.
  pub told_printed : (text : Option Text) (told : told.Told verdict.Verdict) → text ≡ text_of (library_of log) name → IsToldOf log name told
      → told_text (environment_of rules (library_of log)) name (shown_place None (text_or_none text)) told ≡ report_text rules log name
  unfolding report_text
  told_printed text (Verdict answer version) e t = printed_verdict text answer version e t.0 t.1 ∙ ap (verdict_by rules (library_of log) (version_of log) name) e
  told_printed text (Pending version) e t = absurd t
  told_printed text (Absent version) e t = printed_absent text version (ap is_some e ∙ t.0) t.1 ∙ ap (verdict_by rules (library_of log) (version_of log) name) e

-- A text that a log has is short.
pub short_copied : (found : Option (Bor Text)) → IfSome found (λ text. length text.now ≤ text_limit) → (own : Text) → option_copied found ≡ Some own → length own ≤ 2 ^ 20
short_copied None short own e = absurd (cc)
short_copied (Some text) short own e = let q : text.now ≡ own = cc in subst (λ (z : Text). length z ≤ 2 ^ 20) q short
