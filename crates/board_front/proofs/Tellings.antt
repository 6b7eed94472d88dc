-- What a report tells, once a verdict is not to come.
use Rattle.std.proofs.Common.{◌≡◌, ◌∙◌, ℕ, Bool, true, false, not, ◌||◌, Option, Some, None, sym, refl, true≢false}
use Rattle.std.proofs.lemmas.Bool.{and_parts}
use Rattle.name_meaning.specs.Names.{Name}
use Rattle.edit_log_meaning.specs.Log.{is_present}
use Rattle.module_graph_meaning.specs.Walks.{is_ungrounded}
use Rattle.text_meaning.specs.Dependencies.{dependencies}
use Rattle.board_meaning.specs.Events.{History, library_after, log_of, version_after}
use Rattle.board_meaning.specs.Standing.{stands}
use Rattle.board_meaning.specs.Machine.{IsAbsent, told_by, is_known, report_reply}
use Rattle.board_laws.proofs.Told.{report_tells}
use Rattle.verdict_meaning.specs.Rounds.{modules}
use Rattle.mmt_interface.specs.Readings.{read_verdict}
use Rattle.mmt_interface.specs.declared.verdict.Verdict as verdict
use Rattle.verdict_board.specs.Readings.{read_told}
use Rattle.verdict_board.specs.declared.replies.Told.TheVariants.{Verdict, Absent}
use Rattle.board_front.specs.Staying.{StandsIfGrounded}
use Rattle.board_front.specs.Told.{IsToldOf}

absent_by : {Answer : Type 0} (version told : ℕ) (present known : Bool) (answer : Option Answer) → told_by version present known answer ≡ IsAbsent told → (present ≡ false) × (told ≡ version)
absent_by version told false known answer h = let e : version ≡ told = cc in (refl, sym e)
absent_by version told true false answer h = absurd (cc)
absent_by version told true true None h = absurd (cc)
absent_by version told true true (Some a) h = absurd (cc)

module _ (history : History) (name : Name) where
  pub verdict_told : (answer : verdict.Verdict) (version : ℕ) → read_told read_verdict (Verdict answer version) ≡ report_reply modules history name
      → IsToldOf (log_of history) name (Verdict answer version)
  verdict_told answer version h = let t = (report_tells modules history name (read_verdict answer) version).0 (sym h) in (t.told, t.now)

  pub absent_told : (version : ℕ) → read_told read_verdict (Absent version) ≡ report_reply modules history name → IsToldOf (log_of history) name (Absent version)
  unfolding report_reply
  absent_told version h =
      absent_by (version_after history) version (is_present (library_after history) name) (is_known dependencies history name) (modules.answer (library_after history) name) (sym h)

  stands_known : (u s : Bool) → (u || s) ≡ true → not u ≡ true → s ≡ true
  stands_known true s k g = absurd (true≢false (sym g))
  stands_known false s k g = k

  pub verdict_stands : (answer : verdict.Verdict) (version : ℕ) → read_told read_verdict (Verdict answer version) ≡ report_reply modules history name → StandsIfGrounded history name
  verdict_stands answer version h g =
      let t = (report_tells modules history name (read_verdict answer) version).0 (sym h) in
      stands_known (is_ungrounded dependencies (library_after history) name) (stands dependencies history name) t.known
      (and_parts (is_present (library_after history) name) (not (is_ungrounded dependencies (library_after history) name)) g).1

  pub absent_stands : (version : ℕ) → read_told read_verdict (Absent version) ≡ report_reply modules history name → StandsIfGrounded history name
  absent_stands version h g =
      let p = (absent_told version h).0 in
      absurd (true≢false (sym (and_parts (is_present (library_after history) name) (not (is_ungrounded dependencies (library_after history) name)) g).0 ∙ p))
