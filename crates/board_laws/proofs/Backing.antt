-- What is told is backed by the history.
use Rattle.std.proofs.Common.{◌≡◌, ℕ, ◌≤◌, Bool, true, false, not, List, [], ◌++◌, ◌||◌, cond, take, Option, Some, None, refl, sym, ap, ◌∙◌, subst, true≢false, arith, append-nil, append_assoc}
use Rattle.std.proofs.lemmas.Bool.{and_parts}
use Rattle.name_meaning.specs.Names.{Name}
use Rattle.edit_log_meaning.specs.Log.{library_of, is_present}
use Rattle.module_graph_meaning.specs.Walks.{Dependencies, is_ungrounded, is_grounded}
use Rattle.module_graph_meaning.specs.Subject.{Subject, answers_of}
use Rattle.list_laws.proofs.Places.{take_front, take_length}
use Rattle.board_meaning.specs.Events.{History, log_of, library_after, version_after}
use Rattle.board_meaning.specs.Standing.{stands, IsBacked}
use Rattle.board_meaning.specs.Machine.{IsVerdict, report_reply, answers_reply}
use Rattle.board_meaning.specs.Legal.{IsLegal}
use Rattle.board_meaning.specs.Points.{Reports, AsksAnswers, ReportReply, AnswersReply, Happens}
use Rattle.board_laws.proofs.Histories.{log_append, version_grows}
use Rattle.board_laws.proofs.Legality.{legal_front}
use Rattle.board_laws.proofs.Standings.{standing_grounded}
use Rattle.board_laws.proofs.Told.{report_tells}
use Rattle.board_laws.proofs.Replying.{questions_are_told}

pub standing_backed : (dependencies : Dependencies) (H : History) (n : Name) → stands dependencies H n ≡ true → IsBacked dependencies H n (version_after H)
standing_backed dependencies H n t = record { beginning = H; later = []; goes_on = sym (append-nil H); at_version = refl; standing = t }

pub stays_backed : (dependencies : Dependencies) (H later : History) (n : Name) (v : ℕ) → IsBacked dependencies H n v → IsBacked dependencies (H ++ later) n v
stays_backed dependencies H later n v b = record {
  beginning = b.beginning;
  later = b.later ++ later;
  goes_on = ap (λ (z : History). z ++ later) b.goes_on ∙ append_assoc b.beginning b.later later;
  at_version = b.at_version;
  standing = b.standing;
}

pub backed_grounded : (dependencies : Dependencies) (H : History) (n : Name) (v : ℕ) → IsLegal dependencies H → IsBacked dependencies H n v
    → (v ≤ version_after H) × (is_grounded dependencies (library_of (take v (log_of H))) n ≡ true)
backed_grounded dependencies H n v l b = (
  let g = version_grows b.beginning b.later in
      subst (λ (k : ℕ). k ≤ version_after H) b.at_version (subst (λ (z : History). version_after b.beginning ≤ version_after z) (sym b.goes_on) g),
  subst (λ z. is_grounded dependencies (library_of z) n ≡ true) (sym edits)
      (standing_grounded dependencies b.beginning (legal_front dependencies b.beginning b.later (subst (IsLegal dependencies) b.goes_on l)) n b.standing),
)
  where
    edits : take v (log_of H) ≡ log_of b.beginning
    edits =
        ap (λ (k : ℕ). take k (log_of H)) (sym b.at_version) ∙ ap (λ z. take (version_after b.beginning) (log_of z)) b.goes_on
        ∙ ap (take (version_after b.beginning)) (log_append b.beginning b.later)
        ∙ take_front (log_of b.beginning) (log_of b.later) (version_after b.beginning) (omega arith) ∙ take_length (log_of b.beginning)

pub told_backed : {Answer : Type 0} (subject : Subject Answer) (seen : History) (pass : ℕ) (n : Name) (answer : Answer) (v : ℕ) (after : History)
    → Happens subject seen pass (Reports n) (ReportReply (IsVerdict answer v)) after
    → is_grounded subject.dependencies (library_after after) n ≡ true → IsBacked subject.dependencies after n v
told_backed {Answer} subject seen pass n answer v after h g =
    let e = (questions_are_told subject seen pass n (ReportReply (IsVerdict answer v)) after).0 h in
    let q : IsVerdict answer v ≡ report_reply subject after n = cc in
    let t = (report_tells subject after n answer v).0 (sym q) in
    subst (IsBacked subject.dependencies after n) (sym t.now)
    (standing_backed subject.dependencies after n
    (by (is_ungrounded subject.dependencies (library_after after) n) (stands subject.dependencies after n) (and_parts (is_present (library_after after) n) (not (is_ungrounded subject.dependencies (library_after after) n)) g).1 t.known))
  where
    by : (u s : Bool) → not u ≡ true → (u || s) ≡ true → s ≡ true
    by true s f k = absurd (true≢false (sym f))
    by false s f k = k

pub answers_backed : {Answer : Type 0} (subject : Subject Answer) (seen : History) (pass : ℕ) (n : Name) (answers : List (Name × Option Answer)) (after : History)
    → Happens subject seen pass (AsksAnswers n) (AnswersReply (Some answers)) after → IsBacked subject.dependencies after n (version_after after)
unfolding answers_reply
answers_backed {Answer} subject seen pass n answers after h =
    let e = (questions_are_told subject seen pass n (AnswersReply (Some answers)) after).1 h in
    let q : Some answers ≡ answers_reply subject after n = cc in
    standing_backed subject.dependencies after n (and_parts (is_grounded subject.dependencies (library_after after) n) (stands subject.dependencies after n) (by _ (sym q))).1
  where
    by : (b : Bool) → cond b (Some (answers_of subject (library_after after) n)) None ≡ Some answers → b ≡ true
    by true k = refl
    by false k = absurd (cc)
