-- What stands goes on to stand where the history goes on without an edit.
use Rattle.std.proofs.Common.{◌≡◌, Bool, true, false, List, [], ◌∷◌, ◌++◌, ◌&&◌, not, is_some, append-nil, append_assoc, Option, Some, None, refl, sym, ap, ◌∙◌, subst, true≢false}
use Rattle.std.proofs.lemmas.List.{append_cancel_left}
use Rattle.std.specs.List.{cons_option}
use Rattle.name_meaning.specs.Names.{Name}
use Rattle.edit_log_meaning.specs.Log.{Edit, Log, Library, library_of, is_present}
use Rattle.module_graph_meaning.specs.Walks.{is_grounded, is_ungrounded}
use Rattle.text_meaning.specs.Dependencies.{dependencies}
use Rattle.board_meaning.specs.Events.{Entry, History, edit_in, log_of}
use Rattle.board_meaning.specs.Standing.{is_edit_of, stands}
use Rattle.board_meaning.specs.Legal.{IsLegal}
use Rattle.board_laws.proofs.Histories.{log_append}
use Rattle.board_laws.proofs.Legality.{legal_front}
use Rattle.board_laws.proofs.Following.{stands_on}
use Rattle.link_meaning.specs.Refusals.{Refusal}
use Rattle.fault_laws.proofs.Grounds.{cycles_are_ungrounded}
use Rattle.verdict_meaning.specs.Verdicts.{Interface, Accepted, Refused}
use Rattle.verdict_meaning.specs.Rounds.{verdict_of}
use Rattle.verdict_laws.proofs.Verdicts.{verdict_exactly}
use Rattle.board_front.specs.Staying.{AllStand, StandsIfGrounded, Stays}

no_first : (entry : Entry) (later : History) → log_of (entry ∷ later) ≡ [] → (edit_in entry ≡ None) × (log_of later ≡ [])
unfolding log_of
no_first entry later h = by (edit_in entry) refl h
  where
    by : (o : Option Edit) → edit_in entry ≡ o → cons_option o (log_of later) ≡ [] → (edit_in entry ≡ None) × (log_of later ≡ [])
    by None e g = (e, g)
    by (Some edit) e g = absurd (cc)

one_more : (history : History) (entry : Entry) (name : Name) → IsLegal dependencies (history ++ entry ∷ []) → edit_in entry ≡ None → stands dependencies history name ≡ true
    → stands dependencies (history ++ entry ∷ []) name ≡ true
one_more history entry name legal none s = stands_on dependencies history (legal_front dependencies history (entry ∷ []) legal) entry name s (λ other m. ap (is_edit_of other) none)

stands_later : (history later : History) (name : Name) → IsLegal dependencies (history ++ later) → log_of later ≡ [] → stands dependencies history name ≡ true → stands dependencies (history ++ later) name ≡ true
stands_later history [] name legal none s = subst (λ (h : History). stands dependencies h name ≡ true) (sym (append-nil history)) s
stands_later history (entry ∷ later) name legal none s =
    let q = no_first entry later none in
    let a = append_assoc history (entry ∷ []) later in
    let l = subst (IsLegal dependencies) (sym a) legal in
    subst (λ (h : History). stands dependencies h name ≡ true) a
    (stands_later (history ++ entry ∷ []) later name l q.1 (one_more history entry name (legal_front dependencies (history ++ entry ∷ []) later l) q.0 s))

pub stands_still : (history later : History) (name : Name) → Stays history later → stands dependencies history name ≡ true → stands dependencies later name ≡ true
stands_still history later name stays s =
    subst (λ (h : History). stands dependencies h name ≡ true) (sym stays.begins)
    (stands_later history stays.later name (subst (IsLegal dependencies) stays.begins stays.legal) none s)
  where
    none : log_of stays.later ≡ []
    none =
        append_cancel_left (log_of history) (log_of stays.later) []
        (sym (log_append history stays.later) ∙ ap log_of (sym stays.begins) ∙ stays.logged ∙ sym (append-nil (log_of history)))

pub still_if_grounded : (history later : History) (name : Name) → Stays history later → StandsIfGrounded history name → StandsIfGrounded later name
still_if_grounded history later name stays s g =
    stands_still history later name stays (s (subst (λ (l : Log). is_grounded dependencies (library_of l) name ≡ true) stays.logged g))

pub all_still : (history later : History) (names : List Name) → Stays history later → AllStand history names → AllStand later names
all_still history later names stays all name m = still_if_grounded history later name stays (all name m)

-- An accepted module is grounded.
pub accepted_grounded : (library : Library) (name : Name) (interface : Interface) → verdict_of library name ≡ Some (Accepted interface) → is_grounded dependencies library name ≡ true
accepted_grounded library name interface h = by (is_present library name) (is_ungrounded dependencies library name) refl refl
  where
    not_refused : (refusal : Refusal) → Some (Accepted interface) ≡ Some (Refused refusal) → ⊥
    not_refused refusal e = cc

    by : (p u : Bool) → is_present library name ≡ p → is_ungrounded dependencies library name ≡ u → (p && not u) ≡ true
    by true false e f = refl
    by false u e f = absurd (true≢false (sym (ap is_some h) ∙ verdict_exactly library name ∙ e))
    by true true e f = let q = (cycles_are_ungrounded library name).1 f in absurd (not_refused q.0 (sym h ∙ q.1))
