-- The answers that a board gives of a grounded name whose verdict stands.
use Rattle.std.proofs.Common.{◌≡◌, Bool, true, false, cond, not, ◌&&◌, List, [], ◌∷◌, ◌++◌, Option, Some, None, is_some, IfOk, OnOk, Result, Ok, Err, refl, sym, subst, true≢false}
use Rattle.std.proofs.lemmas.Bool.{and_parts}
use Rattle.name_meaning.specs.Names.{Name, Text}
use Rattle.name_meaning.specs.Rows.{Rows, row_of}
use Rattle.edit_log_meaning.specs.Log.{Log, Library, library_of, text_of, is_present}
use Rattle.edit_log_laws.proofs.Libraries.{library_ascending}
use Rattle.module_graph_meaning.specs.Subject.{answers_of}
use Rattle.module_graph_meaning.specs.Walks.{is_grounded, is_ungrounded}
use Rattle.text_meaning.specs.Dependencies.{dependencies}
use Rattle.board_meaning.specs.Events.{History, log_of, library_after}
use Rattle.board_meaning.specs.Standing.{stands}
use Rattle.board_meaning.specs.Machine.{answers_reply}
use Rattle.module_graph.specs.Subjects.{IsGiven, read_answers}
use Rattle.verdict_meaning.specs.Rounds.{modules, verdict_of}
use Rattle.mmt_interface.specs.Readings.{read_verdict}
use Rattle.mmt_interface.specs.declared.verdict.Verdict.{Verdict}
use Rattle.module_check.specs.PresentRows.{present_rows}
use Rattle.module_check.proofs.AnsweredFaces.{itself_absent}
use Rattle.board_front.specs.Faces.{AreFacesOf}
use Rattle.board_front.specs.Staying.{Stays}
use Rattle.board_front.proofs.ReachedFaces.{faces_of_reach}
use Rattle.board_front.proofs.Standing.{stands_still}

reply_given : (history : History) (name : Name) (rows : List (Name × Option _)) → Some rows ≡ answers_reply modules history name
    → (is_grounded dependencies (library_after history) name ≡ true) × (answers_of modules (library_after history) name ≡ rows)
unfolding answers_reply
reply_given history name rows h = by (is_grounded dependencies (library_after history) name) (stands dependencies history name) refl h
  where
    by : (g s : Bool) → is_grounded dependencies (library_after history) name ≡ g → Some rows ≡ cond (g && s) (Some (answers_of modules (library_after history) name)) None
        → (is_grounded dependencies (library_after history) name ≡ true) × (answers_of modules (library_after history) name ≡ rows)
    by true true e k = let q : rows ≡ answers_of modules (library_after history) name = cc in (e, sym q)
    by true false e k = absurd (cc)
    by false s e k = absurd (cc)

reply_there : (history : History) (name : Name) → is_grounded dependencies (library_after history) name ≡ true → stands dependencies history name ≡ true → None ≡ answers_reply modules history name → ⊥
unfolding answers_reply
reply_there history name grounded standing h = by (is_grounded dependencies (library_after history) name) (stands dependencies history name) grounded standing h
  where
    by : (g s : Bool) → g ≡ true → s ≡ true → None ≡ cond (g && s) (Some (answers_of modules (library_after history) name)) None → ⊥
    by true true e f k = cc
    by true false e f k = true≢false (sym f)
    by false s e f k = true≢false (sym e)

-- The board answers.
pub asked_told : (before after : History) (name : Name) → Stays before after → is_grounded dependencies (library_after before) name ≡ true → stands dependencies before name ≡ true
    → None ≡ answers_reply modules after name → ⊥
asked_told before after name stays grounded standing =
    reply_there after name (subst (λ (l : Log). is_grounded dependencies (library_of l) name ≡ true) (sym stays.logged) grounded) (stands_still before after name stays standing)

grounded_text : (library : Library) (name : Name) → is_grounded dependencies library name ≡ true → (text : Text) × (text_of library name ≡ Some text)
grounded_text library name g = by (text_of library name) refl (and_parts (is_present library name) (not (is_ungrounded dependencies library name)) g).0
  where
    by : (o : Option Text) → text_of library name ≡ o → is_some o ≡ true → (text : Text) × (text_of library name ≡ Some text)
    by (Some text) e h = (text, e)
    by None e h = absurd (true≢false (sym h))

-- What it answers is what judging the module takes.
given : (after : History) (name : Name) (rows : Rows (Option Verdict)) → Some (read_answers read_verdict rows) ≡ answers_reply modules after name
    → (text : Text) × IsGiven modules name text (read_answers read_verdict rows) (library_after after)
given after name rows h =
    let reply = reply_given after name (read_answers read_verdict rows) h in
    let text = grounded_text (library_after after) name reply.0 in
    (text.0, record { is_library = library_ascending (log_of after); has = text.1; grounded = reply.0; reached = reply.1 })

-- The module itself is left out.
pub itself_left_out : (after : History) (name : Name) (rows : Rows (Option Verdict)) → Some (read_answers read_verdict rows) ≡ answers_reply modules after name → row_of (present_rows rows) name ≡ None
itself_left_out after name rows h = let g = given after name rows h in itself_absent (library_after after) name g.0 rows g.1

-- What it answers gives the faces of the reach.
pub faces_given : (before after : History) (name : Name) (verdict : Verdict) (rows : Rows (Option Verdict)) → Stays before after → verdict_of (library_after before) name ≡ Some (read_verdict verdict)
    → Some (read_answers read_verdict rows) ≡ answers_reply modules after name → AreFacesOf (library_after before) name verdict (present_rows rows ++ (name, verdict) ∷ [])
faces_given before after name verdict rows stays own h =
    let g = given after name rows h in
    subst (λ (l : Log). AreFacesOf (library_of l) name verdict (present_rows rows ++ (name, verdict) ∷ [])) stays.logged
    (faces_of_reach (library_after after) name g.0 rows g.1 verdict (subst (λ (l : Log). verdict_of (library_of l) name ≡ Some (read_verdict verdict)) (sym stays.logged) own))

pub ok_same : {A E : Type 0} (P : A → Type 0) (x : A) (result : Result A E) → IfOk result (λ y. y ≡ x) → P x → IfOk result P
ok_same P x (Ok y) e p = subst P (sym e) p
ok_same P x (Err fault) e p = tt

pub always_ok : {A E : Type 0} {P : Type 0} (result : Result A E) → P → OnOk result P
always_ok (Ok x) p = p
always_ok (Err fault) p = tt
