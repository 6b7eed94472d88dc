-- How modules stand after an entry that is no edit.
use Rattle.std.proofs.Common.{◌≡◌, ℕ, Bool, true, false, [], ◌∷◌, ◌++◌, Some, None, ⊎_elim, refl, sym, ap, ◌∙◌, subst, cond}
use Rattle.std.proofs.lemmas.Option.{same_Some}
use Rattle.name_meaning.specs.Names.{Name, same_name, with_name}
use Rattle.name_meaning.specs.Rows.{Rows, row_names, row_of, with_row}
use Rattle.name_laws.proofs.Order.{same_sound, with_present, among_member}
use Rattle.name_laws.proofs.Rows.{row_with, names_with_row}
use Rattle.edit_log_meaning.specs.Log.{Library, library_of, names_of, is_present}
use Rattle.edit_log_laws.proofs.Libraries.{library_ascending, present_among}
use Rattle.module_graph_meaning.specs.Walks.{Dependencies, is_grounded, is_ungrounded}
use Rattle.module_graph_meaning.specs.Reach.{reach}
use Rattle.module_graph_meaning.specs.Subject.{Subject}
use Rattle.list_laws.proofs.Options.{clash}
use Rattle.board_meaning.specs.Events.{Entry, History, edit_in, log_of, library_after}
use Rattle.board_meaning.specs.Claims.{claimed_name, ends_claim}
use Rattle.board_meaning.specs.Standing.{is_edit_of, stands}
use Rattle.board_meaning.specs.Legal.{IsLegal}
use Rattle.board_laws.proofs.Histories.{log_none}
use Rattle.verdict_board.specs.declared.stage.Stage.{Stage}
use Rattle.verdict_board.specs.declared.stage.Stage.TheVariants.{Waiting, Claimed, Standing, Cyclic}
use Rattle.verdict_board.specs.Stages.{IsCurrent, IsStage, AreStages}
use Rattle.verdict_board.proofs.Currents.{current_more, current_less, claim_more}

pub same_library : (H : History) (e : Entry) → edit_in e ≡ None → library_after (H ++ e ∷ []) ≡ library_after H
same_library H e g = ap library_of (log_none H e g)

module _ {Answer Meaning : Type 0} (subject : Subject Meaning) (meaning : Answer → Meaning) (H : History) (l : IsLegal subject.dependencies H) (e : Entry) (g : edit_in e ≡ None) where
  abbrev D : Dependencies
  D = subject.dependencies

  abbrev L : Library
  L = library_after H

  lib : library_after (H ++ e ∷ []) ≡ L
  lib = same_library H e g

  unhit : (x : Name) → is_edit_of x (edit_in e) ≡ false
  unhit x = ap (is_edit_of x) g

  -- a module of which the entry says nothing stands as before
  pub stage_kept : (n : Name) (stage : Stage Answer) → IsStage subject meaning H n stage → stands D (H ++ e ∷ []) n ≡ stands D H n
      → ((c : ℕ) → IsCurrent D (H ++ e ∷ []) n c → IsCurrent D H n c) → ((c : ℕ) → IsCurrent D H n c → ends_claim c e.event ≡ false)
      → IsStage subject meaning (H ++ e ∷ []) n stage
  stage_kept n Waiting k s f h = record {
    grounded = ap (λ (z : Library). is_grounded D z n) lib ∙ k.grounded;
    stands_not = s ∙ k.stands_not;
    claimed_not = λ c m. k.claimed_not c (f c m);
  }
  stage_kept n (Claimed c inputs) k s f h = record {
    current = current_more D H e n c k.current (h c k.current) (λ x m. unhit x);
    reached = k.reached ∙ ap (λ (z : Library). reach D z n) (sym lib);
  }
  stage_kept n (Standing a inputs) k s f h = record {
    standing = s ∙ k.standing;
    answers = ap (λ (z : Library). subject.answer z n) lib ∙ k.answers;
    reached = k.reached ∙ ap (λ (z : Library). reach D z n) (sym lib);
  }
  stage_kept n (Cyclic a) k s f h = record {
    ungrounded = ap (λ (z : Library). is_ungrounded D z n) lib ∙ k.ungrounded;
    answers = ap (λ (z : Library). subject.answer z n) lib ∙ k.answers;
  }

  -- where no claim is made, what is current was current
  pub no_claim : claimed_name e.event ≡ None → (n : Name) (c : ℕ) → IsCurrent D (H ++ e ∷ []) n c → IsCurrent D H n c
  no_claim none n c k = ⊎_elim (λ at. (current_less D H e n c k at).0) (λ q. absurd (clash (claimed_name e.event) none q.1)) (claim_more H e c n k.claimed)

  -- the names of the library are those before, and those of the stages with another stage of one of them
  pub names_kept : (stages : Rows (Stage Answer)) → row_names stages ≡ names_of L → row_names stages ≡ names_of (library_after (H ++ e ∷ []))
  names_kept stages h = h ∙ ap names_of (sym lib)

  pub names_replaced : (stages : Rows (Stage Answer)) (n : Name) (stage : Stage Answer) → row_names stages ≡ names_of L → is_present L n ≡ true
      → row_names (with_row n stage stages) ≡ names_of (library_after (H ++ e ∷ []))
  names_replaced stages n stage h p =
      names_with_row n stage stages ∙ ap (with_name n) h
      ∙ with_present n (names_of L) (library_ascending (log_of H)) (among_member (names_of L) n (sym (present_among L n) ∙ p)) ∙ ap names_of (sym lib)

  -- all stages, after nothing was said of any
  pub stages_kept : (stages : Rows (Stage Answer)) → AreStages subject meaning H stages → ((n : Name) → stands D (H ++ e ∷ []) n ≡ stands D H n)
      → ((n : Name) (c : ℕ) → IsCurrent D (H ++ e ∷ []) n c → IsCurrent D H n c) → ((n : Name) (c : ℕ) → IsCurrent D H n c → ends_claim c e.event ≡ false)
      → AreStages subject meaning (H ++ e ∷ []) stages
  stages_kept stages k s f h = record {
    names = names_kept stages k.names;
    staged = λ n stage at. stage_kept n stage (k.staged n stage at) (s n) (f n) (h n);
  }

  -- all stages, after something was said of one
  pub stages_replaced : (stages : Rows (Stage Answer)) (n : Name) (stage : Stage Answer) → AreStages subject meaning H stages → is_present L n ≡ true
      → IsStage subject meaning (H ++ e ∷ []) n stage
      → ((m : Name) → same_name m n ≡ false → stands D (H ++ e ∷ []) m ≡ stands D H m)
      → ((m : Name) → same_name m n ≡ false → (c : ℕ) → IsCurrent D (H ++ e ∷ []) m c → IsCurrent D H m c)
      → ((m : Name) → same_name m n ≡ false → (c : ℕ) → IsCurrent D H m c → ends_claim c e.event ≡ false)
      → AreStages subject meaning (H ++ e ∷ []) (with_row n stage stages)
  stages_replaced stages n stage k p new s f h = record {
    names = names_replaced stages n stage k.names p;
    staged = λ m other at. by m other (same_name m n) refl (sym (row_with n stage stages m) ∙ at);
  }
    where
      by : (m : Name) (other : Stage Answer) (b : Bool) → same_name m n ≡ b → cond b (Some stage) (row_of stages m) ≡ Some other → IsStage subject meaning (H ++ e ∷ []) m other
      by m other true q at = subst (λ z. IsStage subject meaning (H ++ e ∷ []) z other) (sym (same_sound m n q)) (subst (λ z. IsStage subject meaning (H ++ e ∷ []) n z) (same_Some _ _ at) new)
      by m other false q at = stage_kept m other (k.staged m other at) (s m q) (f m q) (h m q)
