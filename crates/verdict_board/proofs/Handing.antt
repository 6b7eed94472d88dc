-- The job that a claim hands out.
use Rattle.std.proofs.Common.{◌≡◌, ℕ, Bool, true, false, not, ◌||◌, List, [], ◌∷◌, length, Option, Some, None, option_and_then, is_some, refl, sym, ap, ◌∙◌, subst, true≢false}
use Rattle.std.proofs.lemmas.Bool.{or_right}
use Rattle.name_meaning.specs.Names.{Name, Text, same_name}
use Rattle.edit_log_meaning.specs.Log.{text_of, is_present}
use Rattle.edit_log_laws.proofs.Libraries.{library_ascending}
use Rattle.module_graph_meaning.specs.Walks.{Dependencies, direct, is_grounded, is_ungrounded}
use Rattle.module_graph_meaning.specs.Reach.{reach}
use Rattle.module_graph_meaning.specs.Subject.{Subject, answers_of}
use Rattle.list_laws.proofs.Members.{Member, all_at}
use Rattle.board_meaning.specs.Events.{History, log_of, library_after}
use Rattle.board_meaning.specs.Claims.{Input, input_names, inputs_after}
use Rattle.board_meaning.specs.Standing.{stands}
use Rattle.board_meaning.specs.Ready.{dependencies_stand, least_ready}
use Rattle.board_meaning.specs.Machine.{Job, job_after, claim_reply, is_known}
use Rattle.board_meaning.specs.Legal.{IsLegal}
use Rattle.board_laws.proofs.Legality.{least_is_ready}
use Rattle.board_laws.proofs.Standings.{ready_parts}
use Rattle.board_laws.proofs.Resting.{ready_rests}
use Rattle.module_graph.specs.Subjects.{IsGiven, read_answers}
use Rattle.verdict_board.specs.Readings.{read_job, inputs_of_names}
use Rattle.verdict_board.specs.Gathering.{DoRest}
use Rattle.verdict_board.proofs.Jobs.{job_after_from}
use Rattle.verdict_board.proofs.Transitions.{present_of}

pub names_of_inputs : (H : History) (names : List Name) → input_names (inputs_of_names H names) ≡ names
names_of_inputs H [] = refl
names_of_inputs H (n ∷ names) = ap (λ z. n ∷ z) (names_of_inputs H names)

module _ {Meaning : Type 0} (subject : Subject Meaning) (H : History) (l : IsLegal subject.dependencies H) (n : Name) (least : least_ready subject.dependencies H ≡ Some n) where
  abbrev D : Dependencies
  D = subject.dependencies

  pub least_grounded : is_grounded D (library_after H) n ≡ true
  least_grounded = (ready_parts D H n (least_is_ready D H n least)).grounded

  pub least_present : is_present (library_after H) n ≡ true
  least_present = present_of D (library_after H) n least_grounded

  pub least_known : (names : List Name) → names ≡ reach D (library_after H) n → (other : Name) → Member other names → same_name n other ≡ false → is_present (library_after H) other ≡ true → is_known D H other ≡ true
  least_known names e other m s p =
      or_right (is_ungrounded D (library_after H) other) (stands D H other)
      (ready_rests D H l n other (least_is_ready D H n least) (subst (Member other) e m) s p)

  pub least_rests : DoRest D H (direct D (library_after H) n)
  unfolding dependencies_stand
  least_rests d m p =
      sym (ap (λ (b : Bool). not b || stands D H d) p)
      ∙ all_at (λ (other : Name). not (is_present (library_after H) other) || stands D H other) (direct D (library_after H) n) d ((ready_parts D H n (least_is_ready D H n least)).rests) m

  pub text_not_missing : None ≡ text_of (library_after H) n → ⊥
  text_not_missing h = true≢false (sym least_present ∙ ap is_some (sym h))

  module _ {Answer : Type 0} (meaning : Answer → Meaning) (text : Text) (claim : ℕ) (names : List Name) (inputs : List Input) (answers : List (Name × Option Answer))
      (t : Some text ≡ text_of (library_after H) n) (c : claim ≡ length H) (e : names ≡ reach D (library_after H) n) (f : inputs ≡ inputs_of_names H names) (a : read_answers meaning answers ≡ answers_of subject (library_after H) n) where
    -- in the words of the code's values
    abbrev handed : Job Answer
    handed = record { claim = claim; name = n; text = text; inputs = inputs; answers = answers }

    inputs_are : inputs ≡ inputs_after D H n
    unfolding inputs_after
    inputs_are = f ∙ ap (inputs_of_names H) e

    pub job_told : Some (read_job meaning (record { claim = claim; name = n; text = text; inputs = inputs; answers = answers })) ≡ claim_reply subject H
    job_told =
        (λ i. Some (record { claim = c i; name = n; text = text; inputs = inputs_are i; answers = a i }))
        ∙ sym (ap (option_and_then (job_after subject H)) least ∙ job_after_from subject H n text (sym t))

    pub job_given : IsGiven subject n text (read_answers meaning answers) (library_after H)
    job_given = record { is_library = library_ascending (log_of H); has = sym t; grounded = least_grounded; reached = sym a }
