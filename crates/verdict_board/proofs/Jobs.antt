-- The job of a claim taken apart.
use Rattle.std.proofs.Common.{◌≡◌, ℕ, true, length, take, Option, Some, None, option_map, option_and_then, refl, sym, ap, ◌∙◌}
use Rattle.name_meaning.specs.Names.{Name, Text}
use Rattle.edit_log_meaning.specs.Log.{Library, text_of}
use Rattle.edit_log_laws.proofs.Libraries.{library_ascending}
use Rattle.module_graph_meaning.specs.Reach.{reach}
use Rattle.module_graph_meaning.specs.Subject.{Subject, KeepsToReach, answers_of}
use Rattle.board_meaning.specs.Events.{History, log_of, library_after}
use Rattle.board_meaning.specs.Claims.{claim_at, inputs_after, inputs_of, input_names}
use Rattle.board_meaning.specs.Standing.{is_unedited}
use Rattle.board_meaning.specs.Machine.{Job, job_after, job_of}
use Rattle.board_meaning.specs.Legal.{IsLegal}
use Rattle.board_laws.proofs.Claiming.{inputs_are, names_are}
use Rattle.board_laws.proofs.Legality.{legal_claim}
use Rattle.board_laws.proofs.Standings.{ready_parts, answer_now}
use Rattle.module_graph.specs.Subjects.{IsGiven}

module _ {Answer : Type 0} (subject : Subject Answer) where
  -- the job of a claim of this name that is made after this history
  pub record IsJobAfter (H : History) (n : Name) (job : Job Answer) : Type 0 where
    pub named : job.name ≡ n
    pub has : text_of (library_after H) n ≡ Some job.text
    pub input : job.inputs ≡ inputs_after subject.dependencies H n
    pub answer : answers_of subject (library_after H) n ≡ job.answers

  pub job_after_parts : (H : History) (n : Name) (job : Job Answer) → job_after subject H n ≡ Some job → IsJobAfter H n job
  unfolding job_after
  job_after_parts H n job h = by (text_of (library_after H) n) refl h
    where
      by : (o : Option Text) → text_of (library_after H) n ≡ o
          → option_map (λ (text : Text). record { claim = length H; name = n; text = text; inputs = inputs_after subject.dependencies H n; answers = answers_of subject (library_after H) n }) o ≡ Some job → IsJobAfter H n job
      by None e q = absurd (cc)
      by (Some t) e q =
          let r : record { claim = length H; name = n; text = t; inputs = inputs_after subject.dependencies H n; answers = answers_of subject (library_after H) n } ≡ job = cc in
          record {
            named = ap (λ (z : Job Answer). z.name) (sym r);
            has = e ∙ ap (λ (z : Job Answer). Some z.text) r;
            input = ap (λ (z : Job Answer). z.inputs) (sym r);
            answer = ap (λ (z : Job Answer). z.answers) r;
          }

  pub job_after_from : (H : History) (n : Name) (t : Text) → text_of (library_after H) n ≡ Some t
      → job_after subject H n ≡ Some (record { claim = length H; name = n; text = t; inputs = inputs_after subject.dependencies H n; answers = answers_of subject (library_after H) n })
  unfolding job_after
  job_after_from H n t h =
      ap (option_map (λ (text : Text). record { claim = length H; name = n; text = text; inputs = inputs_after subject.dependencies H n; answers = answers_of subject (library_after H) n })) h

  module _ (H : History) (c : ℕ) (job : Job Answer) (h : job_of subject H c ≡ Some job) where
    pub job_claim : (n : Name) × (claim_at H c ≡ Some n) × (job_after subject (take c H) n ≡ Some job)
    unfolding job_of
    job_claim = by (claim_at H c) refl h
      where
        by : (o : Option Name) → claim_at H c ≡ o → option_and_then (job_after subject (take c H)) o ≡ Some job → (n : Name) × (claim_at H c ≡ Some n) × (job_after subject (take c H) n ≡ Some job)
        by None e q = absurd (cc)
        by (Some n) e q = (n, e, q)

    parts : IsJobAfter (take c H) job_claim.0 job
    parts = job_after_parts (take c H) job_claim.0 job job_claim.2

    pub job_at : claim_at H c ≡ Some job.name
    job_at = job_claim.1 ∙ ap Some (sym parts.named)

    pub job_inputs : job.inputs ≡ inputs_of subject.dependencies H c
    job_inputs = parts.input ∙ sym (inputs_are H c job_claim.0 job_claim.1 subject.dependencies)

    pub job_names : input_names job.inputs ≡ reach subject.dependencies (library_after (take c H)) job.name
    job_names = ap input_names job_inputs ∙ names_are subject.dependencies H c job.name job_at

    -- what judges the job's module answers for the library at the claim
    pub job_given : IsLegal subject.dependencies H → IsGiven subject job.name job.text job.answers (library_after (take c H))
    job_given l =
        let at : job_claim.0 ≡ job.name = sym parts.named in
        record {
          is_library = library_ascending (log_of (take c H));
          has = ap (text_of (library_after (take c H))) (sym at) ∙ parts.has;
          grounded = (ready_parts subject.dependencies (take c H) job.name (legal_claim subject.dependencies H l c job.name job_at)).grounded;
          reached = ap (answers_of subject (library_after (take c H))) (sym at) ∙ parts.answer;
        }

    -- and for the present one, where no input was edited since
    pub job_answer : IsLegal subject.dependencies H → KeepsToReach subject → is_unedited subject.dependencies H c ≡ true → (answer : Option Answer)
        → ((library : Library) → IsGiven subject job.name job.text job.answers library → subject.answer library job.name ≡ answer)
        → subject.answer (library_after H) job.name ≡ answer
    job_answer l keeps u answer f =
        sym (answer_now subject.dependencies H l subject.answer keeps c job.name job_at u) ∙ f (library_after (take c H)) (job_given l)
