-- From what the second pass answers to what its public call says.
use Rattle.std.proofs.Common.{◌≡◌, List, [], Ok, Err, Result, IfOk, sym, ap, ◌∙◌, subst, true≢false}
use Rattle.std.specs.Prelude.{IfErr}
use Rattle.std.specs.Result.{IsOk}
use Rattle.lf_meaning.specs.HeadMaps.{HeadMap}
use Rattle.text_meaning.specs.Trees.{Assign}
use Rattle.answer_meaning.specs.Answers.{◌>>=◌}
use Rattle.link_meaning.specs.Refusals.{Outcome}
use Rattle.link_meaning.specs.Assignments.{Setting, Assigned, read_assigns}
use Rattle.link_meaning.specs.AssignmentsRead.{AssignsRead}
use Rattle.link_meaning.specs.Coverings.{covered_tests}
use Rattle.link_meaning.specs.CoveringMaps.{covering_map, MeetsCoverings}
use Rattle.link_meaning.specs.LinkMaps.{IsSettled}
use Rattle.morphism_words_typing.proofs.Below.Reading.{assignments_are_read}
use Rattle.morphism_words_typing.proofs.Below.CoveringMaps.{covering_map_meets_coverings, coverings_refuse_by_tests, covering_rules}
use Rattle.mmt_interface.specs.Readings.{read_refusal}
use Rattle.link_passes.specs.Below.Answers.{IsFirstRefusal, Links, RefusesNothing}
use Rattle.morphism.specs.CoverCalls.{first_passes, BreaksCoveringRule}
use Rattle.link_passes.specs.Below.LinkFault.{LinkFault}
use Rattle.link_passes.specs.Below.TheVariants.{Broken, Memory}
use Rattle.link_passes.proofs.Below.Refusing.{links_same}

module _ {A : Type 0} (read : A → HeadMap) (setting : Setting) (assigns : List Assign) where
  -- In a setting that is read as this link.
  pub as_read : (result : Result A LinkFault) (at : Setting) → at ≡ setting → Links read result (first_passes at assigns) → Links read result (first_passes setting assigns)
  as_read result at e h = subst (λ s. Links read result (first_passes s assigns)) e h

  -- Over what the assignments give.
  pub answered : (result : Result A LinkFault) → Links read result (read_assigns setting [] assigns >>= covering_map setting)
      → (assigned : List Assigned) → AssignsRead setting [] assigns assigned → Links read result (covering_map setting assigned)
  answered result answer assigned reads =
      links_same read result (read_assigns setting [] assigns >>= covering_map setting) (covering_map setting assigned) (ap (λ o. o >>= covering_map setting) ((assignments_are_read setting assigns assigned).1 reads)) answer

  module _ (settled : IsSettled setting) where
    pub gives_coverings : (result : Result A LinkFault) (assigned : List Assigned) → Links read result (covering_map setting assigned) → IfOk result (λ along. MeetsCoverings setting assigned (read along))
    gives_coverings (Ok along) assigned h = (covering_map_meets_coverings setting assigned (read along) settled).0 h
    gives_coverings (Err fault) assigned h = tt

    pub refused_by_tests : (result : Result A LinkFault) (assigned : List Assigned) → Links read result (covering_map setting assigned) → IfErr result (λ fault. IsFirstRefusal fault (covered_tests setting assigned))
    refused_by_tests (Ok along) assigned h = tt
    refused_by_tests (Err (Broken refusal)) assigned h = (coverings_refuse_by_tests setting assigned (read_refusal refusal) settled).0 h
    refused_by_tests (Err Memory) assigned h = tt

    pub refuses_nothing : (result : Result A LinkFault) (assigned : List Assigned) (along : HeadMap) → MeetsCoverings setting assigned along → Links read result (covering_map setting assigned) → RefusesNothing result
    refuses_nothing (Ok found) assigned along meets h = tt
    refuses_nothing (Err (Broken refusal)) assigned along meets h = let found = (covering_map_meets_coverings setting assigned along settled).1 meets in let same = sym found ∙ h in absurd (cc)
    refuses_nothing (Err Memory) assigned along meets h = tt

    broken_rules : (result : Result A LinkFault) (assigned : List Assigned) → Links read result (covering_map setting assigned) → IfErr result (λ fault. BreaksCoveringRule fault)
    broken_rules (Ok along) assigned h = tt
    broken_rules (Err (Broken refusal)) assigned h = covering_rules setting assigned (read_refusal refusal) ((coverings_refuse_by_tests setting assigned (read_refusal refusal) settled).0 h)
    broken_rules (Err Memory) assigned h = tt

    -- Where the first pass passes.
    pub breaks_covering_rules : (result : Result A LinkFault) (first : Outcome (List Assigned)) → IsOk first → Links read result (first >>= covering_map setting) → IfErr result (λ fault. BreaksCoveringRule fault)
    breaks_covering_rules result (Ok assigned) passes h = broken_rules result assigned h
    breaks_covering_rules result (Err refusal) passes h = absurd (true≢false (sym passes))
