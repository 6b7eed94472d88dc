-- The worked examples compute.
use Rattle.std.proofs.Common.{refl}
use Rattle.name_meaning.specs.Names.{is_among, is_ascending, with_name, with_names}
use Rattle.edit_log_meaning.specs.Log.{with_module, without_module, library_of, text_of, stamp_from}
use Rattle.edit_log_meaning.specs.Append.{append_answer}
use Rattle.module_graph_meaning.specs.Walks.{direct, walking, is_ungrounded, ungrounded_names}
use Rattle.module_graph_meaning.specs.Reach.{reach_within, reach}
use Rattle.board_meaning.specs.Events.{log_of}
use Rattle.board_meaning.specs.Claims.{claims_from, is_open, inputs_after, inputs_of, first_changed, has_current_claim}
use Rattle.board_meaning.specs.Standing.{installed_claims, is_edited, is_unedited, stands}
use Rattle.board_meaning.specs.Ready.{is_closed, dependencies_stand, is_ready, least_ready}
use Rattle.module_graph_meaning.specs.Subject.{answers_of}
use Rattle.board_meaning.specs.Machine.{job_after, job_of, install_reply, report_reply, answers_reply, event_of, may_call, after_call}
use Rattle.board_meaning.specs.Legal.{after_calls, may_make_all}
use Rattle.board_laws.specs.Examples.{JobHasStamps, InstallIsStale, WayBackIsStale, StaleIsPending, ClaimedAgain, HistoryOfStaleInstall, SecondInstallIsInstalled, VerdictIsTold, NothingIsReady, CallsMayBeMade, AbsentNameIsInput, BothStand, OnlyDependantFalls, DependencyComesFirst, RingIsTold, RingIsNotReady, DroppedIsAbsent, ClosedIsNotReady, ClosedIsUsed, ClosedTellsVerdict, OthersMayNotCall, JobHasAnswers, AnswersAreTold, StaleClaimIsNoHindrance, CurrentClaimHinders}

-- What all examples compute with.
abbrev machine : Unit {0}
unfolding is_among is_ascending with_name with_names with_module without_module library_of text_of stamp_from append_answer direct walking is_ungrounded ungrounded_names reach_within reach log_of claims_from is_open inputs_after inputs_of first_changed has_current_claim installed_claims is_edited is_unedited stands is_closed dependencies_stand is_ready least_ready answers_of job_after job_of install_reply report_reply answers_reply event_of may_call after_call after_calls may_make_all
machine = tt

pub job_has_stamps : JobHasStamps
unfolding machine
job_has_stamps = refl

pub install_is_stale : InstallIsStale
unfolding machine
install_is_stale = refl

pub way_back_is_stale : WayBackIsStale
unfolding machine
way_back_is_stale = refl

pub stale_is_pending : StaleIsPending
unfolding machine
stale_is_pending = refl

pub claimed_again : ClaimedAgain
unfolding machine
claimed_again = refl

pub history_of_stale_install : HistoryOfStaleInstall
unfolding machine
history_of_stale_install = refl

pub second_install_is_installed : SecondInstallIsInstalled
unfolding machine
second_install_is_installed = refl

pub verdict_is_told : VerdictIsTold
unfolding machine
verdict_is_told = refl

pub nothing_is_ready : NothingIsReady
unfolding machine
nothing_is_ready = refl

pub calls_may_be_made : CallsMayBeMade
unfolding machine
calls_may_be_made = refl

pub absent_name_is_input : AbsentNameIsInput
unfolding machine
absent_name_is_input = refl

pub both_stand : BothStand
unfolding machine
both_stand = refl

pub only_dependant_falls : OnlyDependantFalls
unfolding machine
only_dependant_falls = refl

pub dependency_comes_first : DependencyComesFirst
unfolding machine
dependency_comes_first = refl

pub ring_is_told : RingIsTold
unfolding machine
ring_is_told = refl

pub ring_is_not_ready : RingIsNotReady
unfolding machine
ring_is_not_ready = refl

pub dropped_is_absent : DroppedIsAbsent
unfolding machine
dropped_is_absent = refl

pub closed_is_not_ready : ClosedIsNotReady
unfolding machine
closed_is_not_ready = refl

pub closed_is_used : ClosedIsUsed
unfolding machine
closed_is_used = refl

pub closed_tells_verdict : ClosedTellsVerdict
unfolding machine
closed_tells_verdict = refl

pub others_may_not_call : OthersMayNotCall
unfolding machine
others_may_not_call = refl

pub job_has_answers : JobHasAnswers
unfolding machine
job_has_answers = refl

pub answers_are_told : AnswersAreTold
unfolding machine
answers_are_told = refl

pub stale_claim_is_no_hindrance : StaleClaimIsNoHindrance
unfolding machine
stale_claim_is_no_hindrance = refl

pub current_claim_hinders : CurrentClaimHinders
unfolding machine
current_claim_hinders = refl
