-- The worked case of the board over modules computes.
use Rattle.std.proofs.Common.{refl}
use Rattle.name_meaning.specs.Names.{is_ascending}
use Rattle.edit_log_meaning.specs.Log.{library_of, stamp_from}
use Rattle.edit_log_meaning.specs.Append.{append_answer}
use Rattle.module_graph_meaning.specs.Walks.{is_ungrounded, ungrounded_names}
use Rattle.board_meaning.specs.Events.{log_of}
use Rattle.board_meaning.specs.Claims.{claims_from, is_open, inputs_after, inputs_of, first_changed, has_current_claim}
use Rattle.board_meaning.specs.Standing.{installed_claims, is_edited, is_unedited, stands}
use Rattle.board_meaning.specs.Ready.{is_closed, dependencies_stand, is_ready, least_ready}
use Rattle.module_graph_meaning.specs.Subject.{answers_of}
use Rattle.board_meaning.specs.Machine.{job_after, job_of, install_reply, report_reply, answers_reply, event_of, may_call, after_call}
use Rattle.board_meaning.specs.Legal.{after_calls, may_make_all}
use Rattle.verdict_examples.specs.BoardExamples.{NatCallsMayBeMade, NatEditsAreMade, NatIsClaimed, MisspelledNatIsStale, NatPutBackIsStale, NatIsPending, NatIsClaimedAgain, NatIsInstalled, NothingButNat, NatIsTold, HistoryOfNat}
use Rattle.verdict_examples.proofs.Computed.{judging}

-- What the machine computes with; the verdicts are computed as in the other cases.
abbrev machine : Unit {0}
unfolding is_ascending library_of stamp_from append_answer is_ungrounded ungrounded_names log_of claims_from is_open inputs_after inputs_of first_changed has_current_claim installed_claims is_edited is_unedited stands is_closed dependencies_stand is_ready least_ready answers_of job_after job_of install_reply report_reply answers_reply event_of may_call after_call after_calls may_make_all
machine = tt

pub nat_calls_may_be_made : NatCallsMayBeMade
unfolding machine judging
nat_calls_may_be_made = refl

pub nat_edits_are_made : NatEditsAreMade
unfolding machine judging
nat_edits_are_made = refl

pub nat_is_claimed : NatIsClaimed
unfolding machine judging
nat_is_claimed = refl

pub misspelled_nat_is_stale : MisspelledNatIsStale
unfolding machine judging
misspelled_nat_is_stale = refl

pub nat_put_back_is_stale : NatPutBackIsStale
unfolding machine judging
nat_put_back_is_stale = refl

pub nat_is_pending : NatIsPending
unfolding machine judging
nat_is_pending = refl

pub nat_is_claimed_again : NatIsClaimedAgain
unfolding machine judging
nat_is_claimed_again = refl

pub nat_is_installed : NatIsInstalled
unfolding machine judging
nat_is_installed = refl

pub nothing_but_nat : NothingButNat
unfolding machine judging
nothing_but_nat = refl

pub nat_is_told : NatIsTold
unfolding machine judging
nat_is_told = refl

pub history_of_nat : HistoryOfNat
unfolding machine judging
history_of_nat = refl
