use Rattle.board_laws.proofs.Computed.{job_has_stamps, install_is_stale, way_back_is_stale, stale_is_pending, claimed_again, history_of_stale_install, second_install_is_installed, verdict_is_told, nothing_is_ready, calls_may_be_made, stale_claim_is_no_hindrance, current_claim_hinders}
use Rattle.board_laws.proofs.examples.stale_install.Goals as goal

pub returns-clause-job : goal.returns-clause-job
returns-clause-job c = job_has_stamps

pub returns-clause-stale : goal.returns-clause-stale
returns-clause-stale c = install_is_stale

pub returns-clause-way_back : goal.returns-clause-way_back
returns-clause-way_back c = way_back_is_stale

pub returns-clause-pending : goal.returns-clause-pending
returns-clause-pending c = stale_is_pending

pub returns-clause-again : goal.returns-clause-again
returns-clause-again c = claimed_again

pub returns-clause-history : goal.returns-clause-history
returns-clause-history c = history_of_stale_install

pub returns-clause-installed : goal.returns-clause-installed
returns-clause-installed c = second_install_is_installed

pub returns-clause-told : goal.returns-clause-told
returns-clause-told c = verdict_is_told

pub returns-clause-nothing : goal.returns-clause-nothing
returns-clause-nothing c = nothing_is_ready

pub returns-clause-may : goal.returns-clause-may
returns-clause-may c = calls_may_be_made

pub returns-clause-claimed_anew : goal.returns-clause-claimed_anew
returns-clause-claimed_anew c = stale_claim_is_no_hindrance

pub returns-clause-claimed_once : goal.returns-clause-claimed_once
returns-clause-claimed_once c = current_claim_hinders
