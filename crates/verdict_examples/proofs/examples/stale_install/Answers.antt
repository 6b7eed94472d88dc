use Rattle.verdict_examples.proofs.BoardComputed.{nat_calls_may_be_made, nat_edits_are_made, nat_is_claimed, misspelled_nat_is_stale, nat_put_back_is_stale, nat_is_pending, nat_is_claimed_again, nat_is_installed, nothing_but_nat, nat_is_told, history_of_nat}
use Rattle.verdict_examples.proofs.examples.stale_install.Goals as goal

pub returns-clause-may : goal.returns-clause-may
returns-clause-may c = nat_calls_may_be_made

pub returns-clause-edits : goal.returns-clause-edits
returns-clause-edits c = nat_edits_are_made

pub returns-clause-job : goal.returns-clause-job
returns-clause-job c = nat_is_claimed

pub returns-clause-stale : goal.returns-clause-stale
returns-clause-stale c = misspelled_nat_is_stale

pub returns-clause-way_back : goal.returns-clause-way_back
returns-clause-way_back c = nat_put_back_is_stale

pub returns-clause-pending : goal.returns-clause-pending
returns-clause-pending c = nat_is_pending

pub returns-clause-again : goal.returns-clause-again
returns-clause-again c = nat_is_claimed_again

pub returns-clause-installed : goal.returns-clause-installed
returns-clause-installed c = nat_is_installed

pub returns-clause-nothing : goal.returns-clause-nothing
returns-clause-nothing c = nothing_but_nat

pub returns-clause-told : goal.returns-clause-told
returns-clause-told c = nat_is_told

pub returns-clause-history : goal.returns-clause-history
returns-clause-history c = history_of_nat
