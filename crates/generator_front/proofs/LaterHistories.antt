-- What the generator leaves stays so where the history goes on without an edit.
use Rattle.std.proofs.Common.{◌≡◌, ℕ, true, ◌++◌, Result, Ok, Err, IfOk, sym, ap, ◌∙◌, subst, arith}
use Rattle.edit_log_meaning.specs.Log.{Log, library_of}
use Rattle.module_graph_meaning.specs.Walks.{is_grounded}
use Rattle.text_meaning.specs.Dependencies.{dependencies}
use Rattle.board_meaning.specs.Events.{History, log_of}
use Rattle.board_meaning.specs.Ready.{is_closed}
use Rattle.board_meaning.specs.Standing.{installs}
use Rattle.run_meaning.specs.Backing.{AreBacked}
use Rattle.run_meaning.specs.Generator.{asked_after, counts_of, generator_told}
use Rattle.judged_meaning.specs.JudgingByRules.{rules}
use Rattle.install_laws.specs.InstallLaws.{AllStand}
use Rattle.install_laws.proofs.Installs.{installs_are_asked, unedited_between}
use Rattle.install_laws.proofs.Tellings.{stay_backed}
use Rattle.board_front.specs.Staying.{IsFront, Stays}
use Rattle.board_front.proofs.Closing.{closed_later}
use Rattle.board_front.proofs.Standing.{stands_still}
use Rattle.generator_front.specs.declared.counts.Counts.{Counts}
use Rattle.generator_front.specs.Generated.{AreCountsOf, Ends, IsBegun, IsDone, IsGenerated, IsSettled, printed_counts}
use Rattle.generator_front.proofs.Asking.{none_asked}
use Rattle.generator_front.proofs.GivenEdits.{begun_at_end}
use Rattle.generator_front.proofs.SettledEdits.{legal_on, unchanged}

done_by : (start modules edits : ℕ) (counts : Counts) (history : History) → IsSettled start modules edits history
    → printed_counts modules edits counts ≡ counts_of rules modules edits (log_of history) → IsDone start modules edits counts history
done_by start modules edits counts history settled counted =
    record { logged = settled.logged; counted = counted; stand = settled.stand; installed = settled.installed; backed = settled.backed }

module _ (before after : History) (stays : Stays before after) where
  pub stand_later : AllStand dependencies before → AllStand dependencies after
  stand_later all name grounded =
      stands_still before after name stays (all name (subst (λ (l : Log). is_grounded dependencies (library_of l) name ≡ true) stays.logged grounded))

  -- where every grounded name stands nothing is installed any more
  pub installs_later : AllStand dependencies before → installs after ≡ installs before
  installs_later all =
      let at_end : AllStand dependencies (before ++ stays.later) = subst (AllStand dependencies) stays.begins (stand_later all) in
      let none = unchanged before after stays in
      let sum = installs_are_asked dependencies before stays.later (legal_on (log_of before) before after stays) all (unedited_between dependencies stays.later before none at_end) in
      let nothing = ap (asked_after dependencies (log_of before)) none ∙ none_asked dependencies (log_of before) in
      let same = ap installs stays.begins in
      omega (arith, sum, nothing, same)

  pub settled_later : (start modules edits : ℕ) → IsSettled start modules edits before → IsSettled start modules edits after
  settled_later start modules edits settled = record {
    logged = stays.logged ∙ settled.logged;
    stand = stand_later settled.stand;
    installed = installs_later settled.stand ∙ settled.installed;
    backed = subst (λ h. AreBacked dependencies h (generator_told dependencies start modules edits)) (sym stays.begins)
        (stay_backed dependencies before stays.later (generator_told dependencies start modules edits) settled.backed);
  }

  pub done_later : (start modules edits : ℕ) (counts : Counts) → IsDone start modules edits counts before → IsDone start modules edits counts after
  done_later start modules edits counts done =
      done_by start modules edits counts after
      (settled_later start modules edits (record { logged = done.logged; stand = done.stand; installed = done.installed; backed = done.backed }))
      (done.counted ∙ ap (counts_of rules modules edits) (sym stays.logged))

  -- The edits are settled, and then the modules are counted.
  pub counted_done : (start modules edits : ℕ) (log : Log) (counts : Counts) → IsFront log before → IsSettled start modules edits before → AreCountsOf log counts → IsDone start modules edits counts after
  counted_done start modules edits log counts front settled counted =
      done_by start modules edits counts after (settled_later start modules edits settled)
      (counted modules edits ∙ ap (counts_of rules modules edits) (front.logged ∙ sym stays.logged))

  -- The same, where memory may have been wanting while they were counted.
  pub ends_counted : {Fault : Type 0} (start modules edits : ℕ) (log : Log) (result : Result Counts Fault) → IsFront log before → IsSettled start modules edits before
      → IfOk result (AreCountsOf log) → Ends start modules edits result after
  ends_counted start modules edits log (Ok counts) front settled counted = counted_done start modules edits log counts front settled counted
  ends_counted start modules edits log (Err fault) front settled counted = begun_at_end start modules edits (log_of after) (stays.logged ∙ settled.logged)

  pub ends_later : {Fault : Type 0} (start modules edits : ℕ) (result : Result Counts Fault) → Ends start modules edits result before → Ends start modules edits result after
  ends_later start modules edits (Ok counts) done = done_later start modules edits counts done
  ends_later start modules edits (Err fault) begun = subst (IsBegun start modules edits) (sym stays.logged) begun

  -- A board that the generator has left, with what is joined into it behind.
  pub generated_later : {Fault : Type 0} (start modules edits : ℕ) (result : Result Counts Fault) → IsGenerated start modules edits result before → IsGenerated start modules edits result after
  generated_later start modules edits result led = record {
    legal = stays.legal;
    closed = closed_later before after stays led.closed;
    ends = ends_later start modules edits result led.ends;
  }

-- The generator has ended, and then the board was closed.
pub closed_led : {Fault : Type 0} (start modules edits : ℕ) (result : Result Counts Fault) (before after : History) → Ends start modules edits result before → Stays before after
    → is_closed after ≡ true → IsGenerated start modules edits result after
closed_led start modules edits result before after ends stays closed = record { legal = stays.legal; closed = closed; ends = ends_later before after stays start modules edits result ends }
