-- The generator is settled with one edit more, once every module is brought to a verdict behind it.
use Rattle.std.proofs.Common.{◌≡◌, ℕ, suc, ◌+◌, ◌≤◌, true, not, [], ◌∷◌, ◌++◌, length, sym, ap, ◌∙◌, subst, arith}
use Rattle.std.proofs.lemmas.Bool.{and_parts}
use Rattle.std.proofs.lemmas.List.{append_cancel_left}
use Rattle.std.proofs.Common.{append-nil}
use Rattle.name_meaning.specs.Names.{Name}
use Rattle.edit_log_meaning.specs.Log.{Library, Log, is_present, library_of, names_of}
use Rattle.edit_log_meaning.specs.Append.{appended, appended_all}
use Rattle.module_graph_meaning.specs.Walks.{is_grounded, is_ungrounded}
use Rattle.module_graph_laws.proofs.Walking.{present_in}
use Rattle.text_meaning.specs.Dependencies.{dependencies}
use Rattle.board_meaning.specs.Events.{History, log_of}
use Rattle.board_meaning.specs.Legal.{IsLegal}
use Rattle.board_meaning.specs.Standing.{installs}
use Rattle.board_laws.proofs.Histories.{log_append}
use Rattle.run_meaning.specs.Backing.{AreBacked}
use Rattle.run_meaning.specs.Parts.{told_of_all}
use Rattle.run_meaning.specs.Generator.{asked_after, generated, generator_told, grounded_names, installs_of}
use Rattle.install_laws.specs.InstallLaws.{AllStand}
use Rattle.install_laws.proofs.Installs.{installs_are_asked}
use Rattle.install_laws.proofs.Played.{backed_append}
use Rattle.install_laws.proofs.Tellings.{checks_are_backed, stay_backed}
use Rattle.board_front.specs.Staying as fronts
use Rattle.board_front.specs.Staying.{GoesOn, IsFront, Stays}
use Rattle.board_front.proofs.Histories.{stays_on}
use Rattle.script_reader.specs.Generating.{Generating}
use Rattle.script_reader.proofs.GeneratedPlaces.{later_put}
use Rattle.generator_front.specs.Generated.{IsLogOfGiven, IsSettled}
use Rattle.generator_front.proofs.GivenEdits.{all_given, generated_first, log_more}
use Rattle.generator_front.proofs.FirstLibraries.{first_installed}
use Rattle.generator_front.proofs.Asking.{changes_one, installs_first, installs_more, told_first, told_later}
use Rattle.generator_front.proofs.BetweenEdits.{stand_between}

-- ---- histories that go on

-- what they change of the log
pub changed : (log : Log) (before after : History) (on : GoesOn log before after) → log ≡ log_of before ++ log_of on.later
changed log before after on = sym on.logged ∙ ap log_of on.begins ∙ log_append before on.later

pub unchanged : (before after : History) (stays : Stays before after) → log_of stays.later ≡ []
unchanged before after stays =
    append_cancel_left (log_of before) (log_of stays.later) [] (sym (changed (log_of before) before after stays) ∙ sym (append-nil (log_of before)))

pub legal_on : (log : Log) (before after : History) (on : GoesOn log before after) → IsLegal dependencies (before ++ on.later)
legal_on log before after on = subst (IsLegal dependencies) on.begins on.legal

grounded_present : (library : Library) (name : Name) → is_grounded dependencies library name ≡ true → is_present library name ≡ true
grounded_present library name grounded = (and_parts (is_present library name) (not (is_ungrounded dependencies library name)) grounded).0

-- what stands of the modules
pub grounded_stand : (log : Log) (history : History) → log_of history ≡ log → fronts.AllStand history (names_of (library_of log)) → AllStand dependencies history
grounded_stand log history logged all name grounded =
    all name
    (present_in dependencies (library_of log) name
    (grounded_present (library_of log) name (subst (λ (l : Log). is_grounded dependencies (library_of l) name ≡ true) logged grounded)))
    grounded

-- ---- the first library

module _ (start modules : ℕ) (few : modules ≤ 1000) (log : Log) (middle after : History) (stays : Stays middle after)
    (is : log ≡ appended_all [] (generated start modules 0)) (logged : log ≡ log_of middle) (stand : AllStand dependencies after) where
  log_after : log_of after ≡ log
  log_after = stays.logged ∙ sym logged

  pub first_settled : IsSettled start modules 0 after
  first_settled = record {
    logged = log_after ∙ is;
    stand = stand;
    installed = first_installed start modules after few stays.legal (log_after ∙ is ∙ ap (appended_all []) (generated_first start modules)) stand
        ∙ ap (λ (l : Log). length (grounded_names dependencies (library_of l))) (log_after ∙ is) ∙ sym (installs_first dependencies start modules);
    backed = subst (AreBacked dependencies after) (ap (told_of_all dependencies) (log_after ∙ is) ∙ sym (told_first dependencies start modules)) (checks_are_backed dependencies after stand);
  }

pub first_settled_by : (generating : Generating) (log : Log) (middle after : History) → generating.modules ≤ 1000 → generating.given ≡ generating.modules
    → IsLogOfGiven generating log → IsFront log middle → Stays middle after → AllStand dependencies after
    → IsSettled generating.start generating.modules 0 after
first_settled_by generating log middle after few all given front stays stand =
    first_settled generating.start generating.modules few log middle after stays (all_given generating log 0 given (omega (arith, all))) front.logged stand

-- ---- one edit more

module _ (start modules edits : ℕ) (log : Log) (before middle after : History) (settled : IsSettled start modules edits before)
    (on : GoesOn log before middle) (is : log ≡ appended_all [] (generated start modules (suc edits))) (stays : Stays middle after) (stand : AllStand dependencies after) where
  whole : GoesOn log before after
  whole = stays_on log before middle after on stays

  one_edit : appended (log_of before) (later_put start modules edits) ≡ log_of before ++ log_of whole.later
  one_edit =
      ap (λ (l : Log). appended l (later_put start modules edits)) settled.logged
      ∙ sym (log_more start modules edits) ∙ sym is ∙ changed log before after whole

  asked : installs after ≡ installs before + asked_after dependencies (log_of before) (later_put start modules edits ∷ [])
  asked =
      let change = changes_one dependencies (log_of before) (log_of whole.later) (later_put start modules edits) one_edit in
      let at_end : AllStand dependencies (before ++ whole.later) = subst (AllStand dependencies) whole.begins stand in
      let legal = legal_on log before after whole in
      ap installs whole.begins
      ∙ installs_are_asked dependencies before whole.later legal settled.stand (stand_between dependencies whole.later before legal change.0 settled.stand at_end)
      ∙ ap (λ n. installs before + n) change.1

  more_installed : installs after ≡ installs_of dependencies start modules (suc edits)
  more_installed =
      let now = settled.installed in
      let log_is = ap (λ l. asked_after dependencies l (later_put start modules edits ∷ [])) settled.logged in
      let all = installs_more dependencies start modules edits in
      let sum = asked in
      omega (arith, now, log_is, all, sum)

  pub more_settled : IsSettled start modules (suc edits) after
  more_settled = record {
    logged = whole.logged ∙ is;
    stand = stand;
    installed = more_installed;
    backed = subst (AreBacked dependencies after) (sym (told_later dependencies start modules edits))
        (backed_append dependencies after (generator_told dependencies start modules edits) (told_of_all dependencies (appended_all [] (generated start modules (suc edits))))
        (subst (λ h. AreBacked dependencies h (generator_told dependencies start modules edits)) (sym whole.begins)
        (stay_backed dependencies before whole.later (generator_told dependencies start modules edits) settled.backed))
        (subst (λ l. AreBacked dependencies after (told_of_all dependencies l)) (whole.logged ∙ is) (checks_are_backed dependencies after stand)));
  }

pub more_settled_by : (start modules counter : ℕ) (generating : Generating) (log : Log) (before middle after : History)
    → generating ≡ record { start = start; modules = modules; given = modules + (counter + 1) } → IsLogOfGiven generating log → IsSettled start modules counter before
    → GoesOn log before middle → Stays middle after → AllStand dependencies after → IsSettled start modules (counter + 1) after
more_settled_by start modules counter generating log before middle after e given settled on stays stand =
    let now : Generating = record { start = start; modules = modules; given = modules + (counter + 1) } in
    let is = all_given now log (suc counter) (subst (λ (z : Generating). IsLogOfGiven z log) e given) (omega arith) in
    let one : suc counter ≡ counter + 1 = omega arith in
    subst (λ (edits : ℕ). IsSettled start modules edits after) one (more_settled start modules counter log before middle after settled on is stays stand)
