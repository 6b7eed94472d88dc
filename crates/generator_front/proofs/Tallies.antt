-- The modules of a library are brought to verdicts and counted, one after another.
use Rattle.std.proofs.Common.{append-nil, ◌≡◌, ⊎_elim, ℕ, suc, ◌+◌, ◌≤◌, Bool, true, false, cond, not, List, [], ◌∷◌, ◌++◌, length, filter, drop, take, slice_get, Option, Some, None, is_some, refl, sym, ap, ◌∙◌, subst, arith, true≢false}
use Rattle.std.specs.Prelude.{sum_by}
use Rattle.std.proofs.Math.ListN.{drop_of_length-le}
use Rattle.std.proofs.lemmas.List.Sums.{sum_by-cons}
use Rattle.name_meaning.specs.Names.{Name}
use Rattle.list_laws.proofs.Members.{Member, in_append, place_member}
use Rattle.list_laws.proofs.Places.{drop_here, take_drop, take_more}
use Rattle.edit_log_meaning.specs.Log.{Log, is_present, library_of, names_of, version_of}
use Rattle.module_graph_laws.proofs.Walking.{in_present}
use Rattle.text_meaning.specs.Dependencies.{dependencies}
use Rattle.board_meaning.specs.Events.{History, log_of}
use Rattle.board_meaning.specs.Legal.{IsLegal}
use Rattle.printing_meaning.specs.VerdictLines as lines
use Rattle.run_meaning.specs.Folders.{accepted_count, is_refused, refused_count}
use Rattle.run_meaning.specs.Generator.{declarations_of, size_of}
use Rattle.run_meaning.specs.Judging.{environment_of}
use Rattle.judged_meaning.specs.JudgingByRules.{judged_if, rules}
use Rattle.mmt_interface.specs.declared.verdict.Interface.TheVariants.{Theory, View}
use Rattle.mmt_interface.specs.declared.verdict.Verdict as verdict
use Rattle.mmt_interface.specs.declared.verdict.Verdict.TheVariants.{Accepted, Refused}
use Rattle.verdict_board.specs.declared.replies.Told as told
use Rattle.verdict_board.specs.declared.replies.Told.TheVariants.{Verdict, Pending, Absent}
use Rattle.board_front.specs.Staying.{AllStand, StandsIfGrounded, Stays}
use Rattle.board_front.specs.Told.{IsToldOf}
use Rattle.board_front.proofs.Histories.{stays_on, stays_same}
use Rattle.board_front.proofs.Printed.{counts as numbers_told}
use Rattle.board_front.proofs.Standing.{all_still}
use Rattle.generator_front.specs.declared.counts.Counts.{Counts}
use Rattle.generator_front.specs.Counted.{counted_more, size_told}
use Rattle.generator_front.specs.Generated.{AreCountsOf, printed_counts}

-- ---- lists with one more in front

kept : (test : Name → Bool) (name : Name) (names : List Name) (count all : ℕ) → test name ≡ true → count + length (filter test (name ∷ names)) ≡ all
    → (count + 1) + length (filter test names) ≡ all
kept test name names count all passes sum =
    let one = ap (λ (b : Bool). length (cond b (name ∷ filter test names) (filter test names))) passes in
    omega (arith, one, sum)

passed_over : (test : Name → Bool) (name : Name) (names : List Name) (count all : ℕ) → test name ≡ false → count + length (filter test (name ∷ names)) ≡ all
    → count + length (filter test names) ≡ all
passed_over test name names count all fails sum =
    let none = ap (λ (b : Bool). length (cond b (name ∷ filter test names) (filter test names))) fails in
    omega (arith, none, sum)

-- ---- what is told of a module

-- the number of an accepted module, and none of a refused one
abbrev number_in : Option ℕ → ℕ
number_in (Some size) = size
number_in None = 0

module _ (log : Log) where
  abbrev pub names : List Name
  names = names_of (library_of log)

  abbrev judged : Name → lines.Judged
  judged name = rules.judged (library_of log) name

  abbrev refused : Name → Bool
  refused name = is_refused (judged name)

  abbrev accepted : Name → Bool
  accepted name = not (is_refused (judged name))

  abbrev sized : Name → ℕ
  sized name = size_of (environment_of rules (library_of log)) (judged name)

  module _ (name : Name) (present : is_present (library_of log) name ≡ true) where
    told_refused : (told : told.Told verdict.Verdict) → IsToldOf log name told → refused name ≡ not (is_some (size_told told))
    told_refused (Verdict (Accepted (Theory face size)) version) t = ap (λ o. is_refused (judged_if o)) t.0
    told_refused (Verdict (Accepted (View face)) version) t = ap (λ o. is_refused (judged_if o)) t.0
    told_refused (Verdict (Refused refusal) version) t = ap (λ o. is_refused (judged_if o)) t.0
    told_refused (Pending version) t = absurd t
    told_refused (Absent version) t = absurd (true≢false (sym present ∙ t.0))

    told_sized : (told : told.Told verdict.Verdict) → IsToldOf log name told → sized name ≡ number_in (size_told told)
    told_sized (Verdict (Accepted (Theory face size)) version) t =
        ap (λ o. size_of (environment_of rules (library_of log)) (judged_if o)) t.0 ∙ sym (numbers_told log name (Verdict (Accepted (Theory face size)) version) t)
    told_sized (Verdict (Accepted (View face)) version) t =
        ap (λ o. size_of (environment_of rules (library_of log)) (judged_if o)) t.0 ∙ sym (numbers_told log name (Verdict (Accepted (View face)) version) t)
    told_sized (Verdict (Refused refusal) version) t = ap (λ o. size_of (environment_of rules (library_of log)) (judged_if o)) t.0
    told_sized (Pending version) t = absurd t
    told_sized (Absent version) t = absurd (true≢false (sym present ∙ t.0))

  -- ---- the modules so far

  -- With those that are left the counts are those of the library.
  pub record IsTally (left : List Name) (counts : Counts) : Type 0 where
    pub version : counts.version ≡ version_of log
    pub accepted_so_far : counts.accepted + length (filter accepted left) ≡ accepted_count rules (library_of log)
    pub refused_so_far : counts.refused + length (filter refused left) ≡ refused_count rules (library_of log)
    pub declarations_so_far : counts.declarations + sum_by sized left ≡ declarations_of rules (library_of log)

  one_counted : (name : Name) (left : List Name) (counts : Counts) (o : Option ℕ) → refused name ≡ not (is_some o) → sized name ≡ number_in o
      → IsTally (name ∷ left) counts → IsTally left (counted_more counts o)
  one_counted name left counts (Some size) is has tally =
      let more = sum_by-cons sized name left in
      let sum = tally.declarations_so_far in
      record {
        version = tally.version;
        accepted_so_far = kept accepted name left counts.accepted (accepted_count rules (library_of log)) (ap not is) tally.accepted_so_far;
        refused_so_far = passed_over refused name left counts.refused (refused_count rules (library_of log)) is tally.refused_so_far;
        declarations_so_far = omega (arith, has, more, sum);
      }
  one_counted name left counts None is has tally =
      let more = sum_by-cons sized name left in
      let sum = tally.declarations_so_far in
      record {
        version = tally.version;
        accepted_so_far = passed_over accepted name left counts.accepted (accepted_count rules (library_of log)) (ap not is) tally.accepted_so_far;
        refused_so_far = kept refused name left counts.refused (refused_count rules (library_of log)) is tally.refused_so_far;
        declarations_so_far = omega (arith, has, more, sum);
      }

  all_counted : (counts : Counts) → IsTally [] counts → AreCountsOf log counts
  all_counted counts tally modules edits =
      let a : counts.accepted ≡ accepted_count rules (library_of log) = let sum = tally.accepted_so_far in omega (arith, sum) in
      let r : counts.refused ≡ refused_count rules (library_of log) = let sum = tally.refused_so_far in omega (arith, sum) in
      let d : counts.declarations ≡ declarations_of rules (library_of log) = let sum = tally.declarations_so_far in omega (arith, sum) in
      ap (λ (n : ℕ). printed_counts modules edits (record { version = n; accepted = counts.accepted; refused = counts.refused; declarations = counts.declarations })) tally.version
      ∙ ap (λ (n : ℕ). printed_counts modules edits (record { version = version_of log; accepted = n; refused = counts.refused; declarations = counts.declarations })) a
      ∙ ap (λ (n : ℕ). printed_counts modules edits (record { version = version_of log; accepted = accepted_count rules (library_of log); refused = n; declarations = counts.declarations })) r
      ∙ ap (λ (n : ℕ). printed_counts modules edits (record { version = version_of log; accepted = accepted_count rules (library_of log); refused = refused_count rules (library_of log); declarations = n })) d

  -- ---- the loop

  -- The modules before this place are counted, and stand where they are grounded.
  pub record TallySoFar (before now : History) (place : ℕ) (counts : Counts) : Type 0 where
    pub stays : Stays before now
    pub tally : IsTally (drop place names) counts
    pub few : counts.accepted + counts.refused ≡ place
    pub stand : AllStand now (take place names)

  pub none_counted : (history : History) (counts : Counts) → IsLegal dependencies history
      → counts ≡ record { version = version_of log; accepted = 0; refused = 0; declarations = 0 } → TallySoFar history history 0 counts
  none_counted history counts legal none =
      subst (TallySoFar history history 0) (sym none)
      (record {
        stays = stays_same history legal;
        tally = record { version = refl; accepted_so_far = omega arith; refused_so_far = omega arith; declarations_so_far = omega arith };
        few = refl;
        stand = λ name m. absurd m;
      })

  few_more : (counts : Counts) (place : ℕ) (o : Option ℕ) → counts.accepted + counts.refused ≡ place → (counted_more counts o).accepted + (counted_more counts o).refused ≡ suc place
  few_more counts place (Some size) sum = omega (arith, sum)
  few_more counts place None sum = omega (arith, sum)

  module _ (before now new : History) (place : ℕ) (name : Name) (told : told.Told verdict.Verdict) (counts : Counts) (here : slice_get names place ≡ Some name)
      (so_far : TallySoFar before now place counts) (front : log ≡ log_of before) (stays : Stays now new) (told_of : IsToldOf (log_of new) name told) (standing : StandsIfGrounded new name) where
    is : IsToldOf log name told
    is = subst (λ (l : Log). IsToldOf l name told) (stays.logged ∙ so_far.stays.logged ∙ sym front) told_of

    present : is_present (library_of log) name ≡ true
    present = in_present dependencies (library_of log) name (place_member names place name here)

    with_this : AllStand new (take place names ++ name ∷ [])
    with_this other m =
        ⊎_elim (λ l. all_still now new (take place names) stays so_far.stand other l) (λ r. by r) (in_append (take place names) (name ∷ []) other m)
      where
        by : Member other (name ∷ []) → StandsIfGrounded new other
        by r = ⊎_elim (λ e. subst (StandsIfGrounded new) (sym e) standing) (λ none. absurd none) r

    pub next_counted : (next : Counts) → next ≡ counted_more counts (size_told told) → TallySoFar before new (place + 1) next
    next_counted next e =
        let more : suc place ≡ place + 1 = omega arith in
        subst (λ (p : ℕ). TallySoFar before new p next) more
        (subst (TallySoFar before new (suc place)) (sym e)
        (record {
          stays = stays_on (log_of before) before now new so_far.stays stays;
          tally = one_counted name (drop (suc place) names) counts (size_told told) (told_refused name present told is) (told_sized name present told is)
              (subst (λ (left : List Name). IsTally left counts) (drop_here names place name here) so_far.tally);
          few = few_more counts place (size_told told) so_far.few;
          stand = subst (AllStand new) (sym (take_more names place name here)) with_this;
        }))

  module _ (before now : History) (place : ℕ) (counts : Counts) (so_far : TallySoFar before now place counts) (all : length names ≤ place) where
    none_left : drop place names ≡ []
    none_left = drop_of_length-le names all

    pub counted : AreCountsOf log counts
    counted = all_counted counts (subst (λ (left : List Name). IsTally left counts) none_left so_far.tally)

    pub stand_all : AllStand now names
    stand_all = subst (AllStand now) (sym (append-nil (take place names)) ∙ ap (λ left. take place names ++ left) (sym none_left) ∙ take_drop names place) so_far.stand
