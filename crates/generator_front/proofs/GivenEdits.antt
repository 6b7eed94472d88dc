-- The edits that the generator has given, and the log that they leave.
use Rattle.std.proofs.Common.{◌≡◌, ⊎_elim, ℕ, suc, ◌+◌, ◌<◌, ◌≤◌, List, [], ◌∷◌, ◌++◌, length, take, slice_get, Some, true, true≢false, refl, sym, ap, ◌∙◌, subst, arith, append_assoc, append-nil, length-append}
use Rattle.std.specs.Prelude.{Result, Ok, Err}
use Rattle.std.specs.Result.{is_err}
use Rattle.std.proofs.lemmas.List.Sums.{fold-append}
use Rattle.list_laws.proofs.Places.{take_length, take_more}
use Rattle.edit_log_meaning.specs.Log.{Edit, Log}
use Rattle.edit_log_meaning.specs.Append.{appended, appended_all}
use Rattle.edit_log_laws.proofs.Libraries.{fold_last}
use Rattle.board_meaning.specs.Events.{History, log_of}
use Rattle.board_meaning.specs.Legal.{IsLegal}
use Rattle.board_laws.proofs.Legality.{legal_empty}
use Rattle.text_meaning.specs.Dependencies.{dependencies}
use Rattle.run_meaning.specs.Generator.{first_puts, later_puts, generated}
use Rattle.board_front.specs.Staying.{Edits, GoesOn, IsFront, MayEdit, Stays}
use Rattle.script_reader.specs.Generating.{Generating, ComesNext, gave_one}
use Rattle.script_reader.proofs.GeneratedPlaces.{first_length, later_length, later_put}
use Rattle.generator_front.specs.Generated.{Ends, HasBegun, IsBegun, IsLogOfGiven}
use Rattle.generator_front.specs.declared.counts.Counts.{Counts}

-- ---- the list of the edits

generated_length : (start modules edits : ℕ) → length (generated start modules edits) ≡ modules + edits
unfolding generated
generated_length start modules edits =
    omega (arith, length-append (first_puts start modules) (later_puts start modules edits), first_length start modules, later_length start modules edits)

-- no later edit
pub generated_first : (start modules : ℕ) → generated start modules 0 ≡ first_puts start modules
unfolding generated later_puts
generated_first start modules = append-nil (first_puts start modules)

-- one later edit more
pub generated_more : (start modules edits : ℕ) → generated start modules (suc edits) ≡ generated start modules edits ++ later_put start modules edits ∷ []
unfolding generated later_puts
generated_more start modules edits = sym (append_assoc (first_puts start modules) (later_puts start modules edits) (later_put start modules edits ∷ []))

-- ---- the log that they leave

-- first the modules, and then the later edits
pub log_parts : (start modules edits : ℕ) → appended_all [] (generated start modules edits) ≡ appended_all (appended_all [] (first_puts start modules)) (later_puts start modules edits)
unfolding generated appended_all
log_parts start modules edits = fold-append appended [] (first_puts start modules) (later_puts start modules edits)

pub log_more : (start modules edits : ℕ) → appended_all [] (generated start modules (suc edits)) ≡ appended (appended_all [] (generated start modules edits)) (later_put start modules edits)
unfolding appended_all
log_more start modules edits =
    ap (appended_all []) (generated_more start modules edits) ∙ fold_last appended [] (generated start modules edits) (later_put start modules edits)

-- ---- the edits given so far

pub none_given : (generating : Generating) (log : Log) → generating.given ≡ 0 → log ≡ [] → IsLogOfGiven generating log
unfolding appended_all
none_given generating log none empty edits within =
    empty ∙ sym (ap (λ n. appended_all [] (take n (generated generating.start generating.modules edits))) none ∙ nothing (generated generating.start generating.modules edits))
  where
    nothing : (all : List Edit) → appended_all [] (take 0 all) ≡ []
    nothing all = refl

pub one_given : (generating : Generating) (log : Log) (edit : Edit) → IsLogOfGiven generating log → ComesNext generating edit → IsLogOfGiven (gave_one generating) (appended log edit)
unfolding appended_all
one_given generating log edit so_far next edits within =
    ap (λ (l : Log). appended l edit) (so_far edits (omega (arith, within)))
    ∙ one (generated generating.start generating.modules edits) (next edits (omega (arith, within)))
  where
    one : (all : List Edit) → slice_get all generating.given ≡ Some edit → appended (appended_all [] (take generating.given all)) edit ≡ appended_all [] (take (generating.given + 1) all)
    one all here =
        let place : suc generating.given ≡ generating.given + 1 = omega arith in
        sym (fold_last appended [] (take generating.given all) edit)
        ∙ ap (appended_all []) (sym (take_more all generating.given edit here))
        ∙ ap (λ n. appended_all [] (take n all)) place

-- all of them
pub all_given : (generating : Generating) (log : Log) (edits : ℕ) → IsLogOfGiven generating log → generating.given ≡ generating.modules + edits
    → log ≡ appended_all [] (generated generating.start generating.modules edits)
all_given generating log edits so_far all =
    let whole : List Edit = generated generating.start generating.modules edits in
    so_far edits (omega (arith, all))
    ∙ ap (λ n. appended_all [] (take n whole)) (all ∙ sym (generated_length generating.start generating.modules edits))
    ∙ ap (appended_all []) (take_length whole)

-- ---- where memory is wanting

pub begun_now : (generating : Generating) (log : Log) (edits : ℕ) → IsLogOfGiven generating log → generating.given ≤ generating.modules + edits
    → IsBegun generating.start generating.modules edits log
begun_now generating log edits so_far within = record { given = generating.given; logged = so_far edits within }

pub begun_before : (generating : Generating) (log : Log) → IsLogOfGiven generating log → HasBegun generating log
begun_before generating log so_far edits less = begun_now generating log edits so_far (omega (arith, less))

pub begun_behind : (generating : Generating) (log : Log) → IsLogOfGiven (gave_one generating) log → HasBegun generating log
begun_behind generating log so_far edits less = record { given = generating.given + 1; logged = so_far edits (omega (arith, less)) }

module _ (generating : Generating) (log : Log) (edit : Edit) (before after : History) (front : IsFront log before) (so_far : IsLogOfGiven generating log) (next : ComesNext generating edit) where
  made_log : log_of after ≡ appended (log_of before) edit → log_of after ≡ appended log edit
  made_log logged = logged ∙ ap (λ (l : Log). appended l edit) (sym front.logged)

  pub may_begin : MayEdit edit before after → HasBegun generating (log_of after)
  may_begin may =
      ⊎_elim (λ (s : Stays before after). begun_before generating (log_of after) (subst (IsLogOfGiven generating) (front.logged ∙ sym s.logged) so_far))
      (λ (e : Edits edit before after). begun_behind generating (log_of after) (subst (IsLogOfGiven (gave_one generating)) (sym (made_log e.logged)) (one_given generating log edit so_far next)))
      may

  pub edit_goes_on : (new : Log) → new ≡ appended log edit → Edits edit before after → GoesOn new before after
  edit_goes_on new is e = record { legal = e.legal; later = e.later; begins = e.begins; logged = made_log e.logged ∙ sym is }

-- where all were given
pub begun_at_end : (start modules edits : ℕ) (log : Log) → log ≡ appended_all [] (generated start modules edits) → IsBegun start modules edits log
begun_at_end start modules edits log is =
    record { given = length (generated start modules edits); logged = is ∙ ap (appended_all []) (sym (take_length (generated start modules edits))) }

-- where so many of the later edits were given, or none
begun_at : (start modules given edits : ℕ) (generating : Generating) (log : Log) (history : History) → generating ≡ record { start = start; modules = modules; given = given }
    → IsLogOfGiven generating log → given ≤ modules + edits → log_of history ≡ log → IsBegun start modules edits (log_of history)
begun_at start modules given edits generating log history e so_far within is =
    subst (IsBegun start modules edits) (sym is)
    (begun_now (record { start = start; modules = modules; given = given }) log edits (subst (λ (z : Generating). IsLogOfGiven z log) e so_far) within)

pub begun_later : (start modules counter edits : ℕ) (generating : Generating) (log : Log) (history : History)
    → generating ≡ record { start = start; modules = modules; given = modules + (counter + 1) } → IsLogOfGiven generating log → counter < edits → log_of history ≡ log
    → IsBegun start modules edits (log_of history)
begun_later start modules counter edits generating log history e so_far less is =
    begun_at start modules (modules + (counter + 1)) edits generating log history e so_far (omega (arith, less)) is

pub begun_first : (start modules edits : ℕ) (generating : Generating) (log : Log) (history : History) → generating ≡ record { start = start; modules = modules; given = modules }
    → IsLogOfGiven generating log → log_of history ≡ log → IsBegun start modules edits (log_of history)
begun_first start modules edits generating log history e so_far is = begun_at start modules modules edits generating log history e so_far (omega arith) is

pub gave_next : (start modules counter : ℕ) (old new : Generating) → new ≡ gave_one old → old ≡ record { start = start; modules = modules; given = modules + counter }
    → new ≡ record { start = start; modules = modules; given = modules + (counter + 1) }
gave_next start modules counter old new gave is =
    let n : modules + counter + 1 ≡ modules + (counter + 1) = omega arith in
    gave ∙ ap gave_one is ∙ ap (λ (given : ℕ). record { start = start; modules = modules; given = given }) n

-- ---- a board without an entry

pub empty_front : (log : Log) (history : History) → log ≡ [] → history ≡ [] → IsFront log history
unfolding log_of
empty_front log history none empty = record { legal = subst (IsLegal dependencies) (sym empty) (legal_empty dependencies); logged = none ∙ sym (ap log_of empty) }

-- ---- what is said of an error

pub ends_at_err : {Fault : Type 0} (start modules edits : ℕ) (result : Result Counts Fault) (history : History) → is_err result ≡ true
    → IsBegun start modules edits (log_of history) → Ends start modules edits result history
ends_at_err start modules edits (Ok counts) history is begun = absurd (true≢false (sym is))
ends_at_err start modules edits (Err fault) history is begun = begun
