-- The modules whose verdicts are to come are brought to verdicts, one after another in byte order of names.
use Rattle.std.proofs.Common.{◌≡◌, ⊎_elim, ℕ, ◌+◌, ◌<◌, ◌≤◌, Bool, true, false, ◌||◌, not, length, slice_get, Option, Some, None, IfSome, sym, ap, ◌∙◌, subst, arith, true≢false}
use Rattle.std.proofs.lemmas.Bool.{and_parts, cases_lt}
use Rattle.std.proofs.lemmas.Option.{slice_get_within}
use Rattle.name_meaning.specs.Names.{Name}
use Rattle.list_laws.proofs.Members.{member_place}
use Rattle.edit_log_meaning.specs.Log.{Log, is_present, library_of, names_of}
use Rattle.module_graph_meaning.specs.Walks.{is_ungrounded}
use Rattle.text_meaning.specs.Dependencies.{dependencies}
use Rattle.turn_meaning.specs.Passes.{Pass}
use Rattle.board_meaning.specs.Events.{Entry, History, log_of, library_after}
use Rattle.board_meaning.specs.Machine.{is_known}
use Rattle.board_meaning.specs.Points.{IsPoint}
use Rattle.board_meaning.specs.Standing.{stands}
use Rattle.board_laws.proofs.Passing.{front_knows}
use Rattle.verdict_board.specs.FirstPending.{IsFirstPending}
use Rattle.board_seats.specs.Seats.{Keeps, LooksAt}
use Rattle.install_laws.specs.InstallLaws.{AllStand}
use Rattle.board_front.specs.Staying.{StandsIfGrounded, Stays}
use Rattle.board_front.proofs.Standing.{still_if_grounded}
use Rattle.generator_front.proofs.SettledEdits.{grounded_stand}

-- ---- one look at the board

-- Others make no edit.
pub look_stays : {Lock : Type 0} (first before after : Pass Lock Entry) → first.number ≡ 0 → Keeps first before → LooksAt dependencies before after → Stays before.seen after.seen
look_stays first before after zero_first keeps looks =
    let number : before.number ≡ 0 = ap (λ (p : Pass _ Entry). p.number) keeps ∙ zero_first in
    let point : IsPoint dependencies before.seen 0 after.seen = subst (λ (n : ℕ). IsPoint dependencies before.seen n after.seen) number looks.at_point in
    record {
      legal = point.legal;
      later = point.goes_on.later;
      begins = point.goes_on.begins;
      logged = (front_knows dependencies before.seen after.seen point).0;
    }

-- What is known stands where it is grounded.
known_stands : (history : History) (name : Name) → is_known dependencies history name ≡ true → StandsIfGrounded history name
known_stands history name known grounded =
    by (is_ungrounded dependencies (library_after history) name) (stands dependencies history name) known
    (and_parts (is_present (library_after history) name) (not (is_ungrounded dependencies (library_after history) name)) grounded).1
  where
    by : (u s : Bool) → (u || s) ≡ true → not u ≡ true → s ≡ true
    by true s k g = absurd (true≢false (sym g))
    by false s k g = k

-- ---- the loop

-- The modules at places below this one stand where they are grounded.
abbrev pub AreSettledBelow : Log → History → ℕ → Type 0
AreSettledBelow log history from = (place : ℕ) (name : Name) → slice_get (names_of (library_of log)) place ≡ Some name → place < from → StandsIfGrounded history name

pub none_below : (log : Log) (history : History) → AreSettledBelow log history 0
none_below log history place name here less = absurd (omega (arith, less))

still_below : (log : Log) (now new : History) (from : ℕ) → Stays now new → AreSettledBelow log now from → AreSettledBelow log new from
still_below log now new from stays below place name here less = still_if_grounded now new name stays (below place name here less)

pub all_below : (log : Log) (history : History) (from : ℕ) → log_of history ≡ log → length (names_of (library_of log)) ≤ from → AreSettledBelow log history from → AllStand dependencies history
all_below log history from logged all below =
    grounded_stand log history logged
    (λ name m.
    let p = member_place (names_of (library_of log)) name m in
    let within = slice_get_within (names_of (library_of log)) p.0 name p.1 in
    below p.0 name p.1 (omega (arith, within, all)))

module _ (log : Log) (now looked : History) (from : ℕ) (logged : log_of looked ≡ log) (stays : Stays now looked) (below : AreSettledBelow log now from) where
  -- Behind a place the verdicts of all modules up to the one that was found are known.
  passed_over : (found : Option ℕ) → IsFirstPending dependencies looked from found → (end : ℕ) → ((place : ℕ) → place < end → IfSome found (λ last. place < last)) → AreSettledBelow log looked end
  passed_over found pending end before place name here less =
      ⊎_elim (λ (l : place < from). still_below log now looked from stays below place name here l)
      (λ (l : from ≤ place).
      known_stands looked name (pending.known place name l (before place less) (ap (λ (of : Log). slice_get (names_of (library_of of)) place) logged ∙ here)))
      (cases_lt place from)

  -- the one that was found is brought to a verdict
  pub next_settled : (new : History) (place : ℕ) (name : Name) → IsFirstPending dependencies looked from (Some place) → slice_get (names_of (library_of log)) place ≡ Some name
      → Stays looked new → StandsIfGrounded new name → AreSettledBelow log new (place + 1)
  next_settled new place name pending here on standing other own at less =
      ⊎_elim (λ (l : other < place). still_below log looked new place on (passed_over (Some place) pending place (λ i l. l)) other own at l)
      (λ (l : place ≤ other).
      let e : other ≡ place = omega (arith, less, l) in
      let same : own ≡ name = some_same own name (sym at ∙ ap (slice_get (names_of (library_of log))) e ∙ here) in
      subst (StandsIfGrounded new) (sym same) standing)
      (cases_lt other place)
    where
      some_same : (a b : Name) → Some a ≡ Some b → a ≡ b
      some_same a b q = cc

  pub found_within : (place : ℕ) → IsFirstPending dependencies looked from (Some place) → place < length (names_of (library_of log))
  found_within place pending = subst (λ (of : Log). place < length (names_of (library_of of))) logged pending.within.1

  -- none was found
  pub all_settled : IsFirstPending dependencies looked from None → AllStand dependencies looked
  all_settled pending =
      all_below log looked (length (names_of (library_of log))) logged (omega arith) (passed_over None pending (length (names_of (library_of log))) (λ i l. tt))
