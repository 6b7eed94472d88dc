-- Edits that put texts under names that no module reaches take no verdict.
use Rattle.std.proofs.Common.{◌≡◌, ℕ, ◌+◌, Bool, true, false, not, cond, List, [], ◌∷◌, ◌++◌, ◌&&◌, length, filter, filter_map, Option, Some, None, option_to_list, refl, sym, ap, ◌∙◌, subst, arith, append_assoc, append-nil}
use Rattle.std.specs.List.{cons_option}
use Rattle.std.proofs.lemmas.Bool.{and_parts}
use Rattle.name_meaning.specs.Names.{Name, Text, comes_before, is_among, same_name, with_name}
use Rattle.edit_log_meaning.specs.Log.{Edit, Put, Drop, Log, is_present, library_of, names_of}
use Rattle.edit_log_laws.proofs.Libraries.{library_last, names_with}
use Rattle.module_graph_meaning.specs.Walks.{Dependencies, is_ungrounded}
use Rattle.module_graph_meaning.specs.Reach.{reach}
use Rattle.module_graph_laws.proofs.Reaching.{reach_first}
use Rattle.name_laws.proofs.Order.{member_among}
use Rattle.board_meaning.specs.Events.{Event, Entry, History, edit_in, library_after, log_of}
use Rattle.board_meaning.specs.Standing.{installed_claim, installed_claims, installs, standing_count, stands}
use Rattle.board_meaning.specs.Legal.{IsLegal}
use Rattle.board_laws.proofs.Histories.{log_some, log_none}
use Rattle.board_laws.proofs.Counting.{filter_same, install_raises_count, others_keep_count}
use Rattle.board_laws.proofs.Legality.{legal_front, legal_last}
use Rattle.board_laws.proofs.Standings.{installed_is, standing_grounded}
use Rattle.board_laws.proofs.Told.{edit_leaves_told}
use Rattle.install_laws.specs.InstallLaws.{ApartInstallsStand, AreApart, IsApart}
use Rattle.board_laws.proofs.Following.{installs_last}
use Rattle.install_laws.proofs.Installs.{edit_made}

-- A name that fails a test does not count among those that pass it.
filter_with : (test : Name → Bool) (name : Name) (names : List Name) → test name ≡ false → filter test (with_name name names) ≡ filter test names
unfolding with_name
filter_with test name [] fails = ap (λ (b : Bool). cond b (name ∷ []) []) fails
filter_with test name (other ∷ names) fails = by (same_name name other) (comes_before name other) (filter_with test name names fails)
  where
    by : (same before : Bool) → filter test (with_name name names) ≡ filter test names
        → filter test (cond same (other ∷ names) (cond before (name ∷ other ∷ names) (other ∷ with_name name names))) ≡ filter test (other ∷ names)
    by true before rest = refl
    by false true rest = ap (λ (b : Bool). cond b (name ∷ filter test (other ∷ names)) (filter test (other ∷ names))) fails
    by false false rest = ap (λ (passed : List Name). cond (test other) (other ∷ passed) passed) rest

module _ (dependencies : Dependencies) where
  module _ (history : History) (entry : Entry) (legal : IsLegal dependencies (history ++ entry ∷ [])) where
    before : IsLegal dependencies history
    before = legal_front dependencies history (entry ∷ []) legal

    -- ---- an edit that is apart

    module _ (name : Name) (text : Text) (made : edit_in entry ≡ Some (Put name text)) (apart : IsApart dependencies (log_of history) (Put name text)) where
      leaves : (other : Name) → stands dependencies (history ++ entry ∷ []) other ≡ (stands dependencies history other && not (is_among (reach dependencies (library_after history) other) name))
      leaves other = edit_leaves_told dependencies history entry (Put name text) other before (edit_made entry.event (Put name text) made)

      and_none : (b : Bool) → (b && false) ≡ false
      and_none true = refl
      and_none false = refl

      -- the name itself does not stand
      itself : stands dependencies (history ++ entry ∷ []) name ≡ false
      itself =
          leaves name
          ∙ ap (λ (b : Bool). stands dependencies history name && not b) (member_among (reach dependencies (library_after history) name) name (reach_first dependencies (library_after history) name))
          ∙ and_none (stands dependencies history name)

      others : (other : Name) → stands dependencies (history ++ entry ∷ []) other ≡ stands dependencies history other
      others other = leaves other ∙ by (stands dependencies history other) refl
        where
          by : (b : Bool) → stands dependencies history other ≡ b → (b && not (is_among (reach dependencies (library_after history) other) name)) ≡ b
          by false e = refl
          by true e =
              ap not
              (apart other (and_parts (is_present (library_after history) other) (not (is_ungrounded dependencies (library_after history) other)) (standing_grounded dependencies history before other e)).0)

      names_after : names_of (library_after (history ++ entry ∷ [])) ≡ with_name name (names_of (library_after history))
      names_after =
          ap (λ (l : Log). names_of (library_of l)) (log_some history entry (Put name text) made)
          ∙ ap names_of (library_last (log_of history) (Put name text)) ∙ names_with name text (library_after history)

      same_count : standing_count dependencies (history ++ entry ∷ []) ≡ standing_count dependencies history
      same_count =
          ap (λ (names : List Name). length (filter (stands dependencies (history ++ entry ∷ [])) names)) names_after
          ∙ ap length (filter_with (stands dependencies (history ++ entry ∷ [])) name (names_of (library_after history)) itself)
          ∙ ap length (filter_same (stands dependencies history) (stands dependencies (history ++ entry ∷ [])) (names_of (library_after history)) (λ other m. others other))

    -- ---- one entry more

    even : Type 0
    even = installs history ≡ standing_count dependencies history → installs (history ++ entry ∷ []) ≡ standing_count dependencies (history ++ entry ∷ [])

    by_edit : (edit : Edit) → edit_in entry ≡ Some edit → IsApart dependencies (log_of history) edit → even
    unfolding even
    by_edit (Put name text) made apart so_far =
        let none = installs_last history entry ∙ ap (λ (e : Event). installs history + length (option_to_list (installed_claim e))) (edit_made entry.event (Put name text) made) in
        let same = same_count name text made apart in
        omega (arith, so_far, none, same)
    by_edit (Drop name) made apart so_far = absurd apart

    by_other : edit_in entry ≡ None → (o : Option ℕ) → installed_claim entry.event ≡ o → even
    unfolding even
    by_other none None is so_far =
        let same = others_keep_count dependencies history entry before none is in
        let nothing = installs_last history entry ∙ ap (λ (c : Option ℕ). installs history + length (option_to_list c)) is in
        omega (arith, so_far, same, nothing)
    by_other none (Some claim) is so_far =
        let more = install_raises_count dependencies history entry claim before (legal_last dependencies history entry legal) (installed_is entry.event claim is) in
        let one = installs_last history entry ∙ ap (λ (c : Option ℕ). installs history + length (option_to_list c)) is in
        omega (arith, so_far, more, one)

  apart_on : (later history : History) → IsLegal dependencies (history ++ later) → AreApart dependencies (log_of history) (log_of later) → installs history ≡ standing_count dependencies history
      → installs (history ++ later) ≡ standing_count dependencies (history ++ later)
  unfolding AreApart log_of even
  apart_on [] history legal apart so_far = subst (λ (h : History). installs h ≡ standing_count dependencies h) (sym (append-nil history)) so_far
  apart_on (entry ∷ later) history legal apart so_far =
      let joined = append_assoc history (entry ∷ []) later in
      let legal_on = subst (IsLegal dependencies) (sym joined) legal in
      let one = legal_front dependencies (history ++ entry ∷ []) later legal_on in
      subst (λ (h : History). installs h ≡ standing_count dependencies h) joined
      (by one (edit_in entry) refl apart (λ rest now. apart_on later (history ++ entry ∷ []) legal_on rest now))
    where
      by : IsLegal dependencies (history ++ entry ∷ []) → (o : Option Edit) → edit_in entry ≡ o → AreApart dependencies (log_of history) (cons_option o (filter_map edit_in later))
          → (AreApart dependencies (log_of (history ++ entry ∷ [])) (filter_map edit_in later) → installs (history ++ entry ∷ []) ≡ standing_count dependencies (history ++ entry ∷ [])
          → installs ((history ++ entry ∷ []) ++ later) ≡ standing_count dependencies ((history ++ entry ∷ []) ++ later))
          → installs ((history ++ entry ∷ []) ++ later) ≡ standing_count dependencies ((history ++ entry ∷ []) ++ later)
      by one None none rest go =
          go (subst (λ (l : Log). AreApart dependencies l (filter_map edit_in later)) (sym (log_none history entry none)) rest) (by_other history entry one none (installed_claim entry.event) refl so_far)
      by one (Some edit) made rest go =
          go (subst (λ (l : Log). AreApart dependencies l (filter_map edit_in later)) (sym (log_some history entry edit made)) rest.1) (by_edit history entry one edit made rest.0 so_far)

pub apart_installs_stand : ApartInstallsStand
unfolding installed_claims stands log_of library_of
apart_installs_stand dependencies history legal apart = apart_on dependencies history [] legal apart refl
