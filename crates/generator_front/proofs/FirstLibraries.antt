-- While the modules are put no verdict falls: no module that is there reaches one that is put later.
use Rattle.std.proofs.Common.{◌⊎◌, ◌≡◌, ℕ, zero, suc, ◌<◌, ◌≤◌, Bool, true, false, cond, List, [], ◌∷◌, ◌++◌, length, Option, Some, None, is_some, ⊎_elim, inl, inr, refl, sym, ap, ◌∙◌, subst, arith, append_assoc, append-nil, true≢false}
use Rattle.std.specs.Prelude.{nat_eq}
use Rattle.std.proofs.lemmas.Bool.Decides.{nat_tests}
use Rattle.std.proofs.lemmas.Fmt.{decimal_injective}
use Rattle.name_meaning.specs.Names.{Name, Text, is_among, same_name}
use Rattle.name_laws.proofs.Order.{among_member, same_sound}
use Rattle.list_laws.proofs.Members.{Member}
use Rattle.edit_log_meaning.specs.Log.{Edit, Log, library_of, text_of}
use Rattle.edit_log_meaning.specs.Append.{Edited, Made, Same, Absent, Full, TooLong, TooMany, append_answer, appended, appended_all, log_after}
use Rattle.edit_log_laws.specs.LogLaws.{left_by}
use Rattle.edit_log_laws.proofs.Libraries.{fold_last, text_last}
use Rattle.module_graph_meaning.specs.Walks.{direct, of_text}
use Rattle.module_graph_meaning.specs.Reach.{reach}
use Rattle.module_graph_laws.proofs.Reaching.{reach_least}
use Rattle.text_meaning.specs.Dependencies.{dependencies}
use Rattle.board_meaning.specs.Events.{History, library_after, log_of}
use Rattle.board_meaning.specs.Legal.{IsLegal}
use Rattle.board_meaning.specs.Standing.{installs}
use Rattle.run_meaning.specs.Generator.{first_puts, generated_put, grounded_names, module_name, module_text}
use Rattle.install_laws.specs.InstallLaws.{AllStand, AreApart, IsApart}
use Rattle.install_laws.proofs.Apart.{apart_installs_stand}
use Rattle.install_laws.proofs.Edits.{all_counted}
use Rattle.generator_front.proofs.GeneratedTexts.{IsBefore, generated_dependencies}

-- ---- the names of the first modules

names_to : ℕ → List Name
names_to zero = []
names_to (suc before) = module_name before ∷ names_to before

in_names : (count at : ℕ) → at < count → Member (module_name at) (names_to count)
unfolding names_to
in_names zero at less = absurd (omega (arith, less))
in_names (suc before) at less = ⊎_elim (λ e. inl (ap (λ (n : ℕ). module_name n) e)) (λ l. inr (in_names before at l)) (last_or_before at before less)
  where
    last_or_before : (a b : ℕ) → a < suc b → (a ≡ b) ⊎ (a < b)
    last_or_before a b l = by (nat_eq a b) refl
      where
        by : (t : Bool) → nat_eq a b ≡ t → (a ≡ b) ⊎ (a < b)
        by true e = inl (grind (arith, nat_tests, e))
        by false e = inr (grind (arith, nat_tests, e, l))

of_names : (count : ℕ) (name : Name) → Member name (names_to count) → IsBefore count name
unfolding names_to
of_names zero name m = absurd m
of_names (suc before) name m =
    ⊎_elim (λ e. record { at = before; less = omega arith; is = e })
    (λ rest. let b = of_names before name rest in record { at = b.at; less = omega (arith, b.less); is = b.is }) m

-- different modules have different names
not_before : (index : ℕ) → index ≤ 1000 → IsBefore index (module_name index) → ⊥
not_before index few before =
    let less = before.less in
    let one : index ≡ before.at = decimal_injective index before.at (omega (arith, few)) (omega (arith, few, less)) (same before.is) in
    omega (arith, less, one)
  where
    same : {m n : List ℕ} → 71 ∷ m ≡ 71 ∷ n → m ≡ n
    same e = cc

module _ (start : ℕ) where
  -- the text is that of a module before this index, in revision 0, and stands under its name
  record IsFirst (count : ℕ) (name : Name) (text : Text) : Type 0 where
    at : ℕ
    less : at < count
    named : name ≡ module_name at
    is : text ≡ module_text start at 0

  abbrev HasFirst : ℕ → Log → Type 0
  HasFirst count log = (name : Name) (text : Text) → text_of (library_of log) name ≡ Some text → IsFirst count name text

  has_none : HasFirst 0 []
  unfolding text_of library_of
  has_none name text h = absurd (cc)

  later : (count : ℕ) (name : Name) (text : Text) → IsFirst count name text → IsFirst (suc count) name text
  later count name text f = record { at = f.at; less = omega (arith, f.less); named = f.named; is = f.is }

  has_more : (count : ℕ) (log : Log) → HasFirst count log → HasFirst (suc count) (log ++ generated_put start count 0 ∷ [])
  has_more count log first name text h = by (same_name name (module_name count)) refl (sym (text_last log (generated_put start count 0) name) ∙ h)
    where
      by : (b : Bool) → same_name name (module_name count) ≡ b → cond b (left_by (generated_put start count 0)) (text_of (library_of log) name) ≡ Some text → IsFirst (suc count) name text
      by true e q = record { at = count; less = omega arith; named = same_sound name (module_name count) e; is = cc }
      by false e q = later count name text (first name text q)

  -- ---- no module reaches the next one

  module _ (count : ℕ) (few : count ≤ 1000) (log : Log) (first : HasFirst count log) where
    closed : (name depended : Name) → Member name (names_to count) → Member depended (direct dependencies (library_of log) name) → Member depended (names_to count)
    unfolding direct
    closed name depended m d = by (text_of (library_of log) name) refl d
      where
        by : (o : Option Text) → text_of (library_of log) name ≡ o → Member depended (of_text (dependencies name) o) → Member depended (names_to count)
        by None e n = absurd n
        by (Some text) e n =
            let f = first name text e in
            let before = generated_dependencies start f.at 0 (omega (arith, few, f.less)) (omega arith) name depended (subst (λ t. Member depended (dependencies name t)) f.is n) in
            subst (λ (z : Name). Member z (names_to count)) (sym before.is) (in_names count before.at (omega (arith, f.less, before.less)))

    put_apart : IsApart dependencies log (generated_put start count 0)
    put_apart other present = by (text_of (library_of log) other) refl present (is_among (reach dependencies (library_of log) other) (module_name count)) refl
      where
        by : (o : Option Text) → text_of (library_of log) other ≡ o → is_some o ≡ true → (b : Bool) → is_among (reach dependencies (library_of log) other) (module_name count) ≡ b → b ≡ false
        by None e p b r = absurd (true≢false (sym p))
        by (Some text) e p false r = refl
        by (Some text) e p true r =
            let f = first other text e in
            absurd
            (not_before count few
            (of_names count (module_name count)
            (reach_least dependencies (library_of log) other (names_to count) closed (subst (λ (z : Name). Member z (names_to count)) (sym f.named) (in_names count f.at f.less)) (module_name count)
            (among_member (reach dependencies (library_of log) other) (module_name count) r))))

  -- ---- all of them

  apart_more : (edits : List Edit) (log : Log) (edit : Edit) → AreApart dependencies log edits → IsApart dependencies (log ++ edits) edit → AreApart dependencies log (edits ++ edit ∷ [])
  unfolding AreApart
  apart_more [] log edit all one = (subst (λ (l : Log). IsApart dependencies l edit) (append-nil log) one, tt)
  apart_more (front ∷ edits) log edit all one =
      (all.0, apart_more edits (log ++ front ∷ []) edit all.1 (subst (λ (l : Log). IsApart dependencies l edit) (sym (append_assoc log (front ∷ []) edits)) one))

  log_next : (count : ℕ) → appended_all [] (first_puts start (suc count)) ≡ appended (appended_all [] (first_puts start count)) (generated_put start count 0)
  unfolding first_puts appended_all
  log_next count = fold_last appended [] (first_puts start count) (generated_put start count 0)

  abbrev Fresh : ℕ → Log → Type 0
  Fresh count log = AreApart dependencies [] log × HasFirst count log

  fresh_more : (count : ℕ) → count ≤ 1000 → (log : Log) → Fresh count log → Fresh (suc count) (appended log (generated_put start count 0))
  unfolding appended
  fresh_more count few log fresh = by (append_answer log (generated_put start count 0))
    where
      same : Fresh (suc count) log
      same = (fresh.0, λ name text h. later count name text (fresh.1 name text h))

      by : (answer : Edited) → Fresh (suc count) (log_after log (generated_put start count 0) answer)
      by (Made version) = (apart_more log [] (generated_put start count 0) fresh.0 (put_apart count few log fresh.1), has_more count log fresh.1)
      by (Same version) = same
      by (Absent version) = same
      by Full = same
      by TooLong = same
      by TooMany = same

  all_fresh : (count : ℕ) → count ≤ 1000 → Fresh count (appended_all [] (first_puts start count))
  unfolding first_puts appended_all AreApart
  all_fresh zero few = (tt, has_none)
  all_fresh (suc before) few =
      subst (Fresh (suc before)) (sym (log_next before)) (fresh_more before (omega (arith, few)) (appended_all [] (first_puts start before)) (all_fresh before (omega (arith, few))))

  -- Once every module that was put is brought to a verdict, each was once.
  pub first_installed : (modules : ℕ) (history : History) → modules ≤ 1000 → IsLegal dependencies history → log_of history ≡ appended_all [] (first_puts start modules) → AllStand dependencies history
      → installs history ≡ length (grounded_names dependencies (library_after history))
  first_installed modules history few legal logged stand =
      apart_installs_stand dependencies history legal (subst (AreApart dependencies []) (sym logged) (all_fresh modules few).0) ∙ ap (λ (n : ℕ). n) (all_counted dependencies history legal stand)
