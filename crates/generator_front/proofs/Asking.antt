-- What is asked for, and what is told, behind one later edit more.
use Rattle.std.proofs.Common.{◌≡◌, ℕ, suc, ◌+◌, ◌≤◌, List, [], ◌∷◌, ◌++◌, length, refl, sym, ap, ◌∙◌, arith, append_assoc, append-nil}
use Rattle.std.proofs.lemmas.List.{append_cancel_left}
use Rattle.edit_log_meaning.specs.Log.{Edit, Log, library_of}
use Rattle.edit_log_meaning.specs.Append.{Edited, Made, Same, Absent, Full, TooLong, TooMany, append_answer, appended, appended_all, log_after}
use Rattle.module_graph_meaning.specs.Walks.{Dependencies}
use Rattle.run_meaning.specs.Parts.{Telling, told_of_all}
use Rattle.run_meaning.specs.Generator.{asked_after, asked_by, first_puts, generated, generator_told, grounded_names, installs_of, later_puts, told_after_each}
use Rattle.script_reader.proofs.GeneratedPlaces.{later_put}
use Rattle.generator_front.proofs.GivenEdits.{log_more, log_parts}

module _ (dependencies : Dependencies) where
  asked_more : (edits : List Edit) (log : Log) (edit : Edit)
      → asked_after dependencies log (edits ++ edit ∷ []) ≡ asked_after dependencies log edits + asked_after dependencies (appended_all log edits) (edit ∷ [])
  unfolding asked_after appended_all
  asked_more [] log edit = omega arith
  asked_more (first ∷ edits) log edit = let rest = asked_more edits (appended log first) edit in omega (arith, rest)

  told_more : (edits : List Edit) (log : Log) (edit : Edit)
      → told_after_each dependencies log (edits ++ edit ∷ []) ≡ told_after_each dependencies log edits ++ told_of_all dependencies (appended (appended_all log edits) edit)
  unfolding told_after_each appended_all
  told_more [] log edit = append-nil (told_of_all dependencies (appended log edit))
  told_more (first ∷ edits) log edit =
      let own : List Telling = told_of_all dependencies (appended log first) in
      ap (λ (tellings : List Telling). own ++ tellings) (told_more edits (appended log first) edit)
      ∙ sym (append_assoc own (told_after_each dependencies (appended log first) edits) (told_of_all dependencies (appended (appended_all (appended log first) edits) edit)))

  -- ---- the change of the log that an edit makes

  -- An edit that is made is the one change of the log, and one that is not made changes nothing and asks for nothing.
  pub changes_one : (log change : Log) (edit : Edit) → appended log edit ≡ log ++ change
      → (length change ≤ 1) × (asked_after dependencies log change ≡ asked_after dependencies log (edit ∷ []))
  unfolding asked_after appended
  changes_one log change edit is = by (append_answer log edit) refl
    where
      unchanged : appended log edit ≡ log → change ≡ []
      unchanged same = append_cancel_left log change [] (sym is ∙ same ∙ sym (append-nil log))

      nothing : (answer : Edited) → append_answer log edit ≡ answer → change ≡ [] → asked_by dependencies log edit answer ≡ 0
          → (length change ≤ 1) × (asked_after dependencies log change ≡ asked_after dependencies log (edit ∷ []))
      nothing answer a none asks =
          let short = ap length none in
          let asked = ap (asked_after dependencies log) none in
          let none_by = ap (asked_by dependencies log edit) a ∙ asks in (
            omega (arith, short),
            omega (arith, asked, none_by),
          )

      by : (answer : Edited) → append_answer log edit ≡ answer → (length change ≤ 1) × (asked_after dependencies log change ≡ asked_after dependencies log (edit ∷ []))
      by (Made version) a =
          let one : change ≡ edit ∷ [] = append_cancel_left log change (edit ∷ []) (sym is ∙ ap (log_after log edit) a) in
          let short = ap length one in (
            omega (arith, short),
            ap (asked_after dependencies log) one,
          )
      by (Same version) a = nothing (Same version) a (unchanged (ap (log_after log edit) a)) refl
      by (Absent version) a = nothing (Absent version) a (unchanged (ap (log_after log edit) a)) refl
      by Full a = nothing Full a (unchanged (ap (log_after log edit) a)) refl
      by TooLong a = nothing TooLong a (unchanged (ap (log_after log edit) a)) refl
      by TooMany a = nothing TooMany a (unchanged (ap (log_after log edit) a)) refl

  pub none_asked : (log : Log) → asked_after dependencies log [] ≡ 0
  unfolding asked_after
  none_asked log = refl

  -- ---- the generator

  module _ (start modules : ℕ) where
    -- without a later edit
    pub installs_first : installs_of dependencies start modules 0 ≡ length (grounded_names dependencies (library_of (appended_all [] (generated start modules 0))))
    unfolding installs_of asked_after later_puts generated
    installs_first =
        let e : first_puts start modules ++ [] ≡ first_puts start modules = append-nil (first_puts start modules) in
        let n = ap (λ edits. length (grounded_names dependencies (library_of (appended_all [] edits)))) e in
        omega (arith, n)

    pub told_first : generator_told dependencies start modules 0 ≡ told_of_all dependencies (appended_all [] (generated start modules 0))
    unfolding generator_told told_after_each later_puts generated
    told_first =
        append-nil (told_of_all dependencies (appended_all [] (first_puts start modules)))
        ∙ ap (λ edits. told_of_all dependencies (appended_all [] edits)) (sym (append-nil (first_puts start modules)))

    -- with one more
    pub installs_more : (edits : ℕ) → installs_of dependencies start modules (suc edits)
        ≡ installs_of dependencies start modules edits + asked_after dependencies (appended_all [] (generated start modules edits)) (later_put start modules edits ∷ [])
    unfolding installs_of later_puts
    installs_more edits =
        let full : Log = appended_all [] (first_puts start modules) in
        let a = asked_more (later_puts start modules edits) full (later_put start modules edits) in
        let b = ap (λ log. asked_after dependencies log (later_put start modules edits ∷ [])) (log_parts start modules edits) in
        omega (arith, a, b)

    pub told_later : (edits : ℕ) → generator_told dependencies start modules (suc edits)
        ≡ generator_told dependencies start modules edits ++ told_of_all dependencies (appended_all [] (generated start modules (suc edits)))
    unfolding generator_told later_puts
    told_later edits =
        let full : Log = appended_all [] (first_puts start modules) in
        let own : List Telling = told_of_all dependencies full in
        let behind : List Telling = told_after_each dependencies full (later_puts start modules edits) in
        ap (λ (tellings : List Telling). own ++ tellings)
        (told_more (later_puts start modules edits) full (later_put start modules edits)
        ∙ ap (λ (log : Log). behind ++ told_of_all dependencies log) (ap (λ (log : Log). appended log (later_put start modules edits)) (sym (log_parts start modules edits)) ∙ sym (log_more start modules edits)))
        ∙ sym (append_assoc own behind (told_of_all dependencies (appended_all [] (generated start modules (suc edits)))))
