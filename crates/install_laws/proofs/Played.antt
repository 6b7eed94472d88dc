-- What is told of a script is backed by the history of its session.
use Rattle.std.proofs.Common.{◌≡◌, ℕ, ◌-◌, ◌<◌, ◌≤◌, Bool, true, false, cond, List, [], ◌∷◌, ◌++◌, length, nat_eq, Some, None, inl, inr, ⊎_elim, refl, sym, ap, ◌∙◌, subst, arith, append-nil, append_assoc, length-append}
use Rattle.std.proofs.lemmas.Option.{same_Some}
use Rattle.std.proofs.lemmas.Bool.Decides.{nat_tests}
use Rattle.name_meaning.specs.Names.{Name}
use Rattle.list_laws.proofs.Members.{Member, in_append, append_left, in_map, in_filter_map, member_place, place_member}
use Rattle.edit_log_meaning.specs.Log.{Log, names_of, library_of, version_of}
use Rattle.module_graph_meaning.specs.Walks.{Dependencies, is_grounded}
use Rattle.board_meaning.specs.Events.{History, version_after}
use Rattle.board_meaning.specs.Standing.{IsBacked}
use Rattle.board_laws.proofs.Backing.{standing_backed, stays_backed}
use Rattle.run_meaning.specs.ScriptCommands.{Command, EditCommand, ReportCommand, CheckCommand, FlatCommand, CarryCommand, LogCommand, BlankCommand}
use Rattle.run_meaning.specs.ScriptItems.{script_of}
use Rattle.run_meaning.specs.ScriptOutput.{report_part, command_parts, command_text, command_told, log_after}
use Rattle.run_meaning.specs.ScriptLogs.{commands_of, log_through, told_from, told_within, script_told, told_by}
use Rattle.run_meaning.specs.Judging.{Judging}
use Rattle.run_meaning.specs.Parts.{Telling, Part, telling_of}
use Rattle.run_meaning.specs.Backing.{AreBacked}
use Rattle.run_laws.specs.RunLaws.{spoken_text}
use Rattle.run_laws.proofs.Logs.{beginnings_tell}
use Rattle.install_laws.specs.ScriptBacking.{StandsAt, PlayedIsBacked, WholeIsBacked, FewerAreBacked, LaterBacksScript}
use Rattle.install_laws.proofs.Tellings.{stay_backed}

-- ---- lists of tellings

pub backed_append : (dependencies : Dependencies) (H : History) (xs ys : List Telling) → AreBacked dependencies H xs → AreBacked dependencies H ys → AreBacked dependencies H (xs ++ ys)
backed_append dependencies H xs ys f g place t s =
    ⊎_elim (λ m. let p = member_place xs t m in f p.0 t p.1) (λ m. let p = member_place ys t m in g p.0 t p.1) (in_append xs ys t (place_member (xs ++ ys) place t s))

backed_front : (dependencies : Dependencies) (H : History) (xs ys : List Telling) → AreBacked dependencies H (xs ++ ys) → AreBacked dependencies H xs
backed_front dependencies H xs ys f place t s = let p = member_place (xs ++ ys) t (append_left xs ys t (place_member xs place t s)) in f p.0 t p.1

-- ---- the version of what a command tells

module _ (judging : Judging) (log : Log) where
  told_version : (name : Name) (t : Telling) → telling_of judging.dependencies log name ≡ Some t → t.version ≡ version_of log
  told_version name t h = by (is_grounded judging.dependencies (library_of log) name) h
    where
      by : (b : Bool) → cond b (Some (record { name = name; version = version_of log })) None ≡ Some t → t.version ≡ version_of log
      by true e = sym (ap (λ (z : Telling). z.version) (same_Some _ _ e))
      by false e = absurd (cc)

  part_version : (command : Command) (part : Part) (t : Telling) → Member part (command_parts judging log command) → part.telling ≡ Some t → t.version ≡ version_of log
  unfolding command_parts
  part_version (EditCommand edit) part t (inl e) h = absurd (let q = sym h ∙ ap (λ (z : Part). z.telling) e in cc)
  part_version (EditCommand edit) part t (inr m) h = absurd m
  part_version (ReportCommand name) part t (inl e) h = told_version name t (sym (ap (λ (z : Part). z.telling) e) ∙ h)
  part_version (ReportCommand name) part t (inr m) h = absurd m
  part_version CheckCommand part t m h = let q = in_map (report_part judging log) (names_of (library_of log)) part m in told_version q.0 t (sym (ap (λ (z : Part). z.telling) q.2) ∙ h)
  part_version (FlatCommand name) part t (inl e) h = told_version name t (sym (ap (λ (z : Part). z.telling) e) ∙ h)
  part_version (FlatCommand name) part t (inr m) h = absurd m
  part_version (CarryCommand view judgement) part t (inl e) h = told_version view t (sym (ap (λ (z : Part). z.telling) e) ∙ h)
  part_version (CarryCommand view judgement) part t (inr m) h = absurd m
  part_version LogCommand part t (inl e) h = absurd (let q = sym h ∙ ap (λ (z : Part). z.telling) e in cc)
  part_version LogCommand part t (inr m) h = absurd m
  part_version BlankCommand part t m h = absurd m

  command_version : (command : Command) (t : Telling) → Member t (command_told judging log command) → t.version ≡ version_of log
  command_version command t m =
      let q = in_filter_map (λ (part : Part). part.telling) (command_parts judging log command) t m in
      part_version command q.0 t q.1 q.2

module _ (judging : Judging) (H : History) where
  abbrev Backed : List Telling → Type 0
  Backed tellings = AreBacked judging.dependencies H tellings

  command_backed : (log : Log) (command : Command) → StandsAt judging H log command → Backed (command_told judging log command)
  command_backed log command at place t s =
      let v : version_after at.beginning ≡ t.version = ap version_of at.log_is ∙ sym (command_version judging log command t (place_member (command_told judging log command) place t s)) in
      subst (λ z. IsBacked judging.dependencies z t.name t.version) (sym at.goes_on)
      (stays_backed judging.dependencies at.beginning at.later t.name t.version
      (subst (IsBacked judging.dependencies at.beginning t.name) v (standing_backed judging.dependencies at.beginning t.name (at.stand place t s))))

  -- ---- one command after another

  Played : List Command → ℕ → Log → Type 0
  Played commands count log =
      (done more : List Command) (command : Command) → commands ≡ done ++ command ∷ more → length (spoken_text judging log done) < count → StandsAt judging H (log_through log done) command

  played_backed : (commands : List Command) (count : ℕ) (log : Log) → Played commands count log → Backed (told_within judging count log commands)
  unfolding Played told_within spoken_text
  played_backed [] count log f = λ place t s. absurd (cc)
  played_backed (command ∷ commands) count log f =
      by (nat_eq count 0) refl
      (played_backed commands (count - length (command_text judging log command)) (log_after log command)
      (λ done more next e l. f (command ∷ done) more next (ap (λ z. command ∷ z) e) (further done l)))
    where
      further : (done : List Command) → length (spoken_text judging (log_after log command) done) < count - length (command_text judging log command) → length (command_text judging log command ++ spoken_text judging (log_after log command) done) < count
      further done l = omega (arith, length-append (command_text judging log command) (spoken_text judging (log_after log command) done), l)

      some : nat_eq count 0 ≡ false → 0 < count
      some e = grind (arith, nat_tests, e)

      by : (b : Bool) → nat_eq count 0 ≡ b → Backed (told_within judging (count - length (command_text judging log command)) (log_after log command) commands)
          → Backed (cond b [] (command_told judging log command ++ told_within judging (count - length (command_text judging log command)) (log_after log command) commands))
      by true e g = λ place t s. absurd (cc)
      by false e g = backed_append judging.dependencies H (command_told judging log command) _ (command_backed log command (f [] commands command refl (some e))) g

-- what is told where fewer bytes are written begins what is told where more are
fewer_told : (judging : Judging) (commands : List Command) (count more : ℕ) (log : Log) → count ≤ more → (rest : List Telling) × (told_within judging more log commands ≡ told_within judging count log commands ++ rest)
unfolding told_within
fewer_told judging [] count more log l = ([], refl)
fewer_told judging (command ∷ commands) count more log l =
    by (nat_eq count 0) (nat_eq more 0) refl refl
    (fewer_told judging commands (count - length (command_text judging log command)) (more - length (command_text judging log command)) (log_after log command) (omega (arith, l)))
  where
    by : (b c : Bool) → nat_eq count 0 ≡ b → nat_eq more 0 ≡ c
        → (rest : List Telling) × (told_within judging (more - length (command_text judging log command)) (log_after log command) commands ≡ told_within judging (count - length (command_text judging log command)) (log_after log command) commands ++ rest)
        → (rest : List Telling)
        × (cond c [] (command_told judging log command ++ told_within judging (more - length (command_text judging log command)) (log_after log command) commands)
        ≡ cond b [] (command_told judging log command ++ told_within judging (count - length (command_text judging log command)) (log_after log command) commands) ++ rest)
    by true c e g r = (cond c [] (command_told judging log command ++ told_within judging (more - length (command_text judging log command)) (log_after log command) commands), refl)
    by false true e g r = absurd (grind (arith, nat_tests, e, g, l))
    by false false e g r = (r.0, ap (λ z. command_told judging log command ++ z) r.1 ∙ sym (append_assoc (command_told judging log command) _ r.0))

pub played_is_backed : PlayedIsBacked
unfolding Played
played_is_backed judging H count bytes f = played_backed judging H (commands_of (script_of bytes)) count [] f

pub whole_is_backed : WholeIsBacked
unfolding script_told
whole_is_backed judging H count bytes l b =
    backed_front judging.dependencies H (told_from judging [] (commands_of (script_of bytes))) _
    (subst (AreBacked judging.dependencies H) (ap (told_within judging count []) (sym (append-nil (commands_of (script_of bytes)))) ∙ (beginnings_tell judging count [] (commands_of (script_of bytes)) []).past l) b)

pub fewer_are_backed : FewerAreBacked
fewer_are_backed judging H count more bytes l b =
    let f = fewer_told judging (commands_of (script_of bytes)) count more [] l in
    backed_front judging.dependencies H (told_by judging count bytes) f.0 (subst (AreBacked judging.dependencies H) f.1 b)

pub later_backs_script : LaterBacksScript
later_backs_script judging H later count bytes b = stay_backed judging.dependencies H later (told_by judging count bytes) b
