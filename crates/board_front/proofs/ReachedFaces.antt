-- The faces that the answers of a reach give, with the verdict on the module itself behind them.
use Rattle.std.proofs.Common.{◌≡◌, Bool, true, false, cond, not, ◌&&◌, ◌||◌, [], ◌∷◌, ◌++◌, Option, Some, is_some, refl, sym, ap, ◌∙◌, true≢false}
use Rattle.std.specs.Prelude.{option_map}
use Rattle.std.proofs.Math.Bool.{or-false, or-true}
use Rattle.std.proofs.lemmas.Bool.{and_parts}
use Rattle.name_meaning.specs.Names.{Name, Text, same_name, is_among}
use Rattle.name_meaning.specs.Rows.{Rows, row_names, row_of}
use Rattle.name_laws.proofs.Order.{same_sound, same_itself, among_member, member_among}
use Rattle.name_laws.proofs.Rows.{row_among}
use Rattle.name_laws.proofs.RowLookups.{row_mapped, row_pushed}
use Rattle.list_laws.proofs.Members.{in_filter, filter_in}
use Rattle.edit_log_meaning.specs.Log.{Library, is_present}
use Rattle.module_graph_meaning.specs.Reach.{reach}
use Rattle.library_meaning.specs.Faces as faces
use Rattle.text_meaning.specs.Dependencies.{dependencies}
use Rattle.coherence_laws.proofs.LibrariesHold.{known_in}
use Rattle.reach_printing_laws.proofs.Below.ReachFaces.{reach_is_closed, itself_reached}
use Rattle.verdict_meaning.specs.Verdicts as verdicts
use Rattle.verdict_meaning.specs.Verdicts.{known_by}
use Rattle.verdict_meaning.specs.Rounds.{known_if, known_of, modules, others_reached, verdict_of}
use Rattle.verdict_meaning.specs.Rounds as rounds
use Rattle.module_graph.specs.Subjects.{IsGiven, read_answers}
use Rattle.mmt_interface.specs.CoherentFaces.{AreCoherent}
use Rattle.mmt_interface.specs.Readings.{read_verdict, read_faces, environment_of}
use Rattle.mmt_interface.specs.declared.verdict.Verdict.{Verdict}
use Rattle.mmt_interface.proofs.Known.{known_with}
use Rattle.module_check.specs.PresentRows.{present_rows}
use Rattle.module_check.specs.OneLibrary.{HoldReaches}
use Rattle.module_check.proofs.AnsweredFaces.{known, itself_absent, answered_verdict, names_there}
use Rattle.module_check.proofs.OneLibrary.{coherent_together}
use Rattle.board_front.specs.Faces.{AreFacesOf}

module _ (library : Library) (name : Name) (text : Text) (rows : Rows (Option Verdict)) (given : IsGiven modules name text (read_answers read_verdict rows) library) (verdict : Verdict) (own : verdict_of library name ≡ Some (read_verdict verdict)) where
  abbrev all : Rows Verdict
  all = present_rows rows ++ (name, verdict) ∷ []

  -- Another name is among the others reached exactly where it is reached.
  others_among : (n : Name) → same_name n name ≡ false → is_among (others_reached library name) n ≡ is_among (reach dependencies library name) n
  unfolding others_reached
  others_among n s = by (is_among (reach dependencies library name) n) refl
    where
      other : (b : Bool) → same_name name n ≡ b → not b ≡ true
      other false e = refl
      other true e = absurd (true≢false (sym (same_itself n) ∙ ap (same_name n) (sym (same_sound name n e)) ∙ s))

      not_there : is_among (reach dependencies library name) n ≡ false → (b : Bool) → is_among (others_reached library name) n ≡ b → b ≡ false
      not_there e false h = refl
      not_there e true h =
          let m = (in_filter (λ (z : Name). not (same_name name z)) (reach dependencies library name) n (among_member (others_reached library name) n h)).0 in
          absurd (true≢false (sym (member_among (reach dependencies library name) n m) ∙ e))

      by : (b : Bool) → is_among (reach dependencies library name) n ≡ b → is_among (others_reached library name) n ≡ b
      by true e =
          member_among (others_reached library name) n
          (filter_in (λ (z : Name). not (same_name name z)) (reach dependencies library name) n (among_member (reach dependencies library name) n e) (other (same_name name n) refl))
      by false e = not_there e (is_among (others_reached library name) n) refl

  abbrev told_there : Name → faces.Known
  told_there = known_of (reach dependencies library name) (rounds.verdicts library)

  told_at : (n : Name) → environment_of all n ≡ told_there n
  unfolding verdict_of
  told_at n =
      known_with (present_rows rows) name verdict n (itself_absent library name text rows given) ∙ by (same_name n name) refl
    where
      by : (b : Bool) → same_name n name ≡ b → cond b (known_by (read_verdict verdict)) (environment_of (present_rows rows) n) ≡ told_there n
      by true e =
          ap known_if (sym own) ∙ sym (known_in library (reach dependencies library name) name true (itself_reached library name)) ∙ ap told_there (sym (same_sound n name e))
      by false e =
          (λ i. known library name text rows given i n) ∙ ap (λ b. cond b (known_if (rounds.verdict_under (rounds.verdicts library) n)) faces.IsAbsent) (others_among n e)

  told : environment_of all ≡ told_there
  told = λ i n. told_at n i

  own_row : row_of all name ≡ Some verdict
  own_row = row_pushed (present_rows rows) name verdict name (itself_absent library name text rows given) ∙ ap (λ b. cond b (Some verdict) (row_of (present_rows rows) name)) (same_itself name)

  verdict_at : (n : Name) (found : verdicts.Verdict) → row_of (read_faces all) n ≡ Some found → (is_among (reach dependencies library name) n ≡ true) × (verdict_of library n ≡ Some found)
  verdict_at n found h =
      by (same_name n name) refl
      (sym (ap (option_map read_verdict) (row_pushed (present_rows rows) name verdict n (itself_absent library name text rows given))) ∙ sym (row_mapped read_verdict all n) ∙ h)
    where
      by : (b : Bool) → same_name n name ≡ b → option_map read_verdict (cond b (Some verdict) (row_of (present_rows rows) n)) ≡ Some found
          → (is_among (reach dependencies library name) n ≡ true) × (verdict_of library n ≡ Some found)
      by true e g =
          let q = same_sound n name e in
          (ap (is_among (reach dependencies library name)) q ∙ itself_reached library name, ap (verdict_of library) q ∙ own ∙ g)
      by false e g =
          let q = answered_verdict library name text rows given n found (row_mapped read_verdict (present_rows rows) n ∙ g) in
          (sym (others_among n e) ∙ q.0, q.1)

  names_of_all : (n : Name) → is_among (row_names all) n ≡ (is_among (row_names (present_rows rows)) n || same_name n name)
  names_of_all n =
      sym (row_among all n) ∙ ap is_some (row_pushed (present_rows rows) name verdict n (itself_absent library name text rows given))
      ∙ by (same_name n name) (row_of (present_rows rows) n) (row_among (present_rows rows) n)
    where
      by : (b : Bool) (o : Option Verdict) → is_some o ≡ is_among (row_names (present_rows rows)) n → is_some (cond b (Some verdict) o) ≡ (is_among (row_names (present_rows rows)) n || b)
      by true o h = sym (or-true (is_among (row_names (present_rows rows)) n))
      by false o h = h ∙ sym (or-false (is_among (row_names (present_rows rows)) n))

  reached_there : (n : Name) → is_among (row_names all) n ≡ true → is_among (reach dependencies library name) n ≡ true
  reached_there n h = by (same_name n name) refl (sym (names_of_all n) ∙ h)
    where
      by : (b : Bool) → same_name n name ≡ b → (is_among (row_names (present_rows rows)) n || b) ≡ true → is_among (reach dependencies library name) n ≡ true
      by true e g = ap (is_among (reach dependencies library name)) (same_sound n name e) ∙ itself_reached library name
      by false e g =
          sym (others_among n e)
          ∙ (and_parts (is_among (others_reached library name) n) (is_present library n) (sym (names_there library name text rows given n) ∙ sym (or-false (is_among (row_names (present_rows rows)) n)) ∙ g)).0

  there_reached : (n : Name) → is_among (reach dependencies library name) n ≡ true → is_present library n ≡ true → is_among (row_names all) n ≡ true
  there_reached n r present = names_of_all n ∙ by (same_name n name) refl
    where
      by : (b : Bool) → same_name n name ≡ b → (is_among (row_names (present_rows rows)) n || b) ≡ true
      by true e = or-true (is_among (row_names (present_rows rows)) n)
      by false e =
          or-false (is_among (row_names (present_rows rows)) n) ∙ names_there library name text rows given n
          ∙ ap (λ b. b && is_present library n) (others_among n e ∙ r) ∙ present

  -- They are of one library, with whole reaches.
  together : HoldReaches library all
  together =
      record {
        verdicts = λ n found h. (verdict_at n found h).1;
        reach = λ n m p q present. there_reached m (reach_is_closed library name n m (reached_there n p) q present) present;
      }

  coherent : AreCoherent all
  coherent = coherent_together all library together

  pub faces_of_reach : AreFacesOf library name verdict all
  faces_of_reach = record { coherent = coherent; told = told; own = own_row }
