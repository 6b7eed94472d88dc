-- The faces of a name's reach: they are coherent, and environments in which the same is known of the reach are alike on it.
use Rattle.std.proofs.Common.{◌≡◌, Bool, true, false, List, is_some, refl, sym, ap, ◌∙◌, true≢false}
use Rattle.name_meaning.specs.Names.{Name, is_among}
use Rattle.edit_log_meaning.specs.Log.{Library, is_present}
use Rattle.name_laws.proofs.Order.{among_member, member_among}
use Rattle.module_graph_meaning.specs.Reach.{reach}
use Rattle.module_graph_laws.proofs.Reaching.{reach_first}
use Rattle.library_meaning.specs.Faces.{theory_face, Environment, theory_of}
use Rattle.library_meaning.specs.Coherence.{IsCoherent}
use Rattle.text_meaning.specs.Dependencies.{dependencies}
use Rattle.verdict_meaning.specs.Rounds.{verdict_under, known_if, known_of, verdicts, told_by}
use Rattle.verdict_laws.proofs.Shortness.{reach_within_reach}
use Rattle.face_typing.specs.Below.CoherenceLaws.{AreClosed}
use Rattle.face_typing.proofs.Below.LibrariesHold.{told_under, known_in, absent_known, closed_are_coherent}
use Rattle.acceptance_laws.proofs.Alike.{Alike}
use Rattle.carried_typing.specs.CarriedTyping.{HaveReachOf}
use Rattle.list_laws.proofs.Members.{member_place}

module _ (library : Library) (name : Name) where
  abbrev pub reached : Name → Bool
  reached x = is_among (reach dependencies library name) x

  abbrev pub of_reach : Environment
  of_reach = known_of (reach dependencies library name) (verdicts library)

  pub reach_is_closed : AreClosed library (reach dependencies library name)
  reach_is_closed x other n r p =
      member_among (reach dependencies library name) other
      (reach_within_reach dependencies library name x (among_member (reach dependencies library name) x n) other (among_member (reach dependencies library x) other r))

  pub reach_coherent : IsCoherent of_reach
  reach_coherent = closed_are_coherent library (reach dependencies library name) reach_is_closed

  pub itself_reached : reached name ≡ true
  itself_reached = member_among (reach dependencies library name) name (reach_first dependencies library name)

  pub there_reached : (x : Name) → is_some (theory_of of_reach x) ≡ true → reached x ≡ true
  there_reached x s = by (reached x) refl
    where
      by : (b : Bool) → reached x ≡ b → b ≡ true
      by true e = refl
      by false e = absurd (true≢false (sym s ∙ ap (λ k. is_some (theory_face k)) (known_in library (reach dependencies library name) x false e)))

  -- ---- another environment in which the same is known of the reach

  module _ (environment : Environment) (same : (x : Name) → reached x ≡ true → of_reach x ≡ environment x) where
    pub reach_alike : Alike reached of_reach environment
    reach_alike =
        record {
          same = same;
          includes = λ x face other n e m. there_reached other ((reach_coherent.theories x face e).includes other (member_among face.includes other m));
          domains = λ x face structure n e m.
              let p = member_place face.structures structure m in
              there_reached structure.domain ((reach_coherent.theories x face e).domains p.0 structure p.1);
          ends = λ x face n e. there_reached face.domain ((reach_coherent.views x face e).domain);
        }

  -- ---- such environments

  pub told_same : (x : Name) → reached x ≡ true → of_reach x ≡ told_by library x
  told_same x n = known_in library (reach dependencies library name) x true n ∙ sym (told_under library x)

  pub known_same : (names : List Name) → HaveReachOf library names name → (x : Name) → reached x ≡ true → of_reach x ≡ known_of names (verdicts library) x
  known_same names have x n = known_in library (reach dependencies library name) x true n ∙ sym (by (is_among names x) (is_present library x) refl refl)
    where
      by : (b p : Bool) → is_among names x ≡ b → is_present library x ≡ p → known_of names (verdicts library) x ≡ known_if (verdict_under (verdicts library) x)
      by true p e q = known_in library names x true e
      by false true e q = absurd (true≢false (sym (have x n q) ∙ e))
      by false false e q = known_in library names x false e ∙ sym (absent_known library x q)
