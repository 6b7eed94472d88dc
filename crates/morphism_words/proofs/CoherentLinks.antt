-- The theory that is being built, and accepted ones, are as links of words ask.
use Rattle.std.proofs.Common.{◌≡◌, Option, Some, None, Ok, refl, sym, ap, ◌∙◌, subst}
use Rattle.std.proofs.lemmas.Option.{same_Some}
use Rattle.std.specs.Option.{option_copied, option_map}
use Rattle.std.specs.Borrow.{Bor}
use Rattle.name_meaning.specs.Names.{Name, Path}
use Rattle.name_meaning.specs.Rows.{Rows}
use Rattle.text_meaning.specs.Tokens.{Span}
use Rattle.library_meaning.specs.Faces as faces
use Rattle.library_meaning.specs.Faces.{Environment, theory_of, flat_signature}
use Rattle.library_meaning.specs.Coherence.{IsCoherent, IsCoherentTheory}
use Rattle.library_meaning.specs.Words.{Link, Meaning, Means, Faulty, word_meaning}
use Rattle.link_laws.specs.LinkTargets.{StructuresHold, HereHolds, LinkHolds}
use Rattle.list_laws.proofs.Answers.{ok_same}
use Rattle.link_laws.proofs.WordsHold.{theory_at}
use Rattle.mapping_laws.proofs.Followed.{word_holds}
use Rattle.mmt_interface.specs.CoherentFaces.{MayBeHere}
use Rattle.mmt_interface.specs.Readings.{read_theory, environment_of}
use Rattle.mmt_interface.specs.declared.face.TheoryFace.{TheoryFace}
use Rattle.mmt_interface.specs.declared.verdict.Verdict.{Verdict}
use Rattle.mmt_interface.proofs.Known.{lacked_is_absent}
use Rattle.morphism_words.specs.CoherentLinks.{AreStructures}
use Rattle.morphism_words.specs.Steps.{known_answer, word_answer}

-- The structures of an accepted theory.
pub structures_of_theory : (environment : Environment) → IsCoherent environment → (name : Name) (face : faces.TheoryFace) → Some face ≡ theory_of environment name → AreStructures environment face.structures
structures_of_theory environment coherent name face e =
    let k : IsCoherentTheory environment name face = theory_at environment coherent name face (sym e) in
    (flat_signature environment face, λ i s h. (k.domains i s h, k.maps i s h))

-- Those of one that is accepted as it is asked for.
pub structures_of_accepted : (environment : Environment) → IsCoherent environment → (span : Span) (label : Path) (name : Name) (face : faces.TheoryFace) → known_answer span label (environment name) ≡ Ok (faces.IsTheory face)
    → AreStructures environment face.structures
structures_of_accepted environment coherent span label name face h = structures_of_theory environment coherent name face (sym (ap faces.theory_face (by (environment name) h)))
  where
    by : (known : faces.Known) → known_answer span label known ≡ Ok (faces.IsTheory face) → known ≡ faces.IsTheory face
    by faces.IsAbsent e = absurd (cc)
    by faces.IsRefused e = absurd (cc)
    by (faces.IsTheory other) e = ok_same e
    by (faces.IsView view) e = ok_same e

-- Those of the theory that is being built.
pub structures_here : (environment : Environment) (here : Option faces.TheoryFace) → HereHolds environment here → (face : faces.TheoryFace) → here ≡ Some face → AreStructures environment face.structures
structures_here environment here holds face e = (flat_signature environment face, holds.structures face e)

-- A theory that is coherent over the faces is such.
pub here_holds : (rows : Rows Verdict) (here : Option (Bor TheoryFace)) → MayBeHere rows (option_copied here) → HereHolds (environment_of rows) (option_map (λ face. read_theory face.now) here)
here_holds rows None h = record { absent = λ face e. absurd (cc); structures = λ face e. absurd (cc) }
here_holds rows (Some here) h =
    record {
      absent = λ face e. (let q : read_theory here.now ≡ face = same_Some _ _ e in subst (λ (z : faces.TheoryFace). environment_of rows z.name ≡ faces.IsAbsent) q (lacked_is_absent rows here.now.name h.absent));
      structures = λ face e. (let q : read_theory here.now ≡ face = same_Some _ _ e in
          subst (λ (z : faces.TheoryFace). StructuresHold (environment_of rows) z.structures (flat_signature (environment_of rows) z)) q (λ i s p. (h.theory.domains i s p, h.theory.maps i s p)));
    }

-- What a word means has a coherent map.
pub meant_holds : (environment : Environment) (here : Option faces.TheoryFace) → IsCoherent environment → HereHolds environment here → (word : Path) (span : Span) (label : Path) (link : Link)
    → word_answer span label (word_meaning environment here word) ≡ Ok link → (word_meaning environment here word ≡ Means link) × LinkHolds environment here link
meant_holds environment here coherent holds word span label link h =
    let e = by (word_meaning environment here word) refl h in
    (e, word_holds environment here coherent holds word link e)
  where
    by : (m : Meaning) → word_meaning environment here word ≡ m → word_answer span label m ≡ Ok link → word_meaning environment here word ≡ Means link
    by (Means other) e g = e ∙ ap Means (ok_same g)
    by (Faulty fault) e g = absurd (cc)
