-- What is printed of an accepted module depends on the faces of its reach alone.
use Rattle.std.specs.Prelude.{codes, flat_map, length}
use Rattle.std.specs.Fmt.{decimal}
use Rattle.std.proofs.Common.{◌≡◌, ℕ, true, List, ◌++◌, sym, ap, ◌∙◌}
use Rattle.name_meaning.specs.Names.{Name}
use Rattle.edit_log_meaning.specs.Log.{Library}
use Rattle.lf_meaning.specs.Signatures.{Signature}
use Rattle.library_meaning.specs.Faces.{TheoryFace, ViewFace, Environment, IsTheory, IsView, theory_face, includes_of, own_of, own_part, own_parts, flat_of, flat_signature}
use Rattle.printing_meaning.specs.Printed.{end_of_line, named_at}
use Rattle.verdict_meaning.specs.Rounds.{known_of, verdicts, told_by}
use Rattle.printing_meaning.specs.Constants.{Seen}
use Rattle.printing_meaning.specs.Prefixes.{prefix_of}
use Rattle.printing_meaning.specs.VerdictLines.{theory_line, view_line}
use Rattle.printing_meaning.specs.PrintedTables.{declaration_line, mapping_line, seen_from, seen_from_face, theory_text, view_text}
use Rattle.carried_typing.proofs.Below.Alike.{flat_alike}
use Rattle.carried_typing.specs.CarriedTyping.{HaveReachOf}
use Rattle.carried_typing.proofs.ReachFaces.{reached, of_reach, reach_coherent, itself_reached, there_reached, reach_alike, told_same, known_same}
use Rattle.reach_printing_laws.specs.PrintedFaces.{FacesPrintTheories, FacesPrintViews}

-- ---- an environment in which the same is known of the reach

module _ (library : Library) (name : Name) (environment : Environment) (same : (x : Name) → reached library name x ≡ true → of_reach library name x ≡ environment x) where
  flat_same : (x : Name) → reached library name x ≡ true → flat_of (of_reach library name) x ≡ flat_of environment x
  flat_same x n = flat_alike (reached library name) (of_reach library name) environment (reach_alike library name environment same) x n

  seen_same : (x : Name) → reached library name x ≡ true → seen_from (of_reach library name) x ≡ seen_from environment x
  seen_same x n = ap (λ known. let seen : Seen = record { theory = x; prefix = prefix_of (own_of (theory_face known)) } in seen) (same x n)

-- ---- a theory in an environment where it is known

module _ (environment : Environment) (name : Name) (face : TheoryFace) (known : environment name ≡ IsTheory face) where
  flat_is : flat_of environment name ≡ flat_signature environment face
  flat_is = ap (λ k. own_parts environment (includes_of (theory_face k)) ++ own_of (theory_face k)) known

-- ---- two such environments

module _ (library : Library) (name : Name) (first second : Environment)
    (f : (x : Name) → reached library name x ≡ true → of_reach library name x ≡ first x)
    (g : (x : Name) → reached library name x ≡ true → of_reach library name x ≡ second x) where
  flat_both : (x : Name) → reached library name x ≡ true → flat_of first x ≡ flat_of second x
  flat_both x n = sym (flat_same library name first f x n) ∙ flat_same library name second g x n

  seen_both : (x : Name) → reached library name x ≡ true → seen_from first x ≡ seen_from second x
  seen_both x n = sym (seen_same library name first f x n) ∙ seen_same library name second g x n

  module _ (face : TheoryFace) (known : second name ≡ IsTheory face) where
    pub theory_there : first name ≡ IsTheory face
    theory_there = sym (f name (itself_reached library name)) ∙ g name (itself_reached library name) ∙ known

    signature_same : flat_signature first face ≡ flat_signature second face
    signature_same = sym (flat_is first name face theory_there) ∙ flat_both name (itself_reached library name) ∙ flat_is second name face known

    pub theory_line_same : (version : ℕ) → theory_line first name version face ≡ theory_line second name version face
    theory_line_same version = ap (λ (s : Signature). named_at name version ++ codes " accepted theory " ++ decimal (length s) ++ end_of_line) signature_same

    pub theory_text_same : (version : ℕ) → theory_text first name version face ≡ theory_text second name version face
    theory_text_same version =
        ap (λ (s : Signature). named_at name version ++ codes " flat " ++ decimal (length s) ++ end_of_line ++ flat_map (declaration_line (seen_from_face face)) s) signature_same

  module _ (face : ViewFace) (known : second name ≡ IsView face) where
    pub view_there : first name ≡ IsView face
    view_there = sym (f name (itself_reached library name)) ∙ g name (itself_reached library name) ∙ known

    view_in_reach : of_reach library name name ≡ IsView face
    view_in_reach = g name (itself_reached library name) ∙ known

    domain_reached : reached library name face.domain ≡ true
    domain_reached = there_reached library name face.domain (((reach_coherent library name).views name face view_in_reach).domain)

    codomain_reached : reached library name face.codomain ≡ true
    codomain_reached = there_reached library name face.codomain (((reach_coherent library name).views name face view_in_reach).codomain)

    pub view_line_same : (version : ℕ) → view_line first name version face ≡ view_line second name version face
    view_line_same version = ap (λ (s : Signature). named_at name version ++ codes " accepted view " ++ decimal (length s) ++ end_of_line) (flat_both face.domain domain_reached)

    pub codomain_seen : seen_from first face.codomain ≡ seen_from second face.codomain
    codomain_seen = seen_both face.codomain codomain_reached

    pub view_text_same : (version : ℕ) → view_text first name version face ≡ view_text second name version face
    view_text_same version =
        ap (λ (s : Signature). named_at name version ++ codes " map " ++ decimal (length s) ++ end_of_line ++ flat_map (mapping_line (seen_from first face.domain) (seen_from first face.codomain)) face.map) (flat_both face.domain domain_reached)
        ∙ ap (λ (d : Seen). named_at name version ++ codes " map " ++ decimal (length (flat_of second face.domain)) ++ end_of_line ++ flat_map (mapping_line d (seen_from first face.codomain)) face.map) (seen_both face.domain domain_reached)
        ∙ ap (λ (c : Seen). named_at name version ++ codes " map " ++ decimal (length (flat_of second face.domain)) ++ end_of_line ++ flat_map (mapping_line (seen_from second face.domain) c) face.map) (seen_both face.codomain codomain_reached)

pub faces_print_theories : FacesPrintTheories
faces_print_theories library names name face have known =
    let f = known_same library name names have in
    let g = told_same library name in
    record {
      known = theory_there library name (known_of names (verdicts library)) (told_by library) f g face known;
      line = theory_line_same library name (known_of names (verdicts library)) (told_by library) f g face known;
      text = theory_text_same library name (known_of names (verdicts library)) (told_by library) f g face known;
    }

pub faces_print_views : FacesPrintViews
faces_print_views library names name face have known =
    let f = known_same library name names have in
    let g = told_same library name in
    record {
      known = view_there library name (known_of names (verdicts library)) (told_by library) f g face known;
      line = view_line_same library name (known_of names (verdicts library)) (told_by library) f g face known;
      text = view_text_same library name (known_of names (verdicts library)) (told_by library) f g face known;
      seen = codomain_seen library name (known_of names (verdicts library)) (told_by library) f g face known;
    }
