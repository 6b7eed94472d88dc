-- Spines taken at once, and composed maps.
use Rattle.std.proofs.Common.{◌≡◌, zero, List, [], ◌∷◌, map, option_map, refl}
use Rattle.lf_meaning.specs.Terms.{Constant, Object, At, Con, AtFamily, AtomicFamily, FamilyApp, Kind, Ty, PiKind, apply_all, family_apply_all}
use Rattle.lf_meaning.specs.Erasure.{erase}
use Rattle.lf_meaning.specs.Substitution.{substitute_kind}
use Rattle.lf_meaning.specs.Signatures.{same_constant}
use Rattle.lf_meaning.specs.Replacement.{takes_all, object_of, of_constants}
use Rattle.lf_term_laws.proofs.Spines.{replace_applied}
use Rattle.translation_meaning.specs.Heads.{FamilyHead, head_takes_all}
use Rattle.lf_meaning.specs.HeadMaps.{HeadMap, image_of}
use Rattle.translation_meaning.specs.Translation.{family_of, headed_image, translate_object, translate_head, translate_image, compose}
use Rattle.list_laws.proofs.Options.{mapped_by}

pub spine_taken : (along : HeadMap) (c : Constant) (arguments : List Object) → translate_object along (At (apply_all (Con c) arguments)) ≡ object_of (takes_all (headed_image c (image_of along c)) (map (translate_object along) arguments))
unfolding translate_object
spine_taken along c arguments = replace_applied (of_constants (λ (constant : Constant). headed_image constant (image_of along constant))) 0 (Con c) arguments

pub family_spine_taken : (along : HeadMap) (p : AtomicFamily) (arguments : List Object) → translate_head along (family_apply_all p arguments) ≡ head_takes_all (translate_head along p) (map (translate_object along) arguments)
unfolding translate_head head_takes_all
family_spine_taken along p [] = refl
family_spine_taken along p (m ∷ ms) = family_spine_taken along (FamilyApp p m) ms

-- A family without binders has all arguments on its spine, whatever its kind.
pub spine_kept : (k : Kind) (p : AtomicFamily) (ms : List Object) (q : AtomicFamily) → family_of (head_takes_all (FamilyHead zero (AtFamily p) k) ms) q ≡ AtFamily (family_apply_all p ms)
unfolding head_takes_all
spine_kept k p [] q = refl
spine_kept Ty p (m ∷ ms) q = spine_kept Ty (FamilyApp p m) ms q
spine_kept (PiKind a k) p (m ∷ ms) q = spine_kept (substitute_kind m (erase a) 0 k) (FamilyApp p m) ms q

pub composed : (first second : HeadMap) (c : Constant) → image_of (compose first second) c ≡ option_map (translate_image second) (image_of first c)
unfolding image_of compose
composed [] second c = refl
composed (x ∷ first) second c = mapped_by (translate_image second) (same_constant x.name c) x.image (image_of first c) (image_of (compose first second) c) (composed first second c)
