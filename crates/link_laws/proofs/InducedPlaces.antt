-- What a structure induces, by place.
use Rattle.std.proofs.Common.{◌≡◌, ◌≢◌, ℕ, Bool, true, false, cond, List, slice_get, Some, None, is_some, option_map, refl, ap, ◌∙◌}
use Rattle.name_meaning.specs.Names.{Name}
use Rattle.lf_meaning.specs.Terms.{Constant}
use Rattle.lf_meaning.specs.Signatures.{Value, SameAs, TermValue, FamilyValue, Declaration, Signature, same_constant}
use Rattle.lf_meaning.specs.HeadMaps.{HeadMap}
use Rattle.lf_term_laws.proofs.Equality.{same_constant_sound}
use Rattle.list_laws.proofs.Members.{Member, append_right, place_member, kept_length, kept_at}
use Rattle.library_meaning.specs.Faces.{own_part, own_parts, flat_of}
use Rattle.link_meaning.specs.Assignments.{Setting, included_theories, Assigned}
use Rattle.link_meaning.specs.Passes.{induced_constant}
use Rattle.link_meaning.specs.Equations.{MeetsEquations}
use Rattle.link_meaning.specs.Induced.{defined_by, induced_with, induced_from}
use Rattle.link_meaning.specs.LinkMaps.{IsSettled}
use Rattle.constant_laws.proofs.Translating.{Placed, placed_in}
use Rattle.link_laws.specs.InducedConstants.{IsInducedAt, InducedByPlace}
use Rattle.link_laws.proofs.Onces.{member_declared}
use Rattle.link_laws.proofs.WordsHold.{flat_once}
use Rattle.link_laws.proofs.LinksHold.{undefined_itself}

-- a value that is not the constant itself defines it
defined_otherwise : (c : Constant) (value : Value) → value ≢ SameAs c → defined_by c value ≡ Some value
defined_otherwise c (SameAs other) n = by (same_constant other c) refl
  where
    by : (b : Bool) → same_constant other c ≡ b → cond b None (Some (SameAs other)) ≡ Some (SameAs other)
    by true e = absurd (n (ap SameAs (same_constant_sound other c e)))
    by false e = refl
defined_otherwise c (TermValue object) n = refl
defined_otherwise c (FamilyValue binders body) n = refl

module _ (setting : Setting) (structure : Name) (assigned : List Assigned) (along : HeadMap) (settled : IsSettled setting) (meets : MeetsEquations setting assigned along) where
  abbrev flat : Signature
  flat = flat_of setting.environment setting.domain

  placed_own : (d : Declaration) → Member d (own_part setting.environment setting.domain) → Placed flat along d.name d
  placed_own d m =
      placed_in d.name d flat along meets.names
      (member_declared flat (flat_once setting.environment settled.coherent setting.domain) d
      (append_right (own_parts setting.environment (included_theories setting)) (own_part setting.environment setting.domain) d m))

  something : (d : Declaration) → Member d (own_part setting.environment setting.domain) → is_some (induced_from setting structure along d) ≡ true
  something d m = ap (λ o. is_some (option_map (induced_with (induced_constant setting structure d.name)) o)) (placed_own d m).image

  induced_at : (place : ℕ) (d : Declaration) → slice_get (own_part setting.environment setting.domain) place ≡ Some d → IsInducedAt setting structure along place d
  induced_at place d h =
      let m = place_member (own_part setting.environment setting.domain) place d h in
      let p = placed_own d m in
      record {
        declaration = induced_with (induced_constant setting structure d.name) p.mapping.image;
        there = kept_at (induced_from setting structure along) (own_part setting.environment setting.domain) something place d h ∙ ap (option_map (induced_with (induced_constant setting structure d.name))) p.image;
        is = record {
          image = p.mapping.image;
          mapped = p.image;
          named = refl;
          class_is = refl;
          translated = meets.classes p.place p.mapping d p.mapped p.declared;
          copied = λ e. ap (defined_by (induced_constant setting structure d.name)) e ∙ undefined_itself (induced_constant setting structure d.name);
          defined = λ n. defined_otherwise (induced_constant setting structure d.name) p.mapping.image.value n;
        };
      }

pub induced_by_place : InducedByPlace
induced_by_place setting structure assigned along settled meets = (
  kept_length (induced_from setting structure along) (own_part setting.environment setting.domain) (something setting structure assigned along settled meets),
  induced_at setting structure assigned along settled meets,
)
