-- What a structure adds to the theory that declares it (Rabe and Kohlhase 2013, section 3: flattening of structures).
use Rattle.std.specs.Prelude.{[], ◌∷◌, ◌++◌, Option, Some, None, filter_map, option_map, if◌then◌else◌}
use Rattle.name_meaning.specs.Names.{Name}
use Rattle.lf_meaning.specs.Terms.{Constant}
use Rattle.lf_meaning.specs.Signatures.{Value, SameAs, TermValue, FamilyValue, Declaration, Signature, same_constant}
use Rattle.lf_meaning.specs.HeadMaps.{Image, HeadMap, image_of}
use Rattle.library_meaning.specs.Faces.{TheoryFace, own_part}
use Rattle.link_meaning.specs.Assignments.{Setting}
use Rattle.link_meaning.specs.Passes.{induced_constant}

-- The constant is defined by this value, unless that is the constant itself.
abbrev pub defined_by : Constant → Value → Option Value
defined_by constant (SameAs other) = if same_constant other constant then None else Some (SameAs other)
defined_by constant (TermValue object) = Some (TermValue object)
defined_by constant (FamilyValue binders body) = Some (FamilyValue binders body)

-- The constant that the structure induces from one with this image: its class is the translated one.
abbrev pub induced_with : Constant → Image → Declaration
induced_with constant image = record { name = constant; class = image.class; value = defined_by constant image.value }

-- The constant that the structure induces from this one.
abbrev pub induced_from : Setting → Name → HeadMap → Declaration → Option Declaration
induced_from setting structure along declaration =
    option_map (induced_with (induced_constant setting structure declaration.name)) (image_of along declaration.name)

-- The constants that the structure induces: one for each own constant of its domain, in order.
abbrev pub induced : Setting → Name → HeadMap → Signature
induced setting structure along = filter_map (induced_from setting structure along) (own_part setting.environment setting.domain)

-- The theory with the structure of this name, whose map is this one.
abbrev pub with_structure : TheoryFace → Setting → Name → HeadMap → TheoryFace
with_structure here setting structure along =
    record here {
      own = here.own ++ induced setting structure along;
      structures = here.structures ++ record { name = structure; domain = setting.domain; map = along } ∷ [];
    }
