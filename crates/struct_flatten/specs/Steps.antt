-- Steps of flattening in which the code is cut, by the definitions of what a structure induces.
use Rattle.std.specs.Prelude.{◌≡◌, [], ◌∷◌, ◌++◌, length, take, Option, filter_map}
use Rattle.std.specs.Option.{option_map}
use Rattle.name_meaning.specs.Names.{Name}
use Rattle.lf_meaning.specs.Terms.{Constant}
use Rattle.lf_meaning.specs.Signatures.{Declaration, Signature}
use Rattle.lf_meaning.specs.HeadMaps.{HeadMap, image_of}
use Rattle.library_meaning.specs.Faces.{StructureFace, TheoryFace, Environment, own_part}
use Rattle.link_meaning.specs.Induced.{induced_with}
use Rattle.mmt_interface.specs.declared.face.TheoryFace as code

-- The constant of this theory that a structure induces from the one of this declaration.
abbrev pub constant_into : Name → Name → Declaration → Constant
constant_into here structure declaration = record { theory = here; path = structure ∷ declaration.name.path }

-- What it induces from this declaration, where the map has an image.
abbrev pub induced_by : Name → Name → HeadMap → Declaration → Option Declaration
induced_by here structure along declaration = option_map (induced_with (constant_into here structure declaration)) (image_of along declaration.name)

-- What it induces from these declarations.
abbrev pub induced_into : Name → Name → HeadMap → Signature → Signature
induced_into here structure along declarations = filter_map (induced_by here structure along) declarations

-- The theory with what a structure of this face induces, and with the face.
abbrev pub with_face : Environment → TheoryFace → StructureFace → TheoryFace
with_face environment here face =
    record here {
      own = here.own ++ induced_into here.name face.name face.map (own_part environment face.domain);
      structures = here.structures ++ face ∷ [];
    }

-- The theory is as it was, with constants behind those that it had.
pub record IsBegunFrom (before after : code.TheoryFace) : Type 0 where
  pub name : after.name ≡ before.name
  pub own : take (length before.own) after.own ≡ before.own
  pub includes : after.includes ≡ before.includes
  pub structs : after.structs ≡ before.structs
