-- Faces that are well typed: flat signatures, and the maps of structures and views (Rabe and Kohlhase 2013, section 3).
use Rattle.std.specs.Prelude.{◌≡◌, ℕ, ◌∷◌, ◌++◌, filter_map, slice_get, Option, Some, option_map}
use Rattle.name_meaning.specs.Names.{Name}
use Rattle.lf_meaning.specs.Signatures.{Declaration, Signature}
use Rattle.lf_meaning.specs.Judgements.{Fits, IsSignature}
use Rattle.lf_meaning.specs.HeadMaps.{Image, HeadMap, image_of}
use Rattle.translation_meaning.specs.TypedMaps.{IsTypedMap}
use Rattle.library_meaning.specs.Faces.{StructureFace, TheoryFace, ViewFace, IsTheory, IsView, Environment, theory_of, includes_of, own_part, own_parts, flat_signature, flat_of}
use Rattle.link_meaning.specs.Induced.{induced_with}

-- The constant that a structure of a theory induces from one of its domain, if the structure's map has an image of it.
abbrev pub copy_of : Name → StructureFace → Declaration → Option Declaration
copy_of theory structure declaration =
    option_map (induced_with (record { theory = theory; path = structure.name ∷ declaration.name.path })) (image_of structure.map declaration.name)

-- The constants that a structure induces, in the order of its domain.
abbrev pub copies_of : Environment → Name → StructureFace → Signature
copies_of environment theory structure = filter_map (copy_of theory structure) (own_part environment structure.domain)

-- The constant has an image whose value fits the image's class over the signature.
pub record HasFittingImage (to : Signature) (along : HeadMap) (declaration : Declaration) : Type 0 where
  pub image : Image
  pub mapped : image_of along declaration.name ≡ Some image
  pub fits : Fits to image.value image.class

-- The images of these constants fit.
abbrev pub HaveFittingImages : Signature → HeadMap → Signature → Type 0
HaveFittingImages to along declarations = (i : ℕ) (declaration : Declaration) → slice_get declarations i ≡ Some declaration → HasFittingImage to along declaration

-- The structure was declared behind these own constants: what it induces follows them, and the images of what its domain
-- includes fit over them and what the theory includes.
pub record IsPlaced (environment : Environment) (face : TheoryFace) (structure : StructureFace) : Type 0 where
  pub front : Signature
  pub back : Signature
  pub parts : face.own ≡ front ++ (copies_of environment face.name structure ++ back)
  pub included : HaveFittingImages (own_parts environment face.includes ++ front) structure.map (own_parts environment (includes_of (theory_of environment structure.domain)))

-- A theory's flat signature is well typed; the maps of its structures are typed, and each structure has its place.
pub record IsTypedTheory (environment : Environment) (face : TheoryFace) : Type 0 where
  pub signature : IsSignature (flat_signature environment face)
  pub maps : (i : ℕ) (structure : StructureFace) → slice_get face.structures i ≡ Some structure → IsTypedMap (flat_of environment structure.domain) (flat_signature environment face) structure.map
  pub placed : (i : ℕ) (structure : StructureFace) → slice_get face.structures i ≡ Some structure → IsPlaced environment face structure

-- A view's map is typed.
abbrev pub IsTypedView : Environment → ViewFace → Type 0
IsTypedView environment face = IsTypedMap (flat_of environment face.domain) (flat_of environment face.codomain) face.map

-- So is each accepted face.
pub record IsTypedEnvironment (environment : Environment) : Type 0 where
  pub theories : (name : Name) (face : TheoryFace) → environment name ≡ IsTheory face → IsTypedTheory environment face
  pub views : (name : Name) (face : ViewFace) → environment name ≡ IsView face → IsTypedView environment face
