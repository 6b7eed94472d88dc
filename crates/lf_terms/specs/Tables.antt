-- Look-up by name in flat signatures and in maps of constants (this profile).
use Rattle.std.specs.Prelude.{◌≡◌, ℕ, Bool, List, [], ◌∷◌, ◌++◌, Option, is_some, if◌then◌else◌, map, position, ⊤}
use Rattle.std.specs.List.{find, IsDistinct}
use Rattle.std.specs.Map.{keys_of, lookup}
use lib.Pointwise.{pointwise}
use Rattle.name_meaning.specs.Names.{Name, Path, same_name}
use Rattle.lf_meaning.specs.Terms.{Constant}
use Rattle.lf_meaning.specs.Signatures.{same_constant}
use Rattle.term_trees.specs.Readings.{read_constant}
use Rattle.base_types.specs.declared.qname.QName.{QName}
use Rattle.term_trees.specs.declared.flat_decl.FlatDecl.{FlatDecl}
use Rattle.term_trees.specs.declared.flat_decl.Image.{Image}
use Rattle.lf_terms.specs.declared.flat_sig.ByPath.{ByPath}
use Rattle.lf_terms.specs.declared.flat_sig.ByPath.TheVariants.{OneTheory, Table}
use Rattle.lf_terms.specs.declared.flat_sig.PushFault.{PushFault}
use Rattle.lf_terms.specs.declared.flat_sig.PushFault.TheVariants as push
use Rattle.lf_terms.specs.declared.head_map.MapFault.{MapFault}
use Rattle.lf_terms.specs.declared.head_map.MapFault.TheVariants as pair

-- The names that are declared, in order.
abbrev pub declared_names : List FlatDecl → List Constant
declared_names = map (λ d. read_constant d.name)

-- No name is declared twice.
abbrev pub HasDistinctNames : List FlatDecl → Type 0
HasDistinctNames decls = IsDistinct same_constant (declared_names decls)

-- The declaration of that name.
abbrev pub declared : List FlatDecl → QName → Option FlatDecl
declared decls name = find (λ d. same_constant (read_constant name) (read_constant d.name)) decls

-- The index of that declaration.
abbrev pub place_of : List FlatDecl → QName → Option ℕ
place_of decls name = position (λ d. same_constant (read_constant name) (read_constant d.name)) decls

-- The two paths are equal.
abbrev pub same_path : Path → Path → Bool
same_path = pointwise same_name

-- The first declaration of this path.
abbrev pub first_with_path : List FlatDecl → Path → Option FlatDecl
first_with_path decls path = find (λ d. same_path d.name.path path) decls

-- The index of that declaration.
abbrev pub first_place : List FlatDecl → Path → Option ℕ
first_place decls path = position (λ d. same_path d.name.path path) decls

-- The table holds the index of the first declaration of each path.
abbrev pub HasFirstPlaces : List (Path × ℕ) → List FlatDecl → Type 0
HasFirstPlaces places decls = (path : Path) → lookup (same_path path) places ≡ first_place decls path

-- The table with the index of a declaration, unless its path has one.
abbrev pub with_place : List (Path × ℕ) → Path → ℕ → List (Path × ℕ)
with_place places path index = if is_some (lookup (same_path path) places) then places else places ++ (path, index) ∷ []

-- Declarations of this theory alone.
abbrev pub AreDeclaredIn : Name → List FlatDecl → Type 0
AreDeclaredIn theory [] = ⊤
AreDeclaredIn theory (d ∷ decls) = (d.name.theory ≡ theory) × AreDeclaredIn theory decls

-- Declarations of the theory of the first one.
abbrev pub AreOfOneTheory : List FlatDecl → Type 0
AreOfOneTheory [] = ⊤
AreOfOneTheory (d ∷ decls) = AreDeclaredIn d.name.theory decls

-- The first of these constants, if there is one, is of this theory.
abbrev pub IsOfFirst : Name → List QName → Type 0
IsOfFirst theory [] = ⊤
IsOfFirst theory (c ∷ constants) = c.theory ≡ theory

-- How the first declaration of a path is found.
abbrev pub FindsPaths : ByPath → List FlatDecl → Type 0
FindsPaths OneTheory decls = AreOfOneTheory decls
FindsPaths (Table places) decls = HasFirstPlaces places.entries decls

-- What a refused push hands back.
abbrev pub handed_back : PushFault → FlatDecl
handed_back (push.Twice decl) = decl
handed_back (push.Memory decl) = decl

-- The constants of a map, in order.
abbrev pub heads_of : List (QName × Image) → List Constant
heads_of images = map read_constant (keys_of images)

-- No constant has two images.
abbrev pub HasDistinctHeads : List (QName × Image) → Type 0
HasDistinctHeads images = IsDistinct same_constant (heads_of images)

-- The image of a constant.
abbrev pub image_of : List (QName × Image) → QName → Option Image
image_of images name = lookup (λ q. same_constant (read_constant name) (read_constant q)) images

-- What a refused push hands back.
abbrev pub pair_handed_back : MapFault → QName × Image
pair_handed_back (pair.Twice name image) = (name, image)
pair_handed_back (pair.Memory name image) = (name, image)
