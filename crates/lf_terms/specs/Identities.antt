-- The images that the identity gives to the declarations of a flat signature (this profile).
use Rattle.std.specs.Prelude.{◌≡◌, List, Option, IfSome}
use Rattle.library_meaning.specs.Words.{identity_map}
use Rattle.base_types.specs.declared.qname.QName.{QName}
use Rattle.term_trees.specs.declared.flat_decl.FlatDecl.{FlatDecl}
use Rattle.term_trees.specs.declared.flat_decl.Image.{Image}
use Rattle.term_trees.specs.Readings.{read_map, read_signature}

-- These pairs, if there are any, are such images.
abbrev pub AreIdentity : Option (List (QName × Image)) → List FlatDecl → Type 0
AreIdentity images decls = IfSome images (λ (pairs : List (QName × Image)). read_map pairs ≡ identity_map (read_signature decls))
