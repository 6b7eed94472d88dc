-- Worked texts of certificates.
use Rattle.std.specs.Prelude.{ℕ, List, [], ◌∷◌, ◌++◌, None, codes}
use Rattle.lf_meaning.specs.Terms.{Constant, AtFamily, FamilyCon, Ty}
use Rattle.lf_meaning.specs.Signatures.{FamilyClass, KindClass, Signature}
use Rattle.certificate_meaning.specs.Texts.{first_line, IsTextOf, IsBadAt}

-- The constant of theory N at a path of one name.
abbrev pub in_theory : List ℕ → Constant
in_theory name = record { theory = codes "N"; path = name ∷ [] }

-- A type and a constant of it.
abbrev pub two_constants : Signature
two_constants =
    record { name = in_theory (codes "a"); class = KindClass Ty; value = None }
    ∷ record { name = in_theory (codes "c"); class = FamilyClass (AtFamily (FamilyCon (in_theory (codes "a")))); value = None }
    ∷ []

-- The text of nine lines that declares them.
abbrev pub nine_lines : List ℕ
nine_lines =
    codes "mmt-cert" ++ 10 ∷ codes "type" ++ 10 ∷ codes "nil" ++ 10 ∷ codes "kind 3 2" ++ 10 ∷ codes "decl N.a 2 : 4" ++ 10 ∷ codes "fcon N.a" ++ 10
    ∷ codes "fsyn 3 6 2" ++ 10 ∷ codes "fam 3 6 : 7" ++ 10 ∷ codes "decl N.c 6 : 8" ++ 10 ∷ []

-- It is a certificate of their signature.
abbrev pub NineLines : Type 0
NineLines = IsTextOf two_constants nine_lines

-- The first line alone is a certificate of nothing.
abbrev pub FirstLineAlone : Type 0
FirstLineAlone = IsTextOf [] first_line

-- An empty text has line 1 for its bad one.
abbrev pub EmptyText : Type 0
EmptyText = IsBadAt [] 1

-- So has a text of the first line without its line feed.
abbrev pub TextWithoutLineFeed : Type 0
TextWithoutLineFeed = IsBadAt (codes "mmt-cert") 1
