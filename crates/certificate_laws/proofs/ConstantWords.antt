-- The words of constants, of simple types that may be none, and of classes tell what they stand for.
use Rattle.std.proofs.Common.{◌≡◌, ℕ, ◌<◌, ◌^◌, Bool, true, false, not, ◌==◌, ◌&&◌, List, [], ◌∷◌, ◌++◌, Option, Some, decimal, codes, refl, sym, ap, ap₂, subst, ◌∙◌, arith, true≢false}
use Rattle.std.specs.List.{list_all}
use Rattle.std.specs.Str.Parse.{AllDigits}
use Rattle.std.proofs.lemmas.Bool.{and_parts, eqb-true}
use Rattle.std.proofs.lemmas.Fmt.{decimal_is_IsNumeral}
use Rattle.name_meaning.specs.Names.{Name}
use Rattle.name_meaning.specs.Characters.{is_identifier_byte}
use Rattle.name_meaning.specs.Identifiers.{is_identifier, is_run, is_reserved}
use Rattle.text_meaning.specs.Tokens.{dotted, spelled}
use Rattle.lf_meaning.specs.Terms.{Constant, Family, Kind, Simple}
use Rattle.lf_meaning.specs.Signatures.{Class, FamilyClass, KindClass}
use Rattle.certificate_meaning.specs.Statements.{KindTerm, FamilyTerm}
use Rattle.certificate_meaning.specs.Certificates.{Line}
use Rattle.certificate_meaning.specs.Texts.{Word, next_number, IsTermAt, IsClassAt, IsWritable, constant_word, WritesRest, writes_rest, writes_no_rest}
use Rattle.certificate_laws.proofs.SplitWords.{IsFree, first_cut, not_free}
use Rattle.certificate_laws.proofs.NumberedLines.{number_below, same_term, same_kind, same_family, same_simple}

-- no byte of an identifier is a dot
other_than_dot : (b : ℕ) → is_identifier_byte b ≡ true → not (b == 46) ≡ true
other_than_dot b h = by (b == 46) refl
  where
    by : (t : Bool) → (b == 46) ≡ t → not t ≡ true
    by false e = refl
    by true e = absurd (true≢false (sym h ∙ ap is_identifier_byte (eqb-true b 46 e)))

bytes_free : (bytes : List ℕ) → list_all is_identifier_byte bytes ≡ true → IsFree 46 bytes
bytes_free [] h = refl
bytes_free (b ∷ bytes) h =
    let q = and_parts (is_identifier_byte b) (list_all is_identifier_byte bytes) h in
    ap₂ (λ x y. x && y) (other_than_dot b q.0) (bytes_free bytes q.1)

name_free : (name : Name) → is_identifier name ≡ true → IsFree 46 name
name_free name h = bytes_free name (and_parts _ (list_all is_identifier_byte name) (and_parts (is_run name) (not (is_reserved name)) h).0).1

ended : (n : Name) → IsFree 46 n → IsFree 46 (n ++ [])
ended [] h = refl
ended (b ∷ n) h =
    let q = and_parts (not (b == 46)) (list_all (λ c. not (c == 46)) n) h in
    ap₂ (λ x y. x && y) q.0 (ended n q.1)

-- one name is not several
apart : (name other : Name) (others : List Name) → list_all is_identifier (name ∷ []) ≡ true → name ++ [] ≡ other ++ dotted others → (others ≡ [] → ⊥) → ⊥
apart name other [] f e some = some refl
apart name other (second ∷ others) f e some =
    not_free 46 other (spelled (second ∷ others)) (subst (IsFree 46) e (ended name (name_free name (and_parts (is_identifier name) true f).0)))

-- names without dots are told by their text
one_spelling : (name other : Name) (names others : List Name) → list_all is_identifier (name ∷ names) ≡ true → list_all is_identifier (other ∷ others) ≡ true → spelled (name ∷ names) ≡ spelled (other ∷ others) → name ∷ names ≡ other ∷ others
one_spelling name other [] [] f g e = ap (λ n. n ∷ []) (end name ∙ e ∙ sym (end other))
  where
    end : (n : Name) → n ≡ n ++ []
    end [] = refl
    end (b ∷ n) = ap (λ l. b ∷ l) (end n)
one_spelling name other [] (second ∷ others) f g e = absurd (apart name other (second ∷ others) f e (λ h. cc))
one_spelling name other (second ∷ names) [] f g e = absurd (apart other name (second ∷ names) g (sym e) (λ h. cc))
one_spelling name other (second ∷ names) (third ∷ others) f g e =
    let p = and_parts (is_identifier name) (list_all is_identifier (second ∷ names)) f in
    let q = and_parts (is_identifier other) (list_all is_identifier (third ∷ others)) g in
    let cut = first_cut 46 name other (spelled (second ∷ names)) (spelled (third ∷ others)) (name_free name p.0) (name_free other q.0) e in
    ap (λ n. n ∷ second ∷ names) cut.0 ∙ ap (λ l. other ∷ l) (one_spelling second third names others p.1 q.1 cut.1)

pub same_constant_word : (c d : Constant) → IsWritable c → IsWritable d → constant_word c ≡ constant_word d → c ≡ d
same_constant_word c d h g e = of_names c d (one_spelling c.theory d.theory c.path d.path h.identifiers g.identifiers e)
  where
    of_names : (c d : Constant) → c.theory ∷ c.path ≡ d.theory ∷ d.path → c ≡ d
    of_names c d e = ap₂ (λ t p. record { theory = t; path = p }) (firsts e) (rests e)
      where
        firsts : {n m : Name} {ns ms : List Name} → n ∷ ns ≡ m ∷ ms → n ≡ m
        firsts e = cc

        rests : {n m : Name} {ns ms : List Name} → n ∷ ns ≡ m ∷ ms → ns ≡ ms
        rests e = cc

-- a number is no hyphen
no_hyphen : (n : ℕ) → n < 2 ^ 64 → decimal n ≡ codes "-" → ⊥
no_hyphen n h e =
    let digits : AllDigits 10 (codes "-") = subst (AllDigits 10) e (decimal_is_IsNumeral n h).0.1 in
    omega (arith, digits.0)

module _ (lines : List Line) (few : next_number lines < 2 ^ 64) where
  pub same_rest : (word other : Word) (s t : Option Simple) → WritesRest lines s word → WritesRest lines t other → word ≡ other → s ≡ t
  same_rest word other s t (writes_rest {s = x} i h) (writes_rest {s = y} j g) e = ap Some (same_simple lines few i j x y h g e)
  same_rest word other s t (writes_rest {s = x} i h) writes_no_rest e = absurd (no_hyphen i (omega (arith, few, number_below lines i _ h)) e)
  same_rest word other s t writes_no_rest (writes_rest {s = y} j g) e = absurd (no_hyphen j (omega (arith, few, number_below lines j _ g)) (sym e))
  same_rest word other s t writes_no_rest writes_no_rest e = refl

  apart_classes : (i j : ℕ) (a : Family) (k : Kind) → IsTermAt lines i (FamilyTerm a) → IsTermAt lines j (KindTerm k) → decimal i ≡ decimal j → ⊥
  apart_classes i j a k h g e = apart_terms a k (same_term lines few i j (FamilyTerm a) (KindTerm k) h g e)
    where
      apart_terms : (a : Family) (k : Kind) → FamilyTerm a ≡ KindTerm k → ⊥
      apart_terms a k e = cc

  pub same_class : (i j : ℕ) (c d : Class) → IsClassAt lines i c → IsClassAt lines j d → decimal i ≡ decimal j → c ≡ d
  same_class i j (FamilyClass a) (FamilyClass b) h g e = ap FamilyClass (same_family lines few i j a b h g e)
  same_class i j (FamilyClass a) (KindClass k) h g e = absurd (apart_classes i j a k h g e)
  same_class i j (KindClass k) (FamilyClass a) h g e = absurd (apart_classes j i a k g h (sym e))
  same_class i j (KindClass k) (KindClass l) h g e = ap KindClass (same_kind lines few i j k l h g e)
