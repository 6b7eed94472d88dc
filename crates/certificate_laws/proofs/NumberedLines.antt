-- The number of a line has one line, and one term.
use Rattle.std.proofs.Common.{◌≡◌, ℕ, ◌<◌, ◌^◌, List, [], ◌∷◌, inl, inr, decimal, sym, subst, ◌∙◌, arith}
use Rattle.std.proofs.lemmas.Fmt.{decimal_injective}
use Rattle.lf_meaning.specs.Terms.{Object, Atomic, Family, AtomicFamily, AtFamily, Kind, Simple, Context}
use Rattle.certificate_meaning.specs.Statements.{Term, KindTerm, FamilyTerm, ObjectTerm, AtomicTerm, SimpleTerm, ContextTerm}
use Rattle.certificate_meaning.specs.Certificates.{Line, TermLine}
use Rattle.certificate_meaning.specs.Texts.{next_number, IsAt, IsTermAt, IsShort}

-- a number is below that of the next line
pub number_below : (lines : List Line) (k : ℕ) (line : Line) → IsAt lines k line → k < next_number lines
number_below [] k line h = absurd h
number_below (first ∷ above) k line (inl h) = omega (arith, h.0)
number_below (first ∷ above) k line (inr h) = omega (arith, number_below above k line h)

pub one_line : (lines : List Line) (k : ℕ) (first second : Line) → IsAt lines k first → IsAt lines k second → first ≡ second
one_line [] k first second h g = absurd h
one_line (line ∷ above) k first second (inl h) (inl g) = sym h.1 ∙ g.1
one_line (line ∷ above) k first second (inl h) (inr g) = absurd (omega (arith, h.0, number_below above k second g))
one_line (line ∷ above) k first second (inr h) (inl g) = absurd (omega (arith, g.0, number_below above k first h))
one_line (line ∷ above) k first second (inr h) (inr g) = one_line above k first second h g

-- numbers of lines, and those that are short, are below 2^64 where the lines are as few
pub short_fits : (n : ℕ) → IsShort n → n < 2 ^ 64
short_fits n h = omega (arith, h)

module _ (lines : List Line) (few : next_number lines < 2 ^ 64) where
  fits : (k : ℕ) (line : Line) → IsAt lines k line → k < 2 ^ 64
  fits k line h = omega (arith, few, number_below lines k line h)

  pub same_at : (i j : ℕ) (first second : Line) → IsAt lines i first → IsAt lines j second → decimal i ≡ decimal j → first ≡ second
  same_at i j first second h g e = one_line lines i first second h (subst (λ k. IsAt lines k second) (sym (decimal_injective i j (fits i first h) (fits j second g) e)) g)

  pub same_term : (i j : ℕ) (t u : Term) → IsTermAt lines i t → IsTermAt lines j u → decimal i ≡ decimal j → t ≡ u
  same_term i j t u h g e = of_lines t u (same_at i j (TermLine t) (TermLine u) h g e)
    where
      of_lines : (t u : Term) → TermLine t ≡ TermLine u → t ≡ u
      of_lines t u e = cc

  pub same_kind : (i j : ℕ) (k l : Kind) → IsTermAt lines i (KindTerm k) → IsTermAt lines j (KindTerm l) → decimal i ≡ decimal j → k ≡ l
  same_kind i j k l h g e = of_terms k l (same_term i j (KindTerm k) (KindTerm l) h g e)
    where
      of_terms : (k l : Kind) → KindTerm k ≡ KindTerm l → k ≡ l
      of_terms k l e = cc

  pub same_family : (i j : ℕ) (a b : Family) → IsTermAt lines i (FamilyTerm a) → IsTermAt lines j (FamilyTerm b) → decimal i ≡ decimal j → a ≡ b
  same_family i j a b h g e = of_terms a b (same_term i j (FamilyTerm a) (FamilyTerm b) h g e)
    where
      of_terms : (a b : Family) → FamilyTerm a ≡ FamilyTerm b → a ≡ b
      of_terms a b e = cc

  pub same_atomic_family : (i j : ℕ) (p q : AtomicFamily) → IsTermAt lines i (FamilyTerm (AtFamily p)) → IsTermAt lines j (FamilyTerm (AtFamily q)) → decimal i ≡ decimal j → p ≡ q
  same_atomic_family i j p q h g e = of_families p q (same_family i j (AtFamily p) (AtFamily q) h g e)
    where
      of_families : (p q : AtomicFamily) → AtFamily p ≡ AtFamily q → p ≡ q
      of_families p q e = cc

  pub same_object : (i j : ℕ) (m o : Object) → IsTermAt lines i (ObjectTerm m) → IsTermAt lines j (ObjectTerm o) → decimal i ≡ decimal j → m ≡ o
  same_object i j m o h g e = of_terms m o (same_term i j (ObjectTerm m) (ObjectTerm o) h g e)
    where
      of_terms : (m o : Object) → ObjectTerm m ≡ ObjectTerm o → m ≡ o
      of_terms m o e = cc

  pub same_atomic : (i j : ℕ) (r s : Atomic) → IsTermAt lines i (AtomicTerm r) → IsTermAt lines j (AtomicTerm s) → decimal i ≡ decimal j → r ≡ s
  same_atomic i j r s h g e = of_terms r s (same_term i j (AtomicTerm r) (AtomicTerm s) h g e)
    where
      of_terms : (r s : Atomic) → AtomicTerm r ≡ AtomicTerm s → r ≡ s
      of_terms r s e = cc

  pub same_simple : (i j : ℕ) (s t : Simple) → IsTermAt lines i (SimpleTerm s) → IsTermAt lines j (SimpleTerm t) → decimal i ≡ decimal j → s ≡ t
  same_simple i j s t h g e = of_terms s t (same_term i j (SimpleTerm s) (SimpleTerm t) h g e)
    where
      of_terms : (s t : Simple) → SimpleTerm s ≡ SimpleTerm t → s ≡ t
      of_terms s t e = cc

  pub same_context : (i j : ℕ) (g h : Context) → IsTermAt lines i (ContextTerm g) → IsTermAt lines j (ContextTerm h) → decimal i ≡ decimal j → g ≡ h
  same_context i j g h p q e = of_terms g h (same_term i j (ContextTerm g) (ContextTerm h) p q e)
    where
      of_terms : (g h : Context) → ContextTerm g ≡ ContextTerm h → g ≡ h
      of_terms g h e = cc

  pub same_short : (m n : ℕ) → IsShort m → IsShort n → decimal m ≡ decimal n → m ≡ n
  same_short m n h g e = decimal_injective m n (short_fits m h) (short_fits n g) e
