-- The words of a line tell the line: each keyword has one row of words behind it.
use Rattle.std.proofs.Common.{◌≡◌, ℕ, ◌<◌, ◌^◌, List, [], ◌∷◌, ◌++◌, codes, cond, Option, Some, None, decimal, refl, sym, ap, subst, ◌∙◌, bytes_eq}
use Rattle.lf_meaning.specs.Terms.{Constant, Object, Lam, At, Atomic, Var, Con, App, Family, Pi, AtFamily, AtomicFamily, FamilyCon, FamilyApp, Kind, Ty, PiKind, Simple, Base, Arrow, Context}
use Rattle.lf_meaning.specs.Signatures.{Class, SameAs, TermValue, FamilyValue, Declaration}
use Rattle.certificate_meaning.specs.Statements.{Term, KindTerm, FamilyTerm, ObjectTerm, AtomicTerm, SimpleTerm, ContextTerm, Statement, Raises, Erases, Substitutes, SubstitutesAtHead, Applies, KindIn, FamilyIn, SynthesisesKindIn, ChecksIn, SynthesisesIn}
use Rattle.certificate_meaning.specs.Certificates.{Line, TermLine, StepLine, DeclarationLine}
use Rattle.certificate_meaning.specs.Texts.{Word, next_number, IsTermAt, IsClassAt, IsShort, IsWritable, constant_word, WritesRest, writes_rest, writes_no_rest, AreStepsAt, premise_words, WritesTerm, WritesStatement, WritesDeclaration, IsWritten, term_is_written, step_is_written, declaration_is_written}
use Rattle.certificate_meaning.specs.Texts as texts
use Rattle.certificate_laws.proofs.NumberedLines.{same_term, same_kind, same_family, same_atomic_family, same_object, same_atomic, same_simple, same_context, same_short}
use Rattle.certificate_laws.proofs.ConstantWords.{same_constant_word, same_rest, same_class}

-- the first words of lines
pub data Keyword : Type 0 where
  TypeWord : Keyword
  KindPiWord : Keyword
  PiWord : Keyword
  FamilyConstantWord : Keyword
  FamilyApplicationWord : Keyword
  LambdaWord : Keyword
  AtomicWord : Keyword
  VariableWord : Keyword
  ConstantWord : Keyword
  ApplicationWord : Keyword
  BaseWord : Keyword
  ArrowWord : Keyword
  NoContextWord : Keyword
  ContextWord : Keyword
  RaiseWord : Keyword
  EraseWord : Keyword
  SubstituteWord : Keyword
  HeadWord : Keyword
  ApplyWord : Keyword
  KindWord : Keyword
  FamilyWord : Keyword
  KindSynthesisWord : Keyword
  CheckWord : Keyword
  SynthesisWord : Keyword
  DeclarationWord : Keyword
  SameDeclarationWord : Keyword
  TermDeclarationWord : Keyword
  FamilyDeclarationWord : Keyword

abbrev pub keyword_text : Keyword → Word
keyword_text TypeWord = codes "type"
keyword_text KindPiWord = codes "kpi"
keyword_text PiWord = codes "fpi"
keyword_text FamilyConstantWord = codes "fcon"
keyword_text FamilyApplicationWord = codes "fapp"
keyword_text LambdaWord = codes "lam"
keyword_text AtomicWord = codes "at"
keyword_text VariableWord = codes "var"
keyword_text ConstantWord = codes "con"
keyword_text ApplicationWord = codes "app"
keyword_text BaseWord = codes "base"
keyword_text ArrowWord = codes "arr"
keyword_text NoContextWord = codes "nil"
keyword_text ContextWord = codes "ctx"
keyword_text RaiseWord = codes "raise"
keyword_text EraseWord = codes "erase"
keyword_text SubstituteWord = codes "sub"
keyword_text HeadWord = codes "rsub"
keyword_text ApplyWord = codes "happ"
keyword_text KindWord = codes "kind"
keyword_text FamilyWord = codes "fam"
keyword_text KindSynthesisWord = codes "fsyn"
keyword_text CheckWord = codes "chk"
keyword_text SynthesisWord = codes "syn"
keyword_text DeclarationWord = codes "decl"
keyword_text SameDeclarationWord = codes "same"
keyword_text TermDeclarationWord = codes "term"
keyword_text FamilyDeclarationWord = codes "famv"

-- the keyword that a word is
abbrev keyword_of : Word → Option Keyword
keyword_of word =
    cond (bytes_eq word (codes "type")) (Some TypeWord) (
    cond (bytes_eq word (codes "kpi")) (Some KindPiWord) (
    cond (bytes_eq word (codes "fpi")) (Some PiWord) (
    cond (bytes_eq word (codes "fcon")) (Some FamilyConstantWord) (
    cond (bytes_eq word (codes "fapp")) (Some FamilyApplicationWord) (
    cond (bytes_eq word (codes "lam")) (Some LambdaWord) (
    cond (bytes_eq word (codes "at")) (Some AtomicWord) (
    cond (bytes_eq word (codes "var")) (Some VariableWord) (
    cond (bytes_eq word (codes "con")) (Some ConstantWord) (
    cond (bytes_eq word (codes "app")) (Some ApplicationWord) (
    cond (bytes_eq word (codes "base")) (Some BaseWord) (
    cond (bytes_eq word (codes "arr")) (Some ArrowWord) (
    cond (bytes_eq word (codes "nil")) (Some NoContextWord) (
    cond (bytes_eq word (codes "ctx")) (Some ContextWord) (
    cond (bytes_eq word (codes "raise")) (Some RaiseWord) (
    cond (bytes_eq word (codes "erase")) (Some EraseWord) (
    cond (bytes_eq word (codes "sub")) (Some SubstituteWord) (
    cond (bytes_eq word (codes "rsub")) (Some HeadWord) (
    cond (bytes_eq word (codes "happ")) (Some ApplyWord) (
    cond (bytes_eq word (codes "kind")) (Some KindWord) (
    cond (bytes_eq word (codes "fam")) (Some FamilyWord) (
    cond (bytes_eq word (codes "fsyn")) (Some KindSynthesisWord) (
    cond (bytes_eq word (codes "chk")) (Some CheckWord) (
    cond (bytes_eq word (codes "syn")) (Some SynthesisWord) (
    cond (bytes_eq word (codes "decl")) (Some DeclarationWord) (
    cond (bytes_eq word (codes "same")) (Some SameDeclarationWord) (
    cond (bytes_eq word (codes "term")) (Some TermDeclarationWord) (
    cond (bytes_eq word (codes "famv")) (Some FamilyDeclarationWord) (
    None))))))))))))))))))))))))))))

keyword_back : (k : Keyword) → keyword_of (keyword_text k) ≡ Some k
keyword_back TypeWord = refl
keyword_back KindPiWord = refl
keyword_back PiWord = refl
keyword_back FamilyConstantWord = refl
keyword_back FamilyApplicationWord = refl
keyword_back LambdaWord = refl
keyword_back AtomicWord = refl
keyword_back VariableWord = refl
keyword_back ConstantWord = refl
keyword_back ApplicationWord = refl
keyword_back BaseWord = refl
keyword_back ArrowWord = refl
keyword_back NoContextWord = refl
keyword_back ContextWord = refl
keyword_back RaiseWord = refl
keyword_back EraseWord = refl
keyword_back SubstituteWord = refl
keyword_back HeadWord = refl
keyword_back ApplyWord = refl
keyword_back KindWord = refl
keyword_back FamilyWord = refl
keyword_back KindSynthesisWord = refl
keyword_back CheckWord = refl
keyword_back SynthesisWord = refl
keyword_back DeclarationWord = refl
keyword_back SameDeclarationWord = refl
keyword_back TermDeclarationWord = refl
keyword_back FamilyDeclarationWord = refl

some_same : {j k : Keyword} → Some j ≡ Some k → j ≡ k
some_same e = cc

pub one_keyword : (j k : Keyword) → keyword_text j ≡ keyword_text k → j ≡ k
one_keyword j k e = some_same (sym (keyword_back j) ∙ ap keyword_of e ∙ keyword_back k)

-- what stands behind a keyword
pub data Row (lines : List Line) : Keyword → Line → List Word → Type 0 where
  type_row : Row lines TypeWord (TermLine (KindTerm Ty)) ([])
  kind_pi_row : {a : Family} {k : Kind} (i0 : ℕ) (i1 : ℕ) → IsTermAt lines i0 (FamilyTerm a) → IsTermAt lines i1 (KindTerm k) → Row lines KindPiWord (TermLine (KindTerm (PiKind a k))) (decimal i0 ∷ decimal i1 ∷ [])
  pi_row : {a : Family} {b : Family} (i0 : ℕ) (i1 : ℕ) → IsTermAt lines i0 (FamilyTerm a) → IsTermAt lines i1 (FamilyTerm b) → Row lines PiWord (TermLine (FamilyTerm (Pi a b))) (decimal i0 ∷ decimal i1 ∷ [])
  family_constant_row : {c : Constant} → IsWritable c → Row lines FamilyConstantWord (TermLine (FamilyTerm (AtFamily (FamilyCon c)))) (constant_word c ∷ [])
  family_application_row : {p : AtomicFamily} {m : Object} (i0 : ℕ) (i1 : ℕ) → IsTermAt lines i0 (FamilyTerm (AtFamily p)) → IsTermAt lines i1 (ObjectTerm m) → Row lines FamilyApplicationWord (TermLine (FamilyTerm (AtFamily (FamilyApp p m)))) (decimal i0 ∷ decimal i1 ∷ [])
  lambda_row : {m : Object} (i0 : ℕ) → IsTermAt lines i0 (ObjectTerm m) → Row lines LambdaWord (TermLine (ObjectTerm (Lam m))) (decimal i0 ∷ [])
  atomic_row : {r : Atomic} (i0 : ℕ) → IsTermAt lines i0 (AtomicTerm r) → Row lines AtomicWord (TermLine (ObjectTerm (At r))) (decimal i0 ∷ [])
  variable_row : {n : ℕ} → IsShort n → Row lines VariableWord (TermLine (AtomicTerm (Var n))) (decimal n ∷ [])
  constant_row : {c : Constant} → IsWritable c → Row lines ConstantWord (TermLine (AtomicTerm (Con c))) (constant_word c ∷ [])
  application_row : {r : Atomic} {m : Object} (i0 : ℕ) (i1 : ℕ) → IsTermAt lines i0 (AtomicTerm r) → IsTermAt lines i1 (ObjectTerm m) → Row lines ApplicationWord (TermLine (AtomicTerm (App r m))) (decimal i0 ∷ decimal i1 ∷ [])
  base_row : {c : Constant} → IsWritable c → Row lines BaseWord (TermLine (SimpleTerm (Base c))) (constant_word c ∷ [])
  arrow_row : {s : Simple} {t : Simple} (i0 : ℕ) (i1 : ℕ) → IsTermAt lines i0 (SimpleTerm s) → IsTermAt lines i1 (SimpleTerm t) → Row lines ArrowWord (TermLine (SimpleTerm (Arrow s t))) (decimal i0 ∷ decimal i1 ∷ [])
  no_context_row : Row lines NoContextWord (TermLine (ContextTerm [])) ([])
  context_row : {g : Context} {a : Family} (i0 : ℕ) (i1 : ℕ) → IsTermAt lines i0 (ContextTerm g) → IsTermAt lines i1 (FamilyTerm a) → Row lines ContextWord (TermLine (ContextTerm (a ∷ g))) (decimal i0 ∷ decimal i1 ∷ [])
  raise_row : {n : ℕ} {o : ℕ} {t : Term} {u : Term} (i2 : ℕ) (i3 : ℕ) (premises : List Statement) (numbers : List ℕ) → IsShort n → IsShort o → IsTermAt lines i2 t → IsTermAt lines i3 u → AreStepsAt lines numbers premises → Row lines RaiseWord (StepLine (Raises n o t u)) (decimal n ∷ decimal o ∷ decimal i2 ∷ decimal i3 ∷ premise_words numbers)
  erase_row : {a : Family} {s : Simple} (i0 : ℕ) (i1 : ℕ) (premises : List Statement) (numbers : List ℕ) → IsTermAt lines i0 (FamilyTerm a) → IsTermAt lines i1 (SimpleTerm s) → AreStepsAt lines numbers premises → Row lines EraseWord (StepLine (Erases a s)) (decimal i0 ∷ decimal i1 ∷ premise_words numbers)
  substitute_row : {v : Object} {s : Simple} {n : ℕ} {t : Term} {u : Term} (i0 : ℕ) (i1 : ℕ) (i3 : ℕ) (i4 : ℕ) (premises : List Statement) (numbers : List ℕ) → IsTermAt lines i0 (ObjectTerm v) → IsTermAt lines i1 (SimpleTerm s) → IsShort n → IsTermAt lines i3 t → IsTermAt lines i4 u → AreStepsAt lines numbers premises → Row lines SubstituteWord (StepLine (Substitutes v s n t u)) (decimal i0 ∷ decimal i1 ∷ decimal n ∷ decimal i3 ∷ decimal i4 ∷ premise_words numbers)
  head_row : {v : Object} {s : Simple} {n : ℕ} {r : Atomic} {w : Object} {t : Option Simple} (i0 : ℕ) (i1 : ℕ) (i3 : ℕ) (i4 : ℕ) (word : Word) (premises : List Statement) (numbers : List ℕ) → IsTermAt lines i0 (ObjectTerm v) → IsTermAt lines i1 (SimpleTerm s) → IsShort n → IsTermAt lines i3 (AtomicTerm r) → IsTermAt lines i4 (ObjectTerm w) → WritesRest lines t word → AreStepsAt lines numbers premises → Row lines HeadWord (StepLine (SubstitutesAtHead v s n r w t)) (decimal i0 ∷ decimal i1 ∷ decimal n ∷ decimal i3 ∷ decimal i4 ∷ word ∷ premise_words numbers)
  apply_row : {s : Simple} {v : Object} {m : Object} {w : Object} {t : Simple} (i0 : ℕ) (i1 : ℕ) (i2 : ℕ) (i3 : ℕ) (i4 : ℕ) (premises : List Statement) (numbers : List ℕ) → IsTermAt lines i0 (SimpleTerm s) → IsTermAt lines i1 (ObjectTerm v) → IsTermAt lines i2 (ObjectTerm m) → IsTermAt lines i3 (ObjectTerm w) → IsTermAt lines i4 (SimpleTerm t) → AreStepsAt lines numbers premises → Row lines ApplyWord (StepLine (Applies s v m w t)) (decimal i0 ∷ decimal i1 ∷ decimal i2 ∷ decimal i3 ∷ decimal i4 ∷ premise_words numbers)
  kind_row : {g : Context} {k : Kind} (i0 : ℕ) (i1 : ℕ) (premises : List Statement) (numbers : List ℕ) → IsTermAt lines i0 (ContextTerm g) → IsTermAt lines i1 (KindTerm k) → AreStepsAt lines numbers premises → Row lines KindWord (StepLine (KindIn g k)) (decimal i0 ∷ decimal i1 ∷ premise_words numbers)
  family_row : {g : Context} {a : Family} (i0 : ℕ) (i1 : ℕ) (premises : List Statement) (numbers : List ℕ) → IsTermAt lines i0 (ContextTerm g) → IsTermAt lines i1 (FamilyTerm a) → AreStepsAt lines numbers premises → Row lines FamilyWord (StepLine (FamilyIn g a)) (decimal i0 ∷ decimal i1 ∷ premise_words numbers)
  kind_synthesis_row : {g : Context} {p : AtomicFamily} {k : Kind} (i0 : ℕ) (i1 : ℕ) (i2 : ℕ) (premises : List Statement) (numbers : List ℕ) → IsTermAt lines i0 (ContextTerm g) → IsTermAt lines i1 (FamilyTerm (AtFamily p)) → IsTermAt lines i2 (KindTerm k) → AreStepsAt lines numbers premises → Row lines KindSynthesisWord (StepLine (SynthesisesKindIn g p k)) (decimal i0 ∷ decimal i1 ∷ decimal i2 ∷ premise_words numbers)
  check_row : {g : Context} {m : Object} {a : Family} (i0 : ℕ) (i1 : ℕ) (i2 : ℕ) (premises : List Statement) (numbers : List ℕ) → IsTermAt lines i0 (ContextTerm g) → IsTermAt lines i1 (ObjectTerm m) → IsTermAt lines i2 (FamilyTerm a) → AreStepsAt lines numbers premises → Row lines CheckWord (StepLine (ChecksIn g m a)) (decimal i0 ∷ decimal i1 ∷ decimal i2 ∷ premise_words numbers)
  synthesis_row : {g : Context} {r : Atomic} {a : Family} (i0 : ℕ) (i1 : ℕ) (i2 : ℕ) (premises : List Statement) (numbers : List ℕ) → IsTermAt lines i0 (ContextTerm g) → IsTermAt lines i1 (AtomicTerm r) → IsTermAt lines i2 (FamilyTerm a) → AreStepsAt lines numbers premises → Row lines SynthesisWord (StepLine (SynthesisesIn g r a)) (decimal i0 ∷ decimal i1 ∷ decimal i2 ∷ premise_words numbers)
  declaration_row : {c : Constant} {l : Class} (i1 : ℕ) (premises : List Statement) (numbers : List ℕ) → IsWritable c → IsClassAt lines i1 l → AreStepsAt lines numbers premises → Row lines DeclarationWord (DeclarationLine (record { name = c; class = l; value = None })) (constant_word c ∷ decimal i1 ∷ premise_words numbers)
  same_declaration_row : {c : Constant} {l : Class} {d : Constant} (i1 : ℕ) (premises : List Statement) (numbers : List ℕ) → IsWritable c → IsClassAt lines i1 l → IsWritable d → AreStepsAt lines numbers premises → Row lines SameDeclarationWord (DeclarationLine (record { name = c; class = l; value = Some (SameAs d) })) (constant_word c ∷ decimal i1 ∷ constant_word d ∷ premise_words numbers)
  term_declaration_row : {c : Constant} {l : Class} {m : Object} (i1 : ℕ) (i2 : ℕ) (premises : List Statement) (numbers : List ℕ) → IsWritable c → IsClassAt lines i1 l → IsTermAt lines i2 (ObjectTerm m) → AreStepsAt lines numbers premises → Row lines TermDeclarationWord (DeclarationLine (record { name = c; class = l; value = Some (TermValue m) })) (constant_word c ∷ decimal i1 ∷ decimal i2 ∷ premise_words numbers)
  family_declaration_row : {c : Constant} {l : Class} {n : ℕ} {a : Family} (i1 : ℕ) (i3 : ℕ) (premises : List Statement) (numbers : List ℕ) → IsWritable c → IsClassAt lines i1 l → IsShort n → IsTermAt lines i3 (FamilyTerm a) → AreStepsAt lines numbers premises → Row lines FamilyDeclarationWord (DeclarationLine (record { name = c; class = l; value = Some (FamilyValue n a) })) (constant_word c ∷ decimal i1 ∷ decimal n ∷ decimal i3 ∷ premise_words numbers)

module _ (lines : List Line) (few : next_number lines < 2 ^ 64) where
  pub one_row : {k : Keyword} {line other : Line} {rest more : List Word} → Row lines k line rest → Row lines k other more → rest ≡ more → line ≡ other
  one_row type_row type_row e = refl
  one_row (kind_pi_row {a = a} {k = k} i0 i1 q0 q1) (kind_pi_row {a = a′} {k = k′} i0′ i1′ q0′ q1′) e =
      let w0 : decimal i0 ≡ decimal i0′ = cc in
      let e0 : a ≡ a′ = same_family lines few i0 i0′ a a′ q0 q0′ w0 in
      let w1 : decimal i1 ≡ decimal i1′ = cc in
      let e1 : k ≡ k′ = same_kind lines few i1 i1′ k k′ q1 q1′ w1 in
      ap (λ z. TermLine (KindTerm (PiKind z k))) e0 ∙ ap (λ z. TermLine (KindTerm (PiKind a′ z))) e1
  one_row (pi_row {a = a} {b = b} i0 i1 q0 q1) (pi_row {a = a′} {b = b′} i0′ i1′ q0′ q1′) e =
      let w0 : decimal i0 ≡ decimal i0′ = cc in
      let e0 : a ≡ a′ = same_family lines few i0 i0′ a a′ q0 q0′ w0 in
      let w1 : decimal i1 ≡ decimal i1′ = cc in
      let e1 : b ≡ b′ = same_family lines few i1 i1′ b b′ q1 q1′ w1 in
      ap (λ z. TermLine (FamilyTerm (Pi z b))) e0 ∙ ap (λ z. TermLine (FamilyTerm (Pi a′ z))) e1
  one_row (family_constant_row {c = c} q0) (family_constant_row {c = c′} q0′) e =
      let w0 : constant_word c ≡ constant_word c′ = cc in
      let e0 : c ≡ c′ = same_constant_word c c′ q0 q0′ w0 in
      ap (λ z. TermLine (FamilyTerm (AtFamily (FamilyCon z)))) e0
  one_row (family_application_row {p = p} {m = m} i0 i1 q0 q1) (family_application_row {p = p′} {m = m′} i0′ i1′ q0′ q1′) e =
      let w0 : decimal i0 ≡ decimal i0′ = cc in
      let e0 : p ≡ p′ = same_atomic_family lines few i0 i0′ p p′ q0 q0′ w0 in
      let w1 : decimal i1 ≡ decimal i1′ = cc in
      let e1 : m ≡ m′ = same_object lines few i1 i1′ m m′ q1 q1′ w1 in
      ap (λ z. TermLine (FamilyTerm (AtFamily (FamilyApp z m)))) e0 ∙ ap (λ z. TermLine (FamilyTerm (AtFamily (FamilyApp p′ z)))) e1
  one_row (lambda_row {m = m} i0 q0) (lambda_row {m = m′} i0′ q0′) e =
      let w0 : decimal i0 ≡ decimal i0′ = cc in
      let e0 : m ≡ m′ = same_object lines few i0 i0′ m m′ q0 q0′ w0 in
      ap (λ z. TermLine (ObjectTerm (Lam z))) e0
  one_row (atomic_row {r = r} i0 q0) (atomic_row {r = r′} i0′ q0′) e =
      let w0 : decimal i0 ≡ decimal i0′ = cc in
      let e0 : r ≡ r′ = same_atomic lines few i0 i0′ r r′ q0 q0′ w0 in
      ap (λ z. TermLine (ObjectTerm (At z))) e0
  one_row (variable_row {n = n} q0) (variable_row {n = n′} q0′) e =
      let w0 : decimal n ≡ decimal n′ = cc in
      let e0 : n ≡ n′ = same_short lines few n n′ q0 q0′ w0 in
      ap (λ z. TermLine (AtomicTerm (Var z))) e0
  one_row (constant_row {c = c} q0) (constant_row {c = c′} q0′) e =
      let w0 : constant_word c ≡ constant_word c′ = cc in
      let e0 : c ≡ c′ = same_constant_word c c′ q0 q0′ w0 in
      ap (λ z. TermLine (AtomicTerm (Con z))) e0
  one_row (application_row {r = r} {m = m} i0 i1 q0 q1) (application_row {r = r′} {m = m′} i0′ i1′ q0′ q1′) e =
      let w0 : decimal i0 ≡ decimal i0′ = cc in
      let e0 : r ≡ r′ = same_atomic lines few i0 i0′ r r′ q0 q0′ w0 in
      let w1 : decimal i1 ≡ decimal i1′ = cc in
      let e1 : m ≡ m′ = same_object lines few i1 i1′ m m′ q1 q1′ w1 in
      ap (λ z. TermLine (AtomicTerm (App z m))) e0 ∙ ap (λ z. TermLine (AtomicTerm (App r′ z))) e1
  one_row (base_row {c = c} q0) (base_row {c = c′} q0′) e =
      let w0 : constant_word c ≡ constant_word c′ = cc in
      let e0 : c ≡ c′ = same_constant_word c c′ q0 q0′ w0 in
      ap (λ z. TermLine (SimpleTerm (Base z))) e0
  one_row (arrow_row {s = s} {t = t} i0 i1 q0 q1) (arrow_row {s = s′} {t = t′} i0′ i1′ q0′ q1′) e =
      let w0 : decimal i0 ≡ decimal i0′ = cc in
      let e0 : s ≡ s′ = same_simple lines few i0 i0′ s s′ q0 q0′ w0 in
      let w1 : decimal i1 ≡ decimal i1′ = cc in
      let e1 : t ≡ t′ = same_simple lines few i1 i1′ t t′ q1 q1′ w1 in
      ap (λ z. TermLine (SimpleTerm (Arrow z t))) e0 ∙ ap (λ z. TermLine (SimpleTerm (Arrow s′ z))) e1
  one_row no_context_row no_context_row e = refl
  one_row (context_row {g = g} {a = a} i0 i1 q0 q1) (context_row {g = g′} {a = a′} i0′ i1′ q0′ q1′) e =
      let w0 : decimal i0 ≡ decimal i0′ = cc in
      let e0 : g ≡ g′ = same_context lines few i0 i0′ g g′ q0 q0′ w0 in
      let w1 : decimal i1 ≡ decimal i1′ = cc in
      let e1 : a ≡ a′ = same_family lines few i1 i1′ a a′ q1 q1′ w1 in
      ap (λ z. TermLine (ContextTerm (a ∷ z))) e0 ∙ ap (λ z. TermLine (ContextTerm (z ∷ g′))) e1
  one_row (raise_row {n = n} {o = o} {t = t} {u = u} i2 i3 ps ns q0 q1 q2 q3 are) (raise_row {n = n′} {o = o′} {t = t′} {u = u′} i2′ i3′ ps′ ns′ q0′ q1′ q2′ q3′ are′) e =
      let w0 : decimal n ≡ decimal n′ = cc in
      let e0 : n ≡ n′ = same_short lines few n n′ q0 q0′ w0 in
      let w1 : decimal o ≡ decimal o′ = cc in
      let e1 : o ≡ o′ = same_short lines few o o′ q1 q1′ w1 in
      let w2 : decimal i2 ≡ decimal i2′ = cc in
      let e2 : t ≡ t′ = same_term lines few i2 i2′ t t′ q2 q2′ w2 in
      let w3 : decimal i3 ≡ decimal i3′ = cc in
      let e3 : u ≡ u′ = same_term lines few i3 i3′ u u′ q3 q3′ w3 in
      ap (λ z. StepLine (Raises z o t u)) e0 ∙ ap (λ z. StepLine (Raises n′ z t u)) e1 ∙ ap (λ z. StepLine (Raises n′ o′ z u)) e2 ∙ ap (λ z. StepLine (Raises n′ o′ t′ z)) e3
  one_row (erase_row {a = a} {s = s} i0 i1 ps ns q0 q1 are) (erase_row {a = a′} {s = s′} i0′ i1′ ps′ ns′ q0′ q1′ are′) e =
      let w0 : decimal i0 ≡ decimal i0′ = cc in
      let e0 : a ≡ a′ = same_family lines few i0 i0′ a a′ q0 q0′ w0 in
      let w1 : decimal i1 ≡ decimal i1′ = cc in
      let e1 : s ≡ s′ = same_simple lines few i1 i1′ s s′ q1 q1′ w1 in
      ap (λ z. StepLine (Erases z s)) e0 ∙ ap (λ z. StepLine (Erases a′ z)) e1
  one_row (substitute_row {v = v} {s = s} {n = n} {t = t} {u = u} i0 i1 i3 i4 ps ns q0 q1 q2 q3 q4 are) (substitute_row {v = v′} {s = s′} {n = n′} {t = t′} {u = u′} i0′ i1′ i3′ i4′ ps′ ns′ q0′ q1′ q2′ q3′ q4′ are′) e =
      let w0 : decimal i0 ≡ decimal i0′ = cc in
      let e0 : v ≡ v′ = same_object lines few i0 i0′ v v′ q0 q0′ w0 in
      let w1 : decimal i1 ≡ decimal i1′ = cc in
      let e1 : s ≡ s′ = same_simple lines few i1 i1′ s s′ q1 q1′ w1 in
      let w2 : decimal n ≡ decimal n′ = cc in
      let e2 : n ≡ n′ = same_short lines few n n′ q2 q2′ w2 in
      let w3 : decimal i3 ≡ decimal i3′ = cc in
      let e3 : t ≡ t′ = same_term lines few i3 i3′ t t′ q3 q3′ w3 in
      let w4 : decimal i4 ≡ decimal i4′ = cc in
      let e4 : u ≡ u′ = same_term lines few i4 i4′ u u′ q4 q4′ w4 in
      ap (λ z. StepLine (Substitutes z s n t u)) e0 ∙ ap (λ z. StepLine (Substitutes v′ z n t u)) e1 ∙ ap (λ z. StepLine (Substitutes v′ s′ z t u)) e2 ∙ ap (λ z. StepLine (Substitutes v′ s′ n′ z u)) e3 ∙ ap (λ z. StepLine (Substitutes v′ s′ n′ t′ z)) e4
  one_row (head_row {v = v} {s = s} {n = n} {r = r} {w = w} {t = t} i0 i1 i3 i4 word ps ns q0 q1 q2 q3 q4 q5 are) (head_row {v = v′} {s = s′} {n = n′} {r = r′} {w = w′} {t = t′} i0′ i1′ i3′ i4′ word′ ps′ ns′ q0′ q1′ q2′ q3′ q4′ q5′ are′) e =
      let w0 : decimal i0 ≡ decimal i0′ = cc in
      let e0 : v ≡ v′ = same_object lines few i0 i0′ v v′ q0 q0′ w0 in
      let w1 : decimal i1 ≡ decimal i1′ = cc in
      let e1 : s ≡ s′ = same_simple lines few i1 i1′ s s′ q1 q1′ w1 in
      let w2 : decimal n ≡ decimal n′ = cc in
      let e2 : n ≡ n′ = same_short lines few n n′ q2 q2′ w2 in
      let w3 : decimal i3 ≡ decimal i3′ = cc in
      let e3 : r ≡ r′ = same_atomic lines few i3 i3′ r r′ q3 q3′ w3 in
      let w4 : decimal i4 ≡ decimal i4′ = cc in
      let e4 : w ≡ w′ = same_object lines few i4 i4′ w w′ q4 q4′ w4 in
      let w5 : word ≡ word′ = cc in
      let e5 : t ≡ t′ = same_rest lines few word word′ t t′ q5 q5′ w5 in
      ap (λ z. StepLine (SubstitutesAtHead z s n r w t)) e0 ∙ ap (λ z. StepLine (SubstitutesAtHead v′ z n r w t)) e1 ∙ ap (λ z. StepLine (SubstitutesAtHead v′ s′ z r w t)) e2 ∙ ap (λ z. StepLine (SubstitutesAtHead v′ s′ n′ z w t)) e3 ∙ ap (λ z. StepLine (SubstitutesAtHead v′ s′ n′ r′ z t)) e4 ∙ ap (λ z. StepLine (SubstitutesAtHead v′ s′ n′ r′ w′ z)) e5
  one_row (apply_row {s = s} {v = v} {m = m} {w = w} {t = t} i0 i1 i2 i3 i4 ps ns q0 q1 q2 q3 q4 are) (apply_row {s = s′} {v = v′} {m = m′} {w = w′} {t = t′} i0′ i1′ i2′ i3′ i4′ ps′ ns′ q0′ q1′ q2′ q3′ q4′ are′) e =
      let w0 : decimal i0 ≡ decimal i0′ = cc in
      let e0 : s ≡ s′ = same_simple lines few i0 i0′ s s′ q0 q0′ w0 in
      let w1 : decimal i1 ≡ decimal i1′ = cc in
      let e1 : v ≡ v′ = same_object lines few i1 i1′ v v′ q1 q1′ w1 in
      let w2 : decimal i2 ≡ decimal i2′ = cc in
      let e2 : m ≡ m′ = same_object lines few i2 i2′ m m′ q2 q2′ w2 in
      let w3 : decimal i3 ≡ decimal i3′ = cc in
      let e3 : w ≡ w′ = same_object lines few i3 i3′ w w′ q3 q3′ w3 in
      let w4 : decimal i4 ≡ decimal i4′ = cc in
      let e4 : t ≡ t′ = same_simple lines few i4 i4′ t t′ q4 q4′ w4 in
      ap (λ z. StepLine (Applies z v m w t)) e0 ∙ ap (λ z. StepLine (Applies s′ z m w t)) e1 ∙ ap (λ z. StepLine (Applies s′ v′ z w t)) e2 ∙ ap (λ z. StepLine (Applies s′ v′ m′ z t)) e3 ∙ ap (λ z. StepLine (Applies s′ v′ m′ w′ z)) e4
  one_row (kind_row {g = g} {k = k} i0 i1 ps ns q0 q1 are) (kind_row {g = g′} {k = k′} i0′ i1′ ps′ ns′ q0′ q1′ are′) e =
      let w0 : decimal i0 ≡ decimal i0′ = cc in
      let e0 : g ≡ g′ = same_context lines few i0 i0′ g g′ q0 q0′ w0 in
      let w1 : decimal i1 ≡ decimal i1′ = cc in
      let e1 : k ≡ k′ = same_kind lines few i1 i1′ k k′ q1 q1′ w1 in
      ap (λ z. StepLine (KindIn z k)) e0 ∙ ap (λ z. StepLine (KindIn g′ z)) e1
  one_row (family_row {g = g} {a = a} i0 i1 ps ns q0 q1 are) (family_row {g = g′} {a = a′} i0′ i1′ ps′ ns′ q0′ q1′ are′) e =
      let w0 : decimal i0 ≡ decimal i0′ = cc in
      let e0 : g ≡ g′ = same_context lines few i0 i0′ g g′ q0 q0′ w0 in
      let w1 : decimal i1 ≡ decimal i1′ = cc in
      let e1 : a ≡ a′ = same_family lines few i1 i1′ a a′ q1 q1′ w1 in
      ap (λ z. StepLine (FamilyIn z a)) e0 ∙ ap (λ z. StepLine (FamilyIn g′ z)) e1
  one_row (kind_synthesis_row {g = g} {p = p} {k = k} i0 i1 i2 ps ns q0 q1 q2 are) (kind_synthesis_row {g = g′} {p = p′} {k = k′} i0′ i1′ i2′ ps′ ns′ q0′ q1′ q2′ are′) e =
      let w0 : decimal i0 ≡ decimal i0′ = cc in
      let e0 : g ≡ g′ = same_context lines few i0 i0′ g g′ q0 q0′ w0 in
      let w1 : decimal i1 ≡ decimal i1′ = cc in
      let e1 : p ≡ p′ = same_atomic_family lines few i1 i1′ p p′ q1 q1′ w1 in
      let w2 : decimal i2 ≡ decimal i2′ = cc in
      let e2 : k ≡ k′ = same_kind lines few i2 i2′ k k′ q2 q2′ w2 in
      ap (λ z. StepLine (SynthesisesKindIn z p k)) e0 ∙ ap (λ z. StepLine (SynthesisesKindIn g′ z k)) e1 ∙ ap (λ z. StepLine (SynthesisesKindIn g′ p′ z)) e2
  one_row (check_row {g = g} {m = m} {a = a} i0 i1 i2 ps ns q0 q1 q2 are) (check_row {g = g′} {m = m′} {a = a′} i0′ i1′ i2′ ps′ ns′ q0′ q1′ q2′ are′) e =
      let w0 : decimal i0 ≡ decimal i0′ = cc in
      let e0 : g ≡ g′ = same_context lines few i0 i0′ g g′ q0 q0′ w0 in
      let w1 : decimal i1 ≡ decimal i1′ = cc in
      let e1 : m ≡ m′ = same_object lines few i1 i1′ m m′ q1 q1′ w1 in
      let w2 : decimal i2 ≡ decimal i2′ = cc in
      let e2 : a ≡ a′ = same_family lines few i2 i2′ a a′ q2 q2′ w2 in
      ap (λ z. StepLine (ChecksIn z m a)) e0 ∙ ap (λ z. StepLine (ChecksIn g′ z a)) e1 ∙ ap (λ z. StepLine (ChecksIn g′ m′ z)) e2
  one_row (synthesis_row {g = g} {r = r} {a = a} i0 i1 i2 ps ns q0 q1 q2 are) (synthesis_row {g = g′} {r = r′} {a = a′} i0′ i1′ i2′ ps′ ns′ q0′ q1′ q2′ are′) e =
      let w0 : decimal i0 ≡ decimal i0′ = cc in
      let e0 : g ≡ g′ = same_context lines few i0 i0′ g g′ q0 q0′ w0 in
      let w1 : decimal i1 ≡ decimal i1′ = cc in
      let e1 : r ≡ r′ = same_atomic lines few i1 i1′ r r′ q1 q1′ w1 in
      let w2 : decimal i2 ≡ decimal i2′ = cc in
      let e2 : a ≡ a′ = same_family lines few i2 i2′ a a′ q2 q2′ w2 in
      ap (λ z. StepLine (SynthesisesIn z r a)) e0 ∙ ap (λ z. StepLine (SynthesisesIn g′ z a)) e1 ∙ ap (λ z. StepLine (SynthesisesIn g′ r′ z)) e2
  one_row (declaration_row {c = c} {l = l} i1 ps ns q0 q1 are) (declaration_row {c = c′} {l = l′} i1′ ps′ ns′ q0′ q1′ are′) e =
      let w0 : constant_word c ≡ constant_word c′ = cc in
      let e0 : c ≡ c′ = same_constant_word c c′ q0 q0′ w0 in
      let w1 : decimal i1 ≡ decimal i1′ = cc in
      let e1 : l ≡ l′ = same_class lines few i1 i1′ l l′ q1 q1′ w1 in
      ap (λ z. DeclarationLine (record { name = z; class = l; value = None })) e0 ∙ ap (λ z. DeclarationLine (record { name = c′; class = z; value = None })) e1
  one_row (same_declaration_row {c = c} {l = l} {d = d} i1 ps ns q0 q1 q2 are) (same_declaration_row {c = c′} {l = l′} {d = d′} i1′ ps′ ns′ q0′ q1′ q2′ are′) e =
      let w0 : constant_word c ≡ constant_word c′ = cc in
      let e0 : c ≡ c′ = same_constant_word c c′ q0 q0′ w0 in
      let w1 : decimal i1 ≡ decimal i1′ = cc in
      let e1 : l ≡ l′ = same_class lines few i1 i1′ l l′ q1 q1′ w1 in
      let w2 : constant_word d ≡ constant_word d′ = cc in
      let e2 : d ≡ d′ = same_constant_word d d′ q2 q2′ w2 in
      ap (λ z. DeclarationLine (record { name = z; class = l; value = Some (SameAs d) })) e0 ∙ ap (λ z. DeclarationLine (record { name = c′; class = z; value = Some (SameAs d) })) e1 ∙ ap (λ z. DeclarationLine (record { name = c′; class = l′; value = Some (SameAs z) })) e2
  one_row (term_declaration_row {c = c} {l = l} {m = m} i1 i2 ps ns q0 q1 q2 are) (term_declaration_row {c = c′} {l = l′} {m = m′} i1′ i2′ ps′ ns′ q0′ q1′ q2′ are′) e =
      let w0 : constant_word c ≡ constant_word c′ = cc in
      let e0 : c ≡ c′ = same_constant_word c c′ q0 q0′ w0 in
      let w1 : decimal i1 ≡ decimal i1′ = cc in
      let e1 : l ≡ l′ = same_class lines few i1 i1′ l l′ q1 q1′ w1 in
      let w2 : decimal i2 ≡ decimal i2′ = cc in
      let e2 : m ≡ m′ = same_object lines few i2 i2′ m m′ q2 q2′ w2 in
      ap (λ z. DeclarationLine (record { name = z; class = l; value = Some (TermValue m) })) e0 ∙ ap (λ z. DeclarationLine (record { name = c′; class = z; value = Some (TermValue m) })) e1 ∙ ap (λ z. DeclarationLine (record { name = c′; class = l′; value = Some (TermValue z) })) e2
  one_row (family_declaration_row {c = c} {l = l} {n = n} {a = a} i1 i3 ps ns q0 q1 q2 q3 are) (family_declaration_row {c = c′} {l = l′} {n = n′} {a = a′} i1′ i3′ ps′ ns′ q0′ q1′ q2′ q3′ are′) e =
      let w0 : constant_word c ≡ constant_word c′ = cc in
      let e0 : c ≡ c′ = same_constant_word c c′ q0 q0′ w0 in
      let w1 : decimal i1 ≡ decimal i1′ = cc in
      let e1 : l ≡ l′ = same_class lines few i1 i1′ l l′ q1 q1′ w1 in
      let w2 : decimal n ≡ decimal n′ = cc in
      let e2 : n ≡ n′ = same_short lines few n n′ q2 q2′ w2 in
      let w3 : decimal i3 ≡ decimal i3′ = cc in
      let e3 : a ≡ a′ = same_family lines few i3 i3′ a a′ q3 q3′ w3 in
      ap (λ z. DeclarationLine (record { name = z; class = l; value = Some (FamilyValue n a) })) e0 ∙ ap (λ z. DeclarationLine (record { name = c′; class = z; value = Some (FamilyValue n a) })) e1 ∙ ap (λ z. DeclarationLine (record { name = c′; class = l′; value = Some (FamilyValue z a) })) e2 ∙ ap (λ z. DeclarationLine (record { name = c′; class = l′; value = Some (FamilyValue n′ z) })) e3

  -- a written line has its keyword and its row
  pub record RowOf (line : Line) (words : List Word) : Type 0 where
    pub keyword : Keyword
    pub rest : List Word
    pub words_are : words ≡ keyword_text keyword ∷ rest
    pub row : Row lines keyword line rest

  term_row : {t : Term} {words : List Word} → WritesTerm lines t words → RowOf (TermLine t) words
  term_row texts.writes_type = record { keyword = TypeWord; rest = _; words_are = refl; row = type_row }
  term_row (texts.writes_kind_pi i0 i1 q0 q1) = record { keyword = KindPiWord; rest = _; words_are = refl; row = kind_pi_row i0 i1 q0 q1 }
  term_row (texts.writes_pi i0 i1 q0 q1) = record { keyword = PiWord; rest = _; words_are = refl; row = pi_row i0 i1 q0 q1 }
  term_row (texts.writes_family_constant q0) = record { keyword = FamilyConstantWord; rest = _; words_are = refl; row = family_constant_row q0 }
  term_row (texts.writes_family_application i0 i1 q0 q1) = record { keyword = FamilyApplicationWord; rest = _; words_are = refl; row = family_application_row i0 i1 q0 q1 }
  term_row (texts.writes_lambda i0 q0) = record { keyword = LambdaWord; rest = _; words_are = refl; row = lambda_row i0 q0 }
  term_row (texts.writes_atomic i0 q0) = record { keyword = AtomicWord; rest = _; words_are = refl; row = atomic_row i0 q0 }
  term_row (texts.writes_variable q0) = record { keyword = VariableWord; rest = _; words_are = refl; row = variable_row q0 }
  term_row (texts.writes_constant q0) = record { keyword = ConstantWord; rest = _; words_are = refl; row = constant_row q0 }
  term_row (texts.writes_application i0 i1 q0 q1) = record { keyword = ApplicationWord; rest = _; words_are = refl; row = application_row i0 i1 q0 q1 }
  term_row (texts.writes_base q0) = record { keyword = BaseWord; rest = _; words_are = refl; row = base_row q0 }
  term_row (texts.writes_arrow i0 i1 q0 q1) = record { keyword = ArrowWord; rest = _; words_are = refl; row = arrow_row i0 i1 q0 q1 }
  term_row texts.writes_no_context = record { keyword = NoContextWord; rest = _; words_are = refl; row = no_context_row }
  term_row (texts.writes_context i0 i1 q0 q1) = record { keyword = ContextWord; rest = _; words_are = refl; row = context_row i0 i1 q0 q1 }

  step_row : {s : Statement} {words : List Word} → WritesStatement lines s words → (premises : List Statement) (numbers : List ℕ) → AreStepsAt lines numbers premises → RowOf (StepLine s) (words ++ premise_words numbers)
  step_row (texts.writes_raises i2 i3 q0 q1 q2 q3) premises numbers are = record { keyword = RaiseWord; rest = _; words_are = refl; row = raise_row i2 i3 premises numbers q0 q1 q2 q3 are }
  step_row (texts.writes_erases i0 i1 q0 q1) premises numbers are = record { keyword = EraseWord; rest = _; words_are = refl; row = erase_row i0 i1 premises numbers q0 q1 are }
  step_row (texts.writes_substitutes i0 i1 i3 i4 q0 q1 q2 q3 q4) premises numbers are = record { keyword = SubstituteWord; rest = _; words_are = refl; row = substitute_row i0 i1 i3 i4 premises numbers q0 q1 q2 q3 q4 are }
  step_row (texts.writes_head i0 i1 i3 i4 word q0 q1 q2 q3 q4 q5) premises numbers are = record { keyword = HeadWord; rest = _; words_are = refl; row = head_row i0 i1 i3 i4 word premises numbers q0 q1 q2 q3 q4 q5 are }
  step_row (texts.writes_applies i0 i1 i2 i3 i4 q0 q1 q2 q3 q4) premises numbers are = record { keyword = ApplyWord; rest = _; words_are = refl; row = apply_row i0 i1 i2 i3 i4 premises numbers q0 q1 q2 q3 q4 are }
  step_row (texts.writes_kind i0 i1 q0 q1) premises numbers are = record { keyword = KindWord; rest = _; words_are = refl; row = kind_row i0 i1 premises numbers q0 q1 are }
  step_row (texts.writes_family i0 i1 q0 q1) premises numbers are = record { keyword = FamilyWord; rest = _; words_are = refl; row = family_row i0 i1 premises numbers q0 q1 are }
  step_row (texts.writes_kind_synthesis i0 i1 i2 q0 q1 q2) premises numbers are = record { keyword = KindSynthesisWord; rest = _; words_are = refl; row = kind_synthesis_row i0 i1 i2 premises numbers q0 q1 q2 are }
  step_row (texts.writes_check i0 i1 i2 q0 q1 q2) premises numbers are = record { keyword = CheckWord; rest = _; words_are = refl; row = check_row i0 i1 i2 premises numbers q0 q1 q2 are }
  step_row (texts.writes_synthesis i0 i1 i2 q0 q1 q2) premises numbers are = record { keyword = SynthesisWord; rest = _; words_are = refl; row = synthesis_row i0 i1 i2 premises numbers q0 q1 q2 are }

  declared_row : {d : Declaration} {words : List Word} → WritesDeclaration lines d words → (premises : List Statement) (numbers : List ℕ) → AreStepsAt lines numbers premises → RowOf (DeclarationLine d) (words ++ premise_words numbers)
  declared_row (texts.writes_undefined i1 q0 q1) premises numbers are = record { keyword = DeclarationWord; rest = _; words_are = refl; row = declaration_row i1 premises numbers q0 q1 are }
  declared_row (texts.writes_same i1 q0 q1 q2) premises numbers are = record { keyword = SameDeclarationWord; rest = _; words_are = refl; row = same_declaration_row i1 premises numbers q0 q1 q2 are }
  declared_row (texts.writes_term_value i1 i2 q0 q1 q2) premises numbers are = record { keyword = TermDeclarationWord; rest = _; words_are = refl; row = term_declaration_row i1 i2 premises numbers q0 q1 q2 are }
  declared_row (texts.writes_family_value i1 i3 q0 q1 q2 q3) premises numbers are = record { keyword = FamilyDeclarationWord; rest = _; words_are = refl; row = family_declaration_row i1 i3 premises numbers q0 q1 q2 q3 are }

  pub row_of : {line : Line} {words : List Word} → IsWritten lines line words → RowOf line words
  row_of (term_is_written new w) = term_row w
  row_of (step_is_written premises numbers w are follows) = step_row w premises numbers are
  row_of (declaration_is_written premises numbers w new are declares) = declared_row w premises numbers are

  same_rows : {j k : Keyword} {line other : Line} {rest more : List Word} → Row lines j line rest → Row lines k other more → keyword_text j ≡ keyword_text k → rest ≡ more → line ≡ other
  same_rows {j} {k} {line} {other} {rest} {more} r s e f = one_row (subst (λ l. Row lines l line rest) (one_keyword j k e) r) s f

  -- a row of words writes one line
  pub one_written : {line other : Line} {words : List Word} → IsWritten lines line words → IsWritten lines other words → line ≡ other
  one_written w u =
      let r = row_of w in
      let s = row_of u in
      let e : keyword_text r.keyword ∷ r.rest ≡ keyword_text s.keyword ∷ s.rest = sym r.words_are ∙ s.words_are in
      same_rows r.row s.row (firsts e) (rests e)
    where
      firsts : {v u : Word} {vs us : List Word} → v ∷ vs ≡ u ∷ us → v ≡ u
      firsts e = cc

      rests : {v u : Word} {vs us : List Word} → v ∷ vs ≡ u ∷ us → vs ≡ us
      rests e = cc
