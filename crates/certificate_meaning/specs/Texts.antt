-- How a text writes a certificate (this profile): lines of words, in which a term or a step of a line above stands as that line's
-- number.
use Rattle.std.specs.Prelude.{◌≡◌, ◌<◌, ◌+◌, ◌⊎◌, ℕ, Bool, true, List, [], ◌∷◌, ◌++◌, length, map, codes, Option, Some, None, ⊤}
use Rattle.std.specs.Fmt.{decimal}
use Rattle.std.specs.List.{list_all}
use Rattle.std.specs.Str.{is_utf8}
use Rattle.name_meaning.specs.Identifiers.{is_identifier}
use Rattle.text_meaning.specs.Tokens.{spelled}
use Rattle.lf_meaning.specs.Terms.{Constant, Object, Lam, At, Atomic, Var, Con, App, Family, Pi, AtFamily, AtomicFamily, FamilyCon, FamilyApp, Kind, Ty, PiKind, Simple, Base, Arrow, Context}
use Rattle.lf_meaning.specs.Signatures.{Class, FamilyClass, KindClass, SameAs, TermValue, FamilyValue, Declaration, Signature, declaration_of}
use Rattle.certificate_meaning.specs.Statements.{Term, KindTerm, FamilyTerm, ObjectTerm, AtomicTerm, SimpleTerm, ContextTerm, Statement, Raises, Erases, Substitutes, SubstitutesAtHead, Applies, KindIn, FamilyIn, SynthesisesKindIn, ChecksIn, SynthesisesIn}
use Rattle.certificate_meaning.specs.Steps.{Follows, Declares}
use Rattle.certificate_meaning.specs.Certificates.{Line, TermLine, StepLine, DeclarationLine, Holds, signature_of}

-- A word, as its bytes.
abbrev pub Word : Type 0
Word = List ℕ

-- The words of a line, parted by one space, which is byte 32.
abbrev pub words_text : List Word → List ℕ
words_text [] = []
words_text (word ∷ []) = word
words_text (word ∷ second ∷ words) = word ++ 32 ∷ words_text (second ∷ words)

-- A line ends with a line feed, which is byte 10.
abbrev pub line_text : List Word → List ℕ
line_text words = words_text words ++ 10 ∷ []

-- The number of the line below these. The first line of a text holds nothing and has number 1, so the oldest of these has number 2.
abbrev pub next_number : List Line → ℕ
next_number above = 2 + length above

-- The line of that number is this one.
abbrev pub IsAt : List Line → ℕ → Line → Type 0
IsAt [] number line = ⊥
IsAt (first ∷ above) number line = ((number ≡ next_number above) × (first ≡ line)) ⊎ IsAt above number line

-- The line of that number holds the term.
abbrev pub IsTermAt : List Line → ℕ → Term → Type 0
IsTermAt above number t = IsAt above number (TermLine t)

-- A number that is no number of a line has to be below 2^32.
abbrev pub IsShort : ℕ → Type 0
IsShort number = number < 4294967296

-- A text can write the constant: its theory and each name of its path are identifiers in UTF-8, and its path has at least one name.
pub record IsWritable (constant : Constant) : Type 0 where
  pub identifiers : list_all is_identifier (constant.theory ∷ constant.path) ≡ true
  pub in_utf8 : list_all is_utf8 (constant.theory ∷ constant.path) ≡ true
  pub has_path : constant.path ≡ [] → ⊥

-- Theory and path, parted by dots.
abbrev pub constant_word : Constant → Word
constant_word constant = spelled (constant.theory ∷ constant.path)

-- The words of a term, with its parts as numbers of lines above.
pub data WritesTerm (above : List Line) : Term → List Word → Type 0 where
  writes_type : WritesTerm above (KindTerm Ty) (codes "type" ∷ [])
  writes_kind_pi : {a : Family} {k : Kind} (i j : ℕ) → IsTermAt above i (FamilyTerm a) → IsTermAt above j (KindTerm k) → WritesTerm above (KindTerm (PiKind a k)) (codes "kpi" ∷ decimal i ∷ decimal j ∷ [])
  writes_pi : {a b : Family} (i j : ℕ) → IsTermAt above i (FamilyTerm a) → IsTermAt above j (FamilyTerm b) → WritesTerm above (FamilyTerm (Pi a b)) (codes "fpi" ∷ decimal i ∷ decimal j ∷ [])
  writes_family_constant : {c : Constant} → IsWritable c → WritesTerm above (FamilyTerm (AtFamily (FamilyCon c))) (codes "fcon" ∷ constant_word c ∷ [])
  writes_family_application : {p : AtomicFamily} {m : Object} (i j : ℕ) → IsTermAt above i (FamilyTerm (AtFamily p)) → IsTermAt above j (ObjectTerm m) → WritesTerm above (FamilyTerm (AtFamily (FamilyApp p m))) (codes "fapp" ∷ decimal i ∷ decimal j ∷ [])
  writes_lambda : {m : Object} (i : ℕ) → IsTermAt above i (ObjectTerm m) → WritesTerm above (ObjectTerm (Lam m)) (codes "lam" ∷ decimal i ∷ [])
  writes_atomic : {r : Atomic} (i : ℕ) → IsTermAt above i (AtomicTerm r) → WritesTerm above (ObjectTerm (At r)) (codes "at" ∷ decimal i ∷ [])
  writes_variable : {i : ℕ} → IsShort i → WritesTerm above (AtomicTerm (Var i)) (codes "var" ∷ decimal i ∷ [])
  writes_constant : {c : Constant} → IsWritable c → WritesTerm above (AtomicTerm (Con c)) (codes "con" ∷ constant_word c ∷ [])
  writes_application : {r : Atomic} {m : Object} (i j : ℕ) → IsTermAt above i (AtomicTerm r) → IsTermAt above j (ObjectTerm m) → WritesTerm above (AtomicTerm (App r m)) (codes "app" ∷ decimal i ∷ decimal j ∷ [])
  writes_base : {c : Constant} → IsWritable c → WritesTerm above (SimpleTerm (Base c)) (codes "base" ∷ constant_word c ∷ [])
  writes_arrow : {s t : Simple} (i j : ℕ) → IsTermAt above i (SimpleTerm s) → IsTermAt above j (SimpleTerm t) → WritesTerm above (SimpleTerm (Arrow s t)) (codes "arr" ∷ decimal i ∷ decimal j ∷ [])
  writes_no_context : WritesTerm above (ContextTerm []) (codes "nil" ∷ [])
  writes_context : {g : Context} {a : Family} (i j : ℕ) → IsTermAt above i (ContextTerm g) → IsTermAt above j (FamilyTerm a) → WritesTerm above (ContextTerm (a ∷ g)) (codes "ctx" ∷ decimal i ∷ decimal j ∷ [])

-- The word for a simple type that may be none: the number of its line, or `-`.
pub data WritesRest (above : List Line) : Option Simple → Word → Type 0 where
  writes_rest : {s : Simple} (i : ℕ) → IsTermAt above i (SimpleTerm s) → WritesRest above (Some s) (decimal i)
  writes_no_rest : WritesRest above None (codes "-")

-- The words of what a step states, before its premises.
pub data WritesStatement (above : List Line) : Statement → List Word → Type 0 where
  writes_raises : {by from : ℕ} {before after : Term} (i j : ℕ) → IsShort by → IsShort from → IsTermAt above i before → IsTermAt above j after → WritesStatement above (Raises by from before after) (codes "raise" ∷ decimal by ∷ decimal from ∷ decimal i ∷ decimal j ∷ [])
  writes_erases : {a : Family} {s : Simple} (i j : ℕ) → IsTermAt above i (FamilyTerm a) → IsTermAt above j (SimpleTerm s) → WritesStatement above (Erases a s) (codes "erase" ∷ decimal i ∷ decimal j ∷ [])
  writes_substitutes : {v : Object} {s : Simple} {n : ℕ} {before after : Term} (h i j k : ℕ) → IsTermAt above h (ObjectTerm v) → IsTermAt above i (SimpleTerm s) → IsShort n → IsTermAt above j before → IsTermAt above k after → WritesStatement above (Substitutes v s n before after) (codes "sub" ∷ decimal h ∷ decimal i ∷ decimal n ∷ decimal j ∷ decimal k ∷ [])
  writes_head : {v : Object} {s : Simple} {n : ℕ} {before : Atomic} {after : Object} {rest : Option Simple} (h i j k : ℕ) (word : Word) → IsTermAt above h (ObjectTerm v) → IsTermAt above i (SimpleTerm s) → IsShort n → IsTermAt above j (AtomicTerm before) → IsTermAt above k (ObjectTerm after) → WritesRest above rest word → WritesStatement above (SubstitutesAtHead v s n before after rest) (codes "rsub" ∷ decimal h ∷ decimal i ∷ decimal n ∷ decimal j ∷ decimal k ∷ word ∷ [])
  writes_applies : {s rest : Simple} {v m w : Object} (h i j k l : ℕ) → IsTermAt above h (SimpleTerm s) → IsTermAt above i (ObjectTerm v) → IsTermAt above j (ObjectTerm m) → IsTermAt above k (ObjectTerm w) → IsTermAt above l (SimpleTerm rest) → WritesStatement above (Applies s v m w rest) (codes "happ" ∷ decimal h ∷ decimal i ∷ decimal j ∷ decimal k ∷ decimal l ∷ [])
  writes_kind : {g : Context} {k : Kind} (i j : ℕ) → IsTermAt above i (ContextTerm g) → IsTermAt above j (KindTerm k) → WritesStatement above (KindIn g k) (codes "kind" ∷ decimal i ∷ decimal j ∷ [])
  writes_family : {g : Context} {a : Family} (i j : ℕ) → IsTermAt above i (ContextTerm g) → IsTermAt above j (FamilyTerm a) → WritesStatement above (FamilyIn g a) (codes "fam" ∷ decimal i ∷ decimal j ∷ [])
  writes_kind_synthesis : {g : Context} {p : AtomicFamily} {k : Kind} (h i j : ℕ) → IsTermAt above h (ContextTerm g) → IsTermAt above i (FamilyTerm (AtFamily p)) → IsTermAt above j (KindTerm k) → WritesStatement above (SynthesisesKindIn g p k) (codes "fsyn" ∷ decimal h ∷ decimal i ∷ decimal j ∷ [])
  writes_check : {g : Context} {m : Object} {a : Family} (h i j : ℕ) → IsTermAt above h (ContextTerm g) → IsTermAt above i (ObjectTerm m) → IsTermAt above j (FamilyTerm a) → WritesStatement above (ChecksIn g m a) (codes "chk" ∷ decimal h ∷ decimal i ∷ decimal j ∷ [])
  writes_synthesis : {g : Context} {r : Atomic} {a : Family} (h i j : ℕ) → IsTermAt above h (ContextTerm g) → IsTermAt above i (AtomicTerm r) → IsTermAt above j (FamilyTerm a) → WritesStatement above (SynthesisesIn g r a) (codes "syn" ∷ decimal h ∷ decimal i ∷ decimal j ∷ [])

-- The number stands for the class.
abbrev pub IsClassAt : List Line → ℕ → Class → Type 0
IsClassAt above i (FamilyClass a) = IsTermAt above i (FamilyTerm a)
IsClassAt above i (KindClass k) = IsTermAt above i (KindTerm k)

-- The words of a declaration, before its premises.
pub data WritesDeclaration (above : List Line) : Declaration → List Word → Type 0 where
  writes_undefined : {c : Constant} {class : Class} (i : ℕ) → IsWritable c → IsClassAt above i class → WritesDeclaration above (record { name = c; class = class; value = None }) (codes "decl" ∷ constant_word c ∷ decimal i ∷ [])
  writes_same : {c d : Constant} {class : Class} (i : ℕ) → IsWritable c → IsClassAt above i class → IsWritable d → WritesDeclaration above (record { name = c; class = class; value = Some (SameAs d) }) (codes "same" ∷ constant_word c ∷ decimal i ∷ constant_word d ∷ [])
  writes_term_value : {c : Constant} {class : Class} {m : Object} (i j : ℕ) → IsWritable c → IsClassAt above i class → IsTermAt above j (ObjectTerm m) → WritesDeclaration above (record { name = c; class = class; value = Some (TermValue m) }) (codes "term" ∷ constant_word c ∷ decimal i ∷ decimal j ∷ [])
  writes_family_value : {c : Constant} {class : Class} {n : ℕ} {a : Family} (i j : ℕ) → IsWritable c → IsClassAt above i class → IsShort n → IsTermAt above j (FamilyTerm a) → WritesDeclaration above (record { name = c; class = class; value = Some (FamilyValue n a) }) (codes "famv" ∷ constant_word c ∷ decimal i ∷ decimal n ∷ decimal j ∷ [])

-- The numbers are those of steps with these statements, in order.
abbrev pub AreStepsAt : List Line → List ℕ → List Statement → Type 0
AreStepsAt above [] [] = ⊤
AreStepsAt above (i ∷ is) (s ∷ ss) = IsAt above i (StepLine s) × AreStepsAt above is ss
AreStepsAt above is ss = ⊥

-- Premises stand behind a colon; where there are none, it is left out.
abbrev pub premise_words : List ℕ → List Word
premise_words [] = []
premise_words (i ∷ is) = codes ":" ∷ map decimal (i ∷ is)

-- The words write the line, and it stands below those above. A term is new, a step follows from its premises by one row, and a
-- declaration has a new name, and its premises show its class and its value.
pub data IsWritten (above : List Line) : Line → List Word → Type 0 where
  term_is_written : {t : Term} {words : List Word} → (Holds above (TermLine t) → ⊥) → WritesTerm above t words → IsWritten above (TermLine t) words
  step_is_written : {s : Statement} {words : List Word} (premises : List Statement) (numbers : List ℕ) → WritesStatement above s words → AreStepsAt above numbers premises → Follows (signature_of above) s premises → IsWritten above (StepLine s) (words ++ premise_words numbers)
  declaration_is_written : {d : Declaration} {words : List Word} (premises : List Statement) (numbers : List ℕ) → WritesDeclaration above d words → declaration_of (signature_of above) d.name ≡ None → AreStepsAt above numbers premises → Declares (signature_of above) d.value d.class premises → IsWritten above (DeclarationLine d) (words ++ premise_words numbers)

-- The line with which each certificate begins.
abbrev pub first_line : List ℕ
first_line = line_text (codes "mmt-cert" ∷ [])

-- The text writes these lines behind its first one, and each stands below those above it. The list has the newest first.
pub data Writes : List ℕ → List Line → Type 0 where
  writes_nothing : Writes first_line []
  writes_more : {text : List ℕ} {above : List Line} {line : Line} {words : List Word} → Writes text above → IsWritten above line words → Writes (text ++ line_text words) (line ∷ above)

-- The text is a certificate of the signature.
pub record IsTextOf (sig : Signature) (text : List ℕ) : Type 0 where
  pub lines : List Line
  pub writes : Writes text lines
  pub signature : signature_of lines ≡ sig

-- What is left of a text goes on with a line that stands below those above.
pub record GoesOn (above : List Line) (rest : List ℕ) : Type 0 where
  pub line : Line
  pub words : List Word
  pub behind : List ℕ
  pub is_written : IsWritten above line words
  pub rest_is : rest ≡ line_text words ++ behind

-- The text begins with the line with which each certificate begins.
pub record Begins (text : List ℕ) : Type 0 where
  pub behind : List ℕ
  pub text_is : text ≡ first_line ++ behind

-- The first line of the text that is none of a certificate, where lines count from 1: line 1 where the text begins with another
-- one; else the line below those that stand, where there is something behind them that does not go on with a line that stands. So a
-- text that does not end with a line feed has its last line for this one, where no earlier line is, and an empty text line 1.
pub data IsBadAt (text : List ℕ) : ℕ → Type 0 where
  bad_first : (Begins text → ⊥) → IsBadAt text 1
  bad_below : (front rest : List ℕ) (above : List Line) → text ≡ front ++ rest → Writes front above → (rest ≡ [] → ⊥) → (GoesOn above rest → ⊥) → IsBadAt text (next_number above)
