-- What the reader of a text answers, where all comments end and where one does not.
use Rattle.std.proofs.Common.{◌≡◌, ℕ, Bool, true, false, List, [], ◌∷◌, ◌++◌, refl, sym, ap, ◌∙◌, IsUtf8, true≢false}
use Rattle.std.proofs.lemmas.Str.{is_utf8-from_IsUtf8}
use Rattle.text_meaning.specs.Tokens.{Span, Sign, Token, sign, Stray, EqualSign, ColonSign, ArrowSign, DotSign, AssignSign, LeftBrace, EndSign}
use Rattle.text_meaning.specs.Cut.{Ending, Finished, Unclosed}
use Rattle.text_meaning.specs.Cutting.{Between, Cutting, cut_on, lexed_of}
use Rattle.text_meaning.specs.Reading.{Target, Tree, Answer, Read, Syntax, is_too_deep}
use Rattle.text_meaning.specs.Parsing.{State, Refused, Whole, Expect, ExpectName, ExpectPath, MoreWords, AtModule, AtDecl, AfterDomain, AtAssign, AtOperand, AtVariable, AfterVariable, NoAtoms, SomeAtoms, Waiting, Ends, InParens, InDomain, InBody, InCodomain, ClassOf, ValueOf, ValueFor, ObjectOf, FamilyOf, Curly, Square, step, level, fault, resume, answer_on, is_refused, is_left_out, start, parse}
use Rattle.text_meaning.specs.TextAnswers.{read, answer_to}
use Rattle.token_laws.proofs.OneCut.{lex_utf8}
use Rattle.reading_laws.proofs.Completes.{Alive, expect_ok, step_lives, start_alive}
use Rattle.reading_laws.proofs.Stopping.{lives_on}
use Rattle.reading_laws.proofs.OneAnswer.{answer_refused, answer_deep, answer_goes}
use Rattle.twelf_expressions.specs.Left.{last_token, left_from, with_last}
use Rattle.twelf_expressions.specs.Going.{Fails}
use Rattle.twelf_expressions.specs.declared.fault.ReadFault.{ReadFault}
use Rattle.twelf_expressions.specs.declared.fault.ReadFault.TheVariants as faults
use Rattle.twelf_expressions.proofs.Moves.{failed}

-- ---- a comment without an end

-- no state that can be completed waits for a byte that begins no token
stray_expected : (m : Sign) (next : State) (z : Span) → expect_ok m next ≡ true → is_refused (step (Expect m next) (sign z Stray)) ≡ true
stray_expected EqualSign next z h = refl
stray_expected ColonSign next z h = refl
stray_expected ArrowSign next z h = refl
stray_expected DotSign next z h = refl
stray_expected AssignSign next z h = refl
stray_expected LeftBrace next z h = refl
stray_expected EndSign next z h = refl
stray_expected _ next z h = absurd (true≢false (sym h))

stray_resumes : (k : Waiting) (s : Span) (e : _) (z : Span) → is_refused (resume k s e (sign z Stray)) ≡ true
unfolding resume
stray_resumes (Ends (ClassOf x ds c)) s e z = refl
stray_resumes (Ends (ValueOf x ds c a)) s e z = refl
stray_resumes (Ends (ValueFor o xs t)) s e z = refl
stray_resumes (Ends ObjectOf) s e z = refl
stray_resumes (Ends (FamilyOf o)) s e z = refl
stray_resumes (InParens l n row xs k) s e z = refl
stray_resumes (InDomain Curly l x n row xs k) s e z = refl
stray_resumes (InDomain Square l x n row xs k) s e z = refl
stray_resumes (InBody l b row xs k) s e z = stray_resumes k _ _ z
stray_resumes (InCodomain a d k) s e z = stray_resumes k _ _ z

stray_refused : (u : State) (z : Span) → Alive u → is_refused (step u (sign z Stray)) ≡ true
unfolding Alive
stray_refused Refused z a = refl
stray_refused (Whole t) z a = refl
stray_refused (Expect m next) z a = stray_expected m next z a.0
stray_refused (ExpectName f) z a = refl
stray_refused (ExpectPath f) z a = refl
stray_refused (MoreWords ws done) z a = refl
stray_refused AtModule z a = refl
stray_refused (AtDecl x ds) z a = refl
stray_refused (AfterDomain x ds y w) z a = refl
stray_refused (AtAssign o xs) z a = refl
stray_refused (AtOperand n row NoAtoms k) z a = refl
stray_refused (AtOperand n row (SomeAtoms s h xs) k) z a = stray_resumes k _ _ z
stray_refused (AtVariable b l n row xs k) z a = refl
stray_refused (AfterVariable Curly l x n row xs k) z a = refl
stray_refused (AfterVariable Square l x n row xs k) z a = refl

abbrev is_read : Answer → Bool
is_read (Read tree) = true
is_read _ = false

fault_unread : (u : State) (t : Token) → is_read (fault u t) ≡ false
fault_unread u t = go (is_left_out u t.kind) refl
  where
    go : (b : Bool) → is_left_out u t.kind ≡ b → is_read (fault u t) ≡ false
    go true e = rw e refl
    go false e = rw e refl

-- what has such a comment is not read
unread : (u : State) (ts : List Token) (z : Span) → Alive u → is_read (answer_on u (ts ++ (sign z Stray ∷ []))) ≡ false
unread u [] z a = ap is_read (answer_refused u (sign z Stray) [] (stray_refused u z a)) ∙ fault_unread u (sign z Stray)
unread u (t ∷ ts) z a = go (is_refused (step u t)) (is_too_deep (level u t.kind)) refl refl (λ e. unread (step u t) ts z (lives_on (step u t) (step_lives u t a) e))
  where
    go : (b d : Bool) → is_refused (step u t) ≡ b → is_too_deep (level u t.kind) ≡ d → (is_refused (step u t) ≡ false → is_read (answer_on (step u t) (ts ++ (sign z Stray ∷ []))) ≡ false)
        → is_read (answer_on u (t ∷ (ts ++ (sign z Stray ∷ [])))) ≡ false
    go true d e f on = ap is_read (answer_refused u t (ts ++ (sign z Stray ∷ [])) e) ∙ fault_unread u t
    go false true e f on = ap is_read (answer_deep u t (ts ++ (sign z Stray ∷ [])) e f)
    go false false e f on = ap is_read (answer_goes u t (ts ++ (sign z Stray ∷ [])) e f) ∙ on e

-- ---- the answer of a text

lexed_finished : (c : Cutting) (end : ℕ) → c.ending ≡ Finished end → (target : Target) → answer_to target (lexed_of c) ≡ answer_on (start target) (with_last c)
unfolding parse
lexed_finished c end e target = rw e refl

lexed_open : (c : Cutting) (at : ℕ) → c.ending ≡ Unclosed at → (target : Target) → answer_to target (lexed_of c) ≡ Syntax at
lexed_open c at e target = rw e refl

read_is : (target : Target) (text : List ℕ) → IsUtf8 text → read target text ≡ answer_to target (lexed_of (cut_on Between 0 text))
unfolding read
read_is target text u = ap (answer_to target) (lex_utf8 text (is_utf8-from_IsUtf8 text u))

pub read_finished : (target : Target) (text : List ℕ) (end : ℕ) → IsUtf8 text → (cut_on Between 0 text).ending ≡ Finished end → read target text ≡ answer_on (start target) (left_from text 0)
read_finished target text end u e = read_is target text u ∙ lexed_finished (cut_on Between 0 text) end e target

pub read_open : (target : Target) (text : List ℕ) (at : ℕ) → IsUtf8 text → (cut_on Between 0 text).ending ≡ Unclosed at → read target text ≡ Syntax at
read_open target text at u e = read_is target text u ∙ lexed_open (cut_on Between 0 text) at e target

-- a tree of what is left is that of the text
pub read_whole : (target : Target) (text : List ℕ) (tree : Tree) → IsUtf8 text → answer_on (start target) (left_from text 0) ≡ Read tree → read target text ≡ Read tree
read_whole target text tree u h = go (cut_on Between 0 text).ending refl
  where
    go : (e : Ending) → (cut_on Between 0 text).ending ≡ e → read target text ≡ Read tree
    go (Finished end) e = read_finished target text end u e ∙ h
    go (Unclosed at) e =
        let z : Span = record { from = at; to = at } in
        let c = cut_on Between 0 text in
        let same : answer_on (start target) (left_from text 0) ≡ answer_on (start target) (c.tokens ++ (sign z Stray ∷ [])) = ap (λ x. answer_on (start target) (c.tokens ++ (last_token x ∷ []))) e in
        absurd (true≢false (ap is_read (sym h ∙ same) ∙ unread (start target) c.tokens z (start_alive target)))

-- what a reader finds, and a comment without an end before it
pub settled_fails : (target : Target) (text : List ℕ) (f g : ReadFault) → IsUtf8 text
    → ((at : ℕ) → (cut_on Between 0 text).ending ≡ Unclosed at → g ≡ faults.Syntax at) → ((end : ℕ) → (cut_on Between 0 text).ending ≡ Finished end → g ≡ f)
    → Fails f (answer_on (start target) (left_from text 0)) → Fails g (read target text)
settled_fails target text f g u unclosed finished h = go (cut_on Between 0 text).ending refl
  where
    go : (e : Ending) → (cut_on Between 0 text).ending ≡ e → Fails g (read target text)
    go (Finished end) e = rw (finished end e) (failed f (read_finished target text end u e) h)
    go (Unclosed at) e = rw (unclosed at e) (read_open target text at u e)
