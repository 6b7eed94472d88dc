-- From what a reader of a file finds to how the file divides.
use Rattle.std.specs.Prelude.{IfOk, IfErr, IsErrAnd, Result, Ok, Err}
use Rattle.std.proofs.Common.{◌≡◌, ℕ, Bool, true, false, List, [], ◌∷◌, ◌++◌, refl, sym, ap, subst, ◌∙◌, IsUtf8, true≢false}
use Rattle.std.proofs.lemmas.Str.{is_utf8-from_IsUtf8}
use Rattle.text_meaning.specs.Tokens.{Span, Kind, Mark, Ident, Token, sign, SigWord, ViewWord, EndSign, DotSign, Stray}
use Rattle.text_meaning.specs.Trees.{Written}
use Rattle.text_meaning.specs.Grammar.{simple, join}
use Rattle.text_meaning.specs.Cut.{Ending, Finished, Unclosed, NotUtf8}
use Rattle.text_meaning.specs.Cutting.{Between, Cutting, cut_on, lex, lexed_of}
use Rattle.text_meaning.specs.Splitting as splitting
use Rattle.text_meaning.specs.Splitting.{Division, Pieces, SyntaxFault, UnsupportedFault, FileDivides, before_division}
use Rattle.text_meaning.specs.Dividing.{Stand, AtTop, AtName, BeforeBody, InBody, AtDot, at_top, at_name, at_dot, before_next, body_next, divide, divide_on}
use Rattle.token_laws.proofs.CutExists.{cut_exists}
use Rattle.token_laws.proofs.CutFollows.{cut_follows}
use Rattle.token_laws.proofs.OneCut.{lex_utf8}
use Rattle.file_laws.proofs.OneDivision.{NoEnd, cut_no_end, is_end, one_division}
use Rattle.twelf_expressions.specs.Left.{last_token, left_from, with_last}
use Rattle.twelf_expressions.specs.declared.fault.ReadFault.{ReadFault}
use Rattle.twelf_expressions.specs.declared.fault.ReadFault.TheVariants as faults
use Rattle.twelf_reader.specs.Answers.{IsNoText}
use Rattle.twelf_reader.specs.Division.{DividesSo, FailsSo, IsFileFault}
use Rattle.twelf_reader.proofs.Dividing.{fails_as, stopped}

-- ---- a comment without an end

abbrev is_whole : Division → Bool
is_whole (Pieces ps) = true
is_whole _ = false

whole_behind : (p : splitting.Piece) (d : Division) → is_whole d ≡ false → is_whole (before_division p d) ≡ false
whole_behind p (Pieces ps) h = absurd (true≢false h)
whole_behind p (SyntaxFault at) h = refl
whole_behind p (UnsupportedFault at) h = refl

top_unfinished : (s : Span) (k : Kind) (d : Division) → is_end k ≡ false → is_whole d ≡ false → is_whole (at_top s k d) ≡ false
top_unfinished s (Mark SigWord) d e h = h
top_unfinished s (Mark ViewWord) d e h = h
top_unfinished s (Mark EndSign) d e h = absurd (true≢false e)
top_unfinished s _ d e h = refl

name_unfinished : (s : Span) (k : Kind) (f : Written → Division) → ((x : Written) → is_whole (f x) ≡ false) → is_whole (at_name s k f) ≡ false
name_unfinished s (Ident (n ∷ [])) f h = h (simple s n)
name_unfinished s _ f h = refl

dot_unfinished : (w : Span) (x : Written) (s : Span) (k : Kind) (d : Division) → is_whole d ≡ false → is_whole (at_dot w x s k d) ≡ false
dot_unfinished w x s (Mark DotSign) d h = whole_behind (record { name = x; span = join w s }) d h
dot_unfinished w x s _ d h = refl

-- what has such a comment does not divide into modules
unfinished : (at : Stand) (ts : List Token) (z : Span) → NoEnd ts → is_whole (divide_on at (ts ++ (sign z Stray ∷ []))) ≡ false
unfolding NoEnd divide_on
unfinished AtTop [] z h = refl
unfinished (AtName w) [] z h = refl
unfinished (BeforeBody w x last) [] z h = refl
unfinished (InBody w x n last) [] z h = refl
unfinished (AtDot w x) [] z h = refl
unfinished AtTop (t ∷ ts) z h = top_unfinished t.span t.kind (divide_on (AtName t.span) (ts ++ (sign z Stray ∷ []))) h.0 (unfinished (AtName t.span) ts z h.1)
unfinished (AtName w) (t ∷ ts) z h = name_unfinished t.span t.kind (λ x. divide_on (BeforeBody w x t.span.from) (ts ++ (sign z Stray ∷ []))) (λ x. unfinished (BeforeBody w x t.span.from) ts z h.1)
unfinished (BeforeBody w x last) (t ∷ ts) z h = unfinished (before_next w x t) ts z h.1
unfinished (InBody w x n last) (t ∷ ts) z h = unfinished (body_next w x n t) ts z h.1
unfinished (AtDot w x) (t ∷ ts) z h = dot_unfinished w x t.span t.kind (divide_on AtTop (ts ++ (sign z Stray ∷ []))) (unfinished AtTop ts z h.1)

no_end : (text : List ℕ) → NoEnd (cut_on Between 0 text).tokens
no_end text = let c = cut_exists 0 text in subst (λ (x : Cutting). NoEnd x.tokens) (sym (cut_follows c.2)) (cut_no_end c.2)

-- ---- the division of a text

divide_is : (text : List ℕ) → IsUtf8 text → divide (lex text) ≡ divide (lexed_of (cut_on Between 0 text))
divide_is text u = ap divide (lex_utf8 text (is_utf8-from_IsUtf8 text u))

lexed_finished : (c : Cutting) (end : ℕ) → c.ending ≡ Finished end → divide (lexed_of c) ≡ divide_on AtTop (with_last c)
unfolding divide
lexed_finished c end e = rw e refl

lexed_open : (c : Cutting) (at : ℕ) → c.ending ≡ Unclosed at → divide (lexed_of c) ≡ SyntaxFault at
unfolding divide
lexed_open c at e = rw e refl

divides_finished : (text : List ℕ) (end : ℕ) → IsUtf8 text → (cut_on Between 0 text).ending ≡ Finished end → divide (lex text) ≡ divide_on AtTop (left_from text 0)
divides_finished text end u e = divide_is text u ∙ lexed_finished (cut_on Between 0 text) end e

-- modules of what is left are those of the text
pub divides_whole : (text : List ℕ) (ps : List splitting.Piece) → IsUtf8 text → divide_on AtTop (left_from text 0) ≡ Pieces ps → divide (lex text) ≡ Pieces ps
divides_whole text ps u h = go (cut_on Between 0 text).ending refl
  where
    go : (e : Ending) → (cut_on Between 0 text).ending ≡ e → divide (lex text) ≡ Pieces ps
    go (Finished end) e = divides_finished text end u e ∙ h
    go (Unclosed at) e =
        let z : Span = record { from = at; to = at } in
        let c = cut_on Between 0 text in
        let same : divide_on AtTop (left_from text 0) ≡ divide_on AtTop (c.tokens ++ (sign z Stray ∷ [])) = ap (λ x. divide_on AtTop (c.tokens ++ (last_token x ∷ []))) e in
        absurd (true≢false (ap is_whole (sym h ∙ same) ∙ unfinished AtTop c.tokens z (no_end text)))

-- what a reader finds, and a comment without an end before it
pub settled_fails : (text : List ℕ) (f g : ReadFault) → IsUtf8 text
    → ((at : ℕ) → (cut_on Between 0 text).ending ≡ Unclosed at → g ≡ faults.Syntax at) → ((end : ℕ) → (cut_on Between 0 text).ending ≡ Finished end → g ≡ f)
    → FailsSo f (divide_on AtTop (left_from text 0)) → FailsSo g (divide (lex text))
settled_fails text f g u unclosed finished h = go (cut_on Between 0 text).ending refl
  where
    go : (e : Ending) → (cut_on Between 0 text).ending ≡ e → FailsSo g (divide (lex text))
    go (Finished end) e = rw (finished end e) (fails_as f (divides_finished text end u e) h)
    go (Unclosed at) e = rw (unclosed at e) (divide_is text u ∙ lexed_open (cut_on Between 0 text) at e)

-- a text that is not UTF-8
no_text_fails : (text : List ℕ) (f : ReadFault) → IsNoText text f → FailsSo f (divide (lex text))
no_text_fails text (faults.Syntax at) h = sym ((one_division text).only (SyntaxFault at) (NotUtf8 at, h, refl))
no_text_fails text _ h = absurd h

pub no_text_divides : {X : Type 0} (text : List ℕ) (r : Result X ReadFault) (f : ReadFault) (next : X → Division) → IsErrAnd r (λ e. e ≡ f) → IsNoText text f → DividesSo (divide (lex text)) r next
no_text_divides text r f next e h = stopped r f next e refl (no_text_fails text f h)

-- ---- the clauses of the public call

fails_file : (text : List ℕ) (f : ReadFault) → FailsSo f (divide (lex text)) → IsFileFault text f
fails_file text (faults.Syntax at) h = subst (FileDivides text) h (one_division text).divides
fails_file text (faults.Unsupported at) h = subst (FileDivides text) h (one_division text).divides
fails_file text (faults.TooDeep at) h = absurd h
fails_file text faults.Memory h = tt

pub ok_file : {X : Type 0} (text : List ℕ) (r : Result X ReadFault) (f : X → Division) → DividesSo (divide (lex text)) r f → IfOk r (λ x. FileDivides text (f x))
ok_file text (Ok x) f h = subst (FileDivides text) h (one_division text).divides
ok_file text (Err e) f h = tt

pub fault_file : {X : Type 0} (text : List ℕ) (r : Result X ReadFault) (f : X → Division) → DividesSo (divide (lex text)) r f → IfErr r (λ e. IsFileFault text e)
fault_file text (Ok x) f h = tt
fault_file text (Err e) f h = fails_file text e h

pub only_file : {X : Type 0} (text : List ℕ) (r : Result X ReadFault) (f : X → Division) → DividesSo (divide (lex text)) r f → (d : Division) → FileDivides text d → DividesSo d r f
only_file text r f h d g = subst (λ x. DividesSo x r f) (sym ((one_division text).only d g)) h
