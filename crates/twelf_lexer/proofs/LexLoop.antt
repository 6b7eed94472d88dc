-- The loop of the lexer.
use Rattle.std.proofs.Common.{◌≡◌, ℕ, ◌≤◌, List, [], ◌∷◌, ◌++◌, length, drop, refl, sym, ap, subst, ◌∙◌, arith, append_assoc, append-nil, IsUtf8, IsCharBoundary}
use Rattle.std.proofs.lemmas.List.{map_push}
use Rattle.std.proofs.lemmas.Str.{IsCharBoundary-start, is_utf8-from_IsUtf8}
use Rattle.text_meaning.specs.Cut.{Finished, Unclosed, Tokens, OpenComment, IsLexed}
use Rattle.text_meaning.specs.Cutting.{Between, Cutting, ahead, cut_on, lexed_of}
use Rattle.token_laws.proofs.OneCut.{one_cut, lex_utf8}
use Rattle.twelf_lexer.specs.declared.token.Token.{Token}
use Rattle.twelf_lexer.specs.Advances.{Advances}
use Rattle.twelf_lexer.specs.Steps.{token_of, tokens_of}

-- what was read, and what is still to be read, are the cut of the whole
pub record LexedSoFar (text : List ℕ) (at : ℕ) (ts : List Token) : Type 0 where
  pub within : at ≤ length text
  pub boundary : IsCharBoundary text at
  pub so_far : ahead (tokens_of text ts) (cut_on Between at (drop at text)) ≡ cut_on Between 0 text

pub nothing_yet : (text : List ℕ) → IsUtf8 text → LexedSoFar text 0 []
nothing_yet text u = record { within = omega arith; boundary = IsCharBoundary-start text u; so_far = refl }

pub over_token : (text : List ℕ) (at to : ℕ) (ts : List Token) (t : Token) → LexedSoFar text at ts → Advances text at to (token_of text t ∷ []) → LexedSoFar text to (ts ++ (t ∷ []))
over_token text at to ts t l a =
    let c = cut_on Between to (drop to text) in
    let pushed : tokens_of text (ts ++ (t ∷ [])) ≡ tokens_of text ts ++ (token_of text t ∷ []) = map_push (token_of text) ts t in
    let first : ahead (tokens_of text (ts ++ (t ∷ []))) c ≡ ahead (tokens_of text ts) (ahead (token_of text t ∷ []) c)
    = ap (λ x. ahead x c) pushed ∙ ap (λ x. record { tokens = x; ending = c.ending }) (append_assoc (tokens_of text ts) (token_of text t ∷ []) c.tokens) in
    record { within = a.within; boundary = a.boundary; so_far = first ∙ sym (ap (ahead (tokens_of text ts)) a.cut) ∙ l.so_far }

-- the whole text, by the machine
whole : (text : List ℕ) (at : ℕ) (ts : List Token) (c : Cutting) → IsUtf8 text → LexedSoFar text at ts → cut_on Between at (drop at text) ≡ c → IsLexed text (lexed_of (ahead (tokens_of text ts) c))
whole text at ts c u l e =
    subst (IsLexed text) (lex_utf8 text (is_utf8-from_IsUtf8 text u) ∙ ap lexed_of (sym l.so_far ∙ ap (ahead (tokens_of text ts)) e)) (one_cut text).is_cut

pub finished : (text : List ℕ) (at end : ℕ) (ts : List Token) → IsUtf8 text → LexedSoFar text at ts → cut_on Between at (drop at text) ≡ record { tokens = []; ending = Finished end } → IsLexed text (Tokens (tokens_of text ts) end)
finished text at end ts u l e = subst (λ x. IsLexed text (Tokens x end)) (append-nil (tokens_of text ts)) (whole text at ts _ u l e)

pub unclosed : (text : List ℕ) (at from : ℕ) (ts : List Token) → IsUtf8 text → LexedSoFar text at ts → cut_on Between at (drop at text) ≡ record { tokens = []; ending = Unclosed from } → IsLexed text (OpenComment from)
unclosed text at from ts u l e = whole text at ts _ u l e
