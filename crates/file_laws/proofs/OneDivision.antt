-- Each file divides, in one way.
use Rattle.std.proofs.Common.{◌≡◌, ℕ, zero, suc, ◌≤◌, ◌<◌, Bool, true, false, cond, List, [], ◌∷◌, ◌++◌, length, codes, bytes_eq, refl, sym, ap, subst, ◌∙◌, arith, append_assoc, length-append, true≢false}
use Rattle.std.specs.List.{list_any}
use Rattle.name_meaning.specs.Identifiers.{is_reserved}
use Rattle.text_meaning.specs.Tokens.{Span, Sign, Kind, Mark, Ident, Token, sign, ident, SigWord, ViewWord, IncludeWord, StructWord, OtherWord, DotSign, EndSign, percent_sign, run_kind, row_kind}
use Rattle.text_meaning.specs.Cut.{Ending, brackets, Cut, at_end, at_mark, white_space, line_comment, nested_comment, unclosed_comment, percent_word, stray_percent, stray_quote, assign, lone_colon, bracket, lone_dot, row, Lexed, Tokens, NotUtf8, OpenComment, IsLexed}
use Rattle.text_meaning.specs.Cutting.{lex}
use Rattle.text_meaning.specs.Reading.{with_end}
use Rattle.text_meaning.specs.Splitting.{Division, IsEnclosed, IsModuleWord, sig_word, view_word, IsOtherPercent, include_word, struct_word, other_word, IsSimple, one_name, Divides, no_more, other_percent, no_module, no_name, never_closed, no_dot, piece, IsDivision}
use Rattle.text_meaning.specs.Dividing.{divide}
use Rattle.file_laws.specs.DivisionLaws.{EachFileHasOneDivision}
use Rattle.token_laws.proofs.CutFollows.{of_sign_in}
use Rattle.token_laws.proofs.OneCut.{one_cut}
use Rattle.file_laws.proofs.Divisions.{BodyEnd, ends_body, never_body, body_end, divides_so}

-- ---- no token of a text is the end of the input

abbrev pub is_end : Kind → Bool
is_end (Mark EndSign) = true
is_end _ = false

unfoldable pub NoEnd : List Token → Type 0
NoEnd [] = Unit {0}
NoEnd (t ∷ ts) = (is_end t.kind ≡ false) × NoEnd ts

either_end : (b : Bool) (x y : Kind) → is_end x ≡ false → is_end y ≡ false → is_end (cond b x y) ≡ false
either_end true x y h k = h
either_end false x y h k = k

either_sign : (b : Bool) (x y : Sign) → is_end (Mark x) ≡ false → is_end (Mark y) ≡ false → is_end (Mark (cond b x y)) ≡ false
either_sign true x y h k = h
either_sign false x y h k = k

percent_no_end : (w : List ℕ) → is_end (Mark (percent_sign w)) ≡ false
percent_no_end w =
    either_sign (bytes_eq w (codes "sig")) SigWord _ refl (either_sign (bytes_eq w (codes "view")) ViewWord _ refl
    (either_sign (bytes_eq w (codes "include")) IncludeWord _ refl (either_sign (bytes_eq w (codes "struct")) StructWord OtherWord refl refl)))

run_no_end : (w : List ℕ) → is_end (run_kind w) ≡ false
run_no_end w =
    either_end (bytes_eq w (codes "type")) _ _ refl (either_end (bytes_eq w (codes "->")) _ _ refl (either_end (bytes_eq w (codes "<-")) _ _ refl
    (either_end (bytes_eq w (codes "=")) _ _ refl (either_end (bytes_eq w (codes "_")) _ _ refl refl))))

row_no_end : (ws : List (List ℕ)) → is_end (row_kind ws) ≡ false
row_no_end [] = refl
row_no_end (w ∷ []) = run_no_end w
row_no_end (w ∷ v ∷ vs) = either_end (list_any is_reserved (w ∷ v ∷ vs)) _ _ refl refl

pub cut_no_end : {at : ℕ} {bytes : List ℕ} {ts : List Token} {e : Ending} → Cut at bytes ts e → NoEnd ts
unfolding NoEnd
cut_no_end at_end = tt
cut_no_end at_mark = tt
cut_no_end (white_space h d) = cut_no_end d
cut_no_end (line_comment comment rest h k l d) = cut_no_end d
cut_no_end (nested_comment comment rest h d) = cut_no_end d
cut_no_end (unclosed_comment h) = tt
cut_no_end (percent_word word rest h k d) = (percent_no_end word, cut_no_end d)
cut_no_end (stray_percent h d) = (refl, cut_no_end d)
cut_no_end (stray_quote d) = (refl, cut_no_end d)
cut_no_end (assign d) = (refl, cut_no_end d)
cut_no_end (lone_colon h d) = (refl, cut_no_end d)
cut_no_end (bracket {b = b} {m = m} h d) = (of_sign_in (λ b m. is_end (Mark m) ≡ false) brackets b m (refl, (refl, (refl, (refl, (refl, (refl, tt)))))) h, cut_no_end d)
cut_no_end (lone_dot d) = (refl, cut_no_end d)
cut_no_end (row words rest h k d) = (row_no_end words, cut_no_end d)

-- ---- every list of tokens divides

data AtTheTop (k : Kind) : Type 0 where
  begins_module : IsModuleWord k → AtTheTop k
  is_percent : IsOtherPercent k → AtTheTop k
  is_neither : ¬ (IsOtherPercent k) → ¬ (IsModuleWord k) → AtTheTop k

percent_test : Kind → Bool
percent_test (Mark IncludeWord) = true
percent_test (Mark StructWord) = true
percent_test (Mark OtherWord) = true
percent_test _ = false

module_test : Kind → Bool
module_test (Mark SigWord) = true
module_test (Mark ViewWord) = true
module_test _ = false

percent_passes : {k : Kind} → IsOtherPercent k → percent_test k ≡ true
unfolding percent_test
percent_passes include_word = refl
percent_passes struct_word = refl
percent_passes other_word = refl

module_passes : {k : Kind} → IsModuleWord k → module_test k ≡ true
unfolding module_test
module_passes sig_word = refl
module_passes view_word = refl

neither : {k : Kind} → percent_test k ≡ false → module_test k ≡ false → AtTheTop k
neither h g = is_neither (λ p. true≢false (sym (percent_passes p) ∙ h)) (λ m. true≢false (sym (module_passes m) ∙ g))

at_the_top : (k : Kind) → AtTheTop k
unfolding percent_test module_test
at_the_top (Mark SigWord) = begins_module sig_word
at_the_top (Mark ViewWord) = begins_module view_word
at_the_top (Mark IncludeWord) = is_percent include_word
at_the_top (Mark StructWord) = is_percent struct_word
at_the_top (Mark OtherWord) = is_percent other_word
at_the_top _ = neither refl refl

data Named (k : Kind) : Type 0 where
  is_named : (n : List ℕ) → k ≡ Ident (n ∷ []) → Named k
  not_named : ¬ (IsSimple k) → Named k

simple_test : Kind → Bool
simple_test (Ident (n ∷ [])) = true
simple_test _ = false

simple_passes : {k : Kind} → IsSimple k → simple_test k ≡ true
unfolding simple_test
simple_passes one_name = refl

end_not_simple : simple_test (Mark EndSign) ≡ false
unfolding simple_test
end_not_simple = refl

unnamed : {k : Kind} → simple_test k ≡ false → Named k
unnamed h = not_named (λ s. true≢false (sym (simple_passes s) ∙ h))

named : (k : Kind) → Named k
unfolding simple_test
named (Ident []) = unnamed refl
named (Ident (n ∷ [])) = is_named n refl
named (Ident (n ∷ m ∷ ms)) = unnamed refl
named (Mark m) = unnamed refl

data Dotted (k : Kind) : Type 0 where
  is_dotted : k ≡ Mark DotSign → Dotted k
  not_dotted : ¬ (k ≡ Mark DotSign) → Dotted k

dot_test : Kind → Bool
dot_test (Mark DotSign) = true
dot_test _ = false

undotted : {k : Kind} → dot_test k ≡ false → Dotted k
unfolding dot_test
undotted h = not_dotted (λ e. true≢false (sym (ap dot_test e) ∙ h))

dotted : (k : Kind) → Dotted k
unfolding dot_test
dotted (Mark DotSign) = is_dotted refl
dotted _ = undotted refl

record HasDivision (ts : List Token) : Type 0 where
  division : Division
  divides : Divides ts division

found : {ts : List Token} (d : Division) → Divides ts d → HasDivision ts
found d h = record { division = d; divides = h }

kind_token : (t : Token) (k : Kind) → t.kind ≡ k → t ≡ record { span = t.span; kind = k }
kind_token t k e = ap (λ x. record { span = t.span; kind = x }) e

moved : (a b : List Token) → b ≡ a → HasDivision a → HasDivision b
moved a b e h = subst HasDivision (sym e) h

-- behind a body
after_body : (w : Token) (s : Span) (n : List ℕ) (front back : List Token) (z : Span) → IsModuleWord w.kind → IsEnclosed front
    → ((v : Token) (vs : List Token) → back ≡ v ∷ vs → HasDivision (vs ++ (sign z EndSign ∷ []))) → HasDivision (w ∷ ident s (n ∷ []) ∷ (front ++ (back ++ (sign z EndSign ∷ []))))
after_body w s n front [] z m c ih = found _ (no_dot front [] (sign z EndSign) m c not_dot)
  where
    not_dot : Mark EndSign ≡ Mark DotSign → ⊥
    not_dot e = absurd cc
after_body w s n front (v ∷ vs) z m c ih = go (dotted v.kind)
  where
    go : Dotted v.kind → HasDivision (w ∷ ident s (n ∷ []) ∷ (front ++ (v ∷ (vs ++ (sign z EndSign ∷ [])))))
    go (not_dotted h) = found _ (no_dot front (vs ++ (sign z EndSign ∷ [])) v m c h)
    go (is_dotted e) =
        let next = ih v vs refl in
        moved _ _ (ap (λ t. w ∷ ident s (n ∷ []) ∷ (front ++ (t ∷ (vs ++ (sign z EndSign ∷ []))))) (kind_token v (Mark DotSign) e)) (found _ (piece front (vs ++ (sign z EndSign ∷ [])) v.span m c next.divides))

in_body : (w : Token) (s : Span) (n : List ℕ) (us : List Token) (z : Span) → IsModuleWord w.kind
    → ((vs : List Token) → length vs < suc (length us) → (front : List Token) (v : Token) → us ≡ front ++ (v ∷ vs) → HasDivision (vs ++ (sign z EndSign ∷ []))) → BodyEnd us
    → HasDivision (w ∷ ident s (n ∷ []) ∷ (us ++ (sign z EndSign ∷ [])))
in_body w s n us z m ih (never_body g h) = found _ (never_closed us z m g)
in_body w s n us z m ih (ends_body front back e c) =
    moved _ _ (ap (λ l. w ∷ ident s (n ∷ []) ∷ (l ++ (sign z EndSign ∷ []))) e ∙ ap (λ l. w ∷ ident s (n ∷ []) ∷ l) (append_assoc front back (sign z EndSign ∷ [])))
    (after_body w s n front back z m c (λ v vs f. ih vs (shorter v vs f) front v (e ∙ ap (λ b. front ++ b) f)))
  where
    shorter : (v : Token) (vs : List Token) → back ≡ v ∷ vs → length vs < suc (length us)
    shorter v vs f = omega (arith, ap length e, length-append front back, ap length f)

no_end_back : (front : List Token) (v : Token) (vs ts : List Token) → ts ≡ front ++ (v ∷ vs) → NoEnd ts → NoEnd vs
unfolding NoEnd
no_end_back front v vs ts e h = go front (subst NoEnd e h)
  where
    go : (front : List Token) → NoEnd (front ++ (v ∷ vs)) → NoEnd vs
    go [] h = h.1
    go (u ∷ front) h = go front h.1

no_end_first : (t : Token) (ts : List Token) → NoEnd (t ∷ ts) → is_end t.kind ≡ false
unfolding NoEnd
no_end_first t ts h = h.0

-- at the top level, where all shorter tails divide
Tails : List Token → Span → Type 0
Tails ts z = (vs : List Token) → length vs < length ts → (front : List Token) (v : Token) → ts ≡ front ++ (v ∷ vs) → HasDivision (vs ++ (sign z EndSign ∷ []))

name_step : (w u : Token) (us : List Token) (z : Span) → IsModuleWord w.kind → Tails (w ∷ u ∷ us) z → Named u.kind → HasDivision (w ∷ u ∷ (us ++ (sign z EndSign ∷ [])))
unfolding Tails
name_step w u us z m ih (not_named h) = found _ (no_name m h)
name_step w u us z m ih (is_named n e) =
    moved _ _ (ap (λ t. w ∷ t ∷ (us ++ (sign z EndSign ∷ []))) (kind_token u (Ident (n ∷ [])) e))
    (in_body w u.span n us z m (λ vs l front v f. ih vs (omega (arith, l)) (w ∷ u ∷ front) v (ap (λ x. w ∷ u ∷ x) f)) (body_end us))

top_step : (t : Token) (ts : List Token) (z : Span) → is_end t.kind ≡ false → Tails (t ∷ ts) z → AtTheTop t.kind → HasDivision (t ∷ (ts ++ (sign z EndSign ∷ [])))
top_step t ts z e ih (is_percent p) = found _ (other_percent p)
top_step t ts z e ih (is_neither p m) = found _ (no_module p m (λ k. true≢false (sym (ap is_end k) ∙ e)))
top_step t [] z e ih (begins_module m) = found _ (no_name m not_simple)
  where
    not_simple : IsSimple (Mark EndSign) → ⊥
    not_simple s = true≢false (sym (simple_passes s) ∙ end_not_simple)
top_step t (u ∷ us) z e ih (begins_module m) = name_step t u us z m ih (named u.kind)

divides_within : (k : ℕ) (ts : List Token) → length ts ≤ k → NoEnd ts → (z : Span) → HasDivision (ts ++ (sign z EndSign ∷ []))
unfolding Tails
divides_within k [] h g z = found _ no_more
divides_within zero (t ∷ ts) h g z = absurd (omega (arith, h))
divides_within (suc k) (t ∷ ts) h g z =
    top_step t ts z (no_end_first t ts g) (λ vs l front v e. divides_within k vs (omega (arith, h, l)) (no_end_back front v vs (t ∷ ts) e g) z) (at_the_top t.kind)

-- ---- files

lexed_divides : (lexed : Lexed) (text : List ℕ) → IsLexed text lexed → IsDivision lexed (divide lexed)
unfolding divide
lexed_divides (Tokens ts end) text h =
    let z : Span = record { from = end; to = end } in
    let d = divides_within (length ts) ts (omega arith) (cut_no_end h.1) z in
    subst (Divides (with_end ts end)) (sym (divides_so d.divides)) d.divides
lexed_divides (NotUtf8 at) text h = refl
lexed_divides (OpenComment at) text h = refl

only_division : (lexed : Lexed) (other : Division) → IsDivision lexed other → other ≡ divide lexed
unfolding divide
only_division (Tokens ts end) other h = sym (divides_so h)
only_division (NotUtf8 at) other h = h
only_division (OpenComment at) other h = h

pub one_division : EachFileHasOneDivision
one_division text =
    let c = one_cut text in
    record {
      divides = (lex text, c.is_cut, lexed_divides (lex text) text c.is_cut);
      only = λ other h. only_division h.0 other h.2 ∙ ap divide (c.only h.0 h.1);
    }
