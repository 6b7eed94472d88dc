-- A text writes one certificate, and has at most one first line that is none of a certificate.
use Rattle.std.proofs.Common.{◌≡◌, ℕ, ◌+◌, ◌<◌, ◌≤◌, ◌^◌, true, not, ◌==◌, ◌&&◌, List, [], ◌∷◌, ◌++◌, length, inl, inr, codes, refl, sym, ap, ap₂, subst, ◌∙◌, arith, append_assoc, append-nil, length-append}
use Rattle.std.specs.List.{list_all}
use Rattle.std.proofs.lemmas.Bool.{and_parts}
use Rattle.std.proofs.lemmas.List.{append_cancel_right}
use Rattle.std.proofs.lemmas.List.Folds.{list_all-append}
use Rattle.certificate_meaning.specs.Certificates.{Line, IsCertificate, Holds, HoldsAll, StepLine, signature_of}
use Rattle.certificate_meaning.specs.Statements.{Statement}
use Rattle.certificate_meaning.specs.Texts.{Word, words_text, line_text, next_number, first_line, IsAt, AreStepsAt, IsWritten, term_is_written, step_is_written, declaration_is_written, Writes, writes_nothing, writes_more, GoesOn, Begins, bad_first, bad_below}
use Rattle.certificate_laws.specs.TextLaws.{WrittenIsCertified, WrittenIsOne, SignatureIsOne, BadIsNone, BadIsOne}
use Rattle.certificate_laws.proofs.SplitWords.{IsFree, AreFree, not_free, last_cut, one_row, rest_same}
use Rattle.certificate_laws.proofs.TextRows.{RowOf, row_of, one_written}
use Rattle.certificate_laws.proofs.PlainWords.{plain_words, without_feeds, without_spaces}

-- what stands at a number stands above
held : (lines : List Line) (k : ℕ) (line : Line) → IsAt lines k line → Holds lines line
held [] k line h = absurd h
held (first ∷ above) k line (inl h) = inl h.1
held (first ∷ above) k line (inr h) = inr (held above k line h)

all_held : (lines : List Line) (numbers : List ℕ) (ss : List Statement) → AreStepsAt lines numbers ss → HoldsAll lines ss
all_held lines [] [] h = tt
all_held lines [] (s ∷ ss) h = absurd h
all_held lines (i ∷ is) [] h = absurd h
all_held lines (i ∷ is) (s ∷ ss) h = (held lines i (StepLine s) h.0, all_held lines is ss h.1)

pub written_is_certified : WrittenIsCertified
written_is_certified text lines w = by w
  where
    by : {text : List ℕ} {lines : List Line} → Writes text lines → IsCertificate lines
    by writes_nothing = tt
    by (writes_more w (term_is_written new words)) = (by w, new)
    by (writes_more {above} w (step_is_written premises numbers words are follows)) = (by w, record { premises = premises; are_above = all_held above numbers premises are; follows = follows })
    by (writes_more {above} w (declaration_is_written premises numbers words new are declares)) = (by w, record { is_new = new; premises = premises; are_above = all_held above numbers premises are; declares = declares })

-- a text has at least the nine bytes of its first line, and more bytes than lines
long : {text : List ℕ} {lines : List Line} → Writes text lines → 9 + length lines ≤ length text
long writes_nothing = omega arith
long (writes_more {text} {above} {line} {words} w u) = omega (arith, long w, length-append text (line_text words), length-append (words_text words) (10 ∷ []))

few_lines : {text : List ℕ} {lines : List Line} → Writes text lines → length text < 2 ^ 64 → next_number lines < 2 ^ 64
few_lines w h = omega (arith, long w, h)

shorter : (text more : List ℕ) → length (text ++ more) < 2 ^ 64 → length text < 2 ^ 64
shorter text more h = omega (arith, length-append text more, h)

-- a text ends with a line feed
record Ends (text : List ℕ) : Type 0 where
  front : List ℕ
  text_is : text ≡ front ++ 10 ∷ []

ends : {text : List ℕ} {lines : List Line} → Writes text lines → Ends text
ends writes_nothing = record { front = codes "mmt-cert"; text_is = refl }
ends (writes_more {text} {above} {line} {words} w u) = record { front = text ++ words_text words; text_is = sym (append_assoc text (words_text words) (10 ∷ [])) }

begins : {text : List ℕ} {lines : List Line} → Writes text lines → Begins text
begins writes_nothing = record { behind = []; text_is = sym (append-nil first_line) }
begins (writes_more {text} {above} {line} {words} w u) =
    let b = begins w in
    record { behind = b.behind ++ line_text words; text_is = ap (λ t. t ++ line_text words) b.text_is ∙ append_assoc first_line b.behind (line_text words) }

-- the words of a line without line feeds
words_free : (words : List Word) → AreFree 10 words → IsFree 10 (words_text words)
words_free [] h = refl
words_free (word ∷ []) h = (and_parts (list_all (λ b. not (b == 10)) word) true h).0
words_free (word ∷ second ∷ words) h =
    let q = and_parts (list_all (λ b. not (b == 10)) word) (list_all (λ w. list_all (λ b. not (b == 10)) w) (second ∷ words)) h in
    list_all-append (λ b. not (b == 10)) word (32 ∷ words_text (second ∷ words)) ∙ ap₂ (λ x y. x && y) q.0 (words_free (second ∷ words) q.1)

line_free : {above : List Line} {line : Line} {words : List Word} → next_number above < 2 ^ 64 → IsWritten above line words → IsFree 10 (words_text words)
line_free {above} {line} {words} few u = words_free words (without_feeds words (plain_words above few u))

-- rows of words with one text are one
one_words : {above : List Line} {line other : Line} {words others : List Word} → next_number above < 2 ^ 64 → IsWritten above line words → IsWritten above other others → words_text words ≡ words_text others → words ≡ others
one_words {above} {line} {other} {words} {others} few u v e = by words others (row_of above few u) (row_of above few v) (without_spaces words (plain_words above few u)) (without_spaces others (plain_words above few v)) e
  where
    by : (words others : List Word) → RowOf above few line words → RowOf above few other others → AreFree 32 words → AreFree 32 others → words_text words ≡ words_text others → words ≡ others
    by [] others r s f g e = absurd (none r.words_are)
      where
        none : {w : Word} {ws : List Word} → [] ≡ w ∷ ws → ⊥
        none e = cc
    by (word ∷ words) [] r s f g e = absurd (none s.words_are)
      where
        none : {w : Word} {ws : List Word} → [] ≡ w ∷ ws → ⊥
        none e = cc
    by (word ∷ words) (other ∷ others) r s f g e = one_row word other words others f g e

same_line : (above others : List Line) (line other : Line) (words more : List Word) → above ≡ others → next_number above < 2 ^ 64 → IsWritten above line words → IsWritten others other more → words_text words ≡ words_text more → line ∷ above ≡ other ∷ others
same_line above others line other words more e few u v f =
    let v′ : IsWritten above other more = subst (λ l. IsWritten l other more) (sym e) v in
    let same : words ≡ more = one_words few u v′ f in
    let u′ : IsWritten above line more = subst (λ w. IsWritten above line w) same u in
    ap₂ (λ l ls. l ∷ ls) (one_written above few u′ v′) e

-- a text that ends with a line feed, and a line without one, are told by their bytes
cut_lines : (text more : List ℕ) (words others : List Word) → Ends text → Ends more → IsFree 10 (words_text words) → IsFree 10 (words_text others) → text ++ line_text words ≡ more ++ line_text others → (text ≡ more) × (words_text words ≡ words_text others)
cut_lines text more words others t m f g e =
    let a = words_text words in
    let b = words_text others in
    let whole : text ++ a ≡ more ++ b = append_cancel_right (text ++ a) (more ++ b) (10 ∷ []) (append_assoc text a (10 ∷ []) ∙ e ∙ sym (append_assoc more b (10 ∷ []))) in
    let spread : (x : List ℕ) (n : Ends x) (y : List ℕ) → x ++ y ≡ n.front ++ 10 ∷ y = λ x n y. ap (λ z. z ++ y) n.text_is ∙ append_assoc n.front (10 ∷ []) y in
    let cut = last_cut 10 t.front m.front a b f g (sym (spread text t a) ∙ whole ∙ spread more m b) in
    (t.text_is ∙ ap (λ z. z ++ 10 ∷ []) cut.0 ∙ sym m.text_is, cut.1)

-- the first line alone is no longer text
not_first : {text : List ℕ} {above : List Line} (words : List Word) → Writes text above → first_line ≡ text ++ line_text words → ⊥
not_first {text} {above} words w e = omega (arith, long w, ap length e, length-append text (line_text words), length-append (words_text words) (10 ∷ []))

one_text : {text more : List ℕ} {lines others : List Line} → Writes text lines → Writes more others → text ≡ more → length text < 2 ^ 64 → lines ≡ others
one_text writes_nothing writes_nothing e h = refl
one_text writes_nothing (writes_more {words} w u) e h = absurd (not_first words w e)
one_text (writes_more {words} w u) writes_nothing e h = absurd (not_first words w (sym e))
one_text (writes_more {text} {above} {line} {words} w u) (writes_more {text = more} {above = others} {line = other} {words = more_words} v t) e h =
    let short : length text < 2 ^ 64 = shorter text (line_text words) h in
    let few = few_lines w short in
    let short′ : length more < 2 ^ 64 = shorter more (line_text more_words) (subst (λ x. length x < 2 ^ 64) e h) in
    let cut = cut_lines text more words more_words (ends w) (ends v) (line_free few u) (line_free (few_lines v short′) t) e in
    same_line above others line other words more_words (one_text w v cut.0 short) few u t cut.1

pub written_is_one : WrittenIsOne
written_is_one text first second h w v = one_text w v refl h

pub signature_is_one : SignatureIsOne
signature_is_one text first second h w v = sym w.signature ∙ ap signature_of (one_text w.writes v.writes refl h) ∙ v.signature

-- the last number of one list is one
last_same : (xs ys : List ℕ) (x y : ℕ) → xs ++ x ∷ [] ≡ ys ++ y ∷ [] → y ≡ x
last_same [] [] x y e = cc
last_same [] (b ∷ []) x y e = absurd cc
last_same [] (b ∷ c ∷ ys) x y e = absurd cc
last_same (b ∷ []) [] x y e = absurd cc
last_same (b ∷ c ∷ xs) [] x y e = absurd cc
last_same (b ∷ xs) (c ∷ ys) x y e = last_same xs ys x y (rest_same e)

-- two ways to cut a list: the second cut is at the first or behind it, or before it
data Cuts (front rest other more : List ℕ) : Type 0 where
  behind : (between : List ℕ) → other ≡ front ++ between → rest ≡ between ++ more → Cuts front rest other more
  before : (between : List ℕ) → front ≡ other ++ between → more ≡ between ++ rest → Cuts front rest other more

cuts : (front rest other more : List ℕ) → front ++ rest ≡ other ++ more → Cuts front rest other more
cuts [] rest other more e = behind other refl e
cuts (b ∷ front) rest [] more e = before (b ∷ front) refl (sym e)
cuts (b ∷ front) rest (c ∷ other) more e = by (cuts front rest other more (rest_same e))
  where
    firsts : {x y : ℕ} {xs ys : List ℕ} → x ∷ xs ≡ y ∷ ys → x ≡ y
    firsts e = cc

    by : Cuts front rest other more → Cuts (b ∷ front) rest (c ∷ other) more
    by (behind between f g) = behind between (ap₂ (λ x xs. x ∷ xs) (sym (firsts e)) f) g
    by (before between f g) = before between (ap₂ (λ x xs. x ∷ xs) (firsts e) f) g

-- the last of numbers, if there are any
data Last (bytes : List ℕ) : Type 0 where
  nothing : bytes ≡ [] → Last bytes
  last_is : (front : List ℕ) (byte : ℕ) → bytes ≡ front ++ byte ∷ [] → Last bytes

last_of : (bytes : List ℕ) → Last bytes
last_of [] = nothing refl
last_of (b ∷ bytes) = by (last_of bytes)
  where
    by : Last bytes → Last (b ∷ bytes)
    by (nothing e) = last_is [] b (ap (λ bs. b ∷ bs) e)
    by (last_is front byte e) = last_is (b ∷ front) byte (ap (λ bs. b ∷ bs) e)

-- a line that is cut has no line feed before the cut
not_cut : (words : List Word) (front rest : List ℕ) → IsFree 10 (words_text words) → (rest ≡ [] → ⊥) → line_text words ≡ (front ++ 10 ∷ []) ++ rest → ⊥
not_cut words front rest f some e = by (last_of rest)
  where
    by : Last rest → ⊥
    by (nothing h) = some h
    by (last_is inner byte h) =
        let whole : words_text words ++ 10 ∷ [] ≡ (front ++ 10 ∷ inner) ++ byte ∷ [] = e ∙ append_assoc front (10 ∷ []) rest ∙ ap (λ r. front ++ 10 ∷ r) h ∙ sym (append_assoc front (10 ∷ inner) (byte ∷ [])) in
        let same : byte ≡ 10 = last_same (words_text words) (front ++ 10 ∷ inner) 10 byte whole in
        not_free 10 front inner (subst (IsFree 10) (append_cancel_right (words_text words) (front ++ 10 ∷ inner) (10 ∷ []) (whole ∙ ap (λ b. (front ++ 10 ∷ inner) ++ b ∷ []) same)) f)

-- what goes on goes on with more behind it
goes_on : {above : List Line} {rest : List ℕ} (more : List ℕ) → GoesOn above rest → GoesOn above (rest ++ more)
goes_on more g =
    record { line = g.line; words = g.words; behind = g.behind ++ more; is_written = g.is_written; rest_is = ap (λ r. r ++ more) g.rest_is ∙ append_assoc (line_text g.words) g.behind more }

-- a text that goes on behind another one does so with a line that stands
next_stands : {text front : List ℕ} {lines above : List Line} → Writes text lines → Writes front above → (rest : List ℕ) → text ≡ front ++ rest → (rest ≡ [] → ⊥) → length text < 2 ^ 64 → GoesOn above rest
next_stands {front} writes_nothing v rest e some h = absurd (some (none rest (omega (arith, long v, ap length e, length-append front rest))))
  where
    none : (xs : List ℕ) → length xs ≡ 0 → xs ≡ []
    none [] e = refl
    none (x ∷ xs) e = absurd cc
next_stands {front} {above = others} (writes_more {text} {above} {line} {words} w u) v rest e some h =
    let short : length text < 2 ^ 64 = shorter text (line_text words) h in
    let few = few_lines w short in
    by short few (next_stands w v) (cuts text (line_text words) front rest e)
  where
    at_once : next_number above < 2 ^ 64 → length text < 2 ^ 64 → front ≡ text → rest ≡ line_text words → GoesOn others rest
    at_once few short f g =
        let same : above ≡ others = one_text w v (sym f) short in
        record { line = line; words = words; behind = []; is_written = subst (λ l. IsWritten l line words) same u; rest_is = g ∙ sym (append-nil (line_text words)) }

    by : length text < 2 ^ 64 → next_number above < 2 ^ 64 → ((rest : List ℕ) → text ≡ front ++ rest → (rest ≡ [] → ⊥) → length text < 2 ^ 64 → GoesOn others rest) → Cuts text (line_text words) front rest → GoesOn others rest
    by short few again (behind [] f g) = at_once few short (f ∙ append-nil text) (sym g)
    by short few again (behind (b ∷ between) f g) =
        let inner = ends v in
        absurd (cut (last_of (b ∷ between)))
      where
        cut : Last (b ∷ between) → ⊥
        cut (nothing z) = cc
        cut (last_is r byte z) =
            let n = ends v in
            let joined : n.front ++ 10 ∷ [] ≡ (text ++ r) ++ byte ∷ [] = sym n.text_is ∙ f ∙ ap (λ x. text ++ x) z ∙ sym (append_assoc text r (byte ∷ [])) in
            let same : byte ≡ 10 = last_same n.front (text ++ r) 10 byte joined in
            not_cut words r rest (line_free few u) some (g ∙ ap (λ x. x ++ rest) (z ∙ ap (λ y. r ++ y ∷ []) same))
    by short few again (before [] f g) = at_once few short (sym (f ∙ append-nil front)) g
    by short few again (before (b ∷ between) f g) =
        let found : GoesOn others (b ∷ between) = again (b ∷ between) f (λ z. cc) short in
        subst (GoesOn others) (sym g) (goes_on (line_text words) found)

-- a text that goes on behind another one begins as that one
begun : {front : List ℕ} {above : List Line} (text rest : List ℕ) → text ≡ front ++ rest → Writes front above → Begins text
begun text rest e v =
    let b = begins v in
    record { behind = b.behind ++ rest; text_is = e ∙ ap (λ t. t ++ rest) b.text_is ∙ append_assoc first_line b.behind rest }

pub bad_is_none : BadIsNone
bad_is_none text number sig h (bad_first other) w = other (begins w.writes)
bad_is_none text number sig h (bad_below front rest above e v some stops) w = stops (next_stands w.writes v rest e some h)

pub bad_is_one : BadIsOne
bad_is_one text first second h (bad_first f) (bad_first g) = refl
bad_is_one text first second h (bad_first f) (bad_below front rest above e v some stops) = absurd (f (begun text rest e v))
bad_is_one text first second h (bad_below front rest above e v some stops) (bad_first g) = absurd (g (begun text rest e v))
bad_is_one text first second h (bad_below front rest above e v some stops) (bad_below other more others f w any halts) =
    by (cuts front rest other more (sym e ∙ f))
  where
    other_short : length other < 2 ^ 64
    other_short = shorter other more (subst (λ t. length t < 2 ^ 64) f h)

    front_short : length front < 2 ^ 64
    front_short = shorter front rest (subst (λ t. length t < 2 ^ 64) e h)

    by : Cuts front rest other more → next_number above ≡ next_number others
    by (behind [] g k) = ap next_number (one_text v w (sym (g ∙ append-nil front)) front_short)
    by (behind (b ∷ between) g k) = absurd (stops (subst (GoesOn above) (sym k) (goes_on more (next_stands w v (b ∷ between) g (λ z. cc) other_short))))
    by (before [] g k) = ap next_number (one_text v w (g ∙ append-nil other) front_short)
    by (before (b ∷ between) g k) = absurd (halts (subst (GoesOn others) (sym k) (goes_on rest (next_stands v w (b ∷ between) g (λ z. cc) front_short))))
