-- Each text has a cut.
use Rattle.std.proofs.Common.{◌≡◌, ℕ, zero, suc, ◌+◌, ◌<◌, ◌≤◌, Bool, true, false, not, ◌&&◌, ◌||◌, ◌==◌, List, [], ◌∷◌, ◌++◌, length, Some, refl, sym, ap, subst, ◌∙◌, arith, append_assoc, length-append, eqb-true, true≢false, codes, ne_eqb}
use Rattle.std.specs.List.{list_all}
use Rattle.name_meaning.specs.Characters.{is_white_space, is_identifier_byte, is_special}
use Rattle.name_meaning.specs.Identifiers.{is_run}
use Rattle.text_meaning.specs.Bytes.{line_feed, percent, dot, colon, equal, left_brace, begins}
use Rattle.text_meaning.specs.Tokens.{Sign, Token, dotted, spelled}
use Rattle.text_meaning.specs.Cut.{Ending, Finished, Unclosed, NeverCloses, begins_line_comment, ends_line, begins_nothing, is_row, ends_row, bracket_sign, Cut, at_end, at_mark, white_space, line_comment, nested_comment, unclosed_comment, percent_word, stray_percent, stray_quote, assign, lone_colon, bracket, lone_dot, row}
use Rattle.text_meaning.specs.Cutting.{InComment, Between, Cutting, cut_on}
use Rattle.token_laws.proofs.CutFollows.{one_of, closing, Closing, closed, open', comment_goes}
use Rattle.std.proofs.lemmas.Bool.{not-false}
use Rattle.list_laws.proofs.Booleans.{and_second, and_first}

-- a front of identifier bytes, as long as it goes
record Run (bs : List ℕ) : Type 0 where
  word : List ℕ
  rest : List ℕ
  parts : bs ≡ word ++ rest
  ids : list_all is_identifier_byte word ≡ true
  ends : begins is_identifier_byte rest ≡ false

run_of : (bs : List ℕ) → Run bs
run_of [] = record { word = []; rest = []; parts = refl; ids = refl; ends = refl }
run_of (b ∷ bs) = go (is_identifier_byte b) refl (run_of bs)
  where
    go : (t : Bool) → is_identifier_byte b ≡ t → Run bs → Run (b ∷ bs)
    go true e r = record { word = b ∷ r.word; rest = r.rest; parts = ap (λ l. b ∷ l) r.parts; ids = rw (e, r.ids) refl; ends = r.ends }
    go false e r = record { word = []; rest = b ∷ bs; parts = refl; ids = refl; ends = e }

-- a row that may begin in the midst of a run
record Row (bs : List ℕ) : Type 0 where
  word : List ℕ
  words : List (List ℕ)
  rest : List ℕ
  parts : bs ≡ word ++ (dotted words ++ rest)
  ids : list_all is_identifier_byte word ≡ true
  runs : list_all is_run words ≡ true
  ends : ends_row rest ≡ true
  starts : begins is_identifier_byte bs ≡ begins is_identifier_byte word

begins_run : (w : List ℕ) → list_all is_identifier_byte w ≡ true → begins is_identifier_byte w ≡ true → is_run w ≡ true
begins_run [] h b = absurd (true≢false (sym b))
begins_run (c ∷ w) h b = rw (ne_eqb (suc (length w)) 0 (λ e. absurd cc)) h

not_dot : is_identifier_byte dot ≡ false
not_dot = refl

row_of : (bs : List ℕ) → Row bs
row_of [] = record { word = []; words = []; rest = []; parts = refl; ids = refl; runs = refl; ends = refl; starts = refl }
row_of (b ∷ bs) = go (is_identifier_byte b) (b == dot && begins is_identifier_byte bs) refl refl (row_of bs)
  where
    go : (t u : Bool) → is_identifier_byte b ≡ t → (b == dot && begins is_identifier_byte bs) ≡ u → Row bs → Row (b ∷ bs)
    go true u e f r =
        record { word = b ∷ r.word; words = r.words; rest = r.rest; parts = ap (λ l. b ∷ l) r.parts; ids = rw (e, r.ids) refl; runs = r.runs; ends = r.ends; starts = refl }
    go false true e f r =
        let is_dot : b ≡ dot = eqb-true b dot (and_first _ _ f) in
        let next : begins is_identifier_byte r.word ≡ true = sym r.starts ∙ and_second (b == dot) _ f in
        let here : b ∷ bs ≡ dotted (r.word ∷ r.words) ++ r.rest = rw is_dot (ap (λ l. dot ∷ l) (r.parts ∙ sym (append_assoc r.word (dotted r.words) r.rest))) in
        record { word = []; words = r.word ∷ r.words; rest = r.rest; parts = here; ids = refl; runs = rw (begins_run r.word r.ids next, r.runs) refl; ends = r.ends; starts = e }
    go false false e f r = record { word = []; words = []; rest = b ∷ bs; parts = refl; ids = refl; runs = refl; ends = rw (e, f) refl; starts = e }

-- a front without the end of a line
record Line (bs : List ℕ) : Type 0 where
  comment : List ℕ
  rest : List ℕ
  parts : bs ≡ comment ++ rest
  inside : list_all (λ b. not (b == line_feed)) comment ≡ true
  ends : ends_line rest ≡ true

line_of : (bs : List ℕ) → Line bs
line_of [] = record { comment = []; rest = []; parts = refl; inside = refl; ends = refl }
line_of (b ∷ bs) = go (b == line_feed) refl (line_of bs)
  where
    go : (t : Bool) → (b == line_feed) ≡ t → Line bs → Line (b ∷ bs)
    go true e l = record { comment = []; rest = b ∷ bs; parts = refl; inside = refl; ends = e }
    go false e l = record { comment = b ∷ l.comment; rest = l.rest; parts = ap (λ x. b ∷ x) l.parts; inside = rw (e, l.inside) refl; ends = l.ends }

unclosed_at : (a b : ℕ) (c d : Cutting) → c ≡ record { tokens = []; ending = Unclosed a } → d ≡ record { tokens = []; ending = Unclosed b } → c ≡ d → a ≡ b
unclosed_at a b c d p q r = ap (λ c. place c.ending) (sym p ∙ r ∙ q)
  where
    place : Ending → ℕ
    place (Finished at) = at
    place (Unclosed at) = at

zero_is_not_one : ◌≡◌ {A = ℕ} 0 1 → ⊥
zero_is_not_one e = omega arith

-- where the machine finds no end of a comment, none is there
unclosed : (bs : List ℕ) → ((from at : ℕ) → cut_on (InComment from 0) at bs ≡ record { tokens = []; ending = Unclosed from }) → NeverCloses bs
unclosed bs g front back e d =
    let same : (from : ℕ) → cut_on (InComment from 0) 0 bs ≡ cut_on Between (0 + length front) back = λ from. ap (cut_on (InComment from 0) 0) e ∙ comment_goes d from 0 back in
    zero_is_not_one (unclosed_at 0 1 _ _ (g 0 0) (g 1 0) (same 0 ∙ sym (same 1)))

-- some cut, from a place on
record HasCut (at : ℕ) (bs : List ℕ) : Type 0 where
  tokens : List Token
  ending : Ending
  is_cut : Cut at bs tokens ending

-- each shorter text has one
abbrev Shorter : ℕ → Type 0
Shorter n = (bs : List ℕ) → length bs < n → (at : ℕ) → HasCut at bs

with' : {at : ℕ} {bs : List ℕ} (ts : List Token) (e : Ending) → Cut at bs ts e → HasCut at bs
with' ts e c = record { tokens = ts; ending = e; is_cut = c }

moved : (at : ℕ) (bs cs : List ℕ) → bs ≡ cs → HasCut at cs → HasCut at bs
moved at bs cs e h = subst (HasCut at) (sym e) h

after_percent : (at : ℕ) (bs : List ℕ) → ((cs : List ℕ) → length cs ≤ length bs → (at : ℕ) → HasCut at cs) → HasCut at (percent ∷ bs)
after_percent at bs ih = line (begins_line_comment bs) refl
  where
    line_case : begins_line_comment bs ≡ true → HasCut at (percent ∷ bs)
    line_case e =
        let l = line_of bs in
        let r = ih l.rest (omega (arith, ap length l.parts, length-append l.comment l.rest)) (at + (1 + length l.comment)) in
        moved at (percent ∷ bs) (percent ∷ (l.comment ++ l.rest)) (ap (λ x. percent ∷ x) l.parts)
        (with' r.tokens r.ending (line_comment l.comment l.rest (ap begins_line_comment (sym l.parts) ∙ e) l.inside l.ends r.is_cut))

    comment_case : (cs : List ℕ) → bs ≡ left_brace ∷ cs → Closing 0 cs → HasCut at (percent ∷ bs)
    comment_case cs e (closed front back p d) =
        let short : length back ≤ length bs = omega (arith, ap length e, ap length p, length-append front back) in
        let r = ih back short (at + (2 + length front)) in
        moved at (percent ∷ bs) (percent ∷ left_brace ∷ (front ++ back)) (ap (λ x. percent ∷ x) (e ∙ ap (λ x. left_brace ∷ x) p)) (with' r.tokens r.ending (nested_comment front back d r.is_cut))
    comment_case cs e (open' g) =
        moved at (percent ∷ bs) (percent ∷ left_brace ∷ cs) (ap (λ x. percent ∷ x) e) (with' [] (Unclosed at) (unclosed_comment (unclosed cs g)))

    word_case : begins is_identifier_byte bs ≡ true → HasCut at (percent ∷ bs)
    word_case e =
        let r = run_of bs in
        let next = ih r.rest (omega (arith, ap length r.parts, length-append r.word r.rest)) (at + (1 + length r.word)) in
        let starts : is_run r.word ≡ true = not_empty r.word r.rest r.parts e r.ids r.ends in
        moved at (percent ∷ bs) (percent ∷ (r.word ++ r.rest)) (ap (λ x. percent ∷ x) r.parts) (with' _ next.ending (percent_word r.word r.rest starts r.ends next.is_cut))
      where
        not_empty : (w rest : List ℕ) → bs ≡ w ++ rest → begins is_identifier_byte bs ≡ true → list_all is_identifier_byte w ≡ true → begins is_identifier_byte rest ≡ false → is_run w ≡ true
        not_empty [] rest p b i n = absurd (true≢false (sym b ∙ ap (begins is_identifier_byte) p ∙ n))
        not_empty (c ∷ w) rest p b i n = rw (ne_eqb (suc (length w)) 0 (λ e. absurd cc)) i

    other : (cs : List ℕ) (b : ℕ) → bs ≡ b ∷ cs → begins_line_comment bs ≡ false → (t u v : Bool) → (b == left_brace) ≡ t → (b == dot) ≡ u → is_identifier_byte b ≡ v → HasCut at (percent ∷ bs)
    other cs b e n true u v h k i = comment_case cs (e ∙ ap (λ x. x ∷ cs) (eqb-true b left_brace h)) (closing cs 0)
    other cs b e n false true v h k i = moved at (percent ∷ bs) (percent ∷ dot ∷ cs) (ap (λ x. percent ∷ x) (e ∙ ap (λ x. x ∷ cs) (eqb-true b dot k))) (with' _ _ at_mark)
    other cs b e n false false true h k i = word_case (ap (begins is_identifier_byte) e ∙ i)
    other cs b e n false false false h k i =
        let not_line : (is_white_space b || b == percent) ≡ false = sym (ap begins_line_comment e) ∙ n in
        let nothing : begins_nothing bs ≡ true = ap begins_nothing e ∙ rw (i, not_line, h, k) refl in
        let r = ih bs (omega arith) (at + 1) in
        with' _ r.ending (stray_percent nothing r.is_cut)

    line : (t : Bool) → begins_line_comment bs ≡ t → HasCut at (percent ∷ bs)
    line true e = line_case e
    line false e = begin bs refl e
      where
        begin : (cs : List ℕ) → bs ≡ cs → begins_line_comment bs ≡ false → HasCut at (percent ∷ bs)
        begin [] p e = absurd (true≢false (sym (ap begins_line_comment p) ∙ e))
        begin (b ∷ cs) p e = other cs b p e (b == left_brace) (b == dot) (is_identifier_byte b) refl refl refl

after_colon : (at : ℕ) (bs : List ℕ) → ((cs : List ℕ) → length cs ≤ length bs → (at : ℕ) → HasCut at cs) → HasCut at (colon ∷ bs)
after_colon at bs ih = go bs refl (begins (λ b. b == equal) bs) refl
  where
    lone : begins (λ b. b == equal) bs ≡ false → HasCut at (colon ∷ bs)
    lone e = let r = ih bs (omega arith) (at + 1) in with' _ r.ending (lone_colon e r.is_cut)

    go : (cs : List ℕ) → bs ≡ cs → (t : Bool) → begins (λ b. b == equal) bs ≡ t → HasCut at (colon ∷ bs)
    go cs p false e = lone e
    go [] p true e = absurd (true≢false (sym e ∙ ap (begins (λ b. b == equal)) p))
    go (b ∷ cs) p true e =
        let is_equal : b ≡ equal = eqb-true b equal (sym (ap (begins (λ b. b == equal)) p) ∙ e) in
        let r = ih cs (omega (arith, ap length p)) (at + 2) in
        moved at (colon ∷ bs) (colon ∷ equal ∷ cs) (ap (λ x. colon ∷ x) (p ∙ ap (λ x. x ∷ cs) is_equal)) (with' _ r.ending (assign r.is_cut))

-- at each special byte
special_cut : (at : ℕ) (bs : List ℕ) → ((cs : List ℕ) → length cs ≤ length bs → (at : ℕ) → HasCut at cs) → (b : ℕ) → is_special b ≡ true → HasCut at (b ∷ bs)
special_cut at bs ih b h =
    let r = ih bs (omega arith) (at + 1) in
    let brace : (c : ℕ) (m : Sign) → bracket_sign c ≡ Some m → HasCut at (c ∷ bs) = λ c m e. with' _ r.ending (bracket e r.is_cut) in
    one_of (λ c. HasCut at (c ∷ bs)) (codes ":.()[]{}%\"") b (
      after_colon at bs ih,
      (
        with' _ r.ending (lone_dot r.is_cut),
        (
          brace 40 _ refl,
          (
            brace 41 _ refl,
            (
              brace 91 _ refl,
              (
                brace 93 _ refl,
                (
                  brace 123 _ refl,
                  (
                    brace 125 _ refl,
                    (after_percent at bs ih, (with' _ r.ending (stray_quote r.is_cut), tt)),
                  ),
                ),
              ),
            ),
          ),
        ),
      ),
    ) h

row_cut : (at b : ℕ) (bs : List ℕ) → ((cs : List ℕ) → length cs ≤ length bs → (at : ℕ) → HasCut at cs) → is_identifier_byte b ≡ true → HasCut at (b ∷ bs)
row_cut at b bs ih h =
    let r = row_of bs in
    let words = (b ∷ r.word) ∷ r.words in
    let e : b ∷ bs ≡ spelled words ++ r.rest = ap (λ l. b ∷ l) (r.parts ∙ sym (append_assoc r.word (dotted r.words) r.rest)) in
    let short : length r.rest ≤ length bs = omega (arith, ap length r.parts, length-append r.word (dotted r.words ++ r.rest), length-append (dotted r.words) r.rest) in
    let next = ih r.rest short (at + length (spelled words)) in
    let run : is_run (b ∷ r.word) ≡ true = begins_run (b ∷ r.word) (rw (h, r.ids) refl) h in
    let is : is_row words ≡ true = rw (run, r.runs) refl in
    moved at (b ∷ bs) (spelled words ++ r.rest) e (with' _ next.ending (row words r.rest is r.ends next.is_cut))

byte_cut : (at b : ℕ) (bs : List ℕ) → ((cs : List ℕ) → length cs ≤ length bs → (at : ℕ) → HasCut at cs) → (t u : Bool) → is_identifier_byte b ≡ t → is_white_space b ≡ u → HasCut at (b ∷ bs)
byte_cut at b bs ih true u e f = row_cut at b bs ih e
byte_cut at b bs ih false true e f = let r = ih bs (omega arith) (at + 1) in with' r.tokens r.ending (white_space f r.is_cut)
byte_cut at b bs ih false false e f =
    let special : is_special b ≡ true = or_right (is_white_space b) (is_special b) (not-false _ e) f in
    special_cut at bs ih b special
  where
    or_right : (x y : Bool) → (x || y) ≡ true → x ≡ false → y ≡ true
    or_right true y h n = absurd (true≢false n)
    or_right false y h n = h

cut_within : (n : ℕ) (bs : List ℕ) → length bs ≤ n → (at : ℕ) → HasCut at bs
cut_within n [] h at = with' _ _ at_end
cut_within zero (b ∷ bs) h at = absurd (omega arith)
cut_within (suc n) (b ∷ bs) h at = byte_cut at b bs (λ cs le. cut_within n cs (omega arith)) (is_identifier_byte b) (is_white_space b) refl refl

pub cut_exists : (at : ℕ) (bs : List ℕ) → (ts : List Token) × (e : Ending) × Cut at bs ts e
cut_exists at bs = let c = cut_within (length bs) bs (omega arith) at in (c.tokens, c.ending, c.is_cut)
