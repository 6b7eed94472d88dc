-- The machine of the cut gives what a cut of the text has.
use Rattle.std.proofs.Common.{◌≡◌, ℕ, zero, suc, ◌+◌, Bool, true, false, not, ◌&&◌, ◌||◌, ◌==◌, List, [], ◌∷◌, ◌++◌, length, Option, Some, refl, sym, ap, subst, ◌∙◌, arith, append_assoc, length-append, eqb-true, true≢false, if◌then◌else◌, codes}
use Rattle.std.specs.List.{list_all}
use Rattle.std.proofs.lemmas.List.{append-nil}
use Rattle.name_meaning.specs.Characters.{is_white_space, is_identifier_byte, is_special, is_one_of}
use Rattle.name_meaning.specs.Identifiers.{is_run}
use Rattle.text_meaning.specs.Bytes.{line_feed, percent, dot, colon, left_brace, right_brace, begins}
use Rattle.text_meaning.specs.Tokens.{Sign, Mark, Token, token, percent_sign, row_kind, dotted, spelled, Stray, AssignSign, ColonSign, DotSign}
use Rattle.text_meaning.specs.Cut.{Ending, Finished, Unclosed, is_comment_mark, Closes, all_closed, opens, closes, passes, NeverCloses, begins_line_comment, ends_line, begins_nothing, is_row, ends_row, sign_in, brackets, bracket_sign, Cut, at_end, at_mark, white_space, line_comment, nested_comment, unclosed_comment, percent_word, stray_percent, stray_quote, assign, lone_colon, bracket, lone_dot, row}
use Rattle.text_meaning.specs.Cutting.{Place, Between, Second, InLine, InComment, InWord, InRow, Move, GoOn, Stop, Cutting, ahead, token_first, percent_move, between_move, closed_place, move, follow, cut_on}
use Rattle.std.proofs.lemmas.Bool.{not-true}
use Rattle.list_laws.proofs.Booleans.{and_second, and_first}

-- ---- tests

pub or_front : (a b : Bool) → (a || b) ≡ false → a ≡ false
or_front true b h = h
or_front false b h = refl

pub or_back : (a b : Bool) → (a || b) ≡ false → b ≡ false
or_back true b h = absurd (true≢false h)
or_back false b h = h

-- a property of each of these bytes holds of each byte that is one of them
abbrev pub Each : (ℕ → Type 0) → List ℕ → Type 0
Each P [] = Unit {0}
Each P (c ∷ cs) = P c × Each P cs

one_of_step : (P : ℕ → Type 0) (b c : ℕ) (t u : Bool) → (b == c) ≡ t → P c → (u ≡ true → P b) → (t || u) ≡ true → P b
one_of_step P b c true u e p rest h = subst P (sym (eqb-true b c e)) p
one_of_step P b c false u e p rest h = rest h

pub one_of : (P : ℕ → Type 0) (cs : List ℕ) (b : ℕ) → Each P cs → is_one_of b cs ≡ true → P b
one_of P [] b ps h = absurd (true≢false (sym h))
one_of P (c ∷ cs) b ps h = one_of_step P b c (b == c) (is_one_of b cs) refl ps.0 (one_of P cs b ps.1) h

-- a property of each bracket and its sign
abbrev pub EachPair : (ℕ → Sign → Type 0) → List (ℕ × Sign) → Type 0
EachPair P [] = Unit {0}
EachPair P (c ∷ cs) = P c.0 c.1 × EachPair P cs

some_is : {A : Type 0} (x y : A) → Some x ≡ Some y → x ≡ y
some_is x y e = cc

sign_in_step : (P : ℕ → Sign → Type 0) (b c : ℕ) (m k : Sign) (t : Bool) (o : Option Sign) → (b == c) ≡ t → P c k → (o ≡ Some m → P b m)
    → (if t then Some k else o) ≡ Some m → P b m
sign_in_step P b c m k true o e p rest h = subst (λ x. P x m) (sym (eqb-true b c e)) (subst (P c) (some_is k m h) p)
sign_in_step P b c m k false o e p rest h = rest h

pub of_sign_in : (P : ℕ → Sign → Type 0) (cs : List (ℕ × Sign)) (b : ℕ) (m : Sign) → EachPair P cs → sign_in cs b ≡ Some m → P b m
of_sign_in P [] b m ps h = absurd cc
of_sign_in P (c ∷ cs) b m ps h = sign_in_step P b c.0 m c.1 (b == c.0) (sign_in cs b) refl ps.0 (of_sign_in P cs b m ps.1) h

-- a bracket is neither white space nor a byte of identifiers
pub bracket_move : (at b : ℕ) (bs : List ℕ) (m : Sign) → bracket_sign b ≡ Some m → between_move at b bs ≡ GoOn (token at (at + 1) (Mark m) ∷ []) Between
bracket_move at b bs m h = of_sign_in (λ b m. between_move at b bs ≡ GoOn (token at (at + 1) (Mark m) ∷ []) Between) brackets b m (refl, (refl, (refl, (refl, (refl, (refl, tt)))))) h

-- white space is no byte of identifiers
pub white_space_is_not : (b : ℕ) → is_white_space b ≡ true → is_identifier_byte b ≡ false
white_space_is_not b h = rw h refl

pub white_space_move : (at b : ℕ) (bs : List ℕ) → is_white_space b ≡ true → between_move at b bs ≡ GoOn [] Between
white_space_move at b bs h = rw (white_space_is_not b h, h) refl

-- ---- steps

pub step_is : (p : Place) (at b : ℕ) (bs : List ℕ) (m : Move) → move p at b bs ≡ m → cut_on p at (b ∷ bs) ≡ follow m (λ q. cut_on q (at + 1) bs)
unfolding cut_on
step_is p at b bs m h = ap (λ x. follow x (λ q. cut_on q (at + 1) bs)) h

-- a token before a move
token_follows : (t : Token) (m : Move) (go : Place → Cutting) → follow (token_first t m) go ≡ ahead (t ∷ []) (follow m go)
token_follows t (GoOn ts p) go = refl
token_follows t (Stop ts e) go = refl

-- ---- comments

line_ends : (at : ℕ) (rest : List ℕ) → ends_line rest ≡ true → cut_on InLine at rest ≡ cut_on Between at rest
unfolding cut_on
line_ends at [] h = refl
line_ends at (b ∷ bs) h = subst (λ x. cut_on InLine at (x ∷ bs) ≡ cut_on Between at (x ∷ bs)) (sym (eqb-true b line_feed h)) refl

pub line_goes : (at : ℕ) (comment rest : List ℕ) → list_all (λ b. not (b == line_feed)) comment ≡ true → ends_line rest ≡ true
    → cut_on InLine at (comment ++ rest) ≡ cut_on Between (at + length comment) rest
line_goes at [] rest h e = line_ends at rest e ∙ ap (λ n. cut_on Between n rest) (omega arith)
line_goes at (b ∷ comment) rest h e =
    let no : (b == line_feed) ≡ false = not-true (b == line_feed) (and_first (not (b == line_feed)) _ h) in
    step_is InLine at b (comment ++ rest) (GoOn [] InLine) (rw no refl)
    ∙ line_goes (at + 1) comment rest (and_second (not (b == line_feed)) _ h) e
    ∙ ap (λ n. cut_on Between n rest) (omega arith)

pub percent_line : (at : ℕ) (bs : List ℕ) → begins_line_comment bs ≡ true → percent_move at bs ≡ GoOn [] InLine
percent_line at [] h = refl
percent_line at (b ∷ bs) h = rw h refl

closes_some : {n : ℕ} {bs : List ℕ} → Closes n bs → (m : ℕ) → n ≡ suc m → (b : ℕ) × (cs : List ℕ) × (bs ≡ b ∷ cs)
closes_some all_closed m e = absurd cc
closes_some (opens {bs = bs} d) m e = (percent, left_brace ∷ bs, refl)
closes_some (closes {bs = bs} d) m e = (right_brace, percent ∷ bs, refl)
closes_some (passes {b = b} {bs = bs} h d) m e = (b, bs, refl)

-- what follows a comment does not count as long as one is open
begins_before : (test : ℕ → Bool) (n : ℕ) (bs rest : List ℕ) → Closes (suc n) bs → begins test (bs ++ rest) ≡ begins test bs
begins_before test n bs rest d = let s = closes_some d n refl in subst (λ x. begins test (x ++ rest) ≡ begins test x) (sym s.2) refl

pub comment_goes : {n : ℕ} {front : List ℕ} → Closes n front → (from at : ℕ) (rest : List ℕ)
    → cut_on (closed_place from n) at (front ++ rest) ≡ cut_on Between (at + length front) rest
unfolding cut_on
comment_goes all_closed from at rest = ap (λ n. cut_on Between n rest) (omega arith)
comment_goes (opens {bs = bs} d) from at rest =
    comment_goes d from (at + 1 + 1) rest ∙ ap (λ n. cut_on Between n rest) (omega arith)
comment_goes (closes {bs = bs} d) from at rest =
    comment_goes d from (at + 1 + 1) rest ∙ ap (λ n. cut_on Between n rest) (omega arith)
comment_goes (passes {n = n} {b = b} {bs = bs} h d) from at rest =
    let e1 = begins_before (λ c. c == left_brace) n bs rest d in
    let e2 = begins_before (λ c. c == percent) n bs rest d in
    let h1 : (b == percent && begins (λ c. c == left_brace) (bs ++ rest)) ≡ false = rw e1 (or_front _ _ h) in
    let h2 : (b == right_brace && begins (λ c. c == percent) (bs ++ rest)) ≡ false = rw e2 (or_back (b == percent && begins (λ c. c == left_brace) bs) _ h) in
    step_is (InComment from n) at b (bs ++ rest) (GoOn [] (InComment from n)) (rw (h1, h2) refl)
    ∙ comment_goes d from (at + 1) rest ∙ ap (λ n. cut_on Between n rest) (omega arith)

-- A comment is closed by a front of what follows, or the machine finds no end of it.
pub data Closing (n : ℕ) (bs : List ℕ) : Type 0 where
  closed : (front back : List ℕ) → bs ≡ front ++ back → Closes (suc n) front → Closing n bs
  open' : ((from at : ℕ) → cut_on (InComment from n) at bs ≡ record { tokens = []; ending = Unclosed from }) → Closing n bs

passes_over : (n b c : ℕ) (cs : List ℕ) → is_comment_mark b (c ∷ cs) ≡ false → Closing n (c ∷ cs) → Closing n (b ∷ c ∷ cs)
passes_over n b c cs h (closed front back e d) = closed (b ∷ front) back (ap (λ l. b ∷ l) e) (passes (before front back e d) d)
  where
    before : (front back : List ℕ) → c ∷ cs ≡ front ++ back → Closes (suc n) front → is_comment_mark b front ≡ false
    before front back e d =
        let e1 : begins (λ c. c == left_brace) front ≡ begins (λ c. c == left_brace) (c ∷ cs) = sym (begins_before (λ c. c == left_brace) n front back d) ∙ ap (begins (λ c. c == left_brace)) (sym e) in
        let e2 : begins (λ c. c == percent) front ≡ begins (λ c. c == percent) (c ∷ cs) = sym (begins_before (λ c. c == percent) n front back d) ∙ ap (begins (λ c. c == percent)) (sym e) in
        rw (e1, e2) h
passes_over n b c cs h (open' g) =
    let h1 : (b == percent && c == left_brace) ≡ false = or_front _ _ h in
    let h2 : (b == right_brace && c == percent) ≡ false = or_back (b == percent && c == left_brace) _ h in
    open' (λ from at. step_is (InComment from n) at b (c ∷ cs) (GoOn [] (InComment from n)) (rw (h1, h2) refl) ∙ g from (at + 1))

-- the mark that stands here, if one does
pub mark_front : (b c : ℕ) (t : Bool) → (b == percent && c == left_brace) ≡ true → (b ≡ percent) × (c ≡ left_brace)
mark_front b c t h = (eqb-true b percent (and_first _ _ h), eqb-true c left_brace (and_second (b == percent) _ h))

pub mark_back : (b c : ℕ) → (b == right_brace && c == percent) ≡ true → (b ≡ right_brace) × (c ≡ percent)
mark_back b c h = (eqb-true b right_brace (and_first _ _ h), eqb-true c percent (and_second (b == right_brace) _ h))

opens_over : (n : ℕ) (cs : List ℕ) → Closing (suc n) cs → Closing n (percent ∷ left_brace ∷ cs)
unfolding cut_on
opens_over n cs (closed front back e d) = closed (percent ∷ left_brace ∷ front) back (ap (λ l. percent ∷ left_brace ∷ l) e) (opens d)
opens_over n cs (open' g) = open' (λ from at. g from (at + 1 + 1))

closes_over : (n : ℕ) (cs : List ℕ) → ((m : ℕ) → n ≡ suc m → Closing m cs) → Closing n (right_brace ∷ percent ∷ cs)
unfolding cut_on
closes_over zero cs g = closed (right_brace ∷ percent ∷ []) cs refl (closes all_closed)
closes_over (suc m) cs g = go (g m refl)
  where
    go : Closing m cs → Closing (suc m) (right_brace ∷ percent ∷ cs)
    go (closed front back e d) = closed (right_brace ∷ percent ∷ front) back (ap (λ l. right_brace ∷ percent ∷ l) e) (closes d)
    go (open' f) = open' (λ from at. f from (at + 1 + 1))

closing_step : (n b c : ℕ) (cs : List ℕ) (t u : Bool) → (b == percent && c == left_brace) ≡ t → (b == right_brace && c == percent) ≡ u
    → ((m : ℕ) → Closing m cs) → Closing n (c ∷ cs) → Closing n (b ∷ c ∷ cs)
closing_step n b c cs true u h k inner rest =
    let e = mark_front b c true h in
    subst (λ x. Closing n (x ∷ c ∷ cs)) (sym e.0) (subst (λ x. Closing n (percent ∷ x ∷ cs)) (sym e.1) (opens_over n cs (inner (suc n))))
closing_step n b c cs false true h k inner rest =
    let e = mark_back b c k in
    subst (λ x. Closing n (x ∷ c ∷ cs)) (sym e.0) (subst (λ x. Closing n (right_brace ∷ x ∷ cs)) (sym e.1) (closes_over n cs (λ m _. inner m)))
closing_step n b c cs false false h k inner rest = passes_over n b c cs (rw (h, k) refl) rest

pub closing : (bs : List ℕ) (n : ℕ) → Closing n bs
unfolding cut_on
closing [] n = open' (λ from at. refl)
closing (b ∷ []) n = open' (λ from at. step_is (InComment from n) at b [] (GoOn [] (InComment from n)) (alone (GoOn [] (Second (InComment from (suc n)))) (GoOn [] (Second (closed_place from n))) (GoOn [] (InComment from n)) (b == percent) (b == right_brace)))
  where
    alone : (x y z : Move) (t u : Bool) → (if t && false then x else if u && false then y else z) ≡ z
    alone x y z true true = refl
    alone x y z true false = refl
    alone x y z false true = refl
    alone x y z false false = refl
closing (b ∷ c ∷ cs) n = closing_step n b c cs (b == percent && c == left_brace) (b == right_brace && c == percent) refl refl (closing cs) (closing (c ∷ cs) n)

pub never_closes : (at : ℕ) (bs : List ℕ) → NeverCloses bs → cut_on (InComment at 0) (at + 2) bs ≡ record { tokens = []; ending = Unclosed at }
never_closes at bs h = go (closing bs 0)
  where
    go : Closing 0 bs → cut_on (InComment at 0) (at + 2) bs ≡ record { tokens = []; ending = Unclosed at }
    go (closed front back e d) = absurd (h front back e d)
    go (open' g) = g at (at + 2)

-- ---- words and rows

pub word_goes : (from at : ℕ) (w word rest : List ℕ) → list_all is_identifier_byte word ≡ true → begins is_identifier_byte rest ≡ false
    → cut_on (InWord from w) at (word ++ rest) ≡ ahead (token from (at + length word) (Mark (percent_sign (w ++ word))) ∷ []) (cut_on Between (at + length word) rest)
unfolding cut_on
word_goes from at w [] [] h e = rw (append-nil w) (ap (λ n. record { tokens = token from n (Mark (percent_sign w)) ∷ []; ending = Finished n }) (omega arith))
word_goes from at w [] (b ∷ bs) h e =
    let now : at ≡ at + 0 = omega arith in
    step_is (InWord from w) at b bs (token_first (token from at (Mark (percent_sign w))) (between_move at b bs)) (rw e refl)
    ∙ token_follows (token from at (Mark (percent_sign w))) (between_move at b bs) (λ q. cut_on q (at + 1) bs)
    ∙ rw (append-nil w) (ap (λ n. ahead (token from n (Mark (percent_sign w)) ∷ []) (cut_on Between n (b ∷ bs))) now)
word_goes from at w (b ∷ word) rest h e =
    let m : at + 1 + length word ≡ at + length (b ∷ word) = omega arith in
    let l : (w ++ b ∷ []) ++ word ≡ w ++ b ∷ word = append_assoc w (b ∷ []) word in
    step_is (InWord from w) at b (word ++ rest) (GoOn [] (InWord from (w ++ (b ∷ [])))) (rw (and_first (is_identifier_byte b) _ h) refl)
    ∙ word_goes from (at + 1) (w ++ (b ∷ [])) word rest (and_second (is_identifier_byte b) _ h) e
    ∙ rw (m, l) refl

-- the rest of a run, as far as it goes
run_goes : (from at : ℕ) (ws : List (List ℕ)) (w run rest : List ℕ) → list_all is_identifier_byte run ≡ true
    → cut_on (InRow from ws w) at (run ++ rest) ≡ cut_on (InRow from ws (w ++ run)) (at + length run) rest
unfolding cut_on
run_goes from at ws w [] rest h = rw (append-nil w) (ap (λ n. cut_on (InRow from ws w) n rest) (omega arith))
run_goes from at ws w (b ∷ run) rest h =
    let m : at + 1 + length run ≡ at + length (b ∷ run) = omega arith in
    let l : (w ++ b ∷ []) ++ run ≡ w ++ b ∷ run = append_assoc w (b ∷ []) run in
    step_is (InRow from ws w) at b (run ++ rest) (GoOn [] (InRow from ws (w ++ (b ∷ [])))) (rw (and_first (is_identifier_byte b) _ h) refl)
    ∙ run_goes from (at + 1) ws (w ++ (b ∷ [])) run rest (and_second (is_identifier_byte b) _ h)
    ∙ rw (m, l) refl

row_ends : (from at : ℕ) (ws : List (List ℕ)) (w rest : List ℕ) → ends_row rest ≡ true
    → cut_on (InRow from ws w) at rest ≡ ahead (token from at (row_kind (ws ++ (w ∷ []))) ∷ []) (cut_on Between at rest)
unfolding cut_on
row_ends from at ws w [] e = refl
row_ends from at ws w (b ∷ bs) e =
    let t = token from at (row_kind (ws ++ (w ∷ []))) in
    let no : (is_identifier_byte b || (b == dot && begins is_identifier_byte bs)) ≡ false = not-true _ e in
    let no_byte : is_identifier_byte b ≡ false = or_front _ _ no in
    let no_dot : (b == dot && begins is_identifier_byte bs) ≡ false = or_back (is_identifier_byte b) _ no in
    step_is (InRow from ws w) at b bs (token_first t (between_move at b bs)) (rw (no_byte, no_dot) refl)
    ∙ token_follows t (between_move at b bs) (λ q. cut_on q (at + 1) bs)

pub run_front : (w : List ℕ) → is_run w ≡ true → list_all is_identifier_byte w ≡ true
run_front w h = and_second (not (length w == 0)) _ h

pub run_begins : (w rest : List ℕ) → is_run w ≡ true → begins is_identifier_byte (w ++ rest) ≡ true
run_begins [] rest h = absurd (true≢false (sym h))
run_begins (b ∷ w) rest h = and_first (is_identifier_byte b) _ (run_front (b ∷ w) h)

row_goes : (from at : ℕ) (ws : List (List ℕ)) (w : List ℕ) (vs : List (List ℕ)) (rest : List ℕ) → list_all is_run vs ≡ true → ends_row rest ≡ true
    → cut_on (InRow from ws w) at (dotted vs ++ rest)
    ≡ ahead (token from (at + length (dotted vs)) (row_kind (ws ++ (w ∷ vs))) ∷ []) (cut_on Between (at + length (dotted vs)) rest)
unfolding cut_on
row_goes from at ws w [] rest h e =
    let now : at ≡ at + 0 = omega arith in
    row_ends from at ws w rest e ∙ ap (λ n. ahead (token from n (row_kind (ws ++ (w ∷ []))) ∷ []) (cut_on Between n rest)) now
row_goes from at ws w (v ∷ vs) rest h e =
    let run = and_first (is_run v) _ h in
    let m : at + 1 + length v + length (dotted vs) ≡ at + length (dotted (v ∷ vs)) = omega (arith, length-append v (dotted vs)) in
    let l : (ws ++ w ∷ []) ++ v ∷ vs ≡ ws ++ w ∷ v ∷ vs = append_assoc ws (w ∷ []) (v ∷ vs) in
    let a : (v ++ dotted vs) ++ rest ≡ v ++ (dotted vs ++ rest) = append_assoc v (dotted vs) rest in
    let b : begins is_identifier_byte ((v ++ dotted vs) ++ rest) ≡ true = rw a (run_begins v (dotted vs ++ rest) run) in
    step_is (InRow from ws w) at dot ((v ++ dotted vs) ++ rest) (GoOn [] (InRow from (ws ++ (w ∷ [])) [])) (rw b refl)
    ∙ ap (λ x. cut_on (InRow from (ws ++ (w ∷ [])) []) (at + 1) x) a
    ∙ run_goes from (at + 1) (ws ++ (w ∷ [])) [] v (dotted vs ++ rest) (run_front v run)
    ∙ row_goes from (at + 1 + length v) (ws ++ (w ∷ [])) v vs rest (and_second (is_run v) _ h) e
    ∙ rw (m, l) refl

-- ---- the machine follows the relation

pub percent_nothing : (at : ℕ) (bs : List ℕ) → begins_nothing bs ≡ true → percent_move at bs ≡ GoOn (token at (at + 1) (Mark Stray) ∷ []) Between
percent_nothing at [] h = absurd (true≢false (sym h))
percent_nothing at (b ∷ bs) h =
    let no : ((is_white_space b || b == percent) || ((b == left_brace || b == dot) || is_identifier_byte b)) ≡ false = not-true _ h in
    let no1 : (is_white_space b || b == percent) ≡ false = or_front _ _ no in
    let no2 : ((b == left_brace || b == dot) || is_identifier_byte b) ≡ false = or_back (is_white_space b || b == percent) _ no in
    let no3 : (b == left_brace || b == dot) ≡ false = or_front _ _ no2 in
    let no4 : is_identifier_byte b ≡ false = or_back (b == left_brace || b == dot) _ no2 in
    let no5 : (b == left_brace) ≡ false = or_front _ _ no3 in
    let no6 : (b == dot) ≡ false = or_back (b == left_brace) _ no3 in
    rw (no4, no1, no5, no6) refl

-- a byte of identifiers is none of the others
pub not_white : (b : ℕ) → is_identifier_byte b ≡ true → is_white_space b ≡ false
not_white b h = or_front _ _ (not-true _ h)

pub not_special : (b : ℕ) → is_identifier_byte b ≡ true → is_special b ≡ false
not_special b h = or_back (is_white_space b) _ (not-true _ h)

not_one_of : (cs : List ℕ) (b : ℕ) → is_one_of b cs ≡ false → Each (λ c. (b == c) ≡ false) cs
not_one_of [] b h = tt
not_one_of (c ∷ cs) b h = (or_front _ _ h, not_one_of cs b (or_back (b == c) _ h))

identifier_byte_move : (at b : ℕ) (bs : List ℕ) → is_identifier_byte b ≡ true → percent_move at (b ∷ bs) ≡ GoOn [] (InWord at [])
identifier_byte_move at b bs h =
    let each = not_one_of (codes ":.()[]{}%\"") b (not_special b h) in
    let no_dot : (b == dot) ≡ false = each.1.0 in
    let no_brace : (b == left_brace) ≡ false = each.1.1.1.1.1.1.0 in
    let no_percent : (b == percent) ≡ false = each.1.1.1.1.1.1.1.1.0 in
    let no_white = not_white b h in
    rw (h, no_white, no_percent, no_brace, no_dot) refl

pub percent_word_move : (at : ℕ) (word rest : List ℕ) → is_run word ≡ true → percent_move at (word ++ rest) ≡ GoOn [] (InWord at [])
percent_word_move at [] rest h = absurd (true≢false (sym h))
percent_word_move at (b ∷ word) rest h = identifier_byte_move at b (word ++ rest) (and_first (is_identifier_byte b) _ (run_front (b ∷ word) h))

pub row_first : (at : ℕ) (words : List (List ℕ)) (rest : List ℕ) → is_row words ≡ true → ends_row rest ≡ true
    → cut_on Between at (spelled words ++ rest) ≡ ahead (token at (at + length (spelled words)) (row_kind words) ∷ []) (cut_on Between (at + length (spelled words)) rest)
unfolding cut_on
row_first at [] rest h e = absurd (true≢false (sym h))
row_first at ([] ∷ ws) rest h e = absurd (true≢false (sym h))
row_first at ((b ∷ w) ∷ ws) rest h e =
    let run = run_front (b ∷ w) (and_first (is_run (b ∷ w)) _ h) in
    let a : (w ++ dotted ws) ++ rest ≡ w ++ (dotted ws ++ rest) = append_assoc w (dotted ws) rest in
    let m : at + 1 + length w + length (dotted ws) ≡ at + length (spelled ((b ∷ w) ∷ ws)) = omega (arith, length-append w (dotted ws)) in
    step_is Between at b ((w ++ dotted ws) ++ rest) (GoOn [] (InRow at [] (b ∷ []))) (rw (and_first (is_identifier_byte b) _ run) refl)
    ∙ ap (cut_on (InRow at [] (b ∷ [])) (at + 1)) a
    ∙ run_goes at (at + 1) [] (b ∷ []) w (dotted ws ++ rest) (and_second (is_identifier_byte b) _ run)
    ∙ row_goes at (at + 1 + length w) [] (b ∷ w) ws rest (and_second (is_run (b ∷ w)) _ h) e
    ∙ rw m refl

pub cut_follows : {at : ℕ} {bytes : List ℕ} {ts : List Token} {e : Ending} → Cut at bytes ts e → cut_on Between at bytes ≡ record { tokens = ts; ending = e }
unfolding cut_on
cut_follows at_end = refl
cut_follows at_mark = refl
cut_follows (white_space {at = at} {b = b} {rest = rest} h d) = step_is Between at b rest (GoOn [] Between) (white_space_move at b rest h) ∙ cut_follows d
cut_follows (line_comment {at = at} comment rest h1 h2 h3 d) =
    let m : at + 1 + length comment ≡ at + (1 + length comment) = omega arith in
    step_is Between at percent (comment ++ rest) (GoOn [] InLine) (percent_line at (comment ++ rest) h1)
    ∙ line_goes (at + 1) comment rest h2 h3 ∙ rw m (cut_follows d)
cut_follows (nested_comment {at = at} comment rest c d) =
    let m : at + 1 + 1 + length comment ≡ at + (2 + length comment) = omega arith in
    comment_goes c at (at + 1 + 1) rest ∙ rw m (cut_follows d)
cut_follows (unclosed_comment {at = at} {rest = rest} h) =
    let m : at + 1 + 1 ≡ at + 2 = omega arith in
    ap (λ n. cut_on (InComment at 0) n rest) m ∙ never_closes at rest h
cut_follows (percent_word {at = at} word rest {ts = ts} h1 h2 d) =
    let m : at + 1 + length word ≡ at + (1 + length word) = omega arith in
    step_is Between at percent (word ++ rest) (GoOn [] (InWord at [])) (percent_word_move at word rest h1)
    ∙ word_goes at (at + 1) [] word rest (run_front word h1) h2
    ∙ rw m (ap (ahead (token at (at + (1 + length word)) (Mark (percent_sign word)) ∷ [])) (cut_follows d))
cut_follows (stray_percent {at = at} {rest = rest} h d) =
    step_is Between at percent rest (GoOn (token at (at + 1) (Mark Stray) ∷ []) Between) (percent_nothing at rest h) ∙ ap (ahead (token at (at + 1) (Mark Stray) ∷ [])) (cut_follows d)
cut_follows (stray_quote {at = at} d) = ap (ahead (token at (at + 1) (Mark Stray) ∷ [])) (cut_follows d)
cut_follows (assign {at = at} {rest = rest} d) =
    let m : at + 1 + 1 ≡ at + 2 = omega arith in
    ap (λ n. ahead (token at (at + 2) (Mark AssignSign) ∷ []) (cut_on Between n rest)) m ∙ ap (ahead (token at (at + 2) (Mark AssignSign) ∷ [])) (cut_follows d)
cut_follows (lone_colon {at = at} {rest = rest} h d) =
    step_is Between at colon rest (GoOn (token at (at + 1) (Mark ColonSign) ∷ []) Between) (rw h refl) ∙ ap (ahead (token at (at + 1) (Mark ColonSign) ∷ [])) (cut_follows d)
cut_follows (bracket {at = at} {b = b} {m = m} {rest = rest} h d) =
    step_is Between at b rest (GoOn (token at (at + 1) (Mark m) ∷ []) Between) (bracket_move at b rest m h) ∙ ap (ahead (token at (at + 1) (Mark m) ∷ [])) (cut_follows d)
cut_follows (lone_dot {at = at} d) = ap (ahead (token at (at + 1) (Mark DotSign) ∷ [])) (cut_follows d)
cut_follows (row {at = at} words rest h1 h2 d) = row_first at words rest h1 h2 ∙ ap (ahead (token at (at + length (spelled words)) (row_kind words) ∷ [])) (cut_follows d)
