-- What the machine of the cut does at each form of bytes, for those who build a lexer on it.
use Rattle.std.proofs.Common.{◌≡◌, ℕ, suc, ◌+◌, Bool, true, false, not, ◌&&◌, ◌==◌, List, [], ◌∷◌, ◌++◌, length, Some, refl, ap, ◌∙◌, arith, if◌then◌else◌}
use Rattle.std.specs.List.{list_all}
use Rattle.name_meaning.specs.Characters.{is_white_space, is_identifier_byte}
use Rattle.name_meaning.specs.Identifiers.{is_run}
use Rattle.text_meaning.specs.Bytes.{line_feed, quote, percent, dot, colon, equal, left_brace, right_brace, begins}
use Rattle.text_meaning.specs.Tokens.{Sign, Mark, token, percent_sign, Stray, AssignSign, ColonSign, DotSign}
use Rattle.text_meaning.specs.Cut.{Unclosed, Finished, begins_line_comment, ends_line, begins_nothing, bracket_sign}
use Rattle.text_meaning.specs.Cutting.{Between, Second, InLine, InComment, InWord, GoOn, Move, ahead, closed_place, cut_on}
use Rattle.token_laws.proofs.CutFollows.{mark_front, mark_back, step_is, line_goes, percent_line, word_goes, percent_word_move, percent_nothing, bracket_move, white_space_move, run_front}

-- ---- within a comment

pub pair_opens : (from n at b c : ℕ) (cs : List ℕ) → (b == percent && c == left_brace) ≡ true → cut_on (InComment from n) at (b ∷ c ∷ cs) ≡ cut_on (InComment from (suc n)) (at + 2) cs
unfolding cut_on
pair_opens from n at b c cs h =
    let e = mark_front b c true h in
    let m : at + 1 + 1 ≡ at + 2 = omega arith in
    rw (e.0, e.1) (ap (λ k. cut_on (InComment from (suc n)) k cs) m)

pub pair_closes : (from n at b c : ℕ) (cs : List ℕ) → (b == right_brace && c == percent) ≡ true → cut_on (InComment from n) at (b ∷ c ∷ cs) ≡ cut_on (closed_place from n) (at + 2) cs
unfolding cut_on
pair_closes from n at b c cs h =
    let e = mark_back b c h in
    let m : at + 1 + 1 ≡ at + 2 = omega arith in
    rw (e.0, e.1) (ap (λ k. cut_on (closed_place from n) k cs) m)

pub pair_passes : (from n at b c : ℕ) (cs : List ℕ) → (b == percent && c == left_brace) ≡ false → (b == right_brace && c == percent) ≡ false
    → cut_on (InComment from n) at (b ∷ c ∷ cs) ≡ cut_on (InComment from n) (at + 1) (c ∷ cs)
pair_passes from n at b c cs h k = step_is (InComment from n) at b (c ∷ cs) (GoOn [] (InComment from n)) (rw (h, k) refl)

pub comment_ends : (from n at : ℕ) → cut_on (InComment from n) at [] ≡ record { tokens = []; ending = Unclosed from }
unfolding cut_on
comment_ends from n at = refl

pub one_left : (from n at b : ℕ) → cut_on (InComment from n) at (b ∷ []) ≡ record { tokens = []; ending = Unclosed from }
one_left from n at b = step_is (InComment from n) at b [] (GoOn [] (InComment from n)) (alone (GoOn [] (Second (InComment from (suc n)))) (GoOn [] (Second (closed_place from n))) (GoOn [] (InComment from n)) (b == percent) (b == right_brace)) ∙ comment_ends from n (at + 1)
  where
    alone : (x y z : Move) (t u : Bool) → (if t && false then x else if u && false then y else z) ≡ z
    alone x y z true true = refl
    alone x y z true false = refl
    alone x y z false true = refl
    alone x y z false false = refl

-- ---- between tokens

pub at_end_of_text : (at : ℕ) → cut_on Between at [] ≡ record { tokens = []; ending = Finished at }
unfolding cut_on
at_end_of_text at = refl

pub white_space_goes : (at b : ℕ) (bs : List ℕ) → is_white_space b ≡ true → cut_on Between at (b ∷ bs) ≡ cut_on Between (at + 1) bs
white_space_goes at b bs h = step_is Between at b bs (GoOn [] Between) (white_space_move at b bs h)

pub line_comment_goes : (at : ℕ) (comment rest : List ℕ) → begins_line_comment (comment ++ rest) ≡ true → list_all (λ b. not (b == line_feed)) comment ≡ true → ends_line rest ≡ true
    → cut_on Between at (percent ∷ (comment ++ rest)) ≡ cut_on Between (at + 1 + length comment) rest
line_comment_goes at comment rest h k l = step_is Between at percent (comment ++ rest) (GoOn [] InLine) (percent_line at (comment ++ rest) h) ∙ line_goes (at + 1) comment rest k l

pub comment_goes_in : (at : ℕ) (bs : List ℕ) → cut_on Between at (percent ∷ left_brace ∷ bs) ≡ cut_on (InComment at 0) (at + 2) bs
unfolding cut_on
comment_goes_in at bs = let m : at + 1 + 1 ≡ at + 2 = omega arith in ap (λ k. cut_on (InComment at 0) k bs) m

pub mark_ends : (at : ℕ) (bs : List ℕ) → cut_on Between at (percent ∷ dot ∷ bs) ≡ record { tokens = []; ending = Finished at }
unfolding cut_on
mark_ends at bs = refl

pub percent_word_goes : (at : ℕ) (word rest : List ℕ) → is_run word ≡ true → begins is_identifier_byte rest ≡ false
    → cut_on Between at (percent ∷ (word ++ rest)) ≡ ahead (token at (at + 1 + length word) (Mark (percent_sign word)) ∷ []) (cut_on Between (at + 1 + length word) rest)
percent_word_goes at word rest h k = step_is Between at percent (word ++ rest) (GoOn [] (InWord at [])) (percent_word_move at word rest h) ∙ word_goes at (at + 1) [] word rest (run_front word h) k

pub stray_percent_goes : (at : ℕ) (rest : List ℕ) → begins_nothing rest ≡ true → cut_on Between at (percent ∷ rest) ≡ ahead (token at (at + 1) (Mark Stray) ∷ []) (cut_on Between (at + 1) rest)
stray_percent_goes at rest h = step_is Between at percent rest (GoOn (token at (at + 1) (Mark Stray) ∷ []) Between) (percent_nothing at rest h)

pub quote_goes : (at : ℕ) (rest : List ℕ) → cut_on Between at (quote ∷ rest) ≡ ahead (token at (at + 1) (Mark Stray) ∷ []) (cut_on Between (at + 1) rest)
unfolding cut_on
quote_goes at rest = refl

pub dot_goes : (at : ℕ) (rest : List ℕ) → cut_on Between at (dot ∷ rest) ≡ ahead (token at (at + 1) (Mark DotSign) ∷ []) (cut_on Between (at + 1) rest)
unfolding cut_on
dot_goes at rest = refl

pub assign_goes : (at : ℕ) (rest : List ℕ) → cut_on Between at (colon ∷ equal ∷ rest) ≡ ahead (token at (at + 2) (Mark AssignSign) ∷ []) (cut_on Between (at + 2) rest)
unfolding cut_on
assign_goes at rest = let m : at + 1 + 1 ≡ at + 2 = omega arith in ap (λ k. ahead (token at (at + 2) (Mark AssignSign) ∷ []) (cut_on Between k rest)) m

pub colon_goes : (at : ℕ) (rest : List ℕ) → begins (λ b. b == equal) rest ≡ false → cut_on Between at (colon ∷ rest) ≡ ahead (token at (at + 1) (Mark ColonSign) ∷ []) (cut_on Between (at + 1) rest)
colon_goes at rest h = step_is Between at colon rest (GoOn (token at (at + 1) (Mark ColonSign) ∷ []) Between) (rw h refl)

pub bracket_goes : (at b : ℕ) (m : Sign) (rest : List ℕ) → bracket_sign b ≡ Some m → cut_on Between at (b ∷ rest) ≡ ahead (token at (at + 1) (Mark m) ∷ []) (cut_on Between (at + 1) rest)
bracket_goes at b m rest h = step_is Between at b rest (GoOn (token at (at + 1) (Mark m) ∷ []) Between) (bracket_move at b rest m h)
