-- Tokens with the end of the input behind them have one answer, which the machine gives.
use Rattle.std.proofs.Common.{◌≡◌, Bool, true, false, inl, inr, List, [], ◌∷◌, ◌++◌, Some, None, refl, sym, ap, subst, ◌∙◌, append_assoc, append-nil, eqb-true, true≢false}
use Rattle.text_meaning.specs.Tokens.{Span, Mark, Token, sign, EndSign}
use Rattle.text_meaning.specs.Cut.{Lexed, Tokens, NotUtf8, OpenComment}
use Rattle.text_meaning.specs.Cutting.{lex}
use Rattle.text_meaning.specs.Nesting.{Nesting}
use Rattle.text_meaning.specs.Reading.{Target, Tree, Spells, nesting, Begins, is_too_deep, any_too_deep, StopsAt, IsLeftOut, IsTooDeepAt, Answer, Read, Syntax, TooDeep, Unsupported, IsAnswer, with_end, IsAnswerTo}
use Rattle.text_meaning.specs.Parsing.{State, Whole, AtOperand, step, level, run, levels, is_refused, is_left_out, fault, answer_at_end, answer_on, start, parse}
use Rattle.text_meaning.specs.TextAnswers.{answer_to, read}
use Rattle.reading_laws.specs.AnswerLaws.{TokensHaveOneAnswer, EachTextHasOneReading, TextsSpellOneTree}
use Rattle.token_laws.proofs.CutFollows.{or_front, or_back}
use Rattle.token_laws.proofs.OneCut.{one_cut}
use Rattle.reading_laws.proofs.Runs.{levels-append}
use Rattle.reading_laws.proofs.Spelled.{spelled_reads, trees_are_determined}
use Rattle.reading_laws.proofs.Fits.{Fits}
use Rattle.reading_laws.proofs.Sound.{step_fits, run_fits, start_fits, read_spelled}
use Rattle.reading_laws.proofs.Completes.{Alive, step_lives, start_alive, refused_run}
use Rattle.reading_laws.proofs.Stopping.{end_steps, begins_if, begins_only, run-snoc, goes_if, goes_only, lives_on, alive_at, left_out_if, left_out_only}

-- ---- nestings

shallow-append : (a b : List Nesting) → any_too_deep a ≡ false → any_too_deep b ≡ false → any_too_deep (a ++ b) ≡ false
shallow-append [] b h k = k
shallow-append (n ∷ a) b h k = rw (or_front (is_too_deep n) _ h) (shallow-append a b (or_back (is_too_deep n) _ h) k)

shallow_front : (a b : List Nesting) → any_too_deep (a ++ b) ≡ false → any_too_deep a ≡ false
shallow_front [] b h = refl
shallow_front (n ∷ a) b h = rw (or_front (is_too_deep n) _ h) (shallow_front a b (or_back (is_too_deep n) _ h))

deep_is : (n : Nesting) → is_too_deep n ≡ true → n ≡ Some 501
deep_is None h = absurd (true≢false (sym h))
deep_is (Some n) h = ap Some (eqb-true n 501 h)

levels-snoc : (u : State) (before : List Token) (t : Token) → levels u (before ++ (t ∷ [])) ≡ levels u before ++ (level (run u before) t.kind ∷ [])
unfolding levels
levels-snoc u before t = levels-append u before (t ∷ [])

-- ---- the machine's answer, step by step

pub answer_refused : (u : State) (t : Token) (ts : List Token) → is_refused (step u t) ≡ true → answer_on u (t ∷ ts) ≡ fault u t
unfolding answer_on
answer_refused u t ts h = rw (h, answer_on) refl

pub answer_deep : (u : State) (t : Token) (ts : List Token) → is_refused (step u t) ≡ false → is_too_deep (level u t.kind) ≡ true → answer_on u (t ∷ ts) ≡ TooDeep t.span.from
unfolding answer_on
answer_deep u t ts h k = rw (h, k, answer_on) refl

pub answer_goes : (u : State) (t : Token) (ts : List Token) → is_refused (step u t) ≡ false → is_too_deep (level u t.kind) ≡ false → answer_on u (t ∷ ts) ≡ answer_on (step u t) ts
unfolding answer_on
answer_goes u t ts h k = rw (h, k, answer_on) refl

pub answer_over : (u : State) (ts us : List Token) → is_refused (run u ts) ≡ false → any_too_deep (levels u ts) ≡ false → answer_on u (ts ++ us) ≡ answer_on (run u ts) us
unfolding run levels
answer_over u [] us h k = refl
answer_over u (t ∷ ts) us h k =
    let alive : is_refused (step u t) ≡ false = first (is_refused (step u t)) refl in
    answer_goes u t (ts ++ us) alive (or_front (is_too_deep (level u t.kind)) _ k) ∙ answer_over (step u t) ts us h (or_back (is_too_deep (level u t.kind)) _ k)
  where
    first : (b : Bool) → is_refused (step u t) ≡ b → is_refused (step u t) ≡ false
    first false e = e
    first true e = absurd (true≢false (sym (refused_run (step u t) ts e) ∙ h))

-- ---- the machine's answer is one

end_level : (u : State) (z : Span) → level u (Mark EndSign) ≡ None
end_level (AtOperand n row xs k) z = refl
end_level u z = refl

record Comes (target : Target) (before : List Token) (u : State) : Type 0 where
  at : run (start target) before ≡ u
  fits : Fits target u before
  alive : Alive u
  shallow : any_too_deep (levels (start target) before) ≡ false

comes_on : (target : Target) (before : List Token) (u : State) (t : Token) → Comes target before u → is_refused (step u t) ≡ false → is_too_deep (level u t.kind) ≡ false → Comes target (before ++ (t ∷ [])) (step u t)
comes_on target before u t c h k =
    let lev = levels-snoc (start target) before t ∙ ap (λ x. levels (start target) before ++ (level x t.kind ∷ [])) c.at in
    record {
      at = run-snoc (start target) before t ∙ ap (λ x. step x t) c.at;
      fits = step_fits target u before t c.fits;
      alive = lives_on (step u t) (step_lives u t c.alive) h;
      shallow = ap any_too_deep lev ∙ shallow-append (levels (start target) before) (level u t.kind ∷ []) c.shallow (rw k refl);
    }

stops_here : (target : Target) (before rest : List Token) (u : State) (t : Token) → Comes target before u → is_refused (step u t) ≡ true → StopsAt target (before ++ (t ∷ rest)) before t
stops_here target before rest u t c h =
    record {
      rest = rest;
      parts = refl;
      nestings = levels (start target) before;
      begins = begins_if target before (subst Alive (sym c.at) c.alive);
      shallow = c.shallow;
      stops = λ g. true≢false (sym h ∙ goes_only target before t u c.at g);
    }

fault_is : (target : Target) (before rest : List Token) (u : State) (t : Token) → Comes target before u → is_refused (step u t) ≡ true → IsAnswer target (before ++ (t ∷ rest)) (fault u t)
fault_is target before rest u t c h = go (is_left_out u t.kind) refl
  where
    stop : StopsAt target (before ++ (t ∷ rest)) before t
    stop = stops_here target before rest u t c h

    go : (b : Bool) → is_left_out u t.kind ≡ b → IsAnswer target (before ++ (t ∷ rest)) (fault u t)
    go true e = rw e (before, t, stop, left_out_if target before t u c.at c.fits e, refl)
    go false e = rw e (before, t, stop, (λ l. true≢false (sym (left_out_only target before t u c.at c.alive l) ∙ e)), refl)

deep_here : (target : Target) (before rest : List Token) (u : State) (t : Token) → Comes target before u → is_refused (step u t) ≡ false → is_too_deep (level u t.kind) ≡ true → IsTooDeepAt target (before ++ (t ∷ rest)) before t
deep_here target before rest u t c h k =
    let alive : Alive (run (start target) (before ++ (t ∷ []))) = subst Alive (sym (run-snoc (start target) before t ∙ ap (λ x. step x t) c.at)) (lives_on (step u t) (step_lives u t c.alive) h) in
    let lev : levels (start target) (before ++ (t ∷ [])) ≡ levels (start target) before ++ (Some 501 ∷ [])
    = levels-snoc (start target) before t ∙ ap (λ x. levels (start target) before ++ (level x t.kind ∷ [])) c.at ∙ ap (λ n. levels (start target) before ++ (n ∷ [])) (deep_is (level u t.kind) k) in
    record {
      rest = rest;
      parts = refl;
      nestings = levels (start target) before;
      begins = subst (Begins target (before ++ (t ∷ []))) lev (begins_if target (before ++ (t ∷ [])) alive);
      shallow = c.shallow;
    }

-- behind the end of the input
whole_answer : (target : Target) (before : List Token) (u : State) (t : Tree) → u ≡ Whole t → Comes target before u → IsAnswer target before (answer_on u [])
unfolding answer_on
whole_answer target before u t e c =
    let d = read_spelled target before t (c.at ∙ e) in
    subst (λ x. IsAnswer target before (answer_at_end x)) (sym e) (d, ap any_too_deep (sym (spelled_reads d).at) ∙ c.shallow)

end_answer : (target : Target) (before : List Token) (u : State) (z : Span) → Comes target before u → IsAnswer target (before ++ (sign z EndSign ∷ [])) (answer_on u (sign z EndSign ∷ []))
end_answer target before u z c = go (is_refused (step u (sign z EndSign))) refl
  where
    go : (b : Bool) → is_refused (step u (sign z EndSign)) ≡ b → IsAnswer target (before ++ (sign z EndSign ∷ [])) (answer_on u (sign z EndSign ∷ []))
    go true h = subst (IsAnswer target (before ++ (sign z EndSign ∷ []))) (sym (answer_refused u (sign z EndSign) [] h)) (fault_is target before [] u (sign z EndSign) c h)
    go false h =
        let flat : is_too_deep (level u (Mark EndSign)) ≡ false = ap is_too_deep (end_level u z) in
        let next = comes_on target before u (sign z EndSign) c h flat in
        subst (IsAnswer target (before ++ (sign z EndSign ∷ []))) (sym (answer_goes u (sign z EndSign) [] h flat))
        (elim (end_steps u z c.alive) [
          | inl r ↦ absurd (true≢false (sym r ∙ h))
          | inr w ↦ whole_answer target (before ++ (sign z EndSign ∷ [])) (step u (sign z EndSign)) w.0 w.1 next
        ])

answer_step : (target : Target) (before rest : List Token) (u : State) (t : Token) → Comes target before u → (b d : Bool) → is_refused (step u t) ≡ b → is_too_deep (level u t.kind) ≡ d
    → (Comes target (before ++ (t ∷ [])) (step u t) → IsAnswer target (before ++ (t ∷ rest)) (answer_on (step u t) rest))
    → IsAnswer target (before ++ (t ∷ rest)) (answer_on u (t ∷ rest))
answer_step target before rest u t c true d h k go = subst (IsAnswer target (before ++ (t ∷ rest))) (sym (answer_refused u t rest h)) (fault_is target before rest u t c h)
answer_step target before rest u t c false true h k go = subst (IsAnswer target (before ++ (t ∷ rest))) (sym (answer_deep u t rest h k)) (before, t, deep_here target before rest u t c h k, refl)
answer_step target before rest u t c false false h k go = subst (IsAnswer target (before ++ (t ∷ rest))) (sym (answer_goes u t rest h k)) (go (comes_on target before u t c h k))

answers : (target : Target) (before ts : List Token) (u : State) (z : Span) → Comes target before u → IsAnswer target (before ++ (ts ++ (sign z EndSign ∷ []))) (answer_on u (ts ++ (sign z EndSign ∷ [])))
answers target before [] u z c = end_answer target before u z c
answers target before (t ∷ ts) u z c =
    answer_step target before (ts ++ (sign z EndSign ∷ [])) u t c (is_refused (step u t)) (is_too_deep (level u t.kind)) refl refl
    (λ n. subst (λ l. IsAnswer target l (answer_on (step u t) (ts ++ (sign z EndSign ∷ [])))) (append_assoc before (t ∷ []) (ts ++ (sign z EndSign ∷ []))) (answers target (before ++ (t ∷ [])) ts (step u t) z n))

start_comes : (target : Target) → Comes target [] (start target)
unfolding run levels
start_comes target = record { at = refl; fits = start_fits target; alive = start_alive target; shallow = refl }

-- ---- there is no other

-- what is spelled is read to its end
spelled_answer : (target : Target) (ts : List Token) (t : Tree) (d : Spells target ts t) → any_too_deep (nesting d) ≡ false → Read t ≡ answer_on (start target) ts
unfolding answer_on
spelled_answer target ts t d h =
    let r = spelled_reads d in
    let alive : is_refused (run (start target) ts) ≡ false = ap is_refused r.to in
    let over = answer_over (start target) ts [] alive (ap any_too_deep r.at ∙ h) in
    sym (ap (answer_on (start target)) (sym (append-nil ts)) ∙ over ∙ ap (λ x. answer_on x []) r.to)

stops_answer : (target : Target) (input before : List Token) (t : Token) → StopsAt target input before t → answer_on (start target) input ≡ fault (run (start target) before) t
stops_answer target input before t s =
    let b = begins_only target before s.nestings s.begins in
    let u = run (start target) before in
    let alive : Alive u = alive_at target before b.0 in
    let refused : is_refused (step u t) ≡ true = go (is_refused (step u t)) refl alive in
    ap (answer_on (start target)) s.parts ∙ answer_over (start target) before (t ∷ s.rest) b.0 (ap any_too_deep b.1 ∙ s.shallow) ∙ answer_refused u t s.rest refused
  where
    go : (b : Bool) → is_refused (step (run (start target) before) t) ≡ b → Alive (run (start target) before) → is_refused (step (run (start target) before) t) ≡ true
    go true e a = e
    go false e a = absurd (s.stops (goes_if target before t (run (start target) before) refl (lives_on (step (run (start target) before) t) (step_lives (run (start target) before) t a) e)))

left_out_fault : (target : Target) (before : List Token) (t : Token) → Alive (run (start target) before) → IsLeftOut target before t → fault (run (start target) before) t ≡ Unsupported t.span.from
left_out_fault target before t a l = rw (left_out_only target before t (run (start target) before) refl a l) refl

other_fault : (target : Target) (before : List Token) (t : Token) → Fits target (run (start target) before) before → ¬ (IsLeftOut target before t) → fault (run (start target) before) t ≡ Syntax t.span.from
other_fault target before t f h = go (is_left_out (run (start target) before) t.kind) refl
  where
    go : (b : Bool) → is_left_out (run (start target) before) t.kind ≡ b → fault (run (start target) before) t ≡ Syntax t.span.from
    go true e = absurd (h (left_out_if target before t (run (start target) before) refl f e))
    go false e = rw e refl

snoc_is : {A : Type 0} (a b : List A) (x y : A) → a ++ (x ∷ []) ≡ b ++ (y ∷ []) → (a ≡ b) × (x ≡ y)
snoc_is [] [] x y e = (refl, cc)
snoc_is [] (b ∷ []) x y e = absurd cc
snoc_is [] (b ∷ c ∷ bs) x y e = absurd cc
snoc_is (a ∷ []) [] x y e = absurd cc
snoc_is (a ∷ c ∷ as') [] x y e = absurd cc
snoc_is (a ∷ as') (b ∷ bs) x y e = let h : a ≡ b = cc in let r = snoc_is as' bs x y cc in (rw (h, r.0) refl, r.1)

refused_one : (u : State) (t : Token) → is_refused u ≡ true → is_refused (step u t) ≡ true
unfolding run
refused_one u t e = refused_run u (t ∷ []) e

deep_answer : (target : Target) (input before : List Token) (t : Token) → IsTooDeepAt target input before t → answer_on (start target) input ≡ TooDeep t.span.from
deep_answer target input before t s =
    let u = run (start target) before in
    let b = begins_only target (before ++ (t ∷ [])) (s.nestings ++ (Some 501 ∷ [])) s.begins in
    let on : is_refused (step u t) ≡ false = subst (λ x. is_refused x ≡ false) (run-snoc (start target) before t) b.0 in
    let alive : is_refused u ≡ false = not_before (is_refused u) refl on in
    let lev = snoc_is (levels (start target) before) s.nestings (level u t.kind) (Some 501) (sym (levels-snoc (start target) before t) ∙ b.1) in
    ap (answer_on (start target)) s.parts ∙ answer_over (start target) before (t ∷ s.rest) alive (ap any_too_deep lev.0 ∙ s.shallow) ∙ answer_deep u t s.rest on (ap is_too_deep lev.1)
  where
    not_before : (c : Bool) → is_refused (run (start target) before) ≡ c → is_refused (step (run (start target) before) t) ≡ false → is_refused (run (start target) before) ≡ false
    not_before false e h = e
    not_before true e h = absurd (true≢false (sym (refused_one (run (start target) before) t e) ∙ h))

-- any answer is the machine's
pub only_answer : (target : Target) (input : List Token) (other : Answer) → IsAnswer target input other → other ≡ answer_on (start target) input
only_answer target input (Read t) h = spelled_answer target input t h.0 h.1
only_answer target input (Syntax at) h =
    let b = begins_only target h.0 h.2.nestings h.2.begins in
    sym (stops_answer target input h.0 h.1 h.2 ∙ other_fault target h.0 h.1 (run_fits target (start target) [] h.0 (start_fits target)) h.3 ∙ ap Syntax (sym h.4))
only_answer target input (TooDeep at) h = sym (deep_answer target input h.0 h.1 h.2 ∙ ap TooDeep (sym h.3))
only_answer target input (Unsupported at) h =
    let b = begins_only target h.0 h.2.nestings h.2.begins in
    sym (stops_answer target input h.0 h.1 h.2 ∙ left_out_fault target h.0 h.1 (alive_at target h.0 b.0) h.3 ∙ ap Unsupported (sym h.4))

pub one_answer : TokensHaveOneAnswer
unfolding parse
one_answer target ts end =
    record {
      is_answer = answers target [] ts (start target) (record { from = end; to = end }) (start_comes target);
      only = only_answer target (with_end ts end);
    }

lexed_answer : (target : Target) (lexed : Lexed) → IsAnswerTo target lexed (answer_to target lexed)
lexed_answer target (Tokens ts end) = (one_answer target ts end).is_answer
lexed_answer target (NotUtf8 at) = refl
lexed_answer target (OpenComment at) = refl

only_lexed_answer : (target : Target) (lexed : Lexed) (other : Answer) → IsAnswerTo target lexed other → other ≡ answer_to target lexed
only_lexed_answer target (Tokens ts end) other h = (one_answer target ts end).only other h
only_lexed_answer target (NotUtf8 at) other h = h
only_lexed_answer target (OpenComment at) other h = h

pub one_reading : EachTextHasOneReading
unfolding read
one_reading target text =
    record {
      is_read = (lex text, (one_cut text).is_cut, lexed_answer target (lex text));
      only = λ other h. only_lexed_answer target h.0 other h.2 ∙ ap (answer_to target) ((one_cut text).only h.0 h.1);
    }

-- ---- trees of a text

abbrev input_of : Lexed → List Token
input_of (Tokens ts end) = with_end ts end
input_of (NotUtf8 at) = []
input_of (OpenComment at) = []

pub one_spelled : TextsSpellOneTree
one_spelled target text t u h g =
    let cuts = (one_cut text).only in
    let same : with_end h.0 h.1 ≡ with_end g.0 g.1 = ap input_of (cuts (Tokens h.0 h.1) h.2 ∙ sym (cuts (Tokens g.0 g.1) g.2)) in
    trees_are_determined target (with_end g.0 g.1) t u (subst (λ ts. Spells target ts t) same h.3) g.3
