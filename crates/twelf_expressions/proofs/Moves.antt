-- The machine's answer at one token.
use Rattle.std.proofs.Common.{◌≡◌, ℕ, ◌≤◌, ne_eqb, arith, Some, Bool, true, false, List, [], ◌∷◌, ◌++◌, None, if◌then◌else◌, refl, sym, ap, subst, ◌∙◌}
use Rattle.text_meaning.specs.Tokens.{Span, Sign, Kind, Mark, Token, sign, SigWord, ViewWord, RightBrace, DotSign}
use Rattle.text_meaning.specs.Reading.{Answer, Syntax, TooDeep, Unsupported, is_too_deep}
use Rattle.text_meaning.specs.Parsing.{Atoms, Waiting, Row, NoAtoms, State, Refused, Expect, MoreWords, AtOperand, at_operand, begins_operand, operand_ends, step, level, fault, expect, answer_on, is_refused, is_left_out, takes_include, is_bare_binder}
use Rattle.reading_laws.proofs.OneAnswer.{answer_refused, answer_deep, answer_goes}
use Rattle.reading_laws.proofs.Completes.{expect_here}
use Rattle.twelf_expressions.specs.Left.{left, next_kind, next_token}
use Rattle.twelf_expressions.specs.Going.{Fails, Goes, answer_with, bare_at, left_out_at, takes_at}
use Rattle.twelf_expressions.specs.declared.fault.ReadFault.{ReadFault}
use Rattle.twelf_expressions.specs.declared.refusing.Spot.{Spot}
use Rattle.twelf_expressions.specs.declared.refusing.Spot.TheVariants as spots
use Rattle.twelf_expressions.specs.declared.reader.Reader.{Reader}
use Rattle.text_meaning.specs.Trees.{Written}
use Rattle.twelf_expressions.specs.Signs.{is_path}
use Rattle.std.specs.Prelude.{Result, Ok, Err, IsErrAnd}
use Rattle.std.proofs.lemmas.List.Sums.{fold-append}
use Rattle.twelf_expressions.specs.Frames.{waits, waiting}
use Rattle.twelf_expressions.specs.declared.frame.Frame.{Frame}
use Rattle.twelf_expressions.proofs.SignCases.{operand_begins, words_other}

-- one token is taken
pub moves : (s u : State) (t : Token) (ts : List Token) → step s t ≡ u → is_refused u ≡ false → is_too_deep (level s t.kind) ≡ false → answer_on s (t ∷ ts) ≡ answer_on u ts
moves s u t ts e h d = answer_goes s t ts (ap is_refused e ∙ h) d ∙ ap (λ v. answer_on v ts) e

-- a sign that must come
pub expected : (m : Sign) (next : State) (s : Span) (ts : List Token) → is_refused next ≡ false → answer_on (Expect m next) (sign s m ∷ ts) ≡ answer_on next ts
expected m next s ts h = moves (Expect m next) next (sign s m) ts (expect_here m next) h refl

-- ---- faults

pub same_left_out : (s u : State) → takes_include s ≡ takes_include u → is_bare_binder s ≡ is_bare_binder u → (k : Kind) → is_left_out s k ≡ is_left_out u k
same_left_out s u e g (Mark SigWord) = e
same_left_out s u e g (Mark ViewWord) = e
same_left_out s u e g (Mark RightBrace) = g
same_left_out s u e g _ = refl

pub same_fault : (s u : State) → takes_include s ≡ takes_include u → is_bare_binder s ≡ is_bare_binder u → (t : Token) → fault s t ≡ fault u t
same_fault s u e g t = rw (same_left_out s u e g t.kind) refl

pub left_out_by : (s : State) (spot : Spot) → takes_include s ≡ takes_at spot → is_bare_binder s ≡ bare_at spot → (k : Kind) → is_left_out s k ≡ left_out_at spot k
left_out_by s spot e g (Mark SigWord) = e
left_out_by s spot e g (Mark ViewWord) = e
left_out_by s spot e g (Mark RightBrace) = g
left_out_by s spot e g _ = refl

-- ---- behind a whole expression

pub with_refused : (f : Token → State) (t : Token) (ts : List Token) → is_refused (f t) ≡ true → answer_with f (t ∷ ts) ≡ fault Refused t
with_refused f t ts h = rw (h, answer_with) refl

pub with_goes : (f : Token → State) (t : Token) (ts : List Token) → is_refused (f t) ≡ false → answer_with f (t ∷ ts) ≡ answer_on (f t) ts
with_goes f t ts h = rw (h, answer_with) refl

-- only the state that the next token leads to counts
pub with_same : (f g : Token → State) (t : Token) (ts : List Token) → f t ≡ g t → answer_with f (t ∷ ts) ≡ answer_with g (t ∷ ts)
with_same f g t ts e = ap (λ u. elim (is_refused u) [ true ↦ fault Refused t | false ↦ answer_on u ts ]) e

-- a state in which no declaration and no assignment could begin, which is behind no variable, and at no nesting
pub record IsPlain (s : State) : Type 0 where
  pub takes : takes_include s ≡ false
  pub bare : is_bare_binder s ≡ false

pub plain_answer : (s : State) (t : Token) (ts : List Token) → IsPlain s → is_too_deep (level s t.kind) ≡ false → answer_on s (t ∷ ts) ≡ answer_with (step s) (t ∷ ts)
plain_answer s t ts p d = go (is_refused (step s t)) refl
  where
    go : (b : Bool) → is_refused (step s t) ≡ b → answer_on s (t ∷ ts) ≡ answer_with (step s) (t ∷ ts)
    go true e = answer_refused s t ts e ∙ same_fault s Refused p.takes p.bare t ∙ sym (with_refused (step s) t ts e)
    go false e = answer_goes s t ts e d ∙ sym (with_goes (step s) t ts e)

-- ---- what is left

-- what is behind the next token
abbrev pub behind_next : List Token → List Token
behind_next [] = []
behind_next (t ∷ ts) = ts

-- there is always a next token
pub has_next : (r : Reader) → left r ≡ next_token (left r) ∷ behind_next (left r)
has_next r = refl

-- ---- the next token is refused

abbrev pub fault_by : Bool → ℕ → Answer
fault_by left_out at = if left_out then Unsupported at else Syntax at

pub refused_as : (r : Reader) (s : State) (spot : Spot) (b : Bool) → takes_include s ≡ takes_at spot → is_bare_binder s ≡ bare_at spot → is_refused (step s (next_token (left r))) ≡ true → left_out_at spot (next_kind (left r)) ≡ b
    → answer_on s (left r) ≡ fault_by b (next_token (left r)).span.from
refused_as r s spot b e g h l =
    ap (answer_on s) (has_next r) ∙ answer_refused s (next_token (left r)) (behind_next (left r)) h
    ∙ ap (λ x. fault_by x (next_token (left r)).span.from) (left_out_by s spot e g (next_kind (left r)) ∙ l)

pub refused_behind : (r : Reader) (f : Token → State) (b : Bool) → is_refused (f (next_token (left r))) ≡ true → left_out_at spots.Elsewhere (next_kind (left r)) ≡ b
    → answer_with f (left r) ≡ fault_by b (next_token (left r)).span.from
refused_behind r f b h l =
    ap (answer_with f) (has_next r) ∙ with_refused f (next_token (left r)) (behind_next (left r)) h
    ∙ ap (λ x. fault_by x (next_token (left r)).span.from) (left_out_by Refused spots.Elsewhere refl refl (next_kind (left r)) ∙ l)

-- an operand that would be too deep
pub too_deep_as : (r : Reader) (row : Row) (k : Waiting) → begins_operand (next_kind (left r)) ≡ true → answer_on (AtOperand 501 row NoAtoms k) (left r) ≡ TooDeep (next_token (left r)).span.from
too_deep_as r row k h =
    let t = next_token (left r) in
    ap (answer_on (AtOperand 501 row NoAtoms k)) (has_next r)
    ∙ answer_deep (AtOperand 501 row NoAtoms k) t (behind_next (left r)) (operand_begins 501 row NoAtoms k t.span t.kind h) (rw (h, level) refl)

-- ---- what a part of a reader promises

-- behind a whole expression, where a sign must come
pub with_expected : (r : Reader) (m : Sign) (next : State) → answer_with (λ t. expect m t.kind next) (left r) ≡ answer_on (Expect m next) (left r)
with_expected r m next =
    ap (answer_with (λ t. expect m t.kind next)) (has_next r)
    ∙ sym (plain_answer (Expect m next) (next_token (left r)) (behind_next (left r)) (record { takes = refl; bare = refl }) refl)
    ∙ ap (answer_on (Expect m next)) (sym (has_next r))

-- a token that is taken, from what is left
pub took : (s u : State) {t : Token} {before after : List Token} → before ≡ t ∷ after → step s t ≡ u → is_refused u ≡ false → is_too_deep (level s t.kind) ≡ false → answer_on s before ≡ answer_on u after
took s u {t} {before} {after} e h a d = ap (answer_on s) e ∙ moves s u t after h a d

pub took_behind : (f : Token → State) (u : State) {t : Token} {before after : List Token} → before ≡ t ∷ after → f t ≡ u → is_refused u ≡ false → answer_with f before ≡ answer_on u after
took_behind f u {t} {before} {after} e h a = ap (answer_with f) e ∙ with_goes f t after (ap is_refused h ∙ a) ∙ ap (λ v. answer_on v after) h

-- behind the words of a morphism
pub words_end : (r : Reader) (ws : List Written) (done : List Written → State) → is_path (next_kind (left r)) ≡ false → answer_on (MoreWords ws done) (left r) ≡ answer_on (Expect DotSign (done ws)) (left r)
words_end r ws done h =
    let t = next_token (left r) in
    ap (answer_on (MoreWords ws done)) (has_next r)
    ∙ plain_answer (MoreWords ws done) t (behind_next (left r)) (record { takes = refl; bare = refl }) refl
    ∙ with_same (step (MoreWords ws done)) (step (Expect DotSign (done ws))) t (behind_next (left r)) (words_other ws done t.span t.kind h)
    ∙ sym (plain_answer (Expect DotSign (done ws)) t (behind_next (left r)) (record { takes = refl; bare = refl }) refl)
    ∙ ap (answer_on (Expect DotSign (done ws))) (sym (has_next r))

-- an operand stands at a nesting that is not too deep
pub shallow : (n : ℕ) (begins : Bool) → n ≤ 500 → is_too_deep (if begins then Some n else None) ≡ false
shallow n true h = ne_eqb n 501 (λ e. absurd (omega arith))
shallow n false h = refl

-- a token that an operand takes
pub took_operand : (n : ℕ) (row : Row) (xs : Atoms) (k : Waiting) (u : State) {t : Token} {before after : List Token} → n ≤ 500 → before ≡ t ∷ after → at_operand n row xs k t.span t.kind ≡ u → is_refused u ≡ false
    → answer_on (AtOperand n row xs k) before ≡ answer_on u after
took_operand n row xs k u {t} h e s a = took (AtOperand n row xs k) u e s a (shallow n (begins_operand t.kind) h)

-- a token that ends an operand
pub ends_operand : (r : Reader) (n : ℕ) (row : Row) (xs : Atoms) (k : Waiting) → n ≤ 500 → at_operand n row xs k (next_token (left r)).span (next_kind (left r)) ≡ operand_ends row xs k (next_token (left r))
    → answer_on (AtOperand n row xs k) (left r) ≡ answer_with (λ t. operand_ends row xs k t) (left r)
ends_operand r n row xs k h e =
    let t = next_token (left r) in
    ap (answer_on (AtOperand n row xs k)) (has_next r)
    ∙ plain_answer (AtOperand n row xs k) t (behind_next (left r)) (record { takes = refl; bare = refl }) (shallow n (begins_operand t.kind) h)
    ∙ with_same (step (AtOperand n row xs k)) (λ t. operand_ends row xs k t) t (behind_next (left r)) e
    ∙ ap (answer_with (λ t. operand_ends row xs k t)) (sym (has_next r))

-- frames that wait, and one more
pub one_more_waits : (k : Waiting) (fs gs : List Frame) (f : Frame) → gs ≡ fs ++ (f ∷ []) → waiting k gs ≡ waits (waiting k fs) f
one_more_waits k fs gs f e = ap (waiting k) e ∙ fold-append waits k fs (f ∷ [])

pub goes_from : {X : Type 0} (r : Result X ReadFault) (a b : Answer) (next : X → Answer) → a ≡ b → Goes b r next → Goes a r next
goes_from r a b next e h = subst (λ x. Goes x r next) (sym e) h

pub failed : {a b : Answer} (f : ReadFault) → a ≡ b → Fails f b → Fails f a
failed f e h = subst (Fails f) (sym e) h

-- the exit of a `?`: where the answer goes on as another, and the fault is that one's
pub stopped : {X : Type 0} {a b : Answer} (r : Result X ReadFault) (f : ReadFault) (next : X → Answer) → IsErrAnd r (λ e. e ≡ f) → a ≡ b → Fails f b → Goes a r next
stopped (Ok x) f next h came g = absurd h
stopped {a = a} (Err e) f next h came g = subst (λ y. Fails y a) (sym h) (failed f came g)
