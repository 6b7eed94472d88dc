-- The items of lines, command by command, and of lines that go on.
use Rattle.std.proofs.Common.{◌≡◌, ℕ, zero, suc, ◌+◌, ◌-◌, ◌≤◌, ◌<◌, Bool, true, false, cond, List, [], ◌∷◌, ◌++◌, length, refl, sym, ap, subst, ◌∙◌, arith}
use Rattle.std.specs.Prelude.{Option, Some, None, nat_lt, map}
use Rattle.std.proofs.lemmas.List.{length-append}
use Rattle.printing_meaning.specs.Lines.{content_of}
use Rattle.printing_meaning.specs.ScriptLines.{text_before, behind_end, line_after}
use Rattle.run_laws.proofs.TextLemmas.{behind_end-shorter}
use Rattle.edit_log_meaning.specs.Log.{Put}
use Rattle.run_meaning.specs.ScriptCommands.{kept, Command, EditCommand, Said, Puts, Says, Wrong, said_by, Next, Ends, Gives, Bad, Unended, ended, put_of, next_by, next_of}
use Rattle.name_meaning.specs.Limits.{put_limit}
use Rattle.run_meaning.specs.ScriptItems.{Item, Spoken, items_by, items_within, items_of}
use Rattle.run_meaning.specs.ScriptOutput.{has_fault}
use Rattle.run_laws.specs.RunLaws.{Fault, BadLine, UnendedText, fault_items}
use Rattle.run_laws.proofs.Lines.{text_before-append, behind_end-append}

ended-shorter : (name text : List ℕ) (behind : Option (List (List ℕ))) (n : ℕ) (spoken : Command) (rest : List (List ℕ))
    → ((lines : List (List ℕ)) → behind ≡ Some lines → length lines < n) → ended name text behind ≡ Gives spoken rest → length rest < n
ended-shorter name text None n spoken rest h e = absurd cc
ended-shorter name text (Some lines) n spoken rest h e = h rest cc

put_of-shorter : (name : List ℕ) (lines : List (List ℕ)) (spoken : Command) (rest : List (List ℕ)) → put_of name lines ≡ Gives spoken rest
    → length rest < length lines
put_of-shorter name lines spoken rest e = by_test (nat_lt put_limit (length (text_before lines))) e
  where
    by_test : (b : Bool) → cond b Bad (ended name (text_before lines) (behind_end lines)) ≡ Gives spoken rest → length rest < length lines
    by_test true h = absurd cc
    by_test false h = ended-shorter name (text_before lines) (behind_end lines) (length lines) spoken rest (λ others. behind_end-shorter lines others) h

next_by-shorter : (said : Said) (line : List ℕ) (lines : List (List ℕ)) (spoken : Command) (rest : List (List ℕ))
    → next_by said lines ≡ Gives spoken rest → length rest < length (line ∷ lines)
next_by-shorter (Says command) line lines spoken rest e = let same : lines ≡ rest = cc in rw (← same) (omega arith)
next_by-shorter (Puts name) line lines spoken rest e = let shorter : length rest < length lines = put_of-shorter name lines spoken rest e in omega arith
next_by-shorter Wrong line lines spoken rest e = absurd cc

-- a command takes a line at least
pub next_of-shorter : (lines : List (List ℕ)) (spoken : Command) (rest : List (List ℕ)) → next_of lines ≡ Gives spoken rest → length rest < length lines
next_of-shorter [] spoken rest e = absurd cc
next_of-shorter (line ∷ lines) spoken rest e = next_by-shorter (said_by (content_of line)) line lines spoken rest e

items_by-same : (next : Next) (line : ℕ) (f g : List (List ℕ) → List Item)
    → ((spoken : Command) (rest : List (List ℕ)) → next ≡ Gives spoken rest → f rest ≡ g rest) → items_by next line f ≡ items_by next line g
items_by-same Ends line f g h = refl
items_by-same (Gives spoken rest) line f g h = ap (λ (items : List Item). Spoken spoken ∷ items) (h spoken rest refl)
items_by-same Bad line f g h = refl
items_by-same Unended line f g h = refl

-- there are no more items than lines
items_within-same : (n m line : ℕ) (lines : List (List ℕ)) → length lines ≤ n → length lines ≤ m → items_within n line lines ≡ items_within m line lines
unfolding items_within
items_within-same zero zero line lines a b = refl
items_within-same zero (suc m) line [] a b = refl
items_within-same zero (suc m) line (first ∷ lines) a b = absurd (omega arith)
items_within-same (suc n) zero line [] a b = refl
items_within-same (suc n) zero line (first ∷ lines) a b = absurd (omega arith)
items_within-same (suc n) (suc m) line lines a b =
    items_by-same (next_of lines) line (λ rest. items_within n (line_after line lines rest) rest) (λ rest. items_within m (line_after line lines rest) rest)
    (λ spoken rest e. let shorter : length rest < length lines = next_of-shorter lines spoken rest e in
    items_within-same n m (line_after line lines rest) rest (omega arith) (omega arith))

-- the items of lines are those of what comes next
pub items_of-next : (line : ℕ) (lines : List (List ℕ)) → items_of line lines ≡ items_by (next_of lines) line (λ rest. items_of (line_after line lines rest) rest)
unfolding items_within
items_of-next line [] = refl
items_of-next line (first ∷ lines) =
    items_by-same (next_of (first ∷ lines)) line
    (λ rest. items_within (length lines) (line_after line (first ∷ lines) rest) rest) (λ rest. items_of (line_after line (first ∷ lines) rest) rest)
    (λ spoken rest e. let shorter : length rest < length (first ∷ lines) = next_of-shorter (first ∷ lines) spoken rest e in
    items_within-same (length lines) (length rest) (line_after line (first ∷ lines) rest) rest (omega arith) (omega arith))

-- items are commands and at most one fault, behind them
pub record Shape (items : List Item) : Type 0 where
  pub commands : List Command
  pub fault : Option Fault
  pub is : items ≡ map Spoken commands ++ fault_items fault

pub shape_within : (n line : ℕ) (lines : List (List ℕ)) → Shape (items_within n line lines)
unfolding items_within
shape_within zero line lines = record { commands = []; fault = None; is = refl }
shape_within (suc n) line lines = by_next (next_of lines) (λ rest. items_within n (line_after line lines rest) rest) (λ rest. shape_within n (line_after line lines rest) rest)
  where
    by_next : (next : Next) (behind : List (List ℕ) → List Item) → ((rest : List (List ℕ)) → Shape (behind rest)) → Shape (items_by next line behind)
    by_next Ends behind h = record { commands = []; fault = None; is = refl }
    by_next (Gives spoken rest) behind h = record {
      commands = spoken ∷ (h rest).commands;
      fault = (h rest).fault;
      is = ap (λ (items : List Item). Spoken spoken ∷ items) (h rest).is;
    }
    by_next Bad behind h = record { commands = []; fault = Some (BadLine line); is = refl }
    by_next Unended behind h = record { commands = []; fault = Some (UnendedText line); is = refl }

-- the next command is the same where more lines follow
put_by : (b : Bool) (name text : List ℕ) (behind : Option (List (List ℕ))) (more : List (List ℕ)) (spoken : Command) (rest : List (List ℕ))
    → cond b Bad (ended name text behind) ≡ Gives spoken rest
    → (behind ≡ Some rest) × (cond b Bad (ended name text (Some (rest ++ more))) ≡ Gives spoken (rest ++ more))
put_by true name text behind more spoken rest e = absurd cc
put_by false name text None more spoken rest e = absurd cc
put_by false name text (Some lines) more spoken rest e =
    let same : lines ≡ rest = cc in
    let put : EditCommand (Put name (kept text)) ≡ spoken = cc in
    (ap Some same, ap (λ (c : Command). Gives c (rest ++ more)) put)

put_of-append : (name : List ℕ) (lines more : List (List ℕ)) (spoken : Command) (rest : List (List ℕ)) → put_of name lines ≡ Gives spoken rest
    → put_of name (lines ++ more) ≡ Gives spoken (rest ++ more)
put_of-append name lines more spoken rest e =
    let parts = put_by (nat_lt put_limit (length (text_before lines))) name (text_before lines) (behind_end lines) more spoken rest e in
    let texts : text_before (lines ++ more) ≡ text_before lines = text_before-append lines more rest parts.0 in
    let behinds : behind_end (lines ++ more) ≡ Some (rest ++ more) = behind_end-append lines more rest parts.0 in
    ap (λ (text : List ℕ). cond (nat_lt put_limit (length text)) Bad (ended name text (behind_end (lines ++ more)))) texts
    ∙ ap (λ (behind : Option (List (List ℕ))). cond (nat_lt put_limit (length (text_before lines))) Bad (ended name (text_before lines) behind)) behinds
    ∙ parts.1

next_by-append : (said : Said) (lines more : List (List ℕ)) (spoken : Command) (rest : List (List ℕ)) → next_by said lines ≡ Gives spoken rest
    → next_by said (lines ++ more) ≡ Gives spoken (rest ++ more)
next_by-append (Puts name) lines more spoken rest e = put_of-append name lines more spoken rest e
next_by-append (Says command) lines more spoken rest e =
    let same : lines ≡ rest = cc in let one : command ≡ spoken = cc in rw (same, one) refl
next_by-append Wrong lines more spoken rest e = absurd cc

pub next_of-append : (lines more : List (List ℕ)) (spoken : Command) (rest : List (List ℕ)) → next_of lines ≡ Gives spoken rest
    → next_of (lines ++ more) ≡ Gives spoken (rest ++ more)
next_of-append [] more spoken rest e = absurd cc
next_of-append (line ∷ lines) more spoken rest e = next_by-append (said_by (content_of line)) lines more spoken rest e

line_after-append : (line : ℕ) (lines rest more : List (List ℕ)) → line_after line (lines ++ more) (rest ++ more) ≡ line_after line lines rest
line_after-append line lines rest more =
    let difference : length (lines ++ more) - length (rest ++ more) ≡ length lines - length rest =
    (let a : length (lines ++ more) ≡ length lines + length more = length-append lines more in
    let b : length (rest ++ more) ≡ length rest + length more = length-append rest more in omega arith) in
    rw difference refl

-- lines have something next
not_ended : (said : Said) (lines : List (List ℕ)) → next_by said lines ≡ Ends → ⊥
not_ended (Puts name) lines e = by_test (nat_lt put_limit (length (text_before lines))) (behind_end lines) e
  where
    by_test : (b : Bool) (behind : Option (List (List ℕ))) → cond b Bad (ended name (text_before lines) behind) ≡ Ends → ⊥
    by_test true behind h = absurd cc
    by_test false None h = absurd cc
    by_test false (Some rest) h = absurd cc
not_ended (Says command) lines e = absurd cc
not_ended Wrong lines e = absurd cc

-- the items of lines without a fault, and then those of the lines that follow
pub record Followed (items shorter : List Item) (more : List (List ℕ)) : Type 0 where
  pub line : ℕ
  pub is : items ≡ shorter ++ items_of line more

followed_by : (line : ℕ) (lines more : List (List ℕ)) (next : Next) → next_of lines ≡ next → 0 < length lines
    → ((rest : List (List ℕ)) → length rest < length lines → has_fault (items_of (line_after line lines rest) rest) ≡ false
    → Followed (items_of (line_after line lines rest) (rest ++ more)) (items_of (line_after line lines rest) rest) more)
    → has_fault (items_by next line (λ rest. items_of (line_after line lines rest) rest)) ≡ false
    → Followed (items_of line (lines ++ more)) (items_by next line (λ rest. items_of (line_after line lines rest) rest)) more
unfolding has_fault
followed_by line [] more next e some h f = absurd (omega arith)
followed_by line (first ∷ lines) more Ends e some h f = absurd (not_ended (said_by (content_of first)) lines e)
followed_by line (first ∷ lines) more (Gives spoken rest) e some h f =
    let shorter : length rest < length (first ∷ lines) = next_of-shorter (first ∷ lines) spoken rest e in
    let behind = h rest shorter f in
    let next : next_of ((first ∷ lines) ++ more) ≡ Gives spoken (rest ++ more) = next_of-append (first ∷ lines) more spoken rest e in
    record {
      line = behind.line;
      is = items_of-next line ((first ∷ lines) ++ more)
          ∙ ap (λ (n : Next). items_by n line (λ others. items_of (line_after line ((first ∷ lines) ++ more) others) others)) next
          ∙ ap (λ (n : ℕ). Spoken spoken ∷ items_of n (rest ++ more)) (line_after-append line (first ∷ lines) rest more)
          ∙ ap (λ (items : List Item). Spoken spoken ∷ items) behind.is;
    }
followed_by line (first ∷ lines) more Bad e some h f = absurd cc
followed_by line (first ∷ lines) more Unended e some h f = absurd cc

pub items_of-append : (n line : ℕ) (lines more : List (List ℕ)) → length lines ≤ n → has_fault (items_of line lines) ≡ false
    → Followed (items_of line (lines ++ more)) (items_of line lines) more
unfolding items_within
items_of-append n line [] more le h = record { line = line; is = refl }
items_of-append zero line (first ∷ lines) more le h = absurd (omega arith)
items_of-append (suc n) line (first ∷ lines) more le h =
    let here : items_of line (first ∷ lines) ≡ items_by (next_of (first ∷ lines)) line (λ rest. items_of (line_after line (first ∷ lines) rest) rest) = items_of-next line (first ∷ lines) in
    moved (sym here)
    (followed_by line (first ∷ lines) more (next_of (first ∷ lines)) refl (omega arith)
    (λ rest shorter f. items_of-append n (line_after line (first ∷ lines) rest) rest more (omega arith) f)
    (subst (λ (items : List Item). has_fault items ≡ false) here h))
  where
    moved : {items shorter other : List Item} {behind : List (List ℕ)} → shorter ≡ other → Followed items shorter behind → Followed items other behind
    moved {items} {shorter} {other} {behind} e f = subst (λ (xs : List Item). Followed items xs behind) e f
