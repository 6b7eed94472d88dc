-- From the machine's answer to what a text is read as.
use Rattle.std.specs.Prelude.{IfOk, IfErr, IsErrAnd, Result, Ok, Err}
use Rattle.std.proofs.Common.{◌≡◌, ℕ, List, refl, sym, subst}
use Rattle.text_meaning.specs.Cut.{NotUtf8}
use Rattle.text_meaning.specs.Reading.{Target, Answer, Syntax, Reads}
use Rattle.text_meaning.specs.TextAnswers.{read}
use Rattle.reading_laws.proofs.OneAnswer.{one_reading}
use Rattle.twelf_expressions.specs.Going.{Fails, Goes}
use Rattle.twelf_reader.specs.Answers.{IsFaultOf, IsNoText}
use Rattle.twelf_expressions.proofs.Moves.{stopped}
use Rattle.twelf_expressions.specs.declared.fault.ReadFault.{ReadFault}
use Rattle.twelf_expressions.specs.declared.fault.ReadFault.TheVariants as faults

-- a text that is not UTF-8
pub no_text_fails : (target : Target) (text : List ℕ) (f : ReadFault) → IsNoText text f → Fails f (read target text)
no_text_fails target text (faults.Syntax at) h = sym ((one_reading target text).only (Syntax at) (NotUtf8 at, h, refl))
no_text_fails target text _ h = absurd h

pub no_text_goes : {X : Type 0} (target : Target) (text : List ℕ) (r : Result X ReadFault) (f : ReadFault) (next : X → Answer) → IsErrAnd r (λ e. e ≡ f) → IsNoText text f → Goes (read target text) r next
no_text_goes target text r f next e h = stopped r f next e refl (no_text_fails target text f h)

-- ---- the clauses of the two calls

pub fails_reads : (target : Target) (text : List ℕ) (f : ReadFault) → Fails f (read target text) → IsFaultOf target text f
fails_reads target text (faults.Syntax at) h = subst (Reads target text) h (one_reading target text).is_read
fails_reads target text (faults.TooDeep at) h = subst (Reads target text) h (one_reading target text).is_read
fails_reads target text (faults.Unsupported at) h = subst (Reads target text) h (one_reading target text).is_read
fails_reads target text faults.Memory h = tt

pub ok_reads : {X : Type 0} (target : Target) (text : List ℕ) (r : Result X ReadFault) (f : X → Answer) → Goes (read target text) r f → IfOk r (λ x. Reads target text (f x))
ok_reads target text (Ok x) f h = subst (Reads target text) h (one_reading target text).is_read
ok_reads target text (Err e) f h = tt

pub fault_reads : {X : Type 0} (target : Target) (text : List ℕ) (r : Result X ReadFault) (f : X → Answer) → Goes (read target text) r f → IfErr r (λ e. IsFaultOf target text e)
fault_reads target text (Ok x) f h = tt
fault_reads target text (Err e) f h = fails_reads target text e h

pub only_reads : {X : Type 0} (target : Target) (text : List ℕ) (r : Result X ReadFault) (f : X → Answer) → Goes (read target text) r f → (answer : Answer) → Reads target text answer → Goes answer r f
only_reads target text r f h answer g = subst (λ a. Goes a r f) (sym ((one_reading target text).only answer g)) h
