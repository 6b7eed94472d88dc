-- The names on which a text depends, by its answer.
use Rattle.std.proofs.Common.{◌≡◌, ℕ, [], ◌⊎◌, inl, inr, sym, ap, subst}
use Rattle.name_meaning.specs.Names.{Name, Text}
use Rattle.text_meaning.specs.Reading.{Answer, ModuleText}
use Rattle.text_meaning.specs.TextAnswers.{read}
use Rattle.twelf_expressions.specs.Going.{Fails}
use Rattle.twelf_expressions.specs.declared.fault.ReadFault.{ReadFault}
use Rattle.twelf_expressions.specs.declared.fault.ReadFault.TheVariants as faults
use Rattle.text_meaning.specs.Dependencies as meaning
use Rattle.twelf_reader.specs.Dependencies.{names_in}

-- The names that a text gives, by the answer of its reading.
pub text_names : (name : Name) (text : Text) (answer : Answer) → read ModuleText text ≡ answer → names_in (meaning.answer_dependencies answer) ≡ meaning.dependencies name text
unfolding meaning.dependencies
text_names name text answer h = ap (λ a. names_in (meaning.answer_dependencies a)) (sym h)

-- A fault gives none.
pub no_names : (fault : ReadFault) (answer : Answer) → ((at : ℕ) × (fault ≡ faults.Syntax at)) ⊎ (((at : ℕ) × (fault ≡ faults.TooDeep at)) ⊎ ((at : ℕ) × (fault ≡ faults.Unsupported at))) → Fails fault answer → [] ≡ names_in (meaning.answer_dependencies answer)
no_names fault answer (inl e) h = sym (ap (λ a. names_in (meaning.answer_dependencies a)) (subst (λ f. Fails f answer) e.1 h))
no_names fault answer (inr (inl e)) h = sym (ap (λ a. names_in (meaning.answer_dependencies a)) (subst (λ f. Fails f answer) e.1 h))
no_names fault answer (inr (inr e)) h = sym (ap (λ a. names_in (meaning.answer_dependencies a)) (subst (λ f. Fails f answer) e.1 h))
