-- Faults of words that are refusals of the definition.
use Rattle.std.proofs.Common.{◌≡◌, Result, sym, ap, subst}
use Rattle.name_meaning.specs.Names.{Path}
use Rattle.answer_meaning.specs.Answers.{◌>>=◌}
use Rattle.library_meaning.specs.Words as words
use Rattle.link_meaning.specs.Refusals.{Outcome}
use Rattle.morphism_words.specs.Answers.{IsFirstFault}
use Rattle.morphism_words.specs.Steps.{Answers, Refuses}
use Rattle.morphism_words.specs.declared.fault.MorphFault.{MorphFault}
use Rattle.morphism_words.specs.declared.fault.MorphFault.TheVariants.{Module, UnknownMorphism, Ends, Memory}

-- The same outcome.
pub refuses_same : {B : Type 0} (fault : MorphFault) (label : Path) (outcome other : Outcome B) → outcome ≡ other → Refuses fault label outcome → Refuses fault label other
refuses_same fault label outcome other e h = subst (Refuses fault label) e h

-- What is refused at first is refused, whatever comes next.
pub refuses_then : {A B : Type 0} (fault : MorphFault) (label : Path) (first : Outcome A) (next : A → Outcome B) → Refuses fault label first → Refuses fault label (first >>= next)
refuses_then (Module span rule) label first next h = (h.0, ap (λ o. o >>= next) h.1)
refuses_then (UnknownMorphism span) label first next h = ap (λ o. o >>= next) h
refuses_then (Ends span) label first next h = ap (λ o. o >>= next) h
refuses_then Memory label first next h = tt

-- So of a whole that begins so.
pub refuses_first : {A B : Type 0} (fault : MorphFault) (label : Path) (first : Outcome A) (next : A → Outcome B) (whole : Outcome B) → whole ≡ (first >>= next) → Refuses fault label first → Refuses fault label whole
refuses_first fault label first next whole e h = refuses_same fault label (first >>= next) whole (sym e) (refuses_then fault label first next h)

-- The fault of the public call.
pub first_fault : (fault : MorphFault) (label : Path) (outcome : Outcome words.Link) → Refuses fault label outcome → IsFirstFault fault label outcome
first_fault (Module span rule) label outcome h = h
first_fault (UnknownMorphism span) label outcome h = h
first_fault (Ends span) label outcome h = h
first_fault Memory label outcome h = h

pub answers_same : {A B : Type 0} (read : A → B) (result : Result A MorphFault) (label : Path) (outcome other : Outcome B) → outcome ≡ other → Answers read result label outcome → Answers read result label other
answers_same read result label outcome other e h = subst (Answers read result label) e h
