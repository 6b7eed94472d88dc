-- Steps in which the code is cut, by the definitions of words, with a refusal in place of the fault of a word.
use Rattle.std.specs.Prelude.{◌≡◌, List, [], ◌∷◌, Option, Result, Ok, Err, ⊤, if◌then◌else◌}
use Rattle.name_meaning.specs.Names.{Name, Path}
use Rattle.text_meaning.specs.Tokens.{Span}
use Rattle.text_meaning.specs.Trees.{Written}
use Rattle.answer_meaning.specs.Answers.{◌>>=◌}
use Rattle.elaborate_meaning.specs.Rules.{Rule}
use Rattle.library_meaning.specs.Faces.{Environment, Known, IsAbsent, IsRefused, IsTheory, IsView, TheoryFace}
use Rattle.library_meaning.specs.Words.{Link, Meaning, Means, Faulty, followed_by, is_here, longer_word, meets, or_unknown, structures_link, structures_of, word_meaning}
use Rattle.link_meaning.specs.Assignments.{rule_of}
use Rattle.link_meaning.specs.Refusals.{Outcome, demand, refused}
use Rattle.mmt_syntax.specs.Readings.{read_span}
use Rattle.mmt_interface.specs.ReadRules.{read_rule}
use Rattle.mmt_interface.specs.Readings.{read_theory, read_view}
use Rattle.mmt_interface.specs.declared.verdict.Interface.{Interface}
use Rattle.mmt_interface.specs.declared.verdict.Interface.TheVariants as interfaces
use Rattle.morphism_words.specs.Answers.{IsModuleRule}
use Rattle.morphism_words.specs.declared.fault.MorphFault.{MorphFault}
use Rattle.morphism_words.specs.declared.fault.MorphFault.TheVariants.{Module, UnknownMorphism, Ends, Memory}

-- The fault is the refusal of the definition, whatever else it would answer. Want of memory says nothing.
abbrev pub Refuses : {B : Type 0} → MorphFault → Path → Outcome B → Type 0
Refuses (Module span rule) label outcome = IsModuleRule (read_rule rule) × (outcome ≡ refused (read_span span) (read_rule rule) label)
Refuses (UnknownMorphism span) label outcome = outcome ≡ refused (read_span span) Rule.UnknownName label
Refuses (Ends span) label outcome = outcome ≡ refused (read_span span) Rule.MorphismEnds label
Refuses Memory label outcome = ⊤

-- The call answers what the definition does: what is read off its result, or the refusal.
abbrev pub Answers : {A B : Type 0} → (A → B) → Result A MorphFault → Path → Outcome B → Type 0
Answers read (Ok a) label outcome = outcome ≡ Ok (read a)
Answers read (Err fault) label outcome = Refuses fault label outcome

-- What is known of a module that has this interface.
abbrev pub known_interface : Interface → Known
known_interface (interfaces.Theory face size) = IsTheory (read_theory face)
known_interface (interfaces.View view) = IsView (read_view view)

-- What is known of an accepted module, or the rule that a word breaks which names another.
abbrev pub known_answer : Span → Path → Known → Outcome Known
known_answer span label IsAbsent = refused span Rule.UnknownModule label
known_answer span label IsRefused = refused span Rule.DependencyRefused label
known_answer span label (IsTheory face) = Ok (IsTheory face)
known_answer span label (IsView view) = Ok (IsView view)

-- What one word means, or the rule that it breaks, at its place.
abbrev pub word_answer : Span → Path → Meaning → Outcome Link
word_answer span label (Means link) = Ok link
word_answer span label (Faulty fault) = refused span (rule_of fault) label

-- What a word of two or more names means, by its first name and the others.
abbrev pub longer_answer : Environment → Option TheoryFace → Name → Path → Meaning
longer_answer environment here name path =
    if is_here here name then or_unknown (structures_link environment name (structures_of here) path)
    else longer_word environment name (environment name) path

-- The link so far, followed by one word.
abbrev pub next_answer : Environment → Option TheoryFace → Path → Link → Written → Outcome Link
next_answer environment here label so_far word = do
  next ← word_answer word.span label (word_meaning environment here word.path)
  _ ← demand (meets environment so_far next) word.span Rule.MorphismEnds label
  Ok (followed_by so_far next)

-- The link so far, followed by the words.
abbrev pub row_answer : Environment → Option TheoryFace → Path → Link → List Written → Outcome Link
row_answer environment here label so_far [] = Ok so_far
row_answer environment here label so_far (word ∷ words) = do
  next ← next_answer environment here label so_far word
  row_answer environment here label next words
