-- What a word means, by what is known of its module.
use Rattle.std.proofs.Common.{◌≡◌, refl}
use Rattle.name_meaning.specs.Names.{Name, Path}
use Rattle.text_meaning.specs.Tokens.{Span}
use Rattle.answer_meaning.specs.Answers.{◌>>=◌}
use Rattle.library_meaning.specs.Faces.{Environment, Known, IsAbsent, IsRefused, IsTheory, IsView}
use Rattle.library_meaning.specs.Words.{longer_word, simple_word}
use Rattle.morphism_words.specs.Steps.{known_answer, word_answer}

pub simple_known : (span : Span) (label : Path) (known : Known)
    → word_answer span label (simple_word known) ≡ (known_answer span label known >>= (λ k. word_answer span label (simple_word k)))
simple_known span label IsAbsent = refl
simple_known span label IsRefused = refl
simple_known span label (IsTheory face) = refl
simple_known span label (IsView view) = refl

pub longer_known : (span : Span) (label : Path) (environment : Environment) (name : Name) (path : Path) (known : Known)
    → word_answer span label (longer_word environment name known path) ≡ (known_answer span label known >>= (λ k. word_answer span label (longer_word environment name k path)))
longer_known span label environment name path IsAbsent = refl
longer_known span label environment name path IsRefused = refl
longer_known span label environment name path (IsTheory face) = refl
longer_known span label environment name path (IsView view) = refl
