-- Answers taken apart, and put together.
use Rattle.std.proofs.Common.{◌≡◌, Bool, true, false, Option, Some, None, Ok, refl, ap}
use Rattle.std.specs.Prelude.{⊤}
use Rattle.text_meaning.specs.Tokens.{Span}
use Rattle.elaborate_meaning.specs.Rules.{Rule}
use Rattle.elaborate_meaning.specs.Answers.{must, or_broken}
use Rattle.list_laws.proofs.Answers.{ok_same}

pub must_holds : (test : Bool) (span : Span) (rule : Rule) (done : ⊤) → must test span rule ≡ Ok done → test ≡ true
must_holds true span rule done h = refl
must_holds false span rule done h = absurd (cc)

pub must_by : (test : Bool) (span : Span) (rule : Rule) → test ≡ true → must test span rule ≡ Ok tt
must_by test span rule h = ap (λ b. must b span rule) h

pub there : {A : Type 0} (o : Option A) (span : Span) (rule : Rule) (item : A) → or_broken o span rule ≡ Ok item → o ≡ Some item
there None span rule item h = absurd (cc)
there (Some x) span rule item h = ap Some (ok_same h)

pub there_by : {A : Type 0} (o : Option A) (span : Span) (rule : Rule) (item : A) → o ≡ Some item → or_broken o span rule ≡ Ok item
there_by o span rule item h = ap (λ z. or_broken z span rule) h
