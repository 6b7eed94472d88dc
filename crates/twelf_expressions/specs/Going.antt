-- What a part of a reader does to the answer of the machine: it takes some tokens, and the machine goes on from another state.
use Rattle.std.specs.Prelude.{◌≡◌, Bool, true, false, List, [], ◌∷◌, Result, Ok, Err}
use Rattle.text_meaning.specs.Tokens.{Kind, Mark, Token, SigWord, ViewWord, OtherWord, RightBrace, BlankSign}
use Rattle.text_meaning.specs.Reading.{Answer, Syntax, TooDeep, Unsupported}
use Rattle.text_meaning.specs.Parsing.{Simple, State, Refused, answer_on, fault, is_refused}
use Rattle.mmt_syntax.specs.Readings.{read_span}
use Rattle.text_meaning.specs.Trees.{first_name}
use Rattle.mmt_syntax.specs.declared.written.Written.{Written}
use Rattle.twelf_expressions.specs.declared.fault.ReadFault.{ReadFault}
use Rattle.twelf_expressions.specs.declared.fault.ReadFault.TheVariants as faults
use Rattle.twelf_expressions.specs.declared.refusing.Spot.{Spot}
use Rattle.twelf_expressions.specs.declared.refusing.Spot.TheVariants as spots

-- The fault is this answer. Want of memory says nothing of it.
abbrev pub Fails : ReadFault → Answer → Type 0
Fails (faults.Syntax at) answer = answer ≡ Syntax at
Fails (faults.TooDeep at) answer = answer ≡ TooDeep at
Fails (faults.Unsupported at) answer = answer ≡ Unsupported at
Fails faults.Memory answer = Unit {0}

-- The answer goes on as the function says of the value, or it is the fault.
abbrev pub Goes : {X : Type 0} → Answer → Result X ReadFault → (X → Answer) → Type 0
Goes answer (Ok x) next = answer ≡ next x
Goes answer (Err f) next = Fails f answer

-- the answer where the next token leads to a state by this function
abbrev pub answer_with : (Token → State) → List Token → Answer
answer_with f [] = Syntax 0
answer_with f (t ∷ ts) = elim (is_refused (f t)) [ true ↦ fault Refused t | false ↦ answer_on (f t) ts ]

-- what a place of refusal says of the state
abbrev pub takes_at : Spot → Bool
takes_at spots.Item = true
takes_at _ = false

abbrev pub bare_at : Spot → Bool
bare_at spots.Variable = true
bare_at _ = false

-- a token that is refused there is one that this profile leaves out
abbrev pub left_out_at : Spot → Kind → Bool
left_out_at spot (Mark OtherWord) = true
left_out_at spot (Mark BlankSign) = true
left_out_at spot (Mark SigWord) = takes_at spot
left_out_at spot (Mark ViewWord) = takes_at spot
left_out_at spot (Mark RightBrace) = bare_at spot
left_out_at spot _ = false

-- a written path of one name
abbrev pub simple_of : Written → Simple
simple_of w = record { at = read_span w.span; name = first_name w.path }
