-- What the reader answers.
use Rattle.std.specs.Prelude.{List, ℕ}
use Rattle.text_meaning.specs.Cut.{NotUtf8, IsLexed}
use Rattle.text_meaning.specs.Reading.{Target, Syntax, TooDeep, Unsupported, Reads}
use Rattle.twelf_expressions.specs.declared.fault.ReadFault.{ReadFault}
use Rattle.twelf_expressions.specs.declared.fault.ReadFault.TheVariants as faults

-- The text has this fault. Want of memory says nothing of it.
abbrev pub IsFaultOf : Target → List ℕ → ReadFault → Type 0
IsFaultOf target text (faults.Syntax at) = Reads target text (Syntax at)
IsFaultOf target text (faults.TooDeep at) = Reads target text (TooDeep at)
IsFaultOf target text (faults.Unsupported at) = Reads target text (Unsupported at)
IsFaultOf target text faults.Memory = Unit {0}

-- The text is not UTF-8, and its first bad sequence is here.
abbrev pub IsNoText : List ℕ → ReadFault → Type 0
IsNoText text (faults.Syntax at) = IsLexed text (NotUtf8 at)
IsNoText text _ = ⊥
