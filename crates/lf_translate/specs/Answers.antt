-- What the answers of this crate say, in the words of the definitions.
use Rattle.std.specs.Prelude.{◌≡◌, Option, Some, None, Result, Ok, Err, ⊤}
use Rattle.lf_meaning.specs.Terms.{Constant}
use Rattle.term_trees.specs.Readings.{read_constant}
use Rattle.lf_translate.specs.declared.fault.TranslateFault.{TranslateFault}
use Rattle.lf_translate.specs.declared.fault.TranslateFault.TheVariants.{Unmapped, Memory}

-- The fault names the constant. Want of memory says nothing.
abbrev pub Names : TranslateFault → Option Constant → Type 0
Names (Unmapped name) constant = constant ≡ Some (read_constant name)
Names Memory constant = ⊤

-- A translation that answers: Ok where each constant has an image, with what the definitions give; else the first constant
-- without one.
abbrev pub Answers : {A B : Type 0} → (A → B) → Result A TranslateFault → Option Constant → B → Type 0
Answers read (Ok a) unmapped translated = (unmapped ≡ None) × (read a ≡ translated)
Answers read (Err fault) unmapped translated = Names fault unmapped
