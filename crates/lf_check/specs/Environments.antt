-- The signature and the context of an environment.
use Rattle.std.specs.Prelude.{◌∷◌, take}
use Rattle.lf_meaning.specs.Terms.{Context}
use Rattle.lf_meaning.specs.Signatures.{Signature}
use Rattle.term_trees.specs.Readings.{read_family, read_signature, read_context}
use Rattle.lf_check.specs.declared.environment.Environment.{Environment}
use Rattle.lf_check.specs.declared.environment.Variables.{Variables}
use Rattle.lf_check.specs.declared.environment.Variables.TheOpen as variables
use Rattle.lf_check.specs.declared.environment.Variables.TheFolds.{fold-Variables}

-- The declarations that count.
abbrev pub signature_over : Environment → Signature
signature_over environment = read_signature (take environment.count environment.sig.now)

-- The families of variables, given those of the outer ones.
abbrev pub read_variables_layer : variables.Variables-F Context → Context
read_variables_layer (variables.Given ctx) = read_context ctx.now
read_variables_layer (variables.Bound family outer) = read_family family.now ∷ outer.now

abbrev pub read_variables : Variables → Context
read_variables = fold-Variables Context read_variables_layer

abbrev pub context_over : Environment → Context
context_over environment = read_variables environment.variables
