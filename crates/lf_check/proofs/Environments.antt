-- The families of variables.
use Rattle.std.proofs.Common.{◌≡◌, ℕ, suc, List, [], ◌∷◌, ◌++◌, map, reverse, Bor, refl, sym, ap, ◌∙◌}
use Rattle.std.specs.Prelude.{slice_get}
use Rattle.std.specs.Option.{option_map}
use Rattle.std.proofs.lemmas.Option.{slice_get-map}
use Rattle.list_laws.proofs.Lists.{map_reversed}
use Rattle.lf_meaning.specs.Terms.{Context}
use Rattle.term_trees.specs.Readings.{read_context, read_family}
use Rattle.term_trees.specs.declared.fam.Fam.{Fam}
use Rattle.lf_check.specs.Environments.{read_variables, read_variables_layer}
use Rattle.lf_check.specs.declared.environment.Variables.{Variables}
use Rattle.lf_check.specs.declared.environment.Variables.TheOpen as opened
use Rattle.lf_check.specs.declared.environment.Variables.TheVariants as variables
use Rattle.lf_check.specs.declared.environment.Variables.TheFolds.{fold-roll-Variables}

pub read_given : (ctx : Bor (List Fam)) → read_variables (variables.Given ctx) ≡ read_context ctx.now
read_given ctx = ap read_variables (sym (variables.rolls-Given ctx)) ∙ fold-roll-Variables Context read_variables_layer (opened.Given ctx)

pub read_bound : (family : Bor Fam) (outer : Bor Variables) → read_variables (variables.Bound family outer) ≡ read_family family.now ∷ read_variables outer.now
read_bound family outer = ap read_variables (sym (variables.rolls-Bound family outer)) ∙ fold-roll-Variables Context read_variables_layer (opened.Bound family outer)

-- the family at an index that is counted from the end
pub family_given : (families : List Fam) (i : ℕ) → option_map read_family (slice_get (reverse families) i) ≡ slice_get (read_context families) i
family_given families i = sym (slice_get-map read_family (reverse families) i) ∙ ap (λ xs. slice_get xs i) (map_reversed read_family families)

-- behind a binder
pub family_bound : (family : Bor Fam) (outer : Bor Variables) (i j : ℕ) → i ≡ suc j → slice_get (read_variables outer.now) j ≡ slice_get (read_variables (variables.Bound family outer)) i
family_bound family outer i j e = sym (ap (λ xs. slice_get xs i) (read_bound family outer) ∙ ap (slice_get (read_family family.now ∷ read_variables outer.now)) e)
