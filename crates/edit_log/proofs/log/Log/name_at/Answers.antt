use Rattle.std.proofs.Common.{slice_get, Option, option_map, sym, ap, ◌∙◌}
use Rattle.std.proofs.lemmas.Option.{slice_get-map}
use Rattle.name_meaning.specs.Names.{Name, Text}
use Rattle.edit_log_meaning.specs.Log.{names_of}
use Rattle.edit_log.proofs.Tables.{names_read}
use Rattle.edit_log.proofs.log.Log.name_at.Goals as goal

-- the name of a row
name_of : Option (Name × Text) → Option Name
name_of row = option_map (λ (r : Name × Text). r.0) row

pub returns-in-Some : goal.returns-in-Some
returns-in-Some c =
    rw (← c.self.view_is) (ap (option_map (λ (r : Name × Text). r.0)) c.in-Some.ensures ∙ sym (slice_get-map (λ (r : Name × Text). r.0) c.self.inside.texts c.args.i)
    ∙ ap (λ names. slice_get names c.args.i) (sym (names_read c.self.inside.texts) ∙ ap names_of c.self.invariant.library))

pub returns-in-None : goal.returns-in-None
returns-in-None c =
    rw (← c.self.view_is) (ap (option_map (λ (r : Name × Text). r.0)) c.in-None.ensures ∙ sym (slice_get-map (λ (r : Name × Text). r.0) c.self.inside.texts c.args.i)
    ∙ ap (λ names. slice_get names c.args.i) (sym (names_read c.self.inside.texts) ∙ ap names_of c.self.invariant.library))
