use Rattle.std.specs.Prelude.{◌||◌}
use Rattle.std.proofs.Common.{◌+◌, drop, refl, sym, ap, ◌∙◌, arith}
use Rattle.printing_meaning.specs.Prefixes as prefixes
use Rattle.term_trees.specs.Readings.{read_declaration, read_signature}
use Rattle.term_text.proofs.Searching.{next_taken}
use Rattle.term_text.proofs.prefixes.is_taken.Goals as goal
use Rattle.term_text.proofs.prefixes.is_taken.Goals.{in-Some+else-clashes, in_default}

pub returns-then-clashes : goal.returns-then-clashes
returns-then-clashes c =
    let own = read_signature c.args.own.now in
    let prefix = c.args.prefix.now in
    let i = c.loop-index.index in
    let next = next_taken own prefix i (read_declaration c.in-Some.decl.now) (sym c.in-Some.ensures.meaning) in
    let clash = sym (c.clashes.ensures ∙ ap (λ names. prefixes.clashes prefix names) c.as_slice.ensures.names) ∙ c.if-clashes.true in
    sym (sym c.loop-index.invariant ∙ next ∙ ap (λ b. b || prefixes.is_taken (drop (i + 1) own) prefix) clash)

pub loop-index-preserved : goal.loop-index-preserved
loop-index-preserved c =
    let own = read_signature c.args.own.now in
    let prefix = c.args.prefix.now in
    let i = c.loop-index.index in
    elim c.match-at.branch [
      | in-Some+else-clashes w ↦
          let next = next_taken own prefix i (read_declaration w.in-Some.decl.now) (sym w.in-Some.ensures.meaning) in
          let clash = sym (w.clashes.ensures ∙ ap (λ names. prefixes.clashes prefix names) w.as_slice.ensures.names) ∙ w.if-clashes.false in
          sym (next ∙ ap (λ b. b || prefixes.is_taken (drop (i + 1) own) prefix) clash) ∙ c.loop-index.invariant
      | in_default w ↦ absurd (omega (arith, c.len-index-end.ensures.len, w.in_default.ensures.none.0 refl))
    ]
