use Rattle.std.proofs.Common.{◌≡◌, ◌∙◌, [], ◌∷◌, ◌++◌, List, refl, sym, ap, subst}
use Rattle.std.proofs.lemmas.List.Sums.{fold-append}
use Rattle.name_meaning.specs.Names.{Name}
use Rattle.library_meaning.specs.Faces.{theory_of, includes_of}
use Rattle.library_meaning.specs.Closure.{with_once, with_all, with_inclusion}
use Rattle.mmt_interface.specs.Readings.{environment_of}
use Rattle.include_closure.specs.Additions.{Extends}
use Rattle.include_closure.proofs.closure.bring.Goals as goal
use Rattle.include_closure.proofs.closure.bring.Goals.{in-Some+in_ok-add_all, in_default}

none_more : (names : List Name) → with_all names [] ≡ names
unfolding with_all
none_more names = refl

and_last : (names more : List Name) (name : Name) → with_once (with_all names more) name ≡ with_all names (more ++ name ∷ [])
unfolding with_all
and_last names more name = sym (fold-append with_once names more (name ∷ []))

pub returns : goal.returns
unfolding with_inclusion
returns c = λ front whole start.
    let theory = c.args.theory.now in
    let included = includes_of (theory_of (environment_of c.args.faces.now) theory) in
    let behind : Extends c.match-theory.additions front (with_all whole included) =
    elim c.match-theory.branch [
      | in-Some+in_ok-add_all w ↦
          let names = w.as_slice.ensures ∙ ap includes_of w.in-Some.ensures.meaning in
          rw w.additions-is (subst (λ more. Extends w.add_all.new.self front (with_all whole more)) names (w.in_ok-add_all.ensures front whole start))
      | in_default w ↦
          let none = ap includes_of w.in_default.ensures.meaning in
          rw w.additions-is (subst (λ names. Extends c.args.additions.now front names) (sym (none_more whole) ∙ ap (with_all whole) none) start)
    ] in
    subst (Extends c.add.new.self front) (and_last whole included theory) (c.in_ok-add.ensures front (with_all whole included) behind)
