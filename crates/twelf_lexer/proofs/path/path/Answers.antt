use Rattle.std.proofs.Common.{◌<◌, ◌+◌, ◌++◌, ◌∷◌, [], ℕ, List, length, sym, ap, subst, ◌∙◌, arith, eqb-true, get_or}
use Rattle.name_meaning.specs.Characters.{is_identifier_byte}
use Rattle.twelf_lexer.specs.Scans.{IsFront}
use Rattle.twelf_lexer.proofs.Places.{boundary_after}
use Rattle.twelf_lexer.proofs.RowLoops.{PathSoFar, path_begins, path_goes}
use Rattle.twelf_lexer.proofs.path.path.Goals as goal

some_with : (xs : List (List ℕ)) (x : List ℕ) → 0 < length (xs ++ x ∷ [])
some_with [] x = omega arith
some_with (y ∷ ys) x = omega arith

pub name-requires-clause-identifier : goal.name-requires-clause-identifier
name-requires-clause-identifier c =
    let f = subst (λ t. IsFront is_identifier_byte t c.args.at c.run_end-end.result) c.as_bytes.ensures.value c.run_end-end.ensures in
    (path_begins c.args.text.now c.args.at c.args.to c.run_end-end.result c.requires.row.0 c.requires.row.1 c.requires.row.2 c.requires.ends f).identifier

pub loop-end-init : goal.loop-end-init
loop-end-init c =
    let f = subst (λ t. IsFront is_identifier_byte t c.args.at c.run_end-end.result) c.as_bytes.ensures.value c.run_end-end.ensures in
    let r = path_begins c.args.text.now c.args.at c.args.to c.run_end-end.result c.requires.row.0 c.requires.row.1 c.requires.row.2 c.requires.ends f in
    let front = ap (λ xs. xs ++ c.in_ok-name.field-0 ∷ []) c.new-path.ensures.items in
    let made = sym (c.in_ok-push.ensures.items ∙ front ∙ ap (λ x. x ∷ []) c.in_ok-name.ensures) in
    (subst (PathSoFar c.args.text.now c.args.at c.args.to c.run_end-end.result) made r.so_far, subst (λ xs. 0 < length xs) (sym c.in_ok-push.ensures.items) (some_with c.new-path.result.items c.in_ok-name.field-0))

pub name-requires-in-loop-end-clause-start : goal.name-requires-in-loop-end-clause-start
name-requires-in-loop-end-clause-start c =
    let f = subst (λ t. IsFront is_identifier_byte t (c.loop-end.end + 1) c.run_end-end-in-loop-end.result) c.as_bytes-in-loop-end.ensures.value c.run_end-end-in-loop-end.ensures in
    let r = path_goes c.args.text.now c.args.at c.args.to c.loop-end.end c.run_end-end-in-loop-end.result c.loop-end.path.items c.loop-end.invariant.0 c.loop-end-test.true f in
    boundary_after c.args.text.now c.loop-end.end 46 c.utf8.text r.stands.within (eqb-true (get_or c.args.text.now c.loop-end.end 0) 46 r.stands.passes) (omega arith)

pub name-requires-in-loop-end-clause-identifier : goal.name-requires-in-loop-end-clause-identifier
name-requires-in-loop-end-clause-identifier c =
    let f = subst (λ t. IsFront is_identifier_byte t (c.loop-end.end + 1) c.run_end-end-in-loop-end.result) c.as_bytes-in-loop-end.ensures.value c.run_end-end-in-loop-end.ensures in
    (path_goes c.args.text.now c.args.at c.args.to c.loop-end.end c.run_end-end-in-loop-end.result c.loop-end.path.items c.loop-end.invariant.0 c.loop-end-test.true f).identifier

pub loop-end-preserved : goal.loop-end-preserved
loop-end-preserved c =
    let f = subst (λ t. IsFront is_identifier_byte t (c.loop-end.end + 1) c.run_end-end-in-loop-end.result) c.as_bytes-in-loop-end.ensures.value c.run_end-end-in-loop-end.ensures in
    let r = path_goes c.args.text.now c.args.at c.args.to c.loop-end.end c.run_end-end-in-loop-end.result c.loop-end.path.items c.loop-end.invariant.0 c.loop-end-test.true f in
    let pushed = ap (λ x. c.loop-end.path.items ++ x ∷ []) (sym c.in_ok-name-2.ensures) ∙ sym c.in_ok-push-2.ensures.items in
    (subst (PathSoFar c.args.text.now c.args.at c.args.to c.run_end-end-in-loop-end.result) pushed r.so_far, subst (λ xs. 0 < length xs) (sym c.in_ok-push-2.ensures.items) (some_with c.loop-end.path.items c.in_ok-name-2.field-0))
