use Rattle.std.proofs.Common.{◌≡◌, ◌∙◌, [], ◌∷◌, ◌++◌, List, refl, ap}
use Rattle.indexmap.specs.IndexSet.{insert_key}
use Rattle.name_meaning.specs.Names.{Name, same_name}
use Rattle.library_meaning.specs.Closure.{sees}
use Rattle.include_closure.proofs.Adding.{known_more, whole_taken}
use Rattle.include_closure.proofs.additions.Additions.to.Goals as goal

pub loop-name-init : goal.loop-name-init
loop-name-init c = λ other. ap (λ ks. sees ks other) c.new-known.ensures.empty

pub loop-name-preserved : goal.loop-name-preserved
loop-name-preserved c =
    λ other. ap (λ ks. sees ks other) (c.in_ok-insert.ensures.keys ∙ ap (insert_key same_name c.loop-name.known.keys) c.in_ok-copy.ensures)
    ∙ known_more c.loop-name.known.keys c.args.names.now c.loop-name.name-index c.name-item.result c.loop-name-test.true c.name-item.is c.loop-name.invariant other

append_none : (names : List Name) → names ++ [] ≡ names
append_none [] = refl
append_none (n ∷ names) = ap (λ z. n ∷ z) (append_none names)

pub returns : goal.returns
returns c = record {
  list = ap (λ xs. c.args.names.now ++ xs) c.new.ensures.items ∙ append_none c.args.names.now;
  known = λ other. c.loop-name.invariant other ∙ ap (λ ns. sees ns other) (whole_taken c.args.names.now c.loop-name.name-index c.loop-name-test.false c.loop-name.auto.name-index-end);
}
