use Rattle.std.proofs.Common.{◌≡◌, List, ◌++◌, take, sym, ap, ◌∙◌, subst}
use Rattle.name_meaning.specs.Names.{Name}
use Rattle.lf_meaning.specs.Signatures.{Signature}
use Rattle.library_meaning.specs.Faces.{includes_of, own_part, own_parts, theory_of}
use Rattle.link_laws.proofs.Onces.{Once, once_left, own_is_once}
use Rattle.link_laws.proofs.WordsHold.{flat_once}
use Rattle.mmt_interface.specs.Readings.{environment_of}
use Rattle.include_closure.proofs.Adding.{whole_taken}
use Rattle.include_closure.proofs.NewNames.{next_part}
use Rattle.include_closure.proofs.flattening.flat_of.Goals as goal
use Rattle.include_closure.proofs.flattening.flat_of.Goals.{in-Some+else-loop-included-test, in_default}

pub add_own-requires : goal.add_own-requires
add_own-requires c =
    let environment = environment_of c.args.faces.now in
    let names = c.as_slice-included-items.result.now in
    let includes : includes_of (theory_of environment c.args.theory.now) ≡ names = ap includes_of (sym c.in-Some.ensures.meaning) ∙ sym c.as_slice-included-items.ensures in
    let once : Once (own_parts environment names) =
    subst (λ (z : List Name). Once (own_parts environment z)) includes
    (once_left (own_parts environment (includes_of (theory_of environment c.args.theory.now))) (own_part environment c.args.theory.now) (flat_once environment c.requires.coherent.known c.args.theory.now)) in
    subst (λ (z : Signature). Once (z ++ own_part environment c.included-item.result)) (sym c.loop-included.invariant)
    (next_part environment c.requires.coherent.known names c.loop-included.included-index c.included-item.result c.loop-included-test.true c.included-item.is once)

pub add_own-requires-2 : goal.add_own-requires-2
add_own-requires-2 c =
    let environment = environment_of c.args.faces.now in
    elim c.match-theory.branch [
      | in-Some+else-loop-included-test w ↦
          let names = w.as_slice-included-items.result.now in
          let includes : includes_of (theory_of environment c.args.theory.now) ≡ names = ap includes_of (sym w.in-Some.ensures.meaning) ∙ sym w.as_slice-included-items.ensures in
          let all : names ≡ take w.loop-included.included-index names = sym (whole_taken names w.loop-included.included-index w.loop-included-test.false w.loop-included.auto.included-index-end) in
          rw w.signature-is
          (subst (λ (z : Signature). Once (z ++ own_part environment c.args.theory.now)) (ap (own_parts environment) (includes ∙ all) ∙ sym w.loop-included.invariant)
          (flat_once environment c.requires.coherent.known c.args.theory.now))
      | in_default w ↦ rw w.signature-is (rw c.new-signature.ensures (own_is_once environment c.requires.coherent.known c.args.theory.now))
    ]
