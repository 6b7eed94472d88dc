use Rattle.std.proofs.Common.{◌≡◌, ◌+◌, take, drop, Some, refl, sym, arith}
use Rattle.std.specs.Prelude.{slice_get}
use Rattle.lf_meaning.specs.Judgements.{IsSignature}
use Rattle.lf_meaning.specs.Faults.{declaration_fault, signature_fault, signature_fault_after}
use Rattle.lf_typing.proofs.Faultless.{signature_sound, signature_complete}
use Rattle.term_trees.specs.Readings.{read_declaration, read_signature}
use Rattle.lf_check.proofs.Answered.{is_bad_of, refuses_signature}
use Rattle.lf_check.proofs.Prefixes.{goes_on, stops_here, all_passed}
use Rattle.lf_check.proofs.signatures.check_sig.Goals as goal
use Rattle.lf_check.proofs.signatures.check_sig.Goals.{in-Some+in_default-check_declaration, in_default}

pub returns-in-Err-clause-answer : goal.returns-in-Err-clause-answer
returns-in-Err-clause-answer c =
    let decls = c.args.sig.now in
    let i = c.loop-index.index in
    let there : slice_get decls i ≡ Some c.in-Some.decl.now = sym c.in-Some.ensures.item in
    rw (stops_here decls i c.in-Some.decl.now there (signature_fault (read_signature decls)) c.loop-index.invariant)
    (c.in_declaration.ensures (declaration_fault (read_signature (take i decls)) (read_declaration c.in-Some.decl.now)) (signature_fault_after (read_signature (take (i + 1) decls)) (read_signature (drop (i + 1) decls))) c.in-Err.ensures)

pub returns-in-Err-clause-refused : goal.returns-in-Err-clause-refused
returns-in-Err-clause-refused c =
    let sig = read_signature c.args.sig.now in
    refuses_signature (IsSignature sig) (signature_fault sig) c.in_declaration.result (returns-in-Err-clause-answer c) (signature_complete sig)

pub returns-in-Err-clause-first : goal.returns-in-Err-clause-first
returns-in-Err-clause-first c = is_bad_of (read_signature c.args.sig.now) c.in_declaration.result (returns-in-Err-clause-answer c)

pub loop-index-preserved : goal.loop-index-preserved
loop-index-preserved c =
    elim c.match-at.branch [
      | in-Some+in_default-check_declaration w ↦
          let there : slice_get c.args.sig.now c.loop-index.index ≡ Some w.in-Some.decl.now = sym w.in-Some.ensures.item in
          goes_on c.args.sig.now c.loop-index.index w.in-Some.decl.now there (signature_fault (read_signature c.args.sig.now)) c.loop-index.invariant w.in_default-check_declaration.ensures
      | in_default w ↦ absurd (omega (arith, c.len-index-end.ensures.len, w.in_default.ensures.none.0 refl))
    ]

pub returns-clause-accepted : goal.returns-clause-accepted
returns-clause-accepted c =
    let sig = read_signature c.args.sig.now in
    signature_sound sig (all_passed c.args.sig.now c.loop-index.index (signature_fault sig) (omega arith) c.loop-index.invariant)
