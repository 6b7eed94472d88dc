use Rattle.std.proofs.Common.{◌≡◌, ◌∙◌, suc, ◌+◌, [], ◌∷◌, ◌++◌, take, append_assoc, None, refl, sym, ap, subst, arith}
use Rattle.std.proofs.lemmas.List.{length-map}
use Rattle.list_laws.proofs.Places.{take_more}
use Rattle.lf_meaning.specs.Signatures.{Signature, declaration_of}
use Rattle.term_trees.specs.Readings.{read_declaration, read_signature}
use Rattle.include_closure.proofs.Adding.{whole_taken}
use Rattle.include_closure.proofs.NewNames.{next_new}
use Rattle.include_closure.proofs.flattening.add_declarations.Goals as goal
use Rattle.include_closure.proofs.flattening.add_declarations.Goals.{in-Some+in_ok-push_copy, in_default}

append_none : (xs : Signature) → xs ++ [] ≡ xs
append_none [] = refl
append_none (x ∷ xs) = ap (λ z. x ∷ z) (append_none xs)

pub loop-index-init : goal.loop-index-init
loop-index-init c = sym (append_none (read_signature c.args.signature.now))

pub loop-index-preserved : goal.loop-index-preserved
loop-index-preserved c =
    let own = read_signature c.args.own.now in
    let front = read_signature c.args.signature.now in
    let i = c.loop-index.index in
    let plus : suc i ≡ i + 1 = omega arith in
    elim c.match-at.branch [
      | in-Some+in_ok-push_copy w ↦
          let d = read_declaration w.in-Some.decl.now in
          let more = take_more own i d (sym w.in-Some.ensures.meaning) in
          rw w.signature-is (w.in_ok-push_copy.ensures ∙ ap (λ z. z ++ d ∷ []) c.loop-index.invariant ∙ append_assoc front (take i own) (d ∷ []) ∙ ap (λ z. front ++ z) (sym more ∙ ap (λ j. take j own) plus))
      | in_default w ↦ absurd (omega (arith, w.in_default.ensures.none.0 refl))
    ]

pub returns : goal.returns
returns c =
    let own = read_signature c.args.own.now in
    let counted = length-map c.args.own.now read_declaration in
    let long = c.len-index-end.ensures.len in
    let within = c.loop-index.auto.index-end in
    c.loop-index.invariant ∙ ap (λ z. read_signature c.args.signature.now ++ z) (whole_taken own c.loop-index.index (omega (arith, counted, long)) (omega (arith, counted, long, within)))

pub push_copy-requires : goal.push_copy-requires
push_copy-requires c =
    let d = read_declaration c.in-Some.decl.now in
    subst (λ (z : Signature). declaration_of z d.name ≡ None) (sym c.loop-index.invariant)
    (next_new (read_signature c.args.signature.now) (read_signature c.args.own.now) c.loop-index.index d (sym c.in-Some.ensures.meaning) c.requires)
