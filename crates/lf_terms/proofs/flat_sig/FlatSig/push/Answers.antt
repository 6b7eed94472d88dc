use Rattle.std.proofs.Common.{◌≡◌, Bool, true, false, List, Option, Bor, is_some, refl, sym, ap, ◌∙◌}
use Rattle.std.specs.Option.{option_copied}
use Rattle.base_types.specs.declared.qname.QName.{QName}
use Rattle.term_trees.specs.declared.flat_decl.FlatDecl.{FlatDecl}
use Rattle.list_laws.proofs.Options.{copied_some, none_of}
use Rattle.lf_terms.specs.Tables.{declared}
use Rattle.lf_terms.proofs.flat_sig.FlatSig.push.Goals as goal

-- What the look-up says of the declaration.
looked_up : (decls : List FlatDecl) (name : QName) (found : Option (Bor FlatDecl)) (some answer : Bool) → option_copied found ≡ declared decls name → some ≡ is_some found → some ≡ answer → is_some (declared decls name) ≡ answer
looked_up decls name found some answer is told e = ap is_some (sym is) ∙ copied_some found ∙ sym told ∙ e

pub returns-then-is_some-clause-twice : goal.returns-then-is_some-clause-twice
returns-then-is_some-clause-twice c =
    let there : is_some (declared c.args.self.now c.args.decl.name) ≡ true = looked_up c.args.self.now c.args.decl.name c.get.result c.is_some.result true c.get.ensures.declaration c.is_some.ensures c.if-is_some.true in
    (λ _. there, λ _. refl)

pub push_new-requires : goal.push_new-requires
push_new-requires c =
    none_of (declared c.args.self.now c.args.decl.name) (looked_up c.args.self.now c.args.decl.name c.get.result c.is_some.result false c.get.ensures.declaration c.is_some.ensures c.if-is_some.false)

pub returns-in-Ok-clause-twice : goal.returns-in-Ok-clause-twice
returns-in-Ok-clause-twice c =
    let absent : is_some (declared c.args.self.now c.args.decl.name) ≡ false = looked_up c.args.self.now c.args.decl.name c.get.result c.is_some.result false c.get.ensures.declaration c.is_some.ensures c.if-is_some.false in
    (λ e. absurd (cc), λ e. absurd (cc))

pub returns-in-Err-clause-twice : goal.returns-in-Err-clause-twice
returns-in-Err-clause-twice c =
    let absent : is_some (declared c.args.self.now c.args.decl.name) ≡ false = looked_up c.args.self.now c.args.decl.name c.get.result c.is_some.result false c.get.ensures.declaration c.is_some.ensures c.if-is_some.false in
    (λ e. absurd (cc), λ e. absurd (cc))
