use Rattle.std.proofs.Common.{◌≡◌, ◌^◌, bit_or, unwrap_or, sym, ap, ◌∙◌, subst}
use Rattle.std.specs.Int.{bit_at}
use Rattle.name_meaning.specs.Names.{with_name}
use Rattle.list_laws.proofs.Members.{Member}
use Rattle.verdict_board.specs.Marks.{bit_of}
use Rattle.verdict_board.proofs.Marks.{marked_with, power}
use Rattle.verdict_board.proofs.marked_names.MarkedNames.with.Goals as goal

pub invariant_of-result : goal.invariant_of-result
invariant_of-result c =
    let bit = power c.bit_of.result c.bit_of.ensures.within ∙ ap (λ i. 2 ^ i) c.bit_of.ensures.bit in
    let list : c.in_ok-new-in-Some.field-0 ≡ with_name c.args.name.now c.self.inside.names =
    c.in_ok-new-in-Some.ensures ∙ sym (ap (λ o. unwrap_or o c.get.result.now) c.in-Some.is) ∙ sym c.in_ok-names.ensures ∙ ap (with_name c.args.name.now) c.get.ensures in
    λ name m. subst (λ z. bit_at (bit_or c.self.inside.marks z) (bit_of name) ≡ 1) (sym bit)
    (marked_with c.self.inside.names c.args.name.now c.self.inside.marks c.self.invariant name (subst (Member name) list m))
