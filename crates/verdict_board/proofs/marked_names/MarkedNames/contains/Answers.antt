use Rattle.std.proofs.Common.{◌<◌, true≢false, subst, sym, ◌∙◌}
use Rattle.std.proofs.lemmas.Bool.{false_from_ne_true}
use Rattle.name_meaning.specs.Names.{is_among}
use Rattle.name_laws.proofs.Order.{among_member}
use Rattle.verdict_board.proofs.Marks.{bit_within}
use Rattle.verdict_board.proofs.marked_names.MarkedNames.contains.Goals as goal

pub may_contain-requires : goal.may_contain-requires
may_contain-requires c = subst (λ bit. bit < 64) (sym c.requires.bit) (bit_within c.args.name.now)

pub returns-else-may_contain : goal.returns-else-may_contain
returns-else-may_contain c =
    c.if-may_contain.false
    ∙ sym (false_from_ne_true (is_among c.args.self.now c.args.name.now) (λ t. true≢false (sym (c.may_contain.ensures c.args.name.now c.requires.bit (among_member c.args.self.now c.args.name.now t)) ∙ c.if-may_contain.false)))
