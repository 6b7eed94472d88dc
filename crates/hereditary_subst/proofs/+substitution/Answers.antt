use Rattle.std.proofs.Common.{◌≡◌, IfOk, Option, Result, length, ◌-◌, ap, sym, ◌∙◌, subst, arith}
use Rattle.lf_meaning.specs.Terms as terms
use Rattle.lf_meaning.specs.Raising.{raise}
use Rattle.lf_meaning.specs.Substitution.{reduce}
use Rattle.term_trees.specs.Readings.{read_simple, read_object, arguments_of}
use Rattle.term_trees.specs.Changes.{changed, gathered}
use Rattle.term_trees.specs.declared.obj.Obj.{Obj}
use Rattle.term_trees.specs.declared.obj.Obj.TheVariants as objs
use Rattle.hereditary_subst.proofs.Heads.{substituted_constant, substituted_below, substituted_above, substituted_at, takes_at, reduced_given, one_index}
use Rattle.hereditary_subst.proofs.+substitution.Goals as goal

pub reduction::apply-returns : goal.reduction::apply-returns
reduction::apply-returns t c =
    takes_at (read_simple c.args.simple.now) c.args.value c.in-At.head c.in-At.spine c.add.new.self c.args.argument c.in-At.is c.in_ok-add-in-At.ensures.ok

-- What stands for a head that stays.
stays : {E : Type 0} (into whole : Obj) (m n : terms.Object) (result : Result (Option Obj) E) → into ≡ whole → m ≡ n
    → IfOk result (λ new. read_object (changed whole new) ≡ m) → IfOk result (λ new. read_object (changed into new) ≡ n)
stays into whole m n result is same held =
    subst (λ (x : Obj). IfOk result (λ new. read_object (changed x new) ≡ n)) (sym is)
    (subst (λ (x : terms.Object). IfOk result (λ new. read_object (changed whole new) ≡ x)) same held)

pub substitution::subst_within-returns-in_ok-take_all-in-Var : goal.substitution::subst_within-returns-in_ok-take_all-in-Var
substitution::subst_within-returns-in_ok-take_all-in-Var t c =
    let value = read_object c.args.value.now in
    let simple = read_simple c.args.simple.now in
    let spine = c.in-At.spine in
    let ms = gathered (arguments_of spine) (length (arguments_of spine)) c.in_ok-so_far-in-At.so_far in
    let all = c.in_ok-reversed-in-Var in
    let raised = c.in_ok-raised-in-Var in
    let given = reduced_given simple value c.args.at all.reversed.items c.reverse.new.self.items raised.raised raised.ensures c.reverse.ensures.items in
    let met = substituted_at value simple c.args.at spine ms c.in_ok-so_far-in-At.ensures
    c.args.into.now c.in-At.head c.in-Var.index c.in-At.is c.in-Var.is (omega (arith, c.if-index-at.true)) in
    c.in_ok-take_all-in-Var.ensures ∙ given ∙ ap (reduce (raise c.args.at 0 value) simple) all.ensures ∙ met

pub substitution::subst_within-returns-in_ok-spine_of_all-in-Var-2 : goal.substitution::subst_within-returns-in_ok-spine_of_all-in-Var-2
substitution::subst_within-returns-in_ok-spine_of_all-in-Var-2 t c =
    let spine = c.in-At.spine in
    let ms = gathered (arguments_of spine) (length (arguments_of spine)) c.in_ok-so_far-in-At.so_far in
    let put = c.in_ok-spine_of_all-in-Var-2 in
    substituted_above (read_object c.args.value.now) (read_simple c.args.simple.now) c.args.at spine ms c.in_ok-so_far-in-At.ensures
    c.args.into.now c.in-At.head put.field-0 c.in-Var-2.index (c.in-Var-2.index - 1) c.in-At.is c.in-Var-2.is
    (omega (arith, c.if-index-at-2.true)) (omega (arith, c.if-index-at-2.true)) put.ensures

pub substitution::subst_within-returns-in-Var-3 : goal.substitution::subst_within-returns-in-Var-3
substitution::subst_within-returns-in-Var-3 t c =
    let spine = c.in-At.spine in
    let ms = gathered (arguments_of spine) (length (arguments_of spine)) c.in_ok-so_far-in-At.so_far in
    let first = one_index c.in-At.head c.in-Var-3.field-0 c.in-Var.index c.in-Var-3.is c.in-Var.is in
    let second = one_index c.in-At.head c.in-Var-3.field-0 c.in-Var-2.index c.in-Var-3.is c.in-Var-2.is in
    let below = substituted_below (read_object c.args.value.now) (read_simple c.args.simple.now) c.args.at spine ms c.in_ok-so_far-in-At.ensures
    c.args.into.now c.in-At.head c.in-Var-3.field-0 c.in-At.is c.in-Var-3.is (omega (arith, first, second, c.if-index-at.false, c.if-index-at-2.false)) in
    stays c.args.into.now (objs.At c.in-At.head spine) _ _ c.with_head.result c.in-At.is below c.with_head.ensures

pub substitution::subst_within-returns-in-Con : goal.substitution::subst_within-returns-in-Con
substitution::subst_within-returns-in-Con t c =
    let spine = c.in-At.spine in
    let ms = gathered (arguments_of spine) (length (arguments_of spine)) c.in_ok-so_far-in-At.so_far in
    let constant = substituted_constant (read_object c.args.value.now) (read_simple c.args.simple.now) c.args.at spine ms c.in_ok-so_far-in-At.ensures
    c.args.into.now c.in-At.head c.in-Con.field-0 c.in-At.is c.in-Con.is in
    stays c.args.into.now (objs.At c.in-At.head spine) _ _ c.with_head-in-Con.result c.in-At.is constant c.with_head-in-Con.ensures
