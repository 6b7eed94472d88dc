use Rattle.std.proofs.Common.{◌≡◌, ◌+◌, [], ◌∷◌, length, drop, inl, refl, sym, ap, ◌∙◌, subst, arith, rules}
use Rattle.std.specs.Vec.{vec_len}
use Rattle.list_laws.proofs.Members.{append_right}
use Rattle.list_laws.proofs.Writes.{item_read, drop_past}
use Rattle.module_graph.proofs.Peeled.{step_wake, pending_as}
use Rattle.module_graph.specs.PeelingState.{IsState}
use Rattle.module_graph.proofs.grounding.Peeling.wake.Goals as goal
use Rattle.list_laws.proofs.Places.{here_and_on}

pub index_mut-requires : goal.index_mut-requires
index_mut-requires c =
    let long : vec_len c.args.self.now.waiting ≡ length c.args.self.now.waiting.items = search rules in
    let each = c.requires.each_waiting in
    let within = c.requires.ready_within c.args.place (append_right c.args.self.now.ready.items (c.args.place ∷ []) c.args.place (inl refl)) in
    omega (arith, long, each, within)

pub loop-own-init : goal.loop-own-init
loop-own-init c =
    let each = c.requires.each_waiting in
    let within = c.requires.ready_within c.args.place (append_right c.args.self.now.ready.items (c.args.place ∷ []) c.args.place (inl refl)) in
    let list = c.deref-own-items.ensures.value ∙ ap (λ v. v.items) c.replace-woken.ensures.value in (
      pending_as (λ list. list.items) c.args.graph.now _ _ _ _ _ _ (sym list)
          (step_wake (λ list. list.items) c.args.graph.now c.args.self.now.taken.items c.args.self.now.waiting.items c.args.self.now.seen.items c.args.self.now.ready.items c.args.place c.index_mut.result.now c.replace-woken.new.dest c.requires
          (item_read c.args.self.now.waiting.items c.args.place c.index_mut.result.now c.index_mut.result.now (omega (arith, each, within)) (sym c.index_mut.ensures.value))
          (ap (λ v. v.items) c.replace-woken.ensures.after ∙ c.new.ensures.items)),
      omega arith,
    )

pub look-requires : goal.look-requires
look-requires c = (
  drop (c.loop-own.own-index + 1) c.deref-own-items.result.now,
  subst (IsState c.args.graph.now c.loop-own.self) (here_and_on c.deref-own-items.result.now c.loop-own.own-index c.loop-own-test.true) c.loop-own.invariant.0,
)

pub loop-own-preserved : goal.loop-own-preserved
loop-own-preserved c =
    let before = c.loop-own.invariant.1 in
    let now = c.in_ok-look.ensures.work in (
      c.in_ok-look.ensures.state (drop (c.loop-own.own-index + 1) c.deref-own-items.result.now)
          (subst (IsState c.args.graph.now c.loop-own.self) (here_and_on c.deref-own-items.result.now c.loop-own.own-index c.loop-own-test.true) c.loop-own.invariant.0),
      omega (arith, before, now),
    )

pub returns-clause-state : goal.returns-clause-state
returns-clause-state c = subst (IsState c.args.graph.now c.loop-own.self) (drop_past c.deref-own-items.result.now c.loop-own.own-index c.loop-own-test.false) c.loop-own.invariant.0

pub returns-clause-work : goal.returns-clause-work
returns-clause-work c = c.loop-own.invariant.1
