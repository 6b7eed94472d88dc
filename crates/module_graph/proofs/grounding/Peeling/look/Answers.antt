use Rattle.std.proofs.Common.{◌≡◌, ◌+◌, [], ◌∷◌, length, length-append, false, true, inl, refl, sym, ap, ◌∙◌, arith, rules}
use Rattle.std.specs.Vec.{vec_len}
use Rattle.list_laws.proofs.Writes.{fewer_left, item_read}
use Rattle.module_graph.proofs.Peeled.{step_over, step_wait, step_take, open_as, all_passed_as, open_within}
use Rattle.module_graph.proofs.grounding.Peeling.look.Goals as goal

pub index-requires : goal.index-requires
index-requires c =
    let long : vec_len c.args.self.now.taken ≡ length c.args.self.now.taken.items = search rules in
    let each = c.requires.1.each_taken in
    let within = c.requires.1.pending_within c.args.place (inl refl) in
    omega (arith, long, each, within)

pub returns-then-index-clause-state : goal.returns-then-index-clause-state
returns-then-index-clause-state c pending s = step_over (λ list. list.items) c.args.graph.now _ _ _ _ pending c.args.place s (item_read _ c.args.place c.index.result.now true (let each = s.each_taken in let within = s.pending_within c.args.place (inl refl) in omega (arith, each, within)) (sym c.index.ensures ∙ c.if-index.true))

pub dependencies_at-requires : goal.dependencies_at-requires
dependencies_at-requires c = c.requires.1.pending_within c.args.place (inl refl)

pub index-requires-2 : goal.index-requires-2
index-requires-2 c =
    let long : vec_len c.args.self.now.seen ≡ length c.args.self.now.seen.items = search rules in
    let each = c.requires.1.each_seen in
    let within = c.requires.1.pending_within c.args.place (inl refl) in
    omega (arith, long, each, within)

pub index_mut-requires : goal.index_mut-requires
index_mut-requires c =
    let long : vec_len c.args.self.now.seen ≡ length c.args.self.now.seen.items = search rules in
    let each = c.requires.1.each_seen in
    let within = c.requires.1.pending_within c.args.place (inl refl) in
    omega (arith, long, each, within)

pub index_mut-requires-in-Some : goal.index_mut-requires-in-Some
index_mut-requires-in-Some c =
    let long : vec_len c.args.self.now.waiting ≡ length c.args.self.now.waiting.items = search rules in
    let each = c.requires.1.each_waiting in
    let within = open_within _ _ _ _ _ _ c.in-Some.ensures in
    omega (arith, long, each, within)

pub index_mut-requires-in-None : goal.index_mut-requires-in-None
index_mut-requires-in-None c =
    let long : vec_len c.args.self.now.taken ≡ length c.args.self.now.taken.items = search rules in
    let each = c.requires.1.each_taken in
    let within = c.requires.1.pending_within c.args.place (inl refl) in
    omega (arith, long, each, within)

pub returns-in_ok-push-in-Some-clause-state : goal.returns-in_ok-push-in-Some-clause-state
returns-in_ok-push-in-Some-clause-state c pending s =
    let within = s.pending_within c.args.place (inl refl) in
    let each_seen = s.each_seen in
    let each_waiting = s.each_waiting in
    let inside = open_within _ _ _ _ _ _ c.in-Some.ensures in
    step_wait (λ list. list.items) c.args.graph.now _ _ _ _ pending c.args.place c.index-2.result.now c.in-Some.at c.in-Some.other (c.dependencies_at.ensures.0, c.dependencies_at.result.now) c.index_mut-in-Some.result.now c.push.new.self s
    c.dependencies_at.ensures.1
    (item_read _ c.args.place _ c.index-2.result.now (omega (arith, within, each_seen)) (sym c.index-2.ensures))
    (open_as _ _ _ _ _ _ _ _ _ c.deref.ensures.value c.as_slice-dependencies.ensures refl c.in-Some.ensures)
    (item_read _ c.in-Some.other _ c.index_mut-in-Some.result.now (omega (arith, inside, each_waiting)) (sym c.index_mut-in-Some.ensures.value))
    c.in_ok-push-in-Some.ensures.items

pub returns-in_ok-push-in-None-clause-state : goal.returns-in_ok-push-in-None-clause-state
returns-in_ok-push-in-None-clause-state c pending s =
    let within = s.pending_within c.args.place (inl refl) in
    let each_seen = s.each_seen in
    rw c.in_ok-push-in-None.ensures.items (step_take (λ list. list.items) c.args.graph.now _ _ _ _ pending c.args.place c.index-2.result.now (c.dependencies_at.ensures.0, c.dependencies_at.result.now) s
    c.dependencies_at.ensures.1
    (item_read _ c.args.place _ c.index-2.result.now (omega (arith, within, each_seen)) (sym c.index-2.ensures))
    (all_passed_as _ _ _ _ _ _ _ c.deref.ensures.value c.as_slice-dependencies.ensures refl c.in-None.ensures))

pub returns-in_ok-push-in-None-clause-work : goal.returns-in_ok-push-in-None-clause-work
returns-in_ok-push-in-None-clause-work c =
    let each = c.requires.1.each_taken in
    let within = c.requires.1.pending_within c.args.place (inl refl) in
    let left = fewer_left c.args.self.now.taken.items c.args.place (item_read _ c.args.place c.index.result.now false (omega (arith, each, within)) (sym c.index.ensures ∙ c.if-index.false)) in
    let more : length c.push-in-None.new.self.items ≡ length c.args.self.now.ready.items + 1 = ap length c.in_ok-push-in-None.ensures.items ∙ length-append c.args.self.now.ready.items (c.args.place ∷ []) in
    omega (arith, left, more)
