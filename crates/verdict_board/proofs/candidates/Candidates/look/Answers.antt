use Rattle.std.proofs.Common.{◌≡◌, length, Some, inl, inr, sym, ap, ◌∙◌, arith, rules}
use Rattle.std.specs.Vec.{vec_len}
use Rattle.std.proofs.lemmas.Option.{slice_get-get_or}
use Rattle.list_laws.proofs.Places.{place_within}
use Rattle.name_meaning.specs.Rows.{row_names}
use Rattle.verdict_board.proofs.Parking.{names_long, no_candidate, not_waiting, blocked, ready_here, parked_same, parked_one, is_parked, closed_more}
use Rattle.verdict_board.proofs.PlaceSets.{none_past, none_past_out}
use Rattle.verdict_board.proofs.candidates.Candidates.look.Goals as goal

pub returns-then-not-contains-clause-ready : goal.returns-then-not-contains-clause-ready
returns-then-not-contains-clause-ready g c =
    no_candidate c.args.stages.now c.args.graph.now (λ list. list.items) c.args.self.now.candidate c.args.self.now.parked.items c.requires.kept c.args.place (c.contains.ensures ∙ ap Some c.if-not-contains.true)

pub returns-then-not-contains-clause-left : goal.returns-then-not-contains-clause-left
returns-then-not-contains-clause-left g c none = none_past c.args.place c.args.self.now.candidate none (c.contains.ensures ∙ ap Some c.if-not-contains.true)

pub returns-then-not-is_waiting-clause-kept : goal.returns-then-not-is_waiting-clause-kept
returns-then-not-is_waiting-clause-kept g c =
    rw c.remove.ensures
    (closed_more c.args.stages.now c.args.graph.now (λ list. list.items) c.args.self.now.candidate c.args.self.now.parked.items c.requires.kept c.args.place
    (λ name h. inl (not_waiting c.args.stages.now c.args.graph.now (λ list. list.items) c.args.self.now.candidate c.args.self.now.parked.items c.requires.kept c.args.place c.row_at.result.0.now c.row_at.result.1.now c.row_at.ensures
    (sym c.is_waiting.ensures ∙ c.if-not-is_waiting.true) name h)))

pub returns-then-not-is_waiting-clause-left : goal.returns-then-not-is_waiting-clause-left
returns-then-not-is_waiting-clause-left g c none = rw c.remove.ensures (none_past_out c.args.place c.args.self.now.candidate none)

pub returns-then-not-is_waiting-clause-ready : goal.returns-then-not-is_waiting-clause-ready
returns-then-not-is_waiting-clause-ready g c name h =
    inl (not_waiting c.args.stages.now c.args.graph.now (λ list. list.items) c.args.self.now.candidate c.args.self.now.parked.items c.requires.kept c.args.place c.row_at.result.0.now c.row_at.result.1.now c.row_at.ensures
    (sym c.is_waiting.ensures ∙ c.if-not-is_waiting.true) name h)

pub index_mut-requires : goal.index_mut-requires
index_mut-requires g c =
    let long : vec_len c.args.self.now.parked ≡ length c.args.self.now.parked.items = search rules in
    let each = c.requires.kept.each_parked in
    let named = names_long c.args.stages.now in
    let within = place_within (row_names c.args.stages.now) c.in-Some.other c.in-Some.ensures.name c.in-Some.ensures.named in
    omega (arith, long, each, named, within)

pub returns-in_err-push-in-Some-clause-kept : goal.returns-in_err-push-in-Some-clause-kept
returns-in_err-push-in-Some-clause-kept g c =
    let each = c.requires.kept.each_parked in
    let named = names_long c.args.stages.now in
    let within = place_within (row_names c.args.stages.now) c.in-Some.other c.in-Some.ensures.name c.in-Some.ensures.named in
    let list = slice_get-get_or c.args.self.now.parked.items c.in-Some.other c.index_mut.result.now (omega (arith, each, named, within)) ∙ ap Some (sym c.index_mut.ensures.value) in
    parked_same c.args.stages.now c.args.graph.now (λ list. list.items) c.args.self.now.candidate c.args.self.now.parked.items c.requires.kept c.in-Some.other c.index_mut.result.now c.push.new.self list
    c.in_err-push-in-Some.ensures.items

pub returns-in_ok-push-in-Some-clause-kept : goal.returns-in_ok-push-in-Some-clause-kept
returns-in_ok-push-in-Some-clause-kept g c =
    let each = c.requires.kept.each_parked in
    let named = names_long c.args.stages.now in
    let within = place_within (row_names c.args.stages.now) c.in-Some.other c.in-Some.ensures.name c.in-Some.ensures.named in
    let list = slice_get-get_or c.args.self.now.parked.items c.in-Some.other c.index_mut.result.now (omega (arith, each, named, within)) ∙ ap Some (sym c.index_mut.ensures.value) in
    rw c.remove-in-Some.ensures
    (closed_more c.args.stages.now c.args.graph.now (λ list. list.items) c.args.self.now.candidate _
    (parked_one c.args.stages.now c.args.graph.now (λ list. list.items) c.args.self.now.candidate c.args.self.now.parked.items c.requires.kept c.args.place c.in-Some.other c.dependencies_at.ensures.0 c.dependencies_at.result.now
    c.index_mut.result.now c.push.new.self c.requires.within c.dependencies_at.ensures.1 c.in-Some.ensures list c.in_ok-push-in-Some.ensures.items)
    c.args.place
    (λ name h. inr (is_parked c.args.stages.now c.args.graph.now (λ list. list.items) c.args.self.now.candidate c.args.self.now.parked.items c.requires.kept c.args.place c.in-Some.other c.dependencies_at.ensures.0 c.dependencies_at.result.now
    c.index_mut.result.now c.push.new.self c.dependencies_at.ensures.1 c.in-Some.ensures list c.in_ok-push-in-Some.ensures.items name h)))

pub returns-in_ok-push-in-Some-clause-left : goal.returns-in_ok-push-in-Some-clause-left
returns-in_ok-push-in-Some-clause-left g c none = rw c.remove-in-Some.ensures (none_past_out c.args.place c.args.self.now.candidate none)

pub returns-in_ok-push-in-Some-clause-ready : goal.returns-in_ok-push-in-Some-clause-ready
returns-in_ok-push-in-Some-clause-ready g c name h =
    inr (
      c.in-Some.ensures.name,
      blocked c.args.stages.now c.args.graph.now (λ list. list.items) c.args.self.now.candidate c.args.self.now.parked.items c.requires.kept c.args.place c.dependencies_at.ensures.0 c.dependencies_at.result.now c.in-Some.other
          c.dependencies_at.ensures.1 c.in-Some.ensures name h,
    )

pub returns-in-None-clause-ready : goal.returns-in-None-clause-ready
returns-in-None-clause-ready g c =
    ready_here c.args.stages.now c.args.graph.now (λ list. list.items) c.args.self.now.candidate c.args.self.now.parked.items c.requires.kept c.args.place c.row_at.result.0.now c.dependencies_at.ensures.0 c.row_at.result.1.now
    c.dependencies_at.result.now c.row_at.ensures (sym c.is_waiting.ensures ∙ c.if-not-is_waiting.false) c.dependencies_at.ensures.1 c.in-None.ensures
