use Rattle.std.proofs.Common.{◌≡◌, length, sym, ap, ◌∙◌}
use Rattle.std.specs.List.{AllZip}
use Rattle.std.proofs.lemmas.List.Elements.{length_all_zip}
use Rattle.worker_crew.specs.Worked.{HasWorked}
use Rattle.worker_crew.proofs.Lists.{zip_by_places, related_as, written_back}
use Rattle.worker_crew.proofs.Worked.{are_still}
use Rattle.worker_crew.proofs.working.work_all.Goals as goal

pub returns-clause-worked : goal.returns-clause-worked
returns-clause-worked g c =
    let before = c.as_mut_slice.result.now in
    let after = c.for_each_beside.new.items in
    let as_many : length after ≡ length before = c.for_each_beside.auto.items in
    let worked : AllZip (HasWorked g.S.Subject.subject) before after =
    zip_by_places (HasWorked g.S.Subject.subject) before after as_many
    (λ i d lt. let at = (c.for_each_beside.ensures i d lt).1 in related_as (HasWorked g.S.Subject.subject) at.argument.now at.after_call.now _ _ at.argument_is at.left at.call) in
    related_as (AllZip (HasWorked g.S.Subject.subject)) before after c.args.crew.now _ (c.as_mut_slice.ensures.value ∙ c.crew.view_is)
    (sym (written_back c.crew.inside.workers.items after c.crew.inside.workers.len c.crew.inside.workers.ok.0 (as_many ∙ ap length c.as_mut_slice.ensures.value))) worked

pub returns-clause-as_many : goal.returns-clause-as_many
returns-clause-as_many g c = sym (length_all_zip (HasWorked g.S.Subject.subject) c.args.crew.now _ (returns-clause-worked g c))

pub returns-clause-workers : goal.returns-clause-workers
returns-clause-workers g c = are_still g.S.Subject.subject c.args.hall.now.board.now c.args.crew.now _ (returns-clause-worked g c) c.requires
