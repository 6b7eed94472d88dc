use Rattle.std.proofs.Common.{◌∙◌}
use Rattle.std.proofs.lemmas.Result.{on_ok_weaker}
use Rattle.saved_log.proofs.AppendCalls.{first_write, first_sync, second_write, second_sync, is_appended}
use Rattle.saved_log.proofs.append.append_bytes.Goals as goal

pub returns-in_err-write_at-clause-any_moment : goal.returns-in_err-write_at-clause-any_moment
returns-in_err-write_at-clause-any_moment g c before after told ready =
    first_write
    g.D.Disk.seen g.D.Disk.images g.D.Disk.moment_of g.D.Disk.left_since c.args.gate c.args.piece.now before after c.args.disk.now ready (λ image left. g.met.D.Disk.only_now c.args.disk.now image told left)
    c.write_at.new.self (c.write_at.ensures.torn told) (c.write_at.ensures.time told)

pub returns-in_err-sync-clause-any_moment : goal.returns-in_err-sync-clause-any_moment
returns-in_err-sync-clause-any_moment g c before after told ready =
    let told_one = c.write_at.ensures.tells ∙ told in
    first_sync
    g.D.Disk.seen g.D.Disk.images g.D.Disk.moment_of g.D.Disk.left_since c.args.gate c.args.piece.now before after c.args.disk.now ready (λ image left. g.met.D.Disk.only_now c.args.disk.now image told left)
    c.write_at.new.self (c.write_at.ensures.torn told) (c.write_at.ensures.time told)
    c.sync.new.self (c.sync.ensures.reads told_one)

pub returns-in_err-write_at-2-clause-any_moment : goal.returns-in_err-write_at-2-clause-any_moment
returns-in_err-write_at-2-clause-any_moment g c before after told ready =
    let told_one = c.write_at.ensures.tells ∙ told in
    let told_two = c.sync.ensures.tells ∙ told_one in
    second_write
    g.D.Disk.seen g.D.Disk.images g.D.Disk.moment_of g.D.Disk.left_since c.args.gate c.args.piece.now before after c.args.disk.now ready (λ image left. g.met.D.Disk.only_now c.args.disk.now image told left)
    c.write_at.new.self (c.write_at.ensures.torn told) (c.write_at.ensures.time told)
    c.sync.new.self (c.sync.ensures.reads told_one)
    (c.in_ok-write_at.ensures.written told) (c.in_ok-sync.ensures.durable told_one) c.write_at-2.new.self (c.write_at-2.ensures.torn told_two) (c.write_at-2.ensures.time told_two)

pub returns-clause-any_moment : goal.returns-clause-any_moment
returns-clause-any_moment g c before after told ready =
    let told_one = c.write_at.ensures.tells ∙ told in
    let told_two = c.sync.ensures.tells ∙ told_one in
    let told_three = c.write_at-2.ensures.tells ∙ told_two in
    second_sync
    g.D.Disk.seen g.D.Disk.images g.D.Disk.moment_of g.D.Disk.left_since c.args.gate c.args.piece.now before after c.args.disk.now ready (λ image left. g.met.D.Disk.only_now c.args.disk.now image told left)
    c.write_at.new.self (c.write_at.ensures.torn told) (c.write_at.ensures.time told)
    c.sync.new.self (c.sync.ensures.reads told_one)
    (c.in_ok-write_at.ensures.written told) (c.in_ok-sync.ensures.durable told_one) c.write_at-2.new.self (c.write_at-2.ensures.torn told_two) (c.write_at-2.ensures.time told_two)
    c.sync-2.new.self (c.sync-2.ensures.reads told_three)

pub returns-clause-appended : goal.returns-clause-appended
returns-clause-appended g c before after told ready =
    let told_one = c.write_at.ensures.tells ∙ told in
    let told_two = c.sync.ensures.tells ∙ told_one in
    let told_three = c.write_at-2.ensures.tells ∙ told_two in
    on_ok_weaker c.sync-2.result
    (is_appended
    g.D.Disk.seen g.D.Disk.images g.D.Disk.moment_of g.D.Disk.left_since c.args.gate c.args.piece.now before after c.args.disk.now ready (λ image left. g.met.D.Disk.only_now c.args.disk.now image told left)
    c.write_at.new.self (c.write_at.ensures.torn told) (c.write_at.ensures.time told)
    c.sync.new.self (c.sync.ensures.reads told_one)
    (c.in_ok-write_at.ensures.written told) (c.in_ok-sync.ensures.durable told_one) c.write_at-2.new.self (c.write_at-2.ensures.torn told_two) (c.write_at-2.ensures.time told_two)
    c.sync-2.new.self (c.sync-2.ensures.reads told_three) (c.in_ok-write_at-2.ensures.written told_two))
    (c.sync-2.ensures.durable told_three)
