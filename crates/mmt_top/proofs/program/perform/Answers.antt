use Rattle.std.proofs.Common.{◌≡◌, true≢false, refl, sym, ap, ◌∙◌, subst, arith}
use Rattle.mmt_outside.proofs.Bytes.{ReadPrefix-none}
use Rattle.command_words.specs.ReadRuns.{IsInBounds, read_task}
use Rattle.judged_meaning.specs.Outputs.{generate_output}
use Rattle.mmt_top.specs.GeneratorRuns.{IsGeneratorStatus}
use Rattle.mmt_top.specs.Runs.{Does, checks, plays}
use Rattle.mmt_top.proofs.Taking.{generated_on}
use Rattle.mmt_top.proofs.program.perform.Goals as goal

pub generate-requires-clause-start : goal.generate-requires-clause-start
generate-requires-clause-start g c κs within = (subst IsInBounds c.in-Generate.is c.requires.numbers).0

pub generate-requires-clause-modules : goal.generate-requires-clause-modules
generate-requires-clause-modules g c κs within = let b = subst IsInBounds c.in-Generate.is c.requires.numbers in (b.1, b.2)

pub generate-requires-clause-edits : goal.generate-requires-clause-edits
generate-requires-clause-edits g c κs within = (subst IsInBounds c.in-Generate.is c.requires.numbers).3

pub returns-in-Play : goal.returns-in-Play
returns-in-Play g c = record {
  does = subst
      (λ s. Does (record { task = read_task c.args.asked.task; workers = c.args.asked.workers }) s (g.S.Source.left c.args.source.now) (g.S.Source.left c.session.new.source) (g.S.Source.faults c.args.source.now) (g.S.Source.faults c.session.new.source)
      (g.F.Folder.files c.args.folder.now) (g.F.Folder.files c.args.folder.now) (g.F.Folder.faults c.args.folder.now) (g.F.Folder.faults c.args.folder.now)
      (g.K.Sink.taken c.args.sink.now) (g.K.Sink.taken c.session.new.sink) (g.K.Sink.faults c.args.sink.now) (g.K.Sink.faults c.session.new.sink))
      (sym c.left_to_the_system.ensures)
      (subst
      (λ t. Does (record { task = read_task t; workers = c.args.asked.workers }) c.session.result.status (g.S.Source.left c.args.source.now) (g.S.Source.left c.session.new.source) (g.S.Source.faults c.args.source.now) (g.S.Source.faults c.session.new.source)
      (g.F.Folder.files c.args.folder.now) (g.F.Folder.files c.args.folder.now) (g.F.Folder.faults c.args.folder.now) (g.F.Folder.faults c.args.folder.now)
      (g.K.Sink.taken c.args.sink.now) (g.K.Sink.taken c.session.new.sink) (g.K.Sink.faults c.args.sink.now) (g.K.Sink.faults c.session.new.sink))
      (sym c.in-Play.is)
      (record {
        answers = c.session.ensures.status;
        output = c.session.ensures.output;
        part_read = c.session.ensures.left;
        read_all = λ p. c.session.ensures.read_all;
        same = refl;
        flush = c.session.ensures.flush;
        read = c.session.ensures.read;
        write = c.session.ensures.write;
        source_later = c.session.ensures.source_later;
        folder_later = omega arith;
        sink_later = c.session.ensures.sink_later;
        took = c.session.ensures.took;
      }));
  unread = λ e. absurd (true≢false (sym (ap (λ t. plays (read_task t)) c.in-Play.is) ∙ e));
  uncalled = λ e. refl;
}

pub returns-in-CheckFolder : goal.returns-in-CheckFolder
returns-in-CheckFolder g c = record {
  does = subst
      (λ s. Does (record { task = read_task c.args.asked.task; workers = c.args.asked.workers }) s (g.S.Source.left c.args.source.now) (g.S.Source.left c.args.source.now) (g.S.Source.faults c.args.source.now) (g.S.Source.faults c.args.source.now)
      (g.F.Folder.files c.args.folder.now) (g.F.Folder.files c.check_folder.new.folder) (g.F.Folder.faults c.args.folder.now) (g.F.Folder.faults c.check_folder.new.folder)
      (g.K.Sink.taken c.args.sink.now) (g.K.Sink.taken c.check_folder.new.sink) (g.K.Sink.faults c.args.sink.now) (g.K.Sink.faults c.check_folder.new.sink))
      (sym c.left_to_the_system-in-CheckFolder.ensures)
      (subst
      (λ t. Does (record { task = read_task t; workers = c.args.asked.workers }) c.check_folder.result.status (g.S.Source.left c.args.source.now) (g.S.Source.left c.args.source.now) (g.S.Source.faults c.args.source.now) (g.S.Source.faults c.args.source.now)
      (g.F.Folder.files c.args.folder.now) (g.F.Folder.files c.check_folder.new.folder) (g.F.Folder.faults c.args.folder.now) (g.F.Folder.faults c.check_folder.new.folder)
      (g.K.Sink.taken c.args.sink.now) (g.K.Sink.taken c.check_folder.new.sink) (g.K.Sink.faults c.args.sink.now) (g.K.Sink.faults c.check_folder.new.sink))
      (sym c.in-CheckFolder.is)
      (record {
        answers = c.check_folder.ensures.status;
        output = c.check_folder.ensures.output;
        part_read = ReadPrefix-none (g.S.Source.left c.args.source.now);
        read_all = λ p. absurd (true≢false (sym p));
        same = c.check_folder.ensures.same;
        flush = c.check_folder.ensures.flush;
        read = c.check_folder.ensures.read;
        write = c.check_folder.ensures.write;
        source_later = omega arith;
        folder_later = c.check_folder.ensures.folder_later;
        sink_later = c.check_folder.ensures.sink_later;
        took = c.check_folder.ensures.took;
      }));
  unread = λ e. refl;
  uncalled = λ e. absurd (true≢false (sym (ap (λ t. checks (read_task t)) c.in-CheckFolder.is) ∙ e));
}

pub returns-in-Generate : goal.returns-in-Generate
returns-in-Generate g c = record {
  does = subst
      (λ s. Does (record { task = read_task c.args.asked.task; workers = c.args.asked.workers }) s (g.S.Source.left c.args.source.now) (g.S.Source.left c.args.source.now) (g.S.Source.faults c.args.source.now) (g.S.Source.faults c.args.source.now)
      (g.F.Folder.files c.args.folder.now) (g.F.Folder.files c.args.folder.now) (g.F.Folder.faults c.args.folder.now) (g.F.Folder.faults c.args.folder.now)
      (g.K.Sink.taken c.args.sink.now) (g.K.Sink.taken c.generate.new.sink) (g.K.Sink.faults c.args.sink.now) (g.K.Sink.faults c.generate.new.sink))
      (sym c.left_to_the_system-in-Generate.ensures)
      (subst
      (λ t. Does (record { task = read_task t; workers = c.args.asked.workers }) c.generate.result.status (g.S.Source.left c.args.source.now) (g.S.Source.left c.args.source.now) (g.S.Source.faults c.args.source.now) (g.S.Source.faults c.args.source.now)
      (g.F.Folder.files c.args.folder.now) (g.F.Folder.files c.args.folder.now) (g.F.Folder.faults c.args.folder.now) (g.F.Folder.faults c.args.folder.now)
      (g.K.Sink.taken c.args.sink.now) (g.K.Sink.taken c.generate.new.sink) (g.K.Sink.faults c.args.sink.now) (g.K.Sink.faults c.generate.new.sink))
      (sym c.in-Generate.is)
      (record {
        answers = c.generate.ensures.status;
        output = c.generate.ensures.output;
        part_read = ReadPrefix-none (g.S.Source.left c.args.source.now);
        read_all = λ p. absurd (true≢false (sym p));
        same = refl;
        flush = c.generate.ensures.flush;
        read = λ e. absurd (subst IsGeneratorStatus e c.generate.ensures.status);
        write = c.generate.ensures.write;
        source_later = omega arith;
        folder_later = omega arith;
        sink_later = c.generate.ensures.sink_later;
        took = generated_on c.generate.result.status (g.K.Sink.taken c.args.sink.now) (g.K.Sink.taken c.generate.new.sink) (generate_output c.in-Generate.start c.in-Generate.modules c.in-Generate.edits c.args.asked.workers) c.generate.ensures.output;
      }));
  unread = λ e. refl;
  uncalled = λ e. refl;
}
