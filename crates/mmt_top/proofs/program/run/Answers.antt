use Rattle.std.proofs.Common.{◌≡◌, true, false, true≢false, refl, sym, ap, ◌∙◌, subst, arith}
use Rattle.std.specs.Prelude.{Option, Some, None, IfSome, IsSome, map}
use Rattle.std.specs.Option.{option_map}
use Rattle.std.specs.String.{string_bytes}
use Rattle.command_words_meaning.specs.WordLists.{Run, run_of}
use Rattle.mmt_outside.proofs.Bytes.{ReadPrefix-none}
use Rattle.command_words.specs.ReadRuns.{read_run}
use Rattle.mmt_top.specs.Runs.{IsStatusOf, IsUsage, Prints, ReadHasCause, is_check, is_play}
use Rattle.mmt_top.proofs.Taking.{usage_on}
use Rattle.mmt_top.proofs.ToldTyping.{asked_typed}
use Rattle.mmt_top.proofs.program.run.Goals as goal

not_none : {run : Run} → Some run ≡ None → ⊥
not_none e = cc

pub returns-in-Some : goal.returns-in-Some
returns-in-Some g c =
    let asked : Some (read_run c.in-Some.asked) ≡ run_of (map string_bytes c.args.words.now) = sym (ap (option_map read_run) c.in-Some.is) ∙ c.run_of.ensures.asks in
    let does = c.perform.ensures.does in
    record {
      usage = λ none. absurd (not_none (asked ∙ none));
      status = subst (λ a. IfSome a (λ run. IsStatusOf run.task c.perform.result)) asked does.answers;
      output = subst (λ a. IfSome a (λ run. Prints run.task run.workers c.perform.result (g.S.Source.left c.args.source.now) (g.F.Folder.files c.args.folder.now) (g.K.Sink.taken c.args.sink.now) (g.K.Sink.taken c.perform.new.sink))) asked does.output;
      typed = asked_typed (run_of (map string_bytes c.args.words.now)) (g.S.Source.left c.args.source.now) (g.F.Folder.files c.args.folder.now);
      left = does.part_read;
      read_all = λ p. does.read_all (ap is_play asked ∙ p);
      unread = λ p. c.perform.ensures.unread (ap is_play asked ∙ p);
      uncalled = λ p. c.perform.ensures.uncalled (ap is_check asked ∙ p);
      same = does.same;
      flush = does.flush;
      took = does.took;
      read = λ e. subst (λ a. ReadHasCause a (g.S.Source.faults c.args.source.now) (g.S.Source.faults c.perform.new.source) (g.F.Folder.faults c.args.folder.now) (g.F.Folder.faults c.perform.new.folder)) asked (does.read e);
      write = does.write;
      memory = λ e. subst IsSome asked refl;
      source_later = does.source_later;
      folder_later = does.folder_later;
      sink_later = does.sink_later;
    }

pub returns-in-None : goal.returns-in-None
returns-in-None g c =
    let asked : None ≡ run_of (map string_bytes c.args.words.now) = sym (ap (option_map read_run) c.in-None.is) ∙ c.run_of.ensures.asks in
    record {
      usage = λ none. c.usage.ensures.usage;
      status = subst (λ a. IfSome a (λ run. IsStatusOf run.task c.usage.result)) asked tt;
      output = subst (λ a. IfSome a (λ run. Prints run.task run.workers c.usage.result (g.S.Source.left c.args.source.now) (g.F.Folder.files c.args.folder.now) (g.K.Sink.taken c.args.sink.now) (g.K.Sink.taken c.usage.new.sink))) asked tt;
      typed = asked_typed (run_of (map string_bytes c.args.words.now)) (g.S.Source.left c.args.source.now) (g.F.Folder.files c.args.folder.now);
      left = ReadPrefix-none (g.S.Source.left c.args.source.now);
      read_all = λ p. absurd (true≢false (sym (ap is_play asked ∙ p)));
      unread = λ p. refl;
      uncalled = λ p. refl;
      same = refl;
      flush = c.usage.ensures.flush;
      took = usage_on c.usage.result (g.K.Sink.taken c.args.sink.now) (g.K.Sink.taken c.usage.new.sink) c.usage.ensures.usage;
      read = λ e. absurd (subst (λ s. IsUsage s (g.K.Sink.taken c.args.sink.now) (g.K.Sink.taken c.usage.new.sink)) e c.usage.ensures.usage);
      write = c.usage.ensures.write;
      memory = λ e. absurd (subst (λ s. IsUsage s (g.K.Sink.taken c.args.sink.now) (g.K.Sink.taken c.usage.new.sink)) e c.usage.ensures.usage);
      source_later = omega arith;
      folder_later = omega arith;
      sink_later = c.usage.ensures.later;
    }
