-- A run of the generator, from what its front did.
use Rattle.std.proofs.Common.{◌≡◌, ℕ, true, List, [], ◌++◌, refl, sym, ap, ap₂, ◌∙◌, subst, arith}
use Rattle.std.specs.Prelude.{Option, Some, None, IfSome, Result, Ok, Err, length, nat_eq, take, if◌then◌else◌}
use Rattle.std.proofs.lemmas.List.{take_all}
use Rattle.mmt_outside.specs.Bytes.{Taken, appended, flushed, TookPrefix}
use Rattle.mmt_outside.proofs.Bytes.{TookPrefix-none}
use Rattle.text_meaning.specs.Dependencies.{dependencies}
use Rattle.edit_log_meaning.specs.Log.{Log}
use Rattle.edit_log_meaning.specs.Append.{appended_all}
use Rattle.board_meaning.specs.Events.{History, log_of}
use Rattle.board_meaning.specs.Ready.{is_closed}
use Rattle.board_meaning.specs.Standing.{installs}
use Rattle.printing_meaning.specs.GeneratorLines.{generator_line, installs_line}
use Rattle.run_meaning.specs.Generator.{counts_of, generated, generator_output, installs_of}
use Rattle.judged_meaning.specs.JudgingByRules.{rules}
use Rattle.judged_meaning.specs.Outputs.{generate_output}
use Rattle.worker_crew.specs.Leading.{WasLed}
use Rattle.board_front.specs.Staying.{Stays}
use Rattle.generator_front.specs.declared.counts.Counts.{Counts}
use Rattle.generator_front.specs.Generated.{IsBegun, IsDone, IsGenerated}
use Rattle.generator_front.proofs.LaterHistories.{generated_later}
use Rattle.run_status.specs.declared.status.Status.{Status}
use Rattle.run_status.specs.declared.status.Status.TheVariants.{Done, Refused, Usage, ReadFault, WriteFault, Memory, ScriptFault}
use Rattle.mmt_top.specs.GeneratorRuns.{EndsAs, EndsGenerated, MakesEdits, generator_lines}

-- What the front did, with what its workers did behind it.
pub was_generated : {Fault : Type 0} (start modules edits : ℕ) (result : Result Counts Fault) (history : History)
    → WasLed dependencies (IsGenerated start modules edits result) history → IsGenerated start modules edits result history
was_generated start modules edits result history led =
    let on = led.at_point.goes_on in
    let stays : Stays led.seen history = record { legal = led.at_point.legal; later = on.later; begins = on.begins; logged = led.logged } in
    generated_later led.seen history stays start modules edits result led.led_to

-- The lines of what was counted are the output.
pub lines_are : (workers start modules edits : ℕ) (counts : Counts) (history : History) → IsDone start modules edits counts history
    → generator_lines workers modules edits counts (installs history) ≡ generate_output start modules edits workers
unfolding generator_output
lines_are workers start modules edits counts history done =
    ap₂ (λ c n. generator_line c ++ (if nat_eq workers 0 then installs_line n else [])) (done.counted ∙ ap (counts_of rules modules edits) done.logged) done.installed

done_is_begun : (start modules edits : ℕ) (counts : Counts) (history : History) → IsDone start modules edits counts history → IsBegun start modules edits (log_of history)
done_is_begun start modules edits counts history done = record {
  given = length (generated start modules edits);
  logged = done.logged ∙ ap (appended_all []) (sym (take_all (length (generated start modules edits)) (generated start modules edits) (omega arith)));
}

made : (status : Status) (before now : Option Taken) (output : List ℕ) (start modules edits : ℕ) (counts : Counts) (history : History) → EndsAs status before now output
    → IsDone start modules edits counts history → MakesEdits status start modules edits (log_of history)
made Done before now output start modules edits counts history ends done = done.logged
made Refused before now output start modules edits counts history ends done = absurd ends
made Usage before now output start modules edits counts history ends done = absurd ends
made ReadFault before now output start modules edits counts history ends done = absurd ends
made WriteFault before now output start modules edits counts history ends done = done_is_begun start modules edits counts history done
made Memory before now output start modules edits counts history ends done = done_is_begun start modules edits counts history done
made ScriptFault before now output start modules edits counts history ends done = absurd ends

-- The lines were written, or a first part of them.
pub printed : {Fault : Type 0} (status : Status) (workers start modules edits : ℕ) (before now : Option Taken) (counts : Counts) (history : History)
    → IsGenerated {Fault = Fault} start modules edits (Ok counts) history → EndsAs status before now (generator_lines workers modules edits counts (installs history))
    → EndsGenerated status workers start modules edits before now history
printed status workers start modules edits before now counts history led ends = record {
  output = subst (EndsAs status before now) (lines_are workers start modules edits counts history led.ends) ends;
  legal = led.legal;
  closed = led.closed;
  made = made status before now (generator_lines workers modules edits counts (installs history)) start modules edits counts history ends led.ends;
  backs = λ done. led.ends.backed;
}

-- Memory was wanting.
pub unprinted : {Fault : Type 0} (workers start modules edits : ℕ) (before : Option Taken) (fault : Fault) (history : History)
    → IsGenerated {Fault = Fault} start modules edits (Err fault) history → EndsGenerated Memory workers start modules edits before before history
unprinted workers start modules edits before fault history led = record {
  output = TookPrefix-none before (generate_output start modules edits workers);
  legal = led.legal;
  closed = led.closed;
  made = led.ends;
  backs = λ done. absurd cc;
}

-- Nothing was made.
pub nothing_generated : (status : Status) (workers start modules edits : ℕ) (before : Option Taken) (history : History) → status ≡ Memory → Stays [] history → is_closed history ≡ true
    → EndsGenerated status workers start modules edits before before history
unfolding log_of appended_all
nothing_generated status workers start modules edits before history is stays closed =
    subst (λ (s : Status). EndsGenerated s workers start modules edits before before history) (sym is)
    (record {
      output = TookPrefix-none before (generate_output start modules edits workers);
      legal = stays.legal;
      closed = closed;
      made = record { given = 0; logged = stays.logged };
      backs = λ done. absurd cc;
    })

pub nothing_generated_there : (status : Status) (workers start modules edits : ℕ) (before : Option Taken) (board : Option History) → status ≡ Memory
    → IfSome board (λ last. Stays [] last × (is_closed last ≡ true)) → IfSome board (EndsGenerated status workers start modules edits before before)
nothing_generated_there status workers start modules edits before None is ends = tt
nothing_generated_there status workers start modules edits before (Some last) is ends = nothing_generated status workers start modules edits before last is ends.0 ends.1
