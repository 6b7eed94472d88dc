-- What a run does to its source and to its sink, from what its calls did.
use Rattle.std.proofs.Common.{◌≡◌, ◌≤◌, ℕ, List, [], refl, sym, ap, ◌∙◌, subst, arith}
use Rattle.std.specs.Prelude.{IfSome, Option, Some, None}
use Rattle.mmt_outside.specs.Bytes.{Taken, appended, flushed}
use Rattle.mmt_outside.specs.Faults.{Rose}
use Rattle.mmt_outside.proofs.Bytes.{appended-nil}
use Rattle.run_status.specs.Flushed.{IsFlushed, FlushesAt}
use Rattle.run_status.specs.Taking.{TookOn}
use Rattle.run_status.specs.declared.status.Status.{Status}
use Rattle.run_status.specs.declared.status.Status.TheVariants.{Done, Refused, Usage, ReadFault, WriteFault, Memory, ScriptFault}
use Rattle.run_status.proofs.Taking.{TookOn-flushed, TookOn-more, TookOn-none}
use Rattle.mmt_top.specs.Outside.{LeavesSink, LeavesSource}

flushed_so : (before now : Option Taken) → now ≡ flushed before → IsFlushed now
flushed_so before now e = subst IsFlushed (sym e) (by before)
  where
    by : (taken : Option Taken) → IsFlushed (flushed taken)
    by None = tt
    by (Some taken) = refl

flushes_at : (status : Status) (now : Option Taken) → IsFlushed now → FlushesAt status now
flushes_at Done now f = f
flushes_at Refused now f = f
flushes_at Usage now f = f
flushes_at ReadFault now f = tt
flushes_at WriteFault now f = tt
flushes_at Memory now f = tt
flushes_at ScriptFault now f = f

-- Nothing was done, for want of memory.
pub sink_untouched : (before : Option Taken) (writes : ℕ) → LeavesSink (Some Memory) before before writes writes
sink_untouched before writes = record { took = TookOn-none before; flush = tt; write = λ e. absurd (cc); later = omega arith }

pub source_untouched : (reads : ℕ) → LeavesSource (Some Memory) reads reads
source_untouched reads = record { read = λ e. absurd (cc); later = omega arith }

-- The source failed.
pub sink_unread : (before : Option Taken) (writes : ℕ) → LeavesSink (Some ReadFault) before before writes writes
sink_unread before writes = record { took = TookOn-none before; flush = tt; write = λ e. absurd (cc); later = omega arith }

-- A piece was written, and all was flushed.
pub sink_flushed : (status : Status) (before now : Option Taken) (piece : List ℕ) (writes writes_after : ℕ) → (status ≡ WriteFault → ⊥) → now ≡ flushed (appended before piece)
    → writes ≤ writes_after → LeavesSink (Some status) before now writes writes_after
sink_flushed status before now piece writes writes_after well e later = record {
  took = TookOn-flushed before now piece e;
  flush = flushes_at status now (flushed_so (appended before piece) now e);
  write = λ w. absurd (well w);
  later = later;
}

-- Nothing was written, and all was flushed.
pub nothing_flushed : (before now : Option Taken) → now ≡ flushed before → now ≡ flushed (appended before [])
nothing_flushed before now e = e ∙ ap flushed (sym (appended-nil before))

-- The sink failed.
pub sink_failed : (before now : Option Taken) (writes writes_after : ℕ) → TookOn before now → Rose writes writes_after → writes ≤ writes_after → LeavesSink (Some WriteFault) before now writes writes_after
sink_failed before now writes writes_after took rose later = record { took = took; flush = tt; write = λ e. rose; later = later }

-- It took what was written, and the run goes on.
pub sink_goes_on : (before now : Option Taken) (writes writes_after : ℕ) → TookOn before now → writes ≤ writes_after → LeavesSink None before now writes writes_after
sink_goes_on before now writes writes_after took later = record { took = took; flush = tt; write = tt; later = later }

-- The run did not end by a fault of the source.
pub source_unfailed : (end : Option Status) (reads reads_after : ℕ) → IfSome end (λ status. status ≡ ReadFault → ⊥) → reads ≤ reads_after → LeavesSource end reads reads_after
source_unfailed end reads reads_after never later = record { read = by end never; later = later }
  where
    by : (o : Option Status) → IfSome o (λ status. status ≡ ReadFault → ⊥) → IfSome o (λ status. status ≡ ReadFault → Rose reads reads_after)
    by None h = tt
    by (Some status) h = λ e. absurd (h e)

-- Where the run goes on, and then ends.
pub source_more : (end : Option Status) (reads between reads_after : ℕ) → reads ≤ between → LeavesSource end between reads_after → LeavesSource end reads reads_after
source_more end reads between reads_after first then = record { read = by end then.read; later = (let later = then.later in omega (arith, first, later)) }
  where
    by : (o : Option Status) → IfSome o (λ status. status ≡ ReadFault → Rose between reads_after) → IfSome o (λ status. status ≡ ReadFault → Rose reads reads_after)
    by None h = tt
    by (Some status) h = λ e. (let rose = h e in omega (arith, first, rose))

pub sink_more : (end : Option Status) (before between now : Option Taken) (writes writes_between writes_after : ℕ) → TookOn before between → writes ≤ writes_between
    → LeavesSink end between now writes_between writes_after → LeavesSink end before now writes writes_after
sink_more end before between now writes writes_between writes_after took first then = record {
  took = TookOn-more before between now took then.took;
  flush = then.flush;
  write = by end then.write;
  later = (let later = then.later in omega (arith, first, later));
}
  where
    by : (o : Option Status) → IfSome o (λ status. status ≡ WriteFault → Rose writes_between writes_after) → IfSome o (λ status. status ≡ WriteFault → Rose writes writes_after)
    by None h = tt
    by (Some status) h = λ e. (let rose = h e in omega (arith, first, rose))
