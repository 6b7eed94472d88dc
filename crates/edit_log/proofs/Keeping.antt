-- What the tables of a log keep, where the list of its edits is known.
use Rattle.std.proofs.Common.{◌≡◌, [], map, refl, sym, ap, ◌∙◌, subst, arith}
use Rattle.name_meaning.specs.Names.{Name}
use Rattle.edit_log_meaning.specs.Log.{Log, library_of, stamp_from, stamp_of}
use Rattle.edit_log_meaning.specs.Append.{total_size, IsWithinLimits}
use Rattle.edit_log.specs.declared.log.Log.TheInside.{Inside}
use Rattle.edit_log.specs.Readings.{read_edit, read_library}
use Rattle.edit_log.specs.Keeping.{stamp_in, IsKept}

pub kept_by : (log : Inside) (edits : Log) → map read_edit log.edits.items ≡ edits → read_library log.texts ≡ library_of edits
    → ((n : Name) → stamp_in log.stamps.entries n ≡ stamp_of edits n) → log.size ≡ total_size edits → IsWithinLimits edits → IsKept log
kept_by log edits e l s z w = record {
  library = l ∙ sym (ap library_of e);
  stamps = λ n. s n ∙ sym (ap (λ (x : Log). stamp_of x n) e);
  size = z ∙ sym (ap total_size e);
  limits = subst IsWithinLimits (sym e) w;
}

pub empty_within : IsWithinLimits []
unfolding library_of
empty_within = record { texts = refl; edits = omega arith; modules = omega arith; total = omega arith }

pub empty_library : library_of [] ≡ []
unfolding library_of
empty_library = refl

pub empty_stamp : (n : Name) → stamp_of [] n ≡ 0
unfolding stamp_from
empty_stamp n = refl
