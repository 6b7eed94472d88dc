-- Where a damaged file is damaged.
use Rattle.std.proofs.Common.{◌≡◌, ◌≢◌, ◌⊎◌, ℕ, ◌+◌, ◌<◌, ◌≤◌, Bool, true, false, List, [], ◌∷◌, ◌++◌, length, take, nat_le, inl, inr, refl, sym, ap, ◌∙◌, arith, length-append}
use Rattle.std.proofs.lemmas.Bool.Decides.{nat_tests}
use Rattle.saved_log_meaning.specs.SavedFiles.{DamagedAt, contents_from, heading, file_contents}
use Rattle.saved_log_laws.specs.SavedFileLaws.{IsWrong, DamagedGate}
use Rattle.saved_log_laws.proofs.Gates.{long_file, short_file}
use Rattle.saved_log_laws.proofs.LastGates.{Stop, stop_of, stop_closed, stop_open, wrong, Long, Headed, Unheaded, long_of, not_edits, places_same}

pub damage : (file : List ℕ) (at : ℕ) → file_contents file ≡ DamagedAt at → ((at ≡ 0) × (take (length heading) file ≢ heading)) ⊎ DamagedGate file at
damage file at e = by_length (nat_le (length file) 9) refl
  where
    by_stop : (body : List ℕ) → file ≡ heading ++ body → contents_from (length heading) [] body ≡ DamagedAt at → (stop : Stop (length heading) [] body) → (stop.gate ≡ 0) ⊎ ((stop.gate ≢ 0) × IsWrong stop.log stop.behind) → DamagedGate file at
    by_stop body whole is stop (inl shut) = absurd (not_edits at stop.log (sym is ∙ stop_closed (length heading) [] body stop shut))
    by_stop body whole is stop (inr open_gate) = record {
      front = stop.front;
      gate = stop.gate;
      behind = stop.behind;
      log = stop.log;
      is_split = whole ∙ ap (λ (l : List ℕ). heading ++ l) stop.is_split;
      is_place = places_same (sym is ∙ stop_open (length heading) [] body stop open_gate.0 open_gate.1);
      is_open = open_gate.0;
      leads = stop.leads;
      is_wrong = open_gate.1;
    }

    by_heading : Long file → ((at ≡ 0) × (take (length heading) file ≢ heading)) ⊎ DamagedGate file at
    by_heading (Headed body whole two is) = let stop = stop_of (length heading) [] body (omega (arith, two)) in inr (by_stop body whole (sym is ∙ e) stop stop.ends)
    by_heading (Unheaded not is) = inl (places_same (sym e ∙ is), not)

    by_length : (b : Bool) → nat_le (length file) 9 ≡ b → ((at ≡ 0) × (take (length heading) file ≢ heading)) ⊎ DamagedGate file at
    by_length true few = absurd (not_edits at [] (sym e ∙ short_file file (grind (arith, nat_tests, few))))
    by_length false many = by_heading (long_of file (grind (arith, nat_tests, many)))

pub gate_damage : (file : List ℕ) (at : ℕ) → 9 < length file → DamagedGate file at → file_contents file ≡ DamagedAt at
gate_damage file at long damaged =
    let body = damaged.front ++ damaged.gate ∷ damaged.behind in
    let two : 2 ≤ length body = omega (arith, long, ap length damaged.is_split, length-append heading body) in
    ap file_contents damaged.is_split
    ∙ long_file body two
    ∙ damaged.leads damaged.gate damaged.behind
    ∙ wrong (length heading + length damaged.front) damaged.log damaged.gate damaged.behind damaged.is_open damaged.is_wrong
    ∙ ap DamagedAt (sym damaged.is_place)
