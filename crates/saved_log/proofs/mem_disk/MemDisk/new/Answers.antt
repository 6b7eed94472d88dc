use Rattle.std.proofs.Common.{◌≡◌, ◌++◌, List, ℕ, length, ap, sym, ◌∙◌, arith}
use Rattle.saved_log.proofs.MemCalls.{seen_none}
use Rattle.saved_log.proofs.mem_disk.MemDisk.new.Goals as goal

pub invariant_of-result : goal.invariant_of-result
invariant_of-result c =
    let items : c.extend_from_slice.new.self.items ≡ c.args.bytes = c.in_ok-extend_from_slice.ensures.items ∙ ap (λ (l : List ℕ). l ++ c.as_slice.result.now) c.in_ok-held.ensures.items ∙ c.as_slice.ensures in
    record {
      bytes = items ∙ sym (seen_none c.args.bytes c.in_ok-record.record.kept c.in_ok-record.ensures.kept);
      grown = omega (arith, ap length items);
      within = omega (arith, ap length items, c.in_ok-record.ensures.taken);
      room = omega (arith, c.in_ok-record.ensures.room, c.extend_from_slice.ensures.capacity, c.in_ok-held.ensures.exact, c.len.ensures, c.in-Some.ensures);
    }
