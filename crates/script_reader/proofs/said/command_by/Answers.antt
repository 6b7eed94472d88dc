use Rattle.std.proofs.Common.{List, ℕ, sym, ap, ◌∙◌}
use Rattle.std.specs.Str.{bytes_eq}
use Rattle.script_reader.proofs.Words.{IsLater, flat_said, carry_said}
use Rattle.script_reader.proofs.said.command_by.Goals as goal

pub returns-then-starts_with-4-clause-said : goal.returns-then-starts_with-4-clause-said
returns-then-starts_with-4-clause-said c =
    let later : IsLater c.args.content.now = record {
      no_put = sym c.if-starts_with.ensures.value;
      no_drop = sym c.if-starts_with-2.ensures.value;
      no_report = sym c.if-starts_with-3.ensures.value;
      no_check = sym (c.if-eq.ensures ∙ ap (λ (bs : List ℕ). bytes_eq c.args.content.now bs) c.as_slice.ensures);
    } in
    rw (flat_said c.args.content.now later (sym c.if-starts_with-4.ensures.value)) c.asks_flat.ensures.said

pub returns-then-starts_with-5-clause-said : goal.returns-then-starts_with-5-clause-said
returns-then-starts_with-5-clause-said c =
    let later : IsLater c.args.content.now = record {
      no_put = sym c.if-starts_with.ensures.value;
      no_drop = sym c.if-starts_with-2.ensures.value;
      no_report = sym c.if-starts_with-3.ensures.value;
      no_check = sym (c.if-eq.ensures ∙ ap (λ (bs : List ℕ). bytes_eq c.args.content.now bs) c.as_slice.ensures);
    } in
    rw (carry_said c.args.content.now later (sym c.if-starts_with-4.ensures.value)
    (sym c.if-starts_with-5.ensures.value)) c.carries.ensures.said
