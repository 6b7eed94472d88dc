use Rattle.std.proofs.Common.{◌≡◌, ◌++◌, ◌+◌, ◌-◌, ◌^◌, List, ℕ, length, min, ap, subst, ◌∙◌, arith}
use Rattle.run_meaning.specs.ScriptCommands.{kept}
use Rattle.script_reader.specs.HeldTexts.{Held, more}
use Rattle.script_reader.proofs.HeldTexts.{kept-more, pushed}
use Rattle.script_reader.proofs.kept.KeptText.push.Goals as goal

pub returns : goal.returns
returns c =
    let bytes : c.extend_from_slice.new.self.items ≡ kept (c.self.inside.kept.items ++ c.args.piece.now) =
    c.in_ok-extend_from_slice.ensures.items ∙ ap (λ (bs : List ℕ). c.self.inside.kept.items ++ bs) c.front.ensures
    ∙ kept-more c.self.inside.kept.items c.args.piece.now (2 ^ 20 + 1 - c.len-room.result) (omega (arith, c.self.invariant, c.len-room.ensures)) in
    let total : c.saturating_add-self-inside.result ≡ min (c.self.inside.total + length c.args.piece.now) (2 ^ 64 - 1) =
    omega (arith, c.saturating_add-self-inside.ensures) in
    subst (λ (held : Held). ◌≡◌ {A = Held} (record { kept = c.extend_from_slice.new.self.items; total = c.saturating_add-self-inside.result }) (more held c.args.piece.now))
    c.self.view_is
    (pushed (record { kept = c.self.inside.kept.items; total = c.self.inside.total }) c.args.piece.now c.extend_from_slice.new.self.items
    c.saturating_add-self-inside.result bytes total)
