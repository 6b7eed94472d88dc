use Rattle.std.proofs.Common.{◌≡◌, List, ℕ, take, subst}
use Rattle.std.specs.Prelude.{IfOk, Some}
use Rattle.run_meaning.specs.ScriptCommands.{of_name, carry_of}
use Rattle.script_reader.specs.Said.{read_said}
use Rattle.script_reader.proofs.Spaces.{parted-some, parted-none}
use Rattle.script_reader.proofs.said.carries.Goals as goal

pub returns-in-Some-clause-said : goal.returns-in-Some-clause-said
returns-in-Some-clause-said c =
    rw (parted-some c.args.words.now c.in-Some.at cc)
    (subst (λ (judgement : List ℕ). IfOk c.carries_along.result (λ said. read_said said ≡ Some (of_name (λ name. carry_of name judgement) (take c.in-Some.at c.args.words.now))))
    c.behind.ensures c.carries_along.ensures.said)

pub returns-in-None-clause-said : goal.returns-in-None-clause-said
returns-in-None-clause-said c = rw (parted-none c.args.words.now cc) search
