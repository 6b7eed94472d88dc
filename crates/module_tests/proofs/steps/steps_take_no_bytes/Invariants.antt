use Rattle.module_tests.proofs.steps.steps_take_no_bytes.Given as goal

-- The ledger of the blank.
abbrev pub ghosts-counted : goal.ghosts-counted
ghosts-counted g a = record { name = a.blank.name; parts = a.blank.parts }
