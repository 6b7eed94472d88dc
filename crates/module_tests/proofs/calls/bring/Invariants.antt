use Rattle.module_tests.proofs.calls.bring.Given as goal

-- The ledger of the blank.
abbrev pub ghosts-judged : goal.ghosts-judged
ghosts-judged g a = record { name = a.blank.name; parts = a.blank.parts }
