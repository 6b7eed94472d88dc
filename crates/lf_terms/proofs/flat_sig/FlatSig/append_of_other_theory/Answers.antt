use Rattle.lf_terms.proofs.flat_sig.FlatSig.append_of_other_theory.Goals as goal

pub insert_in_both-requires-clause-name : goal.insert_in_both-requires-clause-name
insert_in_both-requires-clause-name c = rw c.self.view_is c.requires
