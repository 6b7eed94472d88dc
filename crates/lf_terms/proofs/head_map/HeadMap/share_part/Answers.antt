use Rattle.std.proofs.Common.{◌≡◌, ◌∷◌, ◌++◌, [], ◌+◌, None, length, sym, ap, subst, ◌∙◌, arith}
use Rattle.std.specs.Map.{lookup}
use Rattle.std.proofs.lemmas.List.{nil_from_length}
use Rattle.name_meaning.specs.Names.{same_name, Name}
use Rattle.indexmap.proofs.CallerLemmas.{insert_entry-new}
use Rattle.list_laws.proofs.Options.{none_of}
use Rattle.lf_terms.specs.Tables.{HasDistinctHeads}
use Rattle.lf_terms.specs.Parts.{pairs_of, AreOfTheory, HasParts, Parts}
use Rattle.lf_terms.proofs.SharedPairs.{part_pushed, seen_more}
use Rattle.lf_terms.proofs.head_map.HeadMap.share_part.Goals as goal

record Shares (c : goal.After-self-1) : Type 0 where
  none : c.self.inside.own.entries ≡ []
  new : lookup (same_name c.theory-theory.result.now) c.self.inside.parts.entries ≡ None
  parts : c.insert.new.self.entries ≡ c.self.inside.parts.entries ++ (c.theory-theory.result.now, c.args.part.now) ∷ []
  named : AreOfTheory c.theory-theory.result.now c.args.part.now
  distinct : HasDistinctHeads c.args.part.now
  counted : c.self.inside.count + length c.args.part.now ≡ c.in-Some.count

shares : (c : goal.After-self-1) → Shares c
shares c =
    let theory = c.theory-theory.result.now in
    let parts = c.self.inside.parts in
    let new : lookup (same_name theory) parts.entries ≡ None = none_of (lookup (same_name theory) parts.entries) (sym c.contains_key.ensures ∙ c.if-contains_key.false) in
    let key = c.in_ok-key.ensures in
    record {
      none = nil_from_length c.self.inside.own.entries (omega (arith, c.len-2.ensures.len, c.if-len-gt0.false));
      new = new;
      parts = c.in_ok-previous.ensures.entries
          ∙ insert_entry-new same_name parts c.in_ok-key.key c.in_ok-shared.shared (ap (λ (t : Name). lookup (same_name t) parts.entries) key ∙ new)
          ∙ (λ i. parts.entries ++ (key i, c.in_ok-shared.ensures i) ∷ []);
      named = subst (AreOfTheory theory) c.get-pairs.ensures c.theory-theory.ensures;
      distinct = subst HasDistinctHeads c.get-pairs.ensures c.len.ensures.distinct;
      counted = let long = ap length c.get-pairs.ensures in omega (arith, long, c.len.ensures.len, c.in-Some.ensures);
    }

pub invariant_of-self-2 : goal.invariant_of-self-2
invariant_of-self-2 c =
    let s = shares c in
    let parts = c.self.inside.parts.entries in
    let own = c.self.inside.own.entries in
    let theory = c.theory-theory.result.now in
    let es = c.args.part.now in
    subst (λ n. HasParts c.insert.new.self.entries own n) s.counted
    (subst (λ (p : Parts). HasParts p own (c.self.inside.count + length es)) (sym s.parts) (part_pushed parts own c.self.inside.count c.self.invariant s.none theory es s.named s.new s.distinct))

pub returns-clause-ok : goal.returns-clause-ok
returns-clause-ok c =
    let s = shares c in
    let parts = c.self.inside.parts.entries in
    let own = c.self.inside.own.entries in
    let theory = c.theory-theory.result.now in
    let es = c.args.part.now in
    rw (← c.self.view_is) (ap (λ (p : Parts). pairs_of p ++ own) s.parts ∙ seen_more parts own c.self.inside.count c.self.invariant s.none theory es s.named s.new s.distinct)
