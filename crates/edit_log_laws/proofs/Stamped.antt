-- The edit that made the stamp of a present name.
use Rattle.std.proofs.Common.{◌≡◌, ℕ, suc, ◌+◌, max, Bool, true, false, cond, [], ◌∷◌, fold, slice_get, Some, None, ◌⊎◌, inl, inr, refl, sym, ap, ◌∙◌, arith}
use Rattle.name_meaning.specs.Names.{Name, Text, same_name}
use Rattle.edit_log_meaning.specs.Log.{Edit, Put, Drop, edited_name, Log, Library, edited, library_of, text_of, stamp_from, stamp_of, edit_at}
use Rattle.edit_log_laws.specs.LogLaws.{left_by}
use Rattle.name_laws.proofs.Order.{same_sound}
use Rattle.edit_log_laws.proofs.Libraries.{text_edited}

-- The name was not edited, or it was put with this text at its stamp.
record IsPutAt (version : ℕ) (library : Library) (log : Log) (name : Name) (text : Text) : Type 0 where
  place : ℕ
  stamp : stamp_from version log name ≡ version + place
  edit : slice_get log place ≡ Some (Put name text)

left_put : (e : Edit) (name : Name) (text : Text) → same_name name (edited_name e) ≡ true → left_by e ≡ Some text → e ≡ Put name text
left_put (Put n t) name text s e = let f : t ≡ text = cc in λ i. Put (sym (same_sound name n s) i) (f i)
left_put (Drop n) name text s e = absurd (cc)

later : (v k : ℕ) (b : Bool) (rest : ℕ) → rest ≡ suc v + k → max (cond b v 0) rest ≡ v + suc k
later v k true rest e = omega (arith, e)
later v k false rest e = omega (arith, e)

put_from : (v : ℕ) (library : Library) (log : Log) (name : Name) (text : Text) → text_of (fold edited library log) name ≡ Some text
    → ((stamp_from v log name ≡ 0) × (text_of library name ≡ Some text)) ⊎ IsPutAt v library log name text
unfolding stamp_from
put_from v library [] name text h = inl (refl, h)
put_from v library (e ∷ log) name text h = by (same_name name (edited_name e)) refl (put_from (suc v) (edited library e) log name text h)
  where
    by : (b : Bool) → same_name name (edited_name e) ≡ b → ((stamp_from (suc v) log name ≡ 0) × (text_of (edited library e) name ≡ Some text)) ⊎ IsPutAt (suc v) (edited library e) log name text
        → ((max (cond (same_name name (edited_name e)) v 0) (stamp_from (suc v) log name) ≡ 0) × (text_of library name ≡ Some text)) ⊎ IsPutAt v library (e ∷ log) name text
    by b s (inr q) = inr (record { place = suc q.place; stamp = later v q.place (same_name name (edited_name e)) (stamp_from (suc v) log name) q.stamp; edit = q.edit })
    by true s (inl q) =
        let left : left_by e ≡ Some text = ap (λ c. cond c (left_by e) (text_of library name)) (sym s) ∙ sym (text_edited library e name) ∙ q.1 in
        let none = q.0 in
        inr (record { place = 0; stamp = ap (λ c. max (cond c v 0) (stamp_from (suc v) log name)) s ∙ (let m : max v (stamp_from (suc v) log name) ≡ v + 0 = omega (arith, none) in m); edit = ap Some (left_put e name text s left) })
    by false s (inl q) =
        let none = q.0 in
        inl (
          ap (λ c. max (cond c v 0) (stamp_from (suc v) log name)) s ∙ (let m : max 0 (stamp_from (suc v) log name) ≡ 0 = omega (arith, none) in m),
          ap (λ c. cond c (left_by e) (text_of library name)) (sym s) ∙ sym (text_edited library e name) ∙ q.1,
        )

pub stamped : (log : Log) (name : Name) (text : Text) → text_of (library_of log) name ≡ Some text → edit_at log (stamp_of log name) ≡ Some (Put name text)
unfolding library_of edit_at text_of
stamped log name text h = by (put_from 1 [] log name text h)
  where
    by : ((stamp_from 1 log name ≡ 0) × (text_of [] name ≡ Some text)) ⊎ IsPutAt 1 [] log name text → edit_at log (stamp_of log name) ≡ Some (Put name text)
    by (inl q) = absurd (let e : None ≡ Some text = q.1 in cc)
    by (inr q) = let s : stamp_of log name ≡ suc q.place = q.stamp ∙ (let m : 1 + q.place ≡ suc q.place = omega arith in m) in ap (edit_at log) s ∙ q.edit
