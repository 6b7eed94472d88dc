-- Covering assignments one by one.
use Rattle.std.proofs.Common.{◌≡◌, ℕ, ◌+◌, ◌<◌, ◌≤◌, length, take, drop, get_or, true, false, List, [], ◌∷◌, ◌++◌, filter_map, None, refl, sym, ap, ◌∙◌}
use Rattle.std.specs.List.{cons_option}
use Rattle.std.proofs.lemmas.List.{at_drop_more, drop_all, take_more, map-append}
use Rattle.std.proofs.lemmas.List.Elements.{filter_map-append}
use Rattle.name_meaning.specs.Names.{Name}
use Rattle.library_meaning.specs.Closure.{sees}
use Rattle.library_meaning.specs.Faces.{Environment}
use Rattle.link_meaning.specs.Coverings as meant
use Rattle.link_meaning.specs.Coverings.{cover_if, cover_by}
use Rattle.term_trees.specs.Readings.{read_map}
use Rattle.mmt_syntax.specs.Readings.{read_span}
use Rattle.link_setting.specs.Readings.{read_assigned, read_all_assigned}
use Rattle.covering_pass.specs.CoverTables.{cover_of, covers_in}
use Rattle.covering_pass.specs.declared.cover_tables.Cover.{Cover}
use Rattle.link_setting.specs.declared.assigned.Assigned.{Assigned}
use Rattle.link_setting.specs.declared.assigned.Assigned.TheVariants.{Covering, Sharing, Giving}

-- The assignment of a table, and its map.
abbrev pub read_cover : Cover → meant.Cover
read_cover cover = record { first = read_span cover.first; map = read_map cover.map.now }

module _ (theory : Name) where
  module _ (items covers : List Cover) (i : ℕ) (same : items ≡ covers) where
    -- the next one of those that are left
    pub next_cover : (cover : Cover) → i < length items → cover ≡ get_or items i cover → covers_in (drop i covers) theory ≡ covers_in (cover ∷ drop (i + 1) covers) theory
    next_cover cover within there =
        ap (λ (cs : List Cover). covers_in (drop i cs) theory) (sym same)
        ∙ at_drop_more (λ (cs : List Cover). covers_in cs theory) items i cover within
        ∙ ap (λ (x : Cover). covers_in (x ∷ drop (i + 1) items) theory) (sym there)
        ∙ ap (λ (cs : List Cover). covers_in (cover ∷ drop (i + 1) cs) theory) same

    pub no_cover : length items ≤ i → covers_in (drop i covers) theory ≡ []
    no_cover past = ap (λ (cs : List Cover). covers_in (drop i cs) theory) (sym same) ∙ ap (λ (cs : List Cover). covers_in cs theory) (drop_all i items past)

  module _ (cover : Cover) (covers : List Cover) where
    pub covers_here : sees cover.theories.keys theory ≡ true → covers_in (cover ∷ covers) theory ≡ read_cover cover ∷ covers_in covers theory
    covers_here h = ap (λ b. cons_option (cover_if b (read_span cover.first) (read_map cover.map.now)) (covers_in covers theory)) h

    pub covers_later : sees cover.theories.keys theory ≡ false → covers_in (cover ∷ covers) theory ≡ covers_in covers theory
    covers_later h = ap (λ b. cons_option (cover_if b (read_span cover.first) (read_map cover.map.now)) (covers_in covers theory)) h

  -- one more table, of one more assignment
  module _ (environment : Environment) (assigned : List Assigned) (i : ℕ) (item : Assigned) (within : i < length assigned) (there : item ≡ get_or assigned i item) where
    one_more : filter_map (cover_by environment theory) (read_all_assigned (take (i + 1) assigned)) ≡ filter_map (cover_by environment theory) (read_all_assigned (take i assigned)) ++ cons_option (cover_by environment theory (read_assigned item)) []
    one_more =
        ap (λ (xs : List Assigned). filter_map (cover_by environment theory) (read_all_assigned xs)) (take_more assigned i item within ∙ ap (λ x. take i assigned ++ x ∷ []) (sym there))
        ∙ ap (filter_map (cover_by environment theory)) (map-append read_assigned (take i assigned) (item ∷ []))
        ∙ filter_map-append (cover_by environment theory) (read_all_assigned (take i assigned)) (read_assigned item ∷ [])

    pub one_more_covers : (covers : List Cover) (cover : Cover) → cover_of theory cover ≡ cover_by environment theory (read_assigned item)
        → covers_in covers theory ≡ filter_map (cover_by environment theory) (read_all_assigned (take i assigned))
        → covers_in (covers ++ cover ∷ []) theory ≡ filter_map (cover_by environment theory) (read_all_assigned (take (i + 1) assigned))
    one_more_covers covers cover e h =
        filter_map-append (cover_of theory) covers (cover ∷ [])
        ∙ ap (λ o. covers_in covers theory ++ cons_option o []) e
        ∙ ap (λ cs. cs ++ cons_option (cover_by environment theory (read_assigned item)) []) h
        ∙ sym one_more

    append_none : (xs : List meant.Cover) → xs ++ [] ≡ xs
    append_none [] = refl
    append_none (x ∷ xs) = ap (λ z. x ∷ z) (append_none xs)

    covers_nothing : (a : Assigned) → ((first : _) (by : _) → a ≡ Covering first by → ⊥) → cover_by environment theory (read_assigned a) ≡ None
    covers_nothing (Covering first by) h = absurd (h first by refl)
    covers_nothing (Sharing target structure first by) h = refl
    covers_nothing (Giving target value) h = refl

    pub no_more_covers : (covers : List Cover) → ((first : _) (by : _) → item ≡ Covering first by → ⊥)
        → covers_in covers theory ≡ filter_map (cover_by environment theory) (read_all_assigned (take i assigned))
        → covers_in covers theory ≡ filter_map (cover_by environment theory) (read_all_assigned (take (i + 1) assigned))
    no_more_covers covers not h =
        h
        ∙ sym (append_none (filter_map (cover_by environment theory) (read_all_assigned (take i assigned))))
        ∙ ap (λ o. filter_map (cover_by environment theory) (read_all_assigned (take i assigned)) ++ cons_option o []) (sym (covers_nothing item not))
        ∙ sym one_more
