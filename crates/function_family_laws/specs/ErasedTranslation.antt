-- Erasure commutes with the translation of simple types, along any map and for any families, kinds and contexts.
use Rattle.std.specs.Prelude.{◌≡◌, map}
use Rattle.lf_meaning.specs.Terms.{Family, Kind, Context, SimpleContext}
use Rattle.lf_meaning.specs.Erasure.{erase, erase_context}
use Rattle.lf_meaning.specs.HeadMaps.{HeadMap}
use Rattle.translation_meaning.specs.FunctionFamilies.{translate_simple, translate_family, translate_kind, translate_context, erased_domains}

-- The erasure of a translated family is the translated erasure, whatever the types of the variables are.
abbrev pub ErasedFamiliesAreTranslated : Type 0
ErasedFamiliesAreTranslated =
    (along : HeadMap) (types : SimpleContext) (family : Family)
    → erase (translate_family along types family) ≡ translate_simple along (erase family)

-- So it is with the domains of a kind, and with the families of a context.
abbrev pub ErasedDomainsAreTranslated : Type 0
ErasedDomainsAreTranslated =
    (along : HeadMap) (types before : SimpleContext) (kind : Kind)
    → erased_domains (translate_kind along types kind) (map (translate_simple along) before) ≡ map (translate_simple along) (erased_domains kind before)

abbrev pub ErasedContextsAreTranslated : Type 0
ErasedContextsAreTranslated =
    (along : HeadMap) (context : Context)
    → erase_context (translate_context along context) ≡ map (translate_simple along) (erase_context context)
