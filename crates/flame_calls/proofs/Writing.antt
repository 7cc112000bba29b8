-- One name more of a cycle is written.
use Rattle.std.proofs.Common.{◌≡◌, ℕ, ◌+◌, ◌<◌, List, ◌++◌, length, drop, get_or, map, sym, ap, ◌∙◌, Some}
use Rattle.std.specs.Prelude.{codes, slice_get, option_map}
use Rattle.std.proofs.lemmas.List.{append_assoc, drop_more}
use Rattle.std.proofs.lemmas.Option.{slice_get-map, slice_get_read}
use Rattle.flame_spec.specs.Definitions.{Definition}
use Rattle.flame_spec.specs.HelperFaults.{name_in, arrows}
use Rattle.flame_lookup.specs.declared.found.CFunction.{CFunction}
use Rattle.flame_lookup.specs.WordsFound.{definition_found}

-- a helper that is read is the definition's
pub found_at : (helpers : List CFunction) (i : ℕ) (x : CFunction) → i < length helpers → x ≡ get_or helpers i x → slice_get (map definition_found helpers) i ≡ Some (definition_found x)
found_at helpers i x l e = slice_get-map definition_found helpers i ∙ ap (option_map definition_found) (slice_get_read helpers (length helpers) i x (λ j. length helpers) l e)

pub written_more : (hs : List Definition) (xs : List ℕ) (i : ℕ) (text mid new : List ℕ) (d : Definition)
    → i < length xs → slice_get hs (get_or xs i 0) ≡ Some d
    → mid ≡ text ++ d.name → new ≡ mid ++ codes " -> "
    → new ++ arrows hs (drop (i + 1) xs) ≡ text ++ arrows hs (drop i xs)
written_more hs xs i text mid new d l there p q =
    let rest = arrows hs (drop (i + 1) xs) in
    let more : arrows hs (drop i xs) ≡ d.name ++ (codes " -> " ++ rest) =
    ap (arrows hs) (drop_more xs i 0 l) ∙ ap (λ o. name_in o ++ (codes " -> " ++ rest)) there in
    ap (λ ys. ys ++ rest) (q ∙ ap (λ ys. ys ++ codes " -> ") p)
    ∙ append_assoc (text ++ d.name) (codes " -> ") rest
    ∙ append_assoc text d.name (codes " -> " ++ rest)
    ∙ ap (λ ys. text ++ ys) (sym more)
