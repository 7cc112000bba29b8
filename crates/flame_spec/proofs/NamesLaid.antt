-- Names of scopes that are laid end to end.
use Rattle.std.proofs.Common.{◌≡◌, ℕ, List, ◌∷◌, refl, sym, ap, ◌∙◌, []}
use Rattle.std.specs.Prelude.{◌||◌}
use Rattle.std.specs.List.{list_any}
use Rattle.std.specs.Str.{bytes_eq}
use Rattle.std.proofs.lemmas.List.Folds.{list_any-append}
use Rattle.flame_spec.specs.KnownNames.{is_among}
use Rattle.flame_spec.specs.Scopes.{laid}

-- a name of one of these scopes is among them all
pub is_among-laid :
    (word : List ℕ) (scopes : List (List (List ℕ)))
    → list_any (is_among word) scopes ≡ is_among word (laid scopes)
is_among-laid word [] = refl
is_among-laid word (scope ∷ scopes) =
    ap (λ b. is_among word scope || b) (is_among-laid word scopes)
    ∙ sym (list_any-append (bytes_eq word) scope (laid scopes))
