-- What the tables say is what stands before.
use Rattle.std.proofs.Common.{◌≡◌, ℕ, zero, suc, ◌<◌, ◌≤◌, List, [], ◌∷◌, ◌++◌, length, refl, sym, ap, ◌∙◌, false, Some, None, Option}
use Rattle.std.specs.Prelude.{◌||◌, slice_get}
use Rattle.std.specs.List.{list_any}
use Rattle.std.proofs.lemmas.Option.{slice_get_past}
use Rattle.flame_spec.specs.declared.models.Input.{Input}
use Rattle.flame_spec.specs.Functions.{Place}
use Rattle.flame_spec.specs.Below.{all_below, is_in}
use Rattle.flame_spec.specs.Before.{both_stand, before_among}
use Rattle.flame_depend.specs.FunctionTables.{Table, listed}
use Rattle.flame_depend.specs.Links.{adds_at, enters_at, listed_at, IsAdding, AreEntering, is_linked}

none_of : (inputs : List Input) → list_any (λ input. false) inputs ≡ false
none_of [] = refl
none_of (input ∷ inputs) = none_of inputs

pub linked_is : (types : ℕ) (ps : List Place) (tables : List Table) (table adding : Table) (i : ℕ) (p : Place) → AreEntering types ps tables → IsAdding ps adding → p.agent < types → slice_get ps i ≡ Some p → slice_get tables p.agent ≡ Some table → (f : ℕ) → is_linked p table adding f ≡ before_among ps f i
linked_is types ps tables table adding i p entering added l here there f =
    ap (λ b. b || list_any (λ input. is_in f (listed adding input.message)) p.function.inputs) enters
    ∙ ap (λ test. enters_at (slice_get ps f) p.agent p.function.current || list_any test p.function.inputs) (λ j input. added input.message f j)
    ∙ go (slice_get ps f)
    ∙ sym (ap (both_stand (slice_get ps f)) here)
  where
    enters : is_in f (listed table p.function.current) ≡ enters_at (slice_get ps f) p.agent p.function.current
    enters = ap (λ o. is_in f (listed_at o p.function.current)) (sym there) ∙ entering.at p.agent l p.function.current f

    go : (o : Option Place) → (enters_at o p.agent p.function.current || list_any (λ input. adds_at o input.message) p.function.inputs) ≡ both_stand o (Some p)
    go None = none_of p.function.inputs
    go (Some q) = refl

nothing : (n : ℕ) → all_below (λ g. false) n ≡ []
nothing zero = refl
nothing (suc n) = ap (λ xs. xs ++ []) (nothing n)

-- what is past the last function stands before nothing
pub none_after : (ps : List Place) (f n : ℕ) → length ps ≤ f → all_below (before_among ps f) n ≡ []
none_after ps f n l = ap (λ o. all_below (λ g. both_stand o (slice_get ps g)) n) (slice_get_past ps f l) ∙ nothing n
