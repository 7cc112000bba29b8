-- Faults in a list that is walked.
use Rattle.std.proofs.Common.{◌≡◌, ℕ, ◌+◌, ◌<◌, List, [], ◌++◌, length, drop, get_or, sym, ap, ◌∙◌}
use Rattle.std.proofs.lemmas.List.{at_drop_more}
use Rattle.flame_spec.specs.declared.faults.NameFault.{NameFault}
use Rattle.flame_spec.specs.Lists.{each_from}

-- a member without a fault
pub none-member : {X : Type 0} (f : ℕ → X → List NameFault) (xs : List X) (i : ℕ) (d : X) (member : List NameFault)
    → i < length xs
    → member ≡ f i (get_or xs i d)
    → member ≡ []
    → each_from f i (drop i xs) ≡ each_from f (i + 1) (drop (i + 1) xs)
none-member f xs i d member inside e none =
    at_drop_more (each_from f i) xs i d inside
    ∙ ap (λ l. l ++ each_from f (i + 1) (drop (i + 1) xs)) (sym e ∙ none)
