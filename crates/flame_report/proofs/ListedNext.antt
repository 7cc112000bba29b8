-- The listings of what is left, of which one is added.
use Rattle.std.proofs.Common.{◌≡◌, ℕ, suc, ◌+◌, List, ◌++◌, drop, Some, sym, ap, ◌∙◌, append_assoc, add-one}
use Rattle.std.specs.Prelude.{slice_get}
use Rattle.flame_rows.proofs.Lists.{drop-there}
use Rattle.flame_spec.specs.Lists.{each_from}

pub listed-next : {X Y : Type 0} (f : ℕ → X → List Y) (text : List Y) (xs : List X) (i : ℕ) (x : X)
    → slice_get xs i ≡ Some x
    → text ++ each_from f i (drop i xs) ≡ (text ++ f i x) ++ each_from f (i + 1) (drop (i + 1) xs)
listed-next f text xs i x at =
    ap (λ rest. text ++ each_from f i rest) (drop-there xs i x at)
    ∙ sym (append_assoc text (f i x) (each_from f (i + 1) (drop (suc i) xs)))
    ∙ ap (λ n. (text ++ f i x) ++ each_from f (i + 1) (drop n xs)) (sym (add-one i))
