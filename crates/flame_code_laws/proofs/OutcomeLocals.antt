-- The locals with which a helper begins.
use Rattle.std.proofs.Common.{◌≡◌, ℕ, zero, suc, ◌==◌, cond, List, [], ◌∷◌, ◌++◌, length, map, reverse, refl, sym, ap, ◌∙◌}
use Rattle.std.specs.Prelude.{ℤ, pos}
use lib.Dec.{eqb-zero-suc, eqb-suc-zero, eqb-suc-suc}
use Rattle.std.proofs.lemmas.List.{length-reverse, reverse-append, reverse-reverse}
use Rattle.flame_spec.specs.Conditions.{number_at}
use Rattle.flame_code.specs.Machine.{first_locals}
use Rattle.flame_meaning.specs.Scenes.{Local}
use Rattle.flame_number_laws.specs.NumberedScenes.{local_at, nameless}

-- the numbers with one more behind them
push_read :
    (ws : List ℤ) (v : ℤ) (k : ℕ) → number_at (ws ++ v ∷ []) k ≡ cond (length ws == k) v (number_at ws k)
push_read [] v zero = refl
push_read [] v (suc k) = sym (ap (λ b. cond b v (pos 0)) (eqb-zero-suc k))
push_read (w ∷ ws) v zero = sym (ap (λ b. cond b v w) (eqb-suc-zero (length ws)))
push_read (w ∷ ws) v (suc k) =
    push_read ws v k ∙ sym (ap (λ b. cond b v (number_at ws k)) (eqb-suc-suc (length ws) k))

-- the values of locals
abbrev values_in : List Local → List ℤ
values_in xs = map (λ x. x.value) xs

-- those of locals with one more behind them
values_push : (xs : List Local) (x : Local) → values_in (xs ++ x ∷ []) ≡ values_in xs ++ x.value ∷ []
values_push [] x = refl
values_push (y ∷ xs) x = ap (λ vs. y.value ∷ vs) (values_push xs x)

-- there is one for each local
values_long : (xs : List Local) → length (values_in xs) ≡ length xs
values_long [] = refl
values_long (x ∷ xs) = ap suc (values_long xs)

-- a local is read at its place from the oldest one on
local_read : (k : ℕ) (xs : List Local) → local_at k xs ≡ number_at (values_in (reverse xs)) k
local_read k [] = refl
local_read k (x ∷ xs) =
    ap (λ w. cond (length xs == k) x.value w) (local_read k xs)
    ∙ sym (ap (λ ys. number_at (values_in ys) k) (reverse-append (x ∷ []) xs)
    ∙ ap (λ ys. number_at ys k) (values_push (reverse xs) x)
    ∙ push_read (values_in (reverse xs)) x.value k
    ∙ ap (λ n. cond (n == k) x.value (number_at (values_in (reverse xs)) k))
    (values_long (reverse xs) ∙ length-reverse xs))

-- the values of nameless locals
nameless_values : (vs : List ℤ) → values_in (map nameless vs) ≡ vs
nameless_values [] = refl
nameless_values (v ∷ vs) = ap (λ ws. v ∷ ws) (nameless_values vs)

-- there is one for each value
nameless_long : (vs : List ℤ) → length (map nameless vs) ≡ length vs
nameless_long [] = refl
nameless_long (v ∷ vs) = ap suc (nameless_long vs)

-- the arguments are the first locals
pub entry_read : (vs : List ℤ) (k : ℕ) → first_locals vs k ≡ local_at k (reverse (map nameless vs))
entry_read vs k =
    sym (local_read k (reverse (map nameless vs))
    ∙ ap (λ ys. number_at (values_in ys) k) (reverse-reverse (map nameless vs))
    ∙ ap (λ ws. number_at ws k) (nameless_values vs))

-- there is a local for each argument
pub entry_long : (vs : List ℤ) → length (reverse (map nameless vs)) ≡ length vs
entry_long vs = length-reverse (map nameless vs) ∙ nameless_long vs
