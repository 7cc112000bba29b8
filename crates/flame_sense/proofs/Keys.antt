-- Keys of sorts.
use mir.Syntax.{w32}
use mir.Val.{SFits, to_z, of_z}
use Rattle.std.proofs.lemmas.Int.{to_z-of_z}
use Rattle.std.proofs.Common.{◌≡◌, List, ap, ◌∙◌, true, false}
use Rattle.std.specs.Prelude.{ℤ}
use Rattle.std.specs.Ordering.{int_cmp}
use Rattle.flame_spec.specs.Conditions.{number_at}
use Rattle.flame_spec.specs.Views.{Key, key_order}

pub key_falls :
    (key : Key) (a b : List ℤ)
    → key.descending ≡ true
    → key_order key a b ≡ int_cmp (number_at b key.column) (number_at a key.column)
key_falls key a b h = ap (λ d. (key_order (record { column = key.column; descending = d })) a b) h

pub key_rises :
    (key : Key) (a b : List ℤ)
    → key.descending ≡ false
    → key_order key a b ≡ int_cmp (number_at a key.column) (number_at b key.column)
key_rises key a b h = ap (λ d. (key_order (record { column = key.column; descending = d })) a b) h

-- the comparison of two numbers, as the program makes it
pub compared :
    (x y p q : ℤ)
    → SFits w32 x
    → SFits w32 y
    → x ≡ p
    → y ≡ q
    → int_cmp (to_z w32 (of_z w32 x)) (to_z w32 (of_z w32 y)) ≡ int_cmp p q
compared x y p q f g e h =
    ap (λ v. int_cmp v (to_z w32 (of_z w32 y))) (to_z-of_z w32 x f ∙ e) ∙ ap (int_cmp p) (to_z-of_z w32 y g ∙ h)
