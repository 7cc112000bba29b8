-- The first of some numbers.
use Rattle.std.specs.Prelude.{◌≡◌, ℕ, ◌≤◌, ◌==◌, ◌&&◌, not, true, List}
use Rattle.flame_spec.specs.Below.{is_in}

-- f is among the numbers, none of which is less, and the rest are the others [own]
pub record IsFirstOf (numbers : List ℕ) (f : ℕ) (rest : List ℕ) : Type 0 where
  pub there : is_in f numbers ≡ true
  pub least : (g : ℕ) → is_in g numbers ≡ true → f ≤ g
  pub others : (g : ℕ) → is_in g rest ≡ (is_in g numbers && not (f == g))
