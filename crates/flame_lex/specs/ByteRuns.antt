-- Kinds of bytes, and runs of them.
use Rattle.std.specs.Prelude.{◌≡◌, ℕ, ◌==◌, ◌||◌, Bool, true, false, not, List, [], ◌∷◌, nat_eq}
use Rattle.std.specs.Prelude.{length, take_while, drop}
use Rattle.std.specs.List.{list_all, starts_with}

-- space, tab, LF, CR, VT, FF [C, 6.4]
abbrev pub is_blank : ℕ → Bool
is_blank b = (b == 32) || (b == 9) || (b == 10) || (b == 13) || (b == 11) || (b == 12)

-- a byte that ends a line [own]
abbrev pub is_line_feed : ℕ → Bool
is_line_feed b = b == 10

-- a byte that ends no line [own]
abbrev pub stays_on_line : ℕ → Bool
stays_on_line b = not (is_line_feed b)

-- what may stand between the parts of a directive [C, 6.10]
abbrev pub is_space_or_tab : ℕ → Bool
is_space_or_tab b = (b == 32) || (b == 9)

-- `#` [C, 6.10]
abbrev pub is_hash : ℕ → Bool
is_hash b = b == 35

-- `-` [C, 6.5.3.3]
abbrev pub is_minus : ℕ → Bool
is_minus b = b == 45

-- there is a first byte, and it is such [own]
abbrev pub first_is : (ℕ → Bool) → List ℕ → Bool
first_is is_such [] = false
first_is is_such (b ∷ bytes) = is_such b

-- the bytes begin with the text [own]
abbrev pub begins : List ℕ → List ℕ → Bool
begins bytes text = starts_with nat_eq bytes text

-- what follows the bytes at the front that are such [own]
abbrev pub behind : (ℕ → Bool) → List ℕ → List ℕ
behind is_such bytes = drop (length (take_while is_such bytes)) bytes

-- the text is all such bytes at the front of text and rest [own]
pub record IsRun (is_such : ℕ → Bool) (text rest : List ℕ) : Type 0 where
  pub all : list_all is_such text ≡ true
  pub ends : first_is is_such rest ≡ false
