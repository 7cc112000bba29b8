-- What a place sees, as tables keep it: the words that only bodies and proofs use.
use Rattle.std.specs.Prelude.{ℕ, ◌+◌, List, [], ◌∷◌, map, reverse, take, drop, Option, Some, None, option_map}
use Rattle.std.proofs.Common.{Bor}
use Rattle.flame_spec.specs.Scopes.{Sight, Loop, over_message, over_none}

-- names, cut into scopes of these lengths, from the inside [own]
abbrev pub cut : List ℕ → List (List ℕ) → List (List (List ℕ))
cut [] names = []
cut (n ∷ ns) names = take n names ∷ cut ns (drop n names)

-- these lengths together [own]
abbrev pub total : List ℕ → ℕ
total [] = 0
total (n ∷ ns) = n + total ns

-- a loop over the message of this name, or over none [own]
abbrev pub loop_of : Option (Bor (List ℕ)) → Loop
loop_of None = over_none
loop_of (Some name) = over_message name.now

-- the name, if there is one [own]
abbrev pub name_of : Option (Bor (List ℕ)) → Option (List ℕ)
name_of name = option_map (λ n. n.now) name

-- what is seen with these locals, of which the innermost scope has so many, and those round it so many each, the outermost
-- first; with this own name; in these loops, the outermost first [own]
abbrev pub sight_of : List (List ℕ) → ℕ → List ℕ → Option (Bor (List ℕ)) → List (Option (Bor (List ℕ))) → Sight
sight_of names here outer own loops = record {
  scope = take here names;
  outer = cut (reverse outer) (drop here names);
  own = name_of own;
  loops = map loop_of (reverse loops);
}
