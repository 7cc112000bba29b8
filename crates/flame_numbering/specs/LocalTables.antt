-- What the tables of locals keep: the words that only bodies and proofs use.
use Rattle.std.specs.Prelude.{◌≡◌, ℕ, List, [], ◌∷◌, map, reverse}
use Rattle.std.specs.HashMap.{HashMap, get_by}
use Rattle.std.specs.Str.{bytes_eq}
use Rattle.std.proofs.Common.{Bor}
use Rattle.flame_numbering.specs.declared.locals.Mark.{Mark}
use Rattle.flame_body.specs.WordSlots.{local_number}

-- the names of these locals [own]
abbrev pub names_of : List Mark → List (List ℕ)
names_of marks = map (λ mark. mark.name.now) marks

-- the names of the locals, the newest first; the program keeps the newest last [own]
abbrev pub names_kept : List Mark → List (List ℕ)
names_kept marks = names_of (reverse marks)

-- each of these locals, the newest first, has the number of the local that it hides [own]
abbrev pub HidesRight : List Mark → Type 0
HidesRight [] = Unit {0}
HidesRight (mark ∷ older) = (mark.hides ≡ local_number (names_of older) mark.name.now) × HidesRight older

-- the table finds the number of the newest local of each name [own]
abbrev pub Finds : {S : Type 0} → HashMap (Bor (List ℕ)) ℕ S → List (List ℕ) → Type 0
Finds newest names = (word : List ℕ) → get_by (λ key. bytes_eq word key.now) newest ≡ local_number names word
