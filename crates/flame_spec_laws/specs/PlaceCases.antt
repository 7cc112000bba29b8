-- Where a name stands in a small function, and what it sees there, worked by hand. [own]
use Rattle.std.specs.Prelude.{[], ◌∷◌, codes, pos, Some, None}
use Rattle.flame_spec.specs.declared.trees.Parameter.{Parameter}
use Rattle.flame_spec.specs.Trees.{number, name, branch, for, Statements, no_more, arm, no_arms}
use Rattle.flame_spec.specs.Seen.{statements_of}
use Rattle.flame_spec.specs.Scopes.{over_none, Sight, at_entry}
use Rattle.flame_spec_laws.specs.SmallTrees.{local, calls}
use Rattle.flame_spec_laws.specs.BodyParts.{value, defining, StandsIn}
use Rattle.flame_spec_laws.specs.CheckCases.{fly_there}

-- the parameter a
abbrev pub a_parameter : Parameter
a_parameter = record { line = 1; name = codes "a" }

-- 2: for (int i = 0; i;)  3: if (a)  4: add_signal_message(a, i);
abbrev pub nested_body : Statements
nested_body =
    statements_of (
    for 2 (statements_of (local 2 (codes "i") (Some (number (pos 0))) ∷ [])) (Some (name 2 (codes "i"))) None
    (statements_of (
    branch
    (arm (name 3 (codes "a")) (statements_of (
    calls 4 (codes "add_signal_message") (name 4 (codes "a") ∷ name 4 (codes "i") ∷ [])
    ∷ [])) no_arms)
    no_more
    ∷ []))
    ∷ [])

-- the last name sees an empty scope in the body of the `for`, in the scope of i, in the scope of a, and one loop
abbrev pub last_sight : Sight
last_sight = record {
  scope = [];
  outer = [] ∷ (codes "i" ∷ []) ∷ (codes "a" ∷ []) ∷ [];
  own = None;
  loops = over_none ∷ [];
}

-- it stands there
abbrev pub LastNameStands : Type 0
LastNameStands =
    StandsIn fly_there (value (name 4 (codes "i"))) last_sight (defining (a_parameter ∷ []) nested_body) at_entry
