-- Names in capitals among names.
use Rattle.std.proofs.Common.{◌≡◌, ℕ, List, map}
use Rattle.flame_ops.specs.Ascii.{capitals}
use Rattle.flame_spec.specs.KnownNames.{is_among}

-- where capitals are looked up
pub looked_up : (name text : List ℕ) (shouted earlier : List (List ℕ))
    → text ≡ capitals name
    → shouted ≡ map capitals earlier
    → is_among (capitals name) (map capitals earlier) ≡ is_among text shouted
looked_up name text shouted earlier t s = cc
