use Rattle.std.proofs.Common.{◌≡◌, ◌++◌, ℕ, List, map, drop}
use Rattle.std.specs.Str.{bytes_eq}
use Rattle.flame_spec.specs.Lists.{numbers_from, numbers_where}
use Rattle.flame_lookup.specs.WordsFound.{place_found}
use Rattle.flame_lookup.specs.WordTables.{numbers_under}
use Rattle.flame_lookup.proofs.functions.numbers_by_name.Given as goal

abbrev pub invariant-loop-i : goal.invariant-loop-i
invariant-loop-i l = (name : List ℕ)
    → numbers_under l.table name
    ++ numbers_from (λ place. bytes_eq name place.function.name) l.i (map place_found (drop l.i l.places))
    ≡ numbers_where (λ place. bytes_eq name place.function.name) (map place_found l.places)
