-- The name of a file tells the number of its iteration.
use Rattle.std.proofs.Common.{◌≡◌, ℕ, ◌<◌, ◌≤◌, ◌^◌, List, [], ◌++◌, length, Option, Some, None, refl}
use Rattle.std.proofs.Common.{arith}
use Rattle.std.specs.Prelude.{ℤ, pos, negsuc, ◌≤ℤ◌, codes, slice_get}
use Rattle.std.specs.Fmt.{signed_decimal}
use Rattle.std.specs.Int.Signed.{mag}
use Rattle.std.proofs.lemmas.Fmt.{signed_decimal_injective}
use Rattle.std.proofs.lemmas.Int.{ints}
use Rattle.std.proofs.lemmas.List.{append_cancel_left, append_cancel_right}
use Rattle.std.proofs.lemmas.Option.{slice_get_within}
use Rattle.flame_spec.specs.declared.outcomes.Source.{Source}
use Rattle.flame_world.specs.declared.faults.SimFault.{SimFault}
use Rattle.flame_popfile.specs.declared.starts.Start.{Start}
use Rattle.flame_popfile.specs.StartLaws.{LeavesRoom}
use Rattle.flame_driver.specs.Runs.{Stage, run}
use Rattle.flame_driver.specs.RunScripts.{file_name}
use Rattle.flame_driver.specs.FileNames.{NamesDiffer}
use Rattle.flame_driver.proofs.Iterated.{runs_are_iterated}

-- the number stands between the prefix and what follows
names_tell :
    (prefix : List ℕ) (itno other : ℤ)
    → mag itno < 2 ^ 63
    → mag other < 2 ^ 63
    → file_name prefix itno ≡ file_name prefix other
    → itno ≡ other
names_tell prefix itno other small small_too same =
    let behind : List ℕ = codes ".json" ++ [] in
    signed_decimal_injective itno other small small_too
    (append_cancel_right (signed_decimal itno) (signed_decimal other) behind
    (append_cancel_left prefix (signed_decimal itno ++ behind) (signed_decimal other ++ behind) same))

-- a number of an iteration is small
is_small : (itno : ℤ) → pos 0 ≤ℤ itno → itno ≤ℤ pos 2147483647 → mag itno < 2 ^ 63
is_small (pos n) low high = omega (arith, ints)
is_small (negsuc n) low high = absurd (omega (arith, ints))

module _ (source : Source) (fuel turns : ℕ) (start : Start) where
  abbrev stages : List Stage
  stages = (run source fuel turns start).stages

  -- no more iterations than were asked for
  few : length stages ≤ turns
  few = by (run source fuel turns start).fault refl
    where
      by : (fault : Option SimFault) → (run source fuel turns start).fault ≡ fault → length stages ≤ turns
      by None is = let all = runs_are_iterated.whole source fuel turns start is in omega (arith, all)
      by (Some fault) is =
          let fewer = (runs_are_iterated.fault source fuel turns start fault is).0 in
          omega (arith, fewer)

  small_at :
      (place : ℕ) (done : Stage)
      → LeavesRoom turns start.itno
      → slice_get stages place ≡ Some done
      → mag done.itno < 2 ^ 63
  small_at place done room is =
      let number = runs_are_iterated.number source fuel turns start place done is in
      let within = slice_get_within stages place done is in
      let low : pos 0 ≤ℤ done.itno = omega (arith, ints, number, room.first) in
      let high : done.itno ≤ℤ pos 2147483647 = omega (arith, ints, number, within, few, room.last) in
      is_small done.itno low high

  same_place :
      (prefix : List ℕ) (place other : ℕ) (first second : Stage)
      → LeavesRoom turns start.itno
      → slice_get stages place ≡ Some first
      → slice_get stages other ≡ Some second
      → file_name prefix first.itno ≡ file_name prefix second.itno
      → place ≡ other
  same_place prefix place other first second room is is_too same =
      let one = runs_are_iterated.number source fuel turns start place first is in
      let two = runs_are_iterated.number source fuel turns start other second is_too in
      let number : first.itno ≡ second.itno
      = names_tell prefix first.itno second.itno
      (small_at place first room is) (small_at other second room is_too) same
      in
      omega (arith, ints, one, two, number)

pub names_differ : NamesDiffer
names_differ = record { numbers = names_tell; runs = same_place }
