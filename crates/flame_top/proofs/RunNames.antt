-- A run puts no name twice.
use Rattle.std.proofs.Common.{◌≡◌, ℕ, ◌<◌, ◌≤◌, ◌^◌, List, length, map, Option, Some, None, option_map, refl, sym, ap, ◌∙◌, subst, arith}
use Rattle.std.specs.Prelude.{ℤ, pos, negsuc, ◌+ℤ◌, ◌≤ℤ◌, slice_get}
use Rattle.std.specs.Int.Signed.{mag}
use Rattle.std.proofs.lemmas.Int.{ints}
use Rattle.std.proofs.lemmas.Option.{slice_get-map, slice_get_within, same_Some, none-some}
use Rattle.flame_outside.specs.WhatIsTold.{files_by}
use Rattle.flame_spec.specs.declared.outcomes.Source.{Source}
use Rattle.flame_world.specs.declared.faults.SimFault.{SimFault}
use Rattle.flame_popfile.specs.declared.starts.Start.{Start}
use Rattle.flame_driver.specs.Runs.{Stage, run}
use Rattle.flame_driver.specs.RunScripts.{Writing, file_name, stage_text, acts_of}
use Rattle.flame_driver.specs.IteratedRuns.{RunsAreIterated, StagesAreWritten}
use Rattle.flame_driver.specs.FileNames.{NamesDiffer}
use Rattle.flame_top.proofs.FileTotals.{Named, NamesStandOnce}

-- what stands behind an image
record Image {A B : Type 0} (f : A → B) (found : Option A) (y : B) : Type 0 where
  x : A
  is : found ≡ Some x
  same : f x ≡ y

image : {A B : Type 0} (f : A → B) (found : Option A) (y : B) → option_map f found ≡ Some y → Image f found y
image f None y e = absurd (none-some y e)
image f (Some x) y e = record { x = x; is = refl; same = same_Some (f x) y e }

-- a number that 32 bits hold is small
is_small : (itno : ℤ) → negsuc 2147483647 ≤ℤ itno → itno ≤ℤ pos 2147483647 → mag itno < 2 ^ 63
is_small (pos n) low high = omega (arith, ints)
is_small (negsuc n) low high = omega (arith, ints)

module _ (differ : NamesDiffer) (iterated : RunsAreIterated) (written : StagesAreWritten) (source : Source) (fuel turns : ℕ) (start : Start) (low : negsuc 2147483647 ≤ℤ start.itno) (room : (start.itno +ℤ pos turns) ≤ℤ pos 2147483647) where
  abbrev stages : List Stage
  stages = (run source fuel turns start).stages

  -- no more iterations than were asked for
  few : length stages ≤ turns
  few = by (run source fuel turns start).fault refl
    where
      by : (fault : Option SimFault) → (run source fuel turns start).fault ≡ fault → length stages ≤ turns
      by None is = let all = iterated.whole source fuel turns start is in omega (arith, all)
      by (Some fault) is =
          let fewer = (iterated.fault source fuel turns start fault is).0 in
          omega (arith, fewer)

  small_at : (place : ℕ) (done : Stage) → slice_get stages place ≡ Some done → mag done.itno < 2 ^ 63
  small_at place done is =
      let number = iterated.number source fuel turns start place done is in
      let within = slice_get_within stages place done is in
      let least : negsuc 2147483647 ≤ℤ done.itno = omega (arith, ints, number, low) in
      let most : done.itno ≤ℤ pos 2147483647 = omega (arith, ints, number, within, few, room) in
      is_small done.itno least most

  same_place :
      (prefix : List ℕ) (place other : ℕ) (first second : Stage)
      → slice_get stages place ≡ Some first
      → slice_get stages other ≡ Some second
      → file_name prefix first.itno ≡ file_name prefix second.itno
      → place ≡ other
  same_place prefix place other first second is there same =
      let one = iterated.number source fuel turns start place first is in
      let two = iterated.number source fuel turns start other second there in
      let number : first.itno ≡ second.itno
      = differ.numbers prefix first.itno second.itno (small_at place first is) (small_at other second there) same
      in
      omega (arith, ints, one, two, number)

  abbrev file_of : Writing → Stage → Named
  file_of writing done = (file_name writing.prefix done.itno, stage_text writing done)

  names_once : (writing : Writing) → NamesStandOnce (map (file_of writing) stages)
  names_once writing = record {
    once = λ place other first second here there same.
        let one = image (file_of writing) (slice_get stages place) first
        (sym (slice_get-map (file_of writing) stages place) ∙ here) in
        let two = image (file_of writing) (slice_get stages other) second
        (sym (slice_get-map (file_of writing) stages other) ∙ there) in
        same_place writing.prefix place other one.x two.x one.is two.is
        (ap (λ (file : Named). file.0) one.same ∙ same ∙ sym (ap (λ (file : Named). file.0) two.same));
  }

  pub names_stand_once : (writing : Writing) → NamesStandOnce (files_by (acts_of writing stages))
  names_stand_once writing =
      subst (λ (files : List Named). NamesStandOnce files) (sym (written.files writing stages)) (names_once writing)
