-- A put leaves every other name of a depot in memory as it was, and it fails only where it is listed.
use Rattle.std.proofs.Common.{◌≡◌, ◌≢◌, ◌-◌, ◌^◌, ℕ, true, false, cond, List, [], ◌∷◌, Some, Result, Ok, Err, refl, sym, ap, subst, ◌∙◌, inl, arith, true≢false}
use Rattle.std.specs.Prelude.{OnOk, IsTrue, IsFalse, nat_lt}
use Rattle.std.proofs.lemmas.Bool.{and_right}
use Rattle.std.specs.Ordering.{nat_cmp, eq_by_cmp}
use Rattle.std.specs.Cmp.{Equal-is}
use Rattle.std.specs.Cmp.Lexicographic.{slice_cmp, nat_list_cmp_total}
use Rattle.std.specs.FinMap.{get, insert, get-insert, slice_cmp-IsAntisymmetric, nat_cmp-IsAntisymmetric}
use Rattle.flame_outside.specs.declared.depot.PutFail.{PutFail}
use Rattle.flame_outside.specs.declared.depot.PutFail.TheVariants.{Failed, NoMemory}
use Rattle.flame_outside.specs.Files.{Files, OthersStay}
use Rattle.flame_outside.specs.Frames.{OnlyPuts}
use Rattle.flame_outside.specs.Failures.{PutFailed}
use Rattle.flame_outside.specs.Calls.{fails_next, never_fails}
use Rattle.flame_outside.specs.Memory.{DepotInMemory, seen_depot, after_put, after_failed_put}
use Rattle.flame_outside.proofs.AnswerLemmas.{by_put}
use Rattle.flame_outside.proofs.FrameLemmas.{puts_same}

pub get-insert_other :
    (files : Files) (name bytes other : List ℕ) → other ≢ name → get (insert files name bytes) other ≡ get files other
get-insert_other files name bytes other differs =
    get-insert nat_list_cmp_total files name bytes other
    ∙ elim (eq_by_cmp (slice_cmp nat_cmp) other name) as
    (λ same. eq_by_cmp (slice_cmp nat_cmp) other name ≡ same
    → cond same (Some bytes) (get files other) ≡ get files other) [
      | true ↦ λ e. let tied = (Equal-is (slice_cmp nat_cmp other name)).0 e in
          absurd (differs (slice_cmp-IsAntisymmetric nat_cmp-IsAntisymmetric other name tied))
      | false ↦ λ e. refl
    ] refl

-- to insert a file leaves every other name
OthersStay-insert :
    (files : Files) (name bytes : List ℕ)
    → OthersStay name (Some files) (Some (insert files name bytes))
OthersStay-insert files name bytes other differs = ap Some (get-insert_other files name bytes other differs)

-- and so does a put, whatever it answers
pub OthersStay-put :
    {A : Type 0} (old new : DepotInMemory) (name bytes : List ℕ) (result : Result A PutFail)
    → OnOk result (new ≡ after_put old name bytes)
    → (result ≡ Err Failed → new ≡ after_failed_put old name bytes)
    → (result ≡ Err NoMemory → new ≡ old)
    → OthersStay name (Some old.files) (Some new.files)
OthersStay-put old new name bytes =
    by_put (λ depot. OthersStay name (Some old.files) (Some depot.files))
    old new (after_put old name bytes) (after_failed_put old name bytes)
    (λ other differs. refl) (OthersStay-insert old.files name _) (OthersStay-insert old.files name _)

-- where a call fails, some are listed
not_calm_listed :
    (failing : List ℕ) (counted : ℕ)
    → IsTrue (fails_next (record { failing = failing; counted = counted }))
    → IsFalse (never_fails (record { failing = failing; counted = counted }))
not_calm_listed [] counted fails = absurd (true≢false (sym fails ∙ and_right (nat_lt counted (2 ^ 64 - 1)) false refl))
not_calm_listed (number ∷ failing) counted fails = grind arith

pub PutFailed-put :
    (old new : DepotInMemory) (name bytes : List ℕ)
    → new ≡ after_failed_put old name bytes
    → IsTrue (fails_next old.calls)
    → PutFailed (seen_depot old) (seen_depot new)
PutFailed-put old new name bytes is fails = record {
  rose = let up = ap (λ (depot : DepotInMemory). depot.put_faults) is in inl (omega (arith, up));
  not_calm = not_calm_listed old.calls.failing old.calls.counted fails;
}

-- only puts count as such
pub OnlyPuts-put :
    {A : Type 0} (old new : DepotInMemory) (name bytes : List ℕ) (result : Result A PutFail)
    → OnOk result (new ≡ after_put old name bytes)
    → (result ≡ Err Failed → new ≡ after_failed_put old name bytes)
    → (result ≡ Err NoMemory → new ≡ old)
    → (result ≡ Err Failed → IsTrue (fails_next old.calls))
    → OnlyPuts (seen_depot old) (seen_depot new)
OnlyPuts-put old new name bytes (Ok value) ok failed memory listed =
    subst (λ depot. OnlyPuts (seen_depot old) (seen_depot depot)) (sym ok)
    (record { reads = refl; puts = omega arith; calm = record { stays = λ calm. calm; reads = λ calm. refl; puts = λ calm. refl } })
OnlyPuts-put old new name bytes (Err NoMemory) ok failed memory listed =
    subst (λ depot. OnlyPuts (seen_depot old) (seen_depot depot)) (sym (memory refl)) (puts_same (seen_depot old))
OnlyPuts-put old new name bytes (Err Failed) ok failed memory listed =
    let not_calm = not_calm_listed old.calls.failing old.calls.counted (listed refl) in
    subst (λ depot. OnlyPuts (seen_depot old) (seen_depot depot)) (sym (failed refl))
    (record {
      reads = refl;
      puts = omega arith;
      calm = record {
        stays = λ calm. calm;
        reads = λ calm. refl;
        puts = λ calm. absurd (true≢false (sym calm ∙ not_calm));
      };
    })
