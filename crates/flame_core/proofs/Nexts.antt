-- The next agent of a piece.
use Rattle.std.proofs.Common.{◌≡◌, ℕ, zero, suc, ◌<◌, Bool, true, List, [], ◌∷◌, length, Option, Some, None, refl, sym, ap, ◌∙◌, arith}
use Rattle.std.specs.Prelude.{ℤ, slice_get, slice_index_or}
use Rattle.std.specs.List.{All, list_all}
use Rattle.std.proofs.lemmas.Bool.{and_parts, false≢true, ltb-true}
use Rattle.flame_rows.proofs.Lists.{slice_get-some}
use Rattle.flame_events.specs.CoreStates.{Work, Core, work_of}
use Rattle.flame_events.specs.LegalEvents.{may_run}
use Rattle.flame_core.specs.NextAgents.{HasNext, IsNext}

-- a piece that may run has a next agent
pub has_next : (core : Core) (f k : ℕ) → may_run (work_of core f k) ≡ true → HasNext core f k
has_next core f k may = go (work_of core f k) refl may
  where
    go : (o : Option Work) → work_of core f k ≡ o → may_run o ≡ true → HasNext core f k
    go None is left = absurd (false≢true left)
    go (Some work) is left =
        let row = slice_get-some work.agents work.ran (ltb-true work.ran (length work.agents) left) in
        record { memory = row.0; is = record { work = work; there = is; next = row.1 } }

-- and so many agents are left in it
pub left_of_it : (core : Core) (f k : ℕ) (next : HasNext core f k) → may_run (work_of core f k) ≡ true → next.is.work.ran < length next.is.work.agents
left_of_it core f k next may =
    ltb-true next.is.work.ran (length next.is.work.agents) (sym (ap may_run next.is.there) ∙ may)

-- there is one next agent alone
pub one_next : (core : Core) (f k : ℕ) (memory other : List ℤ) → IsNext core f k memory → IsNext core f k other → memory ≡ other
one_next core f k memory other one two =
    let works : one.work ≡ two.work = some_work one.work two.work (sym one.there ∙ two.there) in
    some_row memory other (sym one.next ∙ ap (λ (w : Work). slice_get w.agents w.ran) works ∙ two.next)
  where
    some_work : (x y : Work) → Some x ≡ Some y → x ≡ y
    some_work x y e = cc

    some_row : (x y : List ℤ) → Some x ≡ Some y → x ≡ y
    some_row x y e = cc

-- what passes a test passes it at each place
pub each_passes : (test : ℕ → Bool) (numbers : List ℕ) → list_all test numbers ≡ true → All (λ n. test n ≡ true) numbers
each_passes test [] all = λ k d less. absurd (omega (arith, less))
each_passes test (n ∷ numbers) all =
    let both = and_parts (test n) (list_all test numbers) all in
    at both.0 (each_passes test numbers both.1)
  where
    at : test n ≡ true → All (λ m. test m ≡ true) numbers → (k d : ℕ) → k < suc (length numbers) → test (slice_index_or (n ∷ numbers) k d) ≡ true
    at here later zero d less = here
    at here later (suc k) d less = later k d (omega (arith, less))
