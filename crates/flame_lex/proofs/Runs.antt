-- Runs of bytes, and the pieces that they make.
use Rattle.std.proofs.Common.{◌≡◌, ℕ, suc, ◌+◌, true, false, Bool, List, [], ◌∷◌, take, drop, length, refl, arith, cond}
use Rattle.std.specs.List.{prefix_len, take_while}
use Rattle.std.proofs.lemmas.List.Folds.{length-prefix_len}
use Rattle.flame_lex.specs.ByteRuns.{IsRun}

first_step : (p : ℕ → Bool) (b : ℕ) (bytes : List ℕ) (n : ℕ) (t : Bool) → p b ≡ t
    → IsRun p (take n bytes) (drop n bytes)
    → IsRun p (take (cond t (1 + n) 0) (b ∷ bytes)) (drop (cond t (1 + n) 0) (b ∷ bytes))
first_step p b bytes n true e run =
    let one : 1 + n ≡ suc n = omega arith in
    rw one (record { all = rw e run.all; ends = run.ends })
first_step p b bytes n false e run = record { all = refl; ends = e }

-- as it is counted by the definition
pub run_at : (p : ℕ → Bool) (bytes : List ℕ)
    → IsRun p (take (prefix_len p bytes) bytes) (drop (prefix_len p bytes) bytes)
run_at p [] = record { all = refl; ends = refl }
run_at p (b ∷ bytes) = first_step p b bytes (prefix_len p bytes) (p b) refl (run_at p bytes)

-- the bytes that pass at the front are a run
pub run_front : (p : ℕ → Bool) (bytes : List ℕ)
    → IsRun p (take (length (take_while p bytes)) bytes) (drop (length (take_while p bytes)) bytes)
run_front p bytes = rw (length-prefix_len p bytes) (run_at p bytes)
