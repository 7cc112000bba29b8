-- Marks that are there.
use Rattle.std.proofs.Common.{◌≡◌, ℕ, zero, suc, ◌<◌, Bool, true, false, List, [], ◌∷◌, length, arith}
use Rattle.std.specs.Prelude.{slice_index_or}
use Rattle.std.proofs.lemmas.Bool.{false≢true}

pub marked_within : (marks : List Bool) (m : ℕ) → slice_index_or marks m false ≡ true → m < length marks
marked_within [] m marked = absurd (false≢true marked)
marked_within (mark ∷ marks) zero marked = omega arith
marked_within (mark ∷ marks) (suc m) marked = omega (arith, marked_within marks m marked)
