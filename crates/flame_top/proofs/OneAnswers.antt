-- An answer gives one thing.
use Rattle.std.proofs.Common.{◌≡◌, Result, Ok}

pub one_answer : {X E : Type 0} (answer : Result X E) (x y : X) → answer ≡ Ok x → answer ≡ Ok y → x ≡ y
one_answer answer x y is other = cc
