-- What moves of an input do to the first inputs and to the others.
use Rattle.std.proofs.Common.{◌≡◌, ℕ, zero, suc, ◌<◌, List, [], ◌∷◌, take, false, Option, Some, None, refl, sym, ap, ◌∙◌, arith}
use Rattle.std.specs.Prelude.{slice_get, slice_set, option_and_then}
use Rattle.std.specs.Option.{option_map_or}
use Rattle.flame_code.specs.Feeds.{Fed, with_come, has_more, with_more, with_input, last_come, at_start, has_next, at_next, field}

get_first : (xs : List Fed) (n i : ℕ) → i < n → slice_get (take n xs) i ≡ slice_get xs i
get_first xs zero i lt = absurd (omega arith)
get_first [] (suc n) i lt = refl
get_first (x ∷ xs) (suc n) zero lt = refl
get_first (x ∷ xs) (suc n) (suc i) lt = get_first xs n i (omega arith)

set_first : (xs : List Fed) (n i : ℕ) (x : Fed) → i < n → take n (slice_set xs i x) ≡ slice_set (take n xs) i x
set_first xs zero i x lt = absurd (omega arith)
set_first [] (suc n) i x lt = refl
set_first (y ∷ xs) (suc n) zero x lt = refl
set_first (y ∷ xs) (suc n) (suc i) x lt = ap (λ l. y ∷ l) (set_first xs n i x (omega arith))

module _ (n i : ℕ) (feeds : List Fed) (lt : i < n) where
  moved_by : (change : Fed → Fed) (o : Option Fed) → take n (option_map_or (λ fed. slice_set feeds i (change fed)) o feeds) ≡ option_map_or (λ fed. slice_set (take n feeds) i (change fed)) o (take n feeds)
  moved_by change None = refl
  moved_by change (Some fed) = set_first feeds n i (change fed) lt

  moved : (change : Fed → Fed) → take n (with_input change i feeds) ≡ with_input change i (take n feeds)
  moved change =
      moved_by change (slice_get feeds i)
      ∙ ap (λ o. option_map_or (λ fed. slice_set (take n feeds) i (change fed)) o (take n feeds)) (sym (get_first feeds n i lt))

  pub first-at_start : take n (at_start i feeds) ≡ at_start i (take n feeds)
  first-at_start = moved (with_come 0)

  pub first-at_next : take n (at_next i feeds) ≡ at_next i (take n feeds)
  first-at_next = moved with_more

  pub has_next-first : has_next i (take n feeds) ≡ has_next i feeds
  has_next-first = ap (λ o. option_map_or has_more o false) (get_first feeds n i lt)

  pub field-first : (v : ℕ) → field i v (take n feeds) ≡ field i v feeds
  field-first v = ap (λ o. option_and_then (λ row. slice_get row v) (option_and_then last_come o)) (get_first feeds n i lt)
