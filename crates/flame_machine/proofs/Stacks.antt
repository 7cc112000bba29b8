-- A stack with its top apart, and the values below it in the first of some cells.
use Rattle.std.proofs.Common.{◌≡◌, ℕ, zero, suc, ◌+◌, ◌-◌, ◌<◌, ◌≤◌, List, [], ◌∷◌, ◌++◌, length, take, drop, get_or, refl, sym, ap, ◌∙◌, arith, length-drop}
use Rattle.std.specs.Prelude.{ℤ, slice_set, slice_range, reverse}
use Rattle.flame_machine.specs.declared.frames.Frame.{Frame}
use Rattle.flame_machine.specs.MachineFrames.{held}
use Rattle.std.proofs.Math.Seq.{take-append_seam, drop-append_seam}
use Rattle.std.proofs.lemmas.List.{reverse-append, take_more_set, take_more, reverse-reverse, length-reverse, length-take-le}

-- ---- a stack in the first cells

pushed_on : (xs : List ℤ) (top : ℕ) (v : ℤ) → top < length xs → reverse (take (top + 1) (slice_set xs top v)) ≡ v ∷ reverse (take top xs)
pushed_on xs top v h = ap reverse (take_more_set xs top v h) ∙ reverse-append (take top xs) (v ∷ [])

tall : (xs : List ℤ) (top : ℕ) → top ≤ length xs → length (reverse (take top xs)) ≡ top
tall xs top h = length-reverse (take top xs) ∙ length-take-le top xs h

popped_off : (xs : List ℤ) (top : ℕ) (d : ℤ) → 0 < top → top ≤ length xs → reverse (take top xs) ≡ get_or xs (top - 1) d ∷ reverse (take (top - 1) xs)
popped_off xs top d h le =
    let e : top ≡ top - 1 + 1 = omega arith in
    ap (λ n. reverse (take n xs)) e ∙ ap reverse (take_more xs (top - 1) d (omega arith)) ∙ reverse-append (take (top - 1) xs) (get_or xs (top - 1) d ∷ [])

take_parts : (xs : List ℤ) (a c : ℕ) → take (a + c) xs ≡ take a xs ++ take c (drop a xs)
take_parts xs zero c = let e : 0 + c ≡ c = omega arith in ap (λ n. take n xs) e
take_parts [] (suc a) c = let e : suc a + c ≡ suc (a + c) = omega arith in ap (λ n. take n []) e ∙ none c
  where
    none : (c : ℕ) → let e : List ℤ = [] in e ≡ e ++ take c e
    none zero = refl
    none (suc c) = refl
take_parts (x ∷ xs) (suc a) c = let e : suc a + c ≡ suc (a + c) = omega arith in ap (λ n. take n (x ∷ xs)) e ∙ ap (λ l. x ∷ l) (take_parts xs a c)

halves : (xs : List ℤ) (top n : ℕ) → top ≤ length xs → n ≤ top → reverse (take top xs) ≡ reverse (take n (drop (top - n) xs)) ++ reverse (take (top - n) xs)
halves xs top n h le =
    let e : top ≡ top - n + n = omega arith in
    ap (λ k. reverse (take k xs)) e ∙ ap reverse (take_parts xs (top - n) n) ∙ reverse-append (take (top - n) xs) (take n (drop (top - n) xs))

upper_length : (xs : List ℤ) (top n : ℕ) → top ≤ length xs → n ≤ top → n ≡ length (reverse (take n (drop (top - n) xs)))
upper_length xs top n h le = sym (length-reverse (take n (drop (top - n) xs)) ∙ length-take-le n (drop (top - n) xs) (omega (arith, length-drop (top - n) xs)))

args_of : (xs : List ℤ) (top n : ℕ) → top ≤ length xs → n ≤ top → slice_range xs (top - n) top ≡ reverse (take n (reverse (take top xs)))
args_of xs top n h le =
    let a = reverse (take n (drop (top - n) xs)) in
    let b = reverse (take (top - n) xs) in
    let e : top - (top - n) ≡ n = omega arith in
    ap (λ k. take k (drop (top - n) xs)) e
    ∙ sym (ap (λ l. reverse (take n l)) (halves xs top n h le)
    ∙ ap (λ k. reverse (take k (a ++ b))) (upper_length xs top n h le)
    ∙ ap reverse (take-append_seam a b) ∙ reverse-reverse (take n (drop (top - n) xs)))

dropped_off : (xs : List ℤ) (top n : ℕ) → top ≤ length xs → n ≤ top → reverse (take (top - n) xs) ≡ drop n (reverse (take top xs))
dropped_off xs top n h le =
    let a = reverse (take n (drop (top - n) xs)) in
    let b = reverse (take (top - n) xs) in
    sym (ap (drop n) (halves xs top n h le) ∙ ap (λ k. drop k (a ++ b)) (upper_length xs top n h le) ∙ drop-append_seam a b)

-- ---- with the top apart

pub kept_on : (xs : List ℤ) (top : ℕ) (v last : ℤ) → top < length xs → take (top + 1) (v ∷ reverse (take (top + 1) (slice_set xs top last))) ≡ v ∷ take top (last ∷ reverse (take top xs))
kept_on xs top v last h =
    let e : top + 1 ≡ suc top = omega arith in
    ap (λ n. take n (v ∷ reverse (take (top + 1) (slice_set xs top last)))) e ∙ ap (λ l. v ∷ take top l) (pushed_on xs top last h)

pub kept_off : (xs : List ℤ) (top : ℕ) (last d : ℤ) → 0 < top → top ≤ length xs → take top (last ∷ reverse (take top xs)) ≡ last ∷ take (top - 1) (get_or xs (top - 1) d ∷ reverse (take (top - 1) xs))
kept_off xs top last d h le =
    let e : top ≡ suc (top - 1) = omega arith in
    ap (λ n. take n (last ∷ reverse (take top xs))) e ∙ ap (λ l. last ∷ take (top - 1) l) (popped_off xs top d h le)

pub kept_tall : (xs : List ℤ) (top : ℕ) (last : ℤ) → top ≤ length xs → length (take top (last ∷ reverse (take top xs))) ≡ top
kept_tall xs top last h = let t = tall xs top h in length-take-le top (last ∷ reverse (take top xs)) (omega arith)

pub take_take : (xs : List ℤ) (n top : ℕ) → n ≤ top → take n (take top xs) ≡ take n xs
take_take xs zero top le = refl
take_take xs (suc n) zero le = absurd (omega arith)
take_take [] (suc n) (suc top) le = refl
take_take (x ∷ xs) (suc n) (suc top) le = ap (λ l. x ∷ l) (take_take xs n top (omega arith))

drop_take : (xs : List ℤ) (n top : ℕ) → n ≤ top → drop n (take top xs) ≡ take (top - n) (drop n xs)
drop_take xs zero top le = let e : top - 0 ≡ top = omega arith in sym (ap (λ k. take k xs) e)
drop_take xs (suc n) zero le = absurd (omega arith)
drop_take [] (suc n) (suc top) le = none (suc top - suc n)
  where
    none : (c : ℕ) → let e : List ℤ = [] in e ≡ take c e
    none zero = refl
    none (suc c) = refl
drop_take (x ∷ xs) (suc n) (suc top) le = let e : suc top - suc n ≡ top - n = omega arith in drop_take xs n top (omega arith) ∙ sym (ap (λ k. take k (drop n xs)) e)

set_long : (xs : List ℤ) (k : ℕ) (v : ℤ) → length (slice_set xs k v) ≡ length xs
set_long [] zero v = refl
set_long [] (suc k) v = refl
set_long (x ∷ xs) zero v = refl
set_long (x ∷ xs) (suc k) v = ap suc (set_long xs k v)

-- the values in the uppermost cells, where the top lies above the others
pub row_of : (xs : List ℤ) (top n : ℕ) (last : ℤ) → top < length xs → n ≤ top → slice_range (slice_set xs top last) (top + 1 - n) (top + 1) ≡ reverse (take n (take top (last ∷ reverse (take top xs))))
row_of xs top n last h le =
    args_of (slice_set xs top last) (top + 1) n (omega (arith, set_long xs top last)) (omega arith)
    ∙ ap (λ l. reverse (take n l)) (pushed_on xs top last h)
    ∙ ap reverse (sym (take_take (last ∷ reverse (take top xs)) n top le))

-- a cell above the others is none of the stack's
pub kept_below : (xs : List ℤ) (top : ℕ) (last : ℤ) → take top (slice_set xs top last) ≡ take top xs
kept_below [] zero last = refl
kept_below [] (suc top) last = refl
kept_below (x ∷ xs) zero last = refl
kept_below (x ∷ xs) (suc top) last = ap (λ l. x ∷ l) (kept_below xs top last)

-- the values below the uppermost ones, with their top apart
pub rest_of : (xs : List ℤ) (top n : ℕ) (last d : ℤ) → 0 < n → n ≤ top → top ≤ length xs → drop n (take top (last ∷ reverse (take top xs))) ≡ take (top - n) (get_or xs (top - n) d ∷ reverse (take (top - n) xs))
rest_of xs top zero last d some le h = absurd (omega arith)
rest_of xs top (suc n) last d some le h =
    let k : top - n - 1 ≡ top - suc n = omega arith in
    drop_take (last ∷ reverse (take top xs)) (suc n) top le
    ∙ ap (take (top - suc n)) (sym (dropped_off xs top n h (omega arith)) ∙ popped_off xs (top - n) d (omega arith) (omega arith))
    ∙ ap (λ j. take (top - suc n) (get_or xs j d ∷ reverse (take j xs))) k

-- ---- the cells of a call

-- the values in the cells from a place on
pub args_from : (xs : List ℤ) (top n : ℕ) (last : ℤ) → top < length xs → n ≤ top
    → take n (drop (top + 1 - n) (slice_set xs top last)) ≡ reverse (take n (take top (last ∷ reverse (take top xs))))
args_from xs top n last h le =
    let e : top + 1 - (top + 1 - n) ≡ n = omega arith in
    sym (ap (λ k. take k (drop (top + 1 - n) (slice_set xs top last))) e) ∙ row_of xs top n last h le

-- the stack behind a call, whose value is the top
pub stack_behind : (xs : List ℤ) (top n : ℕ) (last v : ℤ) → top < length xs → n ≤ top
    → take (top + 1 - n) (v ∷ reverse (take (top + 1 - n) (slice_set xs top last))) ≡ v ∷ drop n (take top (last ∷ reverse (take top xs)))
stack_behind xs top n last v h le =
    let e : top + 1 - n ≡ suc (top - n) = omega arith in
    ap (λ k. take k (v ∷ reverse (take (top + 1 - n) (slice_set xs top last)))) e
    ∙ ap (λ l. v ∷ take (top - n) l)
    (dropped_off (slice_set xs top last) (top + 1) n (omega (arith, set_long xs top last)) (omega arith) ∙ ap (drop n) (pushed_on xs top last h))
    ∙ ap (λ l. v ∷ l) (sym (drop_take (last ∷ reverse (take top xs)) n top le))

-- the height of the stack
pub as_tall : (frame : Frame) (cells : List ℤ) → frame.height ≤ length cells → length (held frame cells).stack ≡ frame.height
as_tall frame cells h = kept_tall cells frame.height frame.top h
