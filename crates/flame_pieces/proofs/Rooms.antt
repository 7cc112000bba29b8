-- Lists of messages that join the outputs, a list for each.
use Rattle.std.proofs.Common.{◌≡◌, ℕ, zero, suc, ◌+◌, ◌<◌, ◌≤◌, List, [], ◌∷◌, ◌++◌, map, Option, Vec, Global, refl, sym, ap, ◌∙◌, subst, arith, length, take, drop, get_or}
use Rattle.std.specs.Prelude.{ℤ, slice_set, slice_index_or, option_map}
use Rattle.std.specs.List.{AllZip}
use Rattle.std.specs.Vec.{vec_len}
use Rattle.std.proofs.lemmas.List.{take_more, take_more_set}
use Rattle.std.proofs.lemmas.Slice.Zip.{all_zipped_more}
use Rattle.flame_rows.specs.Bags.{merge}
use Rattle.flame_field.specs.KeptGatherings.{HasRoom}
use Rattle.flame_pieces.specs.declared.works.Output.{Output}
use Rattle.flame_pieces.specs.KeptWorks.{part_of, with_lists}

abbrev pub Rows : Type 0
Rows = Vec (List ℤ) Global

abbrev pub items_of : Rows → List (List ℤ)
items_of rows = rows.items

abbrev pub Fits : Rows → Output → Type 0
Fits rows output = HasRoom (vec_len rows) output.rows

-- ---- one that is what it was

pub map_kept : {X Y : Type 0} (f : X → Y) (xs : List X) (k : ℕ) (before after : X) → k < length xs → before ≡ slice_index_or xs k before
    → f after ≡ f before → map f (slice_set xs k after) ≡ map f xs
map_kept f [] k before after within at same = absurd (omega (arith, within))
map_kept f (first ∷ xs) zero before after within at same = ap (λ t. t ∷ map f xs) (same ∙ ap f at)
map_kept f (first ∷ xs) (suc k) before after within at same =
    ap (λ l. f first ∷ l) (map_kept f xs k before after (omega (arith, within)) at same)

-- ---- room is made, output by output

pub rooms_more : (parts : List Rows) (outputs : List Output) (k : ℕ) (rows : Rows) (after : Output)
    → k < length parts → k < length outputs → rows ≡ get_or parts k rows
    → AllZip Fits (take k parts) (take k outputs) → Fits rows after
    → AllZip Fits (take (k + 1) parts) (take (k + 1) (slice_set outputs k after))
rooms_more parts outputs k rows after one other at so_far fits =
    let left : take (k + 1) parts ≡ take k parts ++ rows ∷ [] = take_more parts k rows one ∙ ap (λ r. take k parts ++ r ∷ []) (sym at) in
    let right = take_more_set outputs k after other in
    subst (λ l. AllZip Fits l (take (k + 1) (slice_set outputs k after))) (sym left)
    (subst (λ l. AllZip Fits (take k parts ++ rows ∷ []) l) (sym right)
    (all_zipped_more Fits (take k parts) (take k outputs) rows after so_far fits))

-- ---- messages join, output by output

-- the parts when these lists have still to join, of which the first joins at this place
abbrev pub joining : ℕ → List Rows → List Output → List (Option (List (List ℤ)))
joining k rest outputs = take k (map part_of outputs) ++ with_lists (map items_of rest) (map part_of (drop k outputs))

pub joining_more : (outputs : List Output) (k : ℕ) (rows : Rows) (rest : List Rows) (before after : Output)
    → k < length outputs → before ≡ get_or outputs k before
    → part_of after ≡ option_map (λ own. merge own rows.items) (part_of before)
    → joining (suc k) rest (slice_set outputs k after) ≡ joining k (rows ∷ rest) outputs
joining_more [] k rows rest before after within at is = absurd (omega (arith, within))
joining_more (first ∷ outputs) zero rows rest before after within at is =
    let here = is ∙ ap (λ o. option_map (λ own. merge own rows.items) (part_of o)) at in
    ap (λ part. part ∷ with_lists (map items_of rest) (map part_of outputs)) here
joining_more (first ∷ outputs) (suc k) rows rest before after within at is =
    ap (λ l. part_of first ∷ l) (joining_more outputs k rows rest before after (omega (arith, within)) at is)

pub fit_behind : (outputs : List Output) (k : ℕ) (rows : Rows) (rest : List Rows) (after : Output)
    → AllZip Fits (rows ∷ rest) (drop k outputs) → AllZip Fits rest (drop (suc k) (slice_set outputs k after))
fit_behind [] zero rows rest after all = absurd all
fit_behind [] (suc k) rows rest after all = absurd all
fit_behind (first ∷ outputs) zero rows rest after all = all.1
fit_behind (first ∷ outputs) (suc k) rows rest after all = fit_behind outputs k rows rest after all

-- no output is left without a list
pub none_left : (outputs : List Output) (k : ℕ) → AllZip Fits [] (drop k outputs) → k < length outputs → ⊥
none_left [] k all within = absurd (omega (arith, within))
none_left (first ∷ outputs) zero all within = absurd all
none_left (first ∷ outputs) (suc k) all within = none_left outputs k all (omega (arith, within))

-- all joined
pub joined_all : (outputs : List Output) (k : ℕ) (rest : List Rows) → length outputs ≤ k → joining k rest outputs ≡ map part_of outputs
joined_all [] zero [] over = refl
joined_all [] zero (rows ∷ rest) over = refl
joined_all [] (suc k) [] over = refl
joined_all [] (suc k) (rows ∷ rest) over = refl
joined_all (first ∷ outputs) zero rest over = absurd (omega (arith, over))
joined_all (first ∷ outputs) (suc k) rest over = ap (λ l. part_of first ∷ l) (joined_all outputs k rest (omega (arith, over)))

pub room_for : (rows : Rows) (count : ℕ) (output : Output) → count ≡ vec_len rows → HasRoom count output.rows → Fits rows output
room_for rows count output is room = subst (λ n. HasRoom n output.rows) is room
