-- Many that wait, one after another.
use Rattle.std.proofs.Common.{◌≡◌, ℕ, ◌<◌, Bool, true, false, List, [], ◌∷◌, refl, sym, ap, ◌∙◌, ⊎_elim, get_or-set_same, get_or-set_other}
use Rattle.std.specs.Prelude.{◌==◌, ◌||◌, ◌&&◌, slice_set, slice_index_or}
use Rattle.std.specs.List.{All}
use Rattle.std.proofs.lemmas.Bool.{cases_eq}
use Rattle.std.proofs.lemmas.List.Elements.{All-head, All-tail}
use Rattle.flame_rows.proofs.Truths.{eqb-sym}
use Rattle.flame_spec.specs.Below.{is_in}
use Rattle.flame_pieces.specs.FreeThings.{Tells}
use Rattle.flame_pieces.specs.Waiting.{Awaited, Waiting, thing_at, waited_by, with_waiter}
use Rattle.flame_pieces.proofs.Counting.{is_there}
use Rattle.flame_pieces.proofs.Freeing.{waiters_are_told}
use Rattle.flame_progress.specs.ManyWait.{waiting_for, waited_for_by}

-- that one waits makes nothing done
pub still_open : (waiting : Waiting) (thing waiter : ℕ) → (thing_at waiting.things thing).done ≡ false
    → (k : ℕ) → (thing_at (with_waiter thing waiter waiting).things k).done ≡ (thing_at waiting.things k).done
still_open waiting thing waiter undone k =
    let none : Awaited = record { waiters = []; done = true } in
    let more = waited_by waiter (thing_at waiting.things thing) in
    ⊎_elim
    (λ (same : k ≡ thing).
    ap (λ j. (slice_index_or (slice_set waiting.things thing more) j none).done) same
    ∙ ap (λ (t : Awaited). t.done) (get_or-set_same waiting.things thing more none (is_there waiting.things thing undone))
    ∙ ap (λ j. (thing_at waiting.things j).done) (sym same))
    (λ (apart : k ≡ thing → ⊥). ap (λ (t : Awaited). t.done) (get_or-set_other waiting.things thing k more none apart))
    (cases_eq k thing)

-- another word for who waits for what
tells_who : (all many : ℕ) (told other : ℕ → ℕ → Bool) (is_done : ℕ → Bool) (waiting : Waiting)
    → ((thing number : ℕ) → told thing number ≡ other thing number)
    → Tells all many told is_done waiting → Tells all many other is_done waiting
tells_who all many told other is_done waiting same tells = record {
  long = tells.long;
  many = tells.many;
  who = λ thing number less. tells.who thing number less ∙ same thing number;
  which = tells.which;
}

-- ---- one waits for many

or-none : (told waiter : Bool) → told ≡ (told || (false && waiter))
or-none true waiter = refl
or-none false waiter = refl

here_or_later : (told here later waiter : Bool) → ((told || (here && waiter)) || (later && waiter)) ≡ (told || ((here || later) && waiter))
here_or_later true here later waiter = refl
here_or_later false true true true = refl
here_or_later false true false true = refl
here_or_later false true true false = refl
here_or_later false true false false = refl
here_or_later false false later waiter = refl

pub waiting_is_told : (all many : ℕ) (told : ℕ → ℕ → Bool) (is_done : ℕ → Bool) (waiter : ℕ) (things : List ℕ) (waiting : Waiting)
    → All (λ thing. thing < all) things
    → Tells all many told is_done waiting
    → Tells all many (λ thing number. told thing number || (is_in thing things && (number == waiter))) is_done (waiting_for waiter things waiting)
waiting_is_told all many told is_done waiter [] waiting within tells =
    tells_who all many told (λ thing number. told thing number || (false && (number == waiter))) is_done waiting
    (λ thing number. or-none (told thing number) (number == waiter)) tells
waiting_is_told all many told is_done waiter (first ∷ things) waiting within tells =
    let more : ℕ → ℕ → Bool = λ thing number. told thing number || ((thing == first) && (number == waiter)) in
    tells_who all many (λ thing number. more thing number || (is_in thing things && (number == waiter)))
    (λ thing number. told thing number || (is_in thing (first ∷ things) && (number == waiter))) is_done
    (waiting_for waiter things (with_waiter first waiter waiting))
    (λ thing number.
    here_or_later (told thing number) (thing == first) (is_in thing things) (number == waiter)
    ∙ ap (λ b. told thing number || ((b || is_in thing things) && (number == waiter))) (eqb-sym thing first))
    (waiting_is_told all many more is_done waiter things (with_waiter first waiter waiting)
    (All-tail (λ thing. thing < all) first things within)
    (waiters_are_told all many told is_done waiting first waiter (All-head (λ thing. thing < all) first things within) tells))

-- ---- many wait for one

none_or : (told thing : Bool) → told ≡ (told || (thing && false))
none_or true thing = refl
none_or false true = refl
none_or false false = refl

for_here_or_later : (told thing here later : Bool) → ((told || (thing && here)) || (thing && later)) ≡ (told || (thing && (here || later)))
for_here_or_later true thing here later = refl
for_here_or_later false true here later = refl
for_here_or_later false false here later = refl

pub waiters_told : (all many : ℕ) (told : ℕ → ℕ → Bool) (is_done : ℕ → Bool) (thing : ℕ) (waiters : List ℕ) (waiting : Waiting)
    → thing < all
    → Tells all many told is_done waiting
    → Tells all many (λ other number. told other number || ((other == thing) && is_in number waiters)) is_done (waited_for_by thing waiters waiting)
waiters_told all many told is_done thing [] waiting within tells =
    tells_who all many told (λ other number. told other number || ((other == thing) && false)) is_done waiting
    (λ other number. none_or (told other number) (other == thing)) tells
waiters_told all many told is_done thing (waiter ∷ waiters) waiting within tells =
    let more : ℕ → ℕ → Bool = λ other number. told other number || ((other == thing) && (number == waiter)) in
    tells_who all many (λ other number. more other number || ((other == thing) && is_in number waiters))
    (λ other number. told other number || ((other == thing) && is_in number (waiter ∷ waiters))) is_done
    (waited_for_by thing waiters (with_waiter thing waiter waiting))
    (λ other number.
    for_here_or_later (told other number) (other == thing) (number == waiter) (is_in number waiters)
    ∙ ap (λ b. told other number || ((other == thing) && (b || is_in number waiters))) (eqb-sym number waiter))
    (waiters_told all many more is_done thing waiters (with_waiter thing waiter waiting) within
    (waiters_are_told all many told is_done waiting thing waiter within tells))
