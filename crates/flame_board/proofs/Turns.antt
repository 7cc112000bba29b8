-- The places of a layer's pieces, from one turn of a lane to the next.
use Rattle.std.proofs.Common.{◌≡◌, ℕ, zero, suc, ◌+◌, ◌-◌, ◌%◌, ◌<◌, ◌≤◌, ◌⊎◌, ⊎_elim, List, [], ◌∷◌, ◌++◌, cond, length, drop, get_or, Bool, sym, ap, ◌∙◌, append_assoc, arith}
use Rattle.std.specs.Prelude.{◌&&◌, slice_get, Some, None}
use Rattle.std.proofs.lemmas.Option.{slice_get_cases}
use Rattle.std.proofs.Math.Nat.{add-mod_left, add-mod_right, mod-add-mod, mod-eq_of_lt, mod-lt}
use Rattle.std.proofs.lemmas.Bool.{cases_lt, eq-eqb, ne_eqb}
use Rattle.std.proofs.lemmas.List.{at_drop_more, drop_all}
use Rattle.flame_spec.specs.Below.{is_in}
use Rattle.flame_spec.specs.Lists.{each_from}
use Rattle.flame_board.specs.declared.layers.Due.{Due}
use Rattle.flame_board.specs.declared.layers.Key.{Key}
use Rattle.flame_board.specs.declared.layers.Layer.{Layer}
use Rattle.flame_board.specs.LayerPieces.{due_from, goes_by, lane_dues}

-- ---- places between two turns

-- less than all lanes further another lane has its turn
mod-between : (place lanes step : ℕ) → 0 < step → step < lanes → (place + step) % lanes ≡ place % lanes → ⊥
mod-between place lanes step some less same =
    let lane : ℕ = place % lanes in
    let below : lane < lanes = mod-lt place (omega (arith, less)) in
    let moved : (lane + step) % lanes ≡ lane = mod-add-mod place lanes step ∙ same in
    ⊎_elim
    (λ (h : lane + step < lanes). let is : lane + step ≡ lane = sym (mod-eq_of_lt h) ∙ moved in omega (arith, some, is))
    (λ (h : lanes ≤ lane + step).
    let over : ℕ = lane + step - lanes in
    let within : over < lanes = omega (arith, below, less, h) in
    let whole : lane + step ≡ lanes + over = omega (arith, h) in
    let is : over ≡ lane =
    sym (mod-eq_of_lt within) ∙ sym (add-mod_left lanes over) ∙ sym (ap (λ n. n % lanes) whole) ∙ moved in
    omega (arith, h, is, less))
    (cases_lt (lane + step) lanes)

-- ---- what gives nothing is passed over

module _ {X Y : Type 0} (f : ℕ → X → List Y) (xs : List X) where
  one-past : (place : ℕ) → ((x : X) → f place x ≡ [])
      → each_from f place (drop place xs) ≡ each_from f (place + 1) (drop (place + 1) xs)
  one-past place none =
      ⊎_elim
      (λ (h : (x : X) × (place < length xs) × (slice_get xs place ≡ Some x) × (get_or xs place x ≡ x)).
      at_drop_more (each_from f place) xs place h.0 h.1
      ∙ ap (λ l. l ++ each_from f (place + 1) (drop (place + 1) xs)) (none (get_or xs place h.0)))
      (λ (h : (length xs ≤ place) × (slice_get xs place ≡ None)).
      ap (each_from f place) (drop_all place xs h.0)
      ∙ sym (ap (each_from f (place + 1)) (drop_all (place + 1) xs (omega (arith, h.0)))))
      (slice_get_cases xs place).1

  pub each_from-past : (steps place : ℕ) → ((step : ℕ) (x : X) → step < steps → f (place + step) x ≡ [])
      → each_from f place (drop place xs) ≡ each_from f (place + steps) (drop (place + steps) xs)
  each_from-past zero place none =
      let same : place ≡ place + 0 = omega arith in ap (λ n. each_from f n (drop n xs)) same
  each_from-past (suc steps) place none =
      let first : place ≡ place + 0 = omega arith in
      let last : (place + 1) + steps ≡ place + suc steps = omega arith in
      one-past place (λ x. ap (λ n. f n x) first ∙ none 0 x (omega arith))
      ∙ each_from-past steps (place + 1) (λ step x less.
      let next : (place + 1) + step ≡ place + suc step = omega arith in
      ap (λ n. f n x) next ∙ none (suc step) x (omega (arith, less)))
      ∙ ap (λ n. each_from f n (drop n xs)) last

  -- from one that may give something to the next
  pub each_from-turn : (steps place : ℕ) (x : X) → place < length xs → x ≡ get_or xs place x → 0 < steps
      → ((step : ℕ) (y : X) → 0 < step → step < steps → f (place + step) y ≡ [])
      → each_from f place (drop place xs) ≡ f place x ++ each_from f (place + steps) (drop (place + steps) xs)
  each_from-turn steps place x less is some none =
      at_drop_more (each_from f place) xs place x less
      ∙ (λ i. f place (sym is i) ++ rest i)
    where
      rest : each_from f (place + 1) (drop (place + 1) xs) ≡ each_from f (place + steps) (drop (place + steps) xs)
      rest =
          let last : (place + 1) + (steps - 1) ≡ place + steps = omega (arith, some) in
          each_from-past (steps - 1) (place + 1) (λ step y within.
          let next : (place + 1) + step ≡ place + (1 + step) = omega arith in
          ap (λ n. f n y) next ∙ none (1 + step) y (omega arith) (omega (arith, within)))
          ∙ ap (λ n. each_from f n (drop n xs)) last

-- ---- the turns of a lane

module _ (layer : Layer) (message lane : ℕ) where
  -- what the piece in this place gives to what is due
  abbrev pub given : ℕ → Key → List Due
  given place key = cond (goes_by layer message lane place key) (due_from message key ∷ []) []

  -- at its turn
  pub given-turn : (place : ℕ) (key : Key) → place % layer.lanes ≡ lane
      → given place key ≡ cond (is_in message key.outputs) (due_from message key ∷ []) []
  given-turn place key turn =
      ap (λ b. cond (b && is_in message key.outputs) (due_from message key ∷ []) [])
      (eq-eqb (place % layer.lanes) lane turn)

  pub given-other : (place : ℕ) (key : Key) → (place % layer.lanes ≡ lane → ⊥) → given place key ≡ []
  given-other place key other =
      ap (λ b. cond (b && is_in message key.outputs) (due_from message key ∷ []) [])
      (ne_eqb (place % layer.lanes) lane other)

  -- these are due from the places before this one
  abbrev pub AreDueBefore : ℕ → List Due → Type 0
  AreDueBefore place dues = dues ++ each_from given place (drop place layer.pieces) ≡ lane_dues layer message lane

  -- none before the first turn
  pub none-due : lane < layer.lanes → AreDueBefore lane []
  none-due less =
      let same : (step : ℕ) → 0 + step ≡ step = λ step. omega arith in
      sym
      (each_from-past given layer.pieces lane 0 (λ step key before.
      given-other (0 + step) key (λ turn.
      let is : step ≡ lane =
      sym (mod-eq_of_lt (omega (arith, before, less))) ∙ ap (λ n. n % layer.lanes) (sym (same step)) ∙ turn in
      omega (arith, is, before)))
      ∙ ap (λ n. each_from given n (drop n layer.pieces)) (same lane))

  -- one more, or none, from a turn to the next
  pub due-next : (dues more : List Due) (place : ℕ) (key : Key) (is_output : Bool)
      → place < length layer.pieces
      → key ≡ get_or layer.pieces place key
      → 0 < layer.lanes
      → place % layer.lanes ≡ lane
      → is_in message key.outputs ≡ is_output
      → more ≡ dues ++ cond is_output (due_from message key ∷ []) []
      → AreDueBefore place dues
      → AreDueBefore (place + layer.lanes) more
  due-next dues more place key is_output less is some turn sends grown so_far =
      let rest : List Due = each_from given (place + layer.lanes) (drop (place + layer.lanes) layer.pieces) in
      let one : List Due = cond is_output (due_from message key ∷ []) [] in
      ap (λ l. l ++ rest) grown
      ∙ append_assoc dues one rest
      ∙ ap (λ b. dues ++ (cond b (due_from message key ∷ []) [] ++ rest)) (sym sends)
      ∙ ap (λ l. dues ++ (l ++ rest)) (sym (given-turn place key turn))
      ∙ ap (λ l. dues ++ l) (sym (each_from-turn given layer.pieces layer.lanes place key less is some
      (λ step other after before.
      given-other (place + step) other (λ same. mod-between place layer.lanes step after before (same ∙ sym turn)))))
      ∙ so_far

  -- the next turn is the lane's as well
  pub turn-again : (place : ℕ) → place % layer.lanes ≡ lane → (place + layer.lanes) % layer.lanes ≡ lane
  turn-again place turn = add-mod_right place layer.lanes ∙ turn
