-- The answer to words is their first fault, or an order where they have none.
use Rattle.std.proofs.Common.{◌≡◌, ℕ, List, [], ◌∷◌, Some, Ok, Err, Result, refl}
use Rattle.std.proofs.Common.{ap, IsOk, rules}
use Rattle.std.specs.Prelude.{◌↔◌}
use Rattle.std.specs.List.{slice_get}
use Rattle.flame_words.specs.declared.orders.Order.{Order}
use Rattle.flame_words.specs.declared.faults.Usage.{Usage}
use Rattle.flame_words.specs.UsageFaults.{Line, line_of, line_faults, faults_in, usage_faults}
use Rattle.flame_words.specs.CommandLines.{first_or, line_order, answer_in, order_of}

first_refuses : (faults : List Usage) (order : Order) (fault : Usage)
    → (first_or faults order ≡ Err fault) ↔ (slice_get faults 0 ≡ Some fault)
first_refuses [] order fault = (λ e. cc, λ e. cc)
first_refuses (first ∷ faults) order fault = (
  λ e. let same : first ≡ fault = cc in ap Some same,
  λ e. let same : first ≡ fault = cc in ap Err same,
)

answer_refuses : (line : Result Line Usage) (fault : Usage)
    → (answer_in line ≡ Err fault) ↔ (slice_get (faults_in line) 0 ≡ Some fault)
answer_refuses (Ok line) fault = first_refuses (line_faults line) (line_order line) fault
answer_refuses (Err first) fault = (
  λ e. let same : first ≡ fault = cc in ap Some same,
  λ e. let same : first ≡ fault = cc in ap Err same,
)

pub order_refuses : (words : List (List ℕ)) (fault : Usage)
    → (order_of words ≡ Err fault) ↔ (slice_get (usage_faults words) 0 ≡ Some fault)
order_refuses words fault = answer_refuses (line_of words) fault

first_orders : (faults : List Usage) (order : Order) → IsOk (first_or faults order) ↔ (faults ≡ [])
first_orders [] order = (λ is. refl, λ e. search rules)
first_orders (first ∷ faults) order = (λ is. cc, λ e. cc)

answer_orders : (line : Result Line Usage) → IsOk (answer_in line) ↔ (faults_in line ≡ [])
answer_orders (Ok line) = first_orders (line_faults line) (line_order line)
answer_orders (Err first) = (λ is. cc, λ e. cc)

pub order_orders : (words : List (List ℕ)) → IsOk (order_of words) ↔ (usage_faults words ≡ [])
order_orders words = answer_orders (line_of words)
