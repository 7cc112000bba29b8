-- What holds of the faults and the orders of all command lines.
use Rattle.std.specs.Prelude.{◌≡◌, ◌↔◌, ℕ, ◌≤◌, List, [], length, slice_get, filter_map, All}
use Rattle.std.specs.Prelude.{Some, Ok, Err, IsOk, IsSomeAnd, IsErrAnd}
use Rattle.std.specs.List.Sorted.{IsStrictlyIncreasing}
use Rattle.flame_words.specs.declared.orders.Order.{Order}
use Rattle.flame_words.specs.declared.faults.Usage.{Usage}
use Rattle.flame_words.specs.UsageFaults.{usage_faults}
use Rattle.flame_words.specs.UsageTexts.{word_number}
use Rattle.flame_words.specs.CommandLines.{order_of}
use Rattle.flame_words.specs.OrderLimits.{IsWithin}

-- the numbers of the words at fault, in the order of the faults [own]
abbrev pub words_at_fault : List Usage → List ℕ
words_at_fault faults = filter_map word_number faults

-- an order is refused for the first of all faults [own]
abbrev pub FirstFaultRefuses : Type 0
FirstFaultRefuses =
    (words : List (List ℕ)) (fault : Usage)
    → (order_of words ≡ Err fault) ↔ (slice_get (usage_faults words) 0 ≡ Some fault)

-- words give an order exactly where they have no fault [own]
abbrev pub OrderWithoutFaults : Type 0
OrderWithoutFaults = (words : List (List ℕ)) → IsOk (order_of words) ↔ (usage_faults words ≡ [])

-- faults are listed in the order of the words, and no word has two [own]
abbrev pub OneFaultPerWord : Type 0
OneFaultPerWord = (words : List (List ℕ)) → IsStrictlyIncreasing (words_at_fault (usage_faults words))

-- each word at fault is one of the words [own]
abbrev pub FaultsNameWords : Type 0
FaultsNameWords =
    (words : List (List ℕ))
    → All (λ number. (1 ≤ number) × (number ≤ length words)) (words_at_fault (usage_faults words))

-- thirty words or more are refused for one of the first thirty [own]
abbrev pub ManyWordsAreRefused : Type 0
ManyWordsAreRefused =
    (words : List (List ℕ))
    → 30 ≤ length words
    → IsErrAnd (order_of words) (λ fault. IsSomeAnd (word_number fault) (λ number. number ≤ 30))

-- the numbers of an order are within their limits [own]
abbrev pub OrdersAreWithin : Type 0
OrdersAreWithin = (words : List (List ℕ)) (order : Order) → order_of words ≡ Ok order → IsWithin order
