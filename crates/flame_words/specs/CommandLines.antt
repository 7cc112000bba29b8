-- What `order` promises: the order of a command line without a fault, and else the first of its faults.
use Rattle.std.specs.Prelude.{◌≡◌, ℕ, List, [], ◌∷◌, Result, Ok, Err}
use Rattle.flame_rows.specs.declared.fails.Fail.{Fail}
use Rattle.flame_rows.specs.declared.fails.Fail.TheVariants.{Fault, NoMemory}
use Rattle.flame_words.specs.declared.orders.Order.{Order}
use Rattle.flame_words.specs.declared.faults.Usage.{Usage}
use Rattle.flame_words.specs.WordRoles.{positionals_among, givens_among}
use Rattle.flame_words.specs.UsageFaults.{Line, line_of, line_faults}
use Rattle.flame_words.specs.GivenOrders.{order_from}

-- the order of a line without faults [own]
abbrev pub line_order : Line → Order
line_order line = order_from line.command (positionals_among line.words) (givens_among line.words)

-- the first fault, or else this order [own]
abbrev pub first_or : List Usage → Order → Result Order Usage
first_or [] order = Ok order
first_or (fault ∷ faults) order = Err fault

-- what a line orders [own]
abbrev pub answer_of : Line → Result Order Usage
answer_of line = first_or (line_faults line) (line_order line)

-- what a line orders; words that are no line have their own fault [own]
abbrev pub answer_in : Result Line Usage → Result Order Usage
answer_in (Ok line) = answer_of line
answer_in (Err fault) = Err fault

-- what words order, the program's name not among them [own]
abbrev pub order_of : List (List ℕ) → Result Order Usage
order_of words = answer_in (line_of words)

-- a failure is this fault, or want of memory [own]
abbrev pub IsRefused : Result Order Usage → Fail Usage → Type 0
IsRefused answer (Fault usage) = answer ≡ Err usage
IsRefused answer NoMemory = Unit {0}
