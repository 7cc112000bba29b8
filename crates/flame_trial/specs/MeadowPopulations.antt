-- The population of the meadow: so many agents, drawn from a seed.
use Rattle.std.specs.Prelude.{ℕ, zero, suc, ◌+◌, ◌*◌, ◌/◌, ◌%◌, ◌==◌, if◌then◌else◌}
use Rattle.std.specs.Prelude.{List, [], ◌∷◌, map, codes, decimal}
use Rattle.std.specs.List.{concat, join_with_byte, range_with_len}

-- ---- draws

-- the number that comes after this one [own]
abbrev pub next_number : ℕ → ℕ
next_number number = (number * 1664525 + 1013904223) % 4294967296

-- the number after so many draws from a seed [own]
abbrev pub number_after : ℕ → ℕ → ℕ
number_after seed zero = seed
number_after seed (suc draws) = next_number (number_after seed draws)

-- what a draw gives that leaves this number [own]
abbrev pub drawn : ℕ → ℕ
drawn number = number / 65536

-- ---- agents

-- how many cells the meadow of so many agents has [own]
abbrev pub cell_count : ℕ → ℕ
cell_count size = size / 4 + 1

-- the type of the agent of this number, from 0: every fourth is a fox [own]
abbrev pub type_name : ℕ → List ℕ
type_name place = if place % 4 == 3 then codes "Fox" else codes "Rabbit"

-- an agent of this type, in this cell, with this energy [own]
abbrev pub agent_text : List ℕ → ℕ → ℕ → List ℕ
agent_text type cell energy =
    concat (
    codes "{\"name\":\""
    ∷ type
    ∷ codes "\",\"memory\":{\"cell\":"
    ∷ decimal cell
    ∷ codes ",\"energy\":"
    ∷ decimal energy
    ∷ codes "}}"
    ∷ []
    )

-- the agent of this number: two draws give its cell and its energy [own]
abbrev pub drawn_agent : ℕ → ℕ → ℕ → List ℕ
drawn_agent seed size place =
    agent_text (type_name place)
    (drawn (number_after seed (2 * place + 1)) % cell_count size)
    (drawn (number_after seed (2 * place + 2)) % 10 + 1)

-- so many agents, in the order of their numbers [own]
abbrev pub agents : ℕ → ℕ → List (List ℕ)
agents seed size = map (drawn_agent seed size) (range_with_len 0 size)

-- ---- the file

-- the byte of a comma [own]
abbrev pub comma : ℕ
comma = 44

-- these texts, with commas between them [own]
abbrev pub with_commas : List (List ℕ) → List ℕ
with_commas = join_with_byte comma

-- what stands before the agents [own]
abbrev pub opening_text : ℕ → List ℕ
opening_text size =
    concat (
    codes "{\"states\":{\"itno\":0,\"environment\":{\"cells\":"
    ∷ decimal (cell_count size)
    ∷ codes ",\"grass\":3},\"agents\":["
    ∷ []
    )

-- the population file of a seed and a number of agents [own]
abbrev pub population_text : ℕ → ℕ → List ℕ
population_text seed size =
    concat (opening_text size ∷ with_commas (agents seed size) ∷ codes "],\"boards\":[]}}\n" ∷ [])

-- ---- the program's own words

-- what stands before the agent of this number [own]
abbrev pub comma_before : ℕ → List ℕ
comma_before zero = []
comma_before (suc place) = codes ","
