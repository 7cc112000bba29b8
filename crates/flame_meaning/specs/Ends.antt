-- How statements end, and what follows them.
use Rattle.std.specs.Prelude.{ℕ, ℤ, ◌-◌, List, length, drop, Result, Ok, Err}
use Rattle.flame_ops.specs.declared.integers.Cause.TheVariants.{Fuel}
use Rattle.flame_spec.specs.declared.faults.Fault.{Fault}
use Rattle.flame_meaning.specs.Scenes.{Progress, Gave, gave, failed}

-- it went on behind the statement, met `break`, met `continue`, returned a value, or faulted [C, 6.8; faults: own]
pub data End : Type 0 where
  went_on : Progress → End
  broke : Progress → End
  continued : Progress → End
  returned : ℤ → Progress → End
  faulted : Fault → End

-- the value goes on, a fault ends the run of the function of the model [own]
abbrev pub with_value : Result ℤ Fault → (ℤ → End) → End
with_value (Ok v) go = go v
with_value (Err fault) go = faulted fault

-- the values go on, a fault ends it [own]
abbrev pub with_values : Result (List ℤ) Fault → (List ℤ → End) → End
with_values (Ok values) go = go values
with_values (Err fault) go = faulted fault

-- the value of a call goes on with the fuel that it left, a fault ends it [C, 6.5.2.2; fuel: own]
abbrev pub after_call : Gave → Progress → (ℤ → Progress → End) → End
after_call (gave v fuel) s go = go v (record s { fuel = fuel })
after_call (failed fault) s go = faulted fault

-- what follows runs where the statement went on [C, 6.8]
abbrev pub on_to : End → (Progress → End) → End
on_to (went_on s) go = go s
on_to (broke s) go = broke s
on_to (continued s) go = continued s
on_to (returned v s) go = returned v s
on_to (faulted fault) go = faulted fault

-- a unit was needed and none was left [own]
abbrev pub no_fuel : ℕ → Fault
no_fuel line = record { cause = Fuel; line = line }

-- ---- scopes

-- all locals but the n oldest end [C, 6.2.1]
abbrev pub outside : ℕ → Progress → Progress
outside n s = record s { locals = drop (length s.locals - n) s.locals }

-- they end however the statement ended [C, 6.2.1]
abbrev pub leave : ℕ → End → End
leave n (went_on s) = went_on (outside n s)
leave n (broke s) = broke (outside n s)
leave n (continued s) = continued (outside n s)
leave n (returned v s) = returned v (outside n s)
leave n (faulted fault) = faulted fault

-- a scope: its locals end with it [C, 6.2.1]
abbrev pub as_scope : (Progress → End) → Progress → End
as_scope run s = leave (length s.locals) (run s)
