-- What words without a fault order: the command with its values and defaults.
use Rattle.std.specs.Prelude.{ℕ, List, [], slice_get, find, Option, option_map, unwrap_or}
use Rattle.std.specs.Option.{option_or}
use Rattle.std.specs.Str.{bytes_eq}
use Rattle.flame_words.specs.declared.orders.Order.{Order}
use Rattle.flame_words.specs.declared.orders.Order.TheVariants.{Run, Check, Graph, Code, Trial, Migrate, Trace, Replay}
use Rattle.flame_words.specs.declared.orders.RunOrder.{RunOrder}
use Rattle.flame_words.specs.declared.orders.TraceOrder.{TraceOrder}
use Rattle.flame_words.specs.declared.orders.TrialOrder.{TrialOrder}
use Rattle.flame_words.specs.declared.orders.How.{How}
use Rattle.flame_words.specs.declared.table.Command.{Command}
use Rattle.flame_words.specs.declared.table.Command.TheVariants.{Run as run, Check as check, Graph as graph}
use Rattle.flame_words.specs.declared.table.Command.TheVariants.{Code as code, Trial as trial, Migrate as migrate}
use Rattle.flame_words.specs.declared.table.Command.TheVariants.{Trace as trace, Replay as replay}
use Rattle.flame_words.specs.declared.table.Flag.{Flag}
use Rattle.flame_words.specs.declared.table.Flag.TheVariants.{Workers, Fuel, Sync, By, Format}
use Rattle.flame_words.specs.CommandTable.{flag_name, default}
use Rattle.flame_words.specs.WordValues.{number_value, way_of, format_of}
use Rattle.flame_words.specs.WordRoles.{Given}

-- the value that is given for the option of this spelling, if one is [own]
abbrev pub given_word : List Given → List ℕ → Option (List ℕ)
given_word givens name = option_map (λ given. given.word) (find (λ given. bytes_eq given.name name) givens)

-- the value of an option: the one that is given, or else its default, if it has one [own]
abbrev pub value_of : List Given → Flag → Option (List ℕ)
value_of givens flag = option_or (given_word givens (flag_name flag)) (default flag)

-- the value of an option that has a default, and so has a value [own]
abbrev pub word_of : List Given → Flag → List ℕ
word_of givens flag = unwrap_or (value_of givens flag) []

-- how the options say that iterations are run [own]
abbrev pub how_of : List Given → How
how_of givens = record {
  workers = number_value (word_of givens Workers);
  fuel = number_value (word_of givens Fuel);
  way = way_of (word_of givens Sync);
  by = value_of givens By;
}

-- the positional word of this number, from 0; in a line without faults none that is asked for is absent [own]
abbrev pub word_at : List (List ℕ) → ℕ → List ℕ
word_at words number = unwrap_or (slice_get words number) []

-- the order of `run` with these positional words and these values of options [own]
abbrev pub run_of : List (List ℕ) → List Given → RunOrder
run_of words givens = record {
  model = word_at words 0;
  pop = word_at words 1;
  out = word_at words 2;
  turns = number_value (word_at words 3);
  format = format_of (word_of givens Format);
  how = how_of givens;
}

-- the order of `trial` with these positional words and these values of options [own]
abbrev pub trial_of : List (List ℕ) → List Given → TrialOrder
trial_of words givens = record {
  seed = number_value (word_at words 0);
  size = number_value (word_at words 1);
  turns = number_value (word_at words 2);
  how = how_of givens;
}

-- the order of `trace` with these positional words and these values of options [own]
abbrev pub trace_of : List (List ℕ) → List Given → TraceOrder
trace_of words givens = record {
  model = word_at words 0;
  pop = word_at words 1;
  out = word_at words 2;
  workers = number_value (word_of givens Workers);
  fuel = number_value (word_of givens Fuel);
}

-- the order of a command with these positional words and these values of options [own]
abbrev pub order_from : Command → List (List ℕ) → List Given → Order
order_from run words givens = Run (run_of words givens)
order_from check words givens = Check (word_at words 0)
order_from graph words givens = Graph (word_at words 0)
order_from code words givens = Code (word_at words 0)
order_from trial words givens = Trial (trial_of words givens)
order_from migrate words givens = Migrate (word_at words 0) (word_at words 1) (word_at words 2)
order_from trace words givens = Trace (trace_of words givens)
order_from replay words givens = Replay (word_at words 0) (word_at words 1) (word_at words 2)
