-- When a configuration of the machine holds what a numbered body has before it and where it stands.
use Rattle.std.specs.Prelude.{◌≡◌, ℕ, nat_lt, List, length, true, Some, slice_get, option_and_then}
use Rattle.flame_body.specs.BodyFits.{Around, is_inside, width_of_input}
use Rattle.flame_code.specs.Feeds.{Fed, last_come}
use Rattle.flame_code.specs.Machine.{Config}
use Rattle.flame_meaning.specs.Scenes.{Progress}
use Rattle.flame_number_laws.specs.NumberedScenes.{NumberedScene, local_at}
use Rattle.flame_code_laws.specs.CodeRuns.{Running}

-- the row of the input that came last is the one at which the loop over it stands, and has its width
-- [FLAME User Manual]
pub record Current (around : Around) (before : NumberedScene) (input : ℕ) (feeds : List Fed) : Type 0 where
  pub last : option_and_then last_come (slice_get feeds input) ≡ Some (before.current_rows input)
  pub wide : length (before.current_rows input) ≡ width_of_input around input

-- the constants, the iteration's number and the memory are the same; so are the locals that there are, and those behind
-- them may be any; so is the row of each input over which a loop is open [own]
pub record Alike (run : Running) (around : Around) (before : NumberedScene) (s : Progress) (c : Config) : Type 0 where
  pub constants : run.given.constants ≡ before.constants
  pub iteration : run.given.iteration ≡ before.iteration
  pub memory : c.memory ≡ s.memory
  pub locals : (k : ℕ) → nat_lt k (length s.locals) ≡ true → c.locals k ≡ local_at k s.locals
  pub rows : (input : ℕ) → is_inside input around ≡ true → Current around before input c.feeds
