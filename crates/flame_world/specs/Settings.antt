-- What the agents of a piece have before them.
use Rattle.std.specs.Prelude.{◌≡◌, ℤ, List, map}
use Rattle.flame_index.specs.FrozenBoards.{shared_messages}
use Rattle.flame_world.specs.declared.settings.Setting.{Setting}

-- the messages of the board of each input [libmboard]
abbrev pub boards_of : Setting → List (List (List ℤ))
boards_of setting = map shared_messages setting.boards.now

-- two settings are the same, but for where they lie [own]
pub record SameSetting (one other : Setting) : Type 0 where
  pub source : one.source.now ≡ other.source.now
  pub constants : one.constants.now ≡ other.constants.now
  pub boards : boards_of one ≡ boards_of other
  pub iteration : one.iteration ≡ other.iteration
  pub fuel : one.fuel ≡ other.fuel
