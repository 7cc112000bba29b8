-- What is seen of a share. [own]
use Rattle.std.specs.Prelude.{List}
use Rattle.flame_world.specs.declared.pieces.Piece.{Piece}
use Rattle.flame_world.specs.declared.pieces.Part.{Part}
use Rattle.flame_world.specs.declared.pieces.Rest.{Rest}
use Rattle.flame_world.specs.declared.settings.Setting.{Setting}
use Rattle.flame_world.specs.declared.shares.Share.{Share}

-- its setting
abbrev pub setting_of : Share → Setting
setting_of share = share.setting

-- its piece
abbrev pub piece_of : Share → Piece
piece_of share = share.piece

-- what its agents leave besides messages
abbrev pub rest_of : Share → Rest
rest_of share = share.rest

-- their messages, a part for each output of the function
abbrev pub parts_of : Share → List Part
parts_of share = share.parts
