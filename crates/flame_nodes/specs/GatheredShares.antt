-- Shares under one setting, and which of those that arrived are kept.
use Rattle.std.specs.Prelude.{◌≡◌, ℕ, ℤ, List, [], ◌∷◌, ◌⊎◌}
use Rattle.std.specs.List.{AllPairs}
use Rattle.flame_spec.specs.declared.outcomes.Source.{Source}
use Rattle.flame_world.specs.declared.pieces.Piece.{Piece}
use Rattle.flame_world.specs.declared.settings.Setting.{Setting}
use Rattle.flame_world.specs.declared.shares.Share.{Share}
use Rattle.flame_world.specs.Settings.{boards_of}
use Rattle.flame_world.specs.Shares.{piece_of, setting_of}

-- the setting has this source, these constants, these messages on the boards of the inputs, this iteration and this fuel
-- [own]
pub record IsSetting
    (source : Source) (constants : List ℤ) (boards : List (List (List ℤ))) (iteration : ℤ) (fuel : ℕ) (setting : Setting) :
    Type 0 where
  pub source_is : setting.source.now ≡ source
  pub constants_are : setting.constants.now ≡ constants
  pub boards_are : boards_of setting ≡ boards
  pub iteration_is : setting.iteration ≡ iteration
  pub fuel_is : setting.fuel ≡ fuel

-- the share is that of the piece, under the setting with these [own]
pub record IsShareOf
    (source : Source) (constants : List ℤ) (boards : List (List (List ℤ))) (iteration : ℤ) (fuel : ℕ) (piece : Piece)
    (share : Share) :
    Type 0 where
  pub piece_is : piece_of share ≡ piece
  pub setting_is : IsSetting source constants boards iteration fuel (setting_of share)

-- this is the first of these shares that fits [own]
abbrev pub IsFirst : (Share → Type 0) → List Share → Share → Type 0
IsFirst Fits [] own = ⊥
IsFirst Fits (share ∷ shares) own = (Fits share × (share ≡ own)) ⊎ ((Fits share → ⊥) × IsFirst Fits shares own)

-- where one of those that arrived fits, the share is the first of them that does [own]
abbrev pub IsFirstThatFits : (Share → Type 0) → List Share → Share → Type 0
IsFirstThatFits Fits arrived share = (own : Share) → IsFirst Fits arrived own → share ≡ own

-- no two of the pieces have the same number [own]
abbrev pub DifferInNumber : List Piece → Type 0
DifferInNumber pieces = AllPairs (λ one other. one.number ≡ other.number → ⊥) pieces
