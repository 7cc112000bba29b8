-- What nodes work with.
use Rattle.std.specs.Prelude.{◌≡◌, ℕ, ◌<◌, List, Option, Some, length, map}
use Rattle.std.specs.List.{AllWithin, HoldsAt}
use Rattle.crossbeam_channel.specs.Claims.{IsSeatAt}
use Rattle.crossbeam_channel.specs.Ends.{sends_on}
use Rattle.flame_index.specs.FrozenBoards.{shared_messages}
use Rattle.flame_share.specs.PieceFits.{FitsPiece}
use Rattle.flame_world.specs.declared.pieces.Piece.{Piece}
use Rattle.flame_world.specs.declared.settings.Setting.{Setting}
use Rattle.flame_world.specs.declared.shares.Share.{Share}
use Rattle.flame_nodes.specs.declared.terms.Terms.{Terms}
use Rattle.flame_nodes.specs.declared.working.Node.{Node}
use Rattle.flame_nodes.specs.GatheredShares.{IsFirst, IsSetting, IsShareOf}

-- the setting is that of these terms [own]
abbrev pub IsUnder : Terms → Setting → Type 0
IsUnder terms setting =
    IsSetting terms.program.now terms.constants.now (map shared_messages terms.boards.now) terms.iteration terms.fuel setting

-- the piece can be run under these terms [XMML]
abbrev pub CanRun : Terms → Piece → Type 0
CanRun terms piece =
    FitsPiece terms.program.now.model terms.constants.now (map shared_messages terms.boards.now) piece

-- the node's pass is one of the channel to which it sends, and it can run its piece [own]
pub record CanWork {G : Type 0} (node : Node G) : Type 0 where
  pub seat : IsSeatAt (sends_on node.floor.now.to.now.end) node.pass
  pub fits : CanRun node.floor.now.terms node.piece.now

-- ---- shares that arrived

-- the share is that of the piece under these terms [own]
abbrev pub IsOf : Terms → Piece → Share → Type 0
IsOf terms =
    IsShareOf terms.program.now terms.constants.now (map shared_messages terms.boards.now) terms.iteration terms.fuel

-- the first of the shares that fits stands in this place [own]
pub record IsFirstPlace (Fits : Share → Type 0) (shares : List Share) (place : ℕ) : Type 0 where
  pub there : place < length shares
  pub fits : HoldsAt Fits shares place
  pub none_before : AllWithin (λ share. Fits share → ⊥) shares 0 place

-- the first of the shares that fits was found [own]
abbrev pub FindsFirst : (Share → Type 0) → List Share → Option Share → Type 0
FindsFirst Fits shares found = (own : Share) → IsFirst Fits shares own → found ≡ Some own

-- what is the first that fits stays the first [own]
abbrev pub StaysFirst : (Share → Type 0) → List Share → List Share → Type 0
StaysFirst Fits shares left = (own : Share) → IsFirst Fits shares own → IsFirst Fits left own

-- it does for all other pieces [own]
abbrev pub KeepsOthers : (Piece → Share → Type 0) → Piece → List Share → List Share → Type 0
KeepsOthers Fits piece shares left = (other : Piece) → (other ≡ piece → ⊥) → StaysFirst (Fits other) shares left
