-- What is seen of a lane.
use Rattle.std.specs.Prelude.{◌≡◌, ℕ, ◌+◌, ℤ, List, [], ◌∷◌, map, length}
use Rattle.std.specs.List.{flat_map}
use Rattle.crossbeam_channel.specs.Claims.{view}
use Rattle.crossbeam_channel.specs.Ends.{sends_on, receives_on, ruled_capacity}
use Rattle.flame_world.specs.declared.pieces.Part.{Part}
use Rattle.flame_board.specs.declared.layers.Due.{Due}
use Rattle.flame_board.specs.declared.lanes.Lane.{Lane}
use Rattle.flame_board.specs.declared.lanes.End.{End}
use Rattle.flame_board.specs.LaneParts.{put_in, room_for, weigh_parts}

-- its number [own]
abbrev pub number_of : Lane → ℕ
number_of lane = lane.number

-- the parts that are due by it, in order [own]
abbrev pub dues_of : Lane → List Due
dues_of lane = lane.dues.items

-- the parts that were handed in by it, in order [own]
abbrev pub parts_of : Lane → List Part
parts_of lane = put_in lane.stayed.items (view lane.pass).sent

-- how many parts its channel has room for [own]
abbrev pub room_of : Lane → ℕ
room_of lane = ruled_capacity (sends_on lane.sender)

-- ---- one lane

-- the lane of this number, by which these parts are due, and nothing was handed in yet [own]
pub record IsNewLane (dues : List Due) (number : ℕ) (lane : Lane) : Type 0 where
  pub numbered : number_of lane ≡ number
  pub awaited : dues_of lane ≡ dues
  pub room : room_of lane ≡ room_for (length dues)
  pub fresh : parts_of lane ≡ []

-- it is the same lane, whatever was handed in [own]
pub record IsSameLane (one other : Lane) : Type 0 where
  pub number : number_of other ≡ number_of one
  pub dues : dues_of other ≡ dues_of one
  pub channel : sends_on other.sender ≡ sends_on one.sender

-- the end takes from the lane's channel [own]
abbrev pub IsEndOf : End → Lane → Type 0
IsEndOf end lane = receives_on end.receiver ≡ sends_on lane.sender

-- ---- several lanes

-- these ends take from the channels of these lanes, in their order [own]
abbrev pub AreEndsOf : List End → List Lane → Type 0
AreEndsOf ends lanes = map (λ end. receives_on end.receiver) ends ≡ map (λ lane. sends_on lane.sender) lanes

-- the messages of each part of these lanes [libmboard]
abbrev pub bags_of : List Lane → List (List (List ℤ))
bags_of lanes = flat_map (λ lane. map (λ (part : Part). part.rows) (parts_of lane)) lanes

-- what all of them weigh [own]
abbrev pub weigh_lanes : (List ℤ → ℕ) → List Lane → ℕ
weigh_lanes weight [] = 0
weigh_lanes weight (lane ∷ lanes) = weigh_parts weight (parts_of lane) + weigh_lanes weight lanes
