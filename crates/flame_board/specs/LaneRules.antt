-- The rule of a lane's channel.
use Rattle.std.specs.Prelude.{◌≡◌, ℕ, Bool, true, List, ◌++◌}
use mathlib.Core.Option.{some}
use lib.ListN.{get_elem?}
use Rattle.flame_world.specs.declared.pieces.Part.{Part}
use Rattle.flame_board.specs.declared.logs.Log.{Log}

-- what a pass may do, and the parts that were sent and that were taken, as far as it knows them [own]
abbrev pub log : Bool → Bool → List Part → List Part → Log
log sends takes sent taken = record { sends = sends; takes = takes; sent = sent; taken = taken }

-- no pass but the one of this number has the role, and that one knows this list [own]
abbrev pub IsAlone : (Log → Bool) → (Log → List Part) → ℕ → List Part → List Log → Type 0
IsAlone has knows number list views =
    (other : ℕ) (view : Log)
    → get_elem? views other ≡ some view
    → has view ≡ true
    → (other ≡ number) × (knows view ≡ list)

-- what was sent is what was taken and then what the channel holds; one pass at most sends, and it knows what was sent, and
-- one at most takes, and it knows what was taken [own]
pub record IsRelayed (items : List Part) (views : List Log) : Type 0 where
  pub sender : ℕ
  pub taker : ℕ
  pub sent : List Part
  pub taken : List Part
  pub whole : sent ≡ taken ++ items
  pub sends : IsAlone (λ v. v.sends) (λ v. v.sent) sender sent views
  pub takes : IsAlone (λ v. v.takes) (λ v. v.taken) taker taken views
