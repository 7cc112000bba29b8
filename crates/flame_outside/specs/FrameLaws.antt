-- What holds of frames: they begin with nothing done, they join, and a failure in a part is one in the whole.
use Rattle.std.specs.Prelude.{ℕ, List, IsTrue}
use Rattle.flame_outside.specs.Devices.{SeenDepot, SeenSink}
use Rattle.flame_outside.specs.Printed.{Prints, PrintsFront}
use Rattle.flame_outside.specs.Frames.{NeverFall, StaysCalm, OnlyReads, OnlyPuts, Grows}
use Rattle.flame_outside.specs.Failures.{ReadFailed, PutFailed, WriteFailed}
use Rattle.flame_outside.specs.Scripts.{Outside, outside, GoesOn}

-- what was printed whole was printed by a front [own]
abbrev pub WholeIsAFront : Type 0
WholeIsAFront = (bytes : List ℕ) (old new : SeenSink) → Prints bytes old new → PrintsFront bytes old new

-- where nothing is done, each frame holds [own]
pub record NothingDone : Type 0 where
  pub reads : (old : SeenDepot) → OnlyReads old old
  pub puts : (old : SeenDepot) → OnlyPuts old old
  pub writes : (old : SeenSink) → Grows old old
  pub all : (old : Outside) → GoesOn old old

-- what holds of two parts holds of the whole [own]
pub record PartsJoin : Type 0 where
  pub reads : (old mid new : SeenDepot) → OnlyReads old mid → OnlyReads mid new → OnlyReads old new
  pub puts : (old mid new : SeenDepot) → OnlyPuts old mid → OnlyPuts mid new → OnlyPuts old new
  pub counts : (old mid new : SeenDepot) → NeverFall old mid → NeverFall mid new → NeverFall old new
  pub calm : (old mid new : SeenDepot) → StaysCalm old mid → StaysCalm mid new → StaysCalm old new
  pub writes : (old mid new : SeenSink) → Grows old mid → Grows mid new → Grows old new
  pub all : (old mid new : Outside) → GoesOn old mid → GoesOn mid new → GoesOn old new

-- reads alone, and puts and writes alone, go on [own]
pub record FramesGoOn : Type 0 where
  pub reads : (old new : SeenDepot) (out : SeenSink) → OnlyReads old new → GoesOn (outside old out) (outside new out)
  pub puts :
      (old new : SeenDepot) (out out' : SeenSink)
      → OnlyPuts old new
      → Grows out out'
      → GoesOn (outside old out) (outside new out')

-- a failure in what is done last, or before other calls, is one in the whole [own]
pub record FailuresStay : Type 0 where
  pub read_last :
      (old mid new : SeenDepot)
      → NeverFall old mid
      → StaysCalm old mid
      → ReadFailed mid new
      → ReadFailed old new
  pub put_last :
      (old mid new : SeenDepot)
      → NeverFall old mid
      → StaysCalm old mid
      → PutFailed mid new
      → PutFailed old new
  pub write_last : (old mid new : SeenSink) → Grows old mid → WriteFailed mid new → WriteFailed old new
  pub read_first : (old mid new : SeenDepot) → NeverFall mid new → ReadFailed old mid → ReadFailed old new
  pub put_first : (old mid new : SeenDepot) → NeverFall mid new → PutFailed old mid → PutFailed old new
  pub write_first : (old mid new : SeenSink) → Grows mid new → WriteFailed old mid → WriteFailed old new

-- on a calm device nothing fails [own]
pub record CalmFailsNot : Type 0 where
  pub reads : (old new : SeenDepot) → IsTrue old.calm → ¬ ReadFailed old new
  pub puts : (old new : SeenDepot) → IsTrue old.calm → ¬ PutFailed old new
  pub writes : (old new : SeenSink) → IsTrue old.calm → ¬ WriteFailed old new
