-- What stays over some calls, whatever they answer.
use Rattle.std.specs.Prelude.{◌≡◌, ◌≤◌, ℕ, List, IsTrue}
use Rattle.flame_outside.specs.Devices.{SeenDepot, SeenSink}
use Rattle.flame_outside.specs.Printed.{Prints}

-- no count of failures fell [own]
pub record NeverFall (old new : SeenDepot) : Type 0 where
  pub reads : old.read_faults ≤ new.read_faults
  pub puts : old.put_faults ≤ new.put_faults

-- a calm depot stayed calm, and nothing failed [own]
pub record StaysCalm (old new : SeenDepot) : Type 0 where
  pub stays : IsTrue old.calm → IsTrue new.calm
  pub reads : IsTrue old.calm → new.read_faults ≡ old.read_faults
  pub puts : IsTrue old.calm → new.put_faults ≡ old.put_faults

-- nothing but reads was made: only their count may have risen [own]
pub record OnlyReads (old new : SeenDepot) : Type 0 where
  pub files : new.files ≡ old.files
  pub puts : new.put_faults ≡ old.put_faults
  pub reads : old.read_faults ≤ new.read_faults
  pub calm : StaysCalm old new

-- as puts leave it: no read failed, the count of failed puts did not fall, and files may be others [own]
pub record OnlyPuts (old new : SeenDepot) : Type 0 where
  pub reads : new.read_faults ≡ old.read_faults
  pub puts : old.put_faults ≤ new.put_faults
  pub calm : StaysCalm old new

-- nothing but writes was made: bytes were appended, the count did not fall, and a calm sink stayed so [own]
pub record Grows (old new : SeenSink) : Type 0 where
  pub bytes : List ℕ
  pub printed : Prints bytes old new
  pub faults : old.faults ≤ new.faults
  pub stays_calm : IsTrue old.calm → IsTrue new.calm
  pub calm_faults : IsTrue old.calm → new.faults ≡ old.faults
