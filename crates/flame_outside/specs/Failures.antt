-- What it takes to answer that a device failed: its count of failures rose, and it is not one that never fails.
use Rattle.std.specs.Prelude.{IsFalse}
use Rattle.flame_outside.specs.Rose.{Rose}
use Rattle.flame_outside.specs.Devices.{SeenDepot, SeenSink}

-- a read failed [own]
pub record ReadFailed (old new : SeenDepot) : Type 0 where
  pub rose : Rose old.read_faults new.read_faults
  pub not_calm : IsFalse old.calm

-- a put failed [own]
pub record PutFailed (old new : SeenDepot) : Type 0 where
  pub rose : Rose old.put_faults new.put_faults
  pub not_calm : IsFalse old.calm

-- a write failed [own]
pub record WriteFailed (old new : SeenSink) : Type 0 where
  pub rose : Rose old.faults new.faults
  pub not_calm : IsFalse old.calm
