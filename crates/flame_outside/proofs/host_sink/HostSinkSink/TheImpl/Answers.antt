-- Nothing is told of the bytes, and the count is as the call says.
use Rattle.std.proofs.Common.{refl, ap}
use Rattle.flame_outside.specs.Frames.{Grows}
use Rattle.flame_outside.specs.Host.{seen_stream, raised}
use Rattle.flame_outside.proofs.AnswerLemmas.{by_write, OnOk-always}
use Rattle.flame_outside.proofs.FrameLemmas.{grows_same}
use Rattle.flame_outside.proofs.RaisedLemmas.{Rose-raised, grows_raised}
use Rattle.flame_outside.proofs.host_sink.HostSinkSink.TheImpl.Goals as goal

pub write-tells : goal.write-tells
write-tells g c =
    let tells = c.ensures in
    let old = c.args.self.now in
    let new = c.new.self.now in
    let same = grows_same (seen_stream old) in
    record {
      ok = OnOk-always c.result refl;
      failed = λ e. record { rose = Rose-raised old new (tells.failed e); not_calm = refl };
      front = λ e. record { count = 0; appended = refl };
      memory = λ e. ap seen_stream (tells.memory e);
      grows =
          by_write (λ faults. Grows (seen_stream old) (seen_stream faults)) old new old (raised old)
          same same (grows_raised old)
          c.result tells.ok tells.failed tells.memory;
    }
