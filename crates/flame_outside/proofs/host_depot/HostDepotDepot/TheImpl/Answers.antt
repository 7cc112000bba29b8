-- Nothing is told of the files, and the counts are as the calls say.
use Rattle.std.proofs.Common.{refl, ap}
use Rattle.flame_outside.specs.Frames.{OnlyReads, OnlyPuts}
use Rattle.flame_outside.specs.Host.{HostFaults, seen_files, with_failed_read, with_failed_put}
use Rattle.flame_outside.proofs.AnswerLemmas.{by_read, by_put, OnOk-always, IfOk-always}
use Rattle.flame_outside.proofs.FrameLemmas.{reads_same, puts_same}
use Rattle.flame_outside.proofs.RaisedLemmas.{Rose-raised, reads_raised, puts_raised}
use Rattle.flame_outside.proofs.host_depot.HostDepotDepot.TheImpl.Goals as goal

pub read-tells : goal.read-tells
read-tells g c =
    let tells = c.ensures in
    let old = c.args.self.now in
    let new = c.new.self.now in
    let same = reads_same (seen_files old) in
    record {
      found = IfOk-always _ c.result (λ got. tt);
      most = tells.most;
      failed = λ e. record {
        rose = Rose-raised old.reads new.reads (ap (λ (f : HostFaults). f.reads) (tells.failed e));
        not_calm = refl;
      };
      memory = λ e. ap seen_files (tells.memory e);
      reads =
          by_read (λ f. OnlyReads (seen_files old) (seen_files f)) old new old (with_failed_read old)
          same same (reads_raised old)
          c.result tells.ok tells.failed tells.memory;
    }

pub put-tells : goal.put-tells
put-tells g c =
    let tells = c.ensures in
    let old = c.args.self.now in
    let new = c.new.self.now in
    let same = puts_same (seen_files old) in
    record {
      ok = OnOk-always c.result refl;
      failed = λ e. record {
        rose = Rose-raised old.puts new.puts (ap (λ (f : HostFaults). f.puts) (tells.failed e));
        not_calm = refl;
      };
      memory = λ e. ap seen_files (tells.memory e);
      others = λ other differs. refl;
      puts =
          by_put (λ f. OnlyPuts (seen_files old) (seen_files f)) old new old (with_failed_put old)
          same same (puts_raised old)
          c.result tells.ok tells.failed tells.memory;
    }
