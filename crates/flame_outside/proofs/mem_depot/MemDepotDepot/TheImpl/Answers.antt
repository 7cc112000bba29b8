-- That the other names stay, the search does not find.
use Rattle.std.proofs.Common.{rules}
use Rattle.flame_outside.proofs.PutLemmas.{OthersStay-put, OnlyPuts-put, PutFailed-put}
use Rattle.flame_outside.proofs.mem_depot.MemDepotDepot.TheImpl.Goals as goal

pub put-tells : goal.put-tells
put-tells c =
    let tells = c.ensures in
    record {
      ok = search rules;
      failed = λ e.
          PutFailed-put c.args.self.now c.new.self.now c.args.name.now c.args.bytes.now (tells.failed e) (tells.listed e);
      memory = search rules;
      others =
          OthersStay-put c.args.self.now c.new.self.now c.args.name.now c.args.bytes.now
          c.result tells.ok tells.failed tells.memory;
      puts =
          OnlyPuts-put c.args.self.now c.new.self.now c.args.name.now c.args.bytes.now
          c.result tells.ok tells.failed tells.memory tells.listed;
    }
