use Rattle.std.proofs.Common.{map, string_bytes}
use Rattle.flame_outside.specs.Scripts.{outside}
use Rattle.flame_words.specs.CommandLines.{order_of}
use Rattle.flame_top.proofs.CarriedCalls.{carries_out_words, carries_out_trial}
use Rattle.flame_top.proofs.Causes.{has_cause, tells_status, leaves, calm_depot, calm_out}
use Rattle.flame_top.proofs.top.flame.Goals as goal

pub returns-clause-carries : goal.returns-clause-carries
returns-clause-carries g c = λ told read tells reads.
    let carried = c.carry-carried.result in
    rw c.tell.ensures.files
    (carries_out_words read told (order_of (map string_bytes c.args.words.now)) carried.ending carried.files c.tell.result.status
    (outside (g.D.Depot.seen c.args.depot.now) (g.S.Sink.seen c.args.out.now))
    (outside (g.D.Depot.seen c.carry-carried.new.depot) (g.S.Sink.seen c.carry-carried.new.out))
    (g.S.Sink.seen c.args.err.now) (g.S.Sink.seen c.tell.new.err)
    (c.carry-carried.ensures.carries told read tells reads) c.carry-carried.ensures.keeps.caused c.tell.ensures.answers)

pub returns-clause-trial : goal.returns-clause-trial
returns-clause-trial g c = λ read reads.
    let carried = c.carry-carried.result in
    rw c.tell.ensures.files
    (carries_out_trial read (order_of (map string_bytes c.args.words.now)) carried.ending carried.files c.tell.result.status
    (outside (g.D.Depot.seen c.args.depot.now) (g.S.Sink.seen c.args.out.now))
    (outside (g.D.Depot.seen c.carry-carried.new.depot) (g.S.Sink.seen c.carry-carried.new.out))
    (g.S.Sink.seen c.args.err.now) (g.S.Sink.seen c.tell.new.err)
    (c.carry-carried.ensures.carries_trial read reads) c.carry-carried.ensures.keeps.caused c.tell.ensures.answers)

pub returns-clause-causes : goal.returns-clause-causes
returns-clause-causes g c =
    let carried = c.carry-carried.result in
    has_cause (order_of (map string_bytes c.args.words.now)) carried.ending carried.files c.tell.result.status
    (outside (g.D.Depot.seen c.args.depot.now) (g.S.Sink.seen c.args.out.now))
    (outside (g.D.Depot.seen c.carry-carried.new.depot) (g.S.Sink.seen c.carry-carried.new.out))
    (g.S.Sink.seen c.args.err.now) (g.S.Sink.seen c.tell.new.err)
    c.carry-carried.ensures.keeps c.tell.ensures.answers

pub returns-clause-tells : goal.returns-clause-tells
returns-clause-tells g c =
    let carried = c.carry-carried.result in
    tells_status (order_of (map string_bytes c.args.words.now)) carried.ending carried.files c.tell.result.status
    (outside (g.D.Depot.seen c.args.depot.now) (g.S.Sink.seen c.args.out.now))
    (outside (g.D.Depot.seen c.carry-carried.new.depot) (g.S.Sink.seen c.carry-carried.new.out))
    (g.S.Sink.seen c.args.err.now) (g.S.Sink.seen c.tell.new.err)
    c.carry-carried.ensures.keeps c.tell.ensures.answers c.tell.ensures.quiet

pub returns-clause-leaves : goal.returns-clause-leaves
returns-clause-leaves g c =
    let carried = c.carry-carried.result in
    rw c.tell.ensures.files
    (leaves (order_of (map string_bytes c.args.words.now)) carried.ending carried.files c.tell.result.status
    (outside (g.D.Depot.seen c.args.depot.now) (g.S.Sink.seen c.args.out.now))
    (outside (g.D.Depot.seen c.carry-carried.new.depot) (g.S.Sink.seen c.carry-carried.new.out))
    (g.S.Sink.seen c.args.err.now) (g.S.Sink.seen c.tell.new.err)
    c.carry-carried.ensures.keeps c.tell.ensures.answers)

pub returns-clause-goes_on : goal.returns-clause-goes_on
returns-clause-goes_on g c = c.carry-carried.ensures.keeps.goes_on

pub returns-clause-calm_depot : goal.returns-clause-calm_depot
returns-clause-calm_depot g c =
    let carried = c.carry-carried.result in
    let old = outside (g.D.Depot.seen c.args.depot.now) (g.S.Sink.seen c.args.out.now) in
    let new = outside (g.D.Depot.seen c.carry-carried.new.depot) (g.S.Sink.seen c.carry-carried.new.out) in
    let words = order_of (map string_bytes c.args.words.now) in
    calm_depot words c.tell.result.status old new
    (has_cause words carried.ending carried.files c.tell.result.status old new
    (g.S.Sink.seen c.args.err.now) (g.S.Sink.seen c.tell.new.err)
    c.carry-carried.ensures.keeps c.tell.ensures.answers)

pub returns-clause-calm_out : goal.returns-clause-calm_out
returns-clause-calm_out g c =
    let carried = c.carry-carried.result in
    let old = outside (g.D.Depot.seen c.args.depot.now) (g.S.Sink.seen c.args.out.now) in
    let new = outside (g.D.Depot.seen c.carry-carried.new.depot) (g.S.Sink.seen c.carry-carried.new.out) in
    let words = order_of (map string_bytes c.args.words.now) in
    calm_out words c.tell.result.status old new
    (has_cause words carried.ending carried.files c.tell.result.status old new
    (g.S.Sink.seen c.args.err.now) (g.S.Sink.seen c.tell.new.err)
    c.carry-carried.ensures.keeps c.tell.ensures.answers)
