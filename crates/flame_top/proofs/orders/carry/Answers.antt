use Rattle.std.proofs.Common.{map, string_bytes}
use Rattle.flame_outside.specs.Scripts.{outside}
use Rattle.flame_words.specs.CommandLines.{order_of}
use Rattle.flame_top.proofs.OrderedWords.{carries_ordered, keeps_ordered, carries_refused, keeps_refused, words_nothing, keeps_nothing}
use Rattle.flame_top.proofs.OrderedWords.{trial_ordered, trial_refused, trial_nothing}
use Rattle.flame_top.proofs.orders.carry.Goals as goal

pub returns-in-Ok-clause-carries : goal.returns-in-Ok-clause-carries
returns-in-Ok-clause-carries g c = λ told read tells reads.
    let carried = c.carry_order.result in
    carries_ordered (order_of (map string_bytes c.args.words.now)) c.in-Ok.order carried.ending carried.files
    (outside (g.D.Depot.seen c.args.depot.now) (g.S.Sink.seen c.args.out.now))
    (outside (g.D.Depot.seen c.carry_order.new.depot) (g.S.Sink.seen c.carry_order.new.out))
    c.in-Ok.ensures.order read told (c.carry_order.ensures.carries told read tells reads)

pub returns-in-Ok-clause-carries_trial : goal.returns-in-Ok-clause-carries_trial
returns-in-Ok-clause-carries_trial g c = λ read reads.
    let carried = c.carry_order.result in
    trial_ordered (order_of (map string_bytes c.args.words.now)) c.in-Ok.order carried.ending carried.files
    (outside (g.D.Depot.seen c.args.depot.now) (g.S.Sink.seen c.args.out.now))
    (outside (g.D.Depot.seen c.carry_order.new.depot) (g.S.Sink.seen c.carry_order.new.out))
    c.in-Ok.ensures.order read (c.carry_order.ensures.carries_trial read reads)

pub returns-in-Ok-clause-keeps : goal.returns-in-Ok-clause-keeps
returns-in-Ok-clause-keeps g c =
    let carried = c.carry_order.result in
    let kept = c.carry_order.ensures in
    keeps_ordered (order_of (map string_bytes c.args.words.now)) c.in-Ok.order carried.ending carried.files
    (outside (g.D.Depot.seen c.args.depot.now) (g.S.Sink.seen c.args.out.now))
    (outside (g.D.Depot.seen c.carry_order.new.depot) (g.S.Sink.seen c.carry_order.new.out))
    c.in-Ok.ensures.order kept.keeps kept.faulted kept.trial kept.text

pub returns-in-Err-Fault-clause-carries : goal.returns-in-Err-Fault-clause-carries
returns-in-Err-Fault-clause-carries g c = λ told read tells reads.
    rw (c.before_files.ensures.ending, c.before_files.ensures.files)
    (carries_refused (order_of (map string_bytes c.args.words.now)) c.in-Err-Fault.usage c.usage_ending.result
    (outside (g.D.Depot.seen c.args.depot.now) (g.S.Sink.seen c.args.out.now))
    (rw c.in-Err-Fault.field-0-is at c.in-Err-Fault.ensures.fault) c.usage_ending.ensures read told)

pub returns-in-Err-Fault-clause-carries_trial : goal.returns-in-Err-Fault-clause-carries_trial
returns-in-Err-Fault-clause-carries_trial g c = λ read reads.
    rw (c.before_files.ensures.ending, c.before_files.ensures.files)
    (trial_refused (order_of (map string_bytes c.args.words.now)) c.in-Err-Fault.usage c.usage_ending.result
    (outside (g.D.Depot.seen c.args.depot.now) (g.S.Sink.seen c.args.out.now))
    (rw c.in-Err-Fault.field-0-is at c.in-Err-Fault.ensures.fault) c.usage_ending.ensures read)

pub returns-in-Err-Fault-clause-keeps : goal.returns-in-Err-Fault-clause-keeps
returns-in-Err-Fault-clause-keeps g c =
    rw (c.before_files.ensures.ending, c.before_files.ensures.files)
    (keeps_refused (order_of (map string_bytes c.args.words.now)) c.in-Err-Fault.usage c.usage_ending.result
    (outside (g.D.Depot.seen c.args.depot.now) (g.S.Sink.seen c.args.out.now))
    (rw c.in-Err-Fault.field-0-is at c.in-Err-Fault.ensures.fault) c.usage_ending.ensures)

pub returns-in-Err-NoMemory-clause-carries : goal.returns-in-Err-NoMemory-clause-carries
returns-in-Err-NoMemory-clause-carries g c = λ told read tells reads.
    rw (c.before_files-in-Err-NoMemory.ensures.ending, c.before_files-in-Err-NoMemory.ensures.files)
    (words_nothing read told (order_of (map string_bytes c.args.words.now))
    (outside (g.D.Depot.seen c.args.depot.now) (g.S.Sink.seen c.args.out.now)))

pub returns-in-Err-NoMemory-clause-carries_trial : goal.returns-in-Err-NoMemory-clause-carries_trial
returns-in-Err-NoMemory-clause-carries_trial g c = λ read reads.
    rw (c.before_files-in-Err-NoMemory.ensures.ending, c.before_files-in-Err-NoMemory.ensures.files)
    (trial_nothing read (order_of (map string_bytes c.args.words.now))
    (outside (g.D.Depot.seen c.args.depot.now) (g.S.Sink.seen c.args.out.now)))

pub returns-in-Err-NoMemory-clause-keeps : goal.returns-in-Err-NoMemory-clause-keeps
returns-in-Err-NoMemory-clause-keeps g c =
    rw (c.before_files-in-Err-NoMemory.ensures.ending, c.before_files-in-Err-NoMemory.ensures.files)
    (keeps_nothing (order_of (map string_bytes c.args.words.now))
    (outside (g.D.Depot.seen c.args.depot.now) (g.S.Sink.seen c.args.out.now)))
