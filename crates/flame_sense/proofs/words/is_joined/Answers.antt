use Rattle.std.proofs.Common.{sym, ◌∙◌}
use Rattle.flame_sense.proofs.Joined.{no_front, no_name, end_tells}
use Rattle.flame_sense.proofs.words.is_joined.Goals as goal

pub returns-in-None : goal.returns-in-None
returns-in-None c =
    let front = rw (c.as_bytes.ensures.value, c.as_bytes-2.ensures.value) at c.in-None.ensures.cases in
    sym (no_front c.args.word.now c.args.before.now c.args.name.now c.args.behind.now front)

pub returns-in-None-strip_prefix : goal.returns-in-None-strip_prefix
returns-in-None-strip_prefix c =
    let front = rw (c.as_bytes.ensures.value, c.as_bytes-2.ensures.value) at c.in-Some.ensures.cases in
    let next = rw (c.as_bytes-in-Some.ensures.value, front.1) at c.in-None-strip_prefix.ensures.cases in
    sym (no_name c.args.word.now c.args.before.now c.args.name.now c.args.behind.now front.0 next)

pub returns-in-Some-strip_prefix : goal.returns-in-Some-strip_prefix
returns-in-Some-strip_prefix c =
    let front = rw (c.as_bytes.ensures.value, c.as_bytes-2.ensures.value) at c.in-Some.ensures.cases in
    let next = rw (c.as_bytes-in-Some.ensures.value, front.1) at c.in-Some-strip_prefix.ensures.cases in
    let end = rw (next.1, c.as_bytes-in-Some-strip_prefix.ensures.value) at c.eq.ensures in
    end ∙ sym (end_tells c.args.word.now c.args.before.now c.args.name.now c.args.behind.now front.0 next.0)
