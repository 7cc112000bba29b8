use Rattle.std.proofs.Common.{◌+◌, ◌∙◌, map, drop, string_bytes, sym, ap, subst, arith}
use Rattle.std.proofs.lemmas.Result.{err_from_is_err_and}
use Rattle.flame_words.specs.WordSteps.{Seen, seen_of}
use Rattle.flame_words.proofs.Progress.{Follows, follows_first, follows_on, read_on-command}
use Rattle.flame_words.proofs.Reach.{few_read}
use Rattle.flame_words.proofs.Refusals.{refused, words_from}
use Rattle.flame_words.proofs.reader.read_all.Goals as goal

pub loop-word-init : goal.loop-word-init
loop-word-init c =
    let all = map string_bytes c.args.words.now in
    let P : Seen → Type 0 = λ seen. Follows all seen 1 all in
    record {
      follows = subst P (sym c.new-reading.ensures) (follows_first c.args.command all);
      command_is = ap (λ seen. seen.command) c.new-reading.ensures;
    }

pub overflow_add-number : goal.overflow_add-number
overflow_add-number c =
    let few = few_read _ _ _ _ c.loop-word.invariant.follows in
    omega arith

pub returns-in_err-read-clause-fault : goal.returns-in_err-read-clause-fault
returns-in_err-read-clause-fault c =
    let all = map string_bytes c.args.words.now in
    let rest = map string_bytes (drop (c.loop-word.word-index + 1) c.args.words.now) in
    let seen = seen_of c.loop-word.reading in
    let here =
    words_from c.args.words.now c.loop-word.word-index c.word-item.result c.loop-word-test.true c.word-item.is in
    let follows = rw here at c.loop-word.invariant.follows in
    let fails = rw c.as_str.ensures.value at c.in_err-read.ensures.fault in
    let p = err_from_is_err_and c.from_residual.result c.from_residual.ensures.1 in
    rw (p.1, p.2)
    (refused c.args.command all seen c.loop-word.number (string_bytes c.word-item.result) rest c.in_err-read.field-0.0
    c.loop-word.invariant.command_is follows fails)

pub loop-word-preserved : goal.loop-word-preserved
loop-word-preserved c =
    let all = map string_bytes c.args.words.now in
    let rest = map string_bytes (drop (c.loop-word.word-index + 1) c.args.words.now) in
    let seen = seen_of c.loop-word.reading in
    let here =
    words_from c.args.words.now c.loop-word.word-index c.word-item.result c.loop-word-test.true c.word-item.is in
    let follows = rw here at c.loop-word.invariant.follows in
    let clear = rw c.as_str.ensures.value at c.in_ok-read.ensures.no_fault in
    let read = rw c.as_str.ensures.value at c.in_ok-read.ensures.read in
    let P : Seen → Type 0 = λ seen. Follows all seen (c.loop-word.number + 1) rest in
    record {
      follows =
          subst P (sym read)
          (follows_on all seen c.loop-word.number (string_bytes c.word-item.result) rest follows clear);
      command_is =
          ap (λ seen. seen.command) read
          ∙ read_on-command seen.pending seen (string_bytes c.word-item.result)
          ∙ c.loop-word.invariant.command_is;
    }
