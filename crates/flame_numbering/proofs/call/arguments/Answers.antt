use Rattle.std.proofs.Common.{◌+◌, drop}
use Rattle.std.proofs.lemmas.Result.{err_from_is_err_and}
use Rattle.flame_spec.specs.CallFaults.{arguments_faults, argument_faults}
use Rattle.flame_spec.specs.Seen.{expression, expressions}
use Rattle.flame_lookup.specs.Sources.{context_at}
use Rattle.flame_body.specs.NumberedTrees.{numbered, numbered_parts}
use Rattle.flame_numbering.specs.WordPlaces.{words_at}
use Rattle.flame_numbering.proofs.ArgumentLaws.{arguments-next}
use Rattle.flame_numbering.proofs.Firsts.{clean-next, first_next}
use Rattle.flame_numbering.proofs.Rests.{rest-next, rest-pushed}
use Rattle.flame_numbering.proofs.call.arguments.Goals as goal

pub returns-in_err-slot-clause-first : goal.returns-in_err-slot-clause-first
returns-in_err-slot-clause-first c =
    let p = err_from_is_err_and c.from_residual.result c.from_residual.ensures.1 in
    let context = context_at c.args.words.now in
    let sight = c.args.spot.now in
    let line = c.args.line in
    let word = c.args.word.now in
    let all = c.args.es.now in
    let variables = c.args.variables.now in
    let i = c.loop-i.i in
    let e = c.index-es-i.result in
    let wants = c.length_at-length.result in
    let rest = arguments_faults context sight line word (drop (i + 1) variables) (expressions (drop (i + 1) all)) in
    rw (p.1, p.2)
    (first_next (arguments_faults context sight line word variables (expressions all))
    (arguments_faults context sight line word (drop i variables) (expressions (drop i all)))
    (argument_faults context sight line word wants (expression e)) rest _
    c.loop-i.invariant.clean
    (arguments-next context sight line word variables all i e wants c.loop-i-test.true c.index-es-i.is
    c.length_at-length.ensures)
    c.in_err-slot.ensures.first)

pub loop-i-preserved : goal.loop-i-preserved
loop-i-preserved c =
    let context = context_at c.args.words.now in
    let words = words_at c.args.words.now in
    let sight = c.args.spot.now in
    let line = c.args.line in
    let word = c.args.word.now in
    let all = c.args.es.now in
    let variables = c.args.variables.now in
    let i = c.loop-i.i in
    let e = c.index-es-i.result in
    let wants = c.length_at-length.result in
    let slots = c.loop-i.slots.items in
    let faults = arguments_faults context sight line word variables (expressions all) in
    let left = arguments_faults context sight line word (drop i variables) (expressions (drop i all)) in
    let rest = arguments_faults context sight line word (drop (i + 1) variables) (expressions (drop (i + 1) all)) in
    record {
      clean = clean-next faults left (argument_faults context sight line word wants (expression e)) rest
          c.loop-i.invariant.clean
          (arguments-next context sight line word variables all i e wants c.loop-i-test.true c.index-es-i.is
          c.length_at-length.ensures)
          c.in_ok-slot.ensures.clean;
      stands = rest-pushed (numbered_parts words sight (expressions all)) slots _
          (numbered_parts words sight (expressions (drop i all))) (numbered words sight (expression e)) c.in_ok-slot.slot
          (numbered_parts words sight (expressions (drop (i + 1) all)))
          c.loop-i.invariant.stands
          (rest-next (λ l. numbered_parts words sight (expressions l)) all i e c.loop-i-test.true c.index-es-i.is)
          c.in_ok-slot.ensures.stands
          c.in_ok-push.ensures.items;
    }
