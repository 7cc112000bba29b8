use Rattle.std.proofs.Common.{arith, append_assoc}
use Rattle.std.proofs.lemmas.List.{take_more, take_all}
use Rattle.flame_lex.proofs.place.Place.past.Goals as goal

pub loop-b-preserved : goal.loop-b-preserved
loop-b-preserved c = record {
  at = omega arith;
  behind = λ before h.
      rw (take_more c.args.bytes.now c.loop-b.b-index 0 c.loop-b-test.true)
      (rw append_assoc at (c.past_byte-place.ensures.place _ (c.loop-b.invariant.behind before h)));
}

pub returns : goal.returns
returns c =
    λ before h. rw (take_all c.loop-b.b-index c.args.bytes.now c.loop-b-test.false) at
    (c.loop-b.invariant.behind before h)
