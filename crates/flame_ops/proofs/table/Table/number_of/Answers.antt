-- The spelling that was read equals the word.
use Rattle.std.proofs.Common.{◌≡◌, Some, sym}
use Rattle.std.specs.Prelude.{slice_get}
use Rattle.std.proofs.lemmas.Option.{slice_get_read}
use Rattle.std.proofs.lemmas.Slice.Eq.{slice_eq-Decides}
use Rattle.std.proofs.lemmas.Bool.Decides.{Decides-eqb}
use Rattle.flame_ops.proofs.table.Table.number_of.Goals as goal

pub returns-then-eq-clause-found : goal.returns-then-eq-clause-found
returns-then-eq-clause-found g c =
    let read : slice_get c.self.inside.spellings c.loop-number.number ≡ Some c.spelling-item.result =
    slice_get_read _ _ _ _ (sym c.self.told) c.loop-number-test.true c.spelling-item.is in
    let same : c.bytes.result.now ≡ c.args.word.now =
    (slice_eq-Decides Decides-eqb c.bytes.result.now c.args.word.now _ c.eq.ensures).0 c.if-eq.true in
    cc
