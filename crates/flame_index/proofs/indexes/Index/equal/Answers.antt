use mir.Syntax.{w32}
use Rattle.std.proofs.Common.{◌≡◌, ◌≤◌, true, false, length, subst, arith}
use Rattle.std.proofs.lemmas.Int.{to_z-of_z}
use Rattle.std.proofs.lemmas.List.{length-map}
use Rattle.flame_index.specs.FrozenBoards.{messages_on}
use Rattle.flame_index.specs.Indexes.{Entry, values_of}
use Rattle.flame_index.proofs.Searching.{Parts, IsRangeIn, range_order, range_values, rows_by_values}
use Rattle.flame_index.proofs.indexes.Index.equal.Goals as goal

pub returns-clause-range : goal.returns-clause-range
returns-clause-range g c =
    let index = c.args.self.now in
    let values = values_of index in
    let low = c.passed-from.result in
    let high = c.passed-to.result in
    let number = to_z-of_z w32 c.args.value c.ranges.value in
    let lower : Parts values false c.args.value low = subst (λ v. Parts values false v low) number c.passed-from.ensures.sides in
    let upper : Parts values true c.args.value high = subst (λ v. Parts values true v high) number c.passed-to.ensures.sides in
    let long : length values ≡ length index.entries = length-map index.entries (λ (entry : Entry). entry.value) in
    let inside : low ≤ length values = omega (arith, long, c.passed-from.ensures.within) in
    let order : low ≤ high = range_order values c.args.value low high inside lower upper in
    let range : IsRangeIn values c.args.value low high = range_values values c.args.value low high lower upper in
    let within = c.passed-to.ensures.within in
    record {
      order = order;
      within = within;
      values = range;
      rows = rows_by_values index (messages_on c.args.board.now) c.args.value low high c.requires.stands order within range;
    }
