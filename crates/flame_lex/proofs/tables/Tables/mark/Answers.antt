use Rattle.flame_lex.proofs.Marks.{mark_token}
use Rattle.flame_lex.proofs.tables.Tables.mark.Goals as goal

pub returns-in_err-number : goal.returns-in_err-number
returns-in_err-number c =
    rw c.from_residual.ensures (rw c.args.self.now.operators_are at c.in_err-number.ensures.missing)

pub returns : goal.returns
returns c =
    let longest = rw c.args.self.now.operators_are at c.in_ok-number.ensures.found in
    let text = rw c.args.self.now.operators_are at c.spelling.ensures.spelling in
    let table = rw c.args.self.now.operators_are at c.spelling.ensures.table in
    rw text (mark_token c.args.bytes.now c.in_ok-number.number c.requires longest
    (table.filled c.in_ok-number.number longest.stands.within))
