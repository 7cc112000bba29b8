-- What was written, and the rows that are left, make up the whole.
use Rattle.std.proofs.Common.{◌≡◌, ◌++◌, map, drop}
use Rattle.flame_popfile.specs.CommaTexts.{behind, form_text}
use Rattle.flame_popfile.proofs.forms.push_few.Given as goal

abbrev pub invariant-loop-row : goal.invariant-loop-row
invariant-loop-row l =
    l.bytes.items ++ behind l.more (map (form_text l.form) (drop l.row-index l.rows))
    ≡ l.fn.bytes.items ++ behind l.before (map (form_text l.form) l.rows)
