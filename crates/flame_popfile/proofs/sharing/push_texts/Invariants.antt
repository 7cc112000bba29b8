-- What was written, and the texts that are left, make up the whole.
use Rattle.std.proofs.Common.{◌≡◌, ◌++◌, map, drop}
use Rattle.flame_popfile.specs.CommaTexts.{behind}
use Rattle.flame_popfile.proofs.SharedTexts.{bytes_of}
use Rattle.flame_popfile.proofs.sharing.push_texts.Given as goal

abbrev pub invariant-loop-text : goal.invariant-loop-text
invariant-loop-text l =
    l.bytes.items ++ behind l.more (map bytes_of (drop l.text-index l.texts))
    ≡ l.fn.bytes.items ++ behind l.before (map bytes_of l.texts)
