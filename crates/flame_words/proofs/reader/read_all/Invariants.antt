-- The words that were read have no fault, and what was read is what they mean.
use Rattle.std.proofs.Common.{◌≡◌, map, drop, string_bytes}
use Rattle.flame_words.specs.WordSteps.{seen_of}
use Rattle.flame_words.proofs.Progress.{Follows}
use Rattle.flame_words.proofs.reader.read_all.Given as goal

abbrev pub invariant-loop-word : goal.invariant-loop-word
invariant-loop-word l = record {
  follows :
      Follows
      (map string_bytes l.words)
      (seen_of l.reading)
      l.number
      (map string_bytes (drop l.word-index l.words));
  command_is : l.reading.command ≡ l.fn.command;
}
