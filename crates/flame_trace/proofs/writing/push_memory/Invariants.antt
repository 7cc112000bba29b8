-- The numbers so far.
use Rattle.std.proofs.Common.{◌≡◌, ◌++◌, take, string_bytes}
use Rattle.flame_trace.specs.TraceTexts.{memory_words}
use Rattle.flame_trace.proofs.writing.push_memory.Given as goal

abbrev pub invariant-loop-number : goal.invariant-loop-number
invariant-loop-number l = string_bytes l.text ≡ string_bytes l.fn.text ++ memory_words (take l.number-index l.memory)
