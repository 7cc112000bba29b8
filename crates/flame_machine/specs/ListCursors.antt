-- The rows of a function's inputs in memory, each list as far as it has been read.
use Rattle.std.specs.Prelude.{List, map}
use Rattle.flame_code.specs.Feeds.{Fed}
use Rattle.flame_machine.specs.declared.lists.Cursor.{Cursor}

-- the rows of an input, and how many of them have come [own]
abbrev pub fed_of : Cursor → Fed
fed_of cursor = record { rows = cursor.rows.now; come = cursor.come }

-- what each list feeds, in the order of the inputs [own]
abbrev pub feeds_of : List Cursor → List Fed
feeds_of cursors = map fed_of cursors
