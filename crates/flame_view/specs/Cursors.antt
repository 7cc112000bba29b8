-- The views of a function's inputs, each as far as it has been read.
use Rattle.std.specs.Prelude.{List, map}
use Rattle.flame_code.specs.Feeds.{Fed}
use Rattle.flame_view.specs.declared.inputs.Cursor.{Cursor}

-- the rows of a view, and how many of them have come [own]
abbrev pub fed_of : Cursor → Fed
fed_of cursor = record { rows = cursor.view; come = cursor.passed }

-- what each view feeds, in the order of the inputs [own]
abbrev pub feeds_of : List Cursor → List Fed
feeds_of cursors = map fed_of cursors
