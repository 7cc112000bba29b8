-- Places as paths.
use Rattle.std.specs.Prelude.{ℕ, List}
use Rattle.flame_spec.specs.Paths.{root, at_key, at_number}
use Rattle.flame_names.specs.declared.path.Place.{Place, Root, Key', Member'}

-- the path of a place [own]
abbrev pub text_of : Place → List ℕ
text_of Root = root
text_of (Key' p before key) = at_key (text_of before) key.now
text_of (Member' p before number) = at_number (text_of before) number
