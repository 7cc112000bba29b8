-- Where words are looked up: the words that only bodies and proofs use.
use Rattle.flame_spec.specs.Scopes.{Context}
use Rattle.flame_lookup.specs.Sources.{BodyPlace}
use Rattle.flame_body.specs.FunctionBodies.{words_of}

-- what the words of a body go by that stands there, whatever its file [own]
abbrev pub words_at : BodyPlace → Context
words_at standing = words_of standing.sources.model standing.sources.units standing.runs
