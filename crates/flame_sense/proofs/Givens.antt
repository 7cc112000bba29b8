-- What the model gives to a word.
use Rattle.std.proofs.Common.{◌≡◌, ℕ, List, refl, ap, Option, Some, None, option_map}
use Rattle.std.specs.Prelude.{unwrap_or}
use Rattle.flame_spec.specs.declared.models.Variable.{Variable}
use Rattle.flame_spec.specs.LookUps.{Given, in_memory, constant, iteration, given_by}
use Rattle.flame_sense.specs.declared.words.Span.{Span}
use Rattle.flame_spec.specs.Scopes.{given_at}
use Rattle.flame_sense.specs.declared.scene.Open.{Open}
use Rattle.flame_sense.specs.declared.scene.Scene as code
use Rattle.flame_meaning.specs.Scenes.{Scene, Progress, local_value, value_given, value_found, named}
use Rattle.flame_sense.specs.StandsFor.{span_of, context_seen, scene_seen}

pub in_memory_value :
    (found : Option (ℕ × Variable)) (constants : List (List ℕ)) (word : List ℕ) (scene : Scene) (s : Progress) (span : Span)
    → Some span ≡ option_map span_of found
    → value_found found s.memory ≡ value_given (given_by found constants word) scene s
in_memory_value None constants word scene s span e = cc
in_memory_value (Some found) constants word scene s span e = refl

given_anywhere :
    (given : Option Given) (scene : code.Scene) (a b : Open) (s : Progress)
    → value_given given (scene_seen scene a) s ≡ value_given given (scene_seen scene b) s
given_anywhere None scene a b s = refl
given_anywhere (Some (in_memory column variable)) scene a b s = refl
given_anywhere (Some (constant number)) scene a b s = refl
given_anywhere (Some iteration) scene a b s = refl

-- a name stands for the same, whatever loops are open
pub named_anywhere :
    (word : List ℕ) (scene : code.Scene) (a b : Open) (s : Progress)
    → named word (scene_seen scene a) s ≡ named word (scene_seen scene b) s
named_anywhere word scene a b s =
    ap (unwrap_or (local_value word s.locals)) (given_anywhere (given_at (context_seen scene) word) scene a b s)
