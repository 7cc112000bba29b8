-- The turns of message loops.
use Rattle.std.proofs.Common.{rules, ◌≡◌, ℕ, List, [], map, sym, ap, ◌∙◌, Bor, Option, Some, None, option_map}
use Rattle.std.proofs.lemmas.Simd.{map-map}
use Rattle.std.specs.Prelude.{ℤ, slice_index_or}
use Rattle.flame_spec.specs.declared.models.Input.{Input}
use Rattle.flame_spec.specs.declared.models.MessageType.{MessageType}
use Rattle.flame_spec.specs.Functions.{Place}
use Rattle.flame_spec.specs.LookUps.{message_looped, input_of}
use Rattle.flame_spec.specs.Scopes.{messages_at, input_found}
use Rattle.flame_meaning.specs.Scenes.{Scene, Current}
use Rattle.flame_meaning.specs.Statements.{rows_of, currents_of, currents_over, loop_currents}
use Rattle.flame_sense.specs.declared.scene.Open.{the_lemmas}
use Rattle.flame_sense.specs.declared.scene.Open.TheVariants.{Nothing}
use Rattle.flame_sense.specs.StandsFor.{rows_seen, currents}

-- where a loop stands at a row
abbrev pub stands_at : ℕ → Bor (List ℤ) → Current
stands_at message row = record { message = message; row = row.now }

rows_by : (found : Option (ℕ × Input)) (scene : Scene) (input : ℕ)
    → Some input ≡ option_map (λ found. found.0) found
    → rows_of found scene ≡ slice_index_or scene.readings input []
rows_by None scene input e = cc
rows_by (Some found) scene input e =
    let same : found.0 ≡ input = cc in ap (λ n. slice_index_or scene.readings n []) same

pub rows_there :
    (scene : Scene) (word : List ℕ) (place : Place) (message : ℕ × MessageType) (input : ℕ) (rows : List (Bor (List ℤ)))
    → scene.context.runs ≡ Some place
    → message_looped (messages_at scene.context) word ≡ Some message
    → Some input ≡ option_map (λ found. found.0) (input_of place.function message.1)
    → rows_seen rows ≡ slice_index_or scene.readings input []
    → map (stands_at message.0) rows ≡ loop_currents word scene
rows_there scene word place message input rows runs looped found seen = sym (
    ap (λ o. currents_over o scene) looped
    ∙ ap (λ r. currents_of (Some message) (rows_of (input_found r (Some message)) scene)) runs
    ∙ ap (currents_of (Some message)) (rows_by (input_of place.function message.1) scene input found ∙ sym seen)
    ∙ map-map _ _ rows)

pub currents_nothing : currents Nothing ≡ []
currents_nothing = search (rules, the_lemmas)
