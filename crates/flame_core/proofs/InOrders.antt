-- Functions that began have their boards frozen, and frozen boards their writers shut, in each core that was reached.
use Rattle.std.proofs.Common.{◌≡◌, ℕ, false, List, ap}
use Rattle.std.specs.Prelude.{ℤ, is_some}
use Rattle.flame_rows.proofs.Lists.{slice_index_or-map_one}
use Rattle.flame_spec.specs.declared.models.Model.{Model}
use Rattle.flame_spec.specs.Functions.{functions}
use Rattle.flame_events.specs.CoreEnds.{is_faulted}
use Rattle.flame_events.specs.CoreStates.{Status, Waiting, fault_of, is_shut, status_of, is_frozen, opening_core}
use Rattle.flame_events.specs.LegalEvents.{writers}
use Rattle.flame_events.proofs.KeptCores.{kept_core}
use Rattle.flame_events.proofs.Legality.{in_writers}
use Rattle.flame_events.proofs.Works.{all_of_list}
use Rattle.flame_core.specs.SeenCores.{Seen, IsReached, round_in}
use Rattle.flame_core.specs.KeptReady.{InOrder}

-- ---- at the beginning

pub nothing_shut : (model : Model) (agents : List (List (List ℤ))) (f : ℕ) → is_shut (status_of (opening_core model agents) f) ≡ false
nothing_shut model agents f = ap is_shut (slice_index_or-map_one Waiting (functions model) f)

pub nothing_faulted : (model : Model) (agents : List (List (List ℤ))) (f : ℕ) → is_faulted (opening_core model agents) f ≡ false
nothing_faulted model agents f = ap (λ (s : Status). is_some (fault_of s)) (slice_index_or-map_one Waiting (functions model) f)

pub nothing_frozen : (model : Model) (agents : List (List (List ℤ))) (m : ℕ) → is_frozen (opening_core model agents) m ≡ false
nothing_frozen model agents m = slice_index_or-map_one false model.messages m

-- ---- a core that was reached

pub reached_in_order : (seen : Seen) → IsReached seen → InOrder seen.source.model seen.pieces seen.core
reached_in_order seen reached =
    let model = seen.source.model in
    let kept = kept_core (round_in seen) seen.pieces seen.core (record { agents = seen.world.agents; events = reached.events; leads = reached.leads }) in
    record {
      fed = λ f begun. (kept.begun f begun).fed;
      written = λ m f below frozen writes.
          all_of_list (λ g. is_shut (status_of seen.core g)) (writers model m) f (kept.written m frozen) (in_writers model m f below writes);
      few = λ f. (kept.works f).few;
    }
