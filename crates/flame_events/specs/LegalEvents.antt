-- Which events are legal.
use Rattle.std.specs.Prelude.{ℕ, nat_lt, List, [], length, slice_get, Bool, false, not, ◌&&◌, Option, Some, None}
use Rattle.std.specs.Prelude.{is_some, is_none, option_map}
use Rattle.std.specs.List.{filter_map, list_all}
use Rattle.flame_spec.specs.declared.models.Model.{Model}
use Rattle.flame_spec.specs.Before.{before, function_count}
use Rattle.flame_spec.specs.Below.{all_below, is_in}
use Rattle.flame_spec.specs.Functions.{Place, functions}
use Rattle.flame_meaning.specs.Outcomes.{message_named, outputs_at}
use Rattle.flame_events.specs.declared.events.Event.{Event}
use Rattle.flame_events.specs.declared.events.Event.TheVariants as event
use Rattle.flame_events.specs.CoreStates.{Work, Status, Waiting, Open, Shut, Faulted, is_waiting, is_shut, has_left}
use Rattle.flame_events.specs.CoreStates.{part_in, Core, status_of, work_of, is_frozen}

-- ---- what the model says

-- the functions that stand before this one [own]
abbrev pub predecessors : Model → ℕ → List ℕ
predecessors model function = all_below (λ other. before model other function) (function_count model)

-- the numbers of the messages that the function of this place inputs [XMML]
abbrev pub inputs_at : Option Place → Model → List ℕ
inputs_at None model = []
inputs_at (Some place) model =
    filter_map
    (λ input. option_map (λ found. found.0) (message_named model.messages input.message))
    place.function.inputs

-- those that the function of this number inputs [XMML]
abbrev pub inputs_of : Model → ℕ → List ℕ
inputs_of model function = inputs_at (slice_get (functions model) function) model

-- the numbers of the messages that the function of this number outputs [XMML]
abbrev pub outputs_of : Model → ℕ → List ℕ
outputs_of model function = outputs_at (slice_get (functions model) function) model

-- the functions that output this message [XMML]
abbrev pub writers : Model → ℕ → List ℕ
writers model message = all_below (λ function. is_in message (outputs_of model function)) (function_count model)

-- ---- what may happen

-- all of these functions are shut [own]
abbrev pub are_shut : Core → List ℕ → Bool
are_shut core numbers = list_all (λ function. is_shut (status_of core function)) numbers

-- a function may be opened where it waits, its predecessors are shut and the boards of its inputs are frozen [own]
abbrev pub may_open : Model → Core → ℕ → Bool
may_open model core function =
    nat_lt function (function_count model)
    && is_waiting (status_of core function)
    && are_shut core (predecessors model function)
    && list_all (is_frozen core) (inputs_of model function)

-- the next agent of a piece may run where there is one [own]
abbrev pub may_run : Option Work → Bool
may_run None = false
may_run (Some work) = has_left work

-- the messages for an output may be handed in where all agents of the piece ran, and once [own]
abbrev pub may_hand_in : List ℕ → Option Work → ℕ → Bool
may_hand_in outputs None message = false
may_hand_in outputs (Some work) message = not (has_left work) && is_some (part_in outputs work.parts message)

-- all of the piece ran, and everything is handed in [own]
abbrev pub is_over : List ℕ → Work → Bool
is_over outputs work =
    not (has_left work) && list_all (λ message. is_none (part_in outputs work.parts message)) outputs

-- a function may be shut where it is open and all its pieces are over [own]
abbrev pub may_shut : List ℕ → Status → Bool
may_shut outputs Waiting = false
may_shut outputs (Open works) = list_all (is_over outputs) works
may_shut outputs Shut = false
may_shut outputs (Faulted fault) = false

-- a board may be frozen where it gathers and all its writers are shut [own]
abbrev pub may_freeze : Model → Core → ℕ → Bool
may_freeze model core message =
    nat_lt message (length model.messages)
    && not (is_frozen core message)
    && are_shut core (writers model message)

-- the event is legal; one that names no function, piece or message is not [own]
abbrev pub is_legal : Model → Core → Event → Bool
is_legal model core (event.Open function) = may_open model core function
is_legal model core (event.Agent function piece) = may_run (work_of core function piece)
is_legal model core (event.HandIn function piece message) =
    may_hand_in (outputs_of model function) (work_of core function piece) message
is_legal model core (event.Shut function) = may_shut (outputs_of model function) (status_of core function)
is_legal model core (event.Freeze message) = may_freeze model core message
