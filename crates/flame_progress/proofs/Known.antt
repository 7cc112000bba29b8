-- What is known of a function from what it may do.
use Rattle.std.proofs.Common.{◌≡◌, ℕ, suc, ◌+◌, ◌<◌, ◌≤◌, Bool, true, false, cond, List, [], ◌∷◌, length, map, get_or, Option, Some, None, refl, sym, ap, ◌∙◌, subst, arith, ⊎_elim}
use Rattle.std.specs.Prelude.{ℤ, ◌==◌, not, is_some, slice_get, slice_set, slice_index_or, if◌then◌else◌}
use Rattle.std.specs.List.{All, position_or_len}
use Rattle.std.proofs.lemmas.Bool.{and_parts, cases_lt, eqb-true, false≢true, leb-true}
use Rattle.std.proofs.lemmas.List.Elements.{All-set}
use Rattle.flame_rows.specs.Bags.{ascending}
use Rattle.flame_spec.specs.Below.{HasNoTwice}
use Rattle.flame_spec.specs.declared.outcomes.Sent.{Sent}
use Rattle.flame_world.specs.declared.faults.SimFault.{SimFault}
use Rattle.flame_world.specs.AgentRuns.{messages_of}
use Rattle.flame_events.specs.CoreStates.{Work, Status, Waiting, Open, Shut, Faulted, is_waiting, works_of, part_in, has_left}
use Rattle.flame_events.specs.EventSteps.{done_with}
use Rattle.flame_events.specs.LegalEvents.{may_hand_in, may_shut}
use Rattle.flame_events.proofs.Sound.{past_waiting}
use Rattle.flame_pieces.specs.declared.works.Output.{Output}
use Rattle.flame_pieces.specs.declared.works.Work as run
use Rattle.flame_pieces.specs.declared.statuses.Status as kept
use Rattle.flame_pieces.specs.declared.statuses.Status.TheVariants as is
use Rattle.flame_pieces.specs.KeptWorks.{part_of, outputs_in, messages_in}
use Rattle.flame_pieces.specs.KeptStatuses.{status_of, HasOutputs}
use Rattle.flame_progress.specs.KeptWorkEvents.{are_left, OutputsOnce}

-- ---- what is there

pub record Runs (ran : ℕ) (works : List Work) (piece : ℕ) : Type 0 where
  pub work : Work
  pub there : slice_get works piece ≡ Some work
  pub left : work.ran + ran ≤ length work.agents

-- a piece that has so many agents left is there
pub are_left_is : (ran : ℕ) (works : List Work) (piece : ℕ) → are_left ran (slice_get works piece) ≡ true → Runs ran works piece
are_left_is ran works piece may = go (slice_get works piece) refl may
  where
    go : (o : Option Work) → slice_get works piece ≡ o → are_left ran o ≡ true → Runs ran works piece
    go None is left = absurd (false≢true left)
    go (Some work) is left = record { work = work; there = is; left = leb-true (work.ran + ran) (length work.agents) left }

-- one that may be shut is open
pub may_shut_is : (outputs : List ℕ) (status : Status) → may_shut outputs status ≡ true → status ≡ Open (works_of status)
may_shut_is outputs Waiting may = absurd (false≢true may)
may_shut_is outputs (Open works) may = refl
may_shut_is outputs Shut may = absurd (false≢true may)
may_shut_is outputs (Faulted fault) may = absurd (false≢true may)

-- what is open is there
pub open_within : (statuses : List Status) (function : ℕ) (works : List Work) → slice_index_or statuses function Waiting ≡ Open works → function < length statuses
open_within statuses function works is = ⊎_elim
    (λ (less : function < length statuses). less)
    (λ (over : length statuses ≤ function).
    absurd (false≢true (ap is_waiting (sym is ∙ past_waiting statuses function over))))
    (cases_lt function (length statuses))

-- ---- how statuses are kept

-- one that is done has no pieces, and so no outputs to have
pub done_has : (status : kept.Status) (fault : Option SimFault) (outputs : List ℕ) → status_of status ≡ done_with fault → HasOutputs outputs status
done_has is.Waiting fault outputs same = tt
done_has (is.Open works) None outputs same = absurd cc
done_has (is.Open works) (Some fault) outputs same = absurd cc
done_has is.Shut fault outputs same = tt
done_has (is.Faulted other) fault outputs same = tt

-- where a function outputs nothing twice, its pieces do not
pub outputs_once : (status : kept.Status) (outputs : List ℕ) → HasNoTwice outputs → HasOutputs outputs status → OutputsOnce status
outputs_once is.Waiting outputs once has = tt
outputs_once (is.Open works) outputs once has = λ k work less. subst HasNoTwice (sym (has k work less)) once
outputs_once is.Shut outputs once has = tt
outputs_once (is.Faulted fault) outputs once has = tt

-- pieces of which one changed, and kept its outputs
pub outputs_kept : (works : List run.Work) (piece : ℕ) (old new : run.Work) (outputs : List ℕ)
    → piece < length works → old ≡ get_or works piece old → outputs_in new ≡ outputs_in old
    → All (λ work. outputs_in work ≡ outputs) works → All (λ work. outputs_in work ≡ outputs) (slice_set works piece new)
outputs_kept works piece old new outputs less at same all =
    All-set (λ (work : run.Work). outputs_in work ≡ outputs) works piece new
    (same ∙ ap outputs_in at ∙ all piece old less) all

-- ---- messages that may be handed in

pub record Hands (outputs : List ℕ) (work : Option Work) (message : ℕ) : Type 0 where
  pub one : Work
  pub rows : List (List ℤ)
  pub there : work ≡ Some one
  pub part : part_in outputs one.parts message ≡ Some rows

pub may_hand_in_is : (outputs : List ℕ) (work : Option Work) (message : ℕ) → may_hand_in outputs work message ≡ true → Hands outputs work message
may_hand_in_is outputs None message may = absurd (false≢true may)
may_hand_in_is outputs (Some work) message may =
    go (part_in outputs work.parts message) refl (and_parts (not (has_left work)) (is_some (part_in outputs work.parts message)) may).1
  where
    go : (o : Option (List (List ℤ))) → part_in outputs work.parts message ≡ o → is_some o ≡ true → Hands outputs (Some work) message
    go None is some = absurd (false≢true some)
    go (Some rows) is some = record { one = work; rows = rows; there = refl; part = is }
