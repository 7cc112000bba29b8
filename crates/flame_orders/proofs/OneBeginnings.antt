-- Two cores that legal events led to from one beginning have one ideal, and agree on what it tells.
use Rattle.std.proofs.Common.{◌≡◌, ℕ, zero, suc, ◌<◌, ◌≤◌, ⊎_elim, true, false, List, [], ◌∷◌, length, map, Option, Some, None, refl, sym, ap, ◌∙◌, arith, subst}
use Rattle.std.specs.Prelude.{slice_get, slice_index_or}
use Rattle.std.specs.List.{flat_map}
use Rattle.std.proofs.lemmas.Bool.{cases_lt, false≢true}
use Rattle.std.proofs.lemmas.List.{get_or_past}
use Rattle.std.proofs.lemmas.Option.{same_Some}
use Rattle.flame_rows.specs.Cuts.{cut}
use Rattle.flame_spec.specs.Functions.{functions}
use Rattle.flame_spec_laws.specs.NameLaws.{MessagesDiffer}
use Rattle.flame_world.specs.declared.faults.SimFault.{SimFault}
use Rattle.flame_world.specs.Fields.{opening}
use Rattle.flame_world.specs.Iterations.{Round}
use Rattle.flame_events.specs.CoreStates.{Work, Open, works_of, Core, status_of, is_frozen, opening_core}
use Rattle.flame_events.specs.EventSteps.{done_with}
use Rattle.flame_events.specs.LegalEvents.{inputs_of, outputs_of}
use Rattle.flame_events.proofs.Weights.{Rows}
use Rattle.flame_events.proofs.Spots.{Spot, pool_at}
use Rattle.flame_events.proofs.Holding.{Ideal, full_board, meets_board}
use Rattle.flame_events.proofs.Serial.{ideal, should_fault, over_same}
use Rattle.flame_events.proofs.SerialEnds.{serial_end}
use Rattle.flame_events.proofs.Works.{its_agents, Fits, all_of_list}
use Rattle.flame_events.proofs.Sound.{Sound, still_in, ran_in, handed_in, shut_handed, opens_with}
use Rattle.flame_events.proofs.Legality.{sound_replay}
use Rattle.flame_events.proofs.Messages.{accepted_sends}
use Rattle.flame_events.proofs.EveryOrders.{Holds-opening, Sound-opening}
use Rattle.flame_orders.specs.OneBeginning.{HaveOneBeginning, FrozenBoardsAgree, OutcomesAgree, PiecesAgree, OpenFunctionsAgree, DoneFunctionsAgree}
use Rattle.flame_orders.proofs.CutWorks.{IsCutUp, AreCutUp, replay_cut, opening_cut, cut_of_all}

-- ---- both cores have one ideal

record HaveOneIdeal (round : Round) (core other : Core) : Type 0 where
  pub start : Spot → Rows
  pub table : Ideal
  pub sound : Sound round start table core
  pub other_sound : Sound round start table other

one_ideal : MessagesDiffer → (round : Round) (pieces other_pieces : ℕ) (core other : Core) → HaveOneBeginning round pieces other_pieces core other → HaveOneIdeal round core other
one_ideal differ round pieces other_pieces core other both =
    let model = round.source.model in
    let field = opening model both.agents in
    let start : Spot → Rows = λ p. pool_at model field.pools p in
    let t : Ideal = ideal round field in
    let serial = serial_end round field (accepted_sends differ round field both.accepted) (Holds-opening round both.agents t both.has_bags) both.accepted.ordered in
    let first = Sound-opening round both.agents t both.has_bags in
    record {
      start = start;
      table = t;
      sound = subst (Sound round start t) (sym both.leads.left)
          (sound_replay round start t pieces (opening_core model both.agents) both.events serial.1 both.some first both.leads.legal);
      other_sound = subst (Sound round start t) (sym both.other_leads.left)
          (sound_replay round start t other_pieces (opening_core model both.agents) both.other_events serial.1 both.other_some first both.other_leads.legal);
    }

-- ---- boards

frozen_is_full : (round : Round) (start : Spot → Rows) (t : Ideal) (core : Core) (m : ℕ) → Sound round start t core → is_frozen core m ≡ true
    → slice_index_or core.field.boards m [] ≡ full_board round.source.model t m
frozen_is_full round start t core m h frozen =
    let model = round.source.model in
    let less : m < length core.frozen = ⊎_elim
    (λ (less : m < length core.frozen). less)
    (λ (over : length core.frozen ≤ m). absurd (false≢true (sym (get_or_past core.frozen m false over) ∙ frozen)))
    (cases_lt m (length core.frozen)) in
    meets_board round start t core.field (still_in core) (ran_in t core) (handed_in model t core) h.holds m (omega (arith, less, h.marks))
    (λ g below writes. shut_handed (outputs_of model g) m (t.agents g) (status_of core g) (h.written m g below frozen writes))

pub frozen_boards_agree : MessagesDiffer → FrozenBoardsAgree
frozen_boards_agree differ round pieces other_pieces m core other both frozen other_frozen =
    let one = one_ideal differ round pieces other_pieces core other both in
    frozen_is_full round one.start one.table core m one.sound frozen ∙ sym (frozen_is_full round one.start one.table other m one.other_sound other_frozen)

pub outcomes_agree : MessagesDiffer → OutcomesAgree
outcomes_agree differ round pieces other_pieces f memory core other both fed other_fed =
    let inputs = inputs_of round.source.model f in
    over_same round f core.field.boards other.field.boards
    (λ m less reads. frozen_boards_agree differ round pieces other_pieces m core other both
    (all_of_list (is_frozen core) inputs m fed reads) (all_of_list (is_frozen other) inputs m other_fed reads))
    memory

-- ---- functions

open_agents : (round : Round) (start : Spot → Rows) (t : Ideal) (core : Core) (f : ℕ) (works : List Work) → Sound round start t core → status_of core f ≡ Open works
    → flat_map its_agents works ≡ t.agents f
open_agents round start t core f works h is = (subst (Fits round t f) is (h.fits f)).whole

same_agents : MessagesDiffer → (round : Round) (pieces other_pieces f : ℕ) (works counterparts : List Work) (core other : Core)
    → HaveOneBeginning round pieces other_pieces core other → status_of core f ≡ Open works → status_of other f ≡ Open counterparts
    → flat_map its_agents works ≡ flat_map its_agents counterparts
same_agents differ round pieces other_pieces f works counterparts core other both is other_is =
    let one = one_ideal differ round pieces other_pieces core other both in
    open_agents round one.start one.table core f works one.sound is ∙ sym (open_agents round one.start one.table other f counterparts one.other_sound other_is)

pub open_functions_agree : MessagesDiffer → OpenFunctionsAgree
open_functions_agree differ round pieces other_pieces f works counterparts core other both is other_is =
    let model = round.source.model in
    let agents = same_agents differ round pieces other_pieces f works counterparts core other both is other_is in
    let first : AreCutUp pieces core.statuses = subst (λ (c : Core). AreCutUp pieces c.statuses) (sym both.leads.left)
    (replay_cut round pieces (opening_core model both.agents) both.events (opening_cut model pieces both.agents)) in
    let second : AreCutUp other_pieces other.statuses = subst (λ (c : Core). AreCutUp other_pieces c.statuses) (sym both.other_leads.left)
    (replay_cut round other_pieces (opening_core model both.agents) both.other_events (opening_cut model other_pieces both.agents)) in
    let bags : map its_agents works ≡ cut pieces (flat_map its_agents works) =
    cut_of_all pieces works both.some (subst (λ s. IsCutUp pieces (works_of s)) is (first f)) in
    let other_bags : map its_agents counterparts ≡ cut other_pieces (flat_map its_agents counterparts) =
    cut_of_all other_pieces counterparts both.other_some (subst (λ s. IsCutUp other_pieces (works_of s)) other_is (second f)) in
    (agents, λ same. bags ∙ (λ i. cut (same i) (agents i)) ∙ sym other_bags)

same_at : (works counterparts : List Work) (k : ℕ) (work counterpart : Work) → map its_agents works ≡ map its_agents counterparts
    → slice_get works k ≡ Some work → slice_get counterparts k ≡ Some counterpart → work.agents ≡ counterpart.agents
same_at works counterparts k work counterpart same at there =
    same_Some work.agents counterpart.agents
    (sym (mapped_at works k work at) ∙ ap (λ bags. slice_get bags k) same ∙ mapped_at counterparts k counterpart there)
  where
    mapped_at : (works : List Work) (k : ℕ) (work : Work) → slice_get works k ≡ Some work → slice_get (map its_agents works) k ≡ Some work.agents
    mapped_at [] k work at = absurd cc
    mapped_at (w ∷ works) zero work at = ap (λ (v : Work). Some v.agents) (same_Some w work at)
    mapped_at (w ∷ works) (suc k) work at = mapped_at works k work at

pub pieces_agree : MessagesDiffer → PiecesAgree
pieces_agree differ round pieces f k work counterpart core other both at there =
    let works = works_of (status_of core f) in
    let counterparts = works_of (status_of other f) in
    let all = open_functions_agree differ round pieces pieces f works counterparts core other both
    (opens_with (status_of core f) k work at) (opens_with (status_of other f) k counterpart there) in
    same_at works counterparts k work counterpart (all.1 refl) at there

done_fits : (round : Round) (t : Ideal) (f : ℕ) (fault : Option SimFault) → Fits round t f (done_with fault) → should_fault round t f ≡ fault
done_fits round t f None fits = fits
done_fits round t f (Some fault) fits = fits

pub done_functions_agree : MessagesDiffer → DoneFunctionsAgree
done_functions_agree differ round pieces other_pieces f fault counterpart core other both is other_is =
    let one = one_ideal differ round pieces other_pieces core other both in
    sym (done_fits round one.table f fault (subst (Fits round one.table f) is (one.sound.fits f)))
    ∙ done_fits round one.table f counterpart (subst (Fits round one.table f) other_is (one.other_sound.fits f))
