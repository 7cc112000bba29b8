-- How the steps of what goes on make a whole.
use Rattle.std.proofs.Common.{◌≡◌, ℕ, ◌<◌, true, cond, List, [], ◌∷◌, ◌++◌, length, sym, ap, ◌∙◌, subst, arith, length-append}
use Rattle.std.specs.Prelude.{slice_index, slice_index_or}
use Rattle.flame_spec.specs.Accepted.{IsAccepted}
use Rattle.flame_spec.specs.Below.{is_in}
use Rattle.flame_spec.specs.ModelOrder.{model_order}
use Rattle.flame_world.specs.declared.shares.Share.{Share}
use Rattle.flame_world.specs.Shares.{piece_of}
use Rattle.flame_events.specs.declared.events.Event.TheVariants as event
use Rattle.flame_events.specs.AbsorbedPieces.{agent_events}
use Rattle.flame_events.specs.CoreStates.{Core}
use Rattle.flame_events.specs.EventSteps.{after, replay, are_legal}
use Rattle.flame_events.specs.HandedPieces.{hand_in_events}
use Rattle.flame_events.specs.LegalEvents.{outputs_of, is_legal}
use Rattle.flame_events.proofs.Growing.{replay-append}
use Rattle.flame_core.specs.CoreCalls.{CanAbsorb}
use Rattle.flame_core.specs.SeenCores.{round_in, start_in}
use Rattle.flame_flow.specs.Goings.{AreWaysOf, Going, with_frozen, with_opened, with_behind, with_shut, GoesOn, work_left}
use Rattle.flame_flow.specs.ToldCores.{ToldCore, IsTold, told_on, HasGoneOn, Ran, RanWhole}
use Rattle.flame_flow.proofs.GoneOn.{Known, shut_one}
use Rattle.flame_flow.proofs.Left.{left_quiet}
use Rattle.flame_flow.proofs.Lessening.{shut_less, last_first}
use Rattle.flame_flow.proofs.Opening.{opens_all}
use Rattle.flame_flow.proofs.Settling.{Settling, settling, settling_goes}
use Rattle.flame_flow.proofs.Tellings.{gone_round, gone_pieces, told_again, told_known}

-- ---- a function is shut

-- what is behind it may come
pub behind_is : (told two : ToldCore) (outputs list ranks : List ℕ) (next : List (List ℕ)) (f : ℕ) (due over : List ℕ) (last : Going)
    → HasGoneOn told two
    → outputs ≡ outputs_of told.seen.source.model f
    → two.seen.core ≡ with_frozen (round_in told.seen) told.seen.pieces outputs told.seen.core
    → list ≡ slice_index_or next f []
    → last ≡ with_opened (round_in two.seen) two.seen.pieces ranks list (record { core = two.seen.core; due = due; over = over })
    → last ≡ with_behind (round_in told.seen) told.seen.pieces ranks next f (record { core = told.seen.core; due = due; over = over })
behind_is told two outputs list ranks next f due over last on outs frozen behind opened =
    let round = gone_round told two on in
    let pieces = gone_pieces told two on in
    let core : two.seen.core ≡ with_frozen (round_in told.seen) told.seen.pieces (outputs_of told.seen.source.model f) told.seen.core =
    frozen ∙ ap (λ l. with_frozen (round_in told.seen) told.seen.pieces l told.seen.core) outs in
    opened ∙ (λ i. with_opened (round i) (pieces i) ranks (behind i) (record { core = core i; due = due; over = over }))

-- it was shut, and then what is behind it came
pub shut_is : (told mid : ToldCore) (ranks : List ℕ) (next : List (List ℕ)) (f : ℕ) (due over : List ℕ) (last : Going)
    → is_legal told.seen.source.model told.seen.core (event.Shut f) ≡ true
    → mid ≡ told_on (event.Shut f ∷ []) told
    → last ≡ with_behind (round_in mid.seen) mid.seen.pieces ranks next f (record { core = mid.seen.core; due = due; over = over })
    → last ≡ with_shut (round_in told.seen) told.seen.pieces ranks next f (record { core = told.seen.core; due = due; over = over })
shut_is told mid ranks next f due over last legal came is =
    is
    ∙ ap (λ (t : ToldCore). with_behind (round_in t.seen) t.seen.pieces ranks next f (record { core = t.seen.core; due = due; over = over })) came
    ∙ sym (ap (λ b. cond b
    (with_behind (round_in told.seen) told.seen.pieces ranks next f
    (record { core = after (round_in told.seen) told.seen.pieces told.seen.core (event.Shut f); due = due; over = over }))
    (record { core = told.seen.core; due = due; over = over })) legal)

-- what goes on does so when the last of those that may be over was looked at, and there is less to do
pub shut_on : (told : ToldCore) (ranks : List ℕ) (next : List (List ℕ)) (begun : List ℕ) (f : ℕ) (due over : List ℕ) (last : Going)
    → IsTold told → AreWaysOf told.seen.source.model ranks next
    → last ≡ with_shut (round_in told.seen) told.seen.pieces ranks next f (record { core = told.seen.core; due = due; over = over })
    → GoesOn told.seen.source.model begun [] [] (record { core = told.seen.core; due = due; over = over ++ f ∷ [] })
    → GoesOn told.seen.source.model begun [] [] last
shut_on told ranks next begun f due over last is ways same goes =
    subst (GoesOn told.seen.source.model begun [] []) (sym same)
    (shut_one (round_in told.seen) told.seen.pieces is.some ranks next ways begun f told.seen.core due over (told_known told is)
    (last_first told.seen.source.model begun told.seen.core due over f goes)).goes

pub shut_lessens : (told : ToldCore) (ranks : List ℕ) (next : List (List ℕ)) (f : ℕ) (due over : List ℕ) (last : Going)
    → IsTold told
    → last ≡ with_shut (round_in told.seen) told.seen.pieces ranks next f (record { core = told.seen.core; due = due; over = over })
    → work_left last < work_left (record { core = told.seen.core; due = due; over = over ++ f ∷ [] })
shut_lessens told ranks next f due over last is same =
    let less = shut_less (round_in told.seen) told.seen.pieces is.some ranks next f (record { core = told.seen.core; due = due; over = over }) (told_known told is) in
    omega (arith, less.less, ap work_left same, length-append over (f ∷ []))

-- ---- a piece comes

pub brings : (told : ToldCore) (share : Share) → IsTold told → IsAccepted told.seen.source → (can : CanAbsorb told.seen share)
    → Settling (round_in told.seen) told.seen.pieces told.seen.core (piece_of share).function (piece_of share).number can.work
brings told share is accepted can =
    settling (round_in told.seen) told.seen.pieces told.seen.core (piece_of share).function (piece_of share).number can.work accepted (told_known told is) can.there can.new

-- its messages may be handed in
pub hands_legal : (told mid : ToldCore) (share : Share) (outputs : List ℕ) (f k : ℕ) → IsTold told → IsAccepted told.seen.source → (ran : Ran share told mid)
    → f ≡ (piece_of share).function → k ≡ (piece_of share).number → outputs ≡ outputs_of told.seen.source.model f
    → are_legal (round_in mid.seen) mid.seen.pieces mid.seen.core (hand_in_events outputs f k) ≡ true
hands_legal told mid share outputs f k is accepted ran function piece outs =
    let all : outputs ≡ outputs_of told.seen.source.model (piece_of share).function = outs ∙ ap (outputs_of told.seen.source.model) function in
    (λ i. are_legal (round_in (ran.left i).seen) (ran.left i).seen.pieces (ran.left i).seen.core (hand_in_events (all i) (function i) (piece i)))
    ∙ (brings told share is accepted ran.can).hands_legal

-- and then it came whole
pub ran_whole : (told mid last : ToldCore) (share : Share) (outputs : List ℕ) (f k : ℕ) → (ran : Ran share told mid)
    → f ≡ (piece_of share).function → k ≡ (piece_of share).number → outputs ≡ outputs_of told.seen.source.model f
    → last ≡ told_on (hand_in_events outputs f k) mid
    → RanWhole share told last
ran_whole told mid last share outputs f k ran function piece outs is =
    let all : outputs ≡ outputs_of told.seen.source.model (piece_of share).function = outs ∙ ap (outputs_of told.seen.source.model) function in
    record {
      can = ran.can;
      left =
          is ∙ (λ i. told_on (hand_in_events (all i) (function i) (piece i)) (ran.left i))
          ∙ told_again (agent_events (piece_of share).function (piece_of share).number ran.can.work)
          (hand_in_events (outputs_of told.seen.source.model (piece_of share).function) (piece_of share).function (piece_of share).number) told;
    }

-- what goes on does so, with its function, which may be over
pub brought_goes : (told last : ToldCore) (share : Share) (begun due : List ℕ) → IsTold told → IsAccepted told.seen.source → RanWhole share told last
    → (piece_of share).number < slice_index begun (piece_of share).function
    → GoesOn told.seen.source.model begun [] [] (record { core = told.seen.core; due = due; over = [] })
    → GoesOn told.seen.source.model begun [] [] (record { core = last.seen.core; due = due; over = (piece_of share).function ∷ [] })
brought_goes told last share begun due is accepted whole was goes =
    let f = (piece_of share).function in
    let k = (piece_of share).number in
    let round = round_in told.seen in
    let agents = agent_events f k whole.can.work in
    let hands = hand_in_events (outputs_of told.seen.source.model f) f k in
    let core : last.seen.core ≡ replay round told.seen.pieces (replay round told.seen.pieces told.seen.core agents) hands =
    ap (λ (t : ToldCore). t.seen.core) whole.left ∙ replay-append round told.seen.pieces told.seen.core agents hands in
    subst (λ (c : Core). GoesOn told.seen.source.model begun [] [] (record { core = c; due = due; over = f ∷ [] })) (sym core)
    (settling_goes round told.seen.pieces told.seen.core f k whole.can.work begun due (brings told share is accepted whole.can)
    (left_quiet told.seen.source.model told.seen.core goes.left) goes.whole goes.marks was)

-- ---- how all begins

pub begins_all : (told one : ToldCore) (messages ranks : List ℕ) (next : List (List ℕ)) (begun order : List ℕ) (last : Going)
    → IsTold told → IsAccepted told.seen.source → AreWaysOf told.seen.source.model ranks next
    → told.seen.core ≡ start_in told.seen
    → HasGoneOn told one
    → ((m : ℕ) → m < length told.seen.source.model.messages → is_in m messages ≡ true)
    → one.seen.core ≡ with_frozen (round_in told.seen) told.seen.pieces messages told.seen.core
    → order ≡ model_order told.seen.source.model
    → last ≡ with_opened (round_in one.seen) one.seen.pieces ranks order (record { core = one.seen.core; due = []; over = [] })
    → ((f : ℕ) → slice_index begun f ≡ 0)
    → GoesOn told.seen.source.model begun [] [] last
begins_all told one messages ranks next begun order last is accepted ways new on all frozen ordered opened none =
    let model = told.seen.source.model in
    let round = gone_round told one on in
    let pieces = gone_pieces told one on in
    let core : one.seen.core ≡ with_frozen (round_in told.seen) told.seen.pieces messages (start_in told.seen) =
    frozen ∙ ap (with_frozen (round_in told.seen) told.seen.pieces messages) new in
    let known : Known (round_in told.seen) told.seen.pieces (start_in told.seen) = subst (Known (round_in told.seen) told.seen.pieces) new (told_known told is) in
    subst (GoesOn model begun [] [])
    (sym (opened ∙ (λ i. with_opened (round i) (pieces i) ranks (ordered i) (record { core = core i; due = []; over = [] }))))
    (opens_all (round_in told.seen) told.seen.pieces told.seen.world.agents ranks next begun messages is.some ways accepted.ordered all none known).0
