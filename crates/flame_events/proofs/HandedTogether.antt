-- The parts of a piece handed in one after another, and all at once.
use Rattle.std.proofs.Common.{◌≡◌, ℕ, zero, suc, ◌+◌, ◌<◌, ◌≤◌, Bool, true, false, cond, List, [], ◌∷◌, ◌++◌, length, map, Option, Some, None, refl, sym, ap, ◌∙◌, arith, subst, append-nil, append_assoc, one-add, set-set, get_or-set_same}
use Rattle.std.specs.Prelude.{◌==◌, not, is_some, slice_get, slice_set, slice_index_or}
use Rattle.std.specs.List.{list_all, position_or_len}
use Rattle.std.proofs.lemmas.Bool.{and_from, eq-eqb, false≢true, ne_eqb}
use Rattle.std.proofs.lemmas.List.Sums.{sum_by-cons}
use Rattle.flame_rows.specs.Bags.{merge}
use Rattle.flame_rows.proofs.Lists.{slice_get-slice_set, slice_set-read}
use Rattle.flame_spec.specs.Below.{times, HasNoTwice}
use Rattle.flame_spec.proofs.FirstBelow.{times-append}
use Rattle.flame_world.specs.Fields.{changed}
use Rattle.flame_world.specs.Iterations.{Round}
use Rattle.flame_events.specs.declared.events.Event.TheVariants as event
use Rattle.flame_events.specs.CoreStates.{Work, Waiting, Open, has_left, part_in, works_of, Core, status_of, work_of}
use Rattle.flame_events.specs.LegalEvents.{outputs_of, may_hand_in, is_legal}
use Rattle.flame_events.specs.EventSteps.{with_work, joined_board, handed_in, after, replay, are_legal}
use Rattle.flame_events.specs.HandedPieces.{hand_in_events, with_part, with_parts, PartsAreHandedInAtOnce}
use Rattle.flame_events.proofs.Weights.{Rows}
use Rattle.flame_events.proofs.Works.{past_end}
use Rattle.flame_events.proofs.Sound.{opens_with}
use Rattle.flame_events.proofs.CoreWidths.{status_below}

-- ---- places of outputs

abbrev Parts : Type 0
Parts = List (Option Rows)

abbrev nones : List ℕ → Parts
nones outs = map (λ output. None) outs

abbrev one_if : ℕ → ℕ → ℕ
one_if m output = cond (output == m) 1 0

times-cons : (m output : ℕ) (outs : List ℕ) → times m (output ∷ outs) ≡ one_if m output + times m outs
times-cons m output outs = sum_by-cons (one_if m) output outs

-- an output that does not stand in a list is no head of it
apart : (m output : ℕ) (outs : List ℕ) → times m (output ∷ outs) ≡ 0 → ((output == m) ≡ false) × (times m outs ≡ 0)
apart m output outs none = go (output == m) refl (sym (times-cons m output outs) ∙ none)
  where
    go : (b : Bool) → (output == m) ≡ b → cond b 1 0 + times m outs ≡ 0 → ((output == m) ≡ false) × (times m outs ≡ 0)
    go true is none = absurd (omega (arith, none))
    go false is none = (is, omega (arith, none))

place_behind : (m : ℕ) (before rest : List ℕ) → times m before ≡ 0 → position_or_len (λ output. output == m) (before ++ m ∷ rest) ≡ length before
place_behind m [] rest none = ap (λ b. cond (not b) (1 + position_or_len (λ output. output == m) rest) 0) (eq-eqb m m refl)
place_behind m (output ∷ before) rest none =
    let here = apart m output before none in
    ap (λ b. cond (not b) (1 + position_or_len (λ o. o == m) (before ++ m ∷ rest)) 0) here.0
    ∙ one-add (position_or_len (λ o. o == m) (before ++ m ∷ rest)) ∙ ap suc (place_behind m before rest here.1)

no_part : (m : ℕ) (outs : List ℕ) (parts : Parts) → times m outs ≡ 0 → length parts ≡ length outs → part_in outs parts m ≡ None
no_part m outs parts none long = past_end parts (position_or_len (λ output. output == m) outs) (omega (arith, nowhere outs none, long))
  where
    nowhere : (outs : List ℕ) → times m outs ≡ 0 → position_or_len (λ output. output == m) outs ≡ length outs
    nowhere [] none = refl
    nowhere (output ∷ outs) none =
        let here = apart m output outs none in
        ap (λ b. cond (not b) (1 + position_or_len (λ o. o == m) outs) 0) here.0
        ∙ one-add (position_or_len (λ o. o == m) outs) ∙ ap suc (nowhere outs here.1)

read_behind : (before : List ℕ) (part : Option Rows) (rest : Parts) → slice_index_or (nones before ++ part ∷ rest) (length before) None ≡ part
read_behind [] part rest = refl
read_behind (output ∷ before) part rest = read_behind before part rest

set_behind : (before : List ℕ) (m : ℕ) (part : Option Rows) (rest : Parts) → slice_set (nones before ++ part ∷ rest) (length before) None ≡ nones (before ++ m ∷ []) ++ rest
set_behind [] m part rest = refl
set_behind (output ∷ before) m part rest = ap (λ l. None ∷ l) (set_behind before m part rest)

-- ---- boards

part_same : (m : ℕ) (outs : List ℕ) (part : Option Rows) (parts : Parts) → part_in (m ∷ outs) (part ∷ parts) m ≡ part
part_same m outs part parts = ap (λ b. slice_index_or (part ∷ parts) (cond (not b) (1 + position_or_len (λ o. o == m) outs) 0) None) (eq-eqb m m refl)

part_else : (m i : ℕ) (outs : List ℕ) (part : Option Rows) (parts : Parts) → (m == i) ≡ false → part_in (m ∷ outs) (part ∷ parts) i ≡ part_in outs parts i
part_else m i outs part parts else =
    ap (λ b. slice_index_or (part ∷ parts) (cond (not b) (1 + position_or_len (λ o. o == i) outs) 0) None) else
    ∙ ap (λ k. slice_index_or (part ∷ parts) k None) (one-add (position_or_len (λ o. o == i) outs))

module _ (m : ℕ) (outs : List ℕ) (rows : Rows) (parts : Parts) (none : times m outs ≡ 0) (long : length parts ≡ length outs) where
  later : (i : ℕ) (boards : List Rows) → m < i → with_parts outs parts i boards ≡ with_parts (m ∷ outs) (Some rows ∷ parts) i boards
  later i [] less = refl
  later i (board ∷ boards) less =
      let here = ap (λ part. with_part part board) (sym (part_else m i outs (Some rows) parts (ne_eqb m i (λ same. absurd (omega (arith, same, less)))))) in
      let rest = later (i + 1) boards (omega (arith, less)) in
      λ j. here j ∷ rest j

  joined : (d i : ℕ) (boards : List Rows) → m ≡ i + d
      → with_parts outs parts i (changed d (λ board. merge board rows) boards) ≡ with_parts (m ∷ outs) (Some rows ∷ parts) i boards
  joined d i [] is = refl
  joined zero i (board ∷ boards) is =
      let same : m ≡ i = omega (arith, is) in
      let gone : with_part (part_in outs parts i) (merge board rows) ≡ merge board rows =
      ap (λ k. with_part (part_in outs parts k) (merge board rows)) (sym same) ∙ ap (λ part. with_part part (merge board rows)) (no_part m outs parts none long) in
      let there : with_part (part_in (m ∷ outs) (Some rows ∷ parts) i) board ≡ merge board rows =
      ap (λ k. with_part (part_in (m ∷ outs) (Some rows ∷ parts) k) board) (sym same) ∙ ap (λ part. with_part part board) (part_same m outs (Some rows) parts) in
      let here = gone ∙ sym there in
      let rest = later (i + 1) boards (omega (arith, same)) in
      λ j. here j ∷ rest j
  joined (suc d) i (board ∷ boards) is =
      let here = ap (λ part. with_part part board) (sym (part_else m i outs (Some rows) parts (ne_eqb m i (λ same. absurd (omega (arith, same, is)))))) in
      let rest = joined d (i + 1) boards (omega (arith, is)) in
      λ j. here j ∷ rest j

no_parts : (i : ℕ) (boards : List Rows) → with_parts [] [] i boards ≡ boards
no_parts i [] = refl
no_parts i (board ∷ boards) = ap (λ l. board ∷ l) (no_parts (i + 1) boards)

-- ---- a piece put back changes nothing

set_got : {X : Type 0} (xs : List X) (k : ℕ) (x : X) → slice_get xs k ≡ Some x → slice_set xs k x ≡ xs
set_got [] k x at = refl
set_got (y ∷ xs) zero x at = let same : y ≡ x = cc in ap (λ z. z ∷ xs) (sym same)
set_got (y ∷ xs) (suc k) x at = ap (λ l. y ∷ l) (set_got xs k x at)

put_back_work : (core : Core) (f k : ℕ) (work : Work) → work_of core f k ≡ Some work → with_work core f k work ≡ core.statuses
put_back_work core f k work at =
    let works = works_of (status_of core f) in
    ap (λ l. slice_set core.statuses f (Open l)) (set_got works k work at)
    ∙ slice_set-read core.statuses f (Open works) Waiting (status_below core f k work at) (opens_with (status_of core f) k work at)

-- ---- one after another

module _ (round : Round) (pieces f k : ℕ) where
  abbrev outs : List ℕ
  outs = outputs_of round.source.model f

  -- the core when these parts of the piece joined their boards, and it has these
  abbrev joined_all : List ℕ → Parts → Parts → Work → Core → Core
  joined_all rest parts left work core = record {
    statuses = with_work core f k (record work { parts = left });
    field = record core.field { boards = with_parts rest parts 0 core.field.boards };
    frozen = core.frozen;
  }

  record Handed (rest : List ℕ) (parts : Parts) (work : Work) (core : Core) : Type 0 where
    pub legal : are_legal round pieces core (hand_in_events rest f k) ≡ true
    pub left : replay round pieces core (hand_in_events rest f k) ≡ joined_all rest parts (nones outs) work core

  handed : (before rest : List ℕ) (parts : Parts) (work : Work) (core : Core) → work_of core f k ≡ Some work → has_left work ≡ false
      → outs ≡ before ++ rest → work.parts ≡ nones before ++ parts → length parts ≡ length rest → list_all is_some parts ≡ true → HasNoTwice outs
      → Handed rest parts work core
  handed before [] [] work core at over whole has long some once =
      let parts_is : work.parts ≡ nones outs = has ∙ append-nil (nones before) ∙ ap nones (sym (append-nil before) ∙ sym whole) in
      let statuses : core.statuses ≡ with_work core f k (record work { parts = nones outs }) =
      sym (put_back_work core f k work at) ∙ (λ i. with_work core f k (record work { parts = parts_is i })) in
      let boards : core.field.boards ≡ with_parts [] [] 0 core.field.boards = sym (no_parts 0 core.field.boards) in
      record {
        legal = refl;
        left = λ i. record { statuses = statuses i; field = record core.field { boards = boards i }; frozen = core.frozen };
      }
  handed before [] (part ∷ parts) work core at over whole has long some once = absurd (omega (arith, long))
  handed before (m ∷ rest) [] work core at over whole has long some once = absurd (omega (arith, long))
  handed before (m ∷ rest) (None ∷ parts) work core at over whole has long some once = absurd (false≢true some)
  handed before (m ∷ rest) (Some rows ∷ parts) work core at over whole has long some once =
      let counted : times m before + times m (m ∷ rest) ≤ 1 = subst (λ n. n ≤ 1) (ap (times m) whole ∙ times-append m before (m ∷ rest)) (once m) in
      let one : one_if m m ≡ 1 = ap (λ (b : Bool). let n : ℕ = cond b 1 0 in n) (eq-eqb m m refl) in
      let early : times m before ≡ 0 = omega (arith, counted, times-cons m m rest, one) in
      let late : times m rest ≡ 0 = omega (arith, counted, times-cons m m rest, one) in
      let more : length parts ≡ length rest = omega (arith, long) in
      let place : position_or_len (λ output. output == m) outs ≡ length before =
      ap (position_or_len (λ output. output == m)) whole ∙ place_behind m before rest early in
      let part_is : part_in outs work.parts m ≡ Some rows =
      (λ i. slice_index_or (has i) (place i) None) ∙ read_behind before (Some rows) parts in
      let next : Work = record work { parts = slice_set work.parts (position_or_len (λ output. output == m) outs) None } in
      let next_has : next.parts ≡ nones (before ++ m ∷ []) ++ parts =
      (λ i. slice_set (has i) (place i) None) ∙ set_behind before m (Some rows) parts in
      let middle : Core = joined_board f k m outs work (Some rows) core in
      let step : after round pieces core (event.HandIn f k m) ≡ middle =
      ap (λ o. handed_in f k m outs o core) at ∙ ap (λ o. joined_board f k m outs work o core) part_is in
      let works = works_of (status_of core f) in
      let below = status_below core f k work at in
      let again : work_of middle f k ≡ Some next =
      ap (λ s. slice_get (works_of s) k) (get_or-set_same core.statuses f (Open (slice_set works k next)) Waiting below) ∙ slice_get-slice_set works k next work at in
      let tail = handed (before ++ m ∷ []) rest parts next middle again over (whole ∙ sym (append_assoc before (m ∷ []) rest)) next_has more some once in
      let last : Work = record work { parts = nones outs } in
      let statuses : with_work middle f k last ≡ with_work core f k last =
      ap (λ s. slice_set (slice_set core.statuses f (Open (slice_set works k next))) f (Open (slice_set (works_of s) k last)))
      (get_or-set_same core.statuses f (Open (slice_set works k next)) Waiting below)
      ∙ set-set core.statuses f (Open (slice_set works k next)) (Open (slice_set (slice_set works k next) k last))
      ∙ ap (λ l. slice_set core.statuses f (Open l)) (set-set works k next last) in
      let boards : with_parts rest parts 0 (changed m (λ board. merge board rows) core.field.boards) ≡ with_parts (m ∷ rest) (Some rows ∷ parts) 0 core.field.boards =
      joined m rest rows parts late more m 0 core.field.boards (omega arith) in
      let may : may_hand_in outs (Some work) m ≡ true = and_from (not (has_left work)) (is_some (part_in outs work.parts m)) (ap not over) (ap is_some part_is) in
      record {
        legal = and_from (is_legal round.source.model core (event.HandIn f k m)) (are_legal round pieces (after round pieces core (event.HandIn f k m)) (hand_in_events rest f k))
            (ap (λ o. may_hand_in outs o m) at ∙ may)
            (ap (λ c. are_legal round pieces c (hand_in_events rest f k)) step ∙ tail.legal);
        left = ap (λ c. replay round pieces c (hand_in_events rest f k)) step ∙ tail.left
            ∙ (λ i. record { statuses = statuses i; field = record core.field { boards = boards i }; frozen = core.frozen });
      }

pub parts_are_handed_in_at_once : PartsAreHandedInAtOnce
parts_are_handed_in_at_once round pieces f k work core at over long some once =
    let outs = outputs_of round.source.model f in
    let all = handed round pieces f k [] outs work.parts work core at over refl refl long some once in
    (all.legal, all.left)
