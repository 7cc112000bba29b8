-- What holds of a core holds when messages are handed in.
use Rattle.std.proofs.Common.{◌≡◌, ℕ, ◌+◌, ◌<◌, ⊎_elim, true, false, cond, List, [], length, Option, Some, None, refl, sym, ap, ◌∙◌, arith, subst}
use Rattle.std.specs.Prelude.{◌==◌, slice_set, slice_index_or, is_none}
use Rattle.std.proofs.lemmas.Bool.{cases_eq, eq-eqb, ne_eqb, and_parts, not-true, true≢false}
use Rattle.std.proofs.lemmas.Option.{slice_get_within}
use Rattle.flame_rows.specs.Order.{row_order}
use Rattle.flame_rows.specs.Sorted.{IsAscending}
use Rattle.flame_rows.specs.Bags.{merge, weigh}
use Rattle.flame_rows.proofs.BagLaws.{weigh-append, weigh-ascending, merge_adds_weights, IsAscending-merge}
use Rattle.flame_rows.proofs.Lists.{slice_get-some}
use Rattle.flame_spec.specs.Below.{is_in}
use Rattle.flame_spec.specs.Functions.{functions}
use Rattle.flame_world.specs.Fields.{Field, changed}
use Rattle.flame_world.specs.Iterations.{Round}
use Rattle.flame_meaning.specs.Outcomes.{outputs_at}
use Rattle.flame_events.specs.CoreStates.{Work, Status, Open, is_waiting, is_shut, works_of, has_left, part_in, Core, status_of, work_of}
use Rattle.flame_events.specs.LegalEvents.{outputs_of, may_hand_in}
use Rattle.flame_events.specs.EventSteps.{joined_board, handed_in as after_hand_in}
use Rattle.flame_events.proofs.Weights.{Rows, Weight}
use Rattle.flame_events.proofs.Spots.{Spot, output_named, same_spot, enters, pool_at}
use Rattle.flame_events.proofs.Holding.{Ideal, lived, sent, born, sent-append}
use Rattle.flame_events.proofs.Pools.{changed-here, changed-else}
use Rattle.flame_events.proofs.Moves.{put, put-else, Adds, holds-more}
use Rattle.flame_events.proofs.Works.{its_ran, its_agents, its_handed, ran_rows, handed_rows, PieceFits, gather_set, gather_same, each_set, kept_is_output, without, part_in-without, part_in-without-else, fits_part}
use Rattle.flame_events.proofs.Sound.{still_in, ran_in, handed_in, Sound, sound_change}
use Rattle.flame_events.proofs.Running.{IsOpen, is_open, at_new, nothing_of}
use Rattle.flame_world.proofs.Counting.{length-changed}

-- ---- messages are handed in

module _ (round : Round) (start : Spot → Rows) (t : Ideal) (core : Core) (f k m : ℕ) (work : Work) (rows : Rows)
    (h : Sound round start t core) (at : work_of core f k ≡ Some work) (over : has_left work ≡ false)
    (part : part_in (outputs_of round.source.model f) work.parts m ≡ Some rows) where
  abbrev outs : List ℕ
  outs = outputs_of round.source.model f

  abbrev works : List Work
  works = works_of (status_of core f)

  abbrev q : Work
  q = without outs m work

  abbrev v : Status
  v = Open (slice_set works k q)

  abbrev b : Field
  b = record core.field { boards = changed m (λ board. merge board rows) core.field.boards }

  now : IsOpen round t core f k work
  now = is_open round start t core f k work h at

  writes : is_in m outs ≡ true
  writes = kept_is_output outs work.parts m rows now.fit.long part

  message_there : m < length round.source.model.messages
  message_there =
      let place = slice_get-some (functions round.source.model) f now.below in
      let output = output_named round.source.model place.0 m (sym (ap (λ o. is_in m (outputs_at o round.source.model)) place.1) ∙ writes) in
      slice_get_within round.source.model.messages m output.named.message output.named.there

  board_there : m < length core.field.boards
  board_there = omega (arith, message_there, h.holds.shape.boards)

  abbrev part_of : ℕ → Rows
  part_of i = cond (i == m) rows []

  board_more : (i : ℕ) (w : Weight)
      → weigh w (slice_index_or (changed m (λ board. merge board rows) core.field.boards) i [])
      ≡ weigh w (slice_index_or core.field.boards i []) + weigh w (cond (is_in i outs) (part_of i) [])
  board_more i w = ⊎_elim
      (λ (same : i ≡ m).
      ap (λ n. weigh w (slice_index_or (changed m (λ board. merge board rows) core.field.boards) n [])) same
      ∙ ap (weigh w) (changed-here m (λ board. merge board rows) [] core.field.boards board_there)
      ∙ merge_adds_weights w (slice_index_or core.field.boards m []) rows
      ∙ ap (λ n. weigh w (slice_index_or core.field.boards n []) + weigh w rows) (sym same)
      ∙ ap (λ l. weigh w (slice_index_or core.field.boards i []) + weigh w l)
      (ap (λ b. cond b rows []) (sym (eq-eqb i m same)) ∙ ap (λ b. cond b (part_of i) []) (sym (ap (λ n. is_in n outs) same ∙ writes))))
      (λ (apart : i ≡ m → ⊥).
      ap (weigh w) (changed-else m i (λ board. merge board rows) [] core.field.boards apart)
      ∙ nothing_of (is_in i outs) w (weigh w (slice_index_or core.field.boards i []))
      ∙ ap (λ b. weigh w (slice_index_or core.field.boards i []) + weigh w (cond (is_in i outs) (cond b rows []) [])) (sym (ne_eqb i m apart)))
      (cases_eq i m)

  board_up : (i : ℕ) → IsAscending row_order (slice_index_or (changed m (λ board. merge board rows) core.field.boards) i [])
  board_up i = ⊎_elim
      (λ (same : i ≡ m). subst (λ n. IsAscending row_order (slice_index_or (changed m (λ board. merge board rows) core.field.boards) n [])) (sym same)
      (subst (IsAscending row_order) (sym (changed-here m (λ board. merge board rows) [] core.field.boards board_there)) (IsAscending-merge (slice_index_or core.field.boards m []) rows)))
      (λ (apart : i ≡ m → ⊥). subst (IsAscending row_order) (sym (changed-else m i (λ board. merge board rows) [] core.field.boards apart)) (h.holds.boards_up i))
      (cases_eq i m)

  ran_same : ran_rows (t.agents f) (put (status_of core) f v f) ≡ ran_rows (t.agents f) (status_of core f)
  ran_same =
      at_new (ran_rows (t.agents f)) core f v ∙ gather_same its_ran works k work q at refl ∙ ap (ran_rows (t.agents f)) (sym now.is)

  handed_more : (i : ℕ) (w : Weight) → is_in i outs ≡ true
      → weigh w (sent t f i (its_handed outs i q)) ≡ weigh w (sent t f i (its_handed outs i work)) + weigh w (part_of i)
  handed_more i w is = ⊎_elim
      (λ (same : i ≡ m).
      let none : is_none (part_in outs q.parts i) ≡ true = ap (λ n. is_none (part_in outs q.parts n)) same ∙ ap is_none (part_in-without outs m work) in
      let some : is_none (part_in outs work.parts i) ≡ false = ap (λ n. is_none (part_in outs work.parts n)) same ∙ ap is_none part in
      let new : weigh w (sent t f i (its_handed outs i q)) ≡ weigh w (sent t f i (its_ran work)) = ap (λ b. weigh w (sent t f i (cond b (its_ran work) []))) none in
      let old : weigh w (sent t f i (its_handed outs i work)) ≡ 0 = ap (λ b. weigh w (sent t f i (cond b (its_ran work) []))) some in
      let all : weigh w rows ≡ weigh w (sent t f i (its_ran work)) =
      ap (weigh w) (now.fit.kept m rows writes part) ∙ weigh-ascending w (sent t f m (its_ran work)) ∙ ap (λ n. weigh w (sent t f n (its_ran work))) (sym same) in
      let here : weigh w (part_of i) ≡ weigh w rows = ap (λ b. weigh w (cond b rows [])) (eq-eqb i m same) in
      omega (arith, new, old, all, here))
      (λ (apart : i ≡ m → ⊥).
      let stays : its_handed outs i q ≡ its_handed outs i work = ap (λ o. cond (is_none o) (its_ran work) []) (part_in-without-else outs m i work writes is apart) in
      let here : weigh w (part_of i) ≡ 0 = ap (λ b. weigh w (cond b rows [])) (ne_eqb i m apart) in
      omega (arith, ap (λ l. weigh w (sent t f i l)) stays, here))
      (cases_eq i m)

  joins : Adds round t f core.field b (still_in core)
      (ran_in t core) (λ g. ran_rows (t.agents g) (put (status_of core) f v g))
      (handed_in round.source.model t core) (λ i g. handed_rows (outputs_of round.source.model g) i (t.agents g) (put (status_of core) f v g))
      [] part_of (λ n. [])
  joins = record {
    pools = λ p w. nothing_of (same_spot (enters round.source.model f) p) w (weigh w (pool_at round.source.model core.field.pools p));
    boards = λ i w less. board_more i w;
    births = λ n w less. omega arith;
    pools_up = h.holds.pools_up;
    boards_up = board_up;
    born_up = h.holds.born_up;
    shape = record {
      pools = h.holds.shape.pools;
      born = h.holds.shape.born;
      boards = length-changed m (λ board. merge board rows) core.field.boards ∙ h.holds.shape.boards;
    };
    ran_else = λ g apart. ap (ran_rows (t.agents g)) (put-else (status_of core) f v g apart);
    handed_else = λ i g apart. ap (handed_rows (outputs_of round.source.model g) i (t.agents g)) (put-else (status_of core) f v g apart);
    lived_more = λ w. ap (λ l. weigh w (lived t f l)) ran_same ∙ omega arith;
    sent_more = λ i w is.
        at_new (λ s. weigh w (sent t f i (handed_rows outs i (t.agents f) s))) core f v
        ∙ gather_set (λ l. weigh w (sent t f i l)) (λ xs ys. ap (weigh w) (sent-append t f i xs ys) ∙ weigh-append w (sent t f i xs) (sent t f i ys))
        (its_handed outs i) (weigh w (part_of i)) works k work q at (handed_more i w is)
        ∙ ap (λ s. weigh w (sent t f i (handed_rows outs i (t.agents f) s)) + weigh w (part_of i)) (sym now.is);
    born_more = λ n w. ap (λ l. weigh w (born t f n l)) ran_same ∙ omega arith;
    arrive = λ w. refl;
  }

  pub sound_part : Sound round start t (joined_board f k m (outputs_of round.source.model f) work (Some rows) core)
  sound_part =
      sound_change round start t core f v b h now.below
      (ap is_waiting (sym now.is)) (λ e. absurd (true≢false (sym e ∙ ap is_shut now.is)))
      (record {
        whole = gather_same its_agents works k work q at refl ∙ now.fits.whole;
        each = each_set (PieceFits round t f) works k q now.fits.each (fits_part round t f m work now.fit writes over);
      })
      (holds-more round start t f core.field b (still_in core)
      (ran_in t core) (λ g. ran_rows (t.agents g) (put (status_of core) f v g))
      (handed_in round.source.model t core) (λ i g. handed_rows (outputs_of round.source.model g) i (t.agents g) (put (status_of core) f v g))
      [] part_of (λ n. []) h.holds now.below joins)

sound_board : (round : Round) (start : Spot → Rows) (t : Ideal) (core : Core) (f k m : ℕ) (work : Work) (part : Option Rows)
    → Sound round start t core → work_of core f k ≡ Some work → has_left work ≡ false
    → part_in (outputs_of round.source.model f) work.parts m ≡ part
    → Sound round start t (joined_board f k m (outputs_of round.source.model f) work part core)
sound_board round start t core f k m work None h at over part = h
sound_board round start t core f k m work (Some rows) h at over part = sound_part round start t core f k m work rows h at over part

pub sound_hand_in : (round : Round) (start : Spot → Rows) (t : Ideal) (core : Core) (f k m : ℕ) (work : Option Work)
    → Sound round start t core → work_of core f k ≡ work → may_hand_in (outputs_of round.source.model f) work m ≡ true
    → Sound round start t (after_hand_in f k m (outputs_of round.source.model f) work core)
sound_hand_in round start t core f k m None h at legal = h
sound_hand_in round start t core f k m (Some work) h at legal =
    let both = and_parts _ _ legal in
    sound_board round start t core f k m work (part_in (outputs_of round.source.model f) work.parts m) h at (not-true (has_left work) both.0) refl
