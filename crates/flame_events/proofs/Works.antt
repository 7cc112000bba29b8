-- The pieces of an open function.
use Rattle.std.proofs.Common.{◌≡◌, ℕ, zero, suc, ◌+◌, ◌<◌, ◌≤◌, ⊎_elim, Bool, true, false, cond, List, [], ◌∷◌, ◌++◌, length, map, take, get_or, Option, Some, None, refl, sym, ap, ◌∙◌, arith, append-nil, take_all, length-set, get_or-set_other, one-add}
use Rattle.std.specs.Prelude.{not, ◌==◌, ◌||◌, slice_get, slice_set, slice_index_or, is_none, option_map}
use Rattle.std.specs.Option.{option_or}
use Rattle.std.specs.List.{filter_map, flat_map, list_all, position_or_len}
use Rattle.std.proofs.lemmas.Bool.{cases_eq, cases_lt, eqb-true, and_parts, ltb-false, lt-ltb, false≢true}
use Rattle.std.proofs.lemmas.List.{take_more}
use Rattle.std.proofs.lemmas.List.Elements.{filter_map-append}
use Rattle.std.proofs.lemmas.Option.{slice_get_within, same_Some, none-some}
use Rattle.flame_rows.specs.Bags.{ascending, merge, weigh}
use Rattle.flame_rows.proofs.BagLaws.{IsAscending-ascending, weigh-append, weigh-ascending, merge_adds_weights, equal_by_weighings, IsAscending-merge}
use Rattle.flame_spec.specs.declared.outcomes.Sent.{Sent}
use Rattle.flame_spec.specs.Below.{is_in}
use Rattle.flame_spec.specs.Lists.{first}
use Rattle.flame_spec.proofs.Numbered.{first-cons_option, first-cons_option_nil}
use Rattle.flame_meaning.specs.RangeLaws.{Each}
use Rattle.flame_world.specs.declared.faults.SimFault.{SimFault}
use Rattle.flame_world.specs.AgentRuns.{sent_by, fault_by, messages_of, least_fault}
use Rattle.flame_world.specs.Iterations.{Round}
use Rattle.flame_rows.specs.Cuts.{cut}
use Rattle.flame_events.specs.CoreStates.{Work, Status, Waiting, Open, Shut, Faulted, has_left, part_in, fault_in}
use Rattle.flame_events.specs.LegalEvents.{outputs_of, is_over}
use Rattle.flame_events.specs.EventSteps.{fresh_work, with_sent, with_agent, done_with}
use Rattle.flame_events.proofs.EvenCuts.{cuts_are_even}
use Rattle.flame_events.proofs.Weights.{Row, Rows}
use Rattle.flame_events.proofs.Holding.{Ideal, sent, sent-append}
use Rattle.flame_events.proofs.Serial.{should_fault, is_in-cases}

-- ---- rows of pieces

abbrev pub its_ran : Work → Rows
its_ran work = take work.ran work.agents

abbrev pub its_agents : Work → Rows
its_agents work = work.agents

-- those whose messages for an output are handed in
abbrev pub its_handed : List ℕ → ℕ → Work → Rows
its_handed outs m work = cond (is_none (part_in outs work.parts m)) (its_ran work) []

abbrev pub ran_rows : Rows → Status → Rows
ran_rows agents Waiting = []
ran_rows agents (Open works) = flat_map its_ran works
ran_rows agents Shut = agents
ran_rows agents (Faulted fault) = agents

abbrev pub handed_rows : List ℕ → ℕ → Rows → Status → Rows
handed_rows outs m agents Waiting = []
handed_rows outs m agents (Open works) = flat_map (its_handed outs m) works
handed_rows outs m agents Shut = agents
handed_rows outs m agents (Faulted fault) = agents

-- ---- what holds of a piece

pub record PieceFits (round : Round) (t : Ideal) (f : ℕ) (work : Work) : Type 0 where
  pub long : length work.parts ≡ length (outputs_of round.source.model f)
  pub kept : (m : ℕ) (rows : Rows) → is_in m (outputs_of round.source.model f) ≡ true
      → part_in (outputs_of round.source.model f) work.parts m ≡ Some rows → rows ≡ ascending (sent t f m (its_ran work))
  pub gone : (m : ℕ) → is_in m (outputs_of round.source.model f) ≡ true
      → part_in (outputs_of round.source.model f) work.parts m ≡ None → has_left work ≡ false
  pub fault : work.fault ≡ least_fault round.iteration f (t.run f) (its_ran work)

pub record OpenFits (round : Round) (t : Ideal) (f : ℕ) (works : List Work) : Type 0 where
  pub whole : flat_map its_agents works ≡ t.agents f
  pub each : Each (PieceFits round t f) works

abbrev pub Fits : Round → Ideal → ℕ → Status → Type 0
Fits round t f Waiting = Unit {0}
Fits round t f (Open works) = OpenFits round t f works
Fits round t f Shut = should_fault round t f ≡ None
Fits round t f (Faulted fault) = should_fault round t f ≡ Some fault

-- ---- one piece changed

pub gather_set : (F : Rows → ℕ) → ((xs ys : Rows) → F (xs ++ ys) ≡ F xs + F ys)
    → (h : Work → Rows) (more : ℕ) (works : List Work) (k : ℕ) (p q : Work) → slice_get works k ≡ Some p
    → F (h q) ≡ F (h p) + more → F (flat_map h (slice_set works k q)) ≡ F (flat_map h works) + more
gather_set F add h more [] k p q at new = absurd (none-some p at)
gather_set F add h more (w ∷ works) zero p q at new =
    let same : F (h w) ≡ F (h p) = ap (λ v. F (h v)) (same_Some w p at) in
    omega (arith, new, same, add (h q) (flat_map h works), add (h w) (flat_map h works))
gather_set F add h more (w ∷ works) (suc k) p q at new =
    omega (arith, gather_set F add h more works k p q at new, add (h w) (flat_map h works), add (h w) (flat_map h (slice_set works k q)))

pub gather_same : (h : Work → Rows) (works : List Work) (k : ℕ) (p q : Work) → slice_get works k ≡ Some p → h q ≡ h p
    → flat_map h (slice_set works k q) ≡ flat_map h works
gather_same h [] k p q at same = refl
gather_same h (w ∷ works) zero p q at same = ap (λ l. l ++ flat_map h works) (same ∙ ap h (sym (same_Some w p at)))
gather_same h (w ∷ works) (suc k) p q at same = ap (λ l. h w ++ l) (gather_same h works k p q at same)

pub each_set : {X : Type 0} (P : X → Type 0) (xs : List X) (k : ℕ) (x : X) → Each P xs → P x → Each P (slice_set xs k x)
each_set P [] k x all new = tt
each_set P (y ∷ xs) zero x all new = (new, all.1)
each_set P (y ∷ xs) (suc k) x all new = (all.0, each_set P xs k x all.1 new)

-- ---- parts by output

-- an output of the list has a place in it, and what stands there is the output
pub place_in : (m : ℕ) (outs : List ℕ) → is_in m outs ≡ true
    → (position_or_len (λ output. output == m) outs < length outs) × (slice_index_or outs (position_or_len (λ output. output == m) outs) 0 ≡ m)
place_in m [] within = absurd (false≢true within)
place_in m (output ∷ outs) within =
    (elim (output == m) as (λ t. (output == m) ≡ t → (t || is_in m outs) ≡ true
    → (cond (not t) (1 + position_or_len (λ o. o == m) outs) 0 < suc (length outs))
    × (slice_index_or (output ∷ outs) (cond (not t) (1 + position_or_len (λ o. o == m) outs) 0) 0 ≡ m)) [
      | true ↦ λ same _. (omega arith, eqb-true output m same)
      | false ↦ λ _ later.
          let rest = place_in m outs later in
          (omega (arith, rest.0), ap (λ k. slice_index_or (output ∷ outs) k 0) (one-add (position_or_len (λ o. o == m) outs)) ∙ rest.1)
    ])
    refl within

-- where a place is within, the number is an output
pub in_place : (m : ℕ) (outs : List ℕ) → position_or_len (λ output. output == m) outs < length outs → is_in m outs ≡ true
in_place m [] less = absurd (omega (arith, less))
in_place m (output ∷ outs) less =
    (elim (output == m) as (λ t. cond (not t) (1 + position_or_len (λ o. o == m) outs) 0 < suc (length outs) → (t || is_in m outs) ≡ true) [
      | true ↦ λ within. refl
      | false ↦ λ within. in_place m outs (omega (arith, within))
    ])
    less

pub past_end : (parts : List (Option Rows)) (k : ℕ) → length parts ≤ k → slice_index_or parts k None ≡ None
past_end [] k over = refl
past_end (part ∷ parts) zero over = absurd (omega (arith, over))
past_end (part ∷ parts) (suc k) over = past_end parts k (omega (arith, over))

pub kept_is_output : (outs : List ℕ) (parts : List (Option Rows)) (m : ℕ) (rows : Rows)
    → length parts ≡ length outs → part_in outs parts m ≡ Some rows → is_in m outs ≡ true
kept_is_output outs parts m rows long at = ⊎_elim
    (λ (less : position_or_len (λ output. output == m) outs < length outs). in_place m outs less)
    (λ (over : length outs ≤ position_or_len (λ output. output == m) outs).
    absurd (none_some rows (sym (past_end parts (position_or_len (λ output. output == m) outs) (omega (arith, over, long))) ∙ at)))
    (cases_lt (position_or_len (λ output. output == m) outs) (length outs))
  where
    none_some : (rows : Rows) → None ≡ Some rows → ⊥
    none_some rows e = cc

-- ---- messages join the parts

pub length-with_sent : (outs : List ℕ) (messages : List Sent) (parts : List (Option Rows)) → length parts ≡ length outs → length (with_sent outs messages parts) ≡ length outs
length-with_sent [] messages [] long = refl
length-with_sent [] messages (part ∷ parts) long = absurd (omega (arith, long))
length-with_sent (output ∷ outs) messages [] long = absurd (omega (arith, long))
length-with_sent (output ∷ outs) messages (part ∷ parts) long = ap suc (length-with_sent outs messages parts (omega (arith, long)))

abbrev pub more_of : List Sent → ℕ → Option Rows → Option Rows
more_of messages m part = option_map (λ rows. merge rows (messages_of messages m)) part

pub part_in-with_sent : (outs : List ℕ) (messages : List Sent) (parts : List (Option Rows)) (m : ℕ) → is_in m outs ≡ true
    → part_in outs (with_sent outs messages parts) m ≡ more_of messages m (part_in outs parts m)
part_in-with_sent [] messages parts m within = absurd (false≢true within)
part_in-with_sent (output ∷ outs) messages [] m within = refl
part_in-with_sent (output ∷ outs) messages (part ∷ parts) m within =
    (elim (output == m) as (λ t. (output == m) ≡ t → (t || is_in m outs) ≡ true
    → slice_index_or (more_of messages output part ∷ with_sent outs messages parts) (cond (not t) (1 + position_or_len (λ o. o == m) outs) 0) None
    ≡ more_of messages m (slice_index_or (part ∷ parts) (cond (not t) (1 + position_or_len (λ o. o == m) outs) 0) None)) [
      | true ↦ λ same _. ap (λ k. more_of messages k part) (eqb-true output m same)
      | false ↦ λ _ later.
          let next = one-add (position_or_len (λ o. o == m) outs) in
          ap (λ k. slice_index_or (more_of messages output part ∷ with_sent outs messages parts) k None) next
          ∙ part_in-with_sent outs messages parts m later
          ∙ ap (λ k. more_of messages m (slice_index_or (part ∷ parts) k None)) (sym next)
    ])
    refl within

pub sent_more : (t : Ideal) (f m : ℕ) (ran : Rows) (memory : Row)
    → merge (ascending (sent t f m ran)) (messages_of (sent_by (t.run f memory)) m) ≡ ascending (sent t f m (ran ++ memory ∷ []))
sent_more t f m ran memory =
    let old = sent t f m ran in
    let new = messages_of (sent_by (t.run f memory)) m in
    let one : sent t f m (memory ∷ []) ≡ new = ap (λ l. messages_of l m) (append-nil (sent_by (t.run f memory))) in
    equal_by_weighings (merge (ascending old) new) (ascending (sent t f m (ran ++ memory ∷ [])))
    (IsAscending-merge (ascending old) new) (IsAscending-ascending (sent t f m (ran ++ memory ∷ [])))
    (λ w.
    merge_adds_weights w (ascending old) new
    ∙ ap (λ n. n + weigh w new) (weigh-ascending w old)
    ∙ ap (λ l. weigh w old + weigh w l) (sym one)
    ∙ sym (weigh-append w old (sent t f m (memory ∷ [])))
    ∙ ap (weigh w) (sym (sent-append t f m ran (memory ∷ [])))
    ∙ sym (weigh-ascending w (sent t f m (ran ++ memory ∷ []))))

-- ---- faults

first-append : (xs ys : List SimFault) → first (xs ++ ys) ≡ option_or (first xs) (first ys)
first-append [] ys = refl
first-append (x ∷ xs) ys = refl

pub least_fault-append : (round : Round) (t : Ideal) (f : ℕ) (xs ys : Rows)
    → least_fault round.iteration f (t.run f) (xs ++ ys) ≡ option_or (least_fault round.iteration f (t.run f) xs) (least_fault round.iteration f (t.run f) ys)
least_fault-append round t f xs ys =
    let faults = λ (rows : Rows). filter_map (λ memory. fault_by round.iteration f memory (t.run f memory)) rows in
    ap first (filter_map-append (λ memory. fault_by round.iteration f memory (t.run f memory)) xs ys) ∙ first-append (faults xs) (faults ys)

pub fault_in-fits : (round : Round) (t : Ideal) (f : ℕ) (works : List Work) → Each (PieceFits round t f) works
    → fault_in works ≡ least_fault round.iteration f (t.run f) (flat_map its_ran works)
fault_in-fits round t f [] all = refl
fault_in-fits round t f (work ∷ works) all =
    let here = all.0.fault in
    let rest = fault_in-fits round t f works all.1 in
    first-cons_option work.fault (filter_map (λ (w : Work). w.fault) works)
    ∙ (λ i. option_or (here i) (rest i))
    ∙ sym (least_fault-append round t f (its_ran work) (flat_map its_ran works))

-- ---- one agent more

pub take_next : (rows : Rows) (i : ℕ) (row : Row) → slice_get rows i ≡ Some row → take (i + 1) rows ≡ take i rows ++ row ∷ []
take_next rows i row at = take_more rows i row (slice_get_within rows i row at) ∙ ap (λ r. take i rows ++ r ∷ []) (read rows i row at)
  where
    read : (rows : Rows) (i : ℕ) (row : Row) → slice_get rows i ≡ Some row → get_or rows i row ≡ row
    read [] i row at = absurd cc
    read (r ∷ rows) zero row at = cc
    read (r ∷ rows) (suc i) row at = read rows i row at

none_left_else : (work : Work) (memory : Row) → slice_get work.agents work.ran ≡ Some memory → has_left work ≡ true
none_left_else work memory at = lt-ltb work.ran (length work.agents) (slice_get_within work.agents work.ran memory at)

pub fits_agent : (round : Round) (t : Ideal) (f : ℕ) (work : Work) (memory : Row) → PieceFits round t f work → slice_get work.agents work.ran ≡ Some memory
    → PieceFits round t f (with_agent round f work memory (t.run f memory))
fits_agent round t f work memory fits at =
    let outs = outputs_of round.source.model f in
    let next = take_next work.agents work.ran memory at in
    let messages = sent_by (t.run f memory) in
    record {
      long = length-with_sent outs messages work.parts fits.long;
      kept = λ m rows within is.
          kept_by m (part_in outs work.parts m) refl rows within (sym (part_in-with_sent outs messages work.parts m within) ∙ is);
      gone = λ m within none.
          absurd (gone_by m (part_in outs work.parts m) refl within (sym (part_in-with_sent outs messages work.parts m within) ∙ none));
      fault =
          ap (λ o. option_or o (fault_by round.iteration f memory (t.run f memory))) fits.fault
          ∙ ap (option_or (least_fault round.iteration f (t.run f) (its_ran work))) (sym (first-cons_option_nil (fault_by round.iteration f memory (t.run f memory))))
          ∙ sym (least_fault-append round t f (its_ran work) (memory ∷ []))
          ∙ ap (least_fault round.iteration f (t.run f)) (sym next);
    }
  where
    kept_by : (m : ℕ) (o : Option Rows) → part_in (outputs_of round.source.model f) work.parts m ≡ o → (rows : Rows)
        → is_in m (outputs_of round.source.model f) ≡ true → more_of (sent_by (t.run f memory)) m o ≡ Some rows
        → rows ≡ ascending (sent t f m (take (work.ran + 1) work.agents))
    kept_by m None is rows within some = absurd cc
    kept_by m (Some old) is rows within some =
        let same : merge old (messages_of (sent_by (t.run f memory)) m) ≡ rows = cc in
        sym same
        ∙ ap (λ l. merge l (messages_of (sent_by (t.run f memory)) m)) (fits.kept m old within is)
        ∙ sent_more t f m (its_ran work) memory
        ∙ ap (λ l. ascending (sent t f m l)) (sym (take_next work.agents work.ran memory at))

    gone_by : (m : ℕ) (o : Option Rows) → part_in (outputs_of round.source.model f) work.parts m ≡ o
        → is_in m (outputs_of round.source.model f) ≡ true → more_of (sent_by (t.run f memory)) m o ≡ None → ⊥
    gone_by m None is within none = false≢true (sym (fits.gone m within is) ∙ none_left_else work memory at)
    gone_by m (Some old) is within none = cc

-- while an agent is left, nothing is handed in, and it stays so when one ran
pub handed_agent : (round : Round) (t : Ideal) (f m : ℕ) (work : Work) (memory : Row) → PieceFits round t f work → slice_get work.agents work.ran ≡ Some memory
    → is_in m (outputs_of round.source.model f) ≡ true
    → its_handed (outputs_of round.source.model f) m (with_agent round f work memory (t.run f memory)) ≡ its_handed (outputs_of round.source.model f) m work
handed_agent round t f m work memory fits at within =
    let outs = outputs_of round.source.model f in
    let messages = sent_by (t.run f memory) in
    ap (λ o. cond (is_none o) (take (work.ran + 1) work.agents) []) (part_in-with_sent outs messages work.parts m within)
    ∙ by (part_in outs work.parts m) refl
  where
    by : (o : Option Rows) → part_in (outputs_of round.source.model f) work.parts m ≡ o
        → cond (is_none (more_of (sent_by (t.run f memory)) m o)) (take (work.ran + 1) work.agents) [] ≡ cond (is_none o) (its_ran work) []
    by None is = absurd (false≢true (sym (fits.gone m within is) ∙ none_left_else work memory at))
    by (Some old) is = refl

-- ---- a part handed in

abbrev pub without : List ℕ → ℕ → Work → Work
without outs m work = record work { parts = slice_set work.parts (position_or_len (λ output. output == m) outs) None }

none_there : (parts : List (Option Rows)) (k : ℕ) → slice_index_or (slice_set parts k None) k None ≡ None
none_there [] k = refl
none_there (part ∷ parts) zero = refl
none_there (part ∷ parts) (suc k) = none_there parts k

pub part_in-without : (outs : List ℕ) (m : ℕ) (work : Work) → part_in outs (without outs m work).parts m ≡ None
part_in-without outs m work = none_there work.parts (position_or_len (λ output. output == m) outs)

pub part_in-without-else : (outs : List ℕ) (m other : ℕ) (work : Work) → is_in m outs ≡ true → is_in other outs ≡ true → (other ≡ m → ⊥)
    → part_in outs (without outs m work).parts other ≡ part_in outs work.parts other
part_in-without-else outs m other work one two apart =
    get_or-set_other work.parts (position_or_len (λ output. output == m) outs) (position_or_len (λ output. output == other) outs) None None
    (λ same. apart (sym (place_in other outs two).1 ∙ ap (λ k. slice_index_or outs k 0) same ∙ (place_in m outs one).1))

pub fits_part : (round : Round) (t : Ideal) (f m : ℕ) (work : Work) → PieceFits round t f work → is_in m (outputs_of round.source.model f) ≡ true → has_left work ≡ false
    → PieceFits round t f (without (outputs_of round.source.model f) m work)
fits_part round t f m work fits within over =
    let outs = outputs_of round.source.model f in
    record {
      long = length-set work.parts (position_or_len (λ output. output == m) outs) None ∙ fits.long;
      kept = λ other rows is at. ⊎_elim
          (λ (same : other ≡ m). absurd (none_some rows (sym (part_in-without outs m work) ∙ ap (part_in outs (without outs m work).parts) (sym same) ∙ at)))
          (λ (apart : other ≡ m → ⊥). fits.kept other rows is (sym (part_in-without-else outs m other work within is apart) ∙ at))
          (cases_eq other m);
      gone = λ other is at. over;
      fault = fits.fault;
    }
  where
    none_some : (rows : Rows) → None ≡ Some rows → ⊥
    none_some rows e = cc

-- ---- an open function whose pieces are over

pub over_ran : (outs : List ℕ) (works : List Work) → list_all (is_over outs) works ≡ true → flat_map its_ran works ≡ flat_map its_agents works
over_ran outs [] over = refl
over_ran outs (work ∷ works) over =
    let both = and_parts (is_over outs work) (list_all (is_over outs) works) over in
    let parts = and_parts (not (has_left work)) (list_all (λ m. is_none (part_in outs work.parts m)) outs) both.0 in
    let all : length work.agents ≤ work.ran = ltb-false work.ran (length work.agents) (none (has_left work) parts.0) in
    let here : its_ran work ≡ work.agents = take_all work.ran work.agents all in
    let rest = over_ran outs works both.1 in
    λ i. here i ++ rest i
  where
    none : (b : Bool) → not b ≡ true → b ≡ false
    none true h = absurd (false≢true h)
    none false h = refl

pub all_of_list : (test : ℕ → Bool) (numbers : List ℕ) (m : ℕ) → list_all test numbers ≡ true → is_in m numbers ≡ true → test m ≡ true
all_of_list test [] m all within = absurd (false≢true within)
all_of_list test (n ∷ numbers) m all within =
    let both = and_parts (test n) (list_all test numbers) all in
    ⊎_elim (λ (same : m ≡ n). ap test same ∙ both.0) (λ (later : is_in m numbers ≡ true). all_of_list test numbers m both.1 later) (is_in-cases m n numbers within)

pub over_handed : (outs : List ℕ) (m : ℕ) (works : List Work) → is_in m outs ≡ true → list_all (is_over outs) works ≡ true
    → flat_map (its_handed outs m) works ≡ flat_map its_ran works
over_handed outs m [] within over = refl
over_handed outs m (work ∷ works) within over =
    let both = and_parts (is_over outs work) (list_all (is_over outs) works) over in
    let parts = and_parts (not (has_left work)) (list_all (λ m. is_none (part_in outs work.parts m)) outs) both.0 in
    let here : its_handed outs m work ≡ its_ran work = ap (λ b. cond b (its_ran work) []) (all_of_list (λ m. is_none (part_in outs work.parts m)) outs m parts.1 within) in
    let rest = over_handed outs m works within both.1 in
    λ i. here i ++ rest i

done_fits : (round : Round) (t : Ideal) (f : ℕ) (o : Option SimFault) → should_fault round t f ≡ o → Fits round t f (done_with o)
done_fits round t f None is = is
done_fits round t f (Some fault) is = is

pub shut_fits : (round : Round) (t : Ideal) (f : ℕ) (works : List Work) → OpenFits round t f works → list_all (is_over (outputs_of round.source.model f)) works ≡ true
    → Fits round t f (done_with (fault_in works))
shut_fits round t f works fits over =
    done_fits round t f (fault_in works)
    (ap (least_fault round.iteration f (t.run f)) (sym (over_ran (outputs_of round.source.model f) works over ∙ fits.whole)) ∙ sym (fault_in-fits round t f works fits.each))

-- ---- fresh pieces

abbrev nothing_sent : Option Rows
nothing_sent = Some []

fresh_part : (outs : List ℕ) (m : ℕ) → is_in m outs ≡ true → part_in outs (map (λ output. nothing_sent) outs) m ≡ nothing_sent
fresh_part outs m within = go outs (position_or_len (λ output. output == m) outs) (place_in m outs within).0
  where
    go : (outs : List ℕ) (k : ℕ) → k < length outs → slice_index_or (map (λ output. nothing_sent) outs) k None ≡ nothing_sent
    go [] k less = absurd (omega (arith, less))
    go (output ∷ outs) zero less = refl
    go (output ∷ outs) (suc k) less = go outs k (omega (arith, less))

length-fresh : (outs : List ℕ) → length (map (λ (output : ℕ). nothing_sent) outs) ≡ length outs
length-fresh [] = refl
length-fresh (output ∷ outs) = ap suc (length-fresh outs)

pub fresh_fits : (round : Round) (t : Ideal) (f : ℕ) (pieces : List Rows) → Each (PieceFits round t f) (map (fresh_work (outputs_of round.source.model f)) pieces)
fresh_fits round t f [] = tt
fresh_fits round t f (agents ∷ pieces) =
    let outs = outputs_of round.source.model f in (
      record {
        long = length-fresh outs;
        kept = λ m rows within at. rows_is rows (sym at ∙ fresh_part outs m within);
        gone = λ m within at. absurd (none_is (sym at ∙ fresh_part outs m within));
        fault = refl;
      },
      fresh_fits round t f pieces,
    )
  where
    rows_is : (rows : Rows) → Some rows ≡ nothing_sent → rows ≡ []
    rows_is rows e = cc

    none_is : None ≡ nothing_sent → ⊥
    none_is e = cc

pub fresh_ran : (outs : List ℕ) (pieces : List Rows) → flat_map its_ran (map (fresh_work outs) pieces) ≡ []
fresh_ran outs [] = refl
fresh_ran outs (agents ∷ pieces) = fresh_ran outs pieces

pub fresh_handed : (outs : List ℕ) (m : ℕ) (pieces : List Rows) → flat_map (its_handed outs m) (map (fresh_work outs) pieces) ≡ []
fresh_handed outs m [] = refl
fresh_handed outs m (agents ∷ pieces) = (let here = nothing (is_none (part_in outs (map (λ output. nothing_sent) outs) m)) in let rest = fresh_handed outs m pieces in λ i. here i ++ rest i)
  where
    nothing : (b : Bool) → cond {A = Rows} b [] [] ≡ []
    nothing true = refl
    nothing false = refl

-- ---- the pieces are all agents

fresh_agents : (outs : List ℕ) (bags : List Rows) → flat_map its_agents (map (fresh_work outs) bags) ≡ flat_map (λ bag. bag) bags
fresh_agents outs [] = refl
fresh_agents outs (bag ∷ bags) = ap (λ l. bag ++ l) (fresh_agents outs bags)

pub cut_whole : (outs : List ℕ) (pieces : ℕ) (agents : Rows) → 0 < pieces → flat_map its_agents (map (fresh_work outs) (cut pieces agents)) ≡ agents
cut_whole outs pieces agents some = fresh_agents outs (cut pieces agents) ∙ (cuts_are_even agents pieces some).whole
