-- How far functions are by rank, and what that tells.
use Rattle.std.proofs.Common.{◌≡◌, ℕ, zero, suc, ◌+◌, ◌<◌, ◌≤◌, Bool, true, false, cond, List, [], ◌∷◌, length, take, get_or, Option, Some, None, refl, sym, ap, ◌∙◌, arith, ⊎_elim}
use Rattle.std.specs.Prelude.{◌==◌, ◌&&◌, is_some, slice_get, take_while, position}
use Rattle.std.specs.List.{list_all, prefix_len}
use Rattle.std.proofs.Math.Dec.{eqb-suc-suc, eqb-zero-suc}
use Rattle.std.proofs.lemmas.Bool.{cases_lt, false≢true}
use Rattle.std.proofs.lemmas.List.Folds.{length-prefix_len}
use Rattle.std.proofs.lemmas.List.Sums.{prefix_len-le-length, prefix_len_passes, prefix_len_stops, take_while-cons}
use Rattle.flame_rows.proofs.Truths.{is_some-false}
use Rattle.flame_spec.specs.declared.models.Model.{Model}
use Rattle.flame_spec.specs.ModelOrder.{model_order}
use Rattle.flame_world.specs.declared.faults.SimFault.{SimFault}
use Rattle.flame_world.specs.Iterations.{Round}
use Rattle.flame_events.specs.declared.events.Event.{Event}
use Rattle.flame_events.specs.declared.events.Event.TheVariants as event
use Rattle.flame_events.specs.CoreEnds.{is_complete, is_faulted, least_fault_rank}
use Rattle.flame_events.specs.CoreStates.{Core, Status, Waiting, Open, Shut, Faulted, fault_of, is_shut, status_of}
use Rattle.flame_events.specs.EventSteps.{after}
use Rattle.flame_events.specs.LegalEvents.{are_shut, is_legal}
use Rattle.flame_events.proofs.LeastRanks.{least_rank_has_first_fault, lower_ranks_are_wanted}
use Rattle.flame_orders.specs.LastingEnds.{shut_by}
use Rattle.flame_orders.proofs.Finished.{ranks_stay_until_shut, ranks_stay_without_fault, shut_functions_stay}
use Rattle.flame_core.specs.declared.ranks.Ranks.{Ranks}
use Rattle.flame_core.specs.FunctionRanks.{shut_first, shut_ranks, AreRanksOf}
use Rattle.flame_core.proofs.LeastRanks.{none_ranked}

-- ---- those that pass before the first that does not

abbrev front : (ℕ → Bool) → List ℕ → ℕ
front test xs = length (take_while test xs)

-- one more passes
pub front_more : (test : ℕ → Bool) (xs : List ℕ) (n : ℕ) → n < length xs → n ≤ length (take_while test xs) → test (get_or xs n 0) ≡ true
    → n + 1 ≤ length (take_while test xs)
front_more test xs n less so_far here = ⊎_elim
    (λ (within : n < front test xs). omega (arith, within))
    (λ (over : front test xs ≤ n).
    let is : prefix_len test xs ≡ n = omega (arith, so_far, over, length-prefix_len test xs) in
    let within : prefix_len test xs < length xs = omega (arith, less, is) in
    absurd (false≢true (sym (prefix_len_stops test xs 0 within) ∙ ap (λ k. test (get_or xs k 0)) is ∙ here)))
    (cases_lt n (front test xs))

-- this one does not
pub front_is : (test : ℕ → Bool) (xs : List ℕ) (n : ℕ) → n ≤ length (take_while test xs) → test (get_or xs n 0) ≡ false
    → n ≡ length (take_while test xs)
front_is test xs n so_far here = ⊎_elim
    (λ (within : n < front test xs).
    let less : n < prefix_len test xs = omega (arith, within, length-prefix_len test xs) in
    absurd (false≢true (sym here ∙ prefix_len_passes test xs n 0 less)))
    (λ (over : front test xs ≤ n). omega (arith, so_far, over))
    (cases_lt n (front test xs))

-- those that pass one test pass the other
pub front_grows : (one other : ℕ → Bool) (xs : List ℕ) → ((x : ℕ) → one x ≡ true → other x ≡ true)
    → length (take_while one xs) ≤ length (take_while other xs)
front_grows one other xs keeps = ⊎_elim
    (λ (fewer : front other xs < front one xs).
    let k = prefix_len other xs in
    let within : k < prefix_len one xs = omega (arith, fewer, length-prefix_len one xs, length-prefix_len other xs) in
    let less : k < length xs = omega (arith, within, prefix_len-le-length one xs) in
    absurd (false≢true (sym (prefix_len_stops other xs 0 less) ∙ keeps (get_or xs k 0) (prefix_len_passes one xs k 0 within))))
    (λ (as_many : front one xs ≤ front other xs). as_many)
    (cases_lt (front other xs) (front one xs))

-- all pass before this one, which does not
stops_here : (test : ℕ → Bool) (xs : List ℕ) (rank x : ℕ) → slice_get xs rank ≡ Some x → test x ≡ false
    → (length (take_while test xs) == rank) ≡ list_all test (take rank xs)
stops_here test [] rank x at fails = absurd cc
stops_here test (first ∷ xs) zero x at fails =
    let same : first ≡ x = cc in
    ap (λ (l : List ℕ). length l == 0) (take_while-cons test first xs ∙ ap (λ b. cond b (first ∷ take_while test xs) []) (ap test same ∙ fails))
stops_here test (first ∷ xs) (suc rank) x at fails =
    ap (λ (l : List ℕ). length l == suc rank) (take_while-cons test first xs)
    ∙ go (stops_here test xs rank x at fails) (test first)
  where
    go : (length (take_while test xs) == rank) ≡ list_all test (take rank xs)
        → (b : Bool) → (length (cond b (first ∷ take_while test xs) []) == suc rank) ≡ (b && list_all test (take rank xs))
    go rest true = eqb-suc-suc (length (take_while test xs)) rank ∙ rest
    go rest false = eqb-zero-suc rank

-- all pass
all_pass : (test : ℕ → Bool) (xs : List ℕ) → (length (take_while test xs) == length xs) ≡ list_all test xs
all_pass test [] = refl
all_pass test (first ∷ xs) =
    ap (λ (l : List ℕ). length l == suc (length xs)) (take_while-cons test first xs)
    ∙ go (all_pass test xs) (test first)
  where
    go : (length (take_while test xs) == length xs) ≡ list_all test xs
        → (b : Bool) → (length (cond b (first ∷ take_while test xs) []) == suc (length xs)) ≡ (b && list_all test xs)
    go rest true = eqb-suc-suc (length (take_while test xs)) (length xs) ∙ rest
    go rest false = eqb-zero-suc (length xs)

-- ---- a core that is so far

faulted_unshut : (status : Status) (fault : SimFault) → fault_of status ≡ Some fault → is_shut status ≡ false
faulted_unshut Waiting fault is = refl
faulted_unshut (Open works) fault is = refl
faulted_unshut Shut fault is = absurd cc
faulted_unshut (Faulted other) fault is = refl

shut_unfaulted : (status : Status) → is_shut status ≡ true → is_some (fault_of status) ≡ false
shut_unfaulted Waiting shut = refl
shut_unfaulted (Open works) shut = refl
shut_unfaulted Shut shut = refl
shut_unfaulted (Faulted fault) shut = absurd (false≢true shut)

pub complete_before : (model : Model) (core : Core) (ranks : Ranks) (rank : ℕ) → AreRanksOf model core ranks → ranks.fault ≡ Some rank
    → (ranks.shut == rank) ≡ is_complete model core
complete_before model core ranks rank is at =
    let least : least_fault_rank model core ≡ Some rank = sym is.fault_is ∙ at in
    let first = (least_rank_has_first_fault model core).0 rank least in
    ap (λ n. n == rank) is.shut_is
    ∙ stops_here (λ g. is_shut (status_of core g)) (model_order model) rank first.function first.there
    (faulted_unshut (status_of core first.function) first.fault first.own)
    ∙ sym (ap (are_shut core) ((lower_ranks_are_wanted model core).0 rank least))

pub complete_whole : (model : Model) (core : Core) (ranks : Ranks) → AreRanksOf model core ranks → ranks.fault ≡ None
    → (ranks.shut == length (model_order model)) ≡ is_complete model core
complete_whole model core ranks is at =
    let least : least_fault_rank model core ≡ None = sym is.fault_is ∙ at in
    ap (λ n. n == length (model_order model)) is.shut_is
    ∙ all_pass (λ g. is_shut (status_of core g)) (model_order model)
    ∙ sym (ap (are_shut core) ((lower_ranks_are_wanted model core).1 least))

-- ---- a core that goes on

-- what is shut is shut still
pub ranks_last : (round : Round) (pieces : ℕ) (core next : Core) (e : Event) → is_legal round.source.model core e ≡ true
    → next ≡ after round pieces core e → shut_ranks round.source.model core ≤ shut_ranks round.source.model next
ranks_last round pieces core next e legal is =
    front_grows (λ g. is_shut (status_of core g)) (λ g. is_shut (status_of next g)) (model_order round.source.model)
    (λ g shut. ap (λ (k : Core). is_shut (status_of k g)) is ∙ shut_functions_stay round pieces g e core legal shut)

-- the least fault is the same where the event shuts no function
pub fault_stays : (model : Model) (round : Round) (pieces : ℕ) (core next : Core) (e : Event) (own : Option ℕ) → round.source.model ≡ model
    → is_legal round.source.model core e ≡ true → next ≡ after round pieces core e → shut_by e ≡ None
    → own ≡ least_fault_rank model core → own ≡ least_fault_rank model next
fault_stays model round pieces core next e own same legal is none was =
    was
    ∙ ap (λ (m : Model). least_fault_rank m core) (sym same)
    ∙ sym (ranks_stay_until_shut round pieces e core legal none)
    ∙ ap (least_fault_rank round.source.model) (sym is)
    ∙ ap (λ (m : Model). least_fault_rank m next) same

-- and where the function that it shuts is not faulted
pub fault_stays_shut : (model : Model) (round : Round) (pieces f : ℕ) (core next : Core) (own : Option ℕ) → round.source.model ≡ model
    → is_legal round.source.model core (event.Shut f) ≡ true → next ≡ after round pieces core (event.Shut f) → is_faulted next f ≡ false
    → own ≡ least_fault_rank model core → own ≡ least_fault_rank model next
fault_stays_shut model round pieces f core next own same legal is sound was =
    let none = ap (λ (k : Core). fault_of (status_of k f)) (sym is) ∙ is_some-false (fault_of (status_of next f)) sound in
    was
    ∙ ap (λ (m : Model). least_fault_rank m core) (sym same)
    ∙ sym (ranks_stay_without_fault round pieces f core legal none)
    ∙ ap (least_fault_rank round.source.model) (sym is)
    ∙ ap (λ (m : Model). least_fault_rank m next) same

-- what is shut and what is faulted is the same
pub same_ranks : (model : Model) (core next : Core) (ranks : Ranks)
    → ((g : ℕ) → is_shut (status_of next g) ≡ is_shut (status_of core g))
    → ((g : ℕ) → is_faulted next g ≡ is_faulted core g)
    → AreRanksOf model core ranks → AreRanksOf model next ranks
same_ranks model core next ranks shut faulted is = record {
  shut_is = is.shut_is ∙ (λ i. length (take_while (λ g. sym (shut g) i) (model_order model)));
  fault_is = is.fault_is ∙ (λ i. position (λ g. sym (faulted g) i) (model_order model));
}

-- those that are shut before the first that is not are not faulted
pub none_faulted : (core : Core) (functions : List ℕ) (n : ℕ) → n ≤ shut_first core functions
    → (k : ℕ) → k < n → is_faulted core (get_or functions k 0) ≡ false
none_faulted core functions n so_far k less =
    let test : ℕ → Bool = λ g. is_shut (status_of core g) in
    let within : k < prefix_len test functions = omega (arith, so_far, less, length-prefix_len test functions) in
    shut_unfaulted (status_of core (get_or functions k 0)) (prefix_len_passes test functions k 0 within)

-- nothing is shut, and nothing faulted
pub nothing_reached : (model : Model) (core : Core) (ranks : Ranks) → ranks.shut ≡ 0 → ranks.fault ≡ None
    → ((g : ℕ) → is_shut (status_of core g) ≡ false)
    → ((g : ℕ) → is_faulted core g ≡ false)
    → AreRanksOf model core ranks
nothing_reached model core ranks none sound shut faulted = record {
  shut_is = none ∙ front_is (λ g. is_shut (status_of core g)) (model_order model) 0 (omega arith) (shut (get_or (model_order model) 0 0));
  fault_is = sound ∙ sym (none_ranked (is_faulted core) (model_order model) (λ k less. faulted (get_or (model_order model) k 0)));
}
