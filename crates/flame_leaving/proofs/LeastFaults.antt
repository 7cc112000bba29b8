-- The least fault of parts together.
use Rattle.std.proofs.Common.{◌≡◌, ℕ, true, false, Bool, cond, List, [], ◌∷◌, ◌++◌, Option, Some, None, refl, sym, ap, ◌∙◌, true≢false}
use Rattle.std.specs.Prelude.{ℤ}
use Rattle.std.specs.List.{filter_map, cons_option}
use Rattle.std.specs.Option.{option_map_or}
use Rattle.std.specs.Ordering.{is_gt}
use Rattle.std.proofs.lemmas.Cmp.{upto}
use Rattle.flame_rows.specs.Order.{row_order}
use Rattle.flame_rows.specs.Sorted.{IsBelowAll, IsAscending, with_one}
use Rattle.flame_rows.specs.Bags.{ascending}
use Rattle.flame_rows.proofs.BagLaws.{rows_total, IsAscending-ascending}
use Rattle.flame_rows.proofs.Sorting.{not_gt-after}
use Rattle.flame_spec.specs.declared.outcomes.Outcome.{Outcome}
use Rattle.flame_spec.specs.declared.outcomes.Outcome.TheVariants.{Ended, Faulted}
use Rattle.flame_spec.specs.Lists.{first}
use Rattle.flame_spec.proofs.Numbered.{first-cons_option_nil}
use Rattle.flame_world.specs.declared.faults.SimFault.{SimFault}
use Rattle.flame_world.specs.AgentRuns.{fault_by, least_fault}
use Rattle.flame_leaving.specs.WholeLaws.{lesser, least_of, FaultIsTheLeast}

abbrev Rows : Type 0
Rows = List (List ℤ)

abbrev goes_after : List ℤ → List ℤ → Bool
goes_after x y = is_gt (row_order x y)

-- ---- content order

turned : (x y : List ℤ) → goes_after x y ≡ true → goes_after y x ≡ false
turned x y after = ap is_gt (rows_total.antisymm y x) ∙ not_gt-after (row_order x y) after

not_after : (x y z : List ℤ) → goes_after x y ≡ false → goes_after y z ≡ false → goes_after x z ≡ false
not_after = upto rows_total

after : (x y z : List ℤ) → goes_after x y ≡ true → goes_after y z ≡ true → goes_after x z ≡ true
after x y z one two = by_case (goes_after x z) refl
  where
    by_case : (b : Bool) → goes_after x z ≡ b → b ≡ true
    by_case true e = refl
    by_case false e = absurd (true≢false (sym one ∙ not_after x z y e (turned y z two)))

IsBelowAll-less : (x y : List ℤ) (zs : Rows) → goes_after x y ≡ false → IsBelowAll row_order y zs → IsBelowAll row_order x zs
IsBelowAll-less x y [] less below = tt
IsBelowAll-less x y (z ∷ zs) less below = (not_after x y z less below.0, IsBelowAll-less x y zs less below.1)

-- ---- the lesser of two faults

lesser-after : (one two : SimFault) → goes_after one.memory two.memory ≡ true → lesser one two ≡ two
lesser-after one two is = ap (λ t. cond t two one) is

lesser-before : (one two : SimFault) → goes_after one.memory two.memory ≡ false → lesser one two ≡ one
lesser-before one two is = ap (λ t. cond t two one) is

lesser-lesser : (a b c : SimFault) → lesser (lesser a b) c ≡ lesser a (lesser b c)
lesser-lesser a b c = by_case (goes_after a.memory b.memory) (goes_after b.memory c.memory) refl refl
  where
    by_case : (s t : Bool) → goes_after a.memory b.memory ≡ s → goes_after b.memory c.memory ≡ t
        → lesser (lesser a b) c ≡ lesser a (lesser b c)
    by_case true true ab bc =
        ap (λ f. lesser f c) (lesser-after a b ab)
        ∙ lesser-after b c bc
        ∙ sym (lesser-after a c (after a.memory b.memory c.memory ab bc))
        ∙ ap (lesser a) (sym (lesser-after b c bc))
    by_case true false ab bc =
        ap (λ f. lesser f c) (lesser-after a b ab)
        ∙ lesser-before b c bc
        ∙ sym (lesser-after a b ab)
        ∙ ap (lesser a) (sym (lesser-before b c bc))
    by_case false true ab bc =
        ap (λ f. lesser f c) (lesser-before a b ab) ∙ ap (lesser a) (sym (lesser-after b c bc))
    by_case false false ab bc =
        ap (λ f. lesser f c) (lesser-before a b ab)
        ∙ lesser-before a c (not_after a.memory b.memory c.memory ab bc)
        ∙ sym (lesser-before a b ab)
        ∙ ap (lesser a) (sym (lesser-before b c bc))

least_of-least_of : (a b c : Option SimFault) → least_of (least_of a b) c ≡ least_of a (least_of b c)
least_of-least_of None b c = refl
least_of-least_of (Some a) None c = refl
least_of-least_of (Some a) (Some b) None = refl
least_of-least_of (Some a) (Some b) (Some c) = ap Some (lesser-lesser a b c)

-- ---- agents in content order, of which some fault

module _ (fails : List ℤ → Option SimFault)
    (own : (memory : List ℤ) (fault : SimFault) → fails memory ≡ Some fault → fault.memory ≡ memory) where
  abbrev first_of : Rows → Option SimFault
  first_of agents = first (filter_map fails agents)

  -- no fault of those behind an agent goes before it
  not_before : (x : List ℤ) (ys : Rows) (fault : SimFault)
      → IsBelowAll row_order x ys
      → first_of ys ≡ Some fault
      → goes_after x fault.memory ≡ false
  not_before x [] fault below at = absurd cc
  not_before x (y ∷ ys) fault below at = go (fails y) refl (not_before x ys fault below.1) at
    where
      go : (o : Option SimFault) → fails y ≡ o
          → (first_of ys ≡ Some fault → goes_after x fault.memory ≡ false)
          → first (cons_option o (filter_map fails ys)) ≡ Some fault
          → goes_after x fault.memory ≡ false
      go None is later there = later there
      go (Some found) is later there =
          let same : found ≡ fault = cc in
          ap (goes_after x) (ap (λ (f : SimFault). f.memory) (sym same) ∙ own y found is) ∙ below.0

  -- the fault of an agent that goes before all of these, or theirs
  before-all : (o : Option SimFault) (faults : List SimFault)
      → ((one two : SimFault) → o ≡ Some one → first faults ≡ Some two → goes_after one.memory two.memory ≡ false)
      → first (cons_option o faults) ≡ least_of o (first faults)
  before-all None faults less = refl
  before-all (Some one) [] less = refl
  before-all (Some one) (two ∷ faults) less = ap Some (sym (lesser-before one two (less one two refl refl)))

  -- the fault of an agent that goes before another one, which faults
  behind : (x y : List ℤ) (o : Option SimFault) (two : SimFault)
      → fails x ≡ o
      → fails y ≡ Some two
      → goes_after x y ≡ true
      → Some two ≡ least_of o (Some two)
  behind x y None two one_is two_is greater = refl
  behind x y (Some one) two one_is two_is greater =
      ap Some (sym (lesser-after one two ((λ i. goes_after (own x one one_is i) (own y two two_is i)) ∙ greater)))

  first-with_one : (x : List ℤ) (ys : Rows)
      → IsAscending row_order ys
      → first_of (with_one row_order x ys) ≡ least_of (fails x) (first_of ys)
  first-with_one x [] up = before-all (fails x) [] (λ one two is at. absurd cc)
  first-with_one x (y ∷ ys) up =
      let rest = first-with_one x ys up.1 in
      elim (goes_after x y) as (λ t. goes_after x y ≡ t
      → first_of (cond t (y ∷ with_one row_order x ys) (x ∷ y ∷ ys)) ≡ least_of (fails x) (first_of (y ∷ ys))) [
        | true ↦ λ is.
            elim (fails y) as (λ o. fails y ≡ o
            → first (cons_option o (filter_map fails (with_one row_order x ys)))
            ≡ least_of (fails x) (first (cons_option o (filter_map fails ys)))) [
              | None ↦ λ none. rest
              | Some two ↦ λ two_is. behind x y (fails x) two refl two_is is
            ] refl
        | false ↦ λ is.
            before-all (fails x) (filter_map fails (y ∷ ys))
            (λ one two one_is at.
            ap (λ m. goes_after m two.memory) (own x one one_is)
            ∙ not_before x (y ∷ ys) two (is, IsBelowAll-less x y ys is up.0) at)
      ] refl

  first-append : (xs ys : Rows)
      → first_of (ascending (xs ++ ys)) ≡ least_of (first_of (ascending xs)) (first_of (ascending ys))
  first-append [] ys = refl
  first-append (x ∷ xs) ys =
      let mine = first_of (ascending xs) in
      let theirs = first_of (ascending ys) in
      first-with_one x (ascending (xs ++ ys)) (IsAscending-ascending (xs ++ ys))
      ∙ ap (least_of (fails x)) (first-append xs ys)
      ∙ sym (least_of-least_of (fails x) mine theirs)
      ∙ ap (λ o. least_of o theirs) (sym (first-with_one x (ascending xs) (IsAscending-ascending xs)))

-- ---- the law

own_memory : (iteration : ℤ) (function : ℕ) (memory : List ℤ) (outcome : Outcome) (fault : SimFault)
    → fault_by iteration function memory outcome ≡ Some fault
    → fault.memory ≡ memory
own_memory iteration function memory (Ended effect) fault is = absurd cc
own_memory iteration function memory (Faulted cause) fault is =
    ap (λ (o : Option SimFault). option_map_or (λ (f : SimFault). f.memory) o memory) (sym is)

pub fault_is_the_least : FaultIsTheLeast
fault_is_the_least iteration function run ones twos all whole =
    let fails = λ (memory : List ℤ). fault_by iteration function memory (run memory) in
    ap (λ agents. first (filter_map fails agents)) (sym whole)
    ∙ first-append fails (λ memory fault is. own_memory iteration function memory (run memory) fault is) ones twos

-- ---- one agent more

pub least_fault-next : (iteration : ℤ) (function : ℕ) (run : List ℤ → Outcome) (agents : Rows) (memory : List ℤ)
    → least_fault iteration function run (ascending (agents ++ memory ∷ []))
    ≡ least_of (least_fault iteration function run (ascending agents)) (fault_by iteration function memory (run memory))
least_fault-next iteration function run agents memory =
    fault_is_the_least iteration function run agents (memory ∷ []) (agents ++ memory ∷ []) refl
    ∙ ap (least_of (least_fault iteration function run (ascending agents)))
    (first-cons_option_nil (fault_by iteration function memory (run memory)))

pub least_of-none : (one : Option SimFault) → least_of one None ≡ one
least_of-none None = refl
least_of-none (Some one) = refl
