-- Bags to which rows are added one after another.
use Rattle.std.proofs.Common.{◌≡◌, ℕ, zero, suc, ◌+◌, ◌<◌, true, false, cond, List, [], ◌∷◌, map, refl, sym, ap, ◌∙◌, arith, ◌⊎◌, inl, inr}
use Rattle.std.proofs.lemmas.Bool.Decides.{eqb_tells}
use Rattle.std.specs.Prelude.{ℤ, ◌==◌}
use Rattle.std.specs.List.{filter}
use Rattle.std.proofs.lemmas.Bool.{eq-eqb}
use Rattle.flame_rows.specs.Bags.{ascending, merge}
use Rattle.flame_world.specs.Fields.{changed, joined_from, joined}
use Rattle.flame_spec.specs.declared.outcomes.Born.{Born}
use Rattle.flame_spec.specs.declared.outcomes.Sent.{Sent}
use Rattle.flame_world.specs.AgentRuns.{births_of, messages_of}
use Rattle.flame_rows.proofs.Merging.{merge-append}
use Rattle.flame_field.proofs.Gathered.{merge-none}

eqb-differs : (a b : ℕ) → (b < a) ⊎ (a < b) → (a == b) ≡ false
eqb-differs a b apart =
    elim (eqb_tells a b) [
      | inl tells ↦ absurd (elim apart [ inl over ↦ (let no : ⊥ = omega (arith, over, tells.1) in no) | inr under ↦ (let no : ⊥ = omega (arith, under, tells.1) in no) ])
      | inr tells ↦ tells.0
    ]

-- bags numbered past that of the row take no part
joined-past : (k : ℕ) (row : List ℤ) (rows more : ℕ → List (List ℤ))
    → ((n : ℕ) → rows n ≡ cond (k == n) (row ∷ more n) (more n))
    → (i : ℕ) → k < i → (bags : List (List (List ℤ))) → joined_from i rows bags ≡ joined_from i more bags
joined-past k row rows more each i past [] = refl
joined-past k row rows more each i past (bag ∷ bags) =
    let here : rows i ≡ more i = each i ∙ ap (λ t. cond t (row ∷ more i) (more i)) (eqb-differs k i (inr past)) in
    λ j. merge bag (here j) ∷ joined-past k row rows more each (i + 1) (omega (arith, past)) bags j

pub joined-one : (k : ℕ) (row : List ℤ) (rows more : ℕ → List (List ℤ))
    → ((n : ℕ) → rows n ≡ cond (k == n) (row ∷ more n) (more n))
    → (i place : ℕ) → k ≡ i + place → (bags : List (List (List ℤ)))
    → joined_from i rows bags ≡ joined_from i more (changed place (λ bag. merge bag (row ∷ [])) bags)
joined-one k row rows more each i place is [] = refl
joined-one k row rows more each i zero is (bag ∷ bags) =
    let same : k ≡ i = omega (arith, is) in
    let here : merge bag (rows i) ≡ merge (merge bag (row ∷ [])) (more i) =
    ap (merge bag) (each i ∙ ap (λ t. cond t (row ∷ more i) (more i)) (eq-eqb k i same)) ∙ sym (merge-append bag (row ∷ []) (more i)) in
    λ j. here j ∷ joined-past k row rows more each (i + 1) (omega (arith, is)) bags j
joined-one k row rows more each i (suc place) is (bag ∷ bags) =
    let here : rows i ≡ more i = each i ∙ ap (λ t. cond t (row ∷ more i) (more i)) (eqb-differs k i (inl (omega (arith, is)))) in
    λ j. merge bag (here j) ∷ joined-one k row rows more each (i + 1) place (omega (arith, is)) bags j

pub joined-birth : (birth : Born) (births : List Born) (bags : List (List (List ℤ)))
    → joined (births_of (birth ∷ births)) bags
    ≡ joined (births_of births) (changed birth.agent (λ bag. merge bag (birth.row ∷ [])) bags)
joined-birth birth births bags =
    joined-one birth.agent birth.row (births_of (birth ∷ births)) (births_of births)
    (λ n.
    elim (birth.agent == n) as (λ t. map (λ (b : Born). b.row) (cond t (birth ∷ filter (λ (b : Born). b.agent == n) births) (filter (λ (b : Born). b.agent == n) births))
    ≡ cond t (birth.row ∷ births_of births n) (births_of births n)) [ true ↦ refl | false ↦ refl ])
    0 birth.agent (omega arith) bags

pub joined-message : (message : Sent) (sent : List Sent) (boards : List (List (List ℤ)))
    → joined (messages_of (message ∷ sent)) boards
    ≡ joined (messages_of sent) (changed message.message (λ bag. merge bag (message.row ∷ [])) boards)
joined-message message sent boards =
    joined-one message.message message.row (messages_of (message ∷ sent)) (messages_of sent)
    (λ n.
    elim (message.message == n) as (λ t. map (λ (s : Sent). s.row) (cond t (message ∷ filter (λ (s : Sent). s.message == n) sent) (filter (λ (s : Sent). s.message == n) sent))
    ≡ cond t (message.row ∷ messages_of sent n) (messages_of sent n)) [ true ↦ refl | false ↦ refl ])
    0 message.message (omega arith) boards

-- where nothing more comes, bags that are in order stay
joined_from-nothing : {X : Type 0} (bag : X → List (List ℤ)) → ((x : X) → ascending (bag x) ≡ bag x)
    → (rows : ℕ → List (List ℤ)) → ((n : ℕ) → rows n ≡ []) → (i : ℕ) (xs : List X)
    → joined_from i rows (map bag xs) ≡ map bag xs
joined_from-nothing bag order rows none i [] = refl
joined_from-nothing bag order rows none i (x ∷ xs) =
    let here : merge (bag x) (rows i) ≡ bag x =
    ap (merge (bag x)) (none i) ∙ ap (λ b. merge b []) (sym (order x)) ∙ merge-none (bag x) ∙ order x in
    λ j. here j ∷ joined_from-nothing bag order rows none (i + 1) xs j

pub joined-nothing : {X : Type 0} (bag : X → List (List ℤ)) → ((x : X) → ascending (bag x) ≡ bag x)
    → (rows : ℕ → List (List ℤ)) → ((n : ℕ) → rows n ≡ []) → (xs : List X)
    → joined rows (map bag xs) ≡ map bag xs
joined-nothing bag order rows none xs = joined_from-nothing bag order rows none 0 xs
