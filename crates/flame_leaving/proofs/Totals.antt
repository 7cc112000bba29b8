-- Survivors, messages and births of parts together: each agent gives its own rows.
use Rattle.std.proofs.Common.{◌≡◌, ℕ, ◌+◌, List, [], ◌∷◌, ◌++◌, map, Option, Some, None, refl, sym, ap, ◌∙◌, arith}
use Rattle.std.specs.Prelude.{ℤ, ◌==◌}
use Rattle.std.specs.List.{filter, filter_map, flat_map, cons_option}
use Rattle.std.proofs.lemmas.List.{map-append}
use Rattle.std.proofs.lemmas.List.Elements.{filter-append}
use Rattle.flame_rows.specs.Bags.{ascending, merge, weigh}
use Rattle.flame_rows.proofs.BagLaws.{weigh-append, weigh-ascending, merge_adds_weights, weigh-ones}
use Rattle.flame_rows.proofs.Merging.{same_bag}
use Rattle.flame_spec.specs.declared.outcomes.Outcome.{Outcome}
use Rattle.flame_spec.specs.declared.outcomes.Sent.{Sent}
use Rattle.flame_spec.specs.declared.outcomes.Born.{Born}
use Rattle.flame_world.specs.AgentRuns.{kept, sent_by, born_by, sent_from, born_from, messages_of, births_of}
use Rattle.flame_leaving.specs.WholeLaws.{AreTogether, AgentsAddUp, SurvivorsMerge, MessagesMerge, BirthsMerge}

abbrev Rows : Type 0
Rows = List (List ℤ)

-- ---- rows that agents give

-- all weigh what the parts do
together-weigh : (weight : List ℤ → ℕ) (ones twos all : Rows)
    → AreTogether ones twos all
    → weigh weight all ≡ weigh weight ones + weigh weight twos
together-weigh weight ones twos all whole =
    sym (weigh-ascending weight all) ∙ ap (weigh weight) (sym whole) ∙ merge_adds_weights weight ones twos

weigh-flat_map : (weight : List ℤ → ℕ) (gives : List ℤ → Rows) (agents : Rows)
    → weigh weight (flat_map gives agents) ≡ weigh (λ memory. weigh weight (gives memory)) agents
weigh-flat_map weight gives [] = refl
weigh-flat_map weight gives (memory ∷ agents) =
    weigh-append weight (gives memory) (flat_map gives agents)
    ∙ ap (λ n. weigh weight (gives memory) + n) (weigh-flat_map weight gives agents)

-- the parts give what all give
given-together : (gives : List ℤ → Rows) (ones twos all : Rows)
    → AreTogether ones twos all
    → ascending (flat_map gives all) ≡ merge (ascending (flat_map gives ones)) (ascending (flat_map gives twos))
given-together gives ones twos all whole =
    same_bag (flat_map gives all) (bag ones ++ bag twos)
    (λ weight.
    weigh-flat_map weight gives all
    ∙ together-weigh (λ memory. weigh weight (gives memory)) ones twos all whole
    ∙ (λ i. sym (heavy weight ones) i + sym (heavy weight twos) i)
    ∙ sym (weigh-append weight (bag ones) (bag twos)))
  where
    bag : Rows → Rows
    bag agents = ascending (flat_map gives agents)

    heavy : (weight : List ℤ → ℕ) (agents : Rows)
        → weigh weight (ascending (flat_map gives agents)) ≡ weigh (λ memory. weigh weight (gives memory)) agents
    heavy weight agents = weigh-ascending weight (flat_map gives agents) ∙ weigh-flat_map weight gives agents

-- ---- how many

pub agents_add_up : AgentsAddUp
agents_add_up ones twos all whole =
    omega (
      arith,
      together-weigh (λ row. 1) ones twos all whole,
      weigh-ones ones,
      weigh-ones twos,
      weigh-ones all,
    )

-- ---- what each agent gives

filter_map-flat : {X Y : Type 0} (f : X → Option Y) (xs : List X) → filter_map f xs ≡ flat_map (λ x. cons_option (f x) []) xs
filter_map-flat f [] = refl
filter_map-flat f (x ∷ xs) =
    let rest = filter_map-flat f xs in
    elim (f x) as (λ o. cons_option o (filter_map f xs) ≡ cons_option o [] ++ flat_map (λ y. cons_option (f y) []) xs) [
      | None ↦ rest
      | Some y ↦ ap (λ l. y ∷ l) rest
    ]

messages_of-flat : (run : List ℤ → Outcome) (message : ℕ) (agents : Rows)
    → messages_of (sent_from run agents) message ≡ flat_map (λ memory. messages_of (sent_by (run memory)) message) agents
messages_of-flat run message [] = refl
messages_of-flat run message (memory ∷ agents) =
    let own = sent_by (run memory) in
    let others = sent_from run agents in
    ap (map (λ (s : Sent). s.row)) (filter-append (λ (s : Sent). s.message == message) own others)
    ∙ map-append (λ (s : Sent). s.row) (filter (λ (s : Sent). s.message == message) own)
    (filter (λ (s : Sent). s.message == message) others)
    ∙ ap (λ l. messages_of own message ++ l) (messages_of-flat run message agents)

births_of-flat : (run : List ℤ → Outcome) (agent : ℕ) (agents : Rows)
    → births_of (born_from run agents) agent ≡ flat_map (λ memory. births_of (born_by (run memory)) agent) agents
births_of-flat run agent [] = refl
births_of-flat run agent (memory ∷ agents) =
    let own = born_by (run memory) in
    let others = born_from run agents in
    ap (map (λ (b : Born). b.row)) (filter-append (λ (b : Born). b.agent == agent) own others)
    ∙ map-append (λ (b : Born). b.row) (filter (λ (b : Born). b.agent == agent) own)
    (filter (λ (b : Born). b.agent == agent) others)
    ∙ ap (λ l. births_of own agent ++ l) (births_of-flat run agent agents)

-- ---- the laws

-- what is given row by row is given by the parts
flat-together : (given : Rows → Rows) (gives : List ℤ → Rows)
    → ((agents : Rows) → given agents ≡ flat_map gives agents)
    → (ones twos all : Rows)
    → AreTogether ones twos all
    → ascending (given all) ≡ merge (ascending (given ones)) (ascending (given twos))
flat-together given gives flat ones twos all whole =
    ap ascending (flat all)
    ∙ given-together gives ones twos all whole
    ∙ (λ i. merge (ascending (sym (flat ones) i)) (ascending (sym (flat twos) i)))

pub survivors_merge : SurvivorsMerge
survivors_merge run =
    flat-together (filter_map (λ memory. kept (run memory))) (λ memory. cons_option (kept (run memory)) [])
    (filter_map-flat (λ memory. kept (run memory)))

pub messages_merge : MessagesMerge
messages_merge run message =
    flat-together (λ agents. messages_of (sent_from run agents) message)
    (λ memory. messages_of (sent_by (run memory)) message) (messages_of-flat run message)

pub births_merge : BirthsMerge
births_merge run agent =
    flat-together (λ agents. births_of (born_from run agents) agent)
    (λ memory. births_of (born_by (run memory)) agent) (births_of-flat run agent)
