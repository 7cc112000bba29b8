-- What agents left, share by share.
use Rattle.std.proofs.Common.{◌≡◌, ℕ, ◌+◌, Bool, true, false, cond, List, [], ◌∷◌, ◌++◌, length, map, refl, sym, ap, ◌∙◌, arith, append_assoc, append-nil, subst}
use Rattle.std.specs.Prelude.{ℤ, ◌==◌, None}
use Rattle.std.specs.List.{All, filter_map, flat_map}
use Rattle.std.proofs.lemmas.List.Concat.{flat_map-append}
use Rattle.std.proofs.lemmas.List.Elements.{All-head, All-tail, filter_map-append}
use Rattle.flame_rows.specs.Bags.{ascending, merge, weigh}
use Rattle.flame_rows.proofs.BagLaws.{weigh-append, weigh-ascending}
use Rattle.flame_field.proofs.Gathered.{merge-none}
use Rattle.flame_rows.proofs.Merging.{ascending-ascending, same_bag, ascending-append_merge}
use Rattle.flame_spec.specs.Below.{HasNoTwice, is_in}
use Rattle.flame_spec.specs.declared.outcomes.Born.{Born}
use Rattle.flame_spec.specs.declared.outcomes.Outcome.{Outcome}
use Rattle.flame_spec.specs.declared.outcomes.Sent.{Sent}
use Rattle.flame_meaning.specs.Outcomes.{outputs_at, place_of}
use Rattle.flame_leaving.specs.WholeLaws.{BirthsMerge, FaultIsTheLeast, MessagesMerge, SurvivorsMerge, least_of}
use Rattle.flame_world.specs.declared.pieces.Part.{Part}
use Rattle.flame_world.specs.declared.pieces.Rest.{Rest}
use Rattle.flame_world.specs.declared.shares.Share.{Share}
use Rattle.flame_world.specs.AgentRuns.{births_of, born_by, born_from, kept, least_fault, messages_of, sent_by, sent_from, survivors}
use Rattle.flame_world.specs.Meaning.{IsMeaning, outcome_under, part_for}
use Rattle.flame_world.specs.Shares.{piece_of, setting_of}
use Rattle.flame_nodes.specs.declared.lefts.Left.{Left}
use Rattle.flame_nodes.specs.NodeLeavings.{AreLeftBy, IsOfRun, sent_among, sent_in}
use Rattle.flame_nodes.specs.NodePieces.{agents_in}
use Rattle.flame_nodes.proofs.SentParts.{among-weigh, parts-weigh, rows-append}
use Rattle.flame_nodes.proofs.Totals.{Rows, Weight}

-- lists of one bag weigh the same
pub bag-weigh : (ones twos : Rows) → ascending ones ≡ ascending twos → (weight : Weight) → weigh weight ones ≡ weigh weight twos
bag-weigh ones twos same weight = sym (weigh-ascending weight ones) ∙ ap (weigh weight) same ∙ weigh-ascending weight twos

module _ (iteration : ℤ) (function : ℕ) (run : List ℤ → Outcome) (outputs : List ℕ) where
  -- ---- nobody

  pub nobody-left : (left : Left) → left.survivors.items ≡ [] → left.sent.items ≡ [] → left.born.items ≡ [] → left.fault ≡ None
      → AreLeftBy iteration function run outputs [] left
  nobody-left left survivors sent born fault = record {
    survivors_are = ap ascending survivors;
    messages_are = λ message. ap (λ list. ascending (messages_of list message)) sent ∙ sym (by message (is_in message outputs));
    births_are = λ agent. ap (λ list. ascending (births_of list agent)) born;
    fault_is = fault;
  }
    where
      by : (message : ℕ) (b : Bool) → ascending (cond b (messages_of [] message) []) ≡ []
      by message true = refl
      by message false = refl

  -- ---- in whatever order

  pub any-order : SurvivorsMerge → MessagesMerge → BirthsMerge → FaultIsTheLeast → (agents rows : Rows) (left : Left)
      → ascending agents ≡ ascending rows
      → AreLeftBy iteration function run outputs agents left
      → AreLeftBy iteration function run outputs (ascending rows) left
  any-order survive send bear least agents rows left same are =
      let whole : merge agents [] ≡ ascending (ascending rows) = ap ascending (append-nil agents) ∙ same ∙ sym (ascending-ascending rows) in
      record {
        survivors_are =
            are.survivors_are
            ∙ sym (survive run agents [] (ascending rows) whole ∙ merge-none (filter_map (λ memory. kept (run memory)) agents));
        messages_are = λ message. are.messages_are message ∙ by message (is_in message outputs)
            (sym (send run message agents [] (ascending rows) whole ∙ merge-none (messages_of (sent_from run agents) message)));
        births_are = λ agent.
            are.births_are agent
            ∙ sym (bear run agent agents [] (ascending rows) whole ∙ merge-none (births_of (born_from run agents) agent));
        fault_is = are.fault_is ∙ ap (least_fault iteration function run) (same ∙ sym (ascending-ascending rows));
      }
    where
      by : (message : ℕ) (b : Bool)
          → ascending (messages_of (sent_from run agents) message) ≡ ascending (messages_of (sent_from run (ascending rows)) message)
          → ascending (cond b (messages_of (sent_from run agents) message) []) ≡ ascending (cond b (messages_of (sent_from run (ascending rows)) message) [])
      by message true same = same
      by message false same = refl

module _ (iteration : ℤ) (function : ℕ) (run : List ℤ → Outcome) (outputs : List ℕ) (once : HasNoTwice outputs) where
  -- ---- one share more

  module _ (share : Share) (rest : Rest) (parts : List Part) (of_run : IsOfRun iteration function run outputs share)
      (meant : IsMeaning (setting_of share) (piece_of share) rest parts)
      (order : ascending (piece_of share).agents ≡ (piece_of share).agents) where
    abbrev more : Rows
    more = (piece_of share).agents

    same-run : outcome_under (setting_of share) (piece_of share).function ≡ run
    same-run = ap (outcome_under (setting_of share)) of_run.function_is ∙ of_run.run_is

    survivors-own : rest.survivors ≡ survivors run more
    survivors-own = meant.survivors_are ∙ ap (λ (r : List ℤ → Outcome). survivors r more) same-run

    born-own : rest.born ≡ born_from run more
    born-own = meant.births_are ∙ ap (λ (r : List ℤ → Outcome). born_from r more) same-run

    fault-own : rest.fault ≡ least_fault iteration function run (ascending more)
    fault-own =
        meant.fault_is
        ∙ (λ i. least_fault (of_run.iteration_is i) (of_run.function_is i) (same-run i) more)
        ∙ ap (least_fault iteration function run) (sym order)

    parts-own : parts ≡ map (part_for (piece_of share) (sent_from run more)) outputs
    parts-own =
        meant.parts_are
        ∙ (λ i. map (part_for (piece_of share) (sent_from (same-run i) more))
        ((ap (λ f. outputs_at (place_of (setting_of share).source.now f) (setting_of share).source.now.model) of_run.function_is ∙ of_run.outputs_are) i))

    messages-own : (message : ℕ) (weight : Weight)
        → weigh weight (messages_of (flat_map sent_in parts) message) ≡ weigh weight (sent_among outputs (sent_from run more) message)
    messages-own message weight =
        ap (λ (ps : List Part). weigh weight (messages_of (flat_map sent_in ps) message)) parts-own
        ∙ parts-weigh (piece_of share) (sent_from run more) message weight outputs once
        ∙ sym (among-weigh outputs (sent_from run more) message weight)

    sent-append : (agents : Rows) (message : ℕ) (weight : Weight)
        → weigh weight (sent_among outputs (sent_from run (agents ++ more)) message)
        ≡ weigh weight (sent_among outputs (sent_from run agents) message) + weigh weight (sent_among outputs (sent_from run more) message)
    sent-append agents message weight =
        among-weigh outputs (sent_from run (agents ++ more)) message weight
        ∙ by (is_in message outputs)
        ∙ (λ i. sym (among-weigh outputs (sent_from run agents) message weight) i + sym (among-weigh outputs (sent_from run more) message weight) i)
      where
        whole : weigh weight (messages_of (sent_from run (agents ++ more)) message)
            ≡ weigh weight (messages_of (sent_from run agents) message) + weigh weight (messages_of (sent_from run more) message)
        whole =
            ap (λ list. weigh weight (messages_of list message)) (flat_map-append (λ memory. sent_by (run memory)) agents more)
            ∙ ap (weigh weight) (rows-append (λ (s : Sent). s.message == message) (λ (s : Sent). s.row) (sent_from run agents) (sent_from run more))
            ∙ weigh-append weight (messages_of (sent_from run agents) message) (messages_of (sent_from run more) message)

        by : (b : Bool) → cond b (weigh weight (messages_of (sent_from run (agents ++ more)) message)) 0
            ≡ cond b (weigh weight (messages_of (sent_from run agents) message)) 0 + cond b (weigh weight (messages_of (sent_from run more) message)) 0
        by true = whole
        by false = omega arith

    pub share-left : FaultIsTheLeast → (agents : Rows) (old new : Left)
        → AreLeftBy iteration function run outputs agents old
        → new.survivors.items ≡ old.survivors.items ++ rest.survivors
        → new.sent.items ≡ old.sent.items ++ flat_map sent_in parts
        → new.born.items ≡ old.born.items ++ rest.born
        → new.fault ≡ least_of old.fault rest.fault
        → AreLeftBy iteration function run outputs (agents ++ more) new
    share-left least agents old new before survive send bear fail = record {
      survivors_are =
          ap ascending survive
          ∙ ascending-append_merge old.survivors.items rest.survivors
          ∙ (λ i. merge (before.survivors_are i) (ascending (survivors-own i)))
          ∙ (λ i. merge (survivors run agents) (ascending-ascending (filter_map (λ memory. kept (run memory)) more) i))
          ∙ sym (ascending-append_merge (filter_map (λ memory. kept (run memory)) agents) (filter_map (λ memory. kept (run memory)) more))
          ∙ ap ascending (sym (filter_map-append (λ memory. kept (run memory)) agents more));
      messages_are = λ message.
          same_bag (messages_of new.sent.items message) (sent_among outputs (sent_from run (agents ++ more)) message)
          (λ weight.
          ap (λ list. weigh weight (messages_of list message)) send
          ∙ ap (weigh weight) (rows-append (λ (s : Sent). s.message == message) (λ (s : Sent). s.row) old.sent.items (flat_map sent_in parts))
          ∙ weigh-append weight (messages_of old.sent.items message) (messages_of (flat_map sent_in parts) message)
          ∙ (λ i. bag-weigh (messages_of old.sent.items message) (sent_among outputs (sent_from run agents) message) (before.messages_are message) weight i
          + messages-own message weight i)
          ∙ sym (sent-append agents message weight));
      births_are = λ agent.
          ap (λ list. ascending (births_of list agent)) bear
          ∙ ap ascending (rows-append (λ (b : Born). b.agent == agent) (λ (b : Born). b.row) old.born.items rest.born)
          ∙ ascending-append_merge (births_of old.born.items agent) (births_of rest.born agent)
          ∙ (λ i. merge (before.births_are agent i) (ascending (births_of (born-own i) agent)))
          ∙ sym (ascending-append_merge (births_of (born_from run agents) agent) (births_of (born_from run more) agent))
          ∙ ap ascending (sym (rows-append (λ (b : Born). b.agent == agent) (λ (b : Born). b.row) (born_from run agents) (born_from run more)))
          ∙ ap (λ list. ascending (births_of list agent)) (sym (flat_map-append (λ memory. born_by (run memory)) agents more));
      fault_is =
          fail
          ∙ (λ i. least_of (before.fault_is i) (fault-own i))
          ∙ sym (least iteration function run agents more (agents ++ more) refl);
    }

  -- ---- the shares one after another

  -- those in front of the rest are put together
  pub record ArePutTogether (all rest : List Share) (left : Left) : Type 0 where
    pub agents : Rows
    pub are : AreLeftBy iteration function run outputs agents left
    pub whole : agents ++ agents_in (map piece_of rest) ≡ agents_in (map piece_of all)
    pub of_run : All (IsOfRun iteration function run outputs) rest

  pub none-together : (all : List Share) (left : Left) → AreLeftBy iteration function run outputs [] left
      → All (IsOfRun iteration function run outputs) all → ArePutTogether all all left
  none-together all left none of_run = record { agents = []; are = none; whole = refl; of_run = of_run }

  pub more-together : FaultIsTheLeast → (all before after : List Share) (share : Share) (rest : Rest) (parts : List Part) (old new : Left)
      → before ≡ share ∷ after
      → IsMeaning (setting_of share) (piece_of share) rest parts
      → ascending (piece_of share).agents ≡ (piece_of share).agents
      → new.survivors.items ≡ old.survivors.items ++ rest.survivors
      → new.sent.items ≡ old.sent.items ++ flat_map sent_in parts
      → new.born.items ≡ old.born.items ++ rest.born
      → new.fault ≡ least_of old.fault rest.fault
      → ArePutTogether all before old → ArePutTogether all after new
  more-together least all before after share rest parts old new is meant order survive send bear fail so_far =
      let P : Share → Type 0 = IsOfRun iteration function run outputs in
      let of_run : All P (share ∷ after) = subst (All P) is so_far.of_run in
      record {
        agents = so_far.agents ++ (piece_of share).agents;
        are =
            share-left share rest parts (All-head P share after of_run) meant order least so_far.agents old new so_far.are survive send bear fail;
        whole =
            append_assoc so_far.agents (piece_of share).agents (agents_in (map piece_of after))
            ∙ ap (λ (shares : List Share). so_far.agents ++ agents_in (map piece_of shares)) (sym is)
            ∙ so_far.whole;
        of_run = All-tail P share after of_run;
      }

  pub all-together : (all rest : List Share) (left : Left) → length rest ≡ 0 → ArePutTogether all rest left
      → AreLeftBy iteration function run outputs (agents_in (map piece_of all)) left
  all-together all [] left none so_far =
      subst (λ (agents : Rows). AreLeftBy iteration function run outputs agents left)
      (sym (append-nil so_far.agents) ∙ so_far.whole) so_far.are
  all-together all (share ∷ rest) left none so_far = absurd (omega (arith, none))
