use Rattle.std.proofs.Common.{◌≡◌, ℕ, ◌+◌, ◌/◌, ◌%◌, ◌++◌, List, map, refl, sym, ap, ◌∙◌, append_assoc, string_bytes}
use Rattle.std.specs.List.{range_with_len}
use Rattle.flame_trial.specs.MeadowPopulations.{agent_text, drawn_agent, cell_count, with_commas, comma_before}
use Rattle.flame_trial.proofs.Commas.{agents_more}
use Rattle.flame_trial.proofs.Draws.{two_draws, next_place}
use Rattle.flame_trial.proofs.populations.push_agents.Goals as goal

pub loop-place-preserved : goal.loop-place-preserved
loop-place-preserved c =
    let seed = c.args.seed in
    let size = c.args.size in
    let place = c.loop-place.place in
    let first = c.next_number-first.result in
    let second = c.next_number-second.result in
    let before : List ℕ = string_bytes c.args.text.now in
    let earlier : List ℕ = with_commas (map (drawn_agent seed size) (range_with_len 0 place)) in
    let draws = two_draws seed place c.loop-place.number first second c.loop-place.invariant.drawn
    c.next_number-first.ensures c.next_number-second.ensures in
    let agent :
    agent_text c.type_name.result.now (first / 65536 % cell_count size) (second / 65536 % 10 + 1)
    ≡ drawn_agent seed size place =
    rw (c.type_name.ensures, draws.0, draws.1) refl in
    record {
      drawn = draws.1 ∙ next_place seed place;
      written =
          c.in_ok-push_agent.ensures
          ∙ ap (λ text. string_bytes c.push_comma.new.text ++ text) agent
          ∙ ap (λ text. text ++ drawn_agent seed size place)
          (c.in_ok-push_comma.ensures ∙ ap (λ text. text ++ comma_before place) c.loop-place.invariant.written)
          ∙ append_assoc (before ++ earlier) (comma_before place) (drawn_agent seed size place)
          ∙ append_assoc before earlier (comma_before place ++ drawn_agent seed size place)
          ∙ ap (λ text. before ++ text) (sym (agents_more seed size place));
    }
