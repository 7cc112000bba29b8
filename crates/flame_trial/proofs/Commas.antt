-- A list of agents with commas between them, and one agent more.
use Rattle.std.proofs.Common.{◌≡◌, ℕ, zero, suc, ◌+◌, arith, refl, ap, sym, ◌∙◌}
use Rattle.std.proofs.Common.{List, [], ◌∷◌, ◌++◌, map, append_assoc}
use Rattle.std.specs.List.{range_with_len}
use Rattle.std.proofs.lemmas.List.FromFn.{map-range_with_len_more}
use Rattle.flame_trial.specs.MeadowPopulations.{drawn_agent, with_commas, comma_before, comma}

-- texts, the first of them `x`, and one more behind them
joined_more : (x : List ℕ) (xs : List (List ℕ)) (more : List ℕ)
    → with_commas ((x ∷ xs) ++ more ∷ []) ≡ with_commas (x ∷ xs) ++ (comma ∷ more)
joined_more x [] more = refl
joined_more x (y ∷ xs) more =
    ap (λ text. x ++ (comma ∷ text)) (joined_more y xs more)
    ∙ sym (append_assoc x (comma ∷ with_commas (y ∷ xs)) (comma ∷ more))

-- the agents up to this one, and this one
pub agents_more : (seed size place : ℕ)
    → with_commas (map (drawn_agent seed size) (range_with_len 0 (place + 1)))
    ≡ with_commas (map (drawn_agent seed size) (range_with_len 0 place))
    ++ (comma_before place ++ drawn_agent seed size place)
agents_more seed size zero = refl
agents_more seed size (suc place) =
    ap with_commas (map-range_with_len_more (drawn_agent seed size) 0 (suc place) (suc place) (omega arith))
    ∙ joined_more _ _ _
