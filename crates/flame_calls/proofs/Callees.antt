-- What is called is one of the helpers.
use Rattle.std.proofs.Common.{◌≡◌, ℕ, ◌+◌, ◌<◌, List, [], ◌∷◌, length, refl, sym, ap, subst, arith, true, false, Bool, Some, None, Option, cond}
use Rattle.std.specs.Prelude.{IfSome}
use Rattle.std.specs.Str.{bytes_eq}
use Rattle.flame_spec.specs.CallFaults.{Deed, sends, bears, called_by, added_in, born_or_called, sent_or_else, set_or_else, deed_of}
use Rattle.flame_spec.specs.Definitions.{Definition, helper_named}
use Rattle.flame_spec.specs.LookUps.{memory_set, message_sent, agent_born}
use Rattle.flame_spec.specs.Lists.{numbered_from}
use Rattle.flame_spec.specs.Functions.{Place}
use Rattle.flame_spec.specs.Scopes.{Context, memory_at}
use Rattle.flame_spec.specs.declared.models.AgentType.{AgentType}
use Rattle.flame_spec.specs.declared.models.MessageType.{MessageType}
use Rattle.flame_spec.specs.declared.models.Variable.{Variable}
use Rattle.flame_calls.specs.CallMarks.{called_number}

abbrev number_or : {X : Type 0} → ℕ → Option (ℕ × X) → ℕ
number_or d None = d
number_or d (Some found) = found.0

numbered_within : {X : Type 0} (passes : X → Bool) (i : ℕ) (xs : List X) (k : ℕ) (x : X) → numbered_from passes i xs ≡ Some (k, x) → k < i + length xs
numbered_within passes i [] k x e = cc
numbered_within passes i (y ∷ ys) k x e = go (passes y) e (numbered_within passes (i + 1) ys k x)
  where
    go : (b : Bool) → cond b (Some (i, y)) (numbered_from passes (i + 1) ys) ≡ Some (k, x) → (numbered_from passes (i + 1) ys ≡ Some (k, x) → k < i + 1 + length ys) → k < i + length (y ∷ ys)
    go true e rest =
        let same : i ≡ k = ap (number_or i) e in
        omega (arith, same)
    go false e rest = omega (arith, rest e)

abbrev Within : ℕ → Option Deed → Type 0
Within n deed = IfSome (called_number deed) (λ k. k < n)

pub called_within : (hs : List Definition) (word : List ℕ) → IfSome (called_number (called_by (helper_named hs word))) (λ k. k < length hs)
called_within hs word = go (helper_named hs word) refl
  where
    go : (o : Option (ℕ × Definition)) → helper_named hs word ≡ o → Within (length hs) (called_by o)
    go None e = tt
    go (Some found) e = let below = numbered_within (λ d. bytes_eq d.name word) 0 hs found.0 found.1 e in omega (arith, below)

pub deed_within : (context : Context) (word : List ℕ) → IfSome (called_number (deed_of context word)) (λ k. k < length context.helpers)
deed_within context word = sets (memory_set (memory_at context) word)
  where
    n : ℕ
    n = length context.helpers

    adds : (o : Option Place) (deed : Deed) → called_number (Some deed) ≡ None → Within n (added_in o deed)
    adds None deed e = tt
    adds (Some place) deed e = let P : Option ℕ → Type 0 = λ k. IfSome k (λ k. k < n) in subst P (sym e) tt

    born : (o : Option (ℕ × AgentType)) → Within n (born_or_called context o word)
    born None = called_within context.helpers word
    born (Some found) = adds context.runs (bears found.0 found.1) refl

    sent : (o : Option (ℕ × MessageType)) → Within n (sent_or_else context o word)
    sent None = born (agent_born context.model.agents word)
    sent (Some found) = adds context.runs (sends found.0 found.1) refl

    sets : (o : Option (ℕ × Variable)) → Within n (set_or_else context o word)
    sets None = sent (message_sent context.model.messages word)
    sets (Some found) = tt
