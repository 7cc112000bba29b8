-- Rows have their widths.
use Rattle.std.proofs.Common.{◌≡◌, ℕ, zero, suc, List, [], ◌∷◌, length, refl, sym, ap, ◌∙◌, subst, Bool, Option, Some, arith}
use Rattle.std.specs.Prelude.{ℤ, All, slice_get, IsSomeAnd}
use Rattle.std.proofs.lemmas.List.{length-set}
use Rattle.std.proofs.lemmas.List.Elements.{All-append, All-cons}
use Rattle.flame_spec.specs.declared.models.Model.{Model}
use Rattle.flame_spec.specs.declared.models.MessageType.{MessageType}
use Rattle.flame_spec.specs.declared.models.AgentType.{AgentType}
use Rattle.flame_spec.specs.Columns.{width}
use Rattle.flame_spec.specs.Lists.{numbered_from}
use Rattle.flame_spec.proofs.Numbered.{numbered_from-stands}
use Rattle.flame_meaning.specs.Scenes.{Progress, Calls}
use Rattle.flame_meaning.specs.Statements.{fitted}
use Rattle.flame_meaning.specs.Kept.{IsKept, IsKeptByPaying}
use Rattle.flame_meaning.specs.OutcomeLaws.{IsMessage, IsAgent}

length-fitted : (n : ℕ) (values : List ℤ) → length (fitted n values) ≡ n
length-fitted zero values = refl
length-fitted (suc n) [] = ap suc (length-fitted n [])
length-fitted (suc n) (v ∷ values) = ap suc (length-fitted n values)

pub found_at :
    {X : Type 0} (passes : X → Bool) (xs : List X) (found : ℕ × X)
    → numbered_from passes 0 xs ≡ Some found
    → slice_get xs found.0 ≡ Some found.1
found_at passes xs found h =
    let m = numbered_from-stands passes 0 xs found h in
    let same : found.0 ≡ m.0 = omega (arith, m.1) in
    ap (slice_get xs) same ∙ m.2

one : {X : Type 0} (P : X → Type 0) (x : X) → P x → All P (x ∷ [])
one P x h = All-cons P x [] h (λ k d less. absurd (omega arith))

-- the memory keeps its width, and what is added has the declared widths
pub record Widens (model : Model) (s t : Progress) : Type 0 where
  pub memory : length t.memory ≡ length s.memory
  pub sent : All (IsMessage model) s.sent → All (IsMessage model) t.sent
  pub born : All (IsAgent model) s.born → All (IsAgent model) t.born

pub widths_kept : (model : Model) → IsKept model (Widens model)
widths_kept model = record {
  same = λ s. record { memory = refl; sent = λ h. h; born = λ h. h };
  joined = λ s t u h g. record { memory = g.memory ∙ h.memory; sent = λ a. g.sent (h.sent a); born = λ a. g.born (h.born a) };
  locals = λ s locals. record { memory = refl; sent = λ h. h; born = λ h. h };
  memory = λ s column v. record { memory = length-set s.memory column v; sent = λ h. h; born = λ h. h };
  message = λ s word found values e. record {
    memory = refl;
    sent = λ h. All-append (IsMessage model) s.sent _ h (one (IsMessage model) _
        (let Wide : Option MessageType → Type 0 = λ o. IsSomeAnd o (λ message. length (fitted (width found.1.variables) values) ≡ width message.variables) in
        subst Wide (sym (found_at _ model.messages found e)) (length-fitted (width found.1.variables) values)));
    born = λ h. h;
  };
  birth = λ s word found values e. record {
    memory = refl;
    sent = λ h. h;
    born = λ h. All-append (IsAgent model) s.born _ h (one (IsAgent model) _
        (let Wide : Option AgentType → Type 0 = λ o. IsSomeAnd o (λ agent. length (fitted (width found.1.memory) values) ≡ width agent.memory) in
        subst Wide (sym (found_at _ model.agents found e)) (length-fitted (width found.1.memory) values)));
  };
}

pub widths_paid : (model : Model) (calls : Calls) → IsKeptByPaying calls (Widens model)
widths_paid model calls = record {
  paid = λ s fuel e. record { memory = refl; sent = λ h. h; born = λ h. h };
  called = λ s line helper values v fuel e. record { memory = refl; sent = λ h. h; born = λ h. h };
}
