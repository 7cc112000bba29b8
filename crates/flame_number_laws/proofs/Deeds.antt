-- What a call statement is that does something.
use Rattle.std.proofs.Common.{◌≡◌, ℕ, List, Option, Some, None, refl, ◌∙◌, sym}
use Rattle.flame_spec.specs.declared.models.AgentType.{AgentType}
use Rattle.flame_spec.specs.declared.models.MessageType.{MessageType}
use Rattle.flame_spec.specs.declared.models.Variable.{Variable}
use Rattle.flame_spec.specs.CallFaults.{Deed, sends, bears, calls, called_by, added_in, born_or_called, sent_or_else, set_or_else, deed_of}
use Rattle.flame_spec.specs.Definitions.{Definition, helper_named}
use Rattle.flame_spec.specs.Functions.{Place}
use Rattle.flame_spec.specs.LookUps.{memory_set, message_sent, agent_born}
use Rattle.flame_spec.specs.Scopes.{Context, memory_at}

-- the message that is sent, the type that is born, the helper that is called
abbrev pub sent_in : Option Deed → Option (ℕ × MessageType)
sent_in (Some (sends number message)) = Some (number, message)
sent_in _ = None

abbrev pub born_in : Option Deed → Option (ℕ × AgentType)
born_in (Some (bears number type)) = Some (number, type)
born_in _ = None

abbrev pub called_in : Option Deed → Option (ℕ × Definition)
called_in (Some (calls number helper)) = Some (number, helper)
called_in _ = None

-- a function of the model adds it
pub record Adds {X : Type 0} (context : Context) (listed : Option X) (found : X) : Type 0 where
  pub place : Place
  pub runs : context.runs ≡ Some place
  pub there : listed ≡ Some found

sent-where :
    (context : Context) (found : ℕ × MessageType) (runs : Option Place) (x : ℕ × MessageType)
    → context.runs ≡ runs
    → sent_in (added_in runs (sends found.0 found.1)) ≡ Some x
    → Adds context (Some found) x
sent-where context found None x is h = absurd (cc)
sent-where context found (Some place) x is h = record { place = place; runs = is; there = h }

no-send : (o : Option (ℕ × Definition)) → sent_in (called_by o) ≡ None
no-send None = refl
no-send (Some found) = refl

born-not-sent : (runs : Option Place) (found : ℕ × AgentType) → sent_in (added_in runs (bears found.0 found.1)) ≡ None
born-not-sent None found = refl
born-not-sent (Some place) found = refl

pub sent-by :
    (context : Context) (word : List ℕ) (x : ℕ × MessageType)
    → sent_in (deed_of context word) ≡ Some x
    → Adds context (message_sent context.model.messages word) x
sent-by context word x h = by_set (memory_set (memory_at context) word) h
  where
    by_born : (o : Option (ℕ × AgentType)) → sent_in (born_or_called context o word) ≡ None
    by_born None = no-send (helper_named context.helpers word)
    by_born (Some found) = born-not-sent context.runs found

    by_sent : (o : Option (ℕ × MessageType)) → sent_in (sent_or_else context o word) ≡ Some x → Adds context o x
    by_sent None g =
        let none = by_born (agent_born context.model.agents word) in
        absurd (cc)
    by_sent (Some found) g = sent-where context found context.runs x refl g

    by_set :
        (o : Option (ℕ × Variable))
        → sent_in (set_or_else context o word) ≡ Some x
        → Adds context (message_sent context.model.messages word) x
    by_set None g = by_sent (message_sent context.model.messages word) g
    by_set (Some found) g = absurd (cc)

-- ---- births

born-where :
    (context : Context) (found : ℕ × AgentType) (runs : Option Place) (x : ℕ × AgentType)
    → context.runs ≡ runs
    → born_in (added_in runs (bears found.0 found.1)) ≡ Some x
    → Adds context (Some found) x
born-where context found None x is h = absurd (cc)
born-where context found (Some place) x is h = record { place = place; runs = is; there = h }

no-birth : (o : Option (ℕ × Definition)) → born_in (called_by o) ≡ None
no-birth None = refl
no-birth (Some found) = refl

sent-not-born : (runs : Option Place) (found : ℕ × MessageType) → born_in (added_in runs (sends found.0 found.1)) ≡ None
sent-not-born None found = refl
sent-not-born (Some place) found = refl

pub born-by :
    (context : Context) (word : List ℕ) (x : ℕ × AgentType)
    → born_in (deed_of context word) ≡ Some x
    → Adds context (agent_born context.model.agents word) x
born-by context word x h = by_set (memory_set (memory_at context) word) h
  where
    by_born : (o : Option (ℕ × AgentType)) → born_in (born_or_called context o word) ≡ Some x → Adds context o x
    by_born None g =
        let none = no-birth (helper_named context.helpers word) in
        absurd (cc)
    by_born (Some found) g = born-where context found context.runs x refl g

    by_sent :
        (o : Option (ℕ × MessageType))
        → born_in (sent_or_else context o word) ≡ Some x
        → Adds context (agent_born context.model.agents word) x
    by_sent None g = by_born (agent_born context.model.agents word) g
    by_sent (Some found) g =
        let none = sent-not-born context.runs found in
        absurd (cc)

    by_set :
        (o : Option (ℕ × Variable))
        → born_in (set_or_else context o word) ≡ Some x
        → Adds context (agent_born context.model.agents word) x
    by_set None g = by_sent (message_sent context.model.messages word) g
    by_set (Some found) g = absurd (cc)

-- ---- calls of helpers

pub helper-of : (o : Option (ℕ × Definition)) → called_in (called_by o) ≡ o
helper-of None = refl
helper-of (Some found) = refl

sent-not-called : (runs : Option Place) (found : ℕ × MessageType) → called_in (added_in runs (sends found.0 found.1)) ≡ None
sent-not-called None found = refl
sent-not-called (Some place) found = refl

born-not-called : (runs : Option Place) (found : ℕ × AgentType) → called_in (added_in runs (bears found.0 found.1)) ≡ None
born-not-called None found = refl
born-not-called (Some place) found = refl

pub called-by :
    (context : Context) (word : List ℕ) (x : ℕ × Definition)
    → called_in (deed_of context word) ≡ Some x
    → helper_named context.helpers word ≡ Some x
called-by context word x h = by_set (memory_set (memory_at context) word) h
  where
    by_born : (o : Option (ℕ × AgentType)) → called_in (born_or_called context o word) ≡ Some x → helper_named context.helpers word ≡ Some x
    by_born None g = sym (helper-of (helper_named context.helpers word)) ∙ g
    by_born (Some found) g =
        let none = born-not-called context.runs found in
        absurd (cc)

    by_sent : (o : Option (ℕ × MessageType)) → called_in (sent_or_else context o word) ≡ Some x → helper_named context.helpers word ≡ Some x
    by_sent None g = by_born (agent_born context.model.agents word) g
    by_sent (Some found) g =
        let none = sent-not-called context.runs found in
        absurd (cc)

    by_set : (o : Option (ℕ × Variable)) → called_in (set_or_else context o word) ≡ Some x → helper_named context.helpers word ≡ Some x
    by_set None g = by_sent (message_sent context.model.messages word) g
    by_set (Some found) g = absurd (cc)
