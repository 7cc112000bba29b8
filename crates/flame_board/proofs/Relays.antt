-- Each step of a lane's channel keeps its rule.
use Rattle.std.proofs.Common.{◌≡◌, ◌≢◌, ℕ, Bool, true, false, List, [], ◌∷◌, ◌++◌, length, set, ⊎_elim, refl, sym, ap, ◌∙◌, append_assoc}
use Rattle.std.proofs.lemmas.Bool.{false≢true}
use mathlib.Core.Option.{some, some-ne-none}
use lib.ListN.{get_elem?}
use Rattle.crossbeam_channel.specs.Fifo.{Pushes, Pops, Forks, Merges, Learns}
use Rattle.atomic_table.proofs.Lists.{at_set}
use Rattle.flame_world.specs.declared.pieces.Part.{Part}
use Rattle.flame_board.specs.declared.logs.Log.{Log}
use Rattle.flame_board.specs.LaneRules.{log, IsRelayed}
use Rattle.flame_board.proofs.Roles.{stays, learns, given_up, beside, passed_on, taken_over}

abbrev sends : Log → Bool
sends v = v.sends

abbrev sent : Log → List Part
sent v = v.sent

abbrev takes : Log → Bool
takes v = v.takes

abbrev taken : Log → List Part
taken v = v.taken

-- the first pass may do both
pub begins : IsRelayed [] (log true true [] [] ∷ [])
begins =
    let first : Log = log true true [] [] in
    record {
      sender = 0;
      taker = 0;
      sent = [];
      taken = [];
      whole = refl;
      sends = passed_on sends sent [] [] first (λ other u there may. some-ne-none u (sym there)) refl;
      takes = passed_on takes taken [] [] first (λ other u there may. some-ne-none u (sym there)) refl;
    }

-- a part is sent
pub pushes : (n port : ℕ) (v : Log) (part : Part) → v.sends ≡ true
    → Pushes IsRelayed n port v part (λ w. w ≡ log v.sends v.takes (v.sent ++ part ∷ []) v.taken)
pushes n port v part may items views _ rule at =
    let w : Log = log v.sends v.takes (v.sent ++ part ∷ []) v.taken in
    let own = rule.sends port v at may in (
      w,
      record {
        sender = port;
        taker = rule.taker;
        sent = rule.sent ++ part ∷ [];
        taken = rule.taken;
        whole = ap (λ l. l ++ part ∷ []) rule.whole ∙ append_assoc rule.taken items (part ∷ []);
        sends = learns sends sent rule.sender rule.sent (rule.sent ++ part ∷ []) views port v w rule.sends at may
            (ap (λ l. l ++ part ∷ []) own.1);
        takes = stays takes taken rule.taker rule.taken views port v w rule.takes at (λ has. (has, refl));
      },
      refl,
    )

-- a part is taken
pub pops : (port : ℕ) (v : Log) → v.takes ≡ true
    → Pops IsRelayed port v (λ part w. w ≡ log v.sends v.takes v.sent (v.taken ++ part ∷ []))
pops port v may part items views rule at =
    let w : Log = log v.sends v.takes v.sent (v.taken ++ part ∷ []) in
    let own = rule.takes port v at may in (
      w,
      record {
        sender = rule.sender;
        taker = port;
        sent = rule.sent;
        taken = rule.taken ++ part ∷ [];
        whole = rule.whole ∙ sym (append_assoc rule.taken (part ∷ []) items);
        sends = stays sends sent rule.sender rule.sent views port v w rule.sends at (λ has. (has, refl));
        takes = learns takes taken rule.taker rule.taken (rule.taken ++ part ∷ []) views port v w rule.takes at may
            (ap (λ l. l ++ part ∷ []) own.1);
      },
      refl,
    )

-- the pass is cut in two
pub forks : (port : ℕ) (v : Log) → v.sends ≡ true → v.takes ≡ true
    → Forks IsRelayed port v (log true false v.sent []) (log false true [] v.taken)
forks port v may_send may_take items views rule at =
    let left : Log = log true false v.sent [] in
    let right : Log = log false true [] v.taken in
    let cut : List Log = set views port left in
    record {
      sender = rule.sender;
      taker = length cut;
      sent = rule.sent;
      taken = rule.taken;
      whole = rule.whole;
      sends = beside sends sent rule.sender rule.sent cut right
          (stays sends sent rule.sender rule.sent views port v left rule.sends at (λ _. (may_send, refl))) refl;
      takes = passed_on takes taken rule.taken cut right
          (given_up takes taken rule.taker rule.taken views port v left rule.takes at may_take refl)
          (rule.takes port v at may_take).1;
    }

-- the two are put together
pub merges : (port : ℕ) (v : Log) (other : ℕ) (u : Log) → v.sends ≡ true → u.takes ≡ true
    → Merges IsRelayed port v other u (log true true v.sent u.taken) (log false false [] [])
merges port v other u may_send may_take items views rule at two there =
    let both : Log = log true true v.sent u.taken in
    let spent : Log = log false false [] [] in
    let joined : List Log = set views port both in
    let was : get_elem? views other ≡ some u =
    ⊎_elim (λ (h : (other ≡ port) × (both ≡ u)). absurd (two h.0))
    (λ (h : (other ≢ port) × (get_elem? views other ≡ some u)). h.1) (at_set views port other both u there) in
    record {
      sender = rule.sender;
      taker = port;
      sent = rule.sent;
      taken = rule.taken;
      whole = rule.whole;
      sends = stays sends sent rule.sender rule.sent joined other u spent
          (stays sends sent rule.sender rule.sent views port v both rule.sends at (λ _. (may_send, refl))) there
          (λ has. absurd (false≢true has));
      takes = taken_over takes taken rule.taker rule.taken views port other u both spent rule.takes was may_take refl refl;
    }

-- who may do both knows what the channel holds
pub knows : (port : ℕ) (v : Log) → v.sends ≡ true → v.takes ≡ true → Learns IsRelayed port v (λ items. v.sent ≡ v.taken ++ items)
knows port v may_send may_take items views rule at =
    (rule.sends port v at may_send).1
    ∙ rule.whole
    ∙ ap (λ l. l ++ items) (sym (rule.takes port v at may_take).1)
