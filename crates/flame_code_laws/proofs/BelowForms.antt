-- Which locals each form of a numbered expression names.
use Rattle.std.proofs.Common.{◌≡◌, ℕ, List, rules}
use Rattle.std.specs.Prelude.{ℤ, ◌&&◌, true}
use Rattle.flame_spec.specs.declared.trees.Sign.{Sign}
use Rattle.flame_body.specs.declared.slots.Cells.{Cells}
use Rattle.flame_body.specs.declared.slots.Slot.{Slot}
use Rattle.flame_body.specs.declared.slots.Span.{Span}
use Rattle.flame_body.specs.declared.slots.SlotExpr.{SlotExpr, Number, Name, Field, Get, At, FieldAt, Unary, Chain, All}
use Rattle.flame_body.specs.declared.slots.SlotExpr.{Any, the_lemmas}
use Rattle.flame_body.specs.declared.slots.SlotLink.{SlotLink}
use Rattle.flame_body.specs.declared.slots.SlotSubscript.{SlotSubscript}
use Rattle.flame_code_laws.specs.NamedLocals.{slot_below, names_below, all_below, links_below}

pub below-Number : (count : ℕ) (n : ℤ) → names_below count (Number n) ≡ true
below-Number count n = search (rules, the_lemmas)

pub below-Name : (count : ℕ) (slot : Slot) → names_below count (Name slot) ≡ slot_below count slot
below-Name count slot = search (rules, the_lemmas)

pub below-Field : (count input : ℕ) (span : Span) → names_below count (Field input span) ≡ true
below-Field count input span = search (rules, the_lemmas)

pub below-Get : (count column : ℕ) → names_below count (Get column) ≡ true
below-Get count column = search (rules, the_lemmas)

pub below-At :
    (count : ℕ) (cells : Cells) (s : SlotSubscript) → names_below count (At cells s) ≡ names_below count s.index
below-At count cells s = search (rules, the_lemmas)

pub below-FieldAt :
    (count input : ℕ) (cells : Cells) (s : SlotSubscript)
    → names_below count (FieldAt input cells s) ≡ names_below count s.index
below-FieldAt count input cells s = search (rules, the_lemmas)

pub below-Unary :
    (count : ℕ) (signs : List Sign) (e : SlotExpr) → names_below count (Unary signs e) ≡ names_below count e
below-Unary count signs e = search (rules, the_lemmas)

pub below-Chain :
    (count : ℕ) (e : SlotExpr) (links : List SlotLink)
    → names_below count (Chain e links) ≡ (names_below count e && links_below count links)
below-Chain count e links = search (rules, the_lemmas)

pub below-All : (count : ℕ) (parts : List SlotExpr) → names_below count (All parts) ≡ all_below count parts
below-All count parts = search (rules, the_lemmas)

pub below-Any : (count : ℕ) (parts : List SlotExpr) → names_below count (Any parts) ≡ all_below count parts
below-Any count parts = search (rules, the_lemmas)
