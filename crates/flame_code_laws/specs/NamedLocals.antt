-- Which locals a numbered tree names.
use Rattle.std.specs.Prelude.{ℕ, nat_lt, List, Bool, true, ◌&&◌, map}
use Rattle.std.specs.List.{list_all}
use Rattle.flame_body.specs.declared.slots.Slot.{Slot}
use Rattle.flame_body.specs.declared.slots.Slot.TheVariants.{Local}
use Rattle.flame_body.specs.declared.slots.SlotExpr.{SlotExpr, fold-SlotExpr}
use Rattle.flame_body.specs.declared.slots.SlotExpr.TheOpen.{SlotExpr-F, SlotLink-F, SlotSubscript-F}
use Rattle.flame_body.specs.declared.slots.SlotLink.{SlotLink}

-- a name of a local is one of the first so many [C, 6.2.1]
abbrev pub slot_below : ℕ → Slot → Bool
slot_below count (Local number) = nat_lt number count
slot_below count slot = true

-- an expression whose parts name such locals alone [own]
abbrev pub below_step : ℕ → SlotExpr-F Bool Bool Bool → Bool
below_step count (SlotExpr-F.Number n) = true
below_step count (SlotExpr-F.Name slot) = slot_below count slot
below_step count (SlotExpr-F.Field input span) = true
below_step count (SlotExpr-F.Get column) = true
below_step count (SlotExpr-F.At cells index) = index
below_step count (SlotExpr-F.FieldAt input cells index) = index
below_step count (SlotExpr-F.Unary signs e) = e
below_step count (SlotExpr-F.Chain e links) = e && list_all (λ link. link) links
below_step count (SlotExpr-F.All parts) = list_all (λ part. part) parts
below_step count (SlotExpr-F.Any parts) = list_all (λ part. part) parts

-- so does an operand [own]
abbrev pub link_below : SlotLink-F Bool Bool Bool → Bool
link_below link = link.right

-- so does an index [own]
abbrev pub index_below : SlotSubscript-F Bool Bool Bool → Bool
index_below subscript = subscript.index

-- the expression names none but the first so many locals [C, 6.2.1]
abbrev pub names_below : ℕ → SlotExpr → Bool
names_below count = fold-SlotExpr Bool Bool Bool (below_step count) link_below index_below

-- so do all of these [C, 6.2.1]
abbrev pub all_below : ℕ → List SlotExpr → Bool
all_below count es = list_all (λ below. below) (map (names_below count) es)

-- so do the operands [C, 6.2.1]
abbrev pub links_below : ℕ → List SlotLink → Bool
links_below count links = list_all (λ below. below) (map (λ link. names_below count link.right) links)
