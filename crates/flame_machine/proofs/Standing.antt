-- What a run that is ready has for its next instruction.
use Rattle.std.proofs.Common.{◌≡◌, ℕ, zero, suc, ◌<◌, ◌≤◌, List, [], ◌∷◌, length, Some, true, refl, sym, ap, ◌∙◌, subst, arith}
use Rattle.std.specs.Prelude.{slice_get, slice_index, IsSome}
use Rattle.std.proofs.lemmas.List.{length-map}
use Rattle.flame_code.specs.declared.instrs.Instr.{Instr}
use Rattle.flame_code.specs.declared.instrs.Instr.TheVariants.{Field, FieldAt}
use Rattle.flame_code.specs.Feeds.{Fed, field}
use Rattle.flame_code.specs.InputRows.{rows_of}
use Rattle.flame_code.specs.Routines.{Routine, locals_for, locals_of}
use Rattle.flame_code.specs.Validity.{IsValid}
use Rattle.flame_code.proofs.InputMoves.{field_there}
use Rattle.flame_code.proofs.Rooms.{stack_within}
use Rattle.flame_machine.specs.MachineFrames.{Framed, Additions, config}
use Rattle.flame_machine.specs.Running.{Ready}
use Rattle.flame_machine.specs.MachineSteps.{seen, HasFields}
use Rattle.flame_machine.proofs.Inputs.{field-first}

locals_within : (code : List Instr) (p : ℕ) (i : Instr) → slice_get code p ≡ Some i → locals_for i ≤ locals_of code
locals_within [] p i at = cc
locals_within (x ∷ xs) zero i at = let same : x ≡ i = cc in let e = ap locals_for same in omega (arith, e)
locals_within (x ∷ xs) (suc p) i at = let le = locals_within xs p i at in omega arith

pub rows-length : (a b : List Fed) → rows_of a ≡ rows_of b → length a ≡ length b
rows-length a b e = sym (length-map a (λ (x : Fed). x.rows)) ∙ ap length e ∙ length-map b (λ (x : Fed). x.rows)

module _ (r : Routine) (valid : IsValid r) (place : ℕ) (frame : Framed) (added : Additions) (feeds : List Fed) (ready : Ready r place frame added feeds) where
  pub has_room : length frame.stack < frame.room
  has_room = let lt = stack_within r (config place frame added (seen r.widths feeds)) valid ready.stands in let le = ready.room in omega arith

  module _ (i : Instr) (at : slice_get r.instrs place ≡ Some i) where
    pub has_locals : locals_for i ≤ length frame.locals
    has_locals = let le = locals_within r.instrs place i at in let m = ready.locals in omega arith

  there : (k v : ℕ) → k < length r.widths.inputs → ready.stands.delivered k ≡ true → v < slice_index r.widths.inputs k → IsSome (field k v feeds)
  there k v lt now less =
      let x = field_there r.widths.inputs ready.stands.delivered (seen r.widths feeds) k v ready.stands.rows ready.stands.current now less in
      subst IsSome (sym x.1 ∙ field-first (length r.widths.inputs) k feeds lt v) refl

  pub has_fields : (i : Instr) → slice_get r.instrs place ≡ Some i → HasFields i feeds
  has_fields (Field k v) at =
      let w = valid.within place (Field k v) at in
      there k v w.0 (valid.reading k ready.stands.path at refl) w.1
  has_fields (FieldAt l k c n) at =
      let w = valid.within place (FieldAt l k c n) at in
      λ v low high. there k v w.0 (valid.reading k ready.stands.path at refl) (let le = w.1 in omega arith)
  has_fields i at = tt
