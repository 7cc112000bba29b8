-- How a `Boxed` holds its value, for types that hold themselves through it, as a tree whose nodes have a `Boxed` of a tree.
use mathlib.Core.Path.{refl}
use mathlib.Core.Former.{Former, this, const, pair, via}
use base.Stored.{gnil}
use base.Fml.{ftrue}
use denote.RattleType.{RattleType}
use denote.Memory.{part_of}
use denote.RawPtr.{Ptr}
use denote.Sharing.{nothing}
use denote.HoleLaws.{Alike}
use denote.HolePlaces.{Recodes, struct_places, laid, one_value}
use denote.Hole.Fix.{over}
use denote.Param.Weighed.{Weighed}
use denote.Model.Placed.{view_places}
use Rattle.std.specs.declared.boxed.Box.{Box}
use Rattle.std.specs.contracts.boxed.Box as box
use Rattle.std.specs.declared.alloc.Global.{Global}
use Rattle.std.specs.contracts.alloc.Global as global
use Rattle.std.specs.contracts.impls.GlobalAllocator.TheImpl.{ghosts}
use Rattle.flame_rows.specs.declared.boxes.Boxed.TheInside.{Inside}
use Rattle.flame_rows.specs.declared.boxes.Boxed.TheView.{view, invariant}
use Rattle.flame_rows.specs.contracts.boxes.Boxed as part
use Rattle.flame_rows.specs.contracts.boxes.Boxed.TheInside as inside

-- contracts see a `Boxed` as its value, and so does a type that holds it
abbrev pub the_former : Former {0} → Former {0}
the_former former = former

abbrev pub the_weighed : {former : Former {0}} → Weighed former → Weighed (the_former former)
the_weighed weighed = weighed

-- the one field is the box of the value
abbrev boxed : Former {0}
boxed =
    via (pair (const (Ptr × Global)) this) Inside
    (λ X fields. ((fields.place.ptr, fields.place.alloc), fields.place.value))
    (λ X v. record { place = record { ptr = v.0.0; alloc = v.0.1; value = v.1 } })
    (λ X fields. refl)
    (λ X v. refl)

abbrev holding : {X Y : Type 0} → Box X Global → Y → Box Y Global
holding b value = record { ptr = b.ptr; alloc = b.alloc; value = value }

abbrev box_of : RattleType → RattleType
box_of R = box.the_row R global.the_row ghosts

module _ (R S : RattleType) (h : R.Denot → S.Denot) where
  box_places : Alike R S h → Alike (box_of R) (box_of S) (λ b. holding b (h b.value))
  unfolding part_of
  box_places alike = record {
    mir_same = λ i. (box_of (one_value R (alike.mir_same i) (λ _. ftrue) (λ _ _. nothing) gnil)).mir;
    own_same = λ b i.
        (box_of (one_value R (alike.mir_same i) (alike.own_same b.value i) (alike.shr_same b.value i) gnil)).own_val
        (holding b tt);
    shr_same = λ b i.
        (box_of (one_value R (alike.mir_same i) (alike.own_same b.value i) (alike.shr_same b.value i) gnil)).shr_at
        (holding b tt);
  }

  -- values of two types that are laid out alike make boxed values that are
  pub the_places : Alike R S h → Alike (part.the_row R) (part.the_row S) ((the_former this).map R.Denot S.Denot h)
  the_places alike =
      view_places boxed this view (λ X Y k fields. refl) (λ X fields. refl)
      R.Denot S.Denot h (part.the_row R).coded (part.the_row S).coded
      (invariant R.Denot) (invariant S.Denot) (λ fields p q. refl) (λ fields p q. refl)
      (λ fields held. tt) (λ fields held. tt)
      (over (inside.the_row R)) (over (inside.the_row S))
      (struct_places (inside.the_type R) (inside.the_type S) ((λ b. holding b (h b.value)), tt) _ (λ fields. refl) refl
      (laid _ _ _ (box_places alike), tt))

  pub the_codes_placed : Recodes R S h → Recodes (part.the_row R) (part.the_row S) ((the_former this).map R.Denot S.Denot h)
  the_codes_placed recodes value = recodes value
