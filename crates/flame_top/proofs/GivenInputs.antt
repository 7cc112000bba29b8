-- Inputs that are read: what they give, and what holds of it.
use Rattle.std.proofs.Common.{◌≡◌, ℕ, List, [], Ok, sym, ap, subst}
use Rattle.std.specs.Prelude.{pos, ◌+ℤ◌, ◌≤ℤ◌}
use Rattle.flame_spec.specs.declared.models.Model.{Model}
use Rattle.flame_spec.specs.NameFaults.{name_faults}
use Rattle.flame_world.specs.WorldFits.{FitsModel}
use Rattle.flame_popfile.specs.declared.starts.Start.{Start}
use Rattle.flame_popfile.specs.StartLaws.{ReadPopulationsFit}
use Rattle.flame_load.specs.InputReads.{Reading}
use Rattle.flame_load.specs.StartAnswers.{IsHeld}
use Rattle.flame_top.specs.RefusalLines.{answer_told, in_lines}

-- what is given is given with the lines of refusals too
pub given_in_lines :
    {R X : Type 0} (line : R → List ℕ) (reading : Reading R X) (x : X)
    → reading.answer ≡ Ok x
    → (in_lines line reading).answer ≡ Ok x
given_in_lines line reading x given = ap (answer_told line) given

-- ---- the start that a population holds

module _
    (model : Model)
    (turns : ℕ)
    (start : Start)
    (law : ReadPopulationsFit)
    (named : name_faults model ≡ [])
    (is : IsHeld model turns start) where
  pub held_fits : FitsModel model start.world
  held_fits =
      subst (λ (held : Start). FitsModel model held.world) (sym is.held) (law model turns is.value named is.faultless).fits

  pub held_is_first : pos 0 ≤ℤ start.itno
  held_is_first =
      subst (λ (held : Start). pos 0 ≤ℤ held.itno) (sym is.held) (law model turns is.value named is.faultless).number.first

  pub held_leaves_room : (start.itno +ℤ pos turns) ≤ℤ pos 2147483647
  held_leaves_room =
      subst (λ (held : Start). (held.itno +ℤ pos turns) ≤ℤ pos 2147483647) (sym is.held)
      (law model turns is.value named is.faultless).number.last
