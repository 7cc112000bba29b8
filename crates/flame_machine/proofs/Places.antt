-- The instructions that are left of a code, and the place where they begin.
use Rattle.std.proofs.Common.{◌≡◌, ℕ, zero, suc, ◌+◌, ◌-◌, ◌<◌, List, [], ◌∷◌, length, drop, Some, refl, sym, ap, ◌∙◌, arith, length-drop}
use Rattle.std.specs.Prelude.{slice_get}
use Rattle.std.proofs.lemmas.List.{drop-drop}
use Rattle.flame_code.specs.declared.instrs.Instr.{Instr}
use Rattle.flame_code.specs.Routines.{Routine}
use Rattle.flame_code.specs.Validity.{IsValid}
use Rattle.flame_code.proofs.Safety.{path_within}
use Rattle.flame_machine.specs.MachineFrames.{Framed, Additions}
use Rattle.flame_code.specs.Feeds.{Fed}
use Rattle.flame_machine.specs.Running.{place_of, IsRest, Ready}

first_of : (code : List Instr) (p : ℕ) → slice_get (drop p code) 0 ≡ slice_get code p
first_of [] zero = refl
first_of [] (suc p) = refl
first_of (x ∷ xs) zero = refl
first_of (x ∷ xs) (suc p) = first_of xs p

-- a run stands at a place of the code
pub ready_within : (r : Routine) (place : ℕ) (frame : Framed) (added : Additions) (feeds : List Fed) → IsValid r → Ready r place frame added feeds → place < length r.instrs
ready_within r place frame added feeds valid ready = path_within r valid place (length frame.stack) ready.stands.delivered ready.stands.path

pub place_of-all : (r : Routine) → place_of r r.instrs ≡ 0
place_of-all r = omega arith

pub all_rest : (r : Routine) → IsRest r r.instrs
all_rest r = ap (λ k. drop k r.instrs) (sym (place_of-all r))

module _ (r : Routine) (rest : List Instr) where
  pub some_left : place_of r rest < length r.instrs → 0 < length rest
  some_left lt = omega arith

  module _ (is : IsRest r rest) where
    pub instr_here : (i : Instr) → slice_get rest 0 ≡ Some i → slice_get r.instrs (place_of r rest) ≡ Some i
    instr_here i at = sym (first_of r.instrs (place_of r rest)) ∙ ap (λ l. slice_get l 0) (sym is) ∙ at

    few_left : length rest ≡ length r.instrs - place_of r rest
    few_left = ap length is ∙ length-drop (place_of r rest) r.instrs

    module _ (more : List Instr) (behind : more ≡ drop 1 rest) (some : 0 < length rest) where
      pub place_behind : place_of r more ≡ place_of r rest + 1
      place_behind = let a = ap length behind ∙ length-drop 1 rest in let b = few_left in omega arith

      pub rest_behind : IsRest r more
      rest_behind =
          behind ∙ ap (drop 1) is ∙ drop-drop 1 (place_of r rest) r.instrs
          ∙ ap (λ k. drop k r.instrs) (sym place_behind)

module _ (r : Routine) (more : List Instr) (to : ℕ) (from : more ≡ drop to r.instrs) (within : to < length r.instrs) where
  pub place_from : place_of r more ≡ to
  place_from = let a = ap length from ∙ length-drop to r.instrs in omega arith

  pub rest_from : IsRest r more
  rest_from = from ∙ ap (λ k. drop k r.instrs) (sym place_from)
