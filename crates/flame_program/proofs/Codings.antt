-- Codes, once all bodies are compiled.
use Rattle.std.proofs.Common.{◌≡◌, List, [], ◌∷◌, ◌++◌, map, length, sym, ◌∙◌, arith, append-nil}
use Rattle.flame_body.specs.FunctionBodies.{NumberedBody}
use Rattle.flame_code.specs.Routines.{Routine}
use Rattle.flame_code_laws.specs.CodeOutcomes.{code_of}

pub all-coded : (bodies left : List NumberedBody) (codes : List Routine)
    → map code_of bodies ≡ codes ++ map code_of left → length left ≡ 0 → codes ≡ map code_of bodies
all-coded bodies [] codes so_far none = sym (so_far ∙ append-nil codes)
all-coded bodies (body ∷ left) codes so_far none = absurd (omega (arith, none))
