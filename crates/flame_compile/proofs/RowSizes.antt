-- How many instructions rows have.
use Rattle.std.proofs.Common.{◌≡◌, ℕ, zero, suc, ◌+◌, ◌<◌, List, length, drop, get_or, refl, sym, ap, ◌∙◌, length-append}
use Rattle.std.proofs.lemmas.List.{at_drop_more}
use Rattle.flame_spec.specs.declared.trees.Sign.{Sign}
use Rattle.flame_code.specs.declared.instrs.Instr.{Instr}
use Rattle.flame_compile.specs.Emit.{each_column, sign_code, signs_code}

-- as many as there are columns
pub each_column_length : (load : ℕ → Instr) (column count : ℕ) → length (each_column load column count) ≡ count
each_column_length load column zero = refl
each_column_length load column (suc count) = ap suc (each_column_length load (column + 1) count)

pub signs_length :
    (signs : List Sign) (i : ℕ) (sign : Sign)
    → i < length signs
    → sign ≡ get_or signs i sign
    → length (signs_code (drop i signs))
    ≡ length (signs_code (drop (i + 1) signs)) + length (sign_code sign.kind sign.line)
signs_length signs i sign within is =
    ap length (at_drop_more signs_code signs i sign within)
    ∙ length-append (signs_code (drop (i + 1) signs)) (sign_code (get_or signs i sign).kind (get_or signs i sign).line)
    ∙ ap (λ (s : Sign). length (signs_code (drop (i + 1) signs)) + length (sign_code s.kind s.line)) (sym is)
