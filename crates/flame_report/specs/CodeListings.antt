-- The listing of a code: the name of its function, and an instruction a line.
use Rattle.std.specs.Prelude.{ℕ, List, [], ◌∷◌, ◌++◌, codes, decimal}
use Rattle.std.specs.Fmt.{signed_decimal}
use Rattle.std.specs.List.{flat_map}
use Rattle.flame_code.specs.declared.instrs.Instr.{Instr}
use Rattle.flame_code.specs.declared.instrs.Instr.TheVariants.{Push, Dup, Drop, Loc, SetLoc, Mem, SetMem, MemAt, SetMemAt}
use Rattle.flame_code.specs.declared.instrs.Instr.TheVariants.{Const, Iter, Field, FieldAt, Neg, Not, Add, Sub, Mul, Div, Rem}
use Rattle.flame_code.specs.declared.instrs.Instr.TheVariants.{Lt, Gt, Le, Ge, Eq, Ne, Jump, JumpZero, JumpNotZero, Pay}
use Rattle.flame_code.specs.declared.instrs.Instr.TheVariants.{Enter, Next, Leave, Send, Bear, Call, Return}
use Rattle.flame_code.specs.InstrNames.{name_of_instr}
use Rattle.flame_spec.specs.Lists.{each}

-- numbers, each after a blank [own]
abbrev pub after_blanks : List ℕ → List ℕ
after_blanks numbers = flat_map (λ number. codes " " ++ decimal number) numbers

-- the arguments of an instruction, each after a blank, in their order [own]
-- ORDER INSTRUCTIONS
abbrev pub arguments : Instr → List ℕ
arguments (Push n) = codes " " ++ signed_decimal n
arguments Dup = []
arguments Drop = []
arguments (Loc s) = after_blanks (s ∷ [])
arguments (SetLoc s) = after_blanks (s ∷ [])
arguments (Mem c) = after_blanks (c ∷ [])
arguments (SetMem c) = after_blanks (c ∷ [])
arguments (MemAt l c n) = after_blanks (l ∷ c ∷ n ∷ [])
arguments (SetMemAt l c n) = after_blanks (l ∷ c ∷ n ∷ [])
arguments (Const c) = after_blanks (c ∷ [])
arguments Iter = []
arguments (Field i c) = after_blanks (i ∷ c ∷ [])
arguments (FieldAt l i c n) = after_blanks (l ∷ i ∷ c ∷ n ∷ [])
arguments (Neg l) = after_blanks (l ∷ [])
arguments Not = []
arguments (Add l) = after_blanks (l ∷ [])
arguments (Sub l) = after_blanks (l ∷ [])
arguments (Mul l) = after_blanks (l ∷ [])
arguments (Div l) = after_blanks (l ∷ [])
arguments (Rem l) = after_blanks (l ∷ [])
arguments Lt = []
arguments Gt = []
arguments Le = []
arguments Ge = []
arguments Eq = []
arguments Ne = []
arguments (Jump t) = after_blanks (t ∷ [])
arguments (JumpZero t) = after_blanks (t ∷ [])
arguments (JumpNotZero t) = after_blanks (t ∷ [])
arguments (Pay l) = after_blanks (l ∷ [])
arguments (Enter i) = after_blanks (i ∷ [])
arguments (Next l i t) = after_blanks (l ∷ i ∷ t ∷ [])
arguments (Leave i) = after_blanks (i ∷ [])
arguments (Send m) = after_blanks (m ∷ [])
arguments (Bear a) = after_blanks (a ∷ [])
arguments (Call l h n) = after_blanks (l ∷ h ∷ n ∷ [])
arguments Return = []

-- the line of an instruction: its place, its name and its arguments [own]
abbrev pub instr_line : ℕ → Instr → List ℕ
instr_line at instr = decimal at ++ codes " " ++ name_of_instr instr ++ arguments instr ++ codes "\n"

-- the listing of these instructions, under this name [own]
abbrev pub listing : List ℕ → List Instr → List ℕ
listing name instrs = name ++ codes "\n" ++ each instr_line instrs
