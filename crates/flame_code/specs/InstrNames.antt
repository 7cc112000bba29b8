-- The names of instructions, as a listing has them. [own]
use Rattle.std.specs.Prelude.{ℕ, List, codes}
use Rattle.flame_code.specs.declared.instrs.Instr.{Instr}
use Rattle.flame_code.specs.declared.instrs.Instr.TheVariants.{Push, Dup, Drop, Loc, SetLoc, Mem, SetMem, MemAt, SetMemAt}
use Rattle.flame_code.specs.declared.instrs.Instr.TheVariants.{Const, Iter, Field, FieldAt, Neg, Not, Add, Sub, Mul, Div, Rem}
use Rattle.flame_code.specs.declared.instrs.Instr.TheVariants.{Lt, Gt, Le, Ge, Eq, Ne, Jump, JumpZero, JumpNotZero, Pay}
use Rattle.flame_code.specs.declared.instrs.Instr.TheVariants.{Enter, Next, Leave, Send, Bear, Call, Return}

-- ORDER INSTRUCTIONS

-- the instruction's name [own]
abbrev pub name_of_instr : Instr → List ℕ
name_of_instr (Push n) = codes "Push"
name_of_instr Dup = codes "Dup"
name_of_instr Drop = codes "Drop"
name_of_instr (Loc s) = codes "Loc"
name_of_instr (SetLoc s) = codes "SetLoc"
name_of_instr (Mem v) = codes "Mem"
name_of_instr (SetMem v) = codes "SetMem"
name_of_instr (MemAt l c n) = codes "MemAt"
name_of_instr (SetMemAt l c n) = codes "SetMemAt"
name_of_instr (Const c) = codes "Const"
name_of_instr Iter = codes "Iter"
name_of_instr (Field i v) = codes "Field"
name_of_instr (FieldAt l i c n) = codes "FieldAt"
name_of_instr (Neg l) = codes "Neg"
name_of_instr Not = codes "Not"
name_of_instr (Add l) = codes "Add"
name_of_instr (Sub l) = codes "Sub"
name_of_instr (Mul l) = codes "Mul"
name_of_instr (Div l) = codes "Div"
name_of_instr (Rem l) = codes "Rem"
name_of_instr Lt = codes "Lt"
name_of_instr Gt = codes "Gt"
name_of_instr Le = codes "Le"
name_of_instr Ge = codes "Ge"
name_of_instr Eq = codes "Eq"
name_of_instr Ne = codes "Ne"
name_of_instr (Jump t) = codes "Jump"
name_of_instr (JumpZero t) = codes "JumpZero"
name_of_instr (JumpNotZero t) = codes "JumpNotZero"
name_of_instr (Pay l) = codes "Pay"
name_of_instr (Enter i) = codes "Enter"
name_of_instr (Next l i t) = codes "Next"
name_of_instr (Leave i) = codes "Leave"
name_of_instr (Send m) = codes "Send"
name_of_instr (Bear a) = codes "Bear"
name_of_instr (Call l h n) = codes "Call"
name_of_instr Return = codes "Return"
