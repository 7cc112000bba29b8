-- A whole function file, or the place where it stops.
use Rattle.std.proofs.Common.{◌≡◌, ℕ, ◌<◌, ◌≤◌, List, [], ◌∷◌, length, drop, sym, subst, arith, length-drop, Result, Ok, Err, IfErr, IsErrAnd}
use Rattle.std.proofs.Math.ListN.{drop_of_length-le}
use Rattle.flame_lex.specs.declared.token.Token.{Token}
use Rattle.flame_rows.specs.declared.fails.Fail.{Fail}
use Rattle.flame_expr.specs.declared.faults.ParseFault.{ParseFault}
use Rattle.flame_rows.specs.declared.fails.Fail.TheVariants.{Fault, NoMemory}
use Rattle.flame_expr.specs.declared.faults.ParseFault.TheVariants.{TooDeep, Syntax}
use Rattle.flame_expr.specs.declared.lexemes.Lexeme.{Lexeme}
use Rattle.flame_expr.specs.ViablePrefixes.{form, many, a_unit, a_def, whole, done, expand}
use Rattle.flame_expr.specs.Nesting.{NestsWithin}
use Rattle.flame_expr.specs.ReadParts.{Passes, Halts, Ended, Stopped, Fails}
use Rattle.flame_expr.proofs.Walk.{at_form}
use Rattle.flame_expr.proofs.LongestPrefixes.{passed_longest, halted_longest, passed_not_all, blocks_none}
use Rattle.flame_parse.specs.StatementGrammar.{Defined, Definitions}
use Rattle.flame_parse.specs.Parsing.{joins_unit, IsNoUnit, IsFile, FailsBy}
use Rattle.flame_parse.proofs.Derivations.{unit_goes}

unit_passes : (J : List Lexeme) (ts mid : List Token) → Passes J (many (form a_def) ∷ []) ts mid → Passes J (form a_unit ∷ []) ts mid
unit_passes J ts mid p = record { shorter = p.shorter; goes = λ K e h. expand (p.goes K e h); bound = λ K e b h. p.bound K e b (at_form h) }

unit_halts : (J : List Lexeme) (ts stop : List Token) → Halts J (many (form a_def) ∷ []) ts stop → Halts J (form a_unit ∷ []) ts stop
unit_halts J ts stop p = record { shorter = p.shorter; goes = λ K. expand (p.goes K); bound = λ K e b h. p.bound K e b (at_form h) }

pub whole_unit : (tokens : List Token) (end : ℕ) (ds : List Defined) → NestsWithin 64 tokens → Definitions (drop 0 tokens) ds (drop end tokens) → length tokens ≤ end → IsFile tokens ds
whole_unit tokens end ds f r n = record { nests = f; tree = subst (Definitions tokens ds) (drop_of_length-le tokens n) r }

not_whole : (ts stop : List Token) (ds : List Defined) → Halts joins_unit (form a_unit ∷ []) ts stop → Definitions ts ds [] → ⊥
not_whole ts stop ds h r = let i = h.bound [] (whole []) (blocks_none joins_unit) (unit_goes ts [] ds (whole []) r done) in absurd (omega (arith, i))

pub stopped_unit : (tokens : List Token) (n : ℕ) → NestsWithin 64 tokens → Stopped joins_unit (many (form a_def) ∷ []) tokens 0 n → IsNoUnit tokens n
stopped_unit tokens n f p =
    let h : Halts joins_unit (form a_unit ∷ []) tokens (drop n tokens) = unit_halts joins_unit tokens (drop n tokens) p.halts in
    record {
      nests = f;
      longest = halted_longest joins_unit a_unit tokens n p.within h;
      none = λ ds r. not_whole tokens (drop n tokens) ds h r;
    }

pub ended_unit : (tokens : List Token) (n : ℕ) → NestsWithin 64 tokens → n < length tokens → Ended joins_unit (many (form a_def) ∷ []) tokens 0 n → IsNoUnit tokens n
ended_unit tokens n f l p =
    let h : Passes joins_unit (form a_unit ∷ []) tokens (drop n tokens) = unit_passes joins_unit tokens (drop n tokens) p.passes in
    record {
      nests = f;
      longest = passed_longest joins_unit a_unit tokens n p.within h;
      none = λ ds r. passed_not_all joins_unit a_unit tokens (drop n tokens) (omega (arith, l, length-drop n tokens)) h (unit_goes tokens [] ds (whole []) r done);
    }

failed : (tokens : List Token) (f : Fail ParseFault) → NestsWithin 64 tokens → Fails f (Stopped joins_unit (many (form a_def) ∷ []) tokens 0) → FailsBy tokens f
failed tokens NoMemory g h = tt
failed tokens (Fault (TooDeep n)) g h = absurd h
failed tokens (Fault (Syntax n)) g h = stopped_unit tokens n g h

-- the fault of the reader of definitions, passed on
pub fails_unit : {T : Type 0} (tokens : List Token) (r : Result T (Fail ParseFault)) (f : Fail ParseFault) → IsErrAnd r (λ e. e ≡ f) → NestsWithin 64
    tokens → Fails f (Stopped joins_unit (many (form a_def) ∷ []) tokens 0) → IfErr r (FailsBy tokens)
fails_unit tokens (Ok x) f i g h = tt
fails_unit tokens (Err e) f i g h = subst (FailsBy tokens) (sym i) (failed tokens f g h)
