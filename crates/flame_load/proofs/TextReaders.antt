-- What texts are read as, by the laws of lexemes, of the grammar and of trees.
use Rattle.std.proofs.Common.{◌≡◌, ◌⊎◌, inl, inr, ℕ, ◌+◌, List, [], ◌∷◌, map, Result, Ok, Err, refl, sym, ap, ◌∙◌, subst, arith}
use Rattle.std.proofs.lemmas.Bool.{cases_lt}
use Rattle.flame_rows.specs.declared.fails.Fail.TheVariants.{Fault}
use Rattle.flame_spec.specs.declared.trees.Unit as file
use Rattle.flame_spec.specs.declared.trees.Def.{Def}
use Rattle.flame_spec.specs.declared.trees.Stmt.{Stmt}
use Rattle.flame_spec.specs.Seen.{statement, statements}
use Rattle.flame_spec_laws.specs.TreeLaws.{StatementsAreTold, StatementsAreSeen}
use Rattle.flame_lex.specs.declared.token.Token.{Token}
use Rattle.flame_lex.specs.declared.fault.LexFault.{LexFault}
use Rattle.flame_lex.specs.Lexing.{Lexes, Faults}
use Rattle.flame_lex.specs.CutLaws.{TokensAreUnique, FaultIsUnique, TokensOrFault, EveryTextIsRead}
use Rattle.flame_expr.specs.declared.faults.ParseFault.{ParseFault}
use Rattle.flame_expr.specs.declared.faults.ParseFault.TheVariants.{TooDeep, Syntax}
use Rattle.flame_expr.specs.Nesting.{IsTooDeep}
use Rattle.flame_expr.specs.ParseFaults.{token_of}
use Rattle.flame_expr.specs.ViablePrefixes.{a_unit, IsLongest}
use Rattle.flame_parse.specs.StatementGrammar.{Defined}
use Rattle.flame_parse.specs.Parsing.{defined, IsFile, IsNoUnit, FailsBy}
use Rattle.flame_parse.specs.ParseLaws.{OneUnit, FilesAreRead}
use Rattle.flame_load.specs.declared.faults.TextFault.{TextFault}
use Rattle.flame_load.specs.declared.faults.TextFault.TheVariants.{Lex, Parse}
use Rattle.flame_load.specs.TextReads.{line_at, IsReadAs}
use Rattle.flame_load.specs.LoadLaws.{ThereIsAReader, TextsAreReadOnce}

-- tokens are read so
abbrev IsParsedAs : List Token → Result file.Unit TextFault → Type 0
IsParsedAs tokens (Ok unit) = IsFile tokens (map defined unit.functions)
IsParsedAs tokens (Err (Lex fault)) = ⊥
IsParsedAs tokens (Err (Parse line fault)) = FailsBy tokens (Fault fault) × (line ≡ line_at tokens (token_of fault))

-- ---- one reading

module _ (told : StatementsAreTold) where
  stmts_told : (ss ts : List Stmt) → statements ss ≡ statements ts → ss ≡ ts
  stmts_told [] [] e = refl
  stmts_told [] (t ∷ ts) e = absurd (cc)
  stmts_told (s ∷ ss) [] e = absurd (cc)
  stmts_told (s ∷ ss) (t ∷ ts) e =
      let one : statement s ≡ statement t = cc in
      let more : statements ss ≡ statements ts = cc in
      λ i. told s t one i ∷ stmts_told ss ts more i

  defs_told : (ds es : List Def) → map defined ds ≡ map defined es → ds ≡ es
  defs_told [] [] e = refl
  defs_told [] (d ∷ ds) e = absurd (cc)
  defs_told (d ∷ ds) [] e = absurd (cc)
  defs_told (d ∷ ds) (e ∷ es) same =
      let one : defined d ≡ defined e = cc in
      let more : map defined ds ≡ map defined es = cc in
      λ i. record {
        name = ap (λ (x : Defined). x.name) one i;
        line = ap (λ (x : Defined). x.line) one i;
        parameters = ap (λ (x : Defined). x.parameters) one i;
        body = stmts_told d.body e.body (ap (λ (x : Defined). x.body) one) i;
      } ∷ defs_told ds es more i

too_deep_once : (tokens : List Token) (n m : ℕ) → IsTooDeep 64 tokens n → IsTooDeep 64 tokens m → n ≡ m
too_deep_once tokens n m a b = elim (cases_lt n m) [
  | inl i ↦ absurd (a.exceeds (b.before (n + 1) (omega (arith, i))))
  | inr i ↦ (elim (cases_lt m n) [
    | inl j ↦ absurd (b.exceeds (a.before (m + 1) (omega (arith, j))))
    | inr j ↦ omega (arith, i, j)
  ])
]

longest_once : (tokens : List Token) (n m : ℕ) → IsLongest a_unit tokens n → IsLongest a_unit tokens m → n ≡ m
longest_once tokens n m a b = elim (cases_lt n m) [
  | inl i ↦ absurd (a.longest m i b.within b.is_prefix)
  | inr i ↦ (elim (cases_lt m n) [
    | inl j ↦ absurd (b.longest n j a.within a.is_prefix)
    | inr j ↦ omega (arith, i, j)
  ])
]

fault_once :
    (tokens : List Token) (fault other : ParseFault)
    → FailsBy tokens (Fault fault)
    → FailsBy tokens (Fault other)
    → fault ≡ other
fault_once tokens (TooDeep n) (TooDeep m) a b = ap TooDeep (too_deep_once tokens n m a b)
fault_once tokens (TooDeep n) (Syntax m) a b = absurd (a.exceeds (b.nests (n + 1)))
fault_once tokens (Syntax n) (TooDeep m) a b = absurd (b.exceeds (a.nests (m + 1)))
fault_once tokens (Syntax n) (Syntax m) a b = ap Syntax (longest_once tokens n m a.longest b.longest)

-- a file has no fault
no_fault : (tokens : List Token) (ds : List Defined) (fault : ParseFault) → IsFile tokens ds → FailsBy tokens (Fault fault) → ⊥
no_fault tokens ds (TooDeep n) f a = a.exceeds (f.nests (n + 1))
no_fault tokens ds (Syntax n) f a = a.none ds f.tree

module _ (one : OneUnit) (told : StatementsAreTold) where
  parsed_once :
      (tokens : List Token) (a b : Result file.Unit TextFault)
      → IsParsedAs tokens a
      → IsParsedAs tokens b
      → a ≡ b
  parsed_once tokens (Ok u) (Ok v) x y =
      let same = defs_told told u.functions v.functions
      (one tokens (map defined u.functions) (map defined v.functions) x.tree y.tree) in
      λ i. Ok (record { functions = same i })
  parsed_once tokens (Ok u) (Err (Lex fault)) x y = absurd y
  parsed_once tokens (Ok u) (Err (Parse line fault)) x y = absurd (no_fault tokens (map defined u.functions) fault x y.0)
  parsed_once tokens (Err (Lex fault)) b x y = absurd x
  parsed_once tokens (Err (Parse line fault)) (Ok v) x y = absurd (no_fault tokens (map defined v.functions) fault y x.0)
  parsed_once tokens (Err (Parse line fault)) (Err (Lex other)) x y = absurd y
  parsed_once tokens (Err (Parse line fault)) (Err (Parse line' other)) x y =
      let same = fault_once tokens fault other x.0 y.0 in
      let lines : line ≡ line' = x.1 ∙ (ap (λ f. line_at tokens (token_of f)) same ∙ sym y.1) in
      λ i. Err (Parse (lines i) (same i))

-- what a text is read as, that has tokens, its tokens are read as; or it has no tokens
split :
    (bytes : List ℕ) (a : Result file.Unit TextFault)
    → IsReadAs bytes a
    → ((tokens : List Token) × Lexes bytes tokens × IsParsedAs tokens a)
    ⊎ ((fault : LexFault) × Faults bytes fault × (a ≡ Err (Lex fault)))
split bytes (Ok unit) is = inl (is.0, is.1, is.2)
split bytes (Err (Lex fault)) is = inr (fault, is, refl)
split bytes (Err (Parse line fault)) is = inl (is.0, is.1, (is.2, is.3))

pub texts_are_read_once :
    OneUnit → StatementsAreTold → TokensAreUnique → FaultIsUnique → TokensOrFault → TextsAreReadOnce
texts_are_read_once one told tokens_once faults_once apart bytes a b x y = elim (split bytes a x) [
  | inl l ↦ (elim (split bytes b y) [
    | inl m ↦ parsed_once one told l.0 a b l.2
        (subst (λ tokens. IsParsedAs tokens b) (tokens_once bytes m.0 l.0 m.1 l.1) m.2)
    | inr f ↦ absurd (apart bytes l.0 f.0 l.1 f.1)
  ])
  | inr f ↦ (elim (split bytes b y) [
    | inl m ↦ absurd (apart bytes m.0 f.0 m.1 f.1)
    | inr g ↦ f.2 ∙ (ap (λ (h : LexFault). Err (Lex h)) (faults_once bytes f.0 g.0 f.1 g.1) ∙ sym g.2)
  ])
]

-- ---- some reading

module _ (seen : StatementsAreSeen) where
  abbrev def_of : Defined → Def
  def_of d = record { name = d.name; line = d.line; parameters = d.parameters; body = (seen d.body).0 }

  defs_seen : (ds : List Defined) → map defined (map def_of ds) ≡ ds
  defs_seen [] = refl
  defs_seen (d ∷ ds) = λ i.
      record { line = d.line; name = d.name; parameters = d.parameters; body = (seen d.body).1 i } ∷ defs_seen ds i

  reads_tokens :
      (bytes : List ℕ) (tokens : List Token)
      → Lexes bytes tokens
      → ((ds : List Defined) × IsFile tokens ds)
      ⊎ (((n : ℕ) × IsTooDeep 64 tokens n)
      ⊎ ((n : ℕ) × IsNoUnit tokens n))
      → (found : Result file.Unit TextFault) × IsReadAs bytes found
  reads_tokens bytes tokens lexes (inl f) =
      (Ok (record { functions = map def_of f.0 }), (tokens, lexes, subst (IsFile tokens) (sym (defs_seen f.0)) f.1))
  reads_tokens bytes tokens lexes (inr (inl d)) = (Err (Parse (line_at tokens d.0) (TooDeep d.0)), (tokens, lexes, d.1, refl))
  reads_tokens bytes tokens lexes (inr (inr u)) = (Err (Parse (line_at tokens u.0) (Syntax u.0)), (tokens, lexes, u.1, refl))

  reads_text :
      FilesAreRead
      → (bytes : List ℕ)
      → ((tokens : List Token) × Lexes bytes tokens)
      ⊎ ((fault : LexFault) × Faults bytes fault)
      → (found : Result file.Unit TextFault) × IsReadAs bytes found
  reads_text files bytes (inl l) = reads_tokens bytes l.0 l.1 (files l.0)
  reads_text files bytes (inr f) = (Err (Lex f.0), f.1)

  pub there_is_a_reader : FilesAreRead → EveryTextIsRead → ThereIsAReader
  there_is_a_reader files texts =
      (λ bytes. (reads_text files bytes (texts bytes)).0, λ bytes. (reads_text files bytes (texts bytes)).1)
