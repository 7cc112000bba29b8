-- Rests that share their first part.
use Rattle.std.proofs.Common.{◌≡◌, ◌⊎◌, inl, inr, ℕ, ◌<◌, ◌≤◌, List, [], ◌∷◌, length, drop, sym, subst, arith, Bool, true}
use Rattle.flame_lex.specs.declared.token.Token.{Token}
use Rattle.flame_expr.specs.declared.lexemes.Lexeme.{Lexeme}
use Rattle.flame_expr.specs.ViablePrefixes.{Symbol, End, left, Goes}
use Rattle.flame_expr.specs.ReadParts.{onto, left_of, StopsAt, Blocks, Passes, Halts, Ended, Stopped}
use Rattle.flame_expr.proofs.LexemeFacts.{and, and_left, and_right}
use Rattle.flame_expr.proofs.Parts.{GoesAny, onto-onto, fine, keeps, stops_before}
use Rattle.flame_expr.proofs.Ends.{EndedAny, StoppedAny}

-- the rests, each behind the same part
abbrev pub fronted : List Symbol → List (List Symbol) → List (List Symbol)
fronted X [] = []
fronted X (Y ∷ B) = onto X Y ∷ fronted X B

abbrev pub all_fine : List Lexeme → List Lexeme → List (List Symbol) → Bool
all_fine J G [] = true
all_fine J G (Y ∷ B) = and (fine J G Y) (all_fine J G B)

-- forwards, past the part
front_goes : (X K : List Symbol) (B : List (List Symbol)) (ts mid : List Token) (e : End) → ((Y : List Symbol) → Goes Y mid e → Goes (onto X Y) ts e) → GoesAny B K mid e → GoesAny (fronted X B) K ts e
front_goes X K [] ts mid e f h = h
front_goes X K (Y ∷ B) ts mid e f h = elim h [
  | inl i ↦ inl (subst (λ Z. Goes Z ts e) (sym (onto-onto X Y K)) (f (onto Y K) i))
  | inr i ↦ inr (front_goes X K B ts mid e f i)
]

-- backwards: they end before the part's end, or go on behind it
front_bound : (J G : List Lexeme) (X K : List Symbol) (B : List (List Symbol)) (ts mid : List Token) (e : End) → all_fine J G B ≡ true → Blocks G K →
    Passes J X ts mid → GoesAny (fronted X B) K ts e → (length mid < length (left_of e)) ⊎ GoesAny B K mid e
front_bound J G X K [] ts mid e c b p h = absurd h
front_bound J G X K (Y ∷ B) ts mid e c b p h = elim h [
  | inl i ↦ elim (p.bound (onto Y K) e (keeps J G Y K (and_left (fine J G Y) (all_fine J G B) c) b) (subst (λ Z. Goes Z ts e) (onto-onto X Y K) i)) [ inl j ↦ inl j | inr j ↦ inr (inl j) ]
  | inr i ↦ elim (front_bound J G X K B ts mid e (and_right (fine J G Y) (all_fine J G B) c) b p i) [ inl j ↦ inl j | inr j ↦ inr (inr j) ]
]

pub front_ended : (J G : List Lexeme) (X : List Symbol) (B : List (List Symbol)) (tokens : List Token) (at mid end : ℕ) → all_fine J G B ≡ true →
    Ended J X tokens at mid → EndedAny G B tokens mid end → EndedAny G (fronted X B) tokens at end
front_ended J G X B tokens at mid end c p q =
    let l : length (drop end tokens) ≤ length (drop mid tokens) = q.passes.shorter in
    record {
      ahead = omega (arith, p.ahead, q.ahead);
      within = q.within;
      passes = record {
        shorter = omega (arith, p.passes.shorter, l);
        goes = λ K e h. front_goes X K B (drop at tokens) (drop mid tokens) e (λ Y i. p.passes.goes Y e i) (q.passes.goes K e h);
        bound = λ K e b h. elim (front_bound J G X K B (drop at tokens) (drop mid tokens) e c b p.passes h) [
          | inl i ↦ inl (omega (arith, l, i))
          | inr i ↦ q.passes.bound K e b i
        ];
      };
    }

pub front_stopped : (J G : List Lexeme) (X : List Symbol) (B : List (List Symbol)) (tokens : List Token) (at mid stop : ℕ) → all_fine J G B ≡ true →
    Ended J X tokens at mid → StoppedAny G B tokens mid stop → StoppedAny G (fronted X B) tokens at stop
front_stopped J G X B tokens at mid stop c p q =
    let l : length (drop stop tokens) ≤ length (drop mid tokens) = q.halts.shorter in
    record {
      ahead = omega (arith, p.ahead, q.ahead);
      within = q.within;
      halts = record {
        shorter = omega (arith, p.passes.shorter, l);
        goes = λ K. front_goes X K B (drop at tokens) (drop mid tokens) (left (drop stop tokens)) (λ Y i. p.passes.goes Y (left (drop stop tokens)) i) (q.halts.goes K);
        bound = λ K e b h. elim (front_bound J G X K B (drop at tokens) (drop mid tokens) e c b p.passes h) [
          | inl i ↦ stops_before (drop stop tokens) e (omega (arith, l, i))
          | inr i ↦ q.halts.bound K e b i
        ];
      };
    }

-- the part itself stops
stop_goes : (X K : List Symbol) (B : List (List Symbol)) (ts stop : List Token) → 0 < length B → ((Y : List Symbol) → Goes (onto X Y) ts (left stop)) → GoesAny (fronted X B) K ts (left stop)
stop_goes X K [] ts stop n f = absurd (omega arith)
stop_goes X K (Y ∷ B) ts stop n f = inl (subst (λ Z. Goes Z ts (left stop)) (sym (onto-onto X Y K)) (f (onto Y K)))

stop_bound : (J G : List Lexeme) (X K : List Symbol) (B : List (List Symbol)) (ts stop : List Token) (e : End) → all_fine J G B ≡ true → Blocks G K →
    Halts J X ts stop → GoesAny (fronted X B) K ts e → StopsAt stop e
stop_bound J G X K [] ts stop e c b p h = absurd h
stop_bound J G X K (Y ∷ B) ts stop e c b p h = elim h [
  | inl i ↦ p.bound (onto Y K) e (keeps J G Y K (and_left (fine J G Y) (all_fine J G B) c) b) (subst (λ Z. Goes Z ts e) (onto-onto X Y K) i)
  | inr i ↦ stop_bound J G X K B ts stop e (and_right (fine J G Y) (all_fine J G B) c) b p i
]

pub front_stopped_before : (J G : List Lexeme) (X : List Symbol) (B : List (List Symbol)) (tokens : List Token) (at stop : ℕ) → 0 < length B →
    all_fine J G B ≡ true → Stopped J X tokens at stop → StoppedAny G (fronted X B) tokens at stop
front_stopped_before J G X B tokens at stop n c p = record {
  ahead = p.ahead;
  within = p.within;
  halts = record {
    shorter = p.halts.shorter;
    goes = λ K. stop_goes X K B (drop at tokens) (drop stop tokens) n (λ Y. p.halts.goes Y);
    bound = λ K e b h. stop_bound J G X K B (drop at tokens) (drop stop tokens) e c b p.halts h;
  };
}
