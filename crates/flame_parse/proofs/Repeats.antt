-- Rests that repeat a part.
use Rattle.std.proofs.Common.{◌≡◌, inl, inr, ℕ, ◌<◌, ◌≤◌, List, [], ◌∷◌, length, drop, refl, arith, true, length-drop}
use Rattle.flame_lex.specs.declared.token.Token.{Token}
use Rattle.flame_expr.specs.declared.lexemes.Lexeme.{Lexeme}
use Rattle.flame_expr.specs.Lexemes.{first, behind, is_real}
use Rattle.flame_expr.specs.ViablePrefixes.{Symbol, many, left, Goes, more}
use Rattle.flame_expr.specs.ReadParts.{Passes, Halts, Ended, Stopped}
use Rattle.flame_expr.proofs.LexemeFacts.{and_left}
use Rattle.flame_expr.proofs.Walk.{at_many}
use Rattle.flame_expr.proofs.Parts.{any_heads, stay_any, pasts, joins_on, fine, keeps, blocked, ends_before, stops_before, behind_shorter, go_on}
use Rattle.flame_expr.proofs.LongestPrefixes.{blocks_none}

-- one more part of those that repeat
many_passes : (I J : List Lexeme) (x : Symbol) (ts mid end : List Token) → joins_on (first ts) J ≡ true → fine I J (many x ∷ []) ≡ true → length mid <
    length ts → Passes I (x ∷ []) ts mid → Passes J (many x ∷ []) mid end → Passes J (many x ∷ []) ts end
many_passes I J x ts mid end j c n p q =
    let l : length end < length ts = omega (arith, q.shorter, n) in
    let m : length end ≤ length mid = q.shorter in
    record {
      shorter = omega (arith, l);
      goes = λ K e h. more (p.goes (many x ∷ K) e (q.goes K e h));
      bound = λ K e b h. elim (at_many h) [
        | inl g ↦ elim (p.bound (many x ∷ K) e (keeps I J (many x ∷ []) K c b) g) [ inl i ↦ inl (omega (arith, i, m)) | inr i ↦ q.bound K e b i ]
        | inr g ↦ inl (ends_before ts end e l (blocked J K ts e j b g))
      ];
    }

many_halts : (I J : List Lexeme) (x : Symbol) (ts mid stop : List Token) → joins_on (first ts) J ≡ true → fine I J (many x ∷ []) ≡ true → length mid <
    length ts → Passes I (x ∷ []) ts mid → Halts J (many x ∷ []) mid stop → Halts J (many x ∷ []) ts stop
many_halts I J x ts mid stop j c n p q =
    let l : length stop < length ts = omega (arith, q.shorter, n) in
    let m : length stop ≤ length mid = q.shorter in
    record {
      shorter = omega (arith, l);
      goes = λ K. more (p.goes (many x ∷ K) (left stop) (q.goes K));
      bound = λ K e b h. elim (at_many h) [
        | inl g ↦ elim (p.bound (many x ∷ K) e (keeps I J (many x ∷ []) K c b) g) [ inl i ↦ stops_before stop e (omega (arith, i, m)) | inr i ↦ q.bound K e b i ]
        | inr g ↦ stops_before stop e (ends_before ts stop e l (blocked J K ts e j b g))
      ];
    }

first_halts : (I J : List Lexeme) (x : Symbol) (ts stop : List Token) → joins_on (first ts) J ≡ true → fine I J (many x ∷ []) ≡ true → length stop <
    length ts → Halts I (x ∷ []) ts stop → Halts J (many x ∷ []) ts stop
first_halts I J x ts stop j c n p = record {
  shorter = p.shorter;
  goes = λ K. more (p.goes (many x ∷ K));
  bound = λ K e b h. elim (at_many h) [
    | inl g ↦ p.bound (many x ∷ K) e (keeps I J (many x ∷ []) K c b) g
    | inr g ↦ stops_before stop e (ends_before ts stop e n (blocked J K ts e j b g))
  ];
}

-- what begins with the next token stops behind it
halts_behind : (I : List Lexeme) (x : Symbol) (ts stop : List Token) → is_real (first ts) ≡ true → 0 < length
    (pasts (any_heads ((x ∷ []) ∷ []) (first ts))) → Halts I (x ∷ []) ts stop → length stop < length ts
halts_behind I x ts stop r n p =
    let h : Goes (x ∷ []) ts (left (behind ts)) = go_on (x ∷ []) [] ts (left (behind ts)) (first ts) refl (stay_any (pasts (any_heads ((x ∷ []) ∷ []) (first ts))) [] (behind ts) n) in
    omega (arith, p.bound [] (left (behind ts)) (blocks_none I) h, behind_shorter ts r)

real_if : (d : Lexeme) (J : List Lexeme) → joins_on d J ≡ true → is_real d ≡ true
real_if d J h = and_left (is_real d) _ h

pub many_ended : (I J : List Lexeme) (x : Symbol) (tokens : List Token) (at mid end : ℕ) → fine I J (many x ∷ []) ≡ true → joins_on
    (first (drop at tokens)) J ≡ true → at < mid → Ended I (x ∷ []) tokens at mid → Ended J (many x ∷ []) tokens mid end → Ended J (many x ∷ []) tokens
    at end
many_ended I J x tokens at mid end c j n p q = record {
  ahead = omega (arith, p.ahead, q.ahead);
  within = q.within;
  passes = many_passes I J x (drop at tokens) (drop mid tokens) (drop end tokens) j c (omega (arith, n, p.within, length-drop at tokens, length-drop mid tokens)) p.passes q.passes;
}

pub many_stopped : (I J : List Lexeme) (x : Symbol) (tokens : List Token) (at mid stop : ℕ) → fine I J (many x ∷ []) ≡ true → joins_on
    (first (drop at tokens)) J ≡ true → at < mid → Ended I (x ∷ []) tokens at mid → Stopped J (many x ∷ []) tokens mid stop → Stopped J (many x ∷ [])
    tokens at stop
many_stopped I J x tokens at mid stop c j n p q = record {
  ahead = omega (arith, p.ahead, q.ahead);
  within = q.within;
  halts = many_halts I J x (drop at tokens) (drop mid tokens) (drop stop tokens) j c (omega (arith, n, p.within, length-drop at tokens, length-drop mid tokens)) p.passes q.halts;
}

pub first_stopped : (I J : List Lexeme) (x : Symbol) (tokens : List Token) (at stop : ℕ) → fine I J (many x ∷ []) ≡ true → joins_on
    (first (drop at tokens)) J ≡ true → 0 < length (pasts (any_heads ((x ∷ []) ∷ []) (first (drop at tokens)))) → Stopped I (x ∷ []) tokens at stop →
    Stopped J (many x ∷ []) tokens at stop
first_stopped I J x tokens at stop c j n p = record {
  ahead = p.ahead;
  within = p.within;
  halts = first_halts I J x (drop at tokens) (drop stop tokens) j c (halts_behind I x (drop at tokens) (drop stop tokens) (real_if (first (drop at tokens)) J j) n p.halts) p.halts;
}
