-- How parts that pass or halt make longer ones that do.
use Rattle.std.proofs.Common.{◌≡◌, ◌⊎◌, inl, inr, ℕ, ◌<◌, ◌≤◌, List, [], ◌∷◌, length, refl, sym, ap, ◌∙◌, subst, arith, Bool, true, false}
use Rattle.std.proofs.lemmas.Bool.{false≢true}
use Rattle.flame_lex.specs.declared.token.Token.{Token}
use Rattle.flame_expr.specs.declared.lexemes.Lexeme.{Lexeme}
use Rattle.flame_expr.specs.Lexemes.{lexeme_of, first, behind, is_real}
use Rattle.flame_expr.specs.ViablePrefixes.{Symbol, lexeme, End, left, whole, Goes, stay, match}
use Rattle.flame_expr.specs.ReadParts.{onto, left_of, StopsAt, Blocks, Passes, Halts}
use Rattle.flame_expr.proofs.LexemeFacts.{and, and_left, and_right, or, same, same_equal, among}
use Rattle.flame_expr.proofs.Walk.{at_lexeme}
use Rattle.flame_expr.proofs.Heads.{Head, past, through, unknown, joined, heads, One, one_apart, Heads, left_heads, right_heads, all_heads, from_heads}

-- one of some rests
abbrev pub GoesAny : List (List Symbol) → List Symbol → List Token → End → Type 0
GoesAny [] K ts e = ⊥
GoesAny (X ∷ A) K ts e = Goes (onto X K) ts e ⊎ GoesAny A K ts e

pub record PassesAny (J : List Lexeme) (A : List (List Symbol)) (ts mid : List Token) : Type 0 where
  pub shorter : length mid ≤ length ts
  pub goes : (K : List Symbol) (e : End) → Goes K mid e → GoesAny A K ts e
  pub bound : (K : List Symbol) (e : End) → Blocks J K → GoesAny A K ts e → (length mid < length (left_of e)) ⊎ Goes K mid e

pub record HaltsAny (J : List Lexeme) (A : List (List Symbol)) (ts stop : List Token) : Type 0 where
  pub shorter : length stop ≤ length ts
  pub goes : (K : List Symbol) → GoesAny A K ts (left stop)
  pub bound : (K : List Symbol) (e : End) → Blocks J K → GoesAny A K ts e → StopsAt stop e

pub any_pass : (J : List Lexeme) (X : List Symbol) (ts mid : List Token) → Passes J X ts mid → PassesAny J (X ∷ []) ts mid
any_pass J X ts mid p = record {
  shorter = p.shorter;
  goes = λ K e h. inl (p.goes K e h);
  bound = λ K e b h. elim h [ inl i ↦ p.bound K e b i | inr i ↦ absurd i ];
}

pub one_pass : (J : List Lexeme) (X : List Symbol) (ts mid : List Token) → PassesAny J (X ∷ []) ts mid → Passes J X ts mid
one_pass J X ts mid p = record {
  shorter = p.shorter;
  goes = λ K e h. elim (p.goes K e h) [ inl i ↦ i | inr i ↦ absurd i ];
  bound = λ K e b h. p.bound K e b (inl h);
}

pub any_halt : (J : List Lexeme) (X : List Symbol) (ts stop : List Token) → Halts J X ts stop → HaltsAny J (X ∷ []) ts stop
any_halt J X ts stop p = record {
  shorter = p.shorter;
  goes = λ K. inl (p.goes K);
  bound = λ K e b h. elim h [ inl i ↦ p.bound K e b i | inr i ↦ absurd i ];
}

pub one_halt : (J : List Lexeme) (X : List Symbol) (ts stop : List Token) → HaltsAny J (X ∷ []) ts stop → Halts J X ts stop
one_halt J X ts stop p = record {
  shorter = p.shorter;
  goes = λ K. elim (p.goes K) [ inl i ↦ i | inr i ↦ absurd i ];
  bound = λ K e b h. p.bound K e b (inl h);
}

abbrev pub reach : ℕ
reach = 60

abbrev pub any_heads : List (List Symbol) → Lexeme → List Head
any_heads [] d = []
any_heads (X ∷ A) d = joined (heads reach X d) (any_heads A d)

pub any_all : (A : List (List Symbol)) (K : List Symbol) (ts : List Token) (e : End) → GoesAny A K ts e → Heads (any_heads A (first ts)) K ts e
any_all [] K ts e h = absurd h
any_all (X ∷ A) K ts e h = elim h [
  | inl i ↦ left_heads _ _ K ts e (all_heads reach X K ts e i)
  | inr i ↦ right_heads (heads reach X (first ts)) _ K ts e (any_all A K ts e i)
]

pub any_from : (A : List (List Symbol)) (K : List Symbol) (ts : List Token) (e : End) → One (any_heads A (first ts)) K ts e → GoesAny A K ts e
any_from [] K ts e h = absurd h
any_from (X ∷ A) K ts e h = elim (one_apart (heads reach X (first ts)) _ K ts e h) [
  | inl i ↦ inl (from_heads reach X K ts e i)
  | inr i ↦ inr (any_from A K ts e i)
]

-- the rests behind the next lexeme
abbrev pub pasts : List Head → List (List Symbol)
pasts [] = []
pasts (past Y ∷ hs) = Y ∷ pasts hs
pasts (through ∷ hs) = pasts hs
pasts (unknown Y ∷ hs) = pasts hs

-- all is known, and where what follows would have to match, it may not
abbrev pub clean : List Head → Bool → Bool
clean [] b = true
clean (past Y ∷ hs) b = clean hs b
clean (through ∷ hs) b = and b (clean hs b)
clean (unknown Y ∷ hs) b = false

-- no head matches, and what follows may not
abbrev pub quiet : List Head → Bool → Bool
quiet [] b = true
quiet (past Y ∷ hs) b = false
quiet (through ∷ hs) b = and b (quiet hs b)
quiet (unknown Y ∷ hs) b = false

-- what follows has to match
abbrev pub ends_here : List Head → Bool
ends_here [] = false
ends_here (past Y ∷ hs) = false
ends_here (through ∷ []) = true
ends_here (through ∷ h ∷ hs) = ends_here (h ∷ hs)
ends_here (unknown Y ∷ hs) = false

clean_one : (hs : List Head) (b : Bool) (K : List Symbol) (ts : List Token) (e : End) → clean hs b ≡ true → One hs K ts e → GoesAny (pasts hs) K (behind ts) e ⊎ ((b ≡ true) × Goes K ts e)
clean_one [] b K ts e c h = absurd h
clean_one (past Y ∷ hs) b K ts e c h = elim h [
  | inl i ↦ inl (inl i)
  | inr i ↦ elim (clean_one hs b K ts e c i) [ inl j ↦ inl (inr j) | inr j ↦ inr j ]
]
clean_one (through ∷ hs) b K ts e c h = elim h [
  | inl i ↦ inr (and_left b _ c, i)
  | inr i ↦ clean_one hs b K ts e (and_right b _ c) i
]
clean_one (unknown Y ∷ hs) b K ts e c h = absurd (false≢true c)

pub pasts_one : (hs : List Head) (K : List Symbol) (ts : List Token) (e : End) → GoesAny (pasts hs) K (behind ts) e → One hs K ts e
pasts_one [] K ts e h = absurd h
pasts_one (past Y ∷ hs) K ts e h = elim h [ inl i ↦ inl i | inr i ↦ inr (pasts_one hs K ts e i) ]
pasts_one (through ∷ hs) K ts e h = inr (pasts_one hs K ts e h)
pasts_one (unknown Y ∷ hs) K ts e h = inr (pasts_one hs K ts e h)

quiet_one : (hs : List Head) (b : Bool) (K : List Symbol) (ts : List Token) (e : End) → quiet hs b ≡ true → One hs K ts e → (b ≡ true) × Goes K ts e
quiet_one [] b K ts e c h = absurd h
quiet_one (past Y ∷ hs) b K ts e c h = absurd (false≢true c)
quiet_one (through ∷ hs) b K ts e c h = elim h [
  | inl i ↦ (and_left b _ c, i)
  | inr i ↦ quiet_one hs b K ts e (and_right b _ c) i
]
quiet_one (unknown Y ∷ hs) b K ts e c h = absurd (false≢true c)

ends_one : (hs : List Head) (K : List Symbol) (ts : List Token) (e : End) → ends_here hs ≡ true → One hs K ts e → Goes K ts e
ends_one [] K ts e c h = absurd h
ends_one (past Y ∷ hs) K ts e c h = absurd (false≢true c)
ends_one (through ∷ []) K ts e c h = elim h [ inl i ↦ i | inr i ↦ absurd i ]
ends_one (through ∷ h' ∷ hs) K ts e c h = elim h [ inl i ↦ i | inr i ↦ ends_one (h' ∷ hs) K ts e c i ]
ends_one (unknown Y ∷ hs) K ts e c h = absurd (false≢true c)

one_ends : (hs : List Head) (K : List Symbol) (ts : List Token) (e : End) → ends_here hs ≡ true → Goes K ts e → One hs K ts e
one_ends [] K ts e c h = absurd (false≢true c)
one_ends (past Y ∷ hs) K ts e c h = absurd (false≢true c)
one_ends (through ∷ hs) K ts e c h = inl h
one_ends (unknown Y ∷ hs) K ts e c h = absurd (false≢true c)

-- whether what follows may not begin so
abbrev pub joins_on : Lexeme → List Lexeme → Bool
joins_on d J = and (is_real d) (among d J)

or_true : (a b : Bool) → or a b ≡ true → (a ≡ true) ⊎ (b ≡ true)
or_true true b h = inl refl
or_true false b h = inr h

blocked_by : (d : Lexeme) (J : List Lexeme) (K : List Symbol) (token : Token) (ts : List Token) (e : End) → lexeme_of token.kind ≡ d → among d J ≡
    true → Blocks J K → Goes K (token ∷ ts) e → length (token ∷ ts) ≤ length (left_of e)
blocked_by d [] K token ts e f m b h = absurd (false≢true m)
blocked_by d (l ∷ J) K token ts e f m b h = elim (or_true (same l d) (among d J) m) [
  | inl i ↦ b.0 token ts e (f ∙ sym (same_equal l d i)) h
  | inr i ↦ blocked_by d J K token ts e f i b.1 h
]

pub blocked : (J : List Lexeme) (K : List Symbol) (ts : List Token) (e : End) → joins_on (first ts) J ≡ true → Blocks J K → Goes K ts e → length ts ≤ length (left_of e)
blocked J K [] e j b h = absurd (false≢true j)
blocked J K (token ∷ ts) e j b h = blocked_by (lexeme_of token.kind) J K token ts e refl (and_right (is_real (lexeme_of token.kind)) _ j) b h

-- no further than a longer list
pub ends_before : (ts us : List Token) (e : End) → length us < length ts → length ts ≤ length (left_of e) → length us < length (left_of e)
ends_before ts us e n h = omega arith

pub stops_before : (stop : List Token) (e : End) → length stop < length (left_of e) → StopsAt stop e
stops_before stop (left ts) h = omega arith
stops_before stop (whole ts) h = h

pub stays_at : (ts stop : List Token) (e : End) → length stop ≤ length ts → e ≡ left ts → StopsAt stop e
stays_at ts stop e n f = subst (StopsAt stop) (sym f) n

pub left_length : (ts : List Token) (e : End) → e ≡ left ts → length ts ≤ length (left_of e)
left_length ts e f = let g : length (left_of e) ≡ length ts = ap (λ x. length (left_of x)) f in omega arith

pub behind_shorter : (ts : List Token) → is_real (first ts) ≡ true → length (behind ts) < length ts
behind_shorter [] r = absurd (false≢true r)
behind_shorter (token ∷ ts) r = omega arith

-- past the next lexeme
pub enter_pass : (J : List Lexeme) (A : List (List Symbol)) (ts end : List Token) (a : Lexeme) → is_real a ≡ true → clean (any_heads A a)
    (joins_on a J) ≡ true → first ts ≡ a → PassesAny J (pasts (any_heads A a)) (behind ts) end → PassesAny J A ts end
enter_pass J A ts end a r c f p =
    let l : length end < length ts = omega (arith, p.shorter, behind_shorter ts (ap is_real f ∙ r)) in
    let c' : clean (any_heads A (first ts)) (joins_on (first ts) J) ≡ true = ap (λ d. clean (any_heads A d) (joins_on d J)) f ∙ c in
    let p' : PassesAny J (pasts (any_heads A (first ts))) (behind ts) end = subst (λ d. PassesAny J (pasts (any_heads A d)) (behind ts) end) (sym f) p in
    record {
      shorter = omega (arith, l);
      goes = λ K e h. any_from A K ts e (pasts_one (any_heads A (first ts)) K ts e (p'.goes K e h));
      bound = λ K e b h. elim (any_all A K ts e h) [
        | inl i ↦ inl (ends_before ts end e l (left_length ts e i))
        | inr i ↦ elim (clean_one (any_heads A (first ts)) (joins_on (first ts) J) K ts e c' i) [
          | inl j ↦ p'.bound K e b j
          | inr j ↦ inl (ends_before ts end e l (blocked J K ts e j.0 b j.1))
        ]
      ];
    }

pub enter_halt : (J : List Lexeme) (A : List (List Symbol)) (ts stop : List Token) (a : Lexeme) → is_real a ≡ true → clean (any_heads A a)
    (joins_on a J) ≡ true → first ts ≡ a → HaltsAny J (pasts (any_heads A a)) (behind ts) stop → HaltsAny J A ts stop
enter_halt J A ts stop a r c f p =
    let l : length stop < length ts = omega (arith, p.shorter, behind_shorter ts (ap is_real f ∙ r)) in
    let m : length stop ≤ length ts = omega (arith, l) in
    let c' : clean (any_heads A (first ts)) (joins_on (first ts) J) ≡ true = ap (λ d. clean (any_heads A d) (joins_on d J)) f ∙ c in
    let p' : HaltsAny J (pasts (any_heads A (first ts))) (behind ts) stop = subst (λ d. HaltsAny J (pasts (any_heads A d)) (behind ts) stop) (sym f) p in
    record {
      shorter = m;
      goes = λ K. any_from A K ts (left stop) (pasts_one (any_heads A (first ts)) K ts (left stop) (p'.goes K));
      bound = λ K e b h. elim (any_all A K ts e h) [
        | inl i ↦ stays_at ts stop e m i
        | inr i ↦ elim (clean_one (any_heads A (first ts)) (joins_on (first ts) J) K ts e c' i) [
          | inl j ↦ p'.bound K e b j
          | inr j ↦ stops_before stop e (ends_before ts stop e l (blocked J K ts e j.0 b j.1))
        ]
      ];
    }

-- nothing is taken
pub pass_here : (J : List Lexeme) (A : List (List Symbol)) (ts : List Token) → ends_here (any_heads A (first ts)) ≡ true → PassesAny J A ts ts
pass_here J A ts c = record {
  shorter = omega arith;
  goes = λ K e h. any_from A K ts e (one_ends (any_heads A (first ts)) K ts e c h);
  bound = λ K e b h. elim (any_all A K ts e h) [
    | inl i ↦ inr (subst (Goes K ts) (sym i) stay)
    | inr i ↦ inr (ends_one (any_heads A (first ts)) K ts e c i)
  ];
}

pub stay_any : (A : List (List Symbol)) (K : List Symbol) (ts : List Token) → 0 < length A → GoesAny A K ts (left ts)
stay_any [] K ts n = absurd (omega arith)
stay_any (X ∷ A) K ts n = inl stay

-- whether there is no head
abbrev pub none : List Head → Bool
none [] = true
none (h ∷ hs) = false

none_one : (hs : List Head) (K : List Symbol) (ts : List Token) (e : End) → none hs ≡ true → One hs K ts e → ⊥
none_one [] K ts e c h = h
none_one (x ∷ hs) K ts e c h = false≢true c

-- nothing goes on
pub halt_here : (J : List Lexeme) (A : List (List Symbol)) (ts : List Token) → 0 < length A → none (any_heads A (first ts)) ≡ true → HaltsAny J A ts ts
halt_here J A ts n c = record {
  shorter = omega arith;
  goes = λ K. stay_any A K ts n;
  bound = λ K e b h. elim (any_all A K ts e h) [
    | inl i ↦ stays_at ts ts e (omega arith) i
    | inr i ↦ absurd (none_one (any_heads A (first ts)) K ts e c i)
  ];
}

pub onto-onto : (X Y K : List Symbol) → onto (onto X Y) K ≡ onto X (onto Y K)
onto-onto [] Y K = refl
onto-onto (x ∷ X) Y K = ap (λ Z. x ∷ Z) (onto-onto X Y K)

-- these symbols, and what follows them, go nowhere on what joins
abbrev pub fine : List Lexeme → List Lexeme → List Symbol → Bool
fine [] G X = true
fine (l ∷ J) G X = and (quiet (heads reach X l) (joins_on l G)) (fine J G X)

pub keeps : (J G : List Lexeme) (X K : List Symbol) → fine J G X ≡ true → Blocks G K → Blocks J (onto X K)
keeps [] G X K c b = tt
keeps (l ∷ J) G X K c b =
    let q : quiet (heads reach X l) (joins_on l G) ≡ true = and_left (quiet (heads reach X l) (joins_on l G)) _ c in (
      λ token ts e f h. (let q' : quiet (heads reach X (lexeme_of token.kind)) (joins_on (lexeme_of token.kind) G) ≡ true = ap (λ d. quiet (heads reach X d) (joins_on d G)) f ∙ q in
          elim (all_heads reach X K (token ∷ ts) e h) [
            | inl i ↦ left_length (token ∷ ts) e i
            | inr i ↦ (let j = quiet_one (heads reach X (lexeme_of token.kind)) (joins_on (lexeme_of token.kind) G) K (token ∷ ts) e q' i in blocked G K (token ∷ ts) e j.0 b j.1)
          ]),
      keeps J G X K (and_right (quiet (heads reach X l) (joins_on l G)) _ c) b,
    )

-- one part after another
pub pass_then : (J G : List Lexeme) (X Y : List Symbol) (ts mid end : List Token) → fine J G Y ≡ true → Passes J X ts mid → Passes G Y mid end → Passes G (onto X Y) ts end
pass_then J G X Y ts mid end c p q =
    let l : length end ≤ length mid = q.shorter in
    record {
      shorter = omega (arith, p.shorter, q.shorter);
      goes = λ K e h. subst (λ Z. Goes Z ts e) (sym (onto-onto X Y K)) (p.goes (onto Y K) e (q.goes K e h));
      bound = λ K e b h. elim (p.bound (onto Y K) e (keeps J G Y K c b) (subst (λ Z. Goes Z ts e) (onto-onto X Y K) h)) [
        | inl i ↦ inl (omega (arith, l, i))
        | inr i ↦ q.bound K e b i
      ];
    }

pub halt_then : (J G : List Lexeme) (X Y : List Symbol) (ts mid stop : List Token) → fine J G Y ≡ true → Passes J X ts mid → Halts G Y mid stop → Halts G (onto X Y) ts stop
halt_then J G X Y ts mid stop c p q =
    let l : length stop ≤ length mid = q.shorter in
    record {
      shorter = omega (arith, p.shorter, q.shorter);
      goes = λ K. subst (λ Z. Goes Z ts (left stop)) (sym (onto-onto X Y K)) (p.goes (onto Y K) (left stop) (q.goes K));
      bound = λ K e b h. elim (p.bound (onto Y K) e (keeps J G Y K c b) (subst (λ Z. Goes Z ts e) (onto-onto X Y K) h)) [
        | inl i ↦ stops_before stop e (omega (arith, l, i))
        | inr i ↦ q.bound K e b i
      ];
    }

pub halt_before : (J G : List Lexeme) (X Y : List Symbol) (ts stop : List Token) → fine J G Y ≡ true → Halts J X ts stop → Halts G (onto X Y) ts stop
halt_before J G X Y ts stop c p = record {
  shorter = p.shorter;
  goes = λ K. subst (λ Z. Goes Z ts (left stop)) (sym (onto-onto X Y K)) (p.goes (onto Y K));
  bound = λ K e b h. p.bound (onto Y K) e (keeps J G Y K c b) (subst (λ Z. Goes Z ts e) (onto-onto X Y K) h);
}

pub pass_weaker : (J G : List Lexeme) (X : List Symbol) (ts mid : List Token) → fine J G [] ≡ true → Passes J X ts mid → Passes G X ts mid
pass_weaker J G X ts mid c p = record { shorter = p.shorter; goes = p.goes; bound = λ K e b h. p.bound K e (keeps J G [] K c b) h }

pub halt_weaker : (J G : List Lexeme) (X : List Symbol) (ts stop : List Token) → fine J G [] ≡ true → Halts J X ts stop → Halts G X ts stop
halt_weaker J G X ts stop c p = record { shorter = p.shorter; goes = p.goes; bound = λ K e b h. p.bound K e (keeps J G [] K c b) h }

pub nothing_pass : (J : List Lexeme) (ts : List Token) → Passes J [] ts ts
nothing_pass J ts = record { shorter = omega arith; goes = λ K e h. h; bound = λ K e b h. inr h }

-- one lexeme
pub lexeme_pass : (l : Lexeme) (ts : List Token) → is_real l ≡ true → first ts ≡ l → Passes [] (lexeme l ∷ []) ts (behind ts)
lexeme_pass l [] r f = absurd (false≢true (ap is_real f ∙ r))
lexeme_pass l (token ∷ ts) r f = record {
  shorter = omega arith;
  goes = λ K e h. match f h;
  bound = λ K e b h. elim (at_lexeme h) [ inl i ↦ inl (omega (arith, left_length (token ∷ ts) e i)) | inr i ↦ inr i.2 ];
}

pub lexeme_halt : (l : Lexeme) (ts : List Token) → (first ts ≡ l → ⊥) → Halts [] (lexeme l ∷ []) ts ts
lexeme_halt l ts n = record {
  shorter = omega arith;
  goes = λ K. stay;
  bound = λ K e b h. elim (at_lexeme h) [ inl i ↦ stays_at ts ts e (omega arith) i | inr i ↦ absurd (n i.1) ];
}

-- steps past the lexeme that begins a rest
pub go_on : (X K : List Symbol) (ts : List Token) (e : End) (a : Lexeme) → first ts ≡ a → GoesAny (pasts (any_heads (X ∷ []) a)) K (behind ts) e → Goes (onto X K) ts e
go_on X K ts e a f h =
    let h' : GoesAny (pasts (any_heads (X ∷ []) (first ts))) K (behind ts) e = subst (λ d. GoesAny (pasts (any_heads (X ∷ []) d)) K (behind ts) e) (sym f) h in
    elim (any_from (X ∷ []) K ts e (pasts_one (any_heads (X ∷ []) (first ts)) K ts e h')) [ inl i ↦ i | inr i ↦ absurd i ]
