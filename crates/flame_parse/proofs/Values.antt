-- Where values, places and assignments end, and where they stop.
use Rattle.std.proofs.Common.{◌≡◌, inl, inr, ℕ, ◌+◌, List, [], ◌∷◌, drop, refl, sym, ap, ◌∙◌, subst, arith, Bool, true, false}
use Rattle.std.proofs.lemmas.Bool.{false≢true}
use Rattle.flame_lex.specs.declared.token.Token.{Token}
use Rattle.flame_expr.specs.declared.lexemes.Lexeme.{Lexeme}
use Rattle.flame_expr.specs.declared.lexemes.Lexeme.TheVariants.{Word, Open, Close}
use Rattle.flame_expr.specs.Lexemes.{first, behind}
use Rattle.flame_expr.specs.OperatorLevels.{joins, joins_index}
use Rattle.flame_expr.specs.ViablePrefixes.{Symbol, lexeme, form, expr, index, a_value, a_place, an_assign, some_args, End, left, Goes, stay, expand, first_part}
use Rattle.flame_expr.specs.ReadParts.{Ended, Stopped}
use Rattle.flame_expr.proofs.LexemeFacts.{same, same_equal, same_self}
use Rattle.flame_expr.proofs.Heads.{One, matched}
use Rattle.flame_expr.proofs.Walk.{at_form, at_both, at_either, at_lexeme}
use Rattle.flame_expr.proofs.Parts.{any_heads, any_all, pasts, go_on}
use Rattle.flame_expr.proofs.Places.{behind-drop}
use Rattle.flame_expr.proofs.Ends.{EndedAny, StoppedAny, any_ended, one_ended, any_stopped, one_stopped, enter_ended, enter_stopped, ended_then, stopped_then, stopped_before, ended_weaker, stopped_weaker, form_ended, form_stopped}
use Rattle.flame_expr.proofs.Likeness.{alike_ended, alike_stopped}
use Rattle.flame_parse.specs.AssignmentOperators.{IsCall, joins_args}
use Rattle.flame_parse.proofs.Beginnings.{operations, word_alike, arguments, arguments_alike}
use Rattle.flame_parse.proofs.Fronts.{fronted, front_ended, front_stopped, front_stopped_before}

stay_at : (K : List Symbol) (ts : List Token) (e : End) → e ≡ left ts → Goes K ts e
stay_at K ts e f = subst (Goes K ts) (sym f) stay

close_no_args : (K : List Symbol) (ts : List Token) (e : End) → first ts ≡ Close → Goes (form some_args ∷ K) ts e → e ≡ left ts
close_no_args K ts e f h = elim (any_all ((form some_args ∷ []) ∷ []) K ts e (inl h)) [
  | inl i ↦ i
  | inr i ↦ absurd (subst (λ d. One (any_heads ((form some_args ∷ []) ∷ []) d) K ts e) f i)
]

-- a value that is no call with arguments goes where an expression goes
third : (b : Bool) (K : List Symbol) (ts : List Token) (e : End) → same Close (first (behind (behind ts))) ≡ b → (IsCall ts → ⊥) → first ts ≡ Word →
    first (behind ts) ≡ Open → Goes (form some_args ∷ lexeme Close ∷ K) (behind (behind ts)) e → Goes (expr ∷ K) ts e
third true K ts e s n f g h =
    let c : Close ≡ first (behind (behind ts)) = same_equal Close (first (behind (behind ts))) s in
    let i : e ≡ left (behind (behind ts)) = close_no_args (lexeme Close ∷ K) (behind (behind ts)) e (sym c) h in
    go_on (expr ∷ []) K ts e Word f (inr (inr (inl (matched Open _ (behind ts) e refl (sym g) (stay_at _ (behind (behind ts)) e i)))))
third false K ts e s n f g h = absurd (n (f, g, λ c. false≢true (sym s ∙ ap (same Close) c ∙ same_self Close)))

second : (K : List Symbol) (ts : List Token) (e : End) → (IsCall ts → ⊥) → first ts ≡ Word → Goes (lexeme Open ∷ form some_args ∷ lexeme Close ∷ K) (behind ts) e → Goes (expr ∷ K) ts e
second K ts e n f h = elim (at_lexeme h) [
  | inl i ↦ go_on (expr ∷ []) K ts e Word f (inl (stay_at _ (behind ts) e i))
  | inr i ↦ third (same Close (first (behind (behind ts)))) K ts e refl n f i.1 i.2
]

call_is_expr : (K : List Symbol) (ts : List Token) (e : End) → (IsCall ts → ⊥) → Goes (lexeme Word ∷ lexeme Open ∷ form some_args ∷ lexeme Close ∷ K) ts e → Goes (expr ∷ K) ts e
call_is_expr K ts e n h = elim (at_lexeme h) [
  | inl i ↦ stay_at (expr ∷ K) ts e i
  | inr i ↦ second K ts e n i.1 i.2
]

value_is_expr : (K : List Symbol) (ts : List Token) (e : End) → (IsCall ts → ⊥) → Goes (form a_value ∷ K) ts e → Goes (expr ∷ K) ts e
value_is_expr K ts e n h = elim (at_either (at_form h)) [
  | inl i ↦ i
  | inr i ↦ call_is_expr K ts e n (at_both (at_both (at_both i)))
]

expr_is_value : (K : List Symbol) (ts : List Token) (e : End) → Goes (expr ∷ K) ts e → Goes (form a_value ∷ K) ts e
expr_is_value K ts e h = expand (first_part h)

pub plain_ended : (tokens : List Token) (at end : ℕ) → (IsCall (drop at tokens) → ⊥) → Ended (joins 6) (expr ∷ []) tokens at end → Ended (joins 6) (form a_value ∷ []) tokens at end
plain_ended tokens at end n p = record {
  ahead = p.ahead;
  within = p.within;
  passes = record {
    shorter = p.passes.shorter;
    goes = λ K e h. expr_is_value K (drop at tokens) e (p.passes.goes K e h);
    bound = λ K e b h. p.passes.bound K e b (value_is_expr K (drop at tokens) e n h);
  };
}

pub plain_stopped : (tokens : List Token) (at stop : ℕ) → (IsCall (drop at tokens) → ⊥) → Stopped (joins 6) (expr ∷ []) tokens at stop → Stopped (joins 6) (form a_value ∷ []) tokens at stop
plain_stopped tokens at stop n p = record {
  ahead = p.ahead;
  within = p.within;
  halts = record {
    shorter = p.halts.shorter;
    goes = λ K. expr_is_value K (drop at tokens) (left (drop stop tokens)) (p.halts.goes K);
    bound = λ K e b h. p.halts.bound K e b (value_is_expr K (drop at tokens) e n h);
  };
}

-- a call with arguments
abbrev Inside : List Symbol
Inside = form some_args ∷ lexeme Close ∷ []

pub next_first : (tokens : List Token) (at : ℕ) (d : Lexeme) → first (behind (drop at tokens)) ≡ d → first (drop (at + 1) tokens) ≡ d
next_first tokens at d f = ap first (sym (behind-drop tokens at)) ∙ f

third_close : (tokens : List Token) (at : ℕ) → (first (behind (behind (drop at tokens))) ≡ Close → ⊥) → first (drop (at + 1 + 1) tokens) ≡ Close → ⊥
third_close tokens at n f = n (ap (λ ts. first (behind ts)) (behind-drop tokens at) ∙ ap first (behind-drop tokens (at + 1)) ∙ f)

pub call_ended : (tokens : List Token) (at close end : ℕ) → IsCall (drop at tokens) → Ended joins_args (form some_args ∷ []) tokens (at + 1 + 1) close
    → Ended [] (lexeme Close ∷ []) tokens close end → Ended (joins 6) (form a_value ∷ []) tokens at end
call_ended tokens at close end c p q =
    one_ended (enter_ended (joins 6) ((form a_value ∷ []) ∷ []) tokens at end Word refl refl c.0
    (enter_ended (joins 6) (pasts (any_heads ((form a_value ∷ []) ∷ []) Word)) tokens (at + 1) end Open refl refl (next_first tokens at Open c.1)
    (alike_ended (joins 6) (Inside ∷ []) arguments tokens (at + 1 + 1) end (omega arith) (omega arith) (arguments_alike (first (drop (at + 1 + 1) tokens)) (third_close tokens at c.2))
    (any_ended (ended_weaker [] (joins 6) Inside tokens (at + 1 + 1) end refl (ended_then joins_args [] (form some_args ∷ []) (lexeme Close ∷ []) tokens (at + 1 + 1) close end refl p q))))))

call_halted : (tokens : List Token) (at stop : ℕ) → IsCall (drop at tokens) → Stopped [] Inside tokens (at + 1 + 1) stop → Stopped (joins 6) (form a_value ∷ []) tokens at stop
call_halted tokens at stop c p =
    one_stopped (enter_stopped (joins 6) ((form a_value ∷ []) ∷ []) tokens at stop Word refl refl c.0
    (enter_stopped (joins 6) (pasts (any_heads ((form a_value ∷ []) ∷ []) Word)) tokens (at + 1) stop Open refl refl (next_first tokens at Open c.1)
    (alike_stopped (joins 6) (Inside ∷ []) arguments tokens (at + 1 + 1) stop (omega arith) (omega arith) (arguments_alike (first (drop (at + 1 + 1) tokens)) (third_close tokens at c.2))
    (any_stopped (stopped_weaker [] (joins 6) Inside tokens (at + 1 + 1) stop refl p)))))

pub call_stopped : (tokens : List Token) (at stop : ℕ) → IsCall (drop at tokens) → Stopped joins_args (form some_args ∷ []) tokens (at + 1 + 1) stop →
    Stopped (joins 6) (form a_value ∷ []) tokens at stop
call_stopped tokens at stop c p = call_halted tokens at stop c (stopped_before joins_args [] (form some_args ∷ []) (lexeme Close ∷ []) tokens (at + 1 + 1) stop refl p)

pub call_end_stopped : (tokens : List Token) (at close stop : ℕ) → IsCall (drop at tokens) → Ended joins_args (form some_args ∷ []) tokens
    (at + 1 + 1) close → Stopped [] (lexeme Close ∷ []) tokens close stop → Stopped (joins 6) (form a_value ∷ []) tokens at stop
call_end_stopped tokens at close stop c p q = call_halted tokens at stop c (stopped_then joins_args [] (form some_args ∷ []) (lexeme Close ∷ []) tokens (at + 1 + 1) close stop refl p q)

-- a place: its word, and an index where there is one
pub place_ended : (tokens : List Token) (at mid end : ℕ) → Ended [] (lexeme Word ∷ []) tokens at mid → Ended joins_index (index ∷ []) tokens mid end →
    Ended joins_index (form a_place ∷ []) tokens at end
place_ended tokens at mid end p q = form_ended joins_index a_place (lexeme Word) index tokens at end refl (ended_then [] joins_index (lexeme Word ∷ []) (index ∷ []) tokens at mid end refl p q)

pub place_stopped : (tokens : List Token) (at mid stop : ℕ) → Ended [] (lexeme Word ∷ []) tokens at mid → Stopped joins_index (index ∷ []) tokens mid
    stop → Stopped joins_index (form a_place ∷ []) tokens at stop
place_stopped tokens at mid stop p q =
    form_stopped joins_index a_place (lexeme Word) index tokens at stop refl
    (stopped_then [] joins_index (lexeme Word ∷ []) (index ∷ []) tokens at mid stop refl p q)

pub word_stopped : (tokens : List Token) (at stop : ℕ) → Stopped [] (lexeme Word ∷ []) tokens at stop → Stopped joins_index (form a_place ∷ []) tokens at stop
word_stopped tokens at stop p = form_stopped joins_index a_place (lexeme Word) index tokens at stop refl (stopped_before [] joins_index (lexeme Word ∷ []) (index ∷ []) tokens at stop refl p)

-- an assignment that begins with a place, and what stands behind the place
pub assign_ended : (tokens : List Token) (at mid end : ℕ) → first (drop at tokens) ≡ Word → Ended joins_index (form a_place ∷ []) tokens at mid →
    EndedAny (joins 6) operations tokens mid end → Ended (joins 6) (form an_assign ∷ []) tokens at end
assign_ended tokens at mid end f p q =
    one_ended
    (alike_ended (joins 6) (fronted (form a_place ∷ []) operations) ((form an_assign ∷ []) ∷ []) tokens at end (omega arith) (omega arith)
    (word_alike (first (drop at tokens)) f) (front_ended joins_index (joins 6) (form a_place ∷ []) operations tokens at mid end refl p q))

pub assign_stopped : (tokens : List Token) (at mid stop : ℕ) → first (drop at tokens) ≡ Word → Ended joins_index (form a_place ∷ []) tokens at mid →
    StoppedAny (joins 6) operations tokens mid stop → Stopped (joins 6) (form an_assign ∷ []) tokens at stop
assign_stopped tokens at mid stop f p q =
    one_stopped
    (alike_stopped (joins 6) (fronted (form a_place ∷ []) operations) ((form an_assign ∷ []) ∷ []) tokens at stop (omega arith) (omega arith)
    (word_alike (first (drop at tokens)) f) (front_stopped joins_index (joins 6) (form a_place ∷ []) operations tokens at mid stop refl p q))

pub assign_place_stopped : (tokens : List Token) (at stop : ℕ) → first (drop at tokens) ≡ Word → Stopped joins_index (form a_place ∷ []) tokens at
    stop → Stopped (joins 6) (form an_assign ∷ []) tokens at stop
assign_place_stopped tokens at stop f p =
    one_stopped
    (alike_stopped (joins 6) (fronted (form a_place ∷ []) operations) ((form an_assign ∷ []) ∷ []) tokens at stop (omega arith) (omega arith)
    (word_alike (first (drop at tokens)) f)
    (front_stopped_before joins_index (joins 6) (form a_place ∷ []) operations tokens at stop (omega arith) refl p))
