-- One function more.
use Rattle.std.proofs.Common.{◌≡◌, ℕ, List, [], ◌∷◌, ◌++◌, ◌+◌, drop, ap, sym, ◌∙◌, not, true, false, cond}
use Rattle.std.specs.Prelude.{◌||◌, filter}
use Rattle.std.specs.Str.{bytes_eq}
use Rattle.std.specs.HashSet.{contains_text}
use Rattle.std.proofs.Math.Bool.{or-false, or_assoc}
use Rattle.std.proofs.lemmas.Bool.{not-false}
use Rattle.std.proofs.lemmas.List.{append_assoc, append-nil, drop_all}
use Rattle.flame_spec.specs.KnownNames.{is_among}
use Rattle.flame_spec.specs.States.{distinct_after, ends, is_entered}
use Rattle.flame_depend.proofs.Distinct.{unentered, starts_are, starts_more, is_among-push, there_already}
use Rattle.flame_depend.proofs.starts.unentered_states.Goals as goal
use Rattle.flame_depend.proofs.starts.unentered_states.Goals.{then-branch+in_ok-of+in_ok-push, else-branch}

pub loop-function-init : goal.loop-function-init
loop-function-init c =
    let fs = c.args.functions.now in
    let none = c.new-states.ensures.items in
    record {
      passed = λ q. c.in_ok-passed.ensures q ∙ sym (ap (λ xs. is_entered fs q || is_among q xs) none ∙ or-false (is_entered fs q));
      rest = starts_are fs c.requires ∙ sym (ap (λ xs. xs ++ distinct_after xs (filter (unentered fs) (ends fs))) none);
    }

pub loop-function-preserved : goal.loop-function-preserved
loop-function-preserved c =
    let fs = c.args.functions.now in
    let i = c.loop-function.function-index in
    let f = c.function-item.result in
    let found = c.loop-function.states.items in
    let rest = filter (unentered fs) (ends (drop (i + 1) fs)) in
    let text = c.as_str.ensures in
    let inv = c.loop-function.invariant in
    let test = λ (q : List ℕ). is_entered fs q || is_among q found in
    let new : c.in_ok-enter.field-0 ≡ not (test f.current) = c.in_ok-enter.ensures.added ∙ ap not (ap (contains_text c.loop-function.passed) text ∙ inv.passed f.current) in
    let more : (q : List ℕ) → contains_text c.enter.new.texts q ≡ (test q || bytes_eq f.current q) = λ q. c.in_ok-enter.ensures.after q ∙ ap (λ b. b || bytes_eq c.as_str.result.now q) (inv.passed q) ∙ ap (λ t. test q || bytes_eq t q) text in
    let step = starts_more fs i f found c.loop-function-test.true c.function-item.is in
    elim c.if-branch.branch [
      | then-branch+in_ok-of+in_ok-push w ↦
          let copied : w.in_ok-of.field-0 ≡ f.current = w.in_ok-of.ensures ∙ w.as_str-then-branch.ensures in
          let pushed : c.if-branch.states.items ≡ found ++ f.current ∷ [] = ap (λ v. v.items) w.states-is ∙ w.in_ok-push.ensures.items ∙ ap (λ t. found ++ t ∷ []) copied in
          let fresh : not (test f.current) ≡ true = sym new ∙ w.if-branch.true in
          record {
            passed = λ q. more q ∙ or_assoc (is_entered fs q) (is_among q found) (bytes_eq f.current q) ∙ ap (λ b. is_entered fs q || b) (sym (ap (λ xs. is_among q xs) pushed ∙ is_among-push found f.current q));
            rest = inv.rest ∙ ap (λ xs. found ++ xs) (step ∙ ap (λ b. cond b (f.current ∷ distinct_after (found ++ f.current ∷ []) rest) (distinct_after found rest)) fresh)
                ∙ sym (append_assoc found (f.current ∷ []) (distinct_after (found ++ f.current ∷ []) rest))
                ∙ ap (λ xs. xs ++ distinct_after xs rest) (sym pushed);
          }
      | else-branch w ↦
          let same : c.if-branch.states.items ≡ found = ap (λ v. v.items) w.states-is in
          let stale : not (test f.current) ≡ false = sym new ∙ w.if-branch.false in
          record {
            passed = λ q. more q ∙ there_already test f.current q (not-false (test f.current) stale) ∙ ap (λ xs. is_entered fs q || is_among q xs) (sym same);
            rest = inv.rest ∙ ap (λ xs. found ++ xs) (step ∙ ap (λ b. cond b (f.current ∷ distinct_after (found ++ f.current ∷ []) rest) (distinct_after found rest)) stale)
                ∙ ap (λ xs. xs ++ distinct_after xs rest) (sym same);
          }
    ]

pub returns : goal.returns
returns c =
    let fs = c.args.functions.now in
    let found = c.loop-function.states.items in
    sym (c.loop-function.invariant.rest ∙ ap (λ xs. found ++ distinct_after found (filter (unentered fs) (ends xs))) (drop_all c.loop-function.function-index fs c.loop-function-test.false) ∙ append-nil found)
