use Rattle.std.proofs.Common.{◌≡◌, ℕ, Some, List, false, ap, sym, subst, ◌∙◌, length, refl}
use Rattle.std.specs.Prelude.{slice_get}
use Rattle.std.proofs.lemmas.Option.{same_Some, slice_get_read}
use Rattle.flame_spec.specs.Below.{is_in}
use Rattle.flame_lanes.proofs.Listed.{none-beyond, none-listed}
use Rattle.flame_lanes.proofs.messages.Messages.find.Goals as goal

pub returns-in_err-place-clause-none : goal.returns-in_err-place-clause-none
returns-in_err-place-clause-none c = λ none.
    subst (λ (l : List ℕ). is_in c.args.message l ≡ false) c.self.view_is
    (none-listed c.self.inside.listed.items c.self.inside.places.items c.args.message c.self.invariant
    (λ place at there. none-beyond c.deref.result.now c.args.message place c.in_err-place.ensures.lookup.0
    (ap (λ (l : List ℕ). slice_get l c.args.message) c.deref.ensures.value ∙ at)))

pub returns-in_err-get-clause-none : goal.returns-in_err-get-clause-none
returns-in_err-get-clause-none c = λ none.
    let listed = c.self.inside.listed.items in
    let found = c.in_ok-place.ensures.lookup in
    let place : ℕ = c.in_ok-place.field-0.now in
    let own : slice_get c.self.inside.places.items c.args.message ≡ Some place =
    ap (λ (l : List ℕ). slice_get l c.args.message) (sym c.deref.ensures.value)
    ∙ slice_get_read c.deref.result.now (length c.deref.result.now) c.args.message place refl found.3.0 found.1 in
    subst (λ (l : List ℕ). is_in c.args.message l ≡ false) c.self.view_is
    (none-listed listed c.self.inside.places.items c.args.message c.self.invariant
    (λ other at there.
    let same : other ≡ place = cc in
    none-beyond c.deref-2.result.now place c.args.message c.in_err-get.ensures.lookup.0
    ((λ i. slice_get (c.deref-2.ensures.value i) (sym same i)) ∙ there)))

pub returns-then-branch-message-clause-some : goal.returns-then-branch-message-clause-some
returns-then-branch-message-clause-some c =
    let found = c.in_ok-get.ensures.lookup in
    let place : ℕ = c.in_ok-place.field-0.now in
    ap (λ (l : List ℕ). slice_get l place) (sym c.self.view_is ∙ sym c.deref-2.ensures.value)
    ∙ slice_get_read c.deref-2.result.now (length c.deref-2.result.now) place c.in_ok-get.field-0.now refl found.3.0 found.1
    ∙ ap Some c.if-branch-message.true

pub returns-else-branch-message-clause-none : goal.returns-else-branch-message-clause-none
returns-else-branch-message-clause-none c = λ none.
    let listed = c.self.inside.listed.items in
    let found = c.in_ok-place.ensures.lookup in
    let after = c.in_ok-get.ensures.lookup in
    let place : ℕ = c.in_ok-place.field-0.now in
    let own : slice_get c.self.inside.places.items c.args.message ≡ Some place =
    ap (λ (l : List ℕ). slice_get l c.args.message) (sym c.deref.ensures.value)
    ∙ slice_get_read c.deref.result.now (length c.deref.result.now) c.args.message place refl found.3.0 found.1 in
    let here : slice_get listed place ≡ Some c.in_ok-get.field-0.now =
    ap (λ (l : List ℕ). slice_get l place) (sym c.deref-2.ensures.value)
    ∙ slice_get_read c.deref-2.result.now (length c.deref-2.result.now) place c.in_ok-get.field-0.now refl after.3.0 after.1 in
    subst (λ (l : List ℕ). is_in c.args.message l ≡ false) c.self.view_is
    (none-listed listed c.self.inside.places.items c.args.message c.self.invariant
    (λ other at there.
    let same : place ≡ other = cc in
    let at_place : slice_get listed place ≡ Some c.args.message = ap (slice_get listed) same ∙ there in
    let one : c.in_ok-get.field-0.now ≡ c.args.message = cc in
    c.if-branch-message.false one))

pub returns-then-branch-message-clause-only : goal.returns-then-branch-message-clause-only
returns-then-branch-message-clause-only c = λ other at.
    let found = c.in_ok-place.ensures.lookup in
    let place : ℕ = c.in_ok-place.field-0.now in
    let own : slice_get c.self.inside.places.items c.args.message ≡ Some place =
    ap (λ (l : List ℕ). slice_get l c.args.message) (sym c.deref.ensures.value)
    ∙ slice_get_read c.deref.result.now (length c.deref.result.now) c.args.message place refl found.3.0 found.1 in
    let there : slice_get c.self.inside.listed.items other ≡ Some c.args.message =
    ap (λ (l : List ℕ). slice_get l other) c.self.view_is ∙ at in
    same_Some other place (sym (c.self.invariant other c.args.message there) ∙ own)
