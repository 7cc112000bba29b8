-- Names among names.
use Rattle.std.proofs.Common.{◌≡◌, refl, sym, ◌∙◌, Bool, true, false, true≢false, not}

-- what was not added was there
pub was_there : (added there : Bool) → added ≡ not there → added ≡ false → there ≡ true
was_there added true e h = refl
was_there added false e h = absurd (true≢false (sym e ∙ h))

-- what was added was new
pub was_new : (added there : Bool) → added ≡ not there → added ≡ true → there ≡ false
was_new added true e h = absurd (true≢false (sym h ∙ e))
was_new added false e h = refl
