-- What line 1 leads to.
use Rattle.std.proofs.Common.{◌≡◌, ℕ, Bool, true, false, cond, List, ◌∷◌, Option, Some, refl, ap, ◌∙◌}
use Rattle.std.specs.Prelude.{pos, Decides}
use Rattle.std.specs.Ordering.{int_eq}
use Rattle.std.proofs.lemmas.Bool.Decides.{Decides-int_eq}
use Rattle.flame_spec.specs.declared.outcomes.Source.{Source}
use Rattle.flame_world.specs.declared.verdicts.Verdict.TheVariants.{OtherStart}
use Rattle.flame_world.specs.Iterations.{round_of}
use Rattle.flame_events.specs.CoreStates.{opening_core}
use Rattle.flame_popfile.specs.declared.starts.Start.{Start}
use Rattle.flame_trace.specs.declared.heads.Head.{Head}
use Rattle.flame_trace.specs.TraceLines.{parts, all_but_last, head_of}
use Rattle.flame_trace.specs.TraceVerdicts.{verdict_behind, next_number, verdict_under, verdict}
use Rattle.flame_trace.specs.TraceSteps.{onward}
use Rattle.flame_trace.proofs.Following.{verdict-cut, verdict_behind-onward}

-- a test that does not hold is false
refuted : (test : Bool) (P : Type 0) → Decides test P → ¬ P → test ≡ false
refuted true P decides not = absurd (not (decides.0 refl))
refuted false P decides not = refl

under_head : (source : Source) (start : Start) (bytes line rest : List ℕ) (head : Head) (test : Bool)
    → parts bytes ≡ line ∷ parts rest
    → head_of line ≡ Some head
    → int_eq (pos head.iteration) (next_number start) ≡ test
    → verdict source start bytes
    ≡ cond test
    (verdict_behind (round_of source start.world (next_number start) head.fuel) head.pieces
    (opening_core source.model start.world.agents) (all_but_last (parts rest)) bytes)
    (OtherStart 1)
under_head source start bytes line rest head test cut says is =
    verdict-cut source start bytes line rest cut
    ∙ ap (λ (o : Option Head). verdict_under source start o (all_but_last (parts rest)) bytes) says
    ∙ ap
    (λ (test : Bool).
    cond test
    (verdict_behind (round_of source start.world (next_number start) head.fuel) head.pieces
    (opening_core source.model start.world.agents) (all_but_last (parts rest)) bytes)
    (OtherStart 1))
    is

-- line 1 says another iteration
pub other-start : (source : Source) (start : Start) (bytes line rest : List ℕ) (head : Head)
    → parts bytes ≡ line ∷ parts rest
    → head_of line ≡ Some head
    → ¬ (pos head.iteration ≡ next_number start)
    → verdict source start bytes ≡ OtherStart 1
other-start source start bytes line rest head cut says other =
    under_head source start bytes line rest head false cut says
    (refuted (int_eq (pos head.iteration) (next_number start)) (pos head.iteration ≡ next_number start)
    (Decides-int_eq (pos head.iteration) (next_number start)) other)

-- line 1 says the next iteration
pub starts-here : (source : Source) (start : Start) (bytes line rest : List ℕ) (head : Head)
    → parts bytes ≡ line ∷ parts rest
    → head_of line ≡ Some head
    → pos head.iteration ≡ next_number start
    → verdict source start bytes
    ≡ onward (round_of source start.world (next_number start) head.fuel) head.pieces
    (opening_core source.model start.world.agents) 0 (parts rest)
starts-here source start bytes line rest head cut says next =
    under_head source start bytes line rest head true cut says ((Decides-int_eq (pos head.iteration) (next_number start)).1 next)
    ∙ verdict_behind-onward (round_of source start.world (next_number start) head.fuel) head.pieces
    (opening_core source.model start.world.agents) bytes line rest cut
