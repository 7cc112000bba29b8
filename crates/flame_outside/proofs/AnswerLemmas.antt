-- What holds of a state after each answer of a call holds of the state after the call.
use Rattle.std.proofs.Common.{◌≡◌, Result, Ok, Err, refl, sym, subst}
use Rattle.std.specs.Prelude.{OnOk, IfOk}
use Rattle.flame_outside.specs.declared.depot.ReadFail.{ReadFail}
use Rattle.flame_outside.specs.declared.depot.ReadFail.TheVariants as read_fail
use Rattle.flame_outside.specs.declared.depot.PutFail.{PutFail}
use Rattle.flame_outside.specs.declared.depot.PutFail.TheVariants as put_fail
use Rattle.flame_outside.specs.declared.sink.WriteFail.{WriteFail}
use Rattle.flame_outside.specs.declared.sink.WriteFail.TheVariants as write_fail

-- `old` before the call, `new` after it, which is `done` after Ok and `broken` after Failed
module _ {S : Type 0} (P : S → Type 0) (old new done broken : S) where
  back : (x : S) → P x → new ≡ x → P new
  back x holds is = subst P (sym is) holds

  pub by_read :
      P old
      → P done
      → P broken
      → {A : Type 0} (result : Result A ReadFail)
      → OnOk result (new ≡ done)
      → (result ≡ Err read_fail.Failed → new ≡ broken)
      → (result ≡ Err read_fail.NoMemory → new ≡ old)
      → P new
  by_read before after failing (Ok value) ok failed memory = back done after ok
  by_read before after failing (Err read_fail.Failed) ok failed memory = back broken failing (failed refl)
  by_read before after failing (Err read_fail.NoMemory) ok failed memory = back old before (memory refl)

  pub by_put :
      P old
      → P done
      → P broken
      → {A : Type 0} (result : Result A PutFail)
      → OnOk result (new ≡ done)
      → (result ≡ Err put_fail.Failed → new ≡ broken)
      → (result ≡ Err put_fail.NoMemory → new ≡ old)
      → P new
  by_put before after failing (Ok value) ok failed memory = back done after ok
  by_put before after failing (Err put_fail.Failed) ok failed memory = back broken failing (failed refl)
  by_put before after failing (Err put_fail.NoMemory) ok failed memory = back old before (memory refl)

  pub by_write :
      P old
      → P done
      → P broken
      → {A : Type 0} (result : Result A WriteFail)
      → OnOk result (new ≡ done)
      → (result ≡ Err write_fail.Failed → new ≡ broken)
      → (result ≡ Err write_fail.NoMemory → new ≡ old)
      → P new
  by_write before after failing (Ok value) ok failed memory = back done after ok
  by_write before after failing (Err write_fail.Failed) ok failed memory = back broken failing (failed refl)
  by_write before after failing (Err write_fail.NoMemory) ok failed memory = back old before (memory refl)

-- what holds always holds where a call went well
pub OnOk-always : {A E P : Type 0} (result : Result A E) → P → OnOk result P
OnOk-always (Ok value) fact = fact
OnOk-always (Err error) fact = tt

pub IfOk-always : {A E : Type 0} (P : A → Type 0) (result : Result A E) → ((value : A) → P value) → IfOk result P
IfOk-always P (Ok value) fact = fact value
IfOk-always P (Err error) fact = tt
