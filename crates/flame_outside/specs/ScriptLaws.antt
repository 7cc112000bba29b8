-- What holds of scripts: how a user shows that a script stands, act by act and part by part, and what follows from it.
use Rattle.std.specs.Prelude.{◌≡◌, ◌+◌, ◌≤◌, ℕ, List, [], ◌∷◌, ◌++◌, length, take, drop, IsTrue}
use Rattle.flame_outside.specs.Files.{with_file, OthersStay}
use Rattle.flame_outside.specs.Devices.{SeenDepot, SeenSink}
use Rattle.flame_outside.specs.Printed.{Prints, PrintsFront}
use Rattle.flame_outside.specs.Frames.{OnlyReads}
use Rattle.flame_outside.specs.Failures.{PutFailed, WriteFailed}
use Rattle.flame_outside.specs.Scripts.{Act, puts, prints, puts_in, Outside, outside, told, StandsWhole, StandsAt, FailsAt, GoesOn}

-- where nothing is told to have changed, no act stands yet; of a script of no acts nothing else can stand [own]
pub record NoActs : Type 0 where
  pub nothing_done : (acts : List Act) (old new : Outside) → told new ≡ told old → StandsAt acts 0 old new
  pub no_acts : (done : ℕ) (old new : Outside) → StandsAt [] done old new → (done ≡ 0) × (told new ≡ told old)

-- one act more: the first acts stand whole, and then the next one does [own]
pub record OneMoreAct : Type 0 where
  pub behind :
      (acts : List Act) (act : Act) (old mid new : Outside)
      → StandsWhole acts old mid
      → StandsWhole (act ∷ []) mid new
      → StandsWhole (acts ++ (act ∷ [])) old new
  pub next :
      (acts rest : List Act) (act : Act) (done : ℕ) (old mid new : Outside)
      → drop done acts ≡ act ∷ rest
      → StandsWhole (take done acts) old mid
      → StandsWhole (act ∷ []) mid new
      → StandsWhole (take (done + 1) acts) old new

-- a put and a print by themselves: whole after Ok, broken off after Failed [own]
pub record LoneActs : Type 0 where
  pub put :
      (name bytes : List ℕ) (old new : SeenDepot) (out : SeenSink)
      → new.files ≡ with_file name bytes old.files
      → StandsWhole (puts name bytes ∷ []) (outside old out) (outside new out)
  pub print :
      (text : List ℕ) (depot : SeenDepot) (old new : SeenSink)
      → Prints text old new
      → StandsWhole (prints text ∷ []) (outside depot old) (outside depot new)
  pub failed_put :
      (name bytes : List ℕ) (acts : List Act) (old new : SeenDepot) (out : SeenSink)
      → PutFailed old new
      → OthersStay name old.files new.files
      → StandsAt (puts name bytes ∷ acts) 0 (outside old out) (outside new out)
      × FailsAt (puts name bytes ∷ acts) 0 (puts name bytes) (outside old out) (outside new out)
  pub failed_print :
      (text : List ℕ) (acts : List Act) (depot : SeenDepot) (old new : SeenSink)
      → WriteFailed old new
      → PrintsFront text old new
      → StandsAt (prints text ∷ acts) 0 (outside depot old) (outside depot new)
      × FailsAt (prints text ∷ acts) 0 (prints text) (outside depot old) (outside depot new)

-- a script that stands whole stands with all its acts, and the other way round [own]
pub record WholeScripts : Type 0 where
  pub all_stand : (acts : List Act) (old new : Outside) → StandsWhole acts old new → StandsAt acts (length acts) old new
  pub stands_all :
      (acts : List Act) (old new : Outside)
      → StandsAt acts (length acts) old new
      → StandsWhole acts old new
  pub first_stand :
      (acts : List Act) (done : ℕ) (old new : Outside)
      → done ≤ length acts
      → StandsWhole (take done acts) old new
      → StandsAt acts done old new

-- two scripts after one another: what stands of the first alone, or of the second behind the whole first [own]
pub record ScriptsJoin : Type 0 where
  pub puts : (acts more : List Act) → puts_in (acts ++ more) ≡ puts_in acts + puts_in more
  pub whole :
      (acts more : List Act) (old mid new : Outside)
      → StandsWhole acts old mid
      → StandsWhole more mid new
      → StandsWhole (acts ++ more) old new
  pub first :
      (acts more : List Act) (done : ℕ) (old new : Outside)
      → StandsAt acts done old new
      → StandsAt (acts ++ more) done old new
  pub first_fails :
      (acts more : List Act) (done : ℕ) (act : Act) (old new : Outside)
      → FailsAt acts done act old new
      → FailsAt (acts ++ more) done act old new
  pub second :
      (acts more : List Act) (done : ℕ) (old mid new : Outside)
      → StandsWhole acts old mid
      → GoesOn old mid
      → StandsAt more done mid new
      → StandsAt (acts ++ more) (length acts + done) old new
  pub second_fails :
      (acts more : List Act) (done : ℕ) (act : Act) (old mid new : Outside)
      → GoesOn old mid
      → FailsAt more done act mid new
      → FailsAt (acts ++ more) (length acts + done) act old new

-- reads leave a script as it stood: before it, and behind it [own]
pub record ReadsStandAside : Type 0 where
  pub before :
      (acts : List Act) (done : ℕ) (old mid : SeenDepot) (out : SeenSink) (new : Outside)
      → OnlyReads old mid
      → StandsAt acts done (outside mid out) new
      → StandsAt acts done (outside old out) new
  pub before_failing :
      (acts : List Act) (done : ℕ) (act : Act) (old mid : SeenDepot) (out : SeenSink) (new : Outside)
      → OnlyReads old mid
      → FailsAt acts done act (outside mid out) new
      → FailsAt acts done act (outside old out) new
  pub behind :
      (acts : List Act) (done : ℕ) (old mid new : Outside)
      → StandsAt acts done old mid
      → told new ≡ told mid
      → GoesOn mid new
      → StandsAt acts done old new

-- on calm devices no act fails, and the acts that stand stand whole [own]
pub record CalmScripts : Type 0 where
  pub fails_not :
      (acts : List Act) (done : ℕ) (act : Act) (old new : Outside)
      → IsTrue old.depot.calm
      → IsTrue old.output.calm
      → ¬ FailsAt acts done act old new
  pub stands_whole :
      (acts : List Act) (done : ℕ) (old new : Outside)
      → IsTrue old.depot.calm
      → IsTrue old.output.calm
      → StandsAt acts done old new
      → StandsWhole (take done acts) old new
