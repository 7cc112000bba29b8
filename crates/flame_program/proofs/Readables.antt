-- In an accepted source that can be numbered, conditions, filters and keys can be read by columns.
use Rattle.std.proofs.Common.{◌≡◌, ℕ, List, Some}
use Rattle.std.specs.Prelude.{IsTrue}
use Rattle.std.specs.Str.{bytes_eq}
use Rattle.flame_spec.specs.declared.models.MessageType.{MessageType}
use Rattle.flame_spec.specs.declared.models.Model.{Model}
use Rattle.flame_spec.specs.declared.outcomes.Source.{Source}
use Rattle.flame_spec.specs.Accepted.{IsAccepted}
use Rattle.flame_spec.specs.Counted.{is_counted}
use Rattle.flame_spec.specs.Functions.{functions}
use Rattle.flame_body.proofs.Columned.{NumberedAt, numbered-at}
use Rattle.flame_spec_laws.proofs.Narrow.{message_narrow, counted_condition_readable, counted_filter_readable}
use Rattle.flame_meaning.specs.Outcomes.{message_named}
use Rattle.flame_program.specs.Readable.{AreReadableFunctions}
use Rattle.flame_program.proofs.TypePlaces.{stands-in}

-- where the message stands that a name finds
found-at :
    (model : Model) (name : List ℕ) (number : ℕ) (message : MessageType)
    → message_named model.messages name ≡ Some (number, message)
    → NumberedAt (λ (m : MessageType). bytes_eq m.name name) 0 model.messages number message
found-at model name number message is = numbered-at (λ m. bytes_eq m.name name) 0 model.messages number message is

pub readable :
    (source : Source) → IsAccepted source → IsTrue (is_counted source.model)
    → AreReadableFunctions source.model (functions source.model)
readable source accepted counted n place there =
    let s = stands-in source.model n place there in
    record {
      condition = λ written is.
          counted_condition_readable source place.agent s.number place.type place.function written accepted counted s.type
          s.function is;
      inputs = λ k input at. record {
        filter = λ number message found written is.
            let m = found-at source.model input.message number message found in
            counted_filter_readable source place.agent s.number k m.place place.type place.function input written message
            accepted counted s.type s.function at is m.there;
        sort = λ number message found.
            let m = found-at source.model input.message number message found in
            message_narrow source.model m.place message counted m.there;
      };
    }
