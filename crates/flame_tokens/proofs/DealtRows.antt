-- Rows that are dealt out to their types.
use Rattle.std.proofs.Common.{◌≡◌, ℕ, ◌<◌, List, [], ◌∷◌, ◌++◌, length, get_or, map, refl, ap, sym, ◌∙◌, subst, append-nil}
use Rattle.std.proofs.Common.{Bool, true, false, cond}
use Rattle.std.specs.Prelude.{ℤ, ◌==◌, slice_set, slice_index_or, Vec, replicate}
use Rattle.std.specs.Global.{Global}
use Rattle.std.proofs.lemmas.Bool.{eqb-true, eqb-false}
use Rattle.std.proofs.lemmas.List.{length-map, length-set, length-replicate, get_or-replicate, flat_map_more}
use Rattle.std.proofs.lemmas.List.Elements.{All-nil, All-push}
use Rattle.json.specs.Token.{Token, begin_object, begin_array, end_array}
use Rattle.flame_rows.proofs.Lists.{slice_index_or-map, slice_index_or-map_slice_set, slice_index_or-map_slice_set_other}
use Rattle.flame_spec.specs.declared.models.AgentType.{AgentType}
use Rattle.flame_tokens.specs.NumberTrees.{begun}
use Rattle.flame_tokens.specs.AgentTrees.{IsOfTypes, listed_tree, agents_tree, row_for, IsDealt, IsAdded, AreBegun, AreRead}
use Rattle.flame_tokens.specs.PopulationTrees.{HasAgents}
use Rattle.flame_tokens.proofs.TokenLists.{mapped_more, list_closed}

abbrev items_of : Vec (List ℤ) Global → List (List ℤ)
items_of rows = rows.items

-- a row more in the vector of this number
pub dealt_at :
    (dealt : List (Vec (List ℤ) Global)) (number : ℕ) (row : List ℤ) (old new : Vec (List ℤ) Global)
    → number < length dealt
    → old ≡ get_or dealt number old
    → new.items ≡ old.items ++ row ∷ []
    → IsDealt number row (map (λ (rows : Vec (List ℤ) Global). rows.items) dealt)
    (map (λ (rows : Vec (List ℤ) Global). rows.items) (slice_set dealt number new))
dealt_at dealt number row old new within was becomes = record {
  count = length-map (slice_set dealt number new) items_of ∙ length-set dealt number new ∙ sym (length-map dealt items_of);
  rows = λ other. at_other other (number == other) refl;
}
  where
    here :
        slice_index_or (map items_of (slice_set dealt number new)) number []
        ≡ slice_index_or (map items_of dealt) number [] ++ row ∷ []
    here =
        slice_index_or-map_slice_set items_of [] dealt number new within
        ∙ becomes
        ∙ ap (λ l. l ++ row ∷ []) (sym (slice_index_or-map items_of [] dealt number old within was))

    at_other :
        (other : ℕ) (b : Bool) → (number == other) ≡ b
        → slice_index_or (map items_of (slice_set dealt number new)) other []
        ≡ slice_index_or (map items_of dealt) other [] ++ cond b (row ∷ []) []
    at_other other true e =
        let same : number ≡ other = eqb-true number other e in
        subst
        (λ n. slice_index_or (map items_of (slice_set dealt number new)) n []
        ≡ slice_index_or (map items_of dealt) n [] ++ row ∷ [])
        same here
    at_other other false e =
        slice_index_or-map_slice_set_other items_of [] dealt number other new (eqb-false number other e)
        ∙ sym (append-nil (slice_index_or (map items_of dealt) other []))

-- nobody was read
pub none_begun :
    (types : List AgentType) (first now : List Token) (dealt : List (List (List ℤ)))
    → first ≡ begin_array ∷ now
    → dealt ≡ replicate (length types) []
    → AreBegun types first now dealt
none_begun types first now dealt begins nobody = record {
  all = [];
  tokens = begins;
  known = All-nil (IsOfTypes types);
  dealt_are = record {
    count = ap length nobody ∙ length-replicate (length types) [];
    rows = λ number within.
        ap (λ l. slice_index_or l number []) nobody
        ∙ get_or-replicate (length types) number [] [] within;
  };
}

-- an agent more was read
pub more_begun :
    (types : List AgentType) (first old opened new : List Token) (before after : List (List (List ℤ)))
    → AreBegun types first old before
    → old ≡ begin_object ∷ opened
    → IsAdded types opened new before after
    → AreBegun types first new after
more_begun types first old opened new before after so_far opens added = record {
  all = so_far.all ++ added.listed ∷ [];
  tokens =
      so_far.tokens
      ∙ ap (λ (ts : List Token). begin_array ∷ (begun (map listed_tree so_far.all) ++ ts)) (opens ∙ added.tokens)
      ∙ sym (ap (λ (ts : List Token). begin_array ∷ ts) (mapped_more listed_tree so_far.all added.listed new));
  known = All-push (IsOfTypes types) so_far.all added.listed so_far.known added.known;
  dealt_are = record {
    count = added.dealt.count ∙ so_far.dealt_are.count;
    rows = λ number within.
        added.dealt.rows number
        ∙ ap (λ rows. rows ++ row_for number added.listed) (so_far.dealt_are.rows number within)
        ∙ flat_map_more (row_for number) [] so_far.all added.listed;
  };
}

-- the list ends
pub all_read :
    (types : List AgentType) (first old new : List Token) (dealt : List (List (List ℤ)))
    → AreBegun types first old dealt
    → old ≡ end_array ∷ new
    → AreRead types first new dealt
all_read types first old new dealt so_far ends = record {
  all = so_far.all;
  tokens =
      so_far.tokens
      ∙ ap (λ (ts : List Token). begin_array ∷ (begun (map listed_tree so_far.all) ++ ts)) ends
      ∙ sym (list_closed (map listed_tree so_far.all) new);
  known = so_far.known;
  dealt_are = so_far.dealt_are;
}

-- agents that were read one by one
pub listed_read :
    (types : List AgentType) (old new : List Token) (dealt : List (List (List ℤ)))
    → AreRead types old new dealt → HasAgents false types old new dealt
listed_read types old new dealt read = record {
  tree = agents_tree read.all;
  tokens = read.tokens;
  are = record { all = read.all; tree_is = refl; known = read.known; dealt_are = read.dealt_are };
}
