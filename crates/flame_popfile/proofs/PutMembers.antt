-- The members of an object that are put in one after another.
use Rattle.std.proofs.Common.{◌≡◌, ℕ, List, [], ◌∷◌, map, Some, Ordering, Less, Equal, Greater, nat_cmp, is_eq, refl, sym, ap, subst, ◌∙◌}
use Rattle.std.proofs.lemmas.Map.Text.{is_eq-slice_cmp}
use Rattle.std.proofs.lemmas.Slice.Eq.{bytes_eq-Decides}
use Rattle.std.specs.Cmp.Lexicographic.{slice_cmp}
use Rattle.std.specs.Ordering.{match_ordering}
use Rattle.std.specs.Prelude.{⊤}
use Rattle.serde_json.specs.Data.{Data, Members, no_members, member, put}
use Rattle.serde_json.specs.Find.{get_member}
use Rattle.serde_json.proofs.Views.{get_member-put, get_member-put_other}
use Rattle.flame_popfile.specs.PopulationParts.{entries}
use Rattle.flame_meaning.specs.RangeLaws.{Each}

-- the members with these put in, each at its name
abbrev pub put_all : List (List ℕ × Data) → Members → Members
put_all [] found = found
put_all (pair ∷ pairs) found = put_all pairs (put pair.0 pair.1 found)

-- the names of members
abbrev pub names_of : List (List ℕ × Data) → List (List ℕ)
names_of pairs = map (λ pair. pair.0) pairs

-- the name is none of these
abbrev pub IsNoneOf : List ℕ → List (List ℕ) → Type 0
IsNoneOf name [] = ⊤
IsNoneOf name (other ∷ names) = (name ≡ other → ⊥) × IsNoneOf name names

-- each name is none of those behind it
abbrev pub AllDiffer : List (List ℕ) → Type 0
AllDiffer [] = ⊤
AllDiffer (name ∷ names) = IsNoneOf name names × AllDiffer names

-- other members change nothing at a name
pub put_others :
    (name : List ℕ) (pairs : List (List ℕ × Data)) (found : Members)
    → IsNoneOf name (names_of pairs) → get_member name (put_all pairs found) ≡ get_member name found
put_others name [] found h = refl
put_others name (pair ∷ pairs) found h =
    put_others name pairs (put pair.0 pair.1 found) h.1 ∙ get_member-put_other name pair.0 pair.1 found h.0

-- at each name stands what was put there
abbrev pub StandsIn : Members → List ℕ × Data → Type 0
StandsIn found pair = get_member pair.0 found ≡ Some pair.1

-- each member of different names stands where it was put
pub each_stands :
    (pairs : List (List ℕ × Data)) (found : Members)
    → AllDiffer (names_of pairs) → Each (StandsIn (put_all pairs found)) pairs
each_stands [] found h = tt
each_stands (pair ∷ pairs) found h = (
  put_others pair.0 pairs (put pair.0 pair.1 found) h.0 ∙ get_member-put pair.0 pair.1 found,
  each_stands pairs (put pair.0 pair.1 found) h.1,
)

entries_put_at :
    (P : List ℕ × Data → Type 0) (order : Ordering) (k l : List ℕ) (d e : Data) (ms : Members)
    → slice_cmp nat_cmp k l ≡ order
    → P (k, d)
    → P (l, e)
    → Each P (entries ms)
    → Each P (entries (put k d ms))
    → Each P (entries (match_ordering order (member k d (member l e ms)) (member l d ms) (member l e (put k d ms))))
entries_put_at P Less k l d e ms is new old rest later = (new, (old, rest))
entries_put_at P Equal k l d e ms is new old rest later =
    let same : k ≡ l = (bytes_eq-Decides k l).0 (sym (is_eq-slice_cmp k l) ∙ ap is_eq is) in
    (subst (λ name. P (name, d)) same new, rest)
entries_put_at P Greater k l d e ms is new old rest later = (old, later)

-- what holds of a member and of all others holds of each with it put in
entries_put :
    (P : List ℕ × Data → Type 0) (k : List ℕ) (d : Data) (ms : Members)
    → P (k, d) → Each P (entries ms) → Each P (entries (put k d ms))
entries_put P k d no_members new rest = (new, tt)
entries_put P k d (member l e ms) new rest =
    entries_put_at P (slice_cmp nat_cmp k l) k l d e ms refl new rest.0 rest.1 (entries_put P k d ms new rest.1)

-- what holds of all that are put in holds of each entry
pub entries_put_all :
    (P : List ℕ × Data → Type 0) (pairs : List (List ℕ × Data)) (found : Members)
    → Each P pairs → Each P (entries found) → Each P (entries (put_all pairs found))
entries_put_all P [] found new rest = rest
entries_put_all P (pair ∷ pairs) found new rest =
    entries_put_all P pairs (put pair.0 pair.1 found) new.1 (entries_put P pair.0 pair.1 found new.0 rest)
