-- What a define line says, from what the program reads of it.
use Rattle.std.proofs.Common.{◌≡◌, ℕ, List, [], refl, ap, Some}
use Rattle.std.specs.Option.{option_map_or}
use Rattle.flame_lex.specs.declared.define.Define.{Define}
use Rattle.flame_lex.specs.declared.token.Kind.{Kind}
use Rattle.flame_lex.specs.declared.token.Kind.TheVariants.{Word, Number, Mark, Key, Start, Finish}
use Rattle.flame_lex.specs.SourceWords.{IsPlain, IsWordKind}
use Rattle.flame_lex.proofs.WordKinds.{keyword_contained}

-- a word of another kind is not plain
pub not_plain : (kind : Kind) (word : List ℕ) → ((name : List ℕ) → ¬ (kind ≡ Word name)) → IsWordKind kind word
    → ¬ IsPlain word
not_plain (Word name) word h k p = h name refl
not_plain (Number n) word h k p = k
not_plain (Mark number) word h k p = k
not_plain (Key number) word h k p = p.no_keyword (keyword_contained number word k)
not_plain (Start name) word h k p = p.no_start name k
not_plain (Finish name) word h k p = p.no_finish name k

-- what is said has one word
pub one_name_said : (said more : Define) → Some said ≡ Some more → said.name ≡ more.name
one_name_said said more e = ap (λ o. option_map_or (λ s. s.name) o []) e
