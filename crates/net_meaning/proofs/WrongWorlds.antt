-- Values and sets that the data do not give: a default beside a row, a tuple twice, and what rows give that are not whole.
use Rattle.std.specs.Prelude.{◌≡◌, ℕ, zero, suc, List, [], ◌∷◌, Option, Some, codes, ℤ, pos}
use Rattle.std.specs.List.{IsDistinct}
use Rattle.std.proofs.Common.{refl, sym, subst, arith}
use Rattle.net_lex.specs.Limits.{limits}
use Rattle.net_lex.specs.Numerals.{IsValue as IsNumeral}
use Rattle.net_lex.specs.declared.token.Token.{Token}
use Rattle.net_data.specs.Rows.{DataRow}
use Rattle.net_data.specs.declared.statement.Statement.{Statement}
use Rattle.net_data.specs.declared.statement.Statement.TheVariants as statements
use Rattle.net_sets.specs.Sets.{Tuple}
use Rattle.net_sets.specs.declared.member.Member.{Member}
use Rattle.net_sets.specs.declared.member.Member.TheVariants.{Number, Name}
use Rattle.net_tree.specs.Syntax.{Braces, Phrase}
use Rattle.net_expr.specs.Worlds as worlds
use Rattle.net_meaning.specs.Operators.{number}
use Rattle.net_meaning.specs.Values.{World, Key, env_of, start, bind}
use Rattle.net_meaning.specs.World.{IsDataValue, AreWhole, HasWholeRows, IsSet, IsParameter, IsParameterValue, row, assigned, data_default, default}
use Rattle.net_meaning.proofs.Cities.{word, numeral, mark, list_of}
use Rattle.net_meaning.proofs.Unique.{values_are_unique}
use Rattle.net_meaning.proofs.WrongProblems.{five, five_is}

-- param p default 0 := a 5;
abbrev p_of_a : Statement
p_of_a = list_of (codes "p") (word (codes "a") ∷ numeral (codes "5") ∷ [])

abbrev at_a : Key
at_a = bind (codes "i") (Name (codes "a")) (start (env_of [] []))

abbrev row_of_a : DataRow
row_of_a = record { keys = word (codes "a") ∷ []; value = numeral (codes "5") }

not_zero : (n : ℤ) → IsNumeral limits.value (codes "5") n → Number (pos 0) ≡ Number n → ⊥
not_zero n is e = let same = values_are_unique (env_of [] []) five (number n) (number (pos 5)) (n, is, refl) (pos 5, five_is, refl) in cc

-- the row for the key a has the value 5, so the default 0 does not count there
no_default_beside_a_row : IsParameterValue (p_of_a ∷ []) (codes "p") [] 1 at_a (Some (Number (pos 0))) → ⊥
no_default_beside_a_row (row r m (zero, less, same) keys value) = let own = subst (λ (q : DataRow). IsDataValue q.value m) (sym same) value in not_zero own.0 own.1 own.2
no_default_beside_a_row (row r m (suc k, less, same) keys value) = absurd (let few = less in omega arith)
no_default_beside_a_row (assigned x m none e v) = absurd (let k = e in cc)
no_default_beside_a_row (data_default t m none e c v) = none.0 (refl, tt)
no_default_beside_a_row (default x m none e d p v) = none.0 (refl, tt)

abbrev one : Tuple
one = Number (pos 1) ∷ []

-- a set has no tuple twice
not_twice : (w : World) (ss : List Statement) (n : worlds.Name) (ps : List Phrase) → IsSet w ss n ps (one ∷ one ∷ []) → ⊥
unfolding IsDistinct
not_twice w ss n ps h = absurd (let same = h.distinct.0.0 in cc)

-- ---- rows that are not whole

abbrev short : List Token
short = word (codes "a") ∷ numeral (codes "5") ∷ word (codes "b") ∷ []

two_not_whole : AreWhole 2 short → ⊥
two_not_whole h = let rest = h.1.0 in omega (arith, rest)

-- param p default 0 := a 5 b;
abbrev short_list : Statement
short_list = list_of (codes "p") short

-- no parameter with one subscript has these data, in which b has no value
not_short : (w : World) (b : Option Braces) (ps : List Phrase) (f : Tuple → Option Member) (h : IsParameter w (short_list ∷ []) (codes "p") b ps f) → h.size ≡ 1 → ⊥
not_short w b ps f h one = let whole : HasWholeRows 1 (codes "p") short_list = subst (λ n. HasWholeRows n (codes "p") short_list) one h.whole.0 in two_not_whole (whole _ refl)

-- param: A: p := a 5 b;
abbrev short_heading : Statement
short_heading = statements.Columns (record {
  keyword = word (codes "param");
  colon = mark (codes ":");
  set = Some (record { name = word (codes "A"); colon = mark (codes ":") });
  names = word (codes "p") ∷ [];
  assign = mark (codes ":=");
  cells = short;
  end = mark (codes ";");
})

-- set A; has no members by these data
not_short_heading : (w : World) (ts : List Tuple) → IsSet w (short_heading ∷ []) (codes "A") [] ts → ⊥
not_short_heading w ts h = let (once, whole, rows) = h.members in two_not_whole (subst (λ n. HasWholeRows n (codes "A") short_heading) (h.single refl) whole.0)
