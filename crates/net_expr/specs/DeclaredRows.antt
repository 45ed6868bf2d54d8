-- Braces over declared sets: the rows can be made from the keys.
use Rattle.std.specs.Prelude.{◌≡◌, ◌≤◌, ◌<◌, ◌+◌, ℕ, false, true, List, [], ◌∷◌, ◌++◌, length, map, Option, None, Some, Ok}
use Rattle.std.specs.List.{AllByRecursion}
use Rattle.std.specs.Str.{bytes_eq}
use Rattle.net_lex.specs.declared.token.Token.{Token}
use Rattle.net_sets.specs.Limits.{arity_limit, tuples_limit}
use Rattle.net_sets.specs.Operations.{product}
use Rattle.net_sets.specs.Sets.{Tuple}
use Rattle.net_tree.specs.Tree.{Tree, Links, leaf, tuple, none, link}
use Rattle.net_expr.specs.declared.indexing.Indexing.{Indexing}
use Rattle.net_expr.specs.declared.value.Value.TheVariants.{Many}
use Rattle.net_expr.specs.Items.{bare, fits_needed, has_in, needed, sides}
use Rattle.net_expr.specs.RowLists.{row_of}
use Rattle.net_expr.specs.Values.{value}
use Rattle.net_expr.specs.Worlds.{Name, World, entry_of}

-- a name is none of these
abbrev pub IsOther : List Name → Name → Type 0
IsOther names name = AllByRecursion (λ n. bytes_eq n name ≡ false) names

-- a component is a name that is neither declared nor one of the dummies before it; `then` holds of
-- these dummies and the new one
abbrev pub IsNewDummy : World → List Name → Option Name → (List Name → Type 0) → Type 0
IsNewDummy w before None then = ⊥
IsNewDummy w before (Some name) then = (entry_of w name ≡ None) × IsOther before name × then (before ++ name ∷ [])

-- with the dummies of these components, those before them are `after`
abbrev pub AreNewDummies : World → Links → List Name → List Name → Type 0
AreNewDummies w none before after = before ≡ after
AreNewDummies w (link o x l) before after = IsNewDummy w before (bare x) (λ now. AreNewDummies w l now after)

-- the same for the left side of an item
abbrev pub HasNewDummies : World → Tree → List Name → List Name → Type 0
HasNewDummies w (tuple o x l c) before after = IsNewDummy w before (bare x) (λ now. AreNewDummies w l now after)
HasNewDummies w (leaf t) before after = IsNewDummy w before (bare (leaf t)) (λ now. now ≡ after)
HasNewDummies w _ before after = ⊥

-- an expression is the name of a set with these tuples, and not one of these dummies
pub record NamesSet (w : World) (dummies : List Name) (x : Tree) (width : Option ℕ) (tuples : List Tuple) : Type 0 where
  pub token : Token
  pub is_name : x ≡ leaf token
  pub other : IsOther dummies token.text
  pub is_set : value w [] x ≡ Ok (Many width tuples)

-- an item without `in`
pub record IsPlain (w : World) (x : Tree) (before after : List Name) (ts : List Tuple) : Type 0 where
  pub same : before ≡ after
  pub width : Option ℕ
  pub set : NamesSet w before x width ts

-- an item with `in`: new dummies, and a set that fits them
pub record IsBinding (w : World) (left right : Tree) (before after : List Name) (ts : List Tuple) : Type 0 where
  pub dummies : HasNewDummies w left before after
  pub width : Option ℕ
  pub set : NamesSet w before right width ts
  pub fits : fits_needed width (needed left) ≡ true

abbrev pub IsItemBySides : World → Tree → List Name → List Name → List Tuple → Option (Tree × Tree) → Type 0
IsItemBySides w x before after ts None = IsPlain w x before after ts
IsItemBySides w x before after ts (Some p) = IsBinding w p.0 p.1 before after ts

-- an item over a declared set, with the names of all dummies before it and with its own
abbrev pub IsItem : World → Tree → List Name → List Name → List Tuple → Type 0
IsItem w x before after ts = IsItemBySides w x before after ts (sides x)

-- tuples of equal length, of which there are some
pub record AreWide (width : ℕ) (tuples : List Tuple) : Type 0 where
  pub some : 0 < length tuples
  pub all : AllByRecursion (λ tuple. length tuple ≡ width) tuples

-- an item over a set whose tuples have this many members, each with a dummy if the item has any
pub record IsFactor (w : World) (x : Tree) (before after : List Name) (width : ℕ) (ts : List Tuple) : Type 0 where
  pub item : IsItem w x before after ts
  pub wide : AreWide width ts
  pub short : width ≤ arity_limit
  pub all_bound : has_in x ≡ true → length after ≡ length before + width

-- what a declaration over the product of two sets has
pub record IsProductOf (width more : ℕ) (xs ys : List Tuple) (names : List Name) (i : Indexing) : Type 0 where
  pub short : width + more ≤ arity_limit
  pub few : length (product xs ys) ≤ tuples_limit
  pub is : i ≡ record { count = Some (width + more); rows = map (row_of names) (product xs ys) }
