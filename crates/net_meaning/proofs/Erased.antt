-- What the code asks of a tree, its abstract syntax says as well.
use Rattle.std.specs.Prelude.{◌≡◌, ◌+◌, ◌&&◌, ◌||◌, ℤ, Bool, true, false, not, List, [], ◌∷◌, map, Option, None, Some, is_some, if◌then◌else◌, option_map}
use Rattle.std.proofs.Common.{refl, ap, sym, ◌∙◌, subst}
use Rattle.net_sets.specs.Sets.{Tuple}
use Rattle.net_tree.specs.declared.role.Role.{Role}
use Rattle.net_tree.specs.Erasure as erased
use Rattle.net_tree.specs.Erasure.{expression, expressions, operands, indexing}
use Rattle.net_tree.specs.Items.{is_in, both}
use Rattle.net_tree.specs.Operations.{operation}
use Rattle.net_tree.specs.Role.{role_of, is_name}
use Rattle.net_tree.specs.Tree.{Tree, Links, Braces, leaf, chain, none, link, Body, plain, valued, priced, Phrase}
use Rattle.net_expr.specs.Items as items
use Rattle.net_expr.specs.Items.{text_of, unless_known}
use Rattle.net_expr.specs.Worlds as code
use Rattle.net_expr.specs.Worlds.{Name, World, Scope, bound, entry_of}
use Rattle.net_meaning.specs.Operators.{Value, Many}
use Rattle.net_meaning.specs.OfTrees.{meant_entry, env_with, begins_range, has_in, new_dummy, AreValues, AreOperandValues, IsItemSet}
use Rattle.net_tree.specs.PhraseValues.{expression_of, phrase_value}
use Rattle.net_meaning.specs.Values.{Env, Whether, is_known, size}
use Rattle.net_meaning.specs.World as world
use Rattle.net_meaning.proofs.Leaves.{name_is as kind_is}
use Rattle.net_meaning.proofs.Meant.{named_is}

-- ---- items

pub begins_range_is : (l : Links) → items.begins_range l ≡ begins_range l
begins_range_is none = refl
begins_range_is (link o x l) = refl

pub has_in_is : (i : Tree) → items.has_in i ≡ has_in i
has_in_is (chain n x (link o y none)) = go (is_in (operation o))
  where
    go : (b : Bool) → is_some (both x (if b then Some y else None)) ≡ b
    go true = refl
    go false = refl
has_in_is _ = refl

pub some_kept : {A B : Type 0} (f : A → B) (o : Option A) → is_some (option_map f o) ≡ is_some o
some_kept f None = refl
some_kept f (Some x) = refl

module _ (arcs : Name → Option (Tuple → ℤ)) (y : ℤ) (w : World) (s : Scope) where
  known_is : (n : Name) → code.is_known w s n ≡ is_known (env_with arcs y w s) n
  known_is n = ap (λ b. is_some (bound s n) || b) (sym (ap is_some (named_is w n) ∙ some_kept meant_entry (entry_of w n)))

  pub new_dummy_is : (x : Tree) → items.new_dummy w s x ≡ new_dummy (env_with arcs y w s) x
  new_dummy_is (leaf t) =
      subst (λ b. unless_known w s (text_of (if is_name (role_of t) then Some t else None)) ≡ (if b && not (is_known (env_with arcs y w s) t.text) then Some t.text else None)) (kind_is t)
      (go (is_name (role_of t)) (known_is t.text))
    where
      known : (b c : Bool) → b ≡ c → (if b then None else Some t.text) ≡ (if not c then Some t.text else None)
      known true c e = subst (λ d. None ≡ (if not d then Some t.text else None)) e refl
      known false c e = subst (λ d. Some t.text ≡ (if not d then Some t.text else None)) e refl

      go : (a : Bool) → code.is_known w s t.text ≡ is_known (env_with arcs y w s) t.text
          → unless_known w s (text_of (if a then Some t else None)) ≡ (if a && not (is_known (env_with arcs y w s) t.text) then Some t.text else None)
      go true e = known (code.is_known w s t.text) (is_known (env_with arcs y w s) t.text) e
      go false e = refl
  new_dummy_is _ = refl

-- the set of an item, as the code finds it
pub item_set : (i : Tree) (After : List Tuple → Type 0) (Own : Value → Type 0) (ts : List Tuple) → Whether (items.has_in i) (After ts) (Own (Many ts)) → IsItemSet i After Own ts
item_set i After Own ts h = subst (λ b. Whether b (After ts) (Own (Many ts))) (has_in_is i) h

-- ---- operands

pub size_is : (l : Links) → items.size l ≡ size (expressions l)
size_is none = refl
size_is (link o x l) = ap (λ n. 1 + n) (size_is l)

pub operand_values : (e : Env) (l : Links) (vs : List Value) → AreValues e l vs → AreOperandValues e l vs
operand_values e none vs h = h
operand_values e (link o x l) vs (u, us, h, i, j) = (u, us, h, operand_values e l us i, j)

-- ---- phrases

pub expression_is : (b : Body) → world.expression_of (erased.body b) ≡ option_map expression (expression_of b)
expression_is plain = refl
expression_is (valued x) = refl
expression_is (priced n x) = refl

pub phrase_value_is : (test : Role → Bool) (ps : List Phrase) → world.phrase_value test (map erased.phrase ps) ≡ option_map expression (phrase_value test ps)
phrase_value_is test [] = refl
phrase_value_is test (p ∷ ps) = go (test (role_of p.word)) (expression_is p.body) (phrase_value_is test ps)
  where
    go : (b : Bool) → world.expression_of (erased.body p.body) ≡ option_map expression (expression_of p.body) → world.phrase_value test (map erased.phrase ps) ≡ option_map expression (phrase_value test ps)
        → (if b then world.expression_of (erased.body p.body) else world.phrase_value test (map erased.phrase ps)) ≡ option_map expression (if b then expression_of p.body else phrase_value test ps)
    go true e f = e
    go false e f = f

pub phrase_some : (test : Role → Bool) (ps : List Phrase) (x : Tree) → phrase_value test ps ≡ Some x → world.phrase_value test (map erased.phrase ps) ≡ Some (expression x)
phrase_some test ps x e = phrase_value_is test ps ∙ ap (option_map expression) e

pub phrase_none : (test : Role → Bool) (ps : List Phrase) → phrase_value test ps ≡ None → world.phrase_value test (map erased.phrase ps) ≡ None
phrase_none test ps e = phrase_value_is test ps ∙ ap (option_map expression) e

-- ---- indexing expressions

pub indexed_is : (b : Option Braces) → is_some (indexing b) ≡ is_some b
indexed_is None = refl
indexed_is (Some b) = refl
