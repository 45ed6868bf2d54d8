-- Tokens that are made up to end what was begun, and how things of each kind are written.
use Rattle.std.specs.Prelude.{◌≡◌, ◌≤◌, ℕ, true, List, ◌∷◌, Option, None, Some, codes}
use Rattle.std.proofs.Common.{refl, ap, ◌∙◌}
use Rattle.net_lex.specs.declared.token.Token.{Token}
use Rattle.net_lex.specs.declared.token.Kind.{Kind}
use Rattle.net_lex.specs.declared.token.Kind.TheVariants as kinds
use Rattle.net_tree.specs.declared.operator.OperatorWords.{OperatorWords as Operator}
use Rattle.net_tree.specs.declared.operator.OperatorWords.TheVariants.{One, Two}
use Rattle.net_tree.specs.declared.role.Role.{Role}
use Rattle.net_tree.specs.declared.role.Role.TheVariants as roles
use Rattle.net_tree.specs.Role.{role_of, keys, marks, is_name, is_leaf}
use Rattle.net_tree.specs.Tree.{Tree, Links, Part, Braces, leaf, indexed, parens, tuple, negated, braced, signed, reduced, chain, choice, net, none, link, absent, part, empty, filled}
use Rattle.net_tree.specs.Print.{put, put_links, put_part, put_braces, put_operator, put_optional}
use Rattle.net_tree.specs.Depth.{depth, links_depth, part_depth, braces_depth}
use Rattle.net_tree.specs.WellFormed.{precedence, joins, head_of, IsOperator, IsWellFormed, AreWellFormed, AreBraces}
use Rattle.net_model.specs.declared.expected.Expected.{Expected}
use Rattle.net_model.specs.declared.expected.Expected.TheVariants as sorts
use Rattle.net_model.specs.Reading.{Tokens, is_sort}
use Rattle.net_model.proofs.Readers.{put_before}
use Rattle.net_model.proofs.TreesSound.{IsPart}
use Rattle.net_model.proofs.Mending.{Written}

abbrev pub made : Kind → List ℕ → Token
made kind text = record { kind = kind; text = text; span = record { start = 0; end = 0 } }

-- a token of each sort
unfoldable pub filler : Expected → Token
filler sorts.Name = made kinds.Name (codes "x")
filler sorts.Number = made kinds.Num (codes "1")
filler sorts.Open = made kinds.Mark (codes "(")
filler sorts.Close = made kinds.Mark (codes ")")
filler sorts.OpenBrace = made kinds.Mark (codes "{")
filler sorts.CloseBrace = made kinds.Mark (codes "}")
filler sorts.OpenSquare = made kinds.Mark (codes "[")
filler sorts.CloseSquare = made kinds.Mark (codes "]")
filler sorts.Comma = made kinds.Mark (codes ",")
filler sorts.Colon = made kinds.Mark (codes ":")
filler sorts.Semicolon = made kinds.Mark (codes ";")
filler sorts.If = made kinds.Key (codes "if")
filler sorts.Then = made kinds.Key (codes "then")
filler sorts.Else = made kinds.Key (codes "else")
filler sorts.Membership = made kinds.Key (codes "in")
filler sorts.Bound = made kinds.Mark (codes "=")
filler sorts.Sign = made kinds.Mark (codes "+")
filler sorts.Net = made kinds.Key (codes "net_in")

pub fills : (s : Expected) → is_sort s (role_of (filler s)) ≡ true
unfolding filler role_of keys marks
fills sorts.Name = refl
fills sorts.Number = refl
fills sorts.Open = refl
fills sorts.Close = refl
fills sorts.OpenBrace = refl
fills sorts.CloseBrace = refl
fills sorts.OpenSquare = refl
fills sorts.CloseSquare = refl
fills sorts.Comma = refl
fills sorts.Colon = refl
fills sorts.Semicolon = refl
fills sorts.If = refl
fills sorts.Then = refl
fills sorts.Else = refl
fills sorts.Membership = refl
fills sorts.Bound = refl
fills sorts.Sign = refl
fills sorts.Net = refl

-- an expression of one name
abbrev pub a_name : Tree
a_name = leaf (filler sorts.Name)

pub name-leaf : (r : Role) → is_name r ≡ true → is_leaf r ≡ true
name-leaf roles.Name h = refl
name-leaf _ h = absurd (cc)

pub a_name_level : IsWellFormed a_name
a_name_level = name-leaf (role_of (filler sorts.Name)) (fills sorts.Name)

pub put_operator-front : (o : Operator) (v r : Tokens) → put_operator o (put_before v r) ≡ put_before (put_operator o v) r
put_operator-front (One t) v r = refl
put_operator-front (Two t u) v r = refl

pub put_optional-front : (o : Option Token) (v r : Tokens) → put_optional o (put_before v r) ≡ put_before (put_optional o v) r
put_optional-front None v r = refl
put_optional-front (Some t) v r = refl

mutual
  pub put-front : (x : Tree) (v r : Tokens) → put x (put_before v r) ≡ put_before (put x v) r
  put-front (leaf t) v r = refl
  put-front (indexed n o x l c) v r = ap (λ k. n ∷ o ∷ put x k) (put_links-front l (c ∷ v) r) ∙ ap (λ k. n ∷ o ∷ k) (put-front x (put_links l (c ∷ v)) r)
  put-front (parens o x c) v r = ap (λ k. o ∷ k) (put-front x (c ∷ v) r)
  put-front (tuple o x l c) v r = ap (λ k. o ∷ put x k) (put_links-front l (c ∷ v) r) ∙ ap (λ k. o ∷ k) (put-front x (put_links l (c ∷ v)) r)
  put-front (negated n o x c) v r = ap (λ k. n ∷ o ∷ k) (put-front x (c ∷ v) r)
  put-front (braced b) v r = put_braces-front b v r
  put-front (signed s x) v r = ap (λ k. s ∷ k) (put-front x v r)
  put-front (reduced w b x) v r = ap (λ k. w ∷ put_braces b k) (put-front x v r) ∙ ap (λ k. w ∷ k) (put_braces-front b (put x v) r)
  put-front (chain n x l) v r = ap (put x) (put_links-front l v r) ∙ put-front x (put_links l v) r
  put-front (choice i x t y e) v r =
      ap (λ k. i ∷ put x (t ∷ put y k)) (put_part-front e v r)
      ∙ ap (λ k. i ∷ put x (t ∷ k)) (put-front y (put_part e v) r)
      ∙ ap (λ k. i ∷ k) (put-front x (t ∷ put y (put_part e v)) r)
  put-front (net s w) v r = put_optional-front s (w ∷ v) r

  pub put_links-front : (l : Links) (v r : Tokens) → put_links l (put_before v r) ≡ put_before (put_links l v) r
  put_links-front none v r = refl
  put_links-front (link o x l) v r =
      ap (λ k. put_operator o (put x k)) (put_links-front l v r) ∙ ap (put_operator o) (put-front x (put_links l v) r) ∙ put_operator-front o (put x (put_links l v)) r

  pub put_part-front : (p : Part) (v r : Tokens) → put_part p (put_before v r) ≡ put_before (put_part p v) r
  put_part-front absent v r = refl
  put_part-front (part m x) v r = ap (λ k. m ∷ k) (put-front x v r)

  pub put_braces-front : (b : Braces) (v r : Tokens) → put_braces b (put_before v r) ≡ put_before (put_braces b v) r
  put_braces-front (empty o p c) v r = ap (λ k. o ∷ k) (put_part-front p (c ∷ v) r)
  put_braces-front (filled o x l p c) v r =
      ap (λ k. o ∷ put x (put_links l k)) (put_part-front p (c ∷ v) r)
      ∙ ap (λ k. o ∷ put x k) (put_links-front l (put_part p (c ∷ v)) r)
      ∙ ap (λ k. o ∷ k) (put-front x (put_links l (put_part p (c ∷ v))) r)

-- a token of a sort
abbrev pub token : Expected → Written Token
token s = record { put = λ t r. t ∷ r; fits = λ k t. is_sort s (role_of t) ≡ true; front = λ t v r. refl }

-- an operator behind k links
abbrev pub operator : ℕ → ℕ → Written Operator
operator j k = record { put = put_operator; fits = λ i o. (joins j k (role_of (head_of o)) ≡ true) × IsOperator o; front = put_operator-front }

-- an expression of a precedence
abbrev pub tree : (ℕ → Type 0) → Written Tree
tree Fits = record { put = put; fits = λ k x. IsWellFormed x × (depth x ≤ k) × Fits (precedence x); front = put-front }

abbrev pub links_of : ℕ → ℕ → ℕ → Written Links
links_of j n k = record { put = put_links; fits = λ i l. AreWellFormed j n k l × (links_depth l ≤ i); front = put_links-front }

abbrev pub part_of : Expected → (ℕ → Type 0) → Written Part
part_of s Fits = record { put = put_part; fits = λ k p. IsPart s Fits p × (part_depth p ≤ k); front = put_part-front }

abbrev pub braces_of : Written Braces
braces_of = record { put = put_braces; fits = λ k b. AreBraces b × (braces_depth b ≤ k); front = put_braces-front }
