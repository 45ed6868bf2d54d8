-- What is read behind the word of a phrase is printed so, and the other way round.
use Rattle.std.specs.Prelude.{◌≡◌, ◌≤◌, ◌<◌, ℕ, suc, true, false, [], ◌∷◌, Option, None, Some, Ok}
use Rattle.std.proofs.Common.{refl, sym, ap, ◌∙◌, arith}
use Rattle.net_lex.specs.declared.token.Token.{Token}
use Rattle.net_tree.specs.declared.role.Role.{Role}
use Rattle.net_tree.specs.declared.role.Role.TheVariants as roles
use Rattle.net_tree.specs.Role.{role_of, is_name, is_else}
use Rattle.net_tree.specs.Tree.{Tree, Links, leaf, indexed, Body, plain, valued, priced}
use Rattle.net_tree.specs.Print.{put, put_links, put_body}
use Rattle.net_tree.specs.Depth.{depth, body_depth}
use Rattle.net_tree.specs.WellFormed.{precedence, IsWellFormed}
use Rattle.net_tree.specs.Phrases.{IsNothing, IsNumeral, IsBound, IsOperand, IsValue, IsReference, IsPrice}
use Rattle.net_model.specs.declared.phrases.Slot.{Slot}
use Rattle.net_model.specs.declared.phrases.Slot.TheVariants as slots
use Rattle.net_model.specs.declared.expected.Expected.TheVariants as sorts
use Rattle.net_model.specs.declared.model_parser.Awaiting.TheVariants as awaiting
use Rattle.net_model.specs.Reading.{Tokens, next_is}
use Rattle.net_model.specs.Expressions.{Inner, all_links, climb, unary_at, unary, nested, is_subscripted, subscripts_at, named_at}
use Rattle.net_model.specs.Phrases.{body_of}
use Rattle.net_model.proofs.Tools.{bind_ok, given, chosen, on, off, expect-sound, expect-complete}
use Rattle.net_model.proofs.LinksSound.{climb-sound}
use Rattle.net_model.proofs.TreesSound.{IsInside, unary-sound, wide-sound, wide_value, named-sound}
use Rattle.net_model.proofs.Grips.{Stops, stops-square, reach-below}
use Rattle.net_model.proofs.LinksComplete.{in_place}
use Rattle.net_model.proofs.TreesComplete.{trees-complete, value-read}

abbrev pub BodyOf : Slot → Body → Type 0
BodyOf slots.Nothing b = IsNothing b
BodyOf slots.Number b = IsNumeral b
BodyOf slots.Set b = IsOperand b
BodyOf slots.Sum b = IsBound b
BodyOf slots.Value b = IsValue b
BodyOf slots.Node b = IsReference b
BodyOf slots.Price b = IsPrice b

pub record SoundBody (d : ℕ) (s : Slot) (ts : Tokens) (a : Body × Tokens) : Type 0 where
  pub text : ts ≡ put_body a.0 a.1
  pub level : BodyOf s a.0
  pub within : body_depth a.0 ≤ d

-- what is read behind a name
abbrev IsNamed : Token → Tree → Type 0
IsNamed n (leaf t) = t ≡ n
IsNamed n (indexed m o x l c) = Unit {0}
IsNamed n _ = ⊥

subscripts-named : (i : Inner) (n : Token) (ts : Tokens) (a : Tree × Tokens) → subscripts_at i n ts ≡ Ok a → IsNamed n a.0
unfolding subscripts_at
subscripts-named i n [] a h = absurd (cc)
subscripts-named i n (o ∷ ts) a h =
    let x = bind_ok {A = Tree × Tokens} _ _ _ h in
    let read : i.at 3 ts ≡ Ok x.value = x.first in
    let l = bind_ok {A = Links × Tokens} _ _ _ x.after in
    let rest : all_links 0 (i.at 3) x.value.1 ≡ Ok l.value = l.first in
    let c = bind_ok _ _ _ l.after in
    let sc = expect-sound sorts.CloseSquare awaiting.Other l.value.1 c.value c.first in
    given (λ (y : Tree × Tokens). IsNamed n y.0) (indexed n o x.value.0 l.value.0 c.value.0, c.value.1) a c.after tt

named-named : (o : Option Inner) (n : Token) (ts : Tokens) (a : Tree × Tokens) → named_at o n ts ≡ Ok a → IsNamed n a.0
unfolding named_at
named-named None n ts a h =
    elim (chosen (is_subscripted ts) _ _ _ h) [ on b e ↦ absurd (let k = e in cc) | off b e ↦ given (λ (y : Tree × Tokens). IsNamed n y.0) (leaf n, ts) a e refl ]
named-named (Some i) n ts a h =
    elim (chosen (is_subscripted ts) _ _ _ h) [ on b e ↦ subscripts-named i n ts a e | off b e ↦ given (λ (y : Tree × Tokens). IsNamed n y.0) (leaf n, ts) a e refl ]

reference : (n : Token) (x : Tree) → is_name (role_of n) ≡ true → IsNamed n x → IsWellFormed x → IsReference (valued x)
reference n (leaf t) named is level = rw is named
reference n (indexed m o x l c) named is level = level
reference n x named is level = absurd is

pub body-sound : (d : ℕ) (o : Option Inner) → IsInside d o → (s : Slot) (ts : Tokens) (a : Body × Tokens) → body_of o s ts ≡ Ok a → SoundBody d s ts a
body-sound d o inner slots.Nothing ts a h = given (λ y. SoundBody d slots.Nothing ts y) (plain, ts) a h (record { text = refl; level = tt; within = omega arith })
body-sound d o inner slots.Number ts a h =
    let t = bind_ok _ _ _ h in
    let st = expect-sound sorts.Number awaiting.Other ts t.value t.first in
    given (λ y. SoundBody d slots.Number ts y) (valued (leaf t.value.0), t.value.1) a t.after (record { text = st.text; level = st.sort; within = omega arith })
body-sound d o inner slots.Set ts a h =
    let x = bind_ok _ _ _ h in
    let sx = climb-sound d 7 (unary o) (omega arith) (omega arith) (unary-sound d o inner) ts x.value x.first in
    given (λ y. SoundBody d slots.Set ts y) (valued x.value.0, x.value.1) a x.after (record { text = sx.text; level = (sx.level, sx.fits); within = sx.within })
body-sound d o inner slots.Sum ts a h =
    let x = bind_ok _ _ _ h in
    let sx = climb-sound d 3 (unary o) (omega arith) (omega arith) (unary-sound d o inner) ts x.value x.first in
    given (λ y. SoundBody d slots.Sum ts y) (valued x.value.0, x.value.1) a x.after (record { text = sx.text; level = (sx.level, sx.fits); within = sx.within })
body-sound d o inner slots.Value ts a h =
    let x = bind_ok _ _ _ h in
    let sx = wide-sound d 7 o (omega arith) (omega arith) inner ts x.value x.first in
    given (λ y. SoundBody d slots.Value ts y) (valued x.value.0, x.value.1) a x.after (record { text = sx.text; level = (sx.level, wide_value (precedence x.value.0) sx.fits); within = sx.within })
body-sound d o inner slots.Node ts a h =
    let n = bind_ok _ _ _ h in
    let sn = expect-sound sorts.Name awaiting.Other ts n.value n.first in
    let x = bind_ok _ _ _ n.after in
    let sx = named-sound d o n.value.0 n.value.1 x.value inner sn.sort x.first in
    let is = named-named o n.value.0 n.value.1 x.value x.first in
    given (λ y. SoundBody d slots.Node ts y) (valued x.value.0, x.value.1) a x.after
    (record { text = sn.text ∙ sx.text; level = reference n.value.0 x.value.0 sn.sort is sx.level; within = sx.within })
body-sound d o inner slots.Price ts a h =
    let n = bind_ok _ _ _ h in
    let sn = expect-sound sorts.Name awaiting.Objective ts n.value n.first in
    let x = bind_ok _ _ _ n.after in
    let sx = climb-sound d 3 (unary o) (omega arith) (omega arith) (unary-sound d o inner) n.value.1 x.value x.first in
    given (λ y. SoundBody d slots.Price ts y) (priced n.value.0 x.value.0, x.value.1) a x.after
    (record { text = sn.text ∙ ap (λ k. n.value.0 ∷ k) sx.text; level = (sn.sort, sx.level, sx.fits); within = sx.within })

-- what may follow a phrase
pub record Ends (ts : Tokens) : Type 0 where
  pub stops : Stops 6 ts
  pub no_else : next_is is_else ts ≡ false

operand : (d p : ℕ) (x : Tree) (ts : Tokens) → IsWellFormed x → depth x ≤ d → precedence x ≤ suc p → suc p ≤ 10 → 0 < p → Stops p ts → climb (suc p) (unary (nested d)) (put x ts) ≡ Ok (x, ts)
operand d p x ts level deep fits high low stops = in_place d (suc p) p x ts (trees-complete x d) level deep fits high (omega arith) (reach-below (precedence x) p fits low) stops

leaf_read : (o : Option Inner) (n : Token) (ts : Tokens) → Stops 0 ts → named_at o n ts ≡ Ok (leaf n, ts)
unfolding named_at
leaf_read None n ts stops = rw (stops-square ts stops) refl
leaf_read (Some i) n ts stops = rw (stops-square ts stops) refl

at_name : (o : Option Inner) (n : Token) (ts : Tokens) (r : Role) → is_name r ≡ true → unary_at o r n ts ≡ named_at o n ts
unfolding unary_at
at_name o n ts roles.Name h = refl
at_name o n ts _ h = absurd (cc)

indexed_read : (d : ℕ) (n o : Token) (x : Tree) (l : Links) (c : Token) (ts : Tokens) → IsWellFormed (indexed n o x l c) → depth (indexed n o x l c) ≤ d → Stops 0 ts
    → (rest : Tokens) → put (indexed n o x l c) ts ≡ n ∷ rest → named_at (nested d) n rest ≡ Ok (indexed n o x l c, ts)
unfolding unary climb
indexed_read d n o x l c ts level deep stops rest text =
    let read = (trees-complete (indexed n o x l c) d level deep ts).narrow (omega arith) stops in
    let at : unary (nested d) (n ∷ rest) ≡ Ok (indexed n o x l c, ts) = ap (unary (nested d)) (sym text) ∙ read in
    sym (at_name (nested d) n rest (role_of n) level.0) ∙ at

pub body-complete : (d : ℕ) (s : Slot) (b : Body) (ts : Tokens) → BodyOf s b → body_depth b ≤ d → Ends ts → body_of (nested d) s (put_body b ts) ≡ Ok (b, ts)
body-complete d slots.Nothing plain ts is deep ends = refl
body-complete d slots.Nothing b ts is deep ends = absurd is
body-complete d slots.Number (valued (leaf t)) ts is deep ends = rw (expect-complete sorts.Number awaiting.Other t ts is) refl
body-complete d slots.Number b ts is deep ends = absurd is
body-complete d slots.Set (valued x) ts is deep ends = rw (operand d 6 x ts is.0 deep is.1 (omega arith) (omega arith) ends.stops) refl
body-complete d slots.Set b ts is deep ends = absurd is
body-complete d slots.Sum (valued x) ts is deep ends = let s = ends.stops in rw (operand d 2 x ts is.0 deep is.1 (omega arith) (omega arith) (omega (arith, s))) refl
body-complete d slots.Sum b ts is deep ends = absurd is
body-complete d slots.Value (valued x) ts is deep ends = rw (value-read d x ts (trees-complete x d) is.0 deep is.1 ends.stops ends.no_else) refl
body-complete d slots.Value b ts is deep ends = absurd is
body-complete d slots.Node (valued (leaf t)) ts is deep ends =
    let s = ends.stops in rw (expect-complete sorts.Name awaiting.Other t ts is, leaf_read (nested d) t ts (omega (arith, s))) refl
body-complete d slots.Node (valued (indexed n o x l c)) ts is deep ends =
    let s = ends.stops in
    rw (expect-complete sorts.Name awaiting.Other n (o ∷ put_rest) is.0, indexed_read d n o x l c ts is deep (omega (arith, s)) (o ∷ put_rest) refl) refl
  where
    put_rest : Tokens
    put_rest = put x (put_links l (c ∷ ts))
body-complete d slots.Node b ts is deep ends = absurd is
body-complete d slots.Price (priced n x) ts is deep ends =
    let s = ends.stops in rw (expect-complete sorts.Name awaiting.Objective n (put x ts) is.0, operand d 2 x ts is.1 deep is.2 (omega arith) (omega arith) (omega (arith, s))) refl
body-complete d slots.Price b ts is deep ends = absurd is
