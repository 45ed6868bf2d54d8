-- Worlds in which the names of declarations to come mean nothing so far.
use Rattle.std.specs.Prelude.{◌≡◌, ℕ, Bool, true, false, ◌||◌, List, [], ◌∷◌, ◌++◌, length, take, map, None, Some, if◌then◌else◌, Ok, Err, Result}
use Rattle.std.specs.Str.{bytes_eq}
use Rattle.std.proofs.Common.{refl, sym, ap, ◌∙◌, subst, add-one, append-nil, append_assoc, ◌+◌, ◌<◌, get_or, drop}
use Rattle.std.proofs.Math.Seq.{drop-cons}
use Rattle.net_tree.specs.declared.declaration.Decl.{Decl}
use Rattle.net_tree.specs.View.{declaration_of}
use Rattle.net_lex.specs.declared.token.Token.{Token}
use Rattle.net_tree.specs.Tree.{Declaration, set, param, check, node, arc, objective}
use Rattle.net_expr.specs.declared.world.Entry.{Entry}
use Rattle.net_sets.specs.Names.{named}
use Rattle.net_expr.specs.Worlds.{Name, World}
use Rattle.net_bind.specs.Binding.{world, with_given, widths, is_among, AreNew, IsFresh, declare}
use Rattle.net_base.specs.declared.diagnostic.Fault.{Fault}
use Rattle.net_data.specs.declared.statement.Statement.{Statement}
use Rattle.net_bind.specs.Names.{Declared, declared}
use Rattle.net_bind.specs.DataByName.{Sorted, data_by_name}
use Rattle.net_base.specs.Outcomes.{Outcome, Refines, and_then, each}

abbrev world_of : Outcome World → World
world_of (Ok w) = w
world_of (Err r) = []

same : (w v : World) → ◌≡◌ {A = Outcome World} (Ok w) (Ok v) → w ≡ v
same w v i = ap world_of i

-- a list has no names but those that are known
abbrev Knows : {T : Type 0} → List Name → List (Name × T) → Type 0
Knows known w = (n : Name) → is_among known n ≡ false → named w n ≡ None

pub record IsFreshFrom {T : Type 0} (w : List (Name × T)) (ds : List Declaration) : Type 0 where
  pub known : List Name
  pub news : AreNew known ds
  pub knows : Knows known w

pub whole_world : (w : World) (ns : List ℕ) → ns ≡ widths w → take (length ns) w ≡ w
whole_world w ns e = ap (λ ks. take (length ks) w) e ∙ go w
  where
    go : (w : World) → take (length (widths w)) w ≡ w
    go [] = refl
    go (x ∷ w) = ap (◌∷◌ x) (go w)

pub at_first : {T : Type 0} (ds : List Declaration) → AreNew [] ds → IsFreshFrom {T = T} [] ds
at_first ds h = record { known = []; news = h; knows = λ n e. refl }

pub fresh_now : {T : Type 0} (w : List (Name × T)) (d : Declaration) (ds : List Declaration) → IsFreshFrom w (d ∷ ds) → IsFresh w d
fresh_now w (set k n ps e) ds h = h.knows n.text h.news.0
fresh_now w (param k n b ps e) ds h = h.knows n.text h.news.0
fresh_now w (check k b m x e) ds h = tt
fresh_now w (node k n b c e) ds h = tt
fresh_now w (arc k n b ps e) ds h = tt
fresh_now w (objective k n p e) ds h = tt

at_end : {T : Type 0} (w : List (Name × T)) (m n : Name) (e : T) → bytes_eq m n ≡ false → named w n ≡ None → named (w ++ (m, e) ∷ []) n ≡ None
at_end [] m n e f g = ap (λ b. if b then Some e else None) f
at_end (x ∷ w) m n e f g = step (bytes_eq x.0 n) g (at_end w m n e f)
  where
    step : (b : Bool) → (if b then Some x.1 else named w n) ≡ None → (named w n ≡ None → named (w ++ (m, e) ∷ []) n ≡ None)
        → (if b then Some x.1 else named (w ++ (m, e) ∷ []) n) ≡ None
    step true g more = cc
    step false g more = more g

pub one_more : {T : Type 0} (known : List Name) (w : List (Name × T)) (m : Name) (e : T) → Knows known w → Knows (m ∷ known) (w ++ (m, e) ∷ [])
one_more known w m e h n a = go (bytes_eq m n) refl a (at_end w m n e) (h n)
  where
    go : (b : Bool) → bytes_eq m n ≡ b → (b || is_among known n) ≡ false → (bytes_eq m n ≡ false → named w n ≡ None → named (w ++ (m, e) ∷ []) n ≡ None)
        → (is_among known n ≡ false → named w n ≡ None) → named (w ++ (m, e) ∷ []) n ≡ None
    go true f a end h = cc
    go false f a end h = end f (h a)

abbrev declared_by : Token → World → Outcome Entry → Outcome World
declared_by n w o = and_then o (λ e. Ok (w ++ (n.text, e) ∷ []))

further : (known : List Name) (w v : World) (n : Token) (o : Outcome Entry) → Knows known w → declared_by n w o ≡ Ok v → Knows (n.text ∷ known) v
further known w v n (Ok e) h i = subst (Knows (n.text ∷ known)) (same (w ++ (n.text, e) ∷ []) v i) (one_more known w n.text e h)
further known w v n (Err r) h i = cc

pub fresh_next : (given : Sorted) (w v : World) (d : Declaration) (ds : List Declaration) → IsFreshFrom w (d ∷ ds) → declare given d w ≡ Ok v → IsFreshFrom v ds
fresh_next given w v (set k n ps e) ds h i = record { known = n.text ∷ h.known; news = h.news.1; knows = further h.known w v n _ h.knows i }
fresh_next given w v (param k n b ps e) ds h i = record { known = n.text ∷ h.known; news = h.news.1; knows = further h.known w v n _ h.knows i }
fresh_next given w v (check k b m x e) ds h i = subst (λ u. IsFreshFrom u ds) (same w v i) (record { known = h.known; news = h.news; knows = h.knows })
fresh_next given w v (node k n b c e) ds h i = subst (λ u. IsFreshFrom u ds) (same w v i) (record { known = h.known; news = h.news; knows = h.knows })
fresh_next given w v (arc k n b ps e) ds h i = subst (λ u. IsFreshFrom u ds) (same w v i) (record { known = h.known; news = h.news; knows = h.knows })
fresh_next given w v (objective k n p e) ds h i = subst (λ u. IsFreshFrom u ds) (same w v i) (record { known = h.known; news = h.news; knows = h.knows })

pub ruleset fresh = (at_first, fresh_now, fresh_next)

-- the names of declarations, each with whether it is a set's
next_name : (w v : Declared) (d : Declaration) (ds : List Declaration) → IsFreshFrom w (d ∷ ds) → v ≡ w ++ declared (d ∷ []) → IsFreshFrom v ds
next_name w v (set k n ps e) ds h i = record { known = n.text ∷ h.known; news = h.news.1; knows = subst (Knows (n.text ∷ h.known)) (sym i) (one_more h.known w n.text true h.knows) }
next_name w v (param k n b ps e) ds h i = record { known = n.text ∷ h.known; news = h.news.1; knows = subst (Knows (n.text ∷ h.known)) (sym i) (one_more h.known w n.text false h.knows) }
next_name w v (check k b m x e) ds h i = subst (λ u. IsFreshFrom u ds) (sym (i ∙ append-nil w)) (record { known = h.known; news = h.news; knows = h.knows })
next_name w v (node k n b c e) ds h i = subst (λ u. IsFreshFrom u ds) (sym (i ∙ append-nil w)) (record { known = h.known; news = h.news; knows = h.knows })
next_name w v (arc k n b ps e) ds h i = subst (λ u. IsFreshFrom u ds) (sym (i ∙ append-nil w)) (record { known = h.known; news = h.news; knows = h.knows })
next_name w v (objective k n p e) ds h i = subst (λ u. IsFreshFrom u ds) (sym (i ∙ append-nil w)) (record { known = h.known; news = h.news; knows = h.knows })

drop_at : (ds : List Decl) (i : ℕ) (d : Decl) → i < length ds → d ≡ get_or ds i d → drop i ds ≡ d ∷ drop (i + 1) ds
drop_at ds i d h e = let a = drop-cons ds i d h in let b = add-one i in cc

abbrev front : List Decl → ℕ → List Declaration
front ds i = map declaration_of (drop i ds)

left_at : (ds : List Decl) (i : ℕ) (d : Decl) → i < length ds → d ≡ get_or ds i d → front ds i ≡ declaration_of d ∷ front ds (i + 1)
left_at ds i d h e = ap (map declaration_of) (drop_at ds i d h e)

-- the next declaration's name means nothing so far
pub fresh_item : {T : Type 0} (w : List (Name × T)) (ds : List Decl) (i : ℕ) (d : Decl) → IsFreshFrom w (front ds i) → i < length ds → d ≡ get_or ds i d → IsFresh w (declaration_of d)
fresh_item w ds i d h l e = fresh_now w (declaration_of d) (front ds (i + 1)) (subst (IsFreshFrom w) (left_at ds i d l e) h)

pub fresh_left : (given : Sorted) (w v : World) (ds : List Decl) (i : ℕ) (d : Decl) → IsFreshFrom w (front ds i) → i < length ds → d ≡ get_or ds i d
    → declare given (declaration_of d) w ≡ Ok v → IsFreshFrom v (front ds (i + 1))
fresh_left given w v ds i d h l e o = fresh_next given w v (declaration_of d) (front ds (i + 1)) (subst (IsFreshFrom w) (left_at ds i d l e) h) o

pub goes_on : (given : Sorted) (w v : World) (ds : List Decl) (i : ℕ) (d : Decl) (all : Outcome World) → each (declare given) (front ds i) w ≡ all → i < length ds → d ≡ get_or ds i d
    → declare given (declaration_of d) w ≡ Ok v → each (declare given) (front ds (i + 1)) v ≡ all
goes_on given w v ds i d all h l e o =
    sym (ap (λ ds. each (declare given) ds w) (left_at ds i d l e) ∙ ap (λ x. and_then x (each (declare given) (front ds (i + 1)))) o) ∙ h

-- what is said of each name leads on to the world
pub said_first : (ds : List Declaration) (ss : List Statement) (ns : Declared) (given : Sorted) (r : Result World Fault) → ns ≡ declared ds → data_by_name ns ss ≡ Ok given
    → Refines (with_given ds given) r → Refines (world ds ss) r
unfolding world
said_first ds ss ns given r e f h = subst (λ o. Refines (and_then o (with_given ds)) r) (sym (ap (λ k. data_by_name k ss) (sym e) ∙ f)) h

pub fresh_name_left : (w v : Declared) (ds : List Decl) (i : ℕ) (d : Decl) → IsFreshFrom w (front ds i) → i < length ds → d ≡ get_or ds i d
    → v ≡ w ++ declared (declaration_of d ∷ []) → IsFreshFrom v (front ds (i + 1))
fresh_name_left w v ds i d h l e o = next_name w v (declaration_of d) (front ds (i + 1)) (subst (IsFreshFrom w) (left_at ds i d l e) h) o

-- one name more
declared_first : (d : Declaration) (ds : List Declaration) → declared (d ∷ ds) ≡ declared (d ∷ []) ++ declared ds
declared_first (set k n ps e) ds = refl
declared_first (param k n b ps e) ds = refl
declared_first (check k b m x e) ds = refl
declared_first (node k n b c e) ds = refl
declared_first (arc k n b ps e) ds = refl
declared_first (objective k n p e) ds = refl

pub names_go_on : (w v all : Declared) (ds : List Decl) (i : ℕ) (d : Decl) → w ++ declared (front ds i) ≡ all → i < length ds → d ≡ get_or ds i d
    → v ≡ w ++ declared (declaration_of d ∷ []) → v ++ declared (front ds (i + 1)) ≡ all
names_go_on w v all ds i d h l e o =
    ap (λ x. x ++ declared (front ds (i + 1))) o ∙ append_assoc w (declared (declaration_of d ∷ [])) (declared (front ds (i + 1)))
    ∙ sym (ap (λ x. w ++ x) (ap declared (left_at ds i d l e) ∙ declared_first (declaration_of d) (front ds (i + 1)))) ∙ h
