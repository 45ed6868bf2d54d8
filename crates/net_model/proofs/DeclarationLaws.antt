-- What is read as a declaration is printed so, and the other way round.
use Rattle.std.specs.Prelude.{◌≡◌, ◌≤◌, ◌<◌, ℕ, true, false, List, [], ◌∷◌, Option, None, Some, Ok}
use Rattle.std.proofs.Common.{refl, ap, ◌∙◌, arith}
use Rattle.net_lex.specs.declared.token.Token.{Token}
use Rattle.net_tree.specs.declared.role.Role.{Role}
use Rattle.net_tree.specs.declared.role.Role.TheVariants as roles
use Rattle.net_tree.specs.declared.role.Declares.{Declares}
use Rattle.net_tree.specs.declared.role.Declares.TheVariants as declares
use Rattle.net_tree.specs.Role.{role_of, is_comma, is_colon, is_semicolon, is_open_brace, is_else}
use Rattle.net_tree.specs.Tree.{Tree, Part, absent, part, Braces, empty, filled, Body, Condition, unsaid, one, between, Phrase, Declaration, set, param, check, node, arc, objective}
use Rattle.net_tree.specs.Print.{put, put_part, put_braces, put_optional, put_body, put_indexing, put_phrases, put_condition, put_declaration}
use Rattle.net_tree.specs.Depth.{part_depth, braces_depth, indexing_depth, phrases_depth, declaration_depth}
use Rattle.net_tree.specs.WellFormed.{precedence, AreBraces}
use Rattle.net_tree.specs.Conditions.{IsCondition}
use Rattle.net_tree.specs.Phrases.{ArePhrases, IsOptionalComma, AreSetPhrases, AreParamPhrases, AreArcPhrases}
use Rattle.net_tree.specs.Declarations.{IsIndexing, IsObjective, IsDeclaration}
use Rattle.net_model.specs.declared.phrases.Owner.{Owner}
use Rattle.net_model.specs.declared.phrases.Owner.TheVariants as owners
use Rattle.net_model.specs.declared.expected.Expected.TheVariants as sorts
use Rattle.net_model.specs.declared.model_parser.Awaiting.TheVariants as awaiting
use Rattle.net_model.specs.Reading.{Tokens, next_is}
use Rattle.net_model.specs.Expressions.{Inner, nested, unary, wide, part_at, present_at}
use Rattle.net_model.specs.Phrases.{nothing_stood}
use Rattle.net_model.specs.Declarations.{indexing_at, set_at, param_at, check_at, node_at, arc_at, after_objective, objective_at, declared_at, declaration_of_role, declaration_at}
use Rattle.net_model.proofs.Tools.{bind_ok, given, chosen, on, off, expect-sound, expect-complete}
use Rattle.net_model.proofs.LinksSound.{climb-sound}
use Rattle.net_model.proofs.TreesSound.{Wide, wide_value, IsInside, IsPart, part-sound, unary-sound, wide-sound, braces-sound}
use Rattle.net_model.proofs.Grips.{Stops, semicolon-shuts, reach-le}
use Rattle.net_model.proofs.LinksComplete.{in_place}
use Rattle.net_model.proofs.TreesComplete.{trees-complete, braces-complete, value-read}
use Rattle.net_model.proofs.ConditionLaws.{condition-sound, condition-complete}
use Rattle.net_model.proofs.PhraseWords.{Of, dimen, default, becomes, at_least, at_most, from, to}
use Rattle.net_model.proofs.PhraseLaws.{Singly, phrases-sound, end-sound, phrases-complete, end-complete}

pub record SoundIndexing (d : ℕ) (ts : Tokens) (a : Option Braces × Tokens) : Type 0 where
  pub text : ts ≡ put_indexing a.0 a.1
  pub level : IsIndexing a.0
  pub within : indexing_depth a.0 ≤ d

pub indexing-sound : (d : ℕ) (o : Option Inner) → IsInside d o → (ts : Tokens) (a : Option Braces × Tokens) → indexing_at o ts ≡ Ok a → SoundIndexing d ts a
unfolding indexing_at
indexing-sound d o inner ts a h =
    elim (chosen (next_is is_open_brace ts) _ _ _ h) [
      | on b e ↦
          let x = bind_ok _ _ _ e in
          let sx = braces-sound d o inner ts x.value x.first in
          given (λ y. SoundIndexing d ts y) (Some x.value.0, x.value.1) a x.after (record { text = sx.text; level = sx.level; within = sx.within })
      | off b e ↦ given (λ y. SoundIndexing d ts y) (None, ts) a e (record { text = refl; level = tt; within = omega arith })
    ]

pub set_phrases : (ps : List Phrase) → ArePhrases (Of owners.Set) ps → Singly owners.Set nothing_stood ps → AreSetPhrases ps
set_phrases ps are singly = (are, omega (arith, singly dimen refl), omega (arith, singly becomes refl))

pub param_phrases : (ps : List Phrase) → ArePhrases (Of owners.Param) ps → Singly owners.Param nothing_stood ps → AreParamPhrases ps
param_phrases ps are singly = (are, omega (arith, singly default refl), omega (arith, singly becomes refl))

pub arc_phrases : (ps : List Phrase) → ArePhrases (Of owners.Arc) ps → Singly owners.Arc nothing_stood ps → AreArcPhrases ps
arc_phrases ps are singly = (are, omega (arith, singly at_least refl), omega (arith, singly at_most refl), omega (arith, singly from refl), omega (arith, singly to refl))

set_singly : (ps : List Phrase) → AreSetPhrases ps → Singly owners.Set nothing_stood ps
set_singly ps are dimen single = omega (arith, are.1)
set_singly ps are becomes single = omega (arith, are.2)
set_singly ps are f single = absurd (cc)

param_singly : (ps : List Phrase) → AreParamPhrases ps → Singly owners.Param nothing_stood ps
param_singly ps are default single = omega (arith, are.1)
param_singly ps are becomes single = omega (arith, are.2)
param_singly ps are f single = absurd (cc)

arc_singly : (ps : List Phrase) → AreArcPhrases ps → Singly owners.Arc nothing_stood ps
arc_singly ps are at_least single = omega (arith, are.1)
arc_singly ps are at_most single = omega (arith, are.2)
arc_singly ps are from single = omega (arith, are.3)
arc_singly ps are to single = omega (arith, are.4)
arc_singly ps are f single = absurd (cc)

pub record SoundDeclaration (d : ℕ) (ts : Tokens) (a : Declaration × Tokens) : Type 0 where
  pub text : ts ≡ put_declaration a.0 a.1
  pub level : IsDeclaration a.0
  pub within : declaration_depth a.0 ≤ d

set-sound : (d : ℕ) (o : Option Inner) → IsInside d o → (w : Token) (ts : Tokens) (a : Declaration × Tokens) → role_of w ≡ roles.Declaration declares.Set → set_at o w ts ≡ Ok a → SoundDeclaration d (w ∷ ts) a
unfolding set_at
set-sound d o inner w ts a is h =
    let n = bind_ok _ _ _ h in
    let sn = expect-sound sorts.Name awaiting.Other ts n.value n.first in
    let p = bind_ok _ _ _ n.after in
    let sp = phrases-sound d o inner owners.Set n.value.1 p.value p.first in
    let e = bind_ok _ _ _ p.after in
    let se = end-sound owners.Set p.value.0.1 p.value.1 e.value e.first in
    given (λ y. SoundDeclaration d (w ∷ ts) y) (set w n.value.0 p.value.0.0 e.value.0, e.value.1) a e.after (record {
      text = ap (λ k. w ∷ k) (sn.text ∙ ap (λ k. n.value.0 ∷ k) (sp.text ∙ ap (put_phrases p.value.0.0) se.text));
      level = (is, sn.sort, set_phrases p.value.0.0 sp.level sp.singly, se.ends);
      within = sp.within;
    })

param-sound : (d : ℕ) (o : Option Inner) → IsInside d o → (w : Token) (ts : Tokens) (a : Declaration × Tokens) → role_of w ≡ roles.Declaration declares.Param → param_at o w ts ≡ Ok a → SoundDeclaration d (w ∷ ts) a
unfolding param_at
param-sound d o inner w ts a is h =
    let n = bind_ok _ _ _ h in
    let sn = expect-sound sorts.Name awaiting.Other ts n.value n.first in
    let b = bind_ok _ _ _ n.after in
    let sb = indexing-sound d o inner n.value.1 b.value b.first in
    let p = bind_ok _ _ _ b.after in
    let sp = phrases-sound d o inner owners.Param b.value.1 p.value p.first in
    let e = bind_ok _ _ _ p.after in
    let se = end-sound owners.Param p.value.0.1 p.value.1 e.value e.first in
    given (λ y. SoundDeclaration d (w ∷ ts) y) (param w n.value.0 b.value.0 p.value.0.0 e.value.0, e.value.1) a e.after (record {
      text = ap (λ k. w ∷ k) (sn.text ∙ ap (λ k. n.value.0 ∷ k) (sb.text ∙ ap (put_indexing b.value.0) (sp.text ∙ ap (put_phrases p.value.0.0) se.text)));
      level = (is, sn.sort, sb.level, param_phrases p.value.0.0 sp.level sp.singly, se.ends);
      within = omega (arith, sb.within, sp.within);
    })

arc-sound : (d : ℕ) (o : Option Inner) → IsInside d o → (w : Token) (ts : Tokens) (a : Declaration × Tokens) → role_of w ≡ roles.Declaration declares.Arc → arc_at o w ts ≡ Ok a → SoundDeclaration d (w ∷ ts) a
unfolding arc_at
arc-sound d o inner w ts a is h =
    let n = bind_ok _ _ _ h in
    let sn = expect-sound sorts.Name awaiting.Other ts n.value n.first in
    let b = bind_ok _ _ _ n.after in
    let sb = indexing-sound d o inner n.value.1 b.value b.first in
    let p = bind_ok _ _ _ b.after in
    let sp = phrases-sound d o inner owners.Arc b.value.1 p.value p.first in
    let e = bind_ok _ _ _ p.after in
    let se = end-sound owners.Arc p.value.0.1 p.value.1 e.value e.first in
    given (λ y. SoundDeclaration d (w ∷ ts) y) (arc w n.value.0 b.value.0 p.value.0.0 e.value.0, e.value.1) a e.after (record {
      text = ap (λ k. w ∷ k) (sn.text ∙ ap (λ k. n.value.0 ∷ k) (sb.text ∙ ap (put_indexing b.value.0) (sp.text ∙ ap (put_phrases p.value.0.0) se.text)));
      level = (is, sn.sort, sb.level, arc_phrases p.value.0.0 sp.level sp.singly, se.ends);
      within = omega (arith, sb.within, sp.within);
    })

check-sound : (d : ℕ) (o : Option Inner) → IsInside d o → (w : Token) (ts : Tokens) (a : Declaration × Tokens) → role_of w ≡ roles.Declaration declares.Check → check_at o w ts ≡ Ok a → SoundDeclaration d (w ∷ ts) a
unfolding check_at
check-sound d o inner w ts a is h =
    let b = bind_ok _ _ _ h in
    let sb = indexing-sound d o inner ts b.value b.first in
    let m = bind_ok _ _ _ b.after in
    let sm = expect-sound sorts.Colon awaiting.Other b.value.1 m.value m.first in
    let x = bind_ok _ _ _ m.after in
    let sx = climb-sound d 10 (unary o) (omega arith) (omega arith) (unary-sound d o inner) m.value.1 x.value x.first in
    let e = bind_ok _ _ _ x.after in
    let se = expect-sound sorts.Semicolon awaiting.Other x.value.1 e.value e.first in
    given (λ y. SoundDeclaration d (w ∷ ts) y) (check w b.value.0 m.value.0 x.value.0 e.value.0, e.value.1) a e.after (record {
      text = ap (λ k. w ∷ k) (sb.text ∙ ap (put_indexing b.value.0) (sm.text ∙ ap (λ k. m.value.0 ∷ k) (sx.text ∙ ap (put x.value.0) se.text)));
      level = (is, sb.level, sm.sort, sx.level, sx.fits, se.sort);
      within = omega (arith, sb.within, sx.within);
    })

node-sound : (d : ℕ) (o : Option Inner) → IsInside d o → (w : Token) (ts : Tokens) (a : Declaration × Tokens) → role_of w ≡ roles.Declaration declares.Node → node_at o w ts ≡ Ok a → SoundDeclaration d (w ∷ ts) a
unfolding node_at
node-sound d o inner w ts a is h =
    let n = bind_ok _ _ _ h in
    let sn = expect-sound sorts.Name awaiting.Other ts n.value n.first in
    let b = bind_ok _ _ _ n.after in
    let sb = indexing-sound d o inner n.value.1 b.value b.first in
    let c = bind_ok _ _ _ b.after in
    let sc = condition-sound d o inner b.value.1 c.value c.first in
    let e = bind_ok _ _ _ c.after in
    let se = expect-sound sorts.Semicolon awaiting.Other c.value.1 e.value e.first in
    given (λ y. SoundDeclaration d (w ∷ ts) y) (node w n.value.0 b.value.0 c.value.0 e.value.0, e.value.1) a e.after (record {
      text = ap (λ k. w ∷ k) (sn.text ∙ ap (λ k. n.value.0 ∷ k) (sb.text ∙ ap (put_indexing b.value.0) (sc.text ∙ ap (put_condition c.value.0) se.text)));
      level = (is, sn.sort, sb.level, sc.level, se.sort);
      within = omega (arith, sb.within, sc.within);
    })

pub part_objective : (p : Part) → IsPart sorts.Colon (Wide 7) p → IsObjective p
part_objective absent h = tt
part_objective (part m x) h = (h.0, h.1, wide_value (precedence x) h.2)

objective-sound : (d : ℕ) (o : Option Inner) → IsInside d o → (w : Token) (ts : Tokens) (a : Declaration × Tokens) → role_of w ≡ roles.Declaration declares.Objective → objective_at o w ts ≡ Ok a
    → SoundDeclaration d (w ∷ ts) a
unfolding objective_at
objective-sound d o inner w ts a is h =
    let n = bind_ok _ _ _ h in
    let sn = expect-sound sorts.Name awaiting.Other ts n.value n.first in
    let p = bind_ok _ _ _ n.after in
    let sp = part-sound d sorts.Colon (Wide 7) (wide o 7) (wide-sound d 7 o (omega arith) (omega arith) inner) n.value.1 p.value p.first in
    let e = bind_ok _ _ _ p.after in
    let se = expect-sound sorts.Semicolon (after_objective p.value.0) p.value.1 e.value e.first in
    given (λ y. SoundDeclaration d (w ∷ ts) y) (objective w n.value.0 p.value.0 e.value.0, e.value.1) a e.after (record {
      text = ap (λ k. w ∷ k) (sn.text ∙ ap (λ k. n.value.0 ∷ k) (sp.text ∙ ap (put_part p.value.0) se.text));
      level = (is, sn.sort, part_objective p.value.0 sp.level, se.sort);
      within = sp.within;
    })

declared-sound : (d : ℕ) (o : Option Inner) → IsInside d o → (w : Token) (ts : Tokens) (a : Declaration × Tokens) (k : Declares) → role_of w ≡ roles.Declaration k → declared_at o k w ts ≡ Ok a
    → SoundDeclaration d (w ∷ ts) a
unfolding declared_at
declared-sound d o inner w ts a declares.Set is h = set-sound d o inner w ts a is h
declared-sound d o inner w ts a declares.Param is h = param-sound d o inner w ts a is h
declared-sound d o inner w ts a declares.Check is h = check-sound d o inner w ts a is h
declared-sound d o inner w ts a declares.Node is h = node-sound d o inner w ts a is h
declared-sound d o inner w ts a declares.Arc is h = arc-sound d o inner w ts a is h
declared-sound d o inner w ts a declares.Objective is h = objective-sound d o inner w ts a is h

role-sound : (d : ℕ) (o : Option Inner) → IsInside d o → (w : Token) (ts : Tokens) (a : Declaration × Tokens) (r : Role) → role_of w ≡ r → declaration_of_role o r w ts ≡ Ok a → SoundDeclaration d (w ∷ ts) a
role-sound d o inner w ts a (roles.Declaration k) is h = declared-sound d o inner w ts a k is h
role-sound d o inner w ts a _ is h = absurd (cc)

pub declaration-sound : (d : ℕ) (o : Option Inner) → IsInside d o → (ts : Tokens) (a : Declaration × Tokens) → declaration_at o ts ≡ Ok a → SoundDeclaration d ts a
unfolding declaration_at
declaration-sound d o inner [] a h = absurd (let k = h in cc)
declaration-sound d o inner (w ∷ ts) a h = role-sound d o inner w ts a (role_of w) refl h

-- the other way round
indexing-some : (d : ℕ) (b : Braces) (ts : Tokens) → AreBraces b → braces_depth b ≤ d → indexing_at (nested d) (put_braces b ts) ≡ Ok (Some b, ts)
unfolding indexing_at
indexing-some d (empty o p c) ts level deep = rw (level.0, braces-complete (empty o p c) d level deep ts) refl
indexing-some d (filled o x l p c) ts level deep = rw (level.0, braces-complete (filled o x l p c) d level deep ts) refl

indexing-complete : (d : ℕ) (b : Option Braces) (ts : Tokens) → IsIndexing b → indexing_depth b ≤ d → next_is is_open_brace ts ≡ false → indexing_at (nested d) (put_indexing b ts) ≡ Ok (b, ts)
unfolding indexing_at
indexing-complete d None ts level deep no_brace = rw no_brace refl
indexing-complete d (Some b) ts level deep no_brace = indexing-some d b ts level deep

-- no brace begins what may follow
semicolon-no_brace : (r : Role) → is_semicolon r ≡ true → is_open_brace r ≡ false
semicolon-no_brace roles.Semicolon h = refl
semicolon-no_brace _ h = absurd (cc)

colon-no_brace : (r : Role) → is_colon r ≡ true → is_open_brace r ≡ false
colon-no_brace roles.Colon h = refl
colon-no_brace _ h = absurd (cc)

comma-no_brace : (r : Role) → is_comma r ≡ true → is_open_brace r ≡ false
comma-no_brace roles.Comma h = refl
comma-no_brace _ h = absurd (cc)

param-no_brace : (r : Role) (b : Body) → Of owners.Param r b → is_open_brace r ≡ false
param-no_brace roles.OpenBrace b h = absurd h
param-no_brace _ b h = refl

arc-no_brace : (r : Role) (b : Body) → Of owners.Arc r b → is_open_brace r ≡ false
arc-no_brace roles.OpenBrace b h = absurd h
arc-no_brace _ b h = refl

phrases-no_brace : (o : Owner) → ((r : Role) (b : Body) → Of o r b → is_open_brace r ≡ false) → (ps : List Phrase) (e : Token) (ts : Tokens) → ArePhrases (Of o) ps → is_semicolon (role_of e) ≡ true
    → next_is is_open_brace (put_phrases ps (e ∷ ts)) ≡ false
phrases-no_brace o none [] e ts are ends = semicolon-no_brace (role_of e) ends
phrases-no_brace o none (p ∷ ps) e ts are ends = first p.comma p.word p.body are.0 are.1
  where
    first : (c : Option Token) (w : Token) (b : Body) → IsOptionalComma c → Of o (role_of w) b → next_is is_open_brace (put_optional c (w ∷ put_body b (put_phrases ps (e ∷ ts)))) ≡ false
    first None w b comma of = none (role_of w) b of
    first (Some c) w b comma of = comma-no_brace (role_of c) comma

condition-no_brace : (c : Condition) (e : Token) (ts : Tokens) → IsCondition c → is_semicolon (role_of e) ≡ true → next_is is_open_brace (put_condition c (e ∷ ts)) ≡ false
condition-no_brace unsaid e ts level ends = semicolon-no_brace (role_of e) ends
condition-no_brace (one m x o y) e ts level ends = colon-no_brace (role_of m) level.0
condition-no_brace (between m x o y p z) e ts level ends = colon-no_brace (role_of m) level.0

semicolon-no_colon : (r : Role) → is_semicolon r ≡ true → is_colon r ≡ false
semicolon-no_colon roles.Semicolon h = refl
semicolon-no_colon _ h = absurd (cc)

semicolon-no_else : (r : Role) → is_semicolon r ≡ true → is_else r ≡ false
semicolon-no_else roles.Semicolon h = refl
semicolon-no_else _ h = absurd (cc)

semicolon-stops : (p : ℕ) (e : Token) (ts : Tokens) → p < 20 → is_semicolon (role_of e) ≡ true → Stops p (e ∷ ts)
semicolon-stops p e ts h ends = let s = semicolon-shuts (role_of e) ends in omega (arith, s.grips)

objective-part : (d : ℕ) (p : Part) (e : Token) (ts : Tokens) → IsObjective p → part_depth p ≤ d → is_semicolon (role_of e) ≡ true → part_at sorts.Colon (wide (nested d) 7) (put_part p (e ∷ ts)) ≡ Ok (p, e ∷ ts)
unfolding part_at present_at
objective-part d absent e ts level deep ends = rw (semicolon-no_colon (role_of e) ends) refl
objective-part d (part m x) e ts level deep ends =
    rw (level.0, value-read d x (e ∷ ts) (trees-complete x d) level.1 deep level.2 (semicolon-stops 6 e ts (omega arith) ends) (semicolon-no_else (role_of e) ends)) refl

set-complete : (d : ℕ) (w n : Token) (ps : List Phrase) (e : Token) (ts : Tokens) → IsDeclaration (set w n ps e) → phrases_depth ps ≤ d
    → set_at (nested d) w (n ∷ put_phrases ps (e ∷ ts)) ≡ Ok (set w n ps e, ts)
unfolding set_at
set-complete d w n ps e ts level deep =
    let p = phrases-complete d owners.Set ps e ts level.2.0 (set_singly ps level.2) deep level.3 in
    rw (expect-complete sorts.Name awaiting.Other n (put_phrases ps (e ∷ ts)) level.1, p.read, end-complete owners.Set p.stands e ts level.3) refl

param-complete : (d : ℕ) (w n : Token) (b : Option Braces) (ps : List Phrase) (e : Token) (ts : Tokens) → IsDeclaration (param w n b ps e) → declaration_depth (param w n b ps e) ≤ d
    → param_at (nested d) w (n ∷ put_indexing b (put_phrases ps (e ∷ ts))) ≡ Ok (param w n b ps e, ts)
unfolding param_at
param-complete d w n b ps e ts level deep =
    let p = phrases-complete d owners.Param ps e ts level.3.0 (param_singly ps level.3) (omega (arith, deep)) level.4 in
    let indexed = indexing-complete d b (put_phrases ps (e ∷ ts)) level.2 (omega (arith, deep)) (phrases-no_brace owners.Param param-no_brace ps e ts level.3.0 level.4) in
    rw (expect-complete sorts.Name awaiting.Other n (put_indexing b (put_phrases ps (e ∷ ts))) level.1, indexed, p.read, end-complete owners.Param p.stands e ts level.4) refl

arc-complete : (d : ℕ) (w n : Token) (b : Option Braces) (ps : List Phrase) (e : Token) (ts : Tokens) → IsDeclaration (arc w n b ps e) → declaration_depth (arc w n b ps e) ≤ d
    → arc_at (nested d) w (n ∷ put_indexing b (put_phrases ps (e ∷ ts))) ≡ Ok (arc w n b ps e, ts)
unfolding arc_at
arc-complete d w n b ps e ts level deep =
    let p = phrases-complete d owners.Arc ps e ts level.3.0 (arc_singly ps level.3) (omega (arith, deep)) level.4 in
    let indexed = indexing-complete d b (put_phrases ps (e ∷ ts)) level.2 (omega (arith, deep)) (phrases-no_brace owners.Arc arc-no_brace ps e ts level.3.0 level.4) in
    rw (expect-complete sorts.Name awaiting.Other n (put_indexing b (put_phrases ps (e ∷ ts))) level.1, indexed, p.read, end-complete owners.Arc p.stands e ts level.4) refl

check-complete : (d : ℕ) (w : Token) (b : Option Braces) (m : Token) (x : Tree) (e : Token) (ts : Tokens) → IsDeclaration (check w b m x e) → declaration_depth (check w b m x e) ≤ d
    → check_at (nested d) w (put_indexing b (m ∷ put x (e ∷ ts))) ≡ Ok (check w b m x e, ts)
unfolding check_at
check-complete d w b m x e ts level deep =
    let indexed = indexing-complete d b (m ∷ put x (e ∷ ts)) level.1 (omega (arith, deep)) (colon-no_brace (role_of m) level.2) in
    let inner = in_place d 10 10 x (e ∷ ts) (trees-complete x d) level.3 (omega (arith, deep)) level.4 (omega arith) (omega arith) (omega (arith, reach-le (precedence x), level.4)) (semicolon-stops 10 e ts (omega arith) level.5) in
    rw (indexed, expect-complete sorts.Colon awaiting.Other m (put x (e ∷ ts)) level.2, inner, expect-complete sorts.Semicolon awaiting.Other e ts level.5) refl

node-complete : (d : ℕ) (w n : Token) (b : Option Braces) (c : Condition) (e : Token) (ts : Tokens) → IsDeclaration (node w n b c e) → declaration_depth (node w n b c e) ≤ d
    → node_at (nested d) w (n ∷ put_indexing b (put_condition c (e ∷ ts))) ≡ Ok (node w n b c e, ts)
unfolding node_at
node-complete d w n b c e ts level deep =
    let indexed = indexing-complete d b (put_condition c (e ∷ ts)) level.2 (omega (arith, deep)) (condition-no_brace c e ts level.3 level.4) in
    rw (
      expect-complete sorts.Name awaiting.Other n (put_indexing b (put_condition c (e ∷ ts))) level.1,
      indexed,
      condition-complete d c e ts level.3 (omega (arith, deep)) level.4,
      expect-complete sorts.Semicolon awaiting.Other e ts level.4,
    )
    refl

objective-complete : (d : ℕ) (w n : Token) (p : Part) (e : Token) (ts : Tokens) → IsDeclaration (objective w n p e) → part_depth p ≤ d
    → objective_at (nested d) w (n ∷ put_part p (e ∷ ts)) ≡ Ok (objective w n p e, ts)
unfolding objective_at
objective-complete d w n p e ts level deep =
    rw (expect-complete sorts.Name awaiting.Other n (put_part p (e ∷ ts)) level.1, objective-part d p e ts level.2 deep level.3, expect-complete sorts.Semicolon (after_objective p) e ts level.3) refl

worded_as : (d : ℕ) (k : Declares) (w : Token) (ts : Tokens) (a : Declaration × Tokens) → role_of w ≡ roles.Declaration k → declared_at (nested d) k w ts ≡ Ok a → declaration_at (nested d) (w ∷ ts) ≡ Ok a
unfolding declaration_at
worded_as d k w ts a is h = rw is h

pub declaration-complete : (d : ℕ) (x : Declaration) (ts : Tokens) → IsDeclaration x → declaration_depth x ≤ d → declaration_at (nested d) (put_declaration x ts) ≡ Ok (x, ts)
unfolding declared_at
declaration-complete d (set w n ps e) ts level deep = worded_as d declares.Set w _ (set w n ps e, ts) level.0 (set-complete d w n ps e ts level deep)
declaration-complete d (param w n b ps e) ts level deep = worded_as d declares.Param w _ (param w n b ps e, ts) level.0 (param-complete d w n b ps e ts level deep)
declaration-complete d (check w b m x e) ts level deep = worded_as d declares.Check w _ (check w b m x e, ts) level.0 (check-complete d w b m x e ts level deep)
declaration-complete d (node w n b c e) ts level deep = worded_as d declares.Node w _ (node w n b c e, ts) level.0 (node-complete d w n b c e ts level deep)
declaration-complete d (arc w n b ps e) ts level deep = worded_as d declares.Arc w _ (arc w n b ps e, ts) level.0 (arc-complete d w n b ps e ts level deep)
declaration-complete d (objective w n p e) ts level deep = worded_as d declares.Objective w _ (objective w n p e, ts) level.0 (objective-complete d w n p e ts level deep)
