-- Where a declaration or a model stops, the tokens before the stop begin one.
use Rattle.std.specs.Prelude.{◌≡◌, ◌≤◌, ◌<◌, ℕ, List, [], ◌∷◌, length, Option, None, Some, codes}
use Rattle.std.proofs.Common.{refl, ap, ◌∙◌, arith}
use Rattle.net_lex.specs.declared.token.Token.{Token}
use Rattle.net_lex.specs.declared.token.Kind.TheVariants as kinds
use Rattle.net_tree.specs.declared.role.Role.{Role}
use Rattle.net_tree.specs.declared.role.Role.TheVariants as roles
use Rattle.net_tree.specs.declared.role.Declares.{Declares}
use Rattle.net_tree.specs.declared.role.Declares.TheVariants as declares
use Rattle.net_tree.specs.Role.{role_of, keys, is_open_brace}
use Rattle.net_tree.specs.Tree.{absent, Braces, unsaid, Declaration, set, param, check, node, arc, objective}
use Rattle.net_tree.specs.Print.{put, put_part, put_indexing, put_phrases, put_condition, put_declaration}
use Rattle.net_tree.specs.Depth.{indexing_depth, declaration_depth}
use Rattle.net_tree.specs.Declarations.{IsIndexing, IsDeclaration}
use Rattle.net_model.specs.declared.phrases.Owner.TheVariants as owners
use Rattle.net_model.specs.declared.expected.Expected.TheVariants as sorts
use Rattle.net_model.specs.declared.model_parser.Awaiting.TheVariants as awaiting
use Rattle.net_model.specs.Reading.{Tokens, next_is}
use Rattle.net_model.specs.Expressions.{Inner, climb, unary, wide, braces, part_at, nested}
use Rattle.net_model.specs.Phrases.{phrases, phrases_end}
use Rattle.net_model.specs.Conditions.{condition_at}
use Rattle.net_model.specs.Declarations.{indexing_at, set_at, param_at, check_at, node_at, arc_at, after_objective, objective_at, declared_at, declaration_of_role, declaration_at, any_left, declaration_step, model_at}
use Rattle.net_model.proofs.LinksSound.{UpTo, climb-sound}
use Rattle.net_model.proofs.TreesSound.{Wide, part-sound, unary-sound, wide-sound}
use Rattle.net_model.proofs.ConditionLaws.{condition-sound}
use Rattle.net_model.proofs.PhraseLaws.{phrases-sound}
use Rattle.net_model.proofs.DeclarationLaws.{indexing-sound, set_phrases, param_phrases, arc_phrases, part_objective}
use Rattle.net_model.proofs.ModelLaws.{IsOne, step-sound}
use Rattle.net_model.proofs.Readers.{put_before}
use Rattle.net_model.proofs.Mending.{Written, Begun, Mending, here, same, then_mends, last_mends, choose_mends, read_mends, rejected_mends, passed_mends}
use Rattle.net_model.proofs.Fillers.{made, filler, fills, a_name, a_name_level, token, tree, part_of, braces_of, put-front, put_part-front, put_braces-front}
use Rattle.net_model.proofs.MendingLinks.{Mends, expect_then, expect_last, climb-mends, part-mends}
use Rattle.net_model.proofs.MendingInside.{Mendable, inside-mends}
use Rattle.net_model.proofs.MendingConditions.{condition_of, condition-mends, put_condition-front}
use Rattle.net_model.proofs.MendingPhrases.{put_phrases-front, phrases_of, phrases-mends, end-mends}
use Rattle.net_model.proofs.MendingRows.{step_of, row_of, row-mends}

put_indexing-front : (b : Option Braces) (v r : Tokens) → put_indexing b (put_before v r) ≡ put_before (put_indexing b v) r
put_indexing-front None v r = refl
put_indexing-front (Some b) v r = put_braces-front b v r

pub put_declaration-front : (x : Declaration) (v r : Tokens) → put_declaration x (put_before v r) ≡ put_before (put_declaration x v) r
put_declaration-front (set w n ps e) v r = ap (λ k. w ∷ n ∷ k) (put_phrases-front ps (e ∷ v) r)
put_declaration-front (param w n b ps e) v r =
    ap (λ k. w ∷ n ∷ put_indexing b k) (put_phrases-front ps (e ∷ v) r) ∙ ap (λ k. w ∷ n ∷ k) (put_indexing-front b (put_phrases ps (e ∷ v)) r)
put_declaration-front (check w b m x e) v r = ap (λ k. w ∷ put_indexing b (m ∷ k)) (put-front x (e ∷ v) r) ∙ ap (λ k. w ∷ k) (put_indexing-front b (m ∷ put x (e ∷ v)) r)
put_declaration-front (node w n b c e) v r =
    ap (λ k. w ∷ n ∷ put_indexing b k) (put_condition-front c (e ∷ v) r) ∙ ap (λ k. w ∷ n ∷ k) (put_indexing-front b (put_condition c (e ∷ v)) r)
put_declaration-front (arc w n b ps e) v r =
    ap (λ k. w ∷ n ∷ put_indexing b k) (put_phrases-front ps (e ∷ v) r) ∙ ap (λ k. w ∷ n ∷ k) (put_indexing-front b (put_phrases ps (e ∷ v)) r)
put_declaration-front (objective w n p e) v r = ap (λ k. w ∷ n ∷ k) (put_part-front p (e ∷ v) r)

abbrev indexing_of : Written (Option Braces)
indexing_of = record { put = put_indexing; fits = λ k b. IsIndexing b × (indexing_depth b ≤ k); front = put_indexing-front }

abbrev declaration_of : Written Declaration
declaration_of = record { put = put_declaration; fits = λ k x. IsDeclaration x × (declaration_depth x ≤ k); front = put_declaration-front }

indexing-mends : (d : ℕ) (o : Option Inner) → 0 < d → Mendable d o → Mends indexing_of d (indexing_at o)
unfolding indexing_at
indexing-mends d o some m ts =
    choose_mends indexing_of d same ts (next_is is_open_brace ts) _ _
    (λ b. last_mends braces_of indexing_of here d same ts (braces o ts) _ (m.braces some ts)
    (λ s e k x le f. record { thing = Some x; fits = (f.0, f.1); rest = []; text = λ r. refl })
    (λ x s h. cc))
    (λ b. read_mends indexing_of d same ts (None, ts))

-- the semicolon
abbrev stop : Token
stop = filler sorts.Semicolon

set-mends : (d : ℕ) (o : Option Inner) → 0 < d → Mendable d o → (w : Token) → role_of w ≡ roles.Declaration declares.Set → (ts : Tokens) → Mending declaration_of d (λ r. w ∷ r) ts (set_at o w ts)
unfolding set_at
set-mends d o some m w is ts =
    expect_then sorts.Name awaiting.Other declaration_of d (λ r. w ∷ r) ts _
    (λ k n le named. record { thing = set w n [] stop; fits = ((is, named, (tt, omega arith, omega arith), fills sorts.Semicolon), omega arith); rest = stop ∷ []; text = λ r. refl })
    (λ n q named.
    then_mends (phrases_of owners.Set) declaration_of here d (λ r. w ∷ n ∷ r) q (phrases o owners.Set q) _ (phrases-mends d o m owners.Set q)
    (λ s e k p le f. record { thing = set w n p.0 stop; fits = ((is, named, set_phrases p.0 f.0 f.1, fills sorts.Semicolon), f.2); rest = stop ∷ []; text = λ r. refl })
    (λ p e.
    let sp = phrases-sound d o m.sound owners.Set q p e in
    record {
      text = sp.text;
      mends =
          last_mends (token sorts.Semicolon) declaration_of here d (λ r. w ∷ n ∷ put_phrases p.0.0 r) p.1 (phrases_end owners.Set p.0.1 p.1) _ (end-mends d owners.Set p.0.1 p.1)
          (λ s e k c le f. record { thing = set w n p.0.0 c; fits = ((is, named, set_phrases p.0.0 sp.level sp.singly, f), omega (arith, sp.within, le)); rest = []; text = λ r. refl })
          (λ c s h. cc);
    }))

param-mends : (d : ℕ) (o : Option Inner) → 0 < d → Mendable d o → (w : Token) → role_of w ≡ roles.Declaration declares.Param → (ts : Tokens) → Mending declaration_of d (λ r. w ∷ r) ts (param_at o w ts)
unfolding param_at
param-mends d o some m w is ts =
    expect_then sorts.Name awaiting.Other declaration_of d (λ r. w ∷ r) ts _
    (λ k n le named. record { thing = param w n None [] stop; fits = ((is, named, tt, (tt, omega arith, omega arith), fills sorts.Semicolon), omega arith); rest = stop ∷ []; text = λ r. refl })
    (λ n q named.
    then_mends indexing_of declaration_of here d (λ r. w ∷ n ∷ r) q (indexing_at o q) _ (indexing-mends d o some m q)
    (λ s e k b le f. record { thing = param w n b [] stop; fits = ((is, named, f.0, (tt, omega arith, omega arith), fills sorts.Semicolon), omega (arith, f.1)); rest = stop ∷ []; text = λ r. refl })
    (λ b e.
    let sb = indexing-sound d o m.sound q b e in
    record {
      text = sb.text;
      mends =
          then_mends (phrases_of owners.Param) declaration_of here d (λ r. w ∷ n ∷ put_indexing b.0 r) b.1 (phrases o owners.Param b.1) _ (phrases-mends d o m owners.Param b.1)
          (λ s e k p le f. record {
            thing = param w n b.0 p.0 stop;
            fits = ((is, named, sb.level, param_phrases p.0 f.0 f.1, fills sorts.Semicolon), omega (arith, sb.within, le, f.2));
            rest = stop ∷ [];
            text = λ r. refl;
          })
          (λ p e.
          let sp = phrases-sound d o m.sound owners.Param b.1 p e in
          record {
            text = sp.text;
            mends =
                last_mends (token sorts.Semicolon) declaration_of here d (λ r. w ∷ n ∷ put_indexing b.0 (put_phrases p.0.0 r)) p.1 (phrases_end owners.Param p.0.1 p.1) _ (end-mends d owners.Param p.0.1 p.1)
                (λ s e k c le f. record {
                  thing = param w n b.0 p.0.0 c;
                  fits = ((is, named, sb.level, param_phrases p.0.0 sp.level sp.singly, f), omega (arith, sb.within, sp.within, le));
                  rest = [];
                  text = λ r. refl;
                })
                (λ c s h. cc);
          });
    }))

arc-mends : (d : ℕ) (o : Option Inner) → 0 < d → Mendable d o → (w : Token) → role_of w ≡ roles.Declaration declares.Arc → (ts : Tokens) → Mending declaration_of d (λ r. w ∷ r) ts (arc_at o w ts)
unfolding arc_at
arc-mends d o some m w is ts =
    expect_then sorts.Name awaiting.Other declaration_of d (λ r. w ∷ r) ts _
    (λ k n le named. record {
      thing = arc w n None [] stop;
      fits = ((is, named, tt, (tt, omega arith, omega arith, omega arith, omega arith), fills sorts.Semicolon), omega arith);
      rest = stop ∷ [];
      text = λ r. refl;
    })
    (λ n q named.
    then_mends indexing_of declaration_of here d (λ r. w ∷ n ∷ r) q (indexing_at o q) _ (indexing-mends d o some m q)
    (λ s e k b le f. record {
      thing = arc w n b [] stop;
      fits = ((is, named, f.0, (tt, omega arith, omega arith, omega arith, omega arith), fills sorts.Semicolon), omega (arith, f.1));
      rest = stop ∷ [];
      text = λ r. refl;
    })
    (λ b e.
    let sb = indexing-sound d o m.sound q b e in
    record {
      text = sb.text;
      mends =
          then_mends (phrases_of owners.Arc) declaration_of here d (λ r. w ∷ n ∷ put_indexing b.0 r) b.1 (phrases o owners.Arc b.1) _ (phrases-mends d o m owners.Arc b.1)
          (λ s e k p le f. record {
            thing = arc w n b.0 p.0 stop;
            fits = ((is, named, sb.level, arc_phrases p.0 f.0 f.1, fills sorts.Semicolon), omega (arith, sb.within, le, f.2));
            rest = stop ∷ [];
            text = λ r. refl;
          })
          (λ p e.
          let sp = phrases-sound d o m.sound owners.Arc b.1 p e in
          record {
            text = sp.text;
            mends =
                last_mends (token sorts.Semicolon) declaration_of here d (λ r. w ∷ n ∷ put_indexing b.0 (put_phrases p.0.0 r)) p.1 (phrases_end owners.Arc p.0.1 p.1) _ (end-mends d owners.Arc p.0.1 p.1)
                (λ s e k c le f. record {
                  thing = arc w n b.0 p.0.0 c;
                  fits = ((is, named, sb.level, arc_phrases p.0.0 sp.level sp.singly, f), omega (arith, sb.within, sp.within, le));
                  rest = [];
                  text = λ r. refl;
                })
                (λ c s h. cc);
          });
    }))

check-mends : (d : ℕ) (o : Option Inner) → 0 < d → Mendable d o → (w : Token) → role_of w ≡ roles.Declaration declares.Check → (ts : Tokens) → Mending declaration_of d (λ r. w ∷ r) ts (check_at o w ts)
unfolding check_at
check-mends d o some m w is ts =
    then_mends indexing_of declaration_of here d (λ r. w ∷ r) ts (indexing_at o ts) _ (indexing-mends d o some m ts)
    (λ s e k b le f. record {
      thing = check w b (filler sorts.Colon) a_name stop;
      fits = ((is, f.0, fills sorts.Colon, a_name_level, omega arith, fills sorts.Semicolon), omega (arith, f.1));
      rest = filler sorts.Colon ∷ filler sorts.Name ∷ stop ∷ [];
      text = λ r. refl;
    })
    (λ b e.
    let sb = indexing-sound d o m.sound ts b e in
    record {
      text = sb.text;
      mends =
          expect_then sorts.Colon awaiting.Other declaration_of d (λ r. w ∷ put_indexing b.0 r) b.1 _
          (λ k c le colon. record {
            thing = check w b.0 c a_name stop;
            fits = ((is, sb.level, colon, a_name_level, omega arith, fills sorts.Semicolon), omega (arith, sb.within, le));
            rest = filler sorts.Name ∷ stop ∷ [];
            text = λ r. refl;
          })
          (λ c q colon.
          then_mends (tree (UpTo 10)) declaration_of here d (λ r. w ∷ put_indexing b.0 (c ∷ r)) q (climb 10 (unary o) q) _ (climb-mends d 10 (unary o) m.unary (unary-sound d o m.sound) (omega arith) (omega arith) q)
          (λ s e k x le f. record {
            thing = check w b.0 c x stop;
            fits = ((is, sb.level, colon, f.0, f.2, fills sorts.Semicolon), omega (arith, sb.within, le, f.1));
            rest = stop ∷ [];
            text = λ r. refl;
          })
          (λ x e.
          let sx = climb-sound d 10 (unary o) (omega arith) (omega arith) (unary-sound d o m.sound) q x e in
          record {
            text = sx.text;
            mends =
                expect_last sorts.Semicolon awaiting.Other declaration_of d (λ r. w ∷ put_indexing b.0 (c ∷ put x.0 r)) x.1 _
                (λ k e le ends. record { thing = check w b.0 c x.0 e; fits = ((is, sb.level, colon, sx.level, sx.fits, ends), omega (arith, sb.within, sx.within, le)); rest = []; text = λ r. refl })
                (λ e s h. cc);
          }));
    })

node-mends : (d : ℕ) (o : Option Inner) → 0 < d → Mendable d o → (w : Token) → role_of w ≡ roles.Declaration declares.Node → (ts : Tokens) → Mending declaration_of d (λ r. w ∷ r) ts (node_at o w ts)
unfolding node_at
node-mends d o some m w is ts =
    expect_then sorts.Name awaiting.Other declaration_of d (λ r. w ∷ r) ts _
    (λ k n le named. record { thing = node w n None unsaid stop; fits = ((is, named, tt, tt, fills sorts.Semicolon), omega arith); rest = stop ∷ []; text = λ r. refl })
    (λ n q named.
    then_mends indexing_of declaration_of here d (λ r. w ∷ n ∷ r) q (indexing_at o q) _ (indexing-mends d o some m q)
    (λ s e k b le f. record { thing = node w n b unsaid stop; fits = ((is, named, f.0, tt, fills sorts.Semicolon), omega (arith, f.1)); rest = stop ∷ []; text = λ r. refl })
    (λ b e.
    let sb = indexing-sound d o m.sound q b e in
    record {
      text = sb.text;
      mends =
          then_mends condition_of declaration_of here d (λ r. w ∷ n ∷ put_indexing b.0 r) b.1 (condition_at o b.1) _ (condition-mends d o m b.1)
          (λ s e k c le f. record { thing = node w n b.0 c stop; fits = ((is, named, sb.level, f.0, fills sorts.Semicolon), omega (arith, sb.within, le, f.1)); rest = stop ∷ []; text = λ r. refl })
          (λ c e.
          let sc = condition-sound d o m.sound b.1 c e in
          record {
            text = sc.text;
            mends =
                expect_last sorts.Semicolon awaiting.Other declaration_of d (λ r. w ∷ n ∷ put_indexing b.0 (put_condition c.0 r)) c.1 _
                (λ k e le ends. record { thing = node w n b.0 c.0 e; fits = ((is, named, sb.level, sc.level, ends), omega (arith, sb.within, sc.within, le)); rest = []; text = λ r. refl })
                (λ e s h. cc);
          });
    }))

objective-mends : (d : ℕ) (o : Option Inner) → 0 < d → Mendable d o → (w : Token) → role_of w ≡ roles.Declaration declares.Objective → (ts : Tokens) → Mending declaration_of d (λ r. w ∷ r) ts (objective_at o w ts)
unfolding objective_at
objective-mends d o some m w is ts =
    expect_then sorts.Name awaiting.Other declaration_of d (λ r. w ∷ r) ts _
    (λ k n le named. record { thing = objective w n absent stop; fits = ((is, named, tt, fills sorts.Semicolon), omega arith); rest = stop ∷ []; text = λ r. refl })
    (λ n q named.
    then_mends (part_of sorts.Colon (Wide 7)) declaration_of here d (λ r. w ∷ n ∷ r) q (part_at sorts.Colon (wide o 7) q) _ (part-mends d sorts.Colon (Wide 7) (wide o 7) (m.wide 7 (omega arith) (omega arith)) q)
    (λ s e k p le f. record { thing = objective w n p stop; fits = ((is, named, part_objective p f.0, fills sorts.Semicolon), f.1); rest = stop ∷ []; text = λ r. refl })
    (λ p e.
    let sp = part-sound d sorts.Colon (Wide 7) (wide o 7) (wide-sound d 7 o (omega arith) (omega arith) m.sound) q p e in
    record {
      text = sp.text;
      mends =
          expect_last sorts.Semicolon (after_objective p.0) declaration_of d (λ r. w ∷ n ∷ put_part p.0 r) p.1 _
          (λ k e le ends. record { thing = objective w n p.0 e; fits = ((is, named, part_objective p.0 sp.level, ends), omega (arith, sp.within, le)); rest = []; text = λ r. refl })
          (λ e s h. cc);
    }))

declared-mends : (d : ℕ) (o : Option Inner) → 0 < d → Mendable d o → (k : Declares) (w : Token) → role_of w ≡ roles.Declaration k → (ts : Tokens) → Mending declaration_of d (λ r. w ∷ r) ts (declared_at o k w ts)
unfolding declared_at
declared-mends d o some m declares.Set w is ts = set-mends d o some m w is ts
declared-mends d o some m declares.Param w is ts = param-mends d o some m w is ts
declared-mends d o some m declares.Check w is ts = check-mends d o some m w is ts
declared-mends d o some m declares.Node w is ts = node-mends d o some m w is ts
declared-mends d o some m declares.Arc w is ts = arc-mends d o some m w is ts
declared-mends d o some m declares.Objective w is ts = objective-mends d o some m w is ts

-- a declaration that may stand anywhere
unfoldable set_word : Token
set_word = made kinds.Key (codes "set")

set_word_is : role_of set_word ≡ roles.Declaration declares.Set
unfolding set_word role_of keys
set_word_is = refl

a_set : (k : ℕ) → Begun declaration_of k same []
a_set k = record {
  thing = set set_word (filler sorts.Name) [] stop;
  fits = ((set_word_is, fills sorts.Name, (tt, omega arith, omega arith), fills sorts.Semicolon), omega arith);
  rest = set_word ∷ filler sorts.Name ∷ stop ∷ [];
  text = λ r. refl;
}

role-mends : (d : ℕ) (o : Option Inner) → 0 < d → Mendable d o → (r : Role) (w : Token) → role_of w ≡ r → (ts : Tokens) → Mending declaration_of d same (w ∷ ts) (declaration_of_role o r w ts)
role-mends d o some m (roles.Declaration k) w is ts = passed_mends declaration_of d same w ts _ (declared-mends d o some m k w is ts)
role-mends d o some m _ w is ts = rejected_mends declaration_of d same (w ∷ ts) awaiting.Declaration (d, omega arith, a_set d)

declaration-mends : (d : ℕ) (o : Option Inner) → 0 < d → Mendable d o → Mends declaration_of d (declaration_at o)
unfolding declaration_at
declaration-mends d o some m [] = rejected_mends declaration_of d same [] awaiting.Declaration (d, omega arith, a_set d)
declaration-mends d o some m (w ∷ ts) = role-mends d o some m (role_of w) w refl ts

abbrev pub One : ℕ → Unit {0} → Declaration → Unit {0} → Type 0
One k s x after = IsOne k s x after

abbrev pub model_of : Written (List Declaration × Unit {0})
model_of = row_of put_declaration put_declaration-front One tt

step-mends : (d : ℕ) → 0 < d → (s : Unit {0}) → Mends (step_of put_declaration put_declaration-front One s) d (declaration_step (nested d) s)
unfolding declaration_step
step-mends d some s ts =
    last_mends declaration_of (step_of put_declaration put_declaration-front One s) here d same ts (declaration_at (nested d) ts) _ (declaration-mends d (nested d) some (inside-mends d) ts)
    (λ stop e k x le f. record { thing = (x, s); fits = record { level = f.0; within = f.1 }; rest = []; text = λ r. refl })
    (λ x stop h. cc)

pub model-mends : (d : ℕ) → 0 < d → Mends model_of d (model_at d)
unfolding model_at
model-mends d some ts =
    row-mends put_declaration put_declaration-front One d (declaration_step (nested d)) (λ s. any_left) (λ k s x after le f. record { level = f.level; within = omega (arith, f.within, le) }) (step-sound d)
    (λ s ts b. step-mends d some s ts) (length ts) tt ts
