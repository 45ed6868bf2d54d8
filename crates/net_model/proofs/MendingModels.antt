-- The tokens before a stop of the reader of models begin a model.
use Rattle.std.specs.Prelude.{◌≡◌, ℕ, suc, [], ◌∷◌, ◌++◌, length, Err}
use Rattle.std.proofs.Common.{refl, sym, ap, ◌∙◌, arith, subst}
use Rattle.net_lex.specs.declared.token.Token.{Token}
use Rattle.net_tree.specs.Print.{print}
use Rattle.net_model.specs.declared.model_parser.Awaiting.{Awaiting}
use Rattle.net_model.specs.declared.model_parser.ParseError.TheVariants as stops
use Rattle.net_model.specs.Meaning.{Begins, BeginsWithin, KeepsLimit, kept, announced}
use Rattle.net_model.specs.Reading.{Tokens}
use Rattle.net_model.specs.Declarations.{model_at}
use Rattle.net_model.proofs.ModelLaws.{put_all-print, chain-level}
use Rattle.net_model.proofs.Readers.{put_before}
use Rattle.net_model.proofs.Mending.{Begun, Sometime, Shallow, so_far, announced as announces_more, same}
use Rattle.net_model.proofs.MendingDeclarations.{model_of, model-mends}

pub before-append : (v l : Tokens) → put_before v l ≡ v ++ l
before-append [] l = refl
before-append (t ∷ v) l = ap (λ k. t ∷ k) (before-append v l)

begins_within : (k : ℕ) (v : Tokens) → Begun model_of k same v → BeginsWithin k v
begins_within k v b =
    let l = chain-level k tt b.thing.0 b.thing.1 b.fits in
    let text : print b.thing.0 ≡ v ++ put_before b.rest [] = sym (put_all-print b.thing.0 [] refl) ∙ b.text [] ∙ before-append v (put_before b.rest []) in
    (b.thing.0, l.0, l.1, put_before b.rest [], text)

begins : (d : ℕ) (v : Tokens) → Sometime model_of d same v → Begins v
begins d v b = let m = begins_within b.0 v b.2 in (m.0, m.1, m.3, m.4)

keeps : (d : ℕ) (v : Tokens) → Shallow model_of d same v → KeepsLimit d v
keeps d v (so_far b) = kept (begins_within d v b)
keeps d v (announces_more front word is word_announces b c) = announced front word (sym (before-append front (word ∷ [])) ∙ is) word_announces (begins_within d front b) (begins_within (suc d) v c)

-- the tokens before a refused one, and those from it on
pub record RejectedAfter (ts : Tokens) (n : ℕ) : Type 0 where
  pub before : Tokens
  pub left : Tokens
  pub text : before ++ left ≡ ts
  pub size : length left ≡ n
  pub begins : Begins before

pub rejected_after : (d : ℕ) (ts : Tokens) (n : ℕ) (a : Awaiting) → model_at (suc d) ts ≡ Err (stops.Rejected n a) → RejectedAfter ts n
rejected_after d ts n a h =
    let m = model-mends (suc d) (omega arith) ts (stops.Rejected n a) h in
    record { before = m.before; left = m.left; text = sym (before-append m.before m.left) ∙ m.text; size = m.size; begins = begins (suc d) m.before m.begun }

-- the tokens before the one that opens a nesting too many, and those behind it
pub record OpenedAfter (limit : ℕ) (ts : Tokens) (n : ℕ) : Type 0 where
  pub before : Tokens
  pub token : Token
  pub after : Tokens
  pub text : before ++ token ∷ after ≡ ts
  pub size : suc (length after) ≡ n
  pub kept : KeepsLimit limit before
  pub goes_on : Begins (before ++ token ∷ [])

pub opened_after : (d : ℕ) (ts : Tokens) (n : ℕ) → model_at (suc d) ts ≡ Err (stops.TooDeep n) → OpenedAfter (suc d) ts n
opened_after d ts n h =
    let m = model-mends (suc d) (omega arith) ts (stops.TooDeep n) h in
    record {
      before = m.before;
      token = m.token;
      after = m.after;
      text = sym (before-append m.before (m.token ∷ m.after)) ∙ m.text;
      size = m.size;
      kept = keeps (suc d) m.before m.shallow;
      goes_on = subst Begins (before-append m.before (m.token ∷ [])) (begins (suc d) (put_before m.before (m.token ∷ [])) m.goes_on);
    }
