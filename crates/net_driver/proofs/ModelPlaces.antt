-- What a model text is refused for by the grammar and for its names lies in it.
use Rattle.std.specs.Prelude.{◌≡◌, ℕ, zero, suc, ◌-◌, List, [], ◌∷◌, ◌++◌, length, drop, Option, None, Some, Result, Ok, Err, ⊤}
use Rattle.std.specs.List.{AllByRecursion}
use Rattle.std.proofs.Common.{refl, ap, sym, subst, arith}
use Rattle.net_base.specs.declared.diagnostic.Span.{Span}
use Rattle.net_base.specs.declared.diagnostic.Diagnostic.{Diagnostic}
use Rattle.net_base.specs.declared.diagnostic.Fault.{Fault}
use Rattle.net_base.specs.declared.diagnostic.Fault.TheVariants.{OutOfMemory, At}
use Rattle.net_base.specs.declared.diagnostic.Language.TheVariants.{Model}
use Rattle.net_lex.specs.declared.token.Token.{Token}
use Rattle.net_tree.specs.Print.{put_declaration}
use Rattle.net_tree.specs.Tree.{Declaration}
use Rattle.net_names.specs.Names.{names_fault}
use Rattle.net_names.specs.Reported as names
use Rattle.net_model.specs.declared.model_parser.ParseError.{ParseError}
use Rattle.net_model.specs.declared.model_parser.ParseError.TheVariants as stops
use Rattle.net_model.specs.declared.model_parser.Awaiting.{Awaiting}
use Rattle.net_model.specs.Declarations.{model_at, nesting_limit}
use Rattle.net_model.specs.Faults.{end_of, left_of, rejected_fault, deep_fault, reported}
use Rattle.net_model.specs.Models.{unless_fault, meant_by, meant}
use Rattle.net_model.specs.Reading.{Tokens, Read}
use Rattle.net_model.proofs.ModelLaws.{model-begins}
use Rattle.net_model.proofs.RowLaws.{put_all}
use Rattle.net_base.specs.Places.{IsSpanIn}
use Rattle.net_tree.specs.Standing.{DeclarationsHaveSpans}
use Rattle.net_base.proofs.Elements.{OfSome, all_drop}
use Rattle.net_tree.proofs.ModelsStand.{declaration_passed}
use Rattle.net_names.proofs.NamesStand.{names_stand}
use Rattle.net_lex.proofs.Rising.{Rise, rise_ends, rise_later}

abbrev TokensLie : ℕ → Tokens → Type 0
TokensLie size ts = AllByRecursion (λ (t : Token). IsSpanIn size t.span) ts

module _ (size : ℕ) where
  rising_lie : (from : ℕ) (ts : Tokens) → Rise from size ts → TokensLie size ts
  rising_lie from [] h = tt
  rising_lie from (t ∷ ts) (h, k, m) = (record { forward = k; inside = rise_ends t.span.end size ts m }, rising_lie t.span.end ts m)

  end_lies : (ts : Tokens) → TokensLie size ts → IsSpanIn size (end_of ts)
  end_lies [] h = record { forward = omega arith; inside = omega arith }
  end_lies (t ∷ []) h = record { forward = omega arith; inside = h.0.inside }
  end_lies (t ∷ u ∷ ts) h = end_lies (u ∷ ts) h.1

  read_stand : (from : ℕ) (ds : List Declaration) (r : Tokens) → Rise from size (put_all put_declaration ds r) → DeclarationsHaveSpans (IsSpanIn size) ds
  read_stand from [] r h = tt
  read_stand from (d ∷ ds) r h = let (one, more) = declaration_passed size from d (put_all put_declaration ds r) h in (one, read_stand from ds r more)

  -- a fault of the model's text that lies in it, if it is one
  abbrev Lies : Fault → Type 0
  Lies OutOfMemory = ⊤
  Lies (At f) = (f.text ≡ Model) × IsSpanIn size f.at

  rejected_lies : (a : Awaiting) (left ts : Tokens) → TokensLie size left → TokensLie size ts → Lies (At (rejected_fault a left ts))
  rejected_lies a [] ts h k = (refl, end_lies ts k)
  rejected_lies a (t ∷ left) ts h k = (refl, h.0)

  deep_lies : (left ts : Tokens) → TokensLie size left → TokensLie size ts → Lies (At (deep_fault left ts))
  deep_lies [] ts h k = (refl, end_lies ts k)
  deep_lies (t ∷ left) ts h k = (refl, h.0)

  reported_lies : (s : ParseError) (ts : Tokens) → TokensLie size ts → Lies (reported s ts)
  reported_lies stops.OutOfMemory ts h = tt
  reported_lies (stops.Rejected left a) ts h = rejected_lies a (left_of left ts) ts (all_drop _ (length ts - left) ts h) h
  reported_lies (stops.TooDeep left) ts h = deep_lies (left_of left ts) ts (all_drop _ (length ts - left) ts h) h

  -- what is refused, if it is
  abbrev ErrLies : Result (List Declaration) Fault → Type 0
  ErrLies (Ok ds) = ⊤
  ErrLies (Err f) = Lies f

  names_lie : (ds : List Declaration) (o : Option names.Fault) → OfSome (λ (f : names.Fault). IsSpanIn size f.1.span) o → ErrLies (unless_fault ds o)
  names_lie ds None h = tt
  names_lie ds (Some f) h = (refl, h)

  meant_by_lies : (ts : Tokens) (r : Read (List Declaration × Unit {0})) → model_at nesting_limit ts ≡ r → Rise 0 size ts → ErrLies (meant_by ts r)
  meant_by_lies ts (Ok r) is h =
      names_lie r.0.0 (names_fault [] r.0.0) (names_stand (IsSpanIn size) (λ f. IsSpanIn size f.1.span) (λ d t i k. k) (λ t k. k) [] r.0.0 (read_stand 0 r.0.0 r.1 (subst (Rise 0 size) (sym (model-begins nesting_limit ts r is)) h)))
  meant_by_lies ts (Err s) is h = reported_lies s ts (rising_lie 0 ts h)

  pub meant_lies : (ts : Tokens) (f : Diagnostic) → Rise 0 size ts → meant ts ≡ Err (At f) → (f.text ≡ Model) × IsSpanIn size f.at
  meant_lies ts f h is = subst ErrLies is (meant_by_lies ts (model_at nesting_limit ts) refl h)
