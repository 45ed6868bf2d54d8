-- The values that clap found, as rows.
use Rattle.std.proofs.Common.{◌≡◌, ℕ, List, [], ◌∷◌, Option, Some, None, Bool, true, false, map, refl, ap, sym}
use Rattle.std.specs.Option.{option_map_or}
use Rattle.std.specs.Prelude.{option_map, option_and_then, find, slice_get}
use Rattle.std.specs.Str.{bytes_eq}
use Rattle.clap.specs.declared.parser.matches.ArgMatches.{ArgMatches}
use Rattle.clap.specs.declared.parser.matches.ArgMatches.TheViews.{out-ArgMatches, out-SubCommand}
use Rattle.clap.specs.Matches.{found_of, first_value, subcommand_name_of}
use Rattle.clap.specs.Simple.{subcommand_rows, subcommand_rows_of}
use Rattle.clap.specs.Walk.{Row, Text, row_of, rows_of, first_of}
use Rattle.clap.specs.declared.parser.matches.MatchedArg.{MatchedArg}
use Rattle.std.specs.Box.{box_value}
use Rattle.std.proofs.Common.{Bor}

abbrev FirstGiven : List (Bor (List ℕ) × MatchedArg) → List ℕ → Type 0
FirstGiven entries id =
    option_and_then (λ r. slice_get r.values 0) (find (λ r. bytes_eq r.id id) (map row_of entries))
    ≡ option_and_then (λ a. option_map (λ s. s.now) (slice_get a.vals.items 0)) (option_map (λ e. e.1) (find (λ e. bytes_eq e.0.now id) entries))

first_text : (vals : List (Bor (List ℕ))) → slice_get (map (λ s. s.now) vals) 0 ≡ option_map (λ s. s.now) (slice_get vals 0)
first_text [] = refl
first_text (v ∷ vs) = refl

first_or_later : (e : Bor (List ℕ) × MatchedArg) (es : List (Bor (List ℕ) × MatchedArg)) (id : List ℕ) (b : Bool) → bytes_eq e.0.now id ≡ b → FirstGiven es id → FirstGiven (e ∷ es) id
first_or_later e es id true h later = rw h (first_text e.1.vals.items)
first_or_later e es id false h later = rw h later

found_same : (entries : List (Bor (List ℕ) × MatchedArg)) (id : List ℕ) → FirstGiven entries id
found_same [] id = refl
found_same (e ∷ es) id = first_or_later e es id (bytes_eq e.0.now id) refl (found_same es id)

-- the value that is found under a name is that of its row
pub first_given : (m : ArgMatches) (id : List ℕ) → first_value (found_of m) id ≡ first_of id (rows_of (found_of m))
first_given m id = sym (found_same (found_of m).entries.items id)

-- a subcommand's name and rows are those of one subcommand
pub both_rows : (m : ArgMatches) (name : Text) (rows : List Row) → Some name ≡ subcommand_name_of m
    → Some rows ≡ option_map (λ p. p.1) (subcommand_rows (out-ArgMatches m).subcommand) → subcommand_rows_of m ≡ Some (name, rows)
both_rows m name rows named found = elim (out-ArgMatches m).subcommand as (λ s.
    Some name ≡ option_map (λ b. (out-SubCommand (box_value b)).name.now) s → Some rows ≡ option_map (λ p. p.1) (subcommand_rows s) → subcommand_rows s ≡ Some (name, rows)) [
      | None ↦ λ p q. absurd (let k = p in cc)
      | Some b ↦ λ p q. cc
    ] named found

pub same_name : (name other : Text) (rows others : List Row) → ◌≡◌ {A = Option (Text × List Row)} (Some (name, rows)) (Some (other, others)) → name ≡ other
same_name name other rows others same = ap (λ (o : Option (Text × List Row)). option_map_or (λ p. p.0) o name) same
