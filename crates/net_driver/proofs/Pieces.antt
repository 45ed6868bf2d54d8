-- What a source gave, piece by piece, and what a reading knows of it.
use Rattle.std.proofs.Common.{◌≡◌, ◌≤◌, ◌<◌, ◌+◌, ℕ, Bool, List, [], ◌++◌, length, refl, sym, ap, ◌∙◌, subst, arith, inl, inr, length-append, append-nil}
use Rattle.std.specs.Prelude.{Option}
use Rattle.std.specs.Io.KnownBytes.{Consumes, IsAtEnd}
use Rattle.std.proofs.KnownBytes.{Consumes-nil, Consumes-trans}
use Rattle.net_dimacs.specs.Limits.{text_limit}
use Rattle.net_dimacs.specs.Scans.{Stands}
use Rattle.net_dimacs.specs.declared.reading.Reading.{Reading}
use Rattle.net_driver.specs.ProblemSources.{GivesText}

-- so many bytes came, at most one past the limit, and no read has failed
pub record Fed (old new : Option (List ℕ)) (before after : Bool) (reading : Reading) (n : ℕ) : Type 0 where
  pub text : List ℕ
  pub bytes : Consumes old new text
  pub counted : length text ≡ n
  pub few : n ≤ text_limit + 1
  pub known : Stands reading text
  pub flag : after ≡ before

pub nothing_fed : (a : Option (List ℕ)) (f : Bool) (reading : Reading) → Stands reading [] → Fed a a f f reading 0
nothing_fed a f reading known = record { text = []; bytes = Consumes-nil a; counted = refl; few = omega arith; known = known; flag = refl }

pub more_fed : (a b c : Option (List ℕ)) (f g h : Bool) (r s : Reading) (n m k : ℕ) (piece : List ℕ) → Fed a b f g r n → Consumes b c piece → length piece ≡ m → k ≡ n + m → n + m ≤ text_limit + 1
    → ((text : List ℕ) → Stands r text → Stands s (text ++ piece)) → h ≡ g → Fed a c f h s k
more_fed a b c f g h r s n m k piece fed read count is few fits same =
    let counted = fed.counted in
    record {
      text = fed.text ++ piece;
      bytes = Consumes-trans a b c fed.text piece fed.bytes read;
      counted = length-append fed.text piece ∙ ap (λ (x : ℕ). x + length piece) counted ∙ ap (λ (x : ℕ). n + x) count ∙ sym is;
      few = omega (arith, is);
      known = fits fed.text fed.known;
      flag = same ∙ fed.flag;
    }

-- nothing more came: the end
pub given_to_end : (a b c : Option (List ℕ)) (f g : Bool) (r : Reading) (n : ℕ) → Fed a b f g r n → n ≤ text_limit → Consumes b c [] → IsAtEnd c → GivesText (record { old = a; new = c }) r
given_to_end a b c f g r n fed few read end =
    let counted = fed.counted in
    record {
      text = fed.text;
      read = record { bytes = subst (λ (l : List ℕ). Consumes a c l) (append-nil fed.text) (Consumes-trans a b c fed.text [] fed.bytes read); stop = inl (omega (arith, counted, few), end) };
      known = fed.known;
    }

-- one byte past the limit
pub given_to_limit : (a b : Option (List ℕ)) (f g : Bool) (r : Reading) (n : ℕ) → Fed a b f g r n → text_limit < n → GivesText (record { old = a; new = b }) r
given_to_limit a b f g r n fed past =
    let counted = fed.counted in
    let few = fed.few in
    record { text = fed.text; read = record { bytes = fed.bytes; stop = inr (omega (arith, counted, few, past)) }; known = fed.known }
