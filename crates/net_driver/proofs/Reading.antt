-- What is read is short enough, and was read to its end.
use Rattle.std.proofs.Common.{◌≡◌, ℕ, ◌≤◌, Bool, true, false, nat_lt, if◌then◌else◌, List, length, Result, Ok, Err, refl, inl, inr, arith}
use Rattle.std.proofs.lemmas.Bool.Decides.{nat_tests}
use Rattle.net_normal.specs.declared.problem.FlowArc.{FlowArc}
use Rattle.net_normal.specs.declared.problem.Problem.{Problem}
use Rattle.net_dimacs.specs.CertificateReading as certificates
use Rattle.net_dimacs.specs.Certificates.{Account}
use Rattle.net_dimacs.specs.Reading as problems
use Rattle.net_dimacs.specs.Limits.{text_limit}
use Rattle.net_dimacs.proofs.Complete.{begins}
use Rattle.net_io.specs.Ends.{ReadsToLimit}
use Rattle.net_driver.specs.LineTexts.{IsProblemOf, MayBeProblem}
use Rattle.net_driver.specs.Runs.{Stream, ReadsWhole}

short : {A B : Type 0} (limit n : ℕ) (rejected : B) (read : Result A B) (x : A) → (if nat_lt limit n then Err rejected else read) ≡ Ok x → n ≤ limit
short limit n rejected read x e = decide (nat_lt limit n) refl e
  where
    decide : (b : Bool) → nat_lt limit n ≡ b → (if b then Err rejected else read) ≡ Ok x → n ≤ limit
    decide true h e = absurd (let k = e in cc)
    decide false h e = grind (arith, nat_tests)

pub short_problem : (text : List ℕ) (x : problems.Numbers) → problems.read_text text ≡ Ok x → length text ≤ text_limit
short_problem text x e = short text_limit (length text) _ _ x e

pub short_certificate : (nodes : ℕ) (arcs : List FlowArc) (text : List ℕ) (x : Account) → certificates.read_text nodes arcs text ≡ Ok x → length text ≤ text_limit
short_certificate nodes arcs text x e = short text_limit (length text) _ _ x e

-- a text within the limit was read to its end
pub read_whole : (limit : ℕ) (source : Stream) (text : List ℕ) → ReadsToLimit limit source.old source.new text → length text ≤ limit → ReadsWhole source text
read_whole limit source text read few = elim read.stop [
  | inl within ↦ record { bytes = read.bytes; at_end = within.1 }
  | inr past ↦ absurd (omega (arith, past, few))
]

pub may_be : (text : List ℕ) (problem : Problem) → IsProblemOf text problem → MayBeProblem text
may_be text problem is =
    let some = problem.some_node in
    let nodes = problem.few_nodes in
    let arcs = problem.few_arcs in
    record {
      short = is.short;
      begins = begins text problem.supplies.items problem.arcs.items (omega (arith, problem.supplies.ok.0, some)) (omega (arith, problem.supplies.ok.0, nodes)) (omega (arith, problem.arcs.ok.0, arcs)) is.is;
    }
