-- Reading a certificate file line by line, up to the first error.
use Rattle.std.specs.Prelude.{◌≡◌, ℕ, ◌+◌, ◌-◌, Bool, true, false, ◌&&◌, ◌==◌, nat_le, nat_lt, if◌then◌else◌, List, [], ◌∷◌, ◌++◌, length, replicate, slice_get, ℤ, Option, Some, None, Result, Ok, Err}
use Rattle.std.specs.Str.Lines.{lines}
use Rattle.net_normal.specs.declared.problem.FlowArc.{FlowArc}
use Rattle.net_check.specs.declared.certificate.Certificate as certificates
use Rattle.net_dimacs.specs.declared.claim.Claim.{Claim}
use Rattle.net_dimacs.specs.declared.claim.Claim.TheVariants as claims
use Rattle.net_dimacs.specs.declared.problem_fault.LineFault.{LineFault}
use Rattle.net_dimacs.specs.declared.problem_fault.LineFault.TheVariants.{TooLarge}
use Rattle.net_dimacs.specs.declared.problem_fault.LineFault.TheVariants as line_faults
use Rattle.net_dimacs.specs.declared.problem_fault.Rejection.{Rejection}
use Rattle.net_dimacs.specs.declared.problem_fault.ProblemFault.{ProblemFault}
use Rattle.net_dimacs.specs.declared.problem_fault.ProblemFault.TheVariants as faults
use Rattle.net_dimacs.specs.Limits.{text_limit}
use Rattle.net_dimacs.specs.Reading.{OnRejected}
use Rattle.net_dimacs.specs.Claims.{claimed}
use Rattle.net_dimacs.specs.Certificates.{Account, Optimal, Cut, account_of}

-- ---- one more line

-- appends a number if it fits its type
abbrev pub with_number : List ℤ → Option ℤ → Result (List ℤ) LineFault
with_number zs None = Err TooLarge
with_number zs (Some z) = Ok (zs ++ z ∷ [])

-- whether an index is that of node v
abbrev pub is_node : Option ℕ → ℕ → Bool
is_node None v = false
is_node (Some w) v = w == v

-- whether two indices are the tail and the head of the arc, if there is one
abbrev pub are_ends : Option FlowArc → Option ℕ → Option ℕ → Bool
are_ends None src dst = false
are_ends (Some arc) src dst = is_node src arc.src && is_node dst arc.dst

-- appends the flow of the next arc
abbrev pub with_flow : List FlowArc → List ℤ → Option ℕ → Option ℕ → Option ℤ → Result (List ℤ) LineFault
with_flow arcs flows src dst flow = if are_ends (slice_get arcs (length flows)) src dst then with_number flows flow else Err line_faults.Certificate

-- appends the potential of the next node, after all flows
abbrev pub with_potential : ℕ → Bool → List ℤ → Option ℕ → Option ℤ → Result (List ℤ) LineFault
with_potential nodes have_flows potentials node potential =
    if have_flows && (nat_lt (length potentials) nodes && is_node node (length potentials)) then with_number potentials potential
    else Err line_faults.Certificate

-- adds a node to the set; nodes must be in increasing order
abbrev pub with_member : ℕ → List Bool → Option ℕ → Result (List Bool) LineFault
with_member nodes flags None = Err line_faults.Certificate
with_member nodes flags (Some v) =
    if nat_le (length flags) v && nat_lt v nodes then Ok (flags ++ (replicate (v - length flags) false ++ true ∷ []))
    else Err line_faults.Certificate

abbrev pub first_claim : Claim → Result Account LineFault
first_claim (claims.Value None) = Err TooLarge
first_claim (claims.Value (Some value)) = Ok (Optimal value [] [])
first_claim (claims.Side side) = Ok (Cut [] side)
first_claim claim = Err line_faults.Certificate

abbrev pub in_account : {A : Type 0} → (A → Account) → Result A LineFault → Result Account LineFault
in_account next (Ok x) = Ok (next x)
in_account next (Err fault) = Err fault

abbrev pub next_claim : ℕ → List FlowArc → Account → Claim → Result Account LineFault
next_claim nodes arcs (Optimal value flows potentials) (claims.Flow src dst flow) = in_account (λ zs. Optimal value zs potentials) (with_flow arcs flows src dst flow)
next_claim nodes arcs (Optimal value flows potentials) (claims.Potential node potential) = in_account (λ zs. Optimal value flows zs) (with_potential nodes (length flows == length arcs) potentials node potential)
next_claim nodes arcs (Cut flags side) (claims.Member node) = in_account (λ bs. Cut bs side) (with_member nodes flags node)
next_claim nodes arcs account claim = Err line_faults.Certificate

-- ---- a whole file

-- nothing yet, a partial certificate, or the first error
pub data Progress : Type 0 where
  Start : Progress
  Open : Account → Progress
  Rejected : Rejection → Progress

abbrev pub progress_from : ℕ → Result Account LineFault → Progress
progress_from line (Ok account) = Open account
progress_from line (Err fault) = Rejected (record { fault = fault; line = line })

abbrev pub with_claim : ℕ → List FlowArc → ℕ → Progress → Claim → Progress
with_claim nodes arcs line Start claim = progress_from line (first_claim claim)
with_claim nodes arcs line (Open account) claim = progress_from line (next_claim nodes arcs account claim)
with_claim nodes arcs line (Rejected r) claim = Rejected r

abbrev pub with_claimed : ℕ → List FlowArc → ℕ → Progress → Option Claim → Progress
with_claimed nodes arcs line progress None = progress
with_claimed nodes arcs line progress (Some claim) = with_claim nodes arcs line progress claim

-- a line is missing at the end of the file; `line` is the number of the line after the last
abbrev pub missing : ℕ → Result Account Rejection
missing line = Err (record { fault = line_faults.Certificate; line = line })

-- nodes without a line are not in the set
abbrev pub completed : ℕ → List FlowArc → ℕ → Account → Result Account Rejection
completed nodes arcs line (Optimal value flows potentials) = if length flows == length arcs && length potentials == nodes then Ok (Optimal value flows potentials) else missing line
completed nodes arcs line (Cut flags side) = Ok (Cut (flags ++ replicate (nodes - length flags) false) side)

abbrev pub finished : ℕ → List FlowArc → ℕ → Progress → Result Account Rejection
finished nodes arcs line Start = missing line
finished nodes arcs line (Open account) = completed nodes arcs line account
finished nodes arcs line (Rejected r) = Err r

-- reads the lines, of which the first has this number
abbrev pub read_lines : ℕ → List FlowArc → ℕ → Progress → List (List ℕ) → Result Account Rejection
read_lines nodes arcs number progress [] = finished nodes arcs number progress
read_lines nodes arcs number progress (line ∷ more) = read_lines nodes arcs (number + 1) (with_claimed nodes arcs number progress (claimed line)) more

-- the certificate of a file, or its first error
abbrev pub read_text : ℕ → List FlowArc → List ℕ → Result Account Rejection
read_text nodes arcs text = if nat_lt text_limit (length text) then Err (record { fault = TooLarge; line = 1 }) else read_lines nodes arcs 1 Start (lines text)

-- ---- the result of a reader

abbrev pub Fails : Result Account Rejection → ProblemFault → Type 0
Fails read faults.OutOfMemory = Unit {0}
Fails read (faults.Rejected rejection) = read ≡ Err rejection

-- the result is the certificate or the error that the definition gives, unless memory ran out
abbrev pub Gives : Result Account Rejection → Result certificates.Certificate ProblemFault → Type 0
Gives read (Ok certificate) = read ≡ Ok (account_of certificate)
Gives read (Err e) = Fails read e

-- P holds for the error, if the result is one
abbrev pub IfRejected : Result certificates.Certificate ProblemFault → (Rejection → Type 0) → Type 0
IfRejected (Ok certificate) P = Unit {0}
IfRejected (Err fault) P = OnRejected fault P
