-- Which certificate of a minimum-cost flow problem a file contains: a flow with potentials, or a
-- set of nodes.
use Rattle.std.specs.Prelude.{◌≡◌, ℕ, ◌+◌, Bool, if◌then◌else◌, List, [], ◌∷◌, ◌++◌, length, filter_map, ℤ, Some}
use Rattle.std.specs.Str.Lines.{lines}
use Rattle.net_normal.specs.declared.problem.FlowArc.{FlowArc}
use Rattle.net_check.specs.declared.certificate.Side.{Side}
use Rattle.net_check.specs.declared.certificate.Certificate.{Certificate}
use Rattle.net_check.specs.declared.certificate.Certificate.TheVariants as certificates
use Rattle.net_dimacs.specs.declared.claim.Claim.{Claim}
use Rattle.net_dimacs.specs.declared.claim.Claim.TheVariants as claims
use Rattle.net_dimacs.specs.Claims.{claimed}

-- a certificate as lists: the value, the flows and the potentials, or the flags and the side
pub data Account : Type 0 where
  Optimal : ℤ → List ℤ → List ℤ → Account
  Cut : List Bool → Side → Account

abbrev pub account_of : Certificate → Account
account_of (certificates.Optimal value flows potentials) = Optimal value flows.items potentials.items
account_of (certificates.Cut flags side) = Cut flags.items side

-- the meaning of all lines except blank lines and comments
abbrev pub claims_of : List ℕ → List Claim
claims_of text = filter_map claimed (lines text)

-- the first of these claims can begin a certificate: it is a value or a side
abbrev pub BeginsCertificate : List Claim → Type 0
BeginsCertificate (claims.Value (Some value) ∷ more) = Unit {0}
BeginsCertificate (claims.Side side ∷ more) = Unit {0}
BeginsCertificate says = ⊥

abbrev pub flow_claim : FlowArc → ℤ → Claim
flow_claim arc flow = claims.Flow (Some arc.src) (Some arc.dst) (Some flow)

-- each arc with its flow
abbrev pub flow_claims : List FlowArc → List ℤ → List Claim
flow_claims [] flows = []
flow_claims (arc ∷ arcs) [] = []
flow_claims (arc ∷ arcs) (flow ∷ flows) = flow_claim arc flow ∷ flow_claims arcs flows

-- the nodes from v on, each with its potential
abbrev pub potential_claims : ℕ → List ℤ → List Claim
potential_claims v [] = []
potential_claims v (potential ∷ potentials) = claims.Potential (Some v) (Some potential) ∷ potential_claims (v + 1) potentials

-- the nodes from v on that are in the set
abbrev pub member_claims : ℕ → List Bool → List Claim
member_claims v [] = []
member_claims v (is_in ∷ flags) = if is_in then claims.Member (Some v) ∷ member_claims (v + 1) flags else member_claims (v + 1) flags

-- the claims of a certificate: its value, the flow of each arc in order and the potential of each
-- node; or its side and the nodes of its set
abbrev pub claims_in : List FlowArc → Account → List Claim
claims_in arcs (Optimal value flows potentials) = claims.Value (Some value) ∷ (flow_claims arcs flows ++ potential_claims 0 potentials)
claims_in arcs (Cut flags side) = claims.Side side ∷ member_claims 0 flags

-- one flow for each arc and one potential for each node, or one flag for each node
abbrev pub IsOfSize : ℕ → List FlowArc → Account → Type 0
IsOfSize nodes arcs (Optimal value flows potentials) = (length flows ≡ length arcs) × (length potentials ≡ nodes)
IsOfSize nodes arcs (Cut flags side) = length flags ≡ nodes

-- the file contains this certificate of a problem with these nodes and arcs
pub record IsCertificateText (text : List ℕ) (nodes : ℕ) (arcs : List FlowArc) (account : Account) : Type 0 where
  pub size : IsOfSize nodes arcs account
  pub says : claims_of text ≡ claims_in arcs account

abbrev pub IsNoCertificateText : List ℕ → ℕ → List FlowArc → Type 0
IsNoCertificateText text nodes arcs = (account : Account) → IsCertificateText text nodes arcs account → ⊥

-- the file contains no other certificate of the problem
abbrev pub IsOnlyCertificate : List ℕ → ℕ → List FlowArc → Account → Type 0
IsOnlyCertificate text nodes arcs account = (other : Account) → IsCertificateText text nodes arcs other → other ≡ account
