-- From what the layers tell to the first fault of two texts.
use Rattle.std.specs.Prelude.{◌≡◌, ℕ, List, Option, Result, Ok, Err, IfErr}
use Rattle.std.specs.Result.{IsErrAnd}
use Rattle.std.proofs.Common.{sym, ap, subst, ◌∙◌}
use Rattle.net_base.specs.declared.diagnostic.Diagnostic.{Diagnostic}
use Rattle.net_base.specs.declared.diagnostic.Fault.{Fault}
use Rattle.net_base.specs.declared.diagnostic.Fault.TheVariants.{OutOfMemory, At}
use Rattle.net_base.specs.declared.diagnostic.Language.TheVariants as languages
use Rattle.net_base.specs.declared.diagnostic.Span.{Span}
use Rattle.net_base.specs.declared.error_code.ErrorCode.{ErrorCode}
use Rattle.net_base.specs.Outcomes.{Refines, bare}
use Rattle.net_lex.specs.declared.token.Token.{Token}
use Rattle.net_lex.specs.Lexing as lex
use Rattle.net_lex.specs.Lexing.{AreTokensOf}
use Rattle.net_tree.specs.Tree.{Declaration}
use Rattle.net_model.specs.Models.{meant, Parses}
use Rattle.net_data.specs.declared.statement.Tables.{Tables}
use Rattle.net_data.specs.Meaning.{Mean, all_judged}
use Rattle.net_data.specs.Reading as data_reading
use Rattle.net_bind.specs.Binding as binding
use Rattle.net_expr.specs.Worlds.{Name, World}
use Rattle.net_inst.specs.Instances as instances
use Rattle.net_inst.specs.declared.network.Named.{Named}
use Rattle.net_driver.specs.FirstFaults as faults
use Rattle.net_driver.specs.FirstFaults.{MayBeModel, IsModelFault, IsModelStop, IsNetworkStop, IsStop}
use Rattle.net_driver.specs.Reading.{IsModel, IsData}

-- a text that has tokens may be a model
pub may_be : (text : List ℕ) (tokens : List Token) → AreTokensOf languages.Model text tokens → MayBeModel text
may_be text tokens read = record { short = read.short; utf8 = read.utf8 }

-- tokens of a data file that are read as tables
pub is_data : (d : List ℕ) (tokens found : List Token) (tables : Tables) → found ≡ tokens → AreTokensOf languages.Data d tokens → Mean found tables → all_judged tables.statements ≡ Ok tt → IsData d tables
is_data d tokens found tables same read mean full = record { tokens = tokens; read = read; written = subst (λ (t : List Token). Mean t tables) same mean; full = full }

pub model_token : (text : List ℕ) (fault : Fault) → lex.IsRejection languages.Model text fault → IsModelStop text fault
model_token text OutOfMemory (short, utf8, begins) = record { short = short; utf8 = utf8 }
model_token text (At f) (is, r) = subst (IsModelFault text) (sym is) (faults.IsModelFault.token f.error_code f.at r)

pub model_parse : (text : List ℕ) (tokens : List Token) (fault : Fault) → AreTokensOf languages.Model text tokens → Parses (Err fault) (meant tokens) → IsModelStop text fault
model_parse text tokens OutOfMemory read r = may_be text tokens read
model_parse text tokens (At f) read r = faults.grammar tokens f read r

pub model_stop : (wanted : Option Name) (m d : List ℕ) (fault : Fault) → IsModelStop m fault → IsStop wanted m d fault
model_stop wanted m d OutOfMemory h = h
model_stop wanted m d (At diagnostic) h = faults.model diagnostic h

pub data_token : (wanted : Option Name) (m d : List ℕ) (ds : List Declaration) (fault : Fault) → IsModel m ds → lex.IsRejection languages.Data d fault → IsStop wanted m d fault
data_token wanted m d ds OutOfMemory is r = may_be m is.tokens is.read
data_token wanted m d ds (At f) is (same, r) = faults.statements ds f is (subst (faults.IsDataFault d) (sym same) (faults.IsDataFault.token f.error_code f.at r))

pub network_stop : (wanted : Option Name) (m d : List ℕ) (ds : List Declaration) (tables : Tables) (fault : Fault) → IsModel m ds → IsData d tables → IsNetworkStop wanted ds tables fault → IsStop wanted m d fault
network_stop wanted m d ds tables OutOfMemory is are h = may_be m is.tokens is.read
network_stop wanted m d ds tables (At diagnostic) is are h = faults.both ds tables diagnostic is are h

pub bind_stop : (wanted : Option Name) (ds : List Declaration) (tables : Tables) (fault : Fault) → Refines {A = World} (binding.world ds tables.statements) (Err fault) → IsNetworkStop wanted ds tables fault
bind_stop wanted ds tables OutOfMemory r = tt
bind_stop wanted ds tables (At f) r = faults.unbound f r

draw_stop : (wanted : Option Name) (ds : List Declaration) (tables : Tables) (w : World) (fault : Fault) → binding.world ds tables.statements ≡ Ok w
    → instances.AnswersNetwork (instances.network wanted w ds) (Err fault) → IsNetworkStop wanted ds tables fault
draw_stop wanted ds tables w OutOfMemory is r = tt
draw_stop wanted ds tables w (At f) is r = faults.unbuilt w f is r

-- the answer about the network of declarations with statements
pub network_stops : (wanted : Option Name) (m d : List ℕ) (ds : List Declaration) (tables : Tables) (w : World) (r : Result Named Fault) → IsModel m ds → IsData d tables → binding.world ds tables.statements ≡ Ok w
    → instances.AnswersNetwork (instances.network wanted w ds) r → IfErr r (IsStop wanted m d)
network_stops wanted m d ds tables w (Ok n) is are found h = tt
network_stops wanted m d ds tables w (Err fault) is are found h = network_stop wanted m d ds tables fault is are (draw_stop wanted ds tables w fault found h)

is_bare : (f : Diagnostic) (d : ErrorCode) (at : Span) → ◌≡◌ {A = Fault} (At f) (At (bare languages.Data d at)) → f ≡ bare languages.Data d at
is_bare f d at h = cc

pub data_parse : (wanted : Option Name) (m d : List ℕ) (ds : List Declaration) (tokens : List Token) (fault : Fault) → IsModel m ds → AreTokensOf languages.Data d tokens
    → data_reading.Fails (data_reading.end_of tokens) (data_reading.tables tokens) fault → IsStop wanted m d fault
data_parse wanted m d ds tokens OutOfMemory is read r = may_be m is.tokens is.read
data_parse wanted m d ds tokens (At f) is read (e, stopped, reported) =
    faults.statements ds f is (subst (faults.IsDataFault d) (sym (is_bare f e.error_code _ reported)) (faults.statement tokens e read stopped))

-- an error that `?` passes on
pub passed_on : {A E : Type 0} (Q : E → Type 0) (fault : E) (r : Result A E) (P : E → Type 0) → ((e : E) → P e → e ≡ fault) → Q fault → IsErrAnd r P → IfErr r Q
passed_on Q fault (Ok x) P f q h = absurd h
passed_on Q fault (Err e) P f q h = subst Q (sym (f e h)) q
