-- Two texts have one network or one first fault, and not both.
use Rattle.std.specs.Prelude.{◌≡◌, ℕ, List, Option, Result, Ok, Err}
use Rattle.std.proofs.Common.{refl, sym, ap, subst, ◌∙◌}
use Rattle.net_base.specs.declared.error_code.ErrorCode.{ErrorCode}
use Rattle.net_base.specs.declared.diagnostic.Language.{Language}
use Rattle.net_base.specs.declared.diagnostic.Language.TheVariants as languages
use Rattle.net_base.specs.declared.diagnostic.Span.{Span}
use Rattle.net_lex.specs.declared.token.Token.{Token}
use Rattle.net_lex.specs.Lexing.{AreTokensOf}
use Rattle.net_lex.proofs.FirstFaults as lexer
use Rattle.net_lex.proofs.UniqueReading.{reads_same}
use Rattle.net_tree.specs.Tree.{Declaration}
use Rattle.net_model.specs.Models.{meant}
use Rattle.net_data.specs.declared.data_parser.ParseError.{ParseError as DataStop}
use Rattle.net_data.specs.declared.statement.Tables.{Tables}
use Rattle.net_data.specs.Reading as data_reading
use Rattle.net_bind.specs.Binding as binding
use Rattle.net_expr.specs.Worlds.{Name, World}
use Rattle.net_inst.specs.Instances.{Network, network}
use Rattle.net_base.specs.declared.diagnostic.Diagnostic.{Diagnostic}
use Rattle.net_base.specs.declared.diagnostic.Fault.{Fault}
use Rattle.net_base.specs.declared.diagnostic.Fault.TheVariants.{At}
use Rattle.net_base.specs.Outcomes.{bare}
use Rattle.net_driver.specs.Reading.{IsModel, IsData, ComeTo, IsNetworkOf}
use Rattle.net_driver.proofs.Meant.{model_meant, data_meant}
use Rattle.net_driver.specs.FirstFaults as faults
use Rattle.net_driver.specs.FirstFaults.{IsModelFault, IsDataFault, IsNetworkFault, IsFirstFault, place_of}

ok_err : {A B : Type 0} (r : Result A B) (x : A) (y : B) → r ≡ Ok x → r ≡ Err y → ⊥
ok_err {A = A} {B = B} r x y p q = let both : ◌≡◌ {A = Result A B} (Ok x) (Err y) = sym p ∙ q in cc

ok_same : {A B : Type 0} (r : Result A B) (x y : A) → r ≡ Ok x → r ≡ Ok y → x ≡ y
ok_same {A = A} {B = B} r x y p q = let both : ◌≡◌ {A = Result A B} (Ok x) (Ok y) = sym p ∙ q in cc

err_same : {A B : Type 0} (r : Result A B) (x y : B) → r ≡ Err x → r ≡ Err y → x ≡ y
err_same {A = A} {B = B} r x y p q = let both : ◌≡◌ {A = Result A B} (Err x) (Err y) = sym p ∙ q in cc

pub same_tokens : (language : Language) (text : List ℕ) (ts us : List Token) → AreTokensOf language text ts → AreTokensOf language text us → ts ≡ us
same_tokens language text ts us t u = reads_same language 0 text ts us t.read u.read

same_model : (text : List ℕ) (ds es : List Declaration) → IsModel text ds → IsModel text es → ds ≡ es
same_model text ds es a b = ok_same (meant a.tokens) ds es (model_meant text ds a) (ap meant (same_tokens languages.Model text a.tokens b.tokens a.read b.read) ∙ model_meant text es b)

same_data : (text : List ℕ) (x y : Tables) → IsData text x → IsData text y → x ≡ y
same_data text x y a b = ok_same (data_reading.tables a.tokens) x y (data_meant text x a) (ap data_reading.tables (same_tokens languages.Data text a.tokens b.tokens a.read b.read) ∙ data_meant text y b)

-- a text that is a model has no fault
no_model_fault : (text : List ℕ) (ds : List Declaration) (f : Diagnostic) → IsModel text ds → IsModelFault text f → ⊥
no_model_fault text ds _ is (faults.token d at fault) = lexer.read_or_rejected languages.Model text is.tokens d at is.read fault
no_model_fault text ds _ is (faults.grammar ts f read found) =
    ok_err (meant is.tokens) ds (At f) (model_meant text ds is) (ap meant (same_tokens languages.Model text is.tokens ts is.read read) ∙ found)

no_data_fault : (text : List ℕ) (x : Tables) (f : Diagnostic) → IsData text x → IsDataFault text f → ⊥
no_data_fault text x _ is (faults.IsDataFault.token d at fault) = lexer.read_or_rejected languages.Data text is.tokens d at is.read fault
no_data_fault text x _ is (faults.statement ts s read found) =
    ok_err (data_reading.tables is.tokens) x s (data_meant text x is) (ap data_reading.tables (same_tokens languages.Data text is.tokens ts is.read read) ∙ found)

no_network_fault : (wanted : Option Name) (ds : List Declaration) (x : Tables) (n : Network) (f : Diagnostic) → ComeTo wanted ds x n → IsNetworkFault wanted ds x f → ⊥
no_network_fault wanted ds x n _ is (faults.unbound r found) = ok_err (binding.world ds x.statements) is.world r is.bound found
no_network_fault wanted ds x n _ is (faults.unbuilt w r bound found) =
    ok_err (network wanted is.world ds) n r is.network (ap (λ v. network wanted v ds) (ok_same (binding.world ds x.statements) is.world w is.bound bound) ∙ found)

pub read_or_rejected : (wanted : Option Name) (m d : List ℕ) (n : Network) (f : Diagnostic) → IsNetworkOf wanted m d n → IsFirstFault wanted m d f → ⊥
read_or_rejected wanted m d n f is (faults.model _ fault) = no_model_fault m is.declarations f is.model fault
read_or_rejected wanted m d n f is (faults.statements ds _ model fault) = no_data_fault d is.tables f is.statements fault
read_or_rejected wanted m d n f is (faults.both ds x _ model statements fault) =
    no_network_fault wanted is.declarations is.tables n f is.network
    (subst (λ es. IsNetworkFault wanted es is.tables f) (same_model m ds is.declarations model is.model)
    (subst (λ y. IsNetworkFault wanted ds y f) (same_data d x is.tables statements is.statements) fault))

reported_token : (language : Language) (d e : ErrorCode) (s t : Span) → d ≡ e → s ≡ t → bare language d s ≡ bare language e t
reported_token language d e s t p q = ap (λ x. bare language x s) p ∙ ap (bare language e) q

reported_same : (f g : Diagnostic) → ◌≡◌ {A = Fault} (At f) (At g) → f ≡ g
reported_same f g h = cc

one_model_fault : (text : List ℕ) (f g : Diagnostic) → IsModelFault text f → IsModelFault text g → f ≡ g
one_model_fault text _ _ (faults.token d s fault) (faults.token e t other) =
    let (k, p) = lexer.one_first_fault languages.Model text d e s t fault other in reported_token languages.Model d e s t k p
one_model_fault text _ _ (faults.token d s fault) (faults.grammar ts g read found) = absurd (lexer.read_or_rejected languages.Model text ts d s read fault)
one_model_fault text _ _ (faults.grammar ts g read found) (faults.token d s fault) = absurd (lexer.read_or_rejected languages.Model text ts d s read fault)
one_model_fault text _ _ (faults.grammar ts f read found) (faults.grammar us g scan other) =
    reported_same f g (err_same (meant ts) (At f) (At g) found (ap meant (same_tokens languages.Model text ts us read scan) ∙ other))

stated_same : (ts us : List Token) (s r : DataStop) → ts ≡ us → s ≡ r → bare languages.Data s.error_code (place_of ts s) ≡ bare languages.Data r.error_code (place_of us r)
stated_same ts us s r p q = ap (λ x. bare languages.Data s.error_code (place_of x s)) p ∙ ap (λ (x : DataStop). bare languages.Data x.error_code (place_of us x)) q

one_data_fault : (text : List ℕ) (f g : Diagnostic) → IsDataFault text f → IsDataFault text g → f ≡ g
one_data_fault text _ _ (faults.IsDataFault.token d s fault) (faults.IsDataFault.token e t other) =
    let (k, p) = lexer.one_first_fault languages.Data text d e s t fault other in reported_token languages.Data d e s t k p
one_data_fault text _ _ (faults.IsDataFault.token d s fault) (faults.statement ts r read found) = absurd (lexer.read_or_rejected languages.Data text ts d s read fault)
one_data_fault text _ _ (faults.statement ts r read found) (faults.IsDataFault.token d s fault) = absurd (lexer.read_or_rejected languages.Data text ts d s read fault)
one_data_fault text _ _ (faults.statement ts s read found) (faults.statement us r scan other) =
    let same = same_tokens languages.Data text ts us read scan in
    stated_same ts us s r same (err_same (data_reading.tables ts) s r found (ap data_reading.tables same ∙ other))

one_network_fault : (wanted : Option Name) (ds : List Declaration) (x : Tables) (f g : Diagnostic) → IsNetworkFault wanted ds x f → IsNetworkFault wanted ds x g → f ≡ g
one_network_fault wanted ds x _ _ (faults.unbound r found) (faults.unbound s other) = err_same (binding.world ds x.statements) r s found other
one_network_fault wanted ds x _ _ (faults.unbound r found) (faults.unbuilt w s is other) = absurd (ok_err (binding.world ds x.statements) w r is found)
one_network_fault wanted ds x _ _ (faults.unbuilt w s is other) (faults.unbound r found) = absurd (ok_err (binding.world ds x.statements) w r is found)
one_network_fault wanted ds x _ _ (faults.unbuilt w r is found) (faults.unbuilt v s are other) =
    err_same (network wanted w ds) r s found (ap (λ u. network wanted u ds) (ok_same (binding.world ds x.statements) w v is are) ∙ other)

pub one_first_fault : (wanted : Option Name) (m d : List ℕ) (f g : Diagnostic) → IsFirstFault wanted m d f → IsFirstFault wanted m d g → f ≡ g
one_first_fault wanted m d f g (faults.model _ fault) (faults.model _ found) = one_model_fault m f g fault found
one_first_fault wanted m d f g (faults.model _ fault) (faults.statements ds _ is found) = absurd (no_model_fault m ds f is fault)
one_first_fault wanted m d f g (faults.model _ fault) (faults.both ds x _ is are found) = absurd (no_model_fault m ds f is fault)
one_first_fault wanted m d f g (faults.statements ds _ is fault) (faults.model _ found) = absurd (no_model_fault m ds g is found)
one_first_fault wanted m d f g (faults.statements ds _ is fault) (faults.statements es _ other found) = one_data_fault d f g fault found
one_first_fault wanted m d f g (faults.statements ds _ is fault) (faults.both es x _ other are found) = absurd (no_data_fault d x f are fault)
one_first_fault wanted m d f g (faults.both ds x _ is are fault) (faults.model _ found) = absurd (no_model_fault m ds g is found)
one_first_fault wanted m d f g (faults.both ds x _ is are fault) (faults.statements es _ other found) = absurd (no_data_fault d x g are found)
one_first_fault wanted m d f g (faults.both ds x _ is are fault) (faults.both es y _ other were found) =
    one_network_fault wanted es y f g
    (subst (λ cs. IsNetworkFault wanted cs y f) (same_model m ds es is other) (subst (λ z. IsNetworkFault wanted ds z f) (same_data d x y are were) fault)) found

pub one_network : (wanted : Option Name) (m d : List ℕ) (n k : Network) → IsNetworkOf wanted m d n → IsNetworkOf wanted m d k → n ≡ k
one_network wanted m d n k a b =
    let model = same_model m a.declarations b.declarations a.model b.model in
    let tables = same_data d a.tables b.tables a.statements b.statements in
    let world = ok_same (binding.world a.declarations a.tables.statements) a.network.world b.network.world a.network.bound
    (ap (λ ds. binding.world ds a.tables.statements) model ∙ (ap (λ (x : Tables). binding.world b.declarations x.statements) tables ∙ b.network.bound)) in
    ok_same (network wanted a.network.world a.declarations) n k a.network.network
    (ap (λ ds. network wanted a.network.world ds) model ∙ (ap (λ w. network wanted w b.declarations) world ∙ b.network.network))
