-- Errors of the texts that are no rules of netflow's own: the inputs mean no network.
use Rattle.std.specs.Prelude.{◌≡◌, ℕ, Bool, true, false, List, [], ◌∷◌, ◌++◌, length, Option, None, Some, Result, Ok, Err, ⊤, if◌then◌else◌}
use Rattle.std.specs.List.{AllByRecursion, IsDistinct}
use Rattle.std.specs.Str.{bytes_eq}
use Rattle.std.proofs.Common.{refl, sym, ap, subst, inl, inr, ◌∙◌}
use Rattle.std.proofs.lemmas.Bool.{cases_lt}
use Rattle.std.proofs.lemmas.Map.Keys.{IsDistinct-head, IsDistinct-tail}
use Rattle.net_base.specs.ErrorCodes.{says_no_network}
use Rattle.net_base.specs.Places.{IsSpanIn}
use Rattle.net_base.specs.declared.diagnostic.Diagnostic.{Diagnostic}
use Rattle.net_base.specs.declared.diagnostic.Fault.{Fault}
use Rattle.net_base.specs.declared.diagnostic.Fault.TheVariants.{At}
use Rattle.net_base.specs.declared.diagnostic.Language.TheVariants as languages
use Rattle.net_base.specs.declared.error_code.ErrorCode.{ErrorCode}
use Rattle.net_base.specs.declared.error_code.ErrorCode.TheVariants as error_codes
use Rattle.net_base.proofs.Elements.{OfSome}
use Rattle.net_lex.specs.declared.token.Token.{Token}
use Rattle.net_lex.specs.Lexing.{AreTokensOf}
use Rattle.net_lex.proofs.FirstFaults as lexer
use Rattle.net_lex.proofs.Rising.{tokens_rise}
use Rattle.net_tree.specs.Depth.{model_depth}
use Rattle.net_tree.specs.Declarations.{AreDeclarations}
use Rattle.net_tree.specs.Erasure.{declarations}
use Rattle.net_tree.specs.Print.{print}
use Rattle.net_tree.specs.Standing.{DeclarationHasSpans, DeclarationsHaveSpans}
use Rattle.net_tree.specs.Syntax as forms
use Rattle.net_tree.specs.Tree.{Declaration, set, param, check, node, arc, objective}
use Rattle.net_tree.proofs.ModelsStand.{model_stands}
use Rattle.net_names.specs.declared.meaning.Meaning.{Meaning}
use Rattle.net_names.specs.declared.meaning.Need.TheVariants as needs
use Rattle.net_names.specs.Dummies.{with_indexing}
use Rattle.net_names.specs.Names.{indexing_fault, declaration_fault, declared, with_declaration, names_fault}
use Rattle.net_names.specs.Reported as names
use Rattle.net_names.specs.Reported.{first, declared_before}
use Rattle.net_names.specs.Scopes.{Name, NameScope, meaning_in}
use Rattle.net_names.proofs.NamesStand.{IsOfUse, tree_stands, part_stands, indexing_stands, phrases_stand, condition_stands}
use Rattle.net_model.specs.Declarations.{nesting_limit}
use Rattle.net_model.specs.Faults.{left_of, deep_fault}
use Rattle.net_model.specs.Models.{unless_fault, meant}
use Rattle.net_model.specs.GrammarOfDeclarations as grammar
use Rattle.net_model.proofs.GrammarModelsComplete.{model-complete as model-derived}
use Rattle.net_model.proofs.GrammarModelsSound.{model-sound, model-unique}
use Rattle.net_model.proofs.ModelLaws.{model-complete}
use Rattle.net_model.proofs.ModelLimits.{deep-stops}
use Rattle.net_data.specs.declared.data_parser.ParseError.{ParseError as DataStop}
use Rattle.net_data.specs.declared.statement.Tables.{Tables}
use Rattle.net_data.specs.Grammar.{IsDataFile}
use Rattle.net_data.specs.Reading as data_reading
use Rattle.net_data.proofs.GrammarAgrees.{complete, sound, unambiguous}
use Rattle.net_bind.specs.Binding as binding
use Rattle.net_bind.specs.DataByName.{data_by_name}
use Rattle.net_bind.specs.Names.{declared as data_names}
use Rattle.net_driver.specs.FirstFaults as faults
use Rattle.net_driver.specs.FirstFaults.{IsModelFault, IsDataFault}
use Rattle.net_driver.specs.Meaning.{ContainsModel, ContainsData, MeanNetwork}
use Rattle.net_driver.specs.Reading.{IsModel, IsData}
use Rattle.net_driver.specs.NoNetwork.{IsTextFault, of_model, of_data, of_names, TextFaultsAreFirst}
use Rattle.net_driver.proofs.DataNames.{no_name_is_rejected}
use Rattle.net_driver.proofs.Meant.{data_meant}
use Rattle.net_driver.proofs.OneFault.{same_tokens}
use Rattle.net_inst.specs.Soundness.{names_in}
use Rattle.net_meaning.specs.Network.{Network}
use Rattle.net_meaning.specs.World as worlds
use Rattle.net_driver.proofs.Compilations.{names_are}

-- ---- names

-- none of these names means anything in the scope, and no two are the same
record AreNew (s : NameScope) (ns : List Name) : Type 0 where
  unknown : AllByRecursion (λ n. meaning_in n s ≡ None) ns
  once : IsDistinct bytes_eq ns

-- the error, if there is one, is a rule of netflow's own
abbrev IsOwn : Option names.Fault → Type 0
IsOwn f = OfSome (λ (x : names.Fault). says_no_network x.0 ≡ false) f

used_own : (size : ℕ) (d : ErrorCode) (t : Token) → IsOfUse d → IsSpanIn size t.span → says_no_network d ≡ false
used_own size error_codes.Undeclared t i h = refl
used_own size error_codes.LeftOut t i h = refl
used_own size _ t i h = absurd i

first_own : (f g : Option names.Fault) → IsOwn f → IsOwn g → IsOwn (first f g)
first_own None g h k = k
first_own (Some f) g h k = h

-- a name that meant nothing is not declared twice
new_own : (o : Option Meaning) (t : Token) → o ≡ None → IsOwn (declared_before o t)
new_own None t h = tt
new_own (Some m) t h = cc

-- a name that differs from the declared one and meant nothing before means nothing after it
still_unknown : (s : NameScope) (n k : Name) (m : Meaning) → meaning_in n s ≡ None → bytes_eq k n ≡ false → meaning_in n (s ++ (k, m) ∷ []) ≡ None
still_unknown [] n k m h e = rw e refl
still_unknown (x ∷ s) n k m h e = go (bytes_eq x.0 n) h (λ i. still_unknown s n k m i e)
  where
    go : (b : Bool) → (if b then Some x.1 else meaning_in n s) ≡ None → (meaning_in n s ≡ None → meaning_in n (s ++ (k, m) ∷ []) ≡ None) → (if b then Some x.1 else meaning_in n (s ++ (k, m) ∷ [])) ≡ None
    go true i more = cc
    go false i more = more i

all_unknown : (s : NameScope) (k : Name) (m : Meaning) (ns : List Name) → AllByRecursion (λ n. meaning_in n s ≡ None) ns → AllByRecursion (λ n. bytes_eq k n ≡ false) ns
    → AllByRecursion (λ n. meaning_in n (s ++ (k, m) ∷ []) ≡ None) ns
all_unknown s k m [] h e = tt
all_unknown s k m (n ∷ ns) h e = (still_unknown s n k m h.0 e.0, all_unknown s k m ns h.1 e.1)

-- after a declaration, the names of those that follow are new
new_after : (s : NameScope) (n : Name) (m : Meaning) (ns : List Name) → AreNew s (n ∷ ns) → AreNew (s ++ (n, m) ∷ []) ns
new_after s n m ns h = record { unknown = all_unknown s n m ns h.unknown.1 (IsDistinct-head bytes_eq n ns h.once); once = IsDistinct-tail bytes_eq n ns h.once }

module _ (size : ℕ) where
  -- what a declaration declares is new, so only a use can be wrong
  declaration_own : (s : NameScope) (d : Declaration) (later : List Declaration) → AreNew s (names_in (d ∷ later)) → DeclarationHasSpans (IsSpanIn size) d → IsOwn (declaration_fault s d)
  declaration_own s (set w t ps e) later new h = first_own _ _ (new_own (meaning_in t.text s) t new.unknown.0) (phrases_stand (IsSpanIn size) _ (used_own size) s ps h.1)
  declaration_own s (param w t b ps e) later new h =
      first_own _ _ (new_own (meaning_in t.text s) t new.unknown.0)
      (first_own (indexing_fault s b) _ (indexing_stands (IsSpanIn size) _ (used_own size) s b h.1) (phrases_stand (IsSpanIn size) _ (used_own size) (with_indexing s b) ps h.2))
  declaration_own s (check w b m x e) later new h =
      first_own (indexing_fault s b) _ (indexing_stands (IsSpanIn size) _ (used_own size) s b h.0) (tree_stands (IsSpanIn size) _ (used_own size) needs.Value (with_indexing s b) x h.1)
  declaration_own s (node w t b c e) later new h =
      first_own _ _ (new_own (meaning_in t.text s) t new.unknown.0)
      (first_own (indexing_fault s b) _ (indexing_stands (IsSpanIn size) _ (used_own size) s b h.1) (condition_stands (IsSpanIn size) _ (used_own size) (with_indexing s b) c h.2))
  declaration_own s (arc w t b ps e) later new h =
      first_own _ _ (new_own (meaning_in t.text s) t new.unknown.0)
      (first_own (indexing_fault s b) _ (indexing_stands (IsSpanIn size) _ (used_own size) s b h.1) (phrases_stand (IsSpanIn size) _ (used_own size) (with_indexing s b) ps h.2))
  declaration_own s (objective w t p e) later new h =
      first_own _ _ (new_own (meaning_in t.text s) t new.unknown.0) (part_stands (IsSpanIn size) _ (used_own size) needs.Total s p h.1)

  later_new : (s : NameScope) (d : Declaration) (later : List Declaration) → AreNew s (names_in (d ∷ later)) → AreNew (with_declaration s d) (names_in later)
  later_new s (set w t ps e) later new = new_after s t.text _ (names_in later) new
  later_new s (param w t b ps e) later new = new_after s t.text _ (names_in later) new
  later_new s (check w b m x e) later new = new
  later_new s (node w t b c e) later new = new_after s t.text _ (names_in later) new
  later_new s (arc w t b ps e) later new = new_after s t.text _ (names_in later) new
  later_new s (objective w t p e) later new = new_after s t.text _ (names_in later) new

  names_own : (s : NameScope) (ds : List Declaration) → AreNew s (names_in ds) → DeclarationsHaveSpans (IsSpanIn size) ds → IsOwn (names_fault s ds)
  names_own s [] new h = tt
  names_own s (d ∷ ds) new h = first_own (declaration_fault s d) _ (declaration_own s d ds new h.0) (names_own (with_declaration s d) ds (later_new s d ds new) h.1)

nothing_means : (ns : List Name) → AllByRecursion (λ n. meaning_in n [] ≡ None) ns
nothing_means [] = tt
nothing_means (n ∷ ns) = (refl, nothing_means ns)

-- ---- the model

-- the error, if there is one, is a rule of netflow's own
abbrev ErrIsOwn : {A : Type 0} → Result A Fault → Type 0
ErrIsOwn (Ok x) = ⊤
ErrIsOwn (Err (At d)) = says_no_network d.error_code ≡ false
ErrIsOwn (Err _) = ⊤

named_own : (ds : List Declaration) (o : Option names.Fault) → IsOwn o → ErrIsOwn (unless_fault ds o)
named_own ds None h = tt
named_own ds (Some f) h = h

deep_own : (left ts : List Token) → ErrIsOwn {A = List Declaration} (Err (At (deep_fault left ts)))
deep_own [] ts = refl
deep_own (t ∷ left) ts = refl

-- tokens of a well-formed model in which no name is declared twice
meant_own : (size : ℕ) (ds : List Declaration) → AreDeclarations ds → DeclarationsHaveSpans (IsSpanIn size) ds → IsDistinct bytes_eq (names_in ds) → ErrIsOwn (meant (print ds))
meant_own size ds are stand once =
    elim (cases_lt nesting_limit (model_depth ds)) as (λ _. ErrIsOwn (meant (print ds))) [
      | inl deeper ↦ let (n, e) = deep-stops nesting_limit ds are deeper in rw e (deep_own (left_of n (print ds)) (print ds))
      | inr within ↦ rw (model-complete nesting_limit ds are within) (named_own ds (names_fault [] ds) (names_own size [] ds (record { unknown = nothing_means (names_in ds); once = once }) stand))
    ]

own_or_not : (b : Bool) → b ≡ false → b ≡ true → ⊥
own_or_not b h k = cc

no_grammar_fault : (text : List ℕ) (ts : List Token) (d : Diagnostic) (ds : List Declaration) → AreTokensOf languages.Model text ts → AreDeclarations ds → print ds ≡ ts → IsDistinct bytes_eq (names_in ds)
    → meant ts ≡ Err (At d) → says_no_network d.error_code ≡ true → ⊥
no_grammar_fault text ts d ds read are printed once found own =
    let stand = model_stands (length text) ds (rw printed (tokens_rise languages.Model text ts read)) in
    let fault = meant_own (length text) ds are stand.1 once in
    own_or_not (says_no_network d.error_code) (subst ErrIsOwn (ap meant printed ∙ found) fault) own

no_model_fault : (text : List ℕ) (d : Diagnostic) (xs : List forms.Declaration) → IsModelFault text d → says_no_network d.error_code ≡ true → ContainsModel text xs → IsDistinct bytes_eq (worlds.names_in xs) → ⊥
no_model_fault text _ xs (faults.IsModelFault.token code at fault) own has once = lexer.read_or_rejected languages.Model text has.tokens code at has.read fault
no_model_fault text d xs (faults.grammar ts _ read found) own has once =
    let (ds, are, printed, erased) = model-sound xs has.tokens has.derived in
    no_grammar_fault text ts d ds read are (printed ∙ same_tokens languages.Model text has.tokens ts has.read read)
    (subst (IsDistinct bytes_eq) (ap worlds.names_in (sym erased) ∙ names_are ds) once) found own

-- ---- the data

no_data_fault : (text : List ℕ) (d : Diagnostic) (tables : Tables) → IsDataFault text d → ContainsData text tables → ⊥
no_data_fault text _ tables (faults.IsDataFault.token code at fault) has = lexer.read_or_rejected languages.Data text has.tokens code at has.read fault
no_data_fault text _ tables (faults.statement ts s read found) has =
    let (mean, full) = sound has.tokens tables has.derived in
    let are : IsData text tables = record { tokens = has.tokens; read = has.read; written = mean; full = full } in
    let ok = data_meant text tables are in
    let both : ◌≡◌ {A = Result Tables DataStop} (Ok tables) (Err s) = sym ok ∙ ap data_reading.tables (same_tokens languages.Data text has.tokens ts has.read read) ∙ found in
    cc

-- ---- names in the data

pub same_model : (text : List ℕ) (ds : List Declaration) (xs : List forms.Declaration) → IsModel text ds → ContainsModel text xs → xs ≡ declarations ds
same_model text ds xs is has =
    model-unique xs (declarations ds) has.tokens has.derived
    (subst (λ ts. grammar.IsModel (declarations ds) ts) (is.means.printed ∙ same_tokens languages.Model text is.tokens has.tokens is.read has.read) (model-derived ds is.means.level))

pub same_data : (text : List ℕ) (x y : Tables) → IsData text x → ContainsData text y → y ≡ x
same_data text x y are has =
    unambiguous has.tokens y x has.derived
    (subst (IsDataFile x) (same_tokens languages.Data text are.tokens has.tokens are.read has.read) (complete are.tokens x are.written are.full))

no_names_fault : (m d : List ℕ) (ds : List Declaration) (x : Tables) (r : Diagnostic) → IsModel m ds → IsData d x → data_by_name (data_names ds) x.statements ≡ Err r → (xs : List forms.Declaration) (y : Tables)
    → ContainsModel m xs → ContainsData d y → IsDistinct bytes_eq (worlds.names_in xs) → AllByRecursion (worlds.AreDeclared xs) y.statements → ⊥
no_names_fault m d ds x r is are found xs y model statements once named =
    let model' = same_model m ds xs is model in
    let data' = same_data d x y are statements in
    no_name_is_rejected ds x.statements r
    (subst (IsDistinct bytes_eq) (ap worlds.names_in model' ∙ names_are ds) once)
    (subst (λ (z : Tables). AllByRecursion (worlds.AreDeclared (declarations ds)) z.statements) data' (subst (λ zs. AllByRecursion (worlds.AreDeclared zs) y.statements) model' named)) found

first_unbound : (ds : List Declaration) (x : Tables) (r : Diagnostic) → data_by_name (data_names ds) x.statements ≡ Err r → binding.world ds x.statements ≡ Err r
unfolding binding.world
first_unbound ds x r h = rw h refl

pub text_faults_are_first : TextFaultsAreFirst
text_faults_are_first requested m d x (of_model h) = faults.model x h
text_faults_are_first requested m d x (of_data ds is h) = faults.statements ds x is h
text_faults_are_first requested m d x (of_names ds tables is are h) = faults.both ds tables x is are (faults.unbound x (first_unbound ds tables x h))

pub text_faults_are_sound : (requested : Option Name) (m d : List ℕ) (x : Diagnostic) → IsTextFault m d x → says_no_network x.error_code ≡ true → (network : Network) → MeanNetwork requested m d network → ⊥
text_faults_are_sound requested m d x (of_model h) says network mean = no_model_fault m x mean.declarations h says mean.model mean.names_once
text_faults_are_sound requested m d x (of_data ds is h) says network mean = no_data_fault d x mean.tables h mean.data_statements
text_faults_are_sound requested m d x (of_names ds tables is are h) says network mean =
    no_names_fault m d ds tables x is are h mean.declarations mean.tables mean.model mean.data_statements mean.names_once mean.is_world.declared
