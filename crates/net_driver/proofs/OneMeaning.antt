-- The two inputs mean one network at most.
use Rattle.std.specs.Prelude.{◌≡◌, ℕ, List, [], ◌∷◌}
use Rattle.std.specs.List.{AllByRecursion}
use Rattle.std.proofs.Common.{sym, ◌∙◌, subst}
use Rattle.net_base.specs.declared.diagnostic.Language.TheVariants as languages
use Rattle.net_lex.specs.declared.token.Token.{Token}
use Rattle.net_tree.specs.declared.role.Begins.TheVariants as begins
use Rattle.net_tree.specs.declared.role.Relation.TheVariants as relations
use Rattle.net_tree.specs.declared.role.Role.{Role}
use Rattle.net_tree.specs.declared.role.Role.TheVariants as roles
use Rattle.net_tree.specs.Syntax.{Body, plain, valued, priced, Phrase, Declaration, set, param, check, node, arc, objective}
use Rattle.net_model.specs.GrammarOfDeclarations as grammar
use Rattle.net_model.proofs.GrammarModelsSound.{model-unique}
use Rattle.net_data.specs.declared.statement.Tables.{Tables}
use Rattle.net_data.specs.Grammar.{IsDataFile}
use Rattle.net_data.proofs.GrammarAgrees.{unambiguous}
use Rattle.net_meaning.specs.Laws.{IsSetPhrase, HasSetPhrases}
use Rattle.net_meaning.specs.Network.{IsNetwork}
use Rattle.net_meaning.specs.World.{IsWorld}
use Rattle.net_meaning.proofs.UniqueWorlds.{worlds_are_unique}
use Rattle.net_driver.specs.Meaning.{ContainsModel, ContainsData}
use Rattle.net_driver.specs.MeaningLaws.{MeantNetworksAreUnique}
use Rattle.net_driver.proofs.OneFault.{same_tokens}
use Rattle.net_driver.proofs.OneNetwork.{one_network}

-- ---- the phrases of sets

set_phrase : (r : Role) (b : Body) (ts rest : List Token) → grammar.IsSetPhrase r b ts rest → IsSetPhrase r b
set_phrase (roles.Phrase begins.Dimen) (valued x) ts rest h = tt
set_phrase (roles.Relation relations.Within) (valued x) ts rest h = tt
set_phrase roles.Becomes (valued x) ts rest h = tt
set_phrase (roles.Phrase begins.Dimen) plain ts rest h = absurd h
set_phrase (roles.Relation relations.Within) plain ts rest h = absurd h
set_phrase roles.Becomes plain ts rest h = absurd h
set_phrase (roles.Phrase begins.Dimen) (priced n x) ts rest h = absurd h
set_phrase (roles.Relation relations.Within) (priced n x) ts rest h = absurd h
set_phrase roles.Becomes (priced n x) ts rest h = absurd h
set_phrase _ _ ts rest h = absurd h

set_phrases : (ps : List Phrase) (ts rest : List Token) → grammar.ArePhrases grammar.IsSetPhrase ps ts rest → AllByRecursion (λ (p : Phrase). IsSetPhrase p.word p.body) ps
set_phrases [] ts rest h = tt
set_phrases (p ∷ ps) ts rest (a, comma, (b, phrase, more)) = (set_phrase p.word p.body a b phrase, set_phrases ps b rest more)

pub have_set_phrases : (ds : List Declaration) (ts rest : List Token) → grammar.AreDeclarations ds ts rest → AllByRecursion HasSetPhrases ds
have_set_phrases [] ts rest h = tt
have_set_phrases (set n ps ∷ ds) ts rest (a, (b, keyword, (c, own, (d, (once, phrases), end))), more) = (set_phrases ps c d phrases, have_set_phrases ds a rest more)
have_set_phrases (param n b ps ∷ ds) ts rest (a, h, more) = (tt, have_set_phrases ds a rest more)
have_set_phrases (check b x ∷ ds) ts rest (a, h, more) = (tt, have_set_phrases ds a rest more)
have_set_phrases (node n b c ∷ ds) ts rest (a, h, more) = (tt, have_set_phrases ds a rest more)
have_set_phrases (arc n b ps ∷ ds) ts rest (a, h, more) = (tt, have_set_phrases ds a rest more)
have_set_phrases (objective minimizes n p ∷ ds) ts rest (a, h, more) = (tt, have_set_phrases ds a rest more)

-- ---- the inputs

one_model : (text : List ℕ) (ds es : List Declaration) → ContainsModel text ds → ContainsModel text es → ds ≡ es
one_model text ds es h j =
    model-unique ds es h.tokens h.derived (subst (λ ts. grammar.IsModel es ts) (same_tokens languages.Model text j.tokens h.tokens j.read h.read) j.derived)

one_data : (text : List ℕ) (x y : Tables) → ContainsData text x → ContainsData text y → x ≡ y
one_data text x y h j = unambiguous h.tokens x y h.derived (subst (λ ts. IsDataFile y ts) (same_tokens languages.Data text j.tokens h.tokens j.read h.read) j.derived)

pub one_meaning : MeantNetworksAreUnique
one_meaning wanted m d network other h j =
    let model = one_model m j.declarations h.declarations j.model h.model in
    let data_statements = one_data d j.tables h.tables j.data_statements h.data_statements in
    let own : IsWorld h.declarations h.tables.statements j.world =
    subst (λ ds. IsWorld ds h.tables.statements j.world) model (subst (λ (x : Tables). IsWorld j.declarations x.statements j.world) data_statements j.is_world) in
    let world = worlds_are_unique h.declarations h.tables.statements j.world h.world (have_set_phrases h.declarations h.model.tokens [] h.model.derived) own h.is_world in
    let its : IsNetwork wanted h.world h.declarations other = subst (λ w. IsNetwork wanted w h.declarations other) world (subst (λ ds. IsNetwork wanted j.world ds other) model j.is_network) in
    (sym world, one_network wanted h.world h.declarations network other h.is_network its)
