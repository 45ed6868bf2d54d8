-- The expressions of phrases that occur at most once.
use Rattle.std.specs.Prelude.{Bool, List, [], ◌∷◌, Option, None, Some, if◌then◌else◌}
use Rattle.net_tree.specs.declared.declaration.PhraseWord.{PhraseWord}
use Rattle.net_tree.specs.declared.declaration.PhraseWord.TheVariants.{AtLeast, AtMost, From, To, Becomes, Default}
use Rattle.net_tree.specs.declared.role.Role.{Role}
use Rattle.net_tree.specs.Phrases.{is_at_least, is_at_most, is_from, is_to, is_becomes, is_default}
use Rattle.net_tree.specs.Role.{role_of}
use Rattle.net_tree.specs.Tree.{Tree, Body, plain, valued, priced, Phrase}

-- the expression of a phrase, if it has one
abbrev pub expression_of : Body → Option Tree
expression_of (valued x) = Some x
expression_of plain = None
expression_of (priced n x) = None

-- the expression of the first phrase whose keyword passes the test
abbrev pub phrase_value : (Role → Bool) → List Phrase → Option Tree
phrase_value test [] = None
phrase_value test (p ∷ ps) = if test (role_of p.word) then expression_of p.body else phrase_value test ps

-- the test for a keyword
abbrev pub is_word : PhraseWord → Role → Bool
is_word AtLeast = is_at_least
is_word AtMost = is_at_most
is_word From = is_from
is_word To = is_to
is_word Becomes = is_becomes
is_word Default = is_default
