-- Names within a line, written piece by piece.
use Rattle.std.proofs.Common.{◌≡◌, ℕ, ◌+◌, ◌<◌, Bool, true, false, List, [], ◌∷◌, ◌++◌, length, take, drop, get_or, refl, sym, ap, ◌∙◌, append_assoc, append-nil, arith, add-one, take_all, ◌≤◌, ◌-◌}
use Rattle.std.specs.Prelude.{nat_eq}
use Rattle.std.proofs.lemmas.List.{map-append, drop_all}
use Rattle.std.proofs.Math.Seq.{take-suc}
use Rattle.net_lex.specs.LineEnds.{ends_line}
use Rattle.net_sets.specs.Sets.{Tuple}
use Rattle.net_sets.specs.declared.member.Member.{Member}
use Rattle.net_expr.specs.References.{doubled, quoted, member_text, further_text, members_text}
use Rattle.net_report.specs.Links.{within_line, in_line}
use Rattle.net_report.proofs.ListedRows.{left_at}

pub in_line_both : (xs ys : List ℕ) → in_line (xs ++ ys) ≡ in_line xs ++ in_line ys
in_line_both xs ys = map-append within_line xs ys

-- ---- bytes that are written as they are

plain_byte : (b : ℕ) (rest : List ℕ) → nat_eq b 39 ≡ false → ends_line b ≡ false → in_line (doubled (b ∷ rest)) ≡ b ∷ in_line (doubled rest)
plain_byte b rest q e = rw (q, e) refl

plain_in_line : (b : ℕ) (rest : List ℕ) → ends_line b ≡ false → in_line (b ∷ rest) ≡ b ∷ in_line rest
plain_in_line b rest e = rw e refl

-- all up to the i-th byte are plain
pub record IsPlainTo (bytes : List ℕ) (i : ℕ) : Type 0 where
  pub text : in_line (doubled bytes) ≡ take i bytes ++ in_line (doubled (drop i bytes))
  pub line : in_line bytes ≡ take i bytes ++ in_line (drop i bytes)

pub plain_start : (bytes : List ℕ) → IsPlainTo bytes 0
plain_start bytes = record { text = refl; line = refl }

pub plain_next : (bytes : List ℕ) (i b : ℕ) → i < length bytes → b ≡ get_or bytes i b → nat_eq b 39 ≡ false → ends_line b ≡ false → IsPlainTo bytes i → IsPlainTo bytes (i + 1)
plain_next bytes i b inside is q e p =
    let dropped : drop i bytes ≡ b ∷ drop (i + 1) bytes = left_at bytes i b inside is in
    let taken : take (i + 1) bytes ≡ take i bytes ++ b ∷ [] = ap (λ (k : ℕ). take k bytes) (add-one i) ∙ take-suc bytes i b inside ∙ ap (λ (c : ℕ). take i bytes ++ c ∷ []) (sym is) in
    let moved : (rest : List ℕ) → take i bytes ++ (b ∷ rest) ≡ take (i + 1) bytes ++ rest = λ rest. sym (append_assoc (take i bytes) (b ∷ []) rest) ∙ ap (λ (l : List ℕ). l ++ rest) (sym taken) in
    record {
      text = p.text ∙ ap (λ (l : List ℕ). take i bytes ++ in_line (doubled l)) dropped ∙ ap (λ (l : List ℕ). take i bytes ++ l) (plain_byte b (drop (i + 1) bytes) q e) ∙ moved (in_line (doubled (drop (i + 1) bytes)));
      line = p.line ∙ ap (λ (l : List ℕ). take i bytes ++ in_line l) dropped ∙ ap (λ (l : List ℕ). take i bytes ++ l) (plain_in_line b (drop (i + 1) bytes) e) ∙ moved (in_line (drop (i + 1) bytes));
    }

pub plain_text : (bytes : List ℕ) (i : ℕ) → length bytes ≤ i → IsPlainTo bytes i → in_line (doubled bytes) ≡ bytes
plain_text bytes i past p =
    p.text ∙ ap (λ (l : List ℕ). take i bytes ++ in_line (doubled l)) (drop_all i bytes past) ∙ append-nil (take i bytes) ∙ take_all i bytes past

pub plain_line : (bytes : List ℕ) (i : ℕ) → length bytes ≤ i → IsPlainTo bytes i → in_line bytes ≡ bytes
plain_line bytes i past p =
    p.line ∙ ap (λ (l : List ℕ). take i bytes ++ in_line l) (drop_all i bytes past) ∙ append-nil (take i bytes) ∙ take_all i bytes past

-- ---- a text byte by byte

pub text_next : (b : ℕ) (rest : List ℕ) → in_line (doubled (b ∷ rest)) ≡ in_line (doubled (b ∷ [])) ++ in_line (doubled rest)
text_next b rest = step (nat_eq b 39) refl
  where
    step : (q : Bool) → nat_eq b 39 ≡ q → in_line (doubled (b ∷ rest)) ≡ in_line (doubled (b ∷ [])) ++ in_line (doubled rest)
    step true e = rw e refl
    step false e = rw e refl

pub quote_twice : (b : ℕ) → nat_eq b 39 ≡ true → 39 ∷ 39 ∷ [] ≡ in_line (doubled (b ∷ []))
quote_twice b e = rw e refl

pub other_once : (b : ℕ) → nat_eq b 39 ≡ false → within_line b ∷ [] ≡ in_line (doubled (b ∷ []))
other_once b e = rw e refl

-- ---- members

pub in_quotes : (text : List ℕ) → (39 ∷ []) ++ (in_line (doubled text) ++ 39 ∷ []) ≡ in_line (quoted text)
in_quotes text = ap (λ (l : List ℕ). 39 ∷ l) (sym (in_line_both (doubled text) (39 ∷ [])))

pub further_next : (m : Member) (ms : List Member) → in_line (further_text (m ∷ ms)) ≡ ((44 ∷ []) ++ in_line (member_text m)) ++ in_line (further_text ms)
further_next m ms = ap (λ (l : List ℕ). 44 ∷ l) (in_line_both (member_text m) (further_text ms))

pub further_at : (members : List Member) (i : ℕ) (m : Member) → i < length members → m ≡ get_or members i m
    → in_line (further_text (drop i members)) ≡ ((44 ∷ []) ++ in_line (member_text m)) ++ in_line (further_text (drop (i + 1) members))
further_at members i m inside is =
    ap (λ (l : List Member). in_line (further_text l)) (left_at members i m inside is)
    ∙ further_next m (drop (i + 1) members)

pub bytes_at : (bytes : List ℕ) (i b : ℕ) → i < length bytes → b ≡ get_or bytes i b → in_line (drop i bytes) ≡ (within_line b ∷ []) ++ in_line (drop (i + 1) bytes)
bytes_at bytes i b inside is = ap in_line (left_at bytes i b inside is)

pub none_left : {A : Type 0} (f : List A → List ℕ) (xs : List A) (i : ℕ) → f [] ≡ [] → length xs ≤ i → f (drop i xs) ≡ []
none_left f xs i e past = ap f (drop_all i xs past) ∙ e

-- ---- names

pub with_key : (name : List ℕ) (key : Tuple) → in_line name ++ ((91 ∷ []) ++ (in_line (members_text key) ++ 93 ∷ [])) ≡ in_line (name ++ (91 ∷ (members_text key ++ 93 ∷ [])))
with_key name key =
    ap (λ (l : List ℕ). in_line name ++ (91 ∷ l)) (sym (in_line_both (members_text key) (93 ∷ [])))
    ∙ sym (in_line_both name (91 ∷ (members_text key ++ 93 ∷ [])))

pub members_at : (members : List Member) (m : Member) → 1 ≤ length members → m ≡ get_or members 0 m
    → in_line (member_text m) ++ in_line (further_text (take (length members - 1) (drop 1 members))) ≡ in_line (members_text members)
members_at [] m some is = absurd (omega (arith, some))
members_at (x ∷ xs) m some is =
    ap (λ (y : Member). in_line (member_text y) ++ in_line (further_text (take (length (x ∷ xs) - 1) xs))) is
    ∙ ap (λ (l : List Member). in_line (member_text x) ++ in_line (further_text l)) (take_all (length (x ∷ xs) - 1) xs (omega arith))
    ∙ sym (in_line_both (member_text x) (further_text xs))
