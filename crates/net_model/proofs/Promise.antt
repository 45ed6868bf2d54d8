-- What parse_declarations promises, from what is read.
use Rattle.std.proofs.Common.{◌≡◌, ◌≤◌, ◌<◌, ◌-◌, ◌&&◌, ℕ, Bool, true, false, cond, List, [], ◌∷◌, ◌++◌, length, drop, Ok, Err, refl, sym, ap, ◌∙◌, arith, subst, append-nil, length-append}
use Rattle.std.proofs.Math.Seq.{drop-append_seam}
use Rattle.net_base.specs.declared.diagnostic.Span.{Span}
use Rattle.net_lex.specs.declared.token.Token.{Token}
use Rattle.net_lex.specs.declared.token.Kind.{Kind}
use Rattle.net_tree.specs.declared.role.Role.{Role}
use Rattle.net_tree.specs.declared.role.Role.TheVariants as roles
use Rattle.net_tree.specs.Role.{role_of}
use Rattle.net_tree.specs.Tree.{Declaration}
use Rattle.net_base.specs.declared.error_code.ErrorCode.{ErrorCode}
use Rattle.net_base.specs.declared.error_code.ErrorCode.TheVariants as error_codes
use Rattle.net_base.specs.declared.diagnostic.Fault.{Fault}
use Rattle.net_base.specs.declared.diagnostic.Fault.TheVariants as faults
use Rattle.net_model.specs.declared.model_parser.Awaiting.{Awaiting}
use Rattle.net_model.specs.declared.model_parser.ParseError.{ParseError}
use Rattle.net_model.specs.declared.model_parser.ParseError.TheVariants as stops
use Rattle.net_model.specs.Reading.{Tokens, Read, Fails, next_is}
use Rattle.net_model.specs.Declarations.{model_at, nesting_limit}
use Rattle.net_model.specs.Faults.{begins_gain, foreign_error_code, foreign_for, misplaced, is_after_node, error_code_of, left_of, rejected_fault, deep_fault, reported, IsReportedOf}
use Rattle.net_model.specs.Meaning.{Means, opens, Begins, NoModel, TooDeep, WrongAt, at_token, at_end, IsErrorCodeAt, IsRejected}
use Rattle.net_model.proofs.ModelLaws.{model-sound}
use Rattle.net_model.proofs.ModelLimits.{rejected-none, deep-deeper}
use Rattle.net_model.proofs.Readers.{Fork, left, right, IsTail, tail-length, Within, Out, reads, rejects, deepens, passed}
use Rattle.net_model.proofs.LocalModels.{model_reading}
use Rattle.net_model.proofs.MendingModels.{before-append, rejected_after, OpenedAfter, opened_after}

rejected_out : (f : Fork) (n : ℕ) (a : Awaiting) (ts : Tokens) (p : Read (List Declaration × Unit {0})) → p ≡ Err (stops.Rejected n a) → length f.rest < n → Out f p (model_at nesting_limit ts) → NoModel ts
rejected_out f n a ts p h far (reads x w e e') = absurd (let k = sym e ∙ h in cc)
rejected_out f n a ts p h far (rejects b w e e') = rejected-none nesting_limit (length (right f w)) b ts e'
rejected_out f n a ts p h far (deepens w e e') = absurd (let k = sym e ∙ h in cc)
rejected_out f n a ts p h far (passed within) = absurd (let k : n ≤ length f.rest = rw h at within in omega (arith, k, far))

deep_out : (f : Fork) (n : ℕ) (ts : Tokens) (p : Read (List Declaration × Unit {0})) → p ≡ Err (stops.TooDeep n) → length f.rest < n → Out f p (model_at nesting_limit ts) → TooDeep ts
deep_out f n ts p h far (reads x w e e') = absurd (let k = sym e ∙ h in cc)
deep_out f n ts p h far (rejects b w e e') = absurd (let k = sym e ∙ h in cc)
deep_out f n ts p h far (deepens w e e') = deep-deeper nesting_limit (length (right f w)) ts e'
deep_out f n ts p h far (passed within) = absurd (let k = rw h at within in omega (arith, tail-length k.0 f.rest k.1, k.2, far))

pub means_of : (ts left : Tokens) (xs : List Declaration) → model_at nesting_limit ts ≡ Ok ((xs, tt), left) → left ≡ [] → Means ts xs
means_of ts left xs h none =
    let whole : model_at nesting_limit ts ≡ Ok ((xs, tt), []) = rw (← none) h in
    let s = model-sound nesting_limit ts xs whole in
    record { printed = s.0; level = s.1; shallow = s.2 }

-- a defect of the grammar is no nesting
is_shallow : ErrorCode → Bool
is_shallow error_codes.TooDeep = false
is_shallow _ = true

foreign-shallow : (b : Bool) → is_shallow (foreign_error_code b) ≡ true
unfolding is_shallow
foreign-shallow true = refl
foreign-shallow false = refl

misplaced-shallow : (a : Awaiting) (k : Kind) (r : Role) → is_shallow (misplaced a k r) ≡ true
unfolding is_shallow
misplaced-shallow a k roles.Net = refl
misplaced-shallow a k roles.LeftOut = refl
misplaced-shallow a k r = foreign-shallow (foreign_for a k r)

chosen-shallow : (b : Bool) (d : ErrorCode) → is_shallow d ≡ true → is_shallow (cond b error_codes.Gain d) ≡ true
unfolding is_shallow
chosen-shallow true d h = refl
chosen-shallow false d h = h

error_code-shallow : (a : Awaiting) (k : Kind) (r : Role) → is_shallow (error_code_of a k r) ≡ true
error_code-shallow a k r = chosen-shallow (is_after_node a && begins_gain r) (misplaced a k r) (misplaced-shallow a k r)

wrong : (ts : Tokens) (d : ErrorCode) (p : Span) → is_shallow d ≡ true → WrongAt ts p → IsErrorCodeAt ts d p
unfolding is_shallow
wrong ts error_codes.TooDeep p shallow at = absurd (cc)
wrong ts d p shallow at = at

-- whatever follows the token at which the reading stops
rejected_alike : (before : Tokens) (t : Token) (r others : Tokens) (n : ℕ) (a : Awaiting) → length r < n → model_at nesting_limit (before ++ t ∷ r) ≡ Err (stops.Rejected n a) → NoModel (before ++ t ∷ others)
rejected_alike before t r others n a far h =
    let f : Fork = record { token = t; rest = r; other = others } in
    let here : model_at nesting_limit (left f before) ≡ Err (stops.Rejected n a) = ap (model_at nesting_limit) (before-append before (t ∷ r)) ∙ h in
    rw (← before-append before (t ∷ others)) (rejected_out f n a (right f before) (model_at nesting_limit (left f before)) here far ((model_reading 63).local f before))

deep_alike : (before : Tokens) (t : Token) (r others : Tokens) (n : ℕ) → length r < n → model_at nesting_limit (before ++ t ∷ r) ≡ Err (stops.TooDeep n) → TooDeep (before ++ t ∷ others)
deep_alike before t r others n far h =
    let f : Fork = record { token = t; rest = r; other = others } in
    let here : model_at nesting_limit (left f before) ≡ Err (stops.TooDeep n) = ap (model_at nesting_limit) (before-append before (t ∷ r)) ∙ h in
    rw (← before-append before (t ∷ others)) (deep_out f n (right f before) (model_at nesting_limit (left f before)) here far ((model_reading 63).local f before))

-- the tokens from the stop on
left-is : (v l ts : Tokens) → v ++ l ≡ ts → left_of (length l) ts ≡ l
left-is v l ts text =
    let far : length ts - length l ≡ length v = omega (arith, ap length text, length-append v l) in
    ap (λ k. drop k ts) far ∙ ap (drop (length v)) (sym text) ∙ drop-append_seam v l

rejected_left : (ts : Tokens) (n : ℕ) (a : Awaiting) → model_at nesting_limit ts ≡ Err (stops.Rejected n a) → (before l : Tokens) → before ++ l ≡ ts → length l ≡ n → Begins before → IsRejected ts (faults.At (rejected_fault a l ts))
rejected_left ts n a h before [] text size begins =
    let whole : before ≡ ts = sym (append-nil before) ∙ text in
    at_end refl (subst Begins whole begins) (rejected-none nesting_limit n a ts h)
rejected_left ts n a h before (t ∷ r) text size begins =
    wrong ts (error_code_of a t.kind (role_of t)) t.span (error_code-shallow a t.kind (role_of t))
    (at_token before t r text refl begins (λ others. rejected_alike before t r others n a (omega (arith, size)) (ap (model_at nesting_limit) text ∙ h)))

pub stop-within : (ts : Tokens) (s : ParseError) → model_at nesting_limit ts ≡ Err s → Within {A = List Declaration × Unit {0}} ts (Err s)
stop-within ts s h = rw h at ((model_reading 63).within ts)

-- as many tokens from the end on are the same ones
same_left : (v l u m ts : Tokens) → v ++ l ≡ ts → u ++ m ≡ ts → length l ≡ length m → l ≡ m
same_left v l u m ts text text' size = sym (left-is v l ts text) ∙ ap (λ k. left_of k ts) size ∙ left-is u m ts text'

-- the token that opens a nesting too many
deep_left : (ts : Tokens) (n : ℕ) → model_at nesting_limit ts ≡ Err (stops.TooDeep n) → OpenedAfter nesting_limit ts n → (rest : Tokens) → IsTail rest ts → length rest ≡ n → next_is opens rest ≡ true
    → IsRejected ts (faults.At (deep_fault (left_of n ts) ts))
deep_left ts n h o rest tail size opening =
    let here : rest ≡ o.token ∷ o.after = same_left tail.0 rest o.before (o.token ∷ o.after) ts (sym (before-append tail.0 rest) ∙ tail.1) o.text (omega (arith, size, o.size)) in
    let is : left_of n ts ≡ o.token ∷ o.after = ap (λ k. left_of k ts) (sym o.size) ∙ left-is o.before (o.token ∷ o.after) ts o.text in
    rw is (record {
      before = o.before;
      token = o.token;
      after = o.after;
      text = o.text;
      stands = refl;
      opens = rw here at opening;
      kept = o.kept;
      goes_on = o.goes_on;
      deeper = λ others. deep_alike o.before o.token o.after others n (omega (arith, o.size)) (ap (model_at nesting_limit) o.text ∙ h);
    })

pub rejected_stop : (ts : Tokens) (s : ParseError) → Fails s (model_at nesting_limit ts) → IsRejected ts (reported s ts)
rejected_stop ts stops.OutOfMemory h = tt
rejected_stop ts (stops.Rejected n a) h =
    let b = rejected_after 63 ts n a h in
    let is : left_of n ts ≡ b.left = ap (λ k. left_of k ts) (sym b.size) ∙ left-is b.before b.left ts b.text in
    rw is (rejected_left ts n a h b.before b.left b.text b.size b.begins)
rejected_stop ts (stops.TooDeep n) h = let d = stop-within ts (stops.TooDeep n) h in deep_left ts n h (opened_after 63 ts n h) d.0 d.1 d.2 d.3

pub rejected_reported : (ts : Tokens) (s : ParseError) (f : Fault) → Fails s (model_at nesting_limit ts) → IsReportedOf s ts f → IsRejected ts f
rejected_reported ts s faults.OutOfMemory h is = tt
rejected_reported ts s (faults.At f) h is = subst (IsRejected ts) is (rejected_stop ts s h)
