-- The position of a token, as it is stored.
use Rattle.std.proofs.Common.{◌≡◌, ℕ, ◌+◌, ◌-◌, ◌≤◌, List, ◌++◌, length, take, drop, sym, ap, ◌∙◌, arith, subst, refl, length-append, take_at, drop_at, IsUtf8}
use Rattle.std.proofs.Math.Seq.{drop-drop}
use Rattle.std.proofs.lemmas.Str.{IsUtf8-append, IsCharBoundary-from_drop}
use Rattle.net_base.specs.declared.diagnostic.Language.{Language}
use Rattle.net_lex.specs.declared.token.Token.{Token}
use Rattle.net_lex.specs.declared.words.PackedToken.{PackedToken}
use Rattle.net_lex.specs.Limits.{limits}
use Rattle.net_lex.specs.Faults.{IsSoundNext}
use Rattle.net_lex.specs.Packed.{unpacked, IsIn, IsCodeOf}

abbrev pub place_of : Token → ℕ → PackedToken
place_of token code = record { start = token.span.start; len = length token.text; kind = token.kind; value_code = code }

-- what is known of the next token, if the rest of the text is what is left after `at` bytes
module _ (language : Language) (text rest gap after : List ℕ) (at : ℕ) (token : Token) (here : rest ≡ drop at text) (room : at + length rest ≡ length text)
    (step : IsSoundNext limits language at rest token gap after) where
  from_here : drop token.span.start text ≡ token.text ++ after
  from_here =
      ap (λ k. drop k text) step.next.start
      ∙ sym (drop-drop (length gap) at text)
      ∙ ap (drop (length gap)) (sym here ∙ step.next.joined)
      ∙ drop_at gap (token.text ++ after) (length gap) refl

  pub after_is : drop (token.span.start + length token.text) text ≡ after
  after_is = sym (drop-drop (length token.text) token.span.start text) ∙ ap (drop (length token.text)) from_here ∙ drop_at token.text after (length token.text) refl

  pub end_is : token.span.end ≡ token.span.start + length token.text
  end_is = omega (arith, step.next.start, step.next.end)

  pub within : token.span.start + length token.text ≤ length text
  within = omega (arith, step.next.start, room, ap length step.next.joined, length-append gap (token.text ++ after), length-append token.text after)

  pub unpacked_is : (code : ℕ) → unpacked text (place_of token code) ≡ token
  unpacked_is code =
      let with_text : List ℕ → Token = λ t. record { kind = token.kind; text = t; span = record { start = token.span.start; end = token.span.start + length token.text } } in
      let with_end : ℕ → Token = λ e. record { kind = token.kind; text = token.text; span = record { start = token.span.start; end = e } } in
      let len = token.span.start + length token.text - token.span.start in
      let slice : take len (drop token.span.start text) ≡ token.text = ap (take len) from_here ∙ take_at token.text after len (omega arith) in
      ap with_text slice ∙ ap with_end (sym end_is)

  pub is_in : (code : ℕ) → IsCodeOf token.text code → IsUtf8 token.text → IsUtf8 after → IsIn text (place_of token code)
  is_in code value utf8 utf8_after = record {
    from = IsCharBoundary-from_drop text token.span.start (omega (arith, within)) (subst IsUtf8 (sym from_here) (IsUtf8-append token.text after utf8 utf8_after));
    to = IsCharBoundary-from_drop text (token.span.start + length token.text) within (subst IsUtf8 (sym after_is) utf8_after);
    value = subst (λ (t : Token). IsCodeOf t.text code) (sym (unpacked_is code)) value;
  }
