use Rattle.std.proofs.Common.{◌≡◌, ℕ, ◌<◌, ◌+◌, Bool, true, false, ◌&&◌, not, List, length, get_or, drop, sym, ap, ◌∙◌}
use Rattle.std.specs.Prelude.{codes}
use Rattle.std.specs.Str.{str_eq_ignore_ascii_case}
use Rattle.std.proofs.lemmas.Bool.{and_left, and_right}
use Rattle.std.proofs.lemmas.List.{at_drop_more}
use Rattle.httparse.specs.declared.spans.HeaderSpan.{HeaderSpan}
use Rattle.httparse.specs.Spans.{span_bytes}
use Rattle.sig_http.specs.Fields.{fields_at, lengths_are}
use Rattle.sig_http.specs.Values.{is_number, is_same_number}
use Rattle.sig_http.proofs.fields.lengths_are.Goals.{then-is_number, else-is_number, else-is_word-via-then-is_word+else-not-fits, else-is_word-via-else-is_word}
use Rattle.sig_http.proofs.fields.lengths_are.Goals as goal

-- a field that isn't another length leaves the answer to those after it
passed : (first bytes : List ℕ) (headers : List HeaderSpan) (i : ℕ) (none : HeaderSpan) (name value : List ℕ) → i < length headers
    → name ≡ span_bytes bytes (get_or headers i none).name → value ≡ span_bytes bytes (get_or headers i none).value
    → (str_eq_ignore_ascii_case name (codes "content-length") && not (is_number value && is_same_number value first)) ≡ false
    → lengths_are first (fields_at bytes (drop i headers)) ≡ lengths_are first (fields_at bytes (drop (i + 1) headers))
passed first bytes headers i none name value there name_is value_is other =
    let rest = lengths_are first (fields_at bytes (drop (i + 1) headers)) in
    let at_value = span_bytes bytes (get_or headers i none).value in
    at_drop_more (λ (spans : List HeaderSpan). lengths_are first (fields_at bytes spans)) headers i none there
    ∙ ap (λ (n : List ℕ). not (str_eq_ignore_ascii_case n (codes "content-length") && not (is_number at_value && is_same_number at_value first)) && rest) (sym name_is)
    ∙ ap (λ (v : List ℕ). not (str_eq_ignore_ascii_case name (codes "content-length") && not (is_number v && is_same_number v first)) && rest) (sym value_is)
    ∙ ap (λ (b : Bool). not b && rest) other

fits_then : (fits same number is also : Bool) → fits ≡ same → same ≡ also → number ≡ is → number ≡ true → fits ≡ (is && also)
fits_then fits same number is also a b c d = a ∙ b ∙ sym (ap (λ (x : Bool). x && also) (sym c ∙ d))

fits_else : (fits number is also : Bool) → fits ≡ false → number ≡ is → number ≡ false → fits ≡ (is && also)
fits_else fits number is also a c d = a ∙ sym (ap (λ (x : Bool). x && also) (sym c ∙ d))

pub loop-header-preserved : goal.loop-header-preserved
loop-header-preserved c =
    let name = c.part.result.now in
    let value = c.part-value.result.now in
    let first = c.args.first.now in
    let fits : c.if-is_number.fits ≡ (is_number value && is_same_number value first) = elim c.if-is_number.branch [
      | then-is_number w ↦ fits_then _ _ _ _ _ w.fits-is w.is_same_number-fits.ensures c.is_number.ensures w.if-is_number.true
      | else-is_number w ↦ fits_else _ _ _ _ (w.fits-is ∙ w.if-is_number.false) c.is_number.ensures w.if-is_number.false
    ] in
    let other : (str_eq_ignore_ascii_case name (codes "content-length") && not (is_number value && is_same_number value first)) ≡ false = elim c.else-is_word.branch [
      | else-is_word-via-then-is_word+else-not-fits w ↦ and_right _ _ (ap not (sym fits ∙ w.if-not-fits.false))
      | else-is_word-via-else-is_word w ↦ and_left _ _ (sym c.is_word.ensures ∙ w.if-is_word.false)
    ] in
    c.loop-header.invariant ∙ passed first c.args.bytes.now c.args.headers.now c.loop-header.header-index _ name value c.loop-header-test.true c.part.ensures c.part-value.ensures other
