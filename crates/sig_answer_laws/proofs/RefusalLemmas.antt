-- What calls are told, by its shape, and that what refuses them has its cause.
use Rattle.std.proofs.Common.{◌≡◌, ℕ, ◌<◌, List, Bool, true, false, Option, Some, None, IfSome, if◌then◌else◌, refl, arith}
use Rattle.std.specs.List.{list_any}
use Rattle.sig_json.specs.declared.limits.TheConstants.{PAYLOAD_BYTES}
use Rattle.sig_terms.specs.declared.answer.Answer.{Answer}
use Rattle.sig_terms.specs.declared.answer.Answer.TheVariants as answer
use Rattle.sig_terms.specs.declared.call.Call.{Call}
use Rattle.sig_terms.specs.declared.fact.Fact.{Fact}
use Rattle.sig_terms.specs.declared.rules.Rules.{Rules}
use Rattle.sig_history.specs.Facts.{made_by}
use Rattle.sig_history.specs.Owed.{Sum}
use Rattle.sig_history.specs.Sound.{Fits, is_long, is_past, largest}
use Rattle.sig_history.specs.Streams.{Made, Stream}
use Rattle.sig_calls.specs.Found.{told_by}
use Rattle.sig_calls.specs.Speaking.{IsTrueTold}
use Rattle.sig_calls.specs.Told.{Told, making, only}
use Rattle.sig_answer_laws.specs.Laws.{Says}
use Rattle.sig_answer_laws.specs.Refused.{IsFactOf, IsMissing, SaysLong}
use Rattle.sig_answer_laws.proofs.TokenLemmas.{largest_there, long_above, none_larger}

-- ---- a call over what a history came to

pub record Case : Type 0 where
  pub rules : Rules
  pub sum : Sum
  pub call : Call
  pub now : ℕ

-- what is told is so, unless a number would be too great
abbrev pub Tells : Case → Told → Type 0
Tells c t = t.over ≡ false → Says c.rules c.sum c.call c.now t.change t.answer

-- what is known of it: what it says of a configuration or a status is so, and its fact fits
pub record IsKnown (sum : Sum) (t : Told) : Type 0 where
  pub true_of : IsTrueTold sum t
  pub fits : t.over ≡ false → IfSome t.change (Fits sum)

-- what is told by one of two ways
pub either_says : (c : Case) (b : Bool) (t u : Told) → (b ≡ true → IsKnown c.sum t → Tells c t) → (b ≡ false → IsKnown c.sum u → Tells c u)
    → IsKnown c.sum (if b then t else u) → Tells c (if b then t else u)
either_says c true t u one two known = one refl known
either_says c false t u one two known = two refl known

-- what is told of a stream, where it is found
pub found_says : (c : Case) (tell : Stream → Told) (o : Option Stream) → (o ≡ None → IsMissing c.rules c.sum c.call)
    → ((s : Stream) → o ≡ Some s → IsKnown c.sum (tell s) → Tells c (tell s)) → IsKnown c.sum (told_by tell o) → Tells c (told_by tell o)
found_says c tell None missing each known = λ low. record { same = refl; missing = missing refl }
found_says c tell (Some s) missing each known = each s refl known

-- the fact of a call makes tokens, of which one is too long
long_says : (c : Case) (f : Fact) → IsFactOf c.sum c.call c.now f → is_long (made_by c.sum.parts f) ≡ true
    → SaysLong c.sum c.call c.now None (largest (made_by c.sum.parts f))
long_says c f is long =
    let ts : List Made = made_by c.sum.parts f in
    let above : PAYLOAD_BYTES < largest ts = long_above ts long in
    let (t, there, size) = largest_there ts (omega arith) in
    record { fact = f; token = t; same = refl; is = is; made = there; bytes = size; most = none_larger ts; long = above }

-- a fact that makes tokens
pub making_says : (c : Case) (a : Answer) (f : Fact) → IsFactOf c.sum c.call c.now f
    → (IsKnown c.sum (record { answer = a; change = Some f; over = list_any is_past (made_by c.sum.parts f) })
    → Tells c (record { answer = a; change = Some f; over = list_any is_past (made_by c.sum.parts f) }))
    → IsKnown c.sum (making c.sum.parts a f) → Tells c (making c.sum.parts a f)
making_says c a f is short known =
    either_says c (is_long (made_by c.sum.parts f)) (only (answer.Long (largest (made_by c.sum.parts f))))
    (record { answer = a; change = Some f; over = list_any is_past (made_by c.sum.parts f) })
    (λ long k low. long_says c f is long) (λ few k. short k) known
