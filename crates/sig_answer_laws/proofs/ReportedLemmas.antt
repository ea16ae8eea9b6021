-- The tokens that were reported as faulty, as the operator reads them.
use Rattle.std.proofs.Common.{◌≡◌, ◌∙◌, ap, ℕ, ◌+◌, ◌-◌, ◌<◌, ◌≤◌, List, ◌++◌, length, take, drop, None, refl, arith}
use Rattle.std.specs.Prelude.{max, min}
use Rattle.std.proofs.lemmas.List.{length-drop, length-take, take-append-drop}
use Rattle.sig_terms.specs.declared.call.Call.TheVariants.{Refused}
use Rattle.sig_terms.specs.declared.refused_token.RefusedToken.{RefusedToken}
use Rattle.sig_history.specs.Owed.{Sum}
use Rattle.sig_calls.specs.declared.limits.TheConstants.{REFUSED_PER_PAGE}
use Rattle.sig_answer_laws.specs.Given.{SaysRefused}

-- a page of them
pub refused_say : (sum : Sum) (from : ℕ)
    → SaysRefused sum (Refused from) None (min (max from sum.refused.before + REFUSED_PER_PAGE) (sum.refused.before + length sum.refused.kept))
    (take REFUSED_PER_PAGE (drop (from - sum.refused.before) sum.refused.kept))
refused_say sum from =
    let kept : List RefusedToken = sum.refused.kept in
    let start : ℕ = from - sum.refused.before in
    let behind : List RefusedToken = drop start kept in
    let first : length (take start kept) ≡ min start (length kept) = length-take start kept in
    let left : length behind ≡ length kept - start = length-drop start kept in
    let page : length (take REFUSED_PER_PAGE behind) ≡ min REFUSED_PER_PAGE (length behind) = length-take REFUSED_PER_PAGE behind in
    let more : length (drop REFUSED_PER_PAGE behind) ≡ length behind - REFUSED_PER_PAGE = length-drop REFUSED_PER_PAGE behind in
    record {
      from = from;
      before = take start kept;
      rest = drop REFUSED_PER_PAGE behind;
      asked = refl;
      same = refl;
      all = ap (λ l. take start kept ++ l) (take-append-drop REFUSED_PER_PAGE behind) ∙ take-append-drop start kept;
      first = first;
      last = omega arith;
      within = omega arith;
      full = λ some. omega arith;
    }
