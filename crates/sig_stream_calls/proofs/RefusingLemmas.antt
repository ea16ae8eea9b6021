-- A page of the tokens that were reported as faulty, of what is held.
use Rattle.std.proofs.Common.{◌≡◌, ◌∙◌, ap, sym, ℕ, ◌+◌, ◌-◌, List, drop, length, map, take}
use Rattle.std.specs.Prelude.{max, min}
use Rattle.std.proofs.lemmas.List.{drop-map, length-map, take-map}
use Rattle.sig_terms.specs.declared.answer.Answer.TheVariants as answer
use Rattle.sig_terms.specs.declared.refused_token.RefusedToken.{RefusedToken}
use Rattle.sig_history.specs.Streams.{Publication}
use Rattle.sig_calls.specs.Overseeing.{refusing}
use Rattle.sig_calls.specs.Told.{only}
use Rattle.sig_calls.specs.declared.limits.TheConstants.{REFUSED_PER_PAGE}
use Rattle.sig_accounts.specs.Reported.{Reported, refused_at}
use Rattle.sig_ledger.specs.Books.{Books, sum_in}

-- what is told of what is held is what the table says
pub page_told : (b : Books) (r : Reported) (published : List Publication) (from next : ℕ) (tokens : List RefusedToken)
    → r ≡ b.refused → published ≡ b.published
    → next ≡ min (max from r.before + REFUSED_PER_PAGE) (r.before + length r.kept)
    → tokens ≡ map (refused_at published) (take REFUSED_PER_PAGE (drop (from - r.before) r.kept))
    → only (answer.Refused next tokens) ≡ refusing (sum_in b) from
page_told b r published from next tokens held all behind page =
    let kept : List RefusedToken = map (refused_at b.published) b.refused.kept in
    let place : ℕ → ℕ = λ n. min (max from b.refused.before + REFUSED_PER_PAGE) (b.refused.before + n) in
    ap (λ n. only (answer.Refused n tokens))
    (behind ∙ ap (λ (s : Reported). min (max from s.before + REFUSED_PER_PAGE) (s.before + length s.kept)) held
    ∙ ap place (sym (length-map b.refused.kept (refused_at b.published))))
    ∙ ap (λ l. only (answer.Refused (place (length kept)) l))
    (page
    ∙ ap (λ (s : Reported). map (refused_at published) (take REFUSED_PER_PAGE (drop (from - s.before) s.kept))) held
    ∙ ap (λ ps. map (refused_at ps) (take REFUSED_PER_PAGE (drop (from - b.refused.before) b.refused.kept))) all
    ∙ sym (take-map (refused_at b.published) REFUSED_PER_PAGE (drop (from - b.refused.before) b.refused.kept))
    ∙ ap (take REFUSED_PER_PAGE) (sym (drop-map (refused_at b.published) (from - b.refused.before) b.refused.kept)))
