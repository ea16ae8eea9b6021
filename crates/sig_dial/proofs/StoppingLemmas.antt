-- How far an exchange reads its link.
use Rattle.std.proofs.Common.{◌≡◌, ℕ, ◌+◌, ◌*◌, ◌≤◌, List, [], ◌++◌, length, inl, inr, Option, Some, None, IfSome, refl, sym, ◌∙◌, ap, subst, arith, append_assoc, length-append}
use Rattle.std.proofs.KnownBytes.{Consumes-nil, Consumes-trans}
use Rattle.sig_json.specs.declared.limits.TheConstants.{RESPONSE_BODY_BYTES}
use Rattle.sig_http.specs.Taking.{IsOpenResponse, Takes, TakesAtMost, taken_bytes}
use Rattle.sig_dial.specs.Reading.{StopsReading, exchange_bytes}
use Rattle.sig_dial.specs.declared.limits.TheConstants.{INTERIM_RESPONSES}
use Rattle.sig_dial.proofs.ExchangeLemmas.{Passed, PassedOf}

-- where the link tells what it gives
abbrev pub StopsOf : Option (List ℕ) → Option (List ℕ) → Type 0
StopsOf old left = IfSome old (λ bytes. StopsReading bytes left)

pub stops_none : (old new : Option (List ℕ)) → new ≡ old → StopsOf old new
stops_none None new same = tt
stops_none (Some bytes) new same = subst (λ (o : Option (List ℕ)). StopsReading bytes o) (sym same) (inl refl)

-- the same from where the link stood before
pub stops_from : (old mid new : Option (List ℕ)) → mid ≡ old → StopsOf mid new → StopsOf old new
stops_from old mid new same s = subst (λ (o : Option (List ℕ)). StopsOf o new) same s

-- one more response was read, or a part of one
reads_on : (n : ℕ) (bytes kept left : List ℕ) (new : Option (List ℕ)) → n ≤ INTERIM_RESPONSES → Passed n bytes kept (Some left) → Takes IsOpenResponse kept (Some left) new
    → StopsReading bytes (Some left) → StopsReading bytes new
reads_on n bytes kept left None few p takes s = absurd takes.gave
reads_on n bytes kept left (Some left') few p takes s = elim takes.awaited [
  | inl none ↦ subst (λ (x : List ℕ). StopsReading bytes (Some x)) (takes.gave ∙ ap (λ x. x ++ left') none) s
  | inr h ↦ inr (record {
    interim = p.0;
    few = omega (arith, p.1, few);
    next = kept ++ left;
    leads = p.2;
    before = kept ++ h.0;
    last = h.1;
    is = ap (λ x. kept ++ x) (takes.gave ∙ ap (λ x. x ++ left') h.2) ∙ sym (append_assoc kept (h.0 ++ h.1) left') ∙ ap (λ x. x ++ left') (sym (append_assoc kept h.0 h.1));
    short = h.3;
    undecided = h.4;
  })
]

pub stops_more : (n : ℕ) (old left new : Option (List ℕ)) (kept : List ℕ) → n ≤ INTERIM_RESPONSES → PassedOf n old kept left → Takes IsOpenResponse kept left new → StopsOf old left → StopsOf old new
stops_more n None left new kept few p takes s = tt
stops_more n (Some bytes) None new kept few p takes s = absurd s
stops_more n (Some bytes) (Some left) new kept few p takes s = reads_on n bytes kept left new few p takes s

-- ---- how much it takes

pub most_none : (most : ℕ) (old new : Option (List ℕ)) → new ≡ old → TakesAtMost most old new
most_none most old new same = subst (λ (o : Option (List ℕ)). TakesAtMost most old o) (sym same) (record { more = []; gave = Consumes-nil old; few = omega arith })

pub most_from : (most : ℕ) (old mid new : Option (List ℕ)) → mid ≡ old → TakesAtMost most mid new → TakesAtMost most old new
most_from most old mid new same s = subst (λ (o : Option (List ℕ)). TakesAtMost most o new) same s

one_more : (n k first more : ℕ) → first ≤ n * k → more ≤ k → first + more ≤ (n + 1) * k
one_more n k first more few short = grind arith

as_many : (n k m : ℕ) → n ≤ m → n * k ≤ m * k
as_many n k m few = grind arith

pub most_more : (n : ℕ) (old left new : Option (List ℕ)) → TakesAtMost (n * taken_bytes RESPONSE_BODY_BYTES) old left → TakesAtMost (taken_bytes RESPONSE_BODY_BYTES) left new
    → TakesAtMost ((n + 1) * taken_bytes RESPONSE_BODY_BYTES) old new
most_more n old left new p q = record {
  more = p.more ++ q.more;
  gave = Consumes-trans old left new p.more q.more p.gave q.gave;
  few = subst (λ (m : ℕ). m ≤ (n + 1) * taken_bytes RESPONSE_BODY_BYTES) (sym (length-append p.more q.more)) (one_more n (taken_bytes RESPONSE_BODY_BYTES) (length p.more) (length q.more) p.few q.few);
}

pub most_within : (n : ℕ) (old new : Option (List ℕ)) → n ≤ INTERIM_RESPONSES + 1 → TakesAtMost (n * taken_bytes RESPONSE_BODY_BYTES) old new → TakesAtMost exchange_bytes old new
most_within n old new few p = record {
  more = p.more;
  gave = p.gave;
  few = omega (arith, p.few, as_many n (taken_bytes RESPONSE_BODY_BYTES) (INTERIM_RESPONSES + 1) few);
}
