-- What bytes decide is one outcome.
use Rattle.std.proofs.Common.{◌≡◌, ℕ, List, take, drop, Option, Some, None, refl, sym, ◌∙◌, ap, arith}
use Rattle.httparse.proofs.GrammarLemmas.{request_unique, response_unique}
use Rattle.httparse.specs.Grammar.{RequestHead, ResponseHead}
use Rattle.sig_http.specs.Message.{Outcome, Kind, after_section, DecidesBy, FindsRequest, FindsResponse}
use Rattle.sig_http.specs.declared.section.Section.{Section}
use Rattle.sig_http.specs.declared.section.Section.TheVariants.{Open, Ended, Long}

-- a section has one head, or none
pub one_request_head : (section : List ℕ) (f g : Option RequestHead) → FindsRequest section f → FindsRequest section g → f ≡ g
one_request_head section None None p q = refl
one_request_head section None (Some k) p q = absurd (omega (arith, p k q.0.0 q.0.1, q.1))
one_request_head section (Some h) None p q = absurd (omega (arith, q h p.0.0 p.0.1, p.1))
one_request_head section (Some h) (Some k) p q = ap Some (request_unique section h k p.0.0 q.0.0 p.0.1 q.0.1).0

pub one_response_head : (section : List ℕ) (f g : Option ResponseHead) → FindsResponse section f → FindsResponse section g → f ≡ g
one_response_head section None None p q = refl
one_response_head section None (Some k) p q = absurd (omega (arith, p k q.0.0 q.0.1, q.1))
one_response_head section (Some h) None p q = absurd (omega (arith, q h p.0.0 p.0.1, p.1))
one_response_head section (Some h) (Some k) p q = ap Some (response_unique section h k p.0.0 q.0.0 p.0.1 q.0.1).0

-- where a section has one head, there is one outcome
pub one_outcome : {M H : Type 0} (Finds : List ℕ → Option H → Type 0) (kind : Kind M H) → ((section : List ℕ) (f g : Option H) → Finds section f → Finds section g → f ≡ g)
    → (bytes : List ℕ) (a b : Outcome M) (s : Section) → DecidesBy Finds kind bytes a s → DecidesBy Finds kind bytes b s → a ≡ b
one_outcome Finds kind one bytes a b (Open scan) p q = p ∙ sym q
one_outcome Finds kind one bytes a b Long p q = p ∙ sym q
one_outcome Finds kind one bytes a b (Ended n) p q =
    p.2 ∙ ap (λ f. after_section kind f (drop n bytes)) (one (take n bytes) p.0 q.0 p.1 q.1) ∙ sym q.2
