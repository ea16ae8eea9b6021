-- What a reader answers, where the source tells what is left.
use Rattle.std.proofs.Common.{◌≡◌, ◌≤◌, ◌<◌, ℕ, List, [], ◌∷◌, ◌++◌, length, take, drop, Option, Some, None, IfSome, refl, sym, ◌∙◌, ap, subst, arith, append_assoc, append-nil, length-append}
use Rattle.std.specs.Io.KnownBytes.{IsAtEnd}
use Rattle.std.proofs.lemmas.List.{take-append-le, drop-append-le}
use Rattle.sig_http.specs.Faults.{OnFault}
use Rattle.sig_http.specs.Pieces.{Draws}
use Rattle.sig_http.specs.Section.{start, section_from}
use Rattle.sig_json.specs.declared.limits.TheConstants.{REQUEST_BODY_BYTES, RESPONSE_BODY_BYTES}
use Rattle.sig_http.specs.Message.{Outcome, Whole, Broken, Unfinished, Kind, after_section, DecidesBy, DecidesRequest, DecidesResponse, FindsRequest, FindsResponse, requests, responses, Reads, ReadsResponseOf, RefusesResponse}
use Rattle.sig_http.specs.declared.message.Request.{Request}
use Rattle.sig_http.specs.declared.message.Response.{Response}
use Rattle.sig_http.specs.declared.message.Got.TheVariants as gots
use Rattle.sig_http.specs.Heads.{Opens, RefusesHead, head_fault}
use Rattle.sig_http.specs.Bodies.{CutsSection, CutsBody, BreaksBody, StopsSection, EndsBody, StopsBody}
use Rattle.sig_http.specs.declared.body.Body.{Body}
use Rattle.sig_http.specs.declared.section.Section.{Section}
use Rattle.sig_http.specs.declared.section.Section.TheVariants.{Ended, Long}
use Rattle.sig_http.specs.declared.fault.HttpFault.{HttpFault}
use Rattle.sig_http.specs.declared.fault.HttpFault.TheVariants as faults
use Rattle.sig_http.specs.declared.framing.Framing.{Framing}
use Rattle.sig_http.proofs.PieceLemmas.{on_fault, judged_fault}
use Rattle.sig_http.proofs.SectionLemmas.{section_ended, section_long}
use Rattle.sig_http.proofs.OutcomeLemmas.{head_whole, head_broken, head_cut}

-- ---- the bytes of a source

-- what was kept and left is what is held and left now
held_left : (kept held left left1 : List ℕ) → (draws : Draws kept held (Some left) (Some left1)) → kept ++ left ≡ held ++ left1
held_left kept held left left1 draws =
    ap (λ x. kept ++ x) draws.gave ∙ sym (append_assoc kept draws.more left1) ∙ ap (λ x. x ++ left1) (sym draws.stands)

-- the same at the end of the source
held_all : (kept held left left1 : List ℕ) → (draws : Draws kept held (Some left) (Some left1)) → IsAtEnd (Some left1) → kept ++ left ≡ held
held_all kept held left left1 draws ends = held_left kept held left left1 draws ∙ ap (λ x. held ++ x) ends ∙ append-nil held

-- a section has a byte
ended_some : (held : List ℕ) (n : ℕ) → section_from start held ≡ Ended n → 0 < length held
ended_some [] n e = cc e
ended_some (b ∷ held) n e = omega arith

-- what bytes decide
abbrev pub Decides : {M H : Type 0} → (List ℕ → Option H → Type 0) → Kind M H → List ℕ → Outcome M → Type 0
Decides Finds kind bytes outcome = DecidesBy Finds kind bytes outcome (section_from start bytes)

-- a refusal of known bytes, of which there are some where they are cut
abbrev pub RefusesBytes : {M H : Type 0} → (List ℕ → Option H → Type 0) → Kind M H → List ℕ → HttpFault → Type 0
RefusesBytes Finds kind bytes fault = OnFault fault ((0 < length bytes) × Decides Finds kind bytes Unfinished) (Decides Finds kind bytes (Broken fault))

-- the section that is held decides, whatever follows
decided_after : {M H : Type 0} (Finds : List ℕ → Option H → Type 0) (kind : Kind M H) (held after : List ℕ) (n : ℕ) (found : Option H) (outcome : Outcome M)
    → section_from start held ≡ Ended n → n ≤ length held → Finds (take n held) found → after_section kind found (drop n held ++ after) ≡ outcome
    → Decides Finds kind (held ++ after) outcome
decided_after Finds kind held after n found outcome ended fits finds is =
    subst (λ (s : Section). DecidesBy Finds kind (held ++ after) outcome s) (sym (section_ended start held after n ended)) (
      found,
      subst (λ (x : List ℕ). Finds x found) (sym (take-append-le n held after fits)) finds,
      sym is ∙ ap (after_section kind found) (sym (drop-append-le n held after fits)),
    )

-- ---- the answers

-- a message is whole
pub message_whole : {M H : Type 0} (Finds : List ℕ → Option H → Type 0) (kind : Kind M H) (with_body : M → List ℕ → M) (same : (head : H) (content : List ℕ) → with_body (kind.message head []) content ≡ kind.message head content)
    (kept held : List ℕ) (n : ℕ) (message : M) (framing : Framing) (body : Body) (left left1 left2 : List ℕ) → Draws kept held (Some left) (Some left1)
    → section_from start held ≡ Ended n → n ≤ length held → Opens Finds kind (take n held) message framing → EndsBody kind.limit framing (drop n held) body (Some left1) (Some left2)
    → Decides Finds kind (kept ++ left) (Whole (with_body message body.content.items) (body.rest.items ++ left2))
message_whole Finds kind with_body same kept held n message framing body left left1 left2 draws ended fits opens ends =
    let head = opens.head in
    subst (λ (bytes : List ℕ). Decides Finds kind bytes (Whole (with_body message body.content.items) (body.rest.items ++ left2))) (sym (held_left kept held left left1 draws))
    (decided_after Finds kind held left1 n (Some head) _ ended fits opens.found
    (head_whole (kind.fault head) kind.limit (kind.framing head) framing (kind.message head) (drop n held) left1 left2 body opens.whole opens.framing_is ends
    ∙ ap (λ m. Whole m (body.rest.items ++ left2)) (sym (same head body.content.items))
    ∙ ap (λ m. Whole (with_body m body.content.items) (body.rest.items ++ left2)) (sym opens.message_is)))

-- a section isn't taken
pub section_refused : {M H : Type 0} (Finds : List ℕ → Option H → Type 0) (kind : Kind M H) (kept held : List ℕ) (fault : HttpFault) (l m : Option (List ℕ)) → Draws kept held l m
    → StopsSection fault held m → IfSome l (λ left. RefusesBytes Finds kind (kept ++ left) fault)
section_refused Finds kind kept held fault None m draws stops = tt
section_refused Finds kind kept held fault (Some left) None draws stops = absurd draws.gave
section_refused Finds kind kept held fault (Some left) (Some left1) draws stops = on_fault fault _ _ _ _
    (λ (cuts : CutsSection held (Some left1)).
    let all = sym (held_all kept held left left1 draws cuts.ends) in (
      subst (λ (bytes : List ℕ). 0 < length bytes) all cuts.some,
      subst (λ (bytes : List ℕ). Decides Finds kind bytes Unfinished) all (subst (λ (s : Section). DecidesBy Finds kind held Unfinished s) (sym cuts.is) refl),
    ))
    (λ (long : (fault ≡ faults.HeadLong) × (section_from start held ≡ Long)).
    subst (λ (bytes : List ℕ). Decides Finds kind bytes (Broken fault)) (sym (held_left kept held left left1 draws))
    (subst (λ (s : Section). DecidesBy Finds kind (held ++ left1) (Broken fault) s) (sym (section_long start held left1 long.1)) (ap Broken long.0)))
    stops

faulty : {M H : Type 0} (kind : Kind M H) (found : Option H) (fault : HttpFault) (bytes : List ℕ) → head_fault kind found ≡ Some fault → after_section kind found bytes ≡ Broken fault
faulty kind None fault bytes e = cc e
faulty kind (Some head) fault bytes e = rw e refl

-- a head is refused
pub head_refused : {M H : Type 0} (Finds : List ℕ → Option H → Type 0) (kind : Kind M H) (kept held : List ℕ) (n : ℕ) (fault : HttpFault) (l m : Option (List ℕ)) → Draws kept held l m
    → section_from start held ≡ Ended n → n ≤ length held → RefusesHead Finds kind (take n held) fault → IfSome l (λ left. RefusesBytes Finds kind (kept ++ left) fault)
head_refused Finds kind kept held n fault None m draws ended fits refused = tt
head_refused Finds kind kept held n fault (Some left) None draws ended fits refused = absurd draws.gave
head_refused {H = H} Finds kind kept held n fault (Some left) (Some left1) draws ended fits refused = judged_fault fault _ _ _
    (λ (h : (found : Option H) × Finds (take n held) found × (head_fault kind found ≡ Some fault)).
    subst (λ (bytes : List ℕ). Decides Finds kind bytes (Broken fault)) (sym (held_left kept held left left1 draws))
    (decided_after Finds kind held left1 n h.0 _ ended fits h.1 (faulty kind h.0 fault (drop n held ++ left1) h.2)))
    refused

-- a body is refused
pub body_refused : {M H : Type 0} (Finds : List ℕ → Option H → Type 0) (kind : Kind M H) (kept held : List ℕ) (n : ℕ) (message : M) (framing : Framing) (fault : HttpFault) (l m k : Option (List ℕ))
    → Draws kept held l m → section_from start held ≡ Ended n → n ≤ length held → Opens Finds kind (take n held) message framing
    → StopsBody kind.limit framing (drop n held) fault m k → IfSome l (λ left. RefusesBytes Finds kind (kept ++ left) fault)
body_refused Finds kind kept held n message framing fault None m k draws ended fits opens stops = tt
body_refused Finds kind kept held n message framing fault (Some left) None k draws ended fits opens stops = absurd draws.gave
body_refused Finds kind kept held n message framing fault (Some left) (Some left1) None draws ended fits opens stops =
    on_fault fault _ _ _ _ (λ (cuts : CutsBody kind.limit framing (drop n held) (Some left1) None). absurd cuts.gave) (λ (breaks : BreaksBody kind.limit framing (drop n held) fault (Some left1) None). absurd breaks.gave) stops
body_refused Finds kind kept held n message framing fault (Some left) (Some left1) (Some left2) draws ended fits opens stops =
    let head = opens.head in
    let all = sym (held_left kept held left left1 draws) in
    let some : 0 < length (held ++ left1) = omega (arith, ended_some held n ended, length-append held left1) in
    on_fault fault _ _ _ _
    (λ (cuts : CutsBody kind.limit framing (drop n held) (Some left1) (Some left2)). (
      subst (λ (bytes : List ℕ). 0 < length bytes) all some,
      subst (λ (bytes : List ℕ). Decides Finds kind bytes Unfinished) all
          (decided_after Finds kind held left1 n (Some head) _ ended fits opens.found
          (head_cut (kind.fault head) kind.limit (kind.framing head) framing (kind.message head) (drop n held) left1 left2 opens.whole opens.framing_is cuts)),
    ))
    (λ (breaks : BreaksBody kind.limit framing (drop n held) fault (Some left1) (Some left2)).
    subst (λ (bytes : List ℕ). Decides Finds kind bytes (Broken fault)) all
    (decided_after Finds kind held left1 n (Some head) _ ended fits opens.found
    (head_broken (kind.fault head) kind.limit (kind.framing head) framing (kind.message head) (drop n held) left1 left2 fault opens.whole opens.framing_is breaks)))
    stops

-- the request is got
pub got_request : (kept held : List ℕ) (n : ℕ) (request : Request) (framing : Framing) (body : Body) (final : Request) (now : List ℕ) (l m k : Option (List ℕ)) → Draws kept held l m
    → section_from start held ≡ Ended n → n ≤ length held → Opens FindsRequest requests (take n held) request framing → EndsBody REQUEST_BODY_BYTES framing (drop n held) body m k
    → final ≡ record request { body = body.content.items } → now ≡ body.rest.items → IfSome l (λ left. Reads (kept ++ left) (gots.Request final) now k)
got_request kept held n request framing body final now None m k draws ended fits opens ends e f = tt
got_request kept held n request framing body final now (Some left) None k draws ended fits opens ends e f = absurd draws.gave
got_request kept held n request framing body final now (Some left) (Some left1) None draws ended fits opens ends e f = absurd ends.gave
got_request kept held n request framing body final now (Some left) (Some left1) (Some left2) draws ended fits opens ends e f =
    subst (λ (rest : List ℕ). DecidesRequest (kept ++ left) (Whole final (rest ++ left2))) (sym f)
    (subst (λ (m : Request). DecidesRequest (kept ++ left) (Whole m (body.rest.items ++ left2))) (sym e)
    (message_whole FindsRequest requests (λ m content. record m { body = content }) (λ head content. refl) kept held n request framing body left left1 left2 draws ended fits opens ends))

-- the response is got
pub got_response : (kept held : List ℕ) (n : ℕ) (response : Response) (framing : Framing) (body : Body) (final : Response) (now : List ℕ) (l m k : Option (List ℕ)) → Draws kept held l m
    → section_from start held ≡ Ended n → n ≤ length held → Opens FindsResponse responses (take n held) response framing → EndsBody RESPONSE_BODY_BYTES framing (drop n held) body m k
    → final ≡ record response { body = body.content.items } → now ≡ body.rest.items → IfSome l (λ left. ReadsResponseOf (kept ++ left) final now k)
got_response kept held n response framing body final now None m k draws ended fits opens ends e f = tt
got_response kept held n response framing body final now (Some left) None k draws ended fits opens ends e f = absurd draws.gave
got_response kept held n response framing body final now (Some left) (Some left1) None draws ended fits opens ends e f = absurd ends.gave
got_response kept held n response framing body final now (Some left) (Some left1) (Some left2) draws ended fits opens ends e f =
    subst (λ (rest : List ℕ). DecidesResponse (kept ++ left) (Whole final (rest ++ left2))) (sym f)
    (subst (λ (m : Response). DecidesResponse (kept ++ left) (Whole m (body.rest.items ++ left2))) (sym e)
    (message_whole FindsResponse responses (λ m content. record m { body = content }) (λ head content. refl) kept held n response framing body left left1 left2 draws ended fits opens ends))

-- a response may be cut where there are no bytes
pub refused_response : (fault : HttpFault) (bytes : List ℕ) → RefusesBytes FindsResponse responses bytes fault → RefusesResponse bytes fault
refused_response fault bytes h = on_fault fault _ _ _ _ (λ (cut : (0 < length bytes) × Decides FindsResponse responses bytes Unfinished). cut.1) (λ (h : Decides FindsResponse responses bytes (Broken fault)). h) h

pub refused_responses : (fault : HttpFault) (kept : List ℕ) (l : Option (List ℕ)) → IfSome l (λ left. RefusesBytes FindsResponse responses (kept ++ left) fault) → IfSome l (λ left. RefusesResponse (kept ++ left) fault)
refused_responses fault kept None h = tt
refused_responses fault kept (Some left) h = refused_response fault (kept ++ left) h
