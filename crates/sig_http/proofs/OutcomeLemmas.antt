-- What bytes decide stays decided, whatever bytes follow.
use Rattle.std.proofs.Common.{◌≡◌, ◌≤◌, ◌<◌, ℕ, Bool, true, false, List, [], ◌++◌, length, take, drop, Option, Some, None, refl, sym, ◌∙◌, ap, arith, append_assoc, append-nil, length-append, if◌then◌else◌}
use Rattle.std.specs.Prelude.{nat_le}
use Rattle.std.proofs.lemmas.Bool.{le-leb, lt-leb, leb-true, leb-false}
use Rattle.std.proofs.lemmas.List.{take-append-le, drop-append-le}
use Rattle.sig_http.specs.Chunks.{Chunked, Stands, Holds, Fails, chunks_from, first}
use Rattle.sig_http.specs.Message.{Outcome, Whole, Broken, Unfinished, body_of, outcome_of, after_head, as_body}
use Rattle.sig_http.specs.Bodies.{EndsBody, BreaksBody, CutsBody, EndsWithSource}
use Rattle.sig_http.specs.declared.body.Body.{Body}
use Rattle.sig_http.specs.declared.fault.HttpFault.{HttpFault}
use Rattle.sig_http.specs.declared.fault.HttpFault.TheVariants as faults
use Rattle.sig_http.specs.declared.framing.Framing.{Framing}
use Rattle.sig_http.specs.declared.framing.Framing.TheVariants as framings
use Rattle.sig_http.proofs.ChunkLemmas.{chunks_then, chunks_append}

-- the same, with more bytes after those that decide it
abbrev pub outcome_then : {M : Type 0} → Outcome M → List ℕ → Outcome M
outcome_then (Whole m rest) more = Whole m (rest ++ more)
outcome_then (Broken fault) more = Broken fault
outcome_then Unfinished more = Unfinished

-- ---- a whole body

length_whole : (n : ℕ) (bytes more content rest : List ℕ) (b : Bool) → nat_le n (length bytes) ≡ b
    → (if b then Whole (take n bytes) (drop n bytes) else Unfinished) ≡ Whole content rest
    → (if nat_le n (length (bytes ++ more)) then Whole (take n (bytes ++ more)) (drop n (bytes ++ more)) else Unfinished) ≡ Whole content (rest ++ more)
length_whole n bytes more content rest true t e =
    let fits : n ≤ length bytes = leb-true n (length bytes) t in
    let longer : n ≤ length (bytes ++ more) = omega (arith, length-append bytes more) in
    ap (λ b. if b then Whole (take n (bytes ++ more)) (drop n (bytes ++ more)) else Unfinished) (le-leb n (length (bytes ++ more)) longer)
    ∙ ap (λ c. Whole c (drop n (bytes ++ more))) (take-append-le n bytes more fits)
    ∙ ap (Whole (take n bytes)) (drop-append-le n bytes more fits)
    ∙ ap (λ o. outcome_then o more) e
length_whole n bytes more content rest false t e = cc e

chunks_whole : (limit : ℕ) (told : Chunked) (more content rest : List ℕ) → outcome_of told ≡ Whole content rest → outcome_of (chunks_then limit told more) ≡ Whole content (rest ++ more)
chunks_whole limit (Stands standing so_far) more content rest e = cc e
chunks_whole limit (Holds so_far after) more content rest e = ap (λ o. outcome_then o more) e
chunks_whole limit (Fails fault) more content rest e = cc e

pub body_whole : (limit : ℕ) (framing : Framing) (bytes more content rest : List ℕ) → body_of limit framing bytes ≡ Whole content rest → EndsWithSource framing (Some more)
    → body_of limit framing (bytes ++ more) ≡ Whole content (rest ++ more)
body_whole limit (framings.Length n) bytes more content rest e ends = length_whole n bytes more content rest (nat_le n (length bytes)) refl e
body_whole limit framings.Chunks bytes more content rest e ends =
    ap outcome_of (chunks_append limit (first limit) [] bytes more)
    ∙ chunks_whole limit (chunks_from limit (first limit) [] bytes) more content rest e
body_whole limit framings.End bytes more content rest e ends =
    ap (λ x. body_of limit framings.End (bytes ++ x)) ends ∙ ap (body_of limit framings.End) (append-nil bytes) ∙ e
    ∙ ap (Whole content) (sym (append-nil rest)) ∙ ap (λ x. Whole content (rest ++ x)) (sym ends)

-- ---- a broken one

length_broken : (n : ℕ) (bytes : List ℕ) (fault : HttpFault) (X : Type 0) (b : Bool) → (if b then Whole (take n bytes) (drop n bytes) else Unfinished) ≡ Broken fault → X
length_broken n bytes fault X true e = cc e
length_broken n bytes fault X false e = cc e

chunks_broken : (limit : ℕ) (told : Chunked) (more : List ℕ) (fault : HttpFault) → outcome_of told ≡ Broken fault → outcome_of (chunks_then limit told more) ≡ Broken fault
chunks_broken limit (Stands standing so_far) more fault e = cc e
chunks_broken limit (Holds so_far after) more fault e = cc e
chunks_broken limit (Fails other) more fault e = e

end_broken : (limit : ℕ) (bytes more : List ℕ) (fault : HttpFault) (b : Bool) → nat_le (length bytes) limit ≡ b
    → (if b then Whole bytes [] else Broken faults.BodyLong) ≡ Broken fault
    → (if nat_le (length (bytes ++ more)) limit then Whole (bytes ++ more) [] else Broken faults.BodyLong) ≡ Broken fault
end_broken limit bytes more fault true t e = cc e
end_broken limit bytes more fault false t e =
    let past : limit < length bytes = leb-false (length bytes) limit t in
    let longer : limit < length (bytes ++ more) = omega (arith, length-append bytes more) in
    ap (λ b. if b then Whole (bytes ++ more) [] else Broken faults.BodyLong) (lt-leb (length (bytes ++ more)) limit longer) ∙ e

pub body_broken : (limit : ℕ) (framing : Framing) (bytes more : List ℕ) (fault : HttpFault) → body_of limit framing bytes ≡ Broken fault
    → body_of limit framing (bytes ++ more) ≡ Broken fault
body_broken limit (framings.Length n) bytes more fault e = length_broken n bytes fault _ (nat_le n (length bytes)) e
body_broken limit framings.Chunks bytes more fault e =
    ap outcome_of (chunks_append limit (first limit) [] bytes more)
    ∙ chunks_broken limit (chunks_from limit (first limit) [] bytes) more fault e
body_broken limit framings.End bytes more fault e = end_broken limit bytes more fault (nat_le (length bytes) limit) refl e

-- ---- a message after its head

-- a head without fault and a whole body
pub head_whole : {M : Type 0} (fault : Option HttpFault) (limit : ℕ) (said framing : Framing) (message : List ℕ → M) (held left1 left2 : List ℕ) (body : Body)
    → fault ≡ None → framing ≡ said → EndsBody limit framing held body (Some left1) (Some left2)
    → after_head fault limit said message (held ++ left1) ≡ Whole (message body.content.items) (body.rest.items ++ left2)
head_whole fault limit said framing message held left1 left2 body none same ends =
    ap (λ f. after_head f limit said message (held ++ left1)) none
    ∙ ap (λ f. as_body message (body_of limit f (held ++ left1))) (sym same)
    ∙ ap (λ x. as_body message (body_of limit framing (held ++ x))) ends.gave
    ∙ ap (λ x. as_body message (body_of limit framing x)) (sym (append_assoc held ends.more left2))
    ∙ ap (as_body message) (body_whole limit framing (held ++ ends.more) left2 body.content.items body.rest.items ends.is ends.ends)

pub head_broken : {M : Type 0} (fault : Option HttpFault) (limit : ℕ) (said framing : Framing) (message : List ℕ → M) (held left1 left2 : List ℕ) (broken : HttpFault)
    → fault ≡ None → framing ≡ said → BreaksBody limit framing held broken (Some left1) (Some left2)
    → after_head fault limit said message (held ++ left1) ≡ Broken broken
head_broken fault limit said framing message held left1 left2 broken none same breaks =
    ap (λ f. after_head f limit said message (held ++ left1)) none
    ∙ ap (λ f. as_body message (body_of limit f (held ++ left1))) (sym same)
    ∙ ap (λ x. as_body message (body_of limit framing (held ++ x))) breaks.gave
    ∙ ap (λ x. as_body message (body_of limit framing x)) (sym (append_assoc held breaks.more left2))
    ∙ ap (as_body message) (body_broken limit framing (held ++ breaks.more) left2 broken breaks.is)

pub head_cut : {M : Type 0} (fault : Option HttpFault) (limit : ℕ) (said framing : Framing) (message : List ℕ → M) (held left1 left2 : List ℕ)
    → fault ≡ None → framing ≡ said → CutsBody limit framing held (Some left1) (Some left2)
    → after_head fault limit said message (held ++ left1) ≡ Unfinished
head_cut fault limit said framing message held left1 left2 none same cuts =
    ap (λ f. after_head f limit said message (held ++ left1)) none
    ∙ ap (λ f. as_body message (body_of limit f (held ++ left1))) (sym same)
    ∙ ap (λ x. as_body message (body_of limit framing (held ++ x))) (cuts.gave ∙ ap (λ x. cuts.more ++ x) cuts.ends ∙ append-nil cuts.more)
    ∙ ap (as_body message) cuts.is
