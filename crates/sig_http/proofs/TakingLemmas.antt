-- What one call takes of a source.
use Rattle.std.proofs.Common.{◌≡◌, ◌⊎◌, ◌+◌, ◌≤◌, ◌<◌, ℕ, Bool, true, false, List, [], ◌∷◌, ◌++◌, inl, inr, length, take, drop, Option, Some, None, refl, sym, ◌∙◌, ap, subst, arith, append_assoc, append-nil, length-append, if◌then◌else◌}
use Rattle.std.specs.Prelude.{nat_lt, nat_le, ◌==◌, ◌&&◌, not, codes}
use Rattle.std.proofs.KnownBytes.{Consumes-nil, Consumes-trans}
use Rattle.std.proofs.lemmas.Bool.{leb-true, leb-false}
use Rattle.std.proofs.lemmas.List.{length-drop, take-append-le, drop-append-le}
use Rattle.sig_json.specs.declared.limits.TheConstants.{HEAD_BYTES, HEADER_FIELDS, REQUEST_BODY_BYTES, RESPONSE_BODY_BYTES}
use Rattle.httparse.specs.Grammar.{RequestHead, ResponseHead, status_code}
use Rattle.sig_json.specs.Checks.{check, first_failing}
use Rattle.sig_http.specs.Pieces.{Draws}
use Rattle.sig_http.specs.Section.{start, section_from, after_byte, after_line, after_line_of, begun_with, line_feed, one_more}
use Rattle.sig_http.specs.Chunks.{first, frame_bytes}
use Rattle.sig_http.specs.Fields.{all_say}
use Rattle.sig_http.specs.Targets.{has_fragment}
use Rattle.sig_http.specs.Framing.{count_named, fits, is_framed, is_hosted, length_in, request_framing, response_framing}
use Rattle.sig_http.specs.Message.{Whole, Unfinished, Kind, after_head, as_body, body_of, DecidesBy, FindsRequest, FindsResponse, request_fields, requests, response_fields, responses}
use Rattle.sig_http.specs.Bodies.{IsWithin}
use Rattle.sig_http.specs.Heads.{Opens}
use Rattle.sig_http.specs.Taking.{DrawsWhile, IsAwaited, IsOpenBody, IsOpenRequest, IsOpenResponse, IsOpenSection, Lasts, Takes, TakesAtMost, open_bytes, taken_bytes}
use Rattle.sig_http.specs.declared.limits.TheConstants.{PIECE_BYTES}
use Rattle.sig_http.specs.declared.section.Begun.{Begun}
use Rattle.sig_http.specs.declared.section.Begun.TheVariants as begins
use Rattle.sig_http.specs.declared.section.Scan.{Scan}
use Rattle.sig_http.specs.declared.section.Section.{Section}
use Rattle.sig_http.specs.declared.section.Section.TheVariants.{Open, Ended, Long}
use Rattle.sig_http.specs.declared.framing.Framing.{Framing}
use Rattle.sig_http.specs.declared.framing.Framing.TheVariants as framings
use Rattle.sig_http.specs.declared.fault.HttpFault.{HttpFault}
use Rattle.sig_http.specs.declared.fault.HttpFault.TheVariants as faults
use Rattle.sig_http.specs.declared.message.Request.{Request}
use Rattle.sig_http.specs.declared.message.Response.{Response}
use Rattle.sig_http.proofs.PieceLemmas.{draws_none, draws_then}
use Rattle.sig_http.proofs.SectionLemmas.{section_ended}
use Rattle.sig_http.proofs.FrameLemmas.{soon_decided}

-- ---- piece by piece

pub drawn_none : (IsOpen : List ℕ → Type 0) (a : List ℕ) (l : Option (List ℕ)) → DrawsWhile IsOpen a a l l
drawn_none IsOpen a l = record { draws = draws_none a l; awaited = inl refl }

-- the piece of a draw is as long as what stands has grown
pub piece_few : (b c : List ℕ) (m n : Option (List ℕ)) → (q : Draws b c m n) → length c ≤ length b + PIECE_BYTES → length q.more ≤ PIECE_BYTES
piece_few b c m n q few = omega (arith, ap length q.stands, length-append b q.more, few)

-- one more piece, where what stands is open
pub drawn_on : (IsOpen : List ℕ → Type 0) (a b c : List ℕ) (l m n : Option (List ℕ)) → DrawsWhile IsOpen a b l m → IsOpen b → Draws b c m n → length c ≤ length b + PIECE_BYTES → DrawsWhile IsOpen a c l n
drawn_on IsOpen a b c l m n p is q few = record {
  draws = draws_then a b c l m n p.draws q;
  awaited = inr (p.draws.more, q.more, refl, piece_few b c m n q few, subst IsOpen p.draws.stands is);
}

pub drawn_takes : (IsOpen : List ℕ → Type 0) (a b : List ℕ) (l m : Option (List ℕ)) → DrawsWhile IsOpen a b l m → Takes IsOpen a l m
drawn_takes IsOpen a b l m p = record { more = p.draws.more; gave = p.draws.gave; awaited = p.awaited }

-- ---- how many bytes leave a message open

-- a section that hasn't ended has as many bytes as came, and one that ended no more than it may have
abbrev Within : ℕ → ℕ → Section → Type 0
Within before n (Open t) = (t.bytes ≡ before + n) × (t.bytes ≤ HEAD_BYTES)
Within before n (Ended m) = m ≤ HEAD_BYTES
Within before n Long = Unit {0}

either : (before n : ℕ) (t : Bool) (a b : Section) → Within before n a → Within before n b → Within before n (if t then a else b)
either before n true a b p q = p
either before n false a b p q = q

line_within : (begun : Begun) (s : Scan) → s.bytes < HEAD_BYTES → Within s.bytes 1 (after_line_of begun s)
line_within begins.Nothing s few = either s.bytes 1 (s.lines == 0) (one_more s 0 begins.Nothing) (Ended (s.bytes + 1)) (refl, omega (arith, few)) (omega (arith, few))
line_within begins.Return s few = either s.bytes 1 (s.lines == 0) (one_more s 0 begins.Nothing) (Ended (s.bytes + 1)) (refl, omega (arith, few)) (omega (arith, few))
line_within begins.Filled s few = either s.bytes 1 (nat_lt HEADER_FIELDS s.lines) Long (one_more s (s.lines + 1) begins.Nothing) tt (refl, omega (arith, few))

byte_within : (s : Scan) (b : ℕ) (full : Bool) → nat_le HEAD_BYTES s.bytes ≡ full
    → Within s.bytes 1 (if full then Long else (if b == line_feed then after_line s else one_more s s.lines (begun_with s.begun b)))
byte_within s b true e = tt
byte_within s b false e =
    let few = leb-false HEAD_BYTES s.bytes e in
    either s.bytes 1 (b == line_feed) (after_line s) (one_more s s.lines (begun_with s.begun b)) (line_within s.begun s few) (refl, omega (arith, few))

one_longer : (before middle n : ℕ) (s : Section) → middle ≡ before + 1 → Within middle n s → Within before (n + 1) s
one_longer before middle n (Open t) e w = (omega (arith, e, w.0), w.1)
one_longer before middle n (Ended m) e w = w
one_longer before middle n Long e w = tt

by_byte : (s : Scan) (next : Section) (bytes : List ℕ) → Within s.bytes 1 next → ((t : Scan) → t.bytes ≤ HEAD_BYTES → Within t.bytes (length bytes) (section_from t bytes))
    → Within s.bytes (length bytes + 1) (elim next [ Open t ↦ section_from t bytes | Ended n ↦ Ended n | Long ↦ Long ])
by_byte s (Open t) bytes w later = one_longer s.bytes t.bytes (length bytes) (section_from t bytes) w.0 (later t w.1)
by_byte s (Ended n) bytes w later = w
by_byte s Long bytes w later = tt

section_within : (s : Scan) (bytes : List ℕ) → s.bytes ≤ HEAD_BYTES → Within s.bytes (length bytes) (section_from s bytes)
section_within s [] few = (omega arith, few)
section_within s (b ∷ bytes) few =
    subst (λ (n : ℕ). Within s.bytes n (section_from s (b ∷ bytes))) (omega arith)
    (by_byte s (after_byte s b) bytes (byte_within s b (nat_le HEAD_BYTES s.bytes) refl) (λ t short. section_within t bytes short))

length_short : (n : ℕ) (bytes : List ℕ) (t : Bool) → nat_le n (length bytes) ≡ t → (if t then Whole (take n bytes) (drop n bytes) else Unfinished) ≡ Unfinished → length bytes < n
length_short n bytes true t e = cc e
length_short n bytes false t e = leb-false n (length bytes) t

body_few : (limit : ℕ) (framing : Framing) (bytes : List ℕ) → IsWithin limit framing → IsOpenBody limit framing bytes → length bytes ≤ limit + frame_bytes limit
body_few limit (framings.Length n) bytes within is =
    let short = length_short n bytes (nat_le n (length bytes)) refl is in
    omega (arith, short, within)
body_few limit framings.Chunks bytes within is = soon_decided limit bytes is
body_few limit framings.End bytes within is = omega (arith, is)

-- ---- a message that is open: its section is, or its body behind a head without fault

pub record OpensBody {M H : Type 0} (Finds : List ℕ → Option H → Type 0) (kind : Kind M H) (bytes : List ℕ) (section : ℕ) : Type 0 where
  pub head : H
  pub found : Finds (take section bytes) (Some head)
  pub whole : kind.fault head ≡ None
  pub within : IsWithin kind.limit (kind.framing head)
  pub still : IsOpenBody kind.limit (kind.framing head) (drop section bytes)

abbrev IsOpenBy : {M H : Type 0} → (List ℕ → Option H → Type 0) → Kind M H → List ℕ → Section → Type 0
IsOpenBy Finds kind bytes (Open scan) = Unit {0}
IsOpenBy Finds kind bytes Long = ⊥
IsOpenBy Finds kind bytes (Ended n) = OpensBody Finds kind bytes n

abbrev pub IsOpenMessage : {M H : Type 0} → (List ℕ → Option H → Type 0) → Kind M H → List ℕ → Type 0
IsOpenMessage Finds kind bytes = IsOpenBy Finds kind bytes (section_from start bytes)

open_by_few : {M H : Type 0} (Finds : List ℕ → Option H → Type 0) (kind : Kind M H) (bytes : List ℕ) (s : Section) → Within 0 (length bytes) s → IsOpenBy Finds kind bytes s → length bytes ≤ open_bytes kind.limit
open_by_few Finds kind bytes (Open scan) w is = omega (arith, w.0, w.1)
open_by_few Finds kind bytes Long w is = absurd is
open_by_few Finds kind bytes (Ended n) w is =
    let few = body_few kind.limit (kind.framing is.head) (drop n bytes) is.within is.still in
    omega (arith, few, w, length-drop n bytes)

pub open_few : {M H : Type 0} (Finds : List ℕ → Option H → Type 0) (kind : Kind M H) (bytes : List ℕ) → IsOpenMessage Finds kind bytes → length bytes ≤ open_bytes kind.limit
open_few Finds kind bytes is = open_by_few Finds kind bytes (section_from start bytes) (section_within start bytes (omega arith)) is

-- a request has no body to the end of the source
by_coding : (t : Bool) (n limit : ℕ) (bytes : List ℕ) → IsOpenBody limit (if t then framings.Chunks else framings.Length n) bytes → body_of limit (if t then framings.Chunks else framings.Length n) bytes ≡ Unfinished
by_coding true n limit bytes is = is
by_coding false n limit bytes is = is

after_whole : {M : Type 0} (fault : Option HttpFault) (limit : ℕ) (framing : Framing) (message : List ℕ → M) (bytes : List ℕ) → fault ≡ None → body_of limit framing bytes ≡ Unfinished
    → Unfinished ≡ after_head fault limit framing message bytes
after_whole fault limit framing message bytes whole e = sym (ap (λ f. after_head f limit framing message bytes) whole ∙ ap (as_body message) e)

open_request_by : (bytes : List ℕ) (s : Section) → IsOpenBy FindsRequest requests bytes s → DecidesBy FindsRequest requests bytes Unfinished s
open_request_by bytes (Open scan) is = refl
open_request_by bytes Long is = absurd is
open_request_by bytes (Ended n) is =
    let fields = request_fields is.head in (
      Some is.head,
      is.found,
      after_whole (requests.fault is.head) requests.limit (requests.framing is.head) (requests.message is.head) (drop n bytes) is.whole
          (by_coding (nat_lt 0 (count_named (codes "transfer-encoding") fields)) (length_in fields) requests.limit (drop n bytes) is.still),
    )

pub open_request : (bytes : List ℕ) → IsOpenMessage FindsRequest requests bytes → IsOpenRequest bytes
open_request bytes is = open_request_by bytes (section_from start bytes) is

-- a response may have one
by_framing : (bytes : List ℕ) (n : ℕ) (head : ResponseHead) (framing : Framing) → section_from start bytes ≡ Ended n → FindsResponse (take n bytes) (Some head) → responses.fault head ≡ None
    → responses.framing head ≡ framing → IsOpenBody responses.limit framing (drop n bytes) → DecidesBy FindsResponse responses bytes Unfinished (Ended n) ⊎ Lasts bytes
by_framing bytes n head (framings.Length m) ended found whole same is =
    inl (Some head, found, after_whole (responses.fault head) responses.limit (responses.framing head) (responses.message head) (drop n bytes) whole (ap (λ f. body_of responses.limit f (drop n bytes)) same ∙ is))
by_framing bytes n head framings.Chunks ended found whole same is =
    inl (Some head, found, after_whole (responses.fault head) responses.limit (responses.framing head) (responses.message head) (drop n bytes) whole (ap (λ f. body_of responses.limit f (drop n bytes)) same ∙ is))
by_framing bytes n head framings.End ended found whole same is =
    inr (record { section = n; head = head; ended = ended; found = found; whole = whole; lasts = same; few = is })

open_response_by : (bytes : List ℕ) (s : Section) → section_from start bytes ≡ s → IsOpenBy FindsResponse responses bytes s → DecidesBy FindsResponse responses bytes Unfinished s ⊎ Lasts bytes
open_response_by bytes (Open scan) e is = inl refl
open_response_by bytes Long e is = absurd is
open_response_by bytes (Ended n) e is = by_framing bytes n is.head (responses.framing is.head) e is.found is.whole refl is.still

pub open_response : (bytes : List ℕ) → IsOpenMessage FindsResponse responses bytes → IsOpenResponse bytes
open_response bytes is = open_response_by bytes (section_from start bytes) refl is

-- a head without fault says a length within the limit
framing_fits : (limit : ℕ) (framing : Framing) → fits limit framing ≡ true → IsWithin limit framing
framing_fits limit (framings.Length n) e = leb-true n limit e
framing_fits limit framings.Chunks e = tt
framing_fits limit framings.End e = tt

two_pass : (framed within : Bool) → first_failing (check faults.Length framed ∷ check faults.BodyLong within ∷ []) ≡ None → within ≡ true
two_pass true true e = refl
two_pass true false e = cc e
two_pass false within e = cc e

six_pass : (whole hosted plain coded framed within : Bool)
    → first_failing (check faults.Head whole ∷ check faults.Host hosted ∷ check faults.Expect plain ∷ check faults.Coding coded ∷ check faults.Length framed ∷ check faults.BodyLong within ∷ []) ≡ None → within ≡ true
six_pass false hosted plain coded framed within e = cc e
six_pass true false plain coded framed within e = cc e
six_pass true true false coded framed within e = cc e
six_pass true true true false framed within e = cc e
six_pass true true true true framed within e = two_pass framed within e

pub request_within : (head : RequestHead) (framing : Framing) → requests.fault head ≡ None → framing ≡ requests.framing head → IsWithin REQUEST_BODY_BYTES framing
request_within head framing whole same =
    let fields = request_fields head in
    subst (λ (f : Framing). IsWithin REQUEST_BODY_BYTES f) (sym same) (framing_fits REQUEST_BODY_BYTES (request_framing fields)
    (six_pass (not (has_fragment head.target)) (is_hosted head.minor fields) (not (nat_lt 0 head.minor && nat_lt 0 (count_named (codes "expect") fields))) (all_say (codes "content-encoding") (codes "identity") fields) (is_framed fields) (fits REQUEST_BODY_BYTES (request_framing fields)) whole))

pub response_within : (head : ResponseHead) (framing : Framing) → responses.fault head ≡ None → framing ≡ responses.framing head → IsWithin RESPONSE_BODY_BYTES framing
response_within head framing whole same =
    let fields = response_fields head in
    subst (λ (f : Framing). IsWithin RESPONSE_BODY_BYTES f) (sym same) (framing_fits RESPONSE_BODY_BYTES (response_framing (status_code head) fields)
    (two_pass (is_framed fields) (fits RESPONSE_BODY_BYTES (response_framing (status_code head) fields)) whole))

-- ---- a call

awaited_more : (IsOpen IsOpen' : List ℕ → Type 0) (old more : List ℕ) → ((bytes : List ℕ) → IsOpen bytes → IsOpen' bytes) → IsAwaited IsOpen old more → IsAwaited IsOpen' old more
awaited_more IsOpen IsOpen' old more f (inl none) = inl none
awaited_more IsOpen IsOpen' old more f (inr h) = inr (h.0, h.1, h.2, h.3, f (old ++ h.0) h.4)

pub takes_more : (IsOpen IsOpen' : List ℕ → Type 0) (old : List ℕ) (l m : Option (List ℕ)) → ((bytes : List ℕ) → IsOpen bytes → IsOpen' bytes) → Takes IsOpen old l m → Takes IsOpen' old l m
takes_more IsOpen IsOpen' old l m f p = record { more = p.more; gave = p.gave; awaited = awaited_more IsOpen IsOpen' old p.more f p.awaited }

awaited_few : (IsOpen : List ℕ → Type 0) (old more : List ℕ) (most : ℕ) → ((bytes : List ℕ) → IsOpen bytes → length bytes ≤ most) → IsAwaited IsOpen old more → length more ≤ most + PIECE_BYTES
awaited_few IsOpen old more most f (inl none) = omega (arith, ap length none)
awaited_few IsOpen old more most f (inr h) = omega (arith, ap length h.2, length-append h.0 h.1, h.3, f (old ++ h.0) h.4, length-append old h.0)

pub takes_few : (IsOpen : List ℕ → Type 0) (old : List ℕ) (l m : Option (List ℕ)) (most : ℕ) → ((bytes : List ℕ) → IsOpen bytes → length bytes ≤ most) → Takes IsOpen old l m → TakesAtMost (most + PIECE_BYTES) l m
takes_few IsOpen old l m most f p = record { more = p.more; gave = p.gave; few = awaited_few IsOpen old p.more most f p.awaited }

-- a call that took a section, or a part of one
section_open : {M H : Type 0} (Finds : List ℕ → Option H → Type 0) (kind : Kind M H) (bytes : List ℕ) → IsOpenSection bytes → IsOpenMessage Finds kind bytes
section_open Finds kind bytes is = subst (λ (s : Section). IsOpenBy Finds kind bytes s) (sym is.1) tt

pub section_takes : {M H : Type 0} (Finds : List ℕ → Option H → Type 0) (kind : Kind M H) (kept held : List ℕ) (l m : Option (List ℕ)) → DrawsWhile IsOpenSection kept held l m → Takes (IsOpenMessage Finds kind) kept l m
section_takes Finds kind kept held l m p = takes_more IsOpenSection (IsOpenMessage Finds kind) kept l m (section_open Finds kind) (drawn_takes IsOpenSection kept held l m p)

-- and one that took a body behind it
body_open : {M H : Type 0} (Finds : List ℕ → Option H → Type 0) (kind : Kind M H) (held after : List ℕ) (n : ℕ) (message : M) (framing : Framing)
    → section_from start held ≡ Ended n → n ≤ length held → Opens Finds kind (take n held) message framing → IsWithin kind.limit framing → IsOpenBody kind.limit framing (drop n held ++ after)
    → IsOpenMessage Finds kind (held ++ after)
body_open Finds kind held after n message framing ended short opens within is =
    subst (λ (s : Section). IsOpenBy Finds kind (held ++ after) s) (sym (section_ended start held after n ended)) (record {
      head = opens.head;
      found = subst (λ (x : List ℕ). Finds x (Some opens.head)) (sym (take-append-le n held after short)) opens.found;
      whole = opens.whole;
      within = subst (λ (f : Framing). IsWithin kind.limit f) opens.framing_is within;
      still = subst (λ (f : Framing). IsOpenBody kind.limit f (drop n (held ++ after))) opens.framing_is
          (subst (λ (x : List ℕ). IsOpenBody kind.limit framing x) (sym (drop-append-le n held after short)) is);
    })

awaited_then : {M H : Type 0} (Finds : List ℕ → Option H → Type 0) (kind : Kind M H) (kept held first more : List ℕ) (n : ℕ) (message : M) (framing : Framing) → held ≡ kept ++ first
    → section_from start held ≡ Ended n → n ≤ length held → Opens Finds kind (take n held) message framing → IsWithin kind.limit framing
    → IsAwaited (IsOpenMessage Finds kind) kept first → IsAwaited (IsOpenBody kind.limit framing) (drop n held) more → IsAwaited (IsOpenMessage Finds kind) kept (first ++ more)
awaited_then Finds kind kept held first more n message framing is ended short opens within p (inl none) =
    subst (λ (x : List ℕ). IsAwaited (IsOpenMessage Finds kind) kept x) (sym (ap (λ x. first ++ x) none ∙ append-nil first)) p
awaited_then Finds kind kept held first more n message framing is ended short opens within p (inr h) =
    inr (
      first ++ h.0,
      h.1,
      ap (λ x. first ++ x) h.2 ∙ sym (append_assoc first h.0 h.1),
      h.3,
      subst (IsOpenMessage Finds kind) (ap (λ x. x ++ h.0) is ∙ append_assoc kept first h.0) (body_open Finds kind held h.0 n message framing ended short opens within h.4),
    )

pub body_takes : {M H : Type 0} (Finds : List ℕ → Option H → Type 0) (kind : Kind M H) (kept held : List ℕ) (n : ℕ) (message : M) (framing : Framing) (l m k : Option (List ℕ))
    → DrawsWhile IsOpenSection kept held l m → section_from start held ≡ Ended n → n ≤ length held → Opens Finds kind (take n held) message framing → IsWithin kind.limit framing
    → Takes (IsOpenBody kind.limit framing) (drop n held) m k → Takes (IsOpenMessage Finds kind) kept l k
body_takes Finds kind kept held n message framing l m k p ended short opens within q = record {
  more = p.draws.more ++ q.more;
  gave = Consumes-trans l m k p.draws.more q.more p.draws.gave q.gave;
  awaited = awaited_then Finds kind kept held p.draws.more q.more n message framing p.draws.stands ended short opens within
      (awaited_more IsOpenSection (IsOpenMessage Finds kind) kept p.draws.more (section_open Finds kind) p.awaited) q.awaited;
}

-- ---- the two readers

pub takes_none : (IsOpen : List ℕ → Type 0) (old : List ℕ) (l : Option (List ℕ)) → Takes IsOpen old l l
takes_none IsOpen old l = record { more = []; gave = Consumes-nil l; awaited = inl refl }

pub record Took (IsOpen : List ℕ → Type 0) (limit : ℕ) (kept : List ℕ) (left left' : Option (List ℕ)) : Type 0 where
  pub awaits : Takes IsOpen kept left left'
  pub most : TakesAtMost (taken_bytes limit) left left'

request_took : (kept : List ℕ) (l k : Option (List ℕ)) → Takes (IsOpenMessage FindsRequest requests) kept l k → Took IsOpenRequest REQUEST_BODY_BYTES kept l k
request_took kept l k p = record {
  awaits = takes_more (IsOpenMessage FindsRequest requests) IsOpenRequest kept l k open_request p;
  most = takes_few (IsOpenMessage FindsRequest requests) kept l k (open_bytes requests.limit) (open_few FindsRequest requests) p;
}

response_took : (kept : List ℕ) (l k : Option (List ℕ)) → Takes (IsOpenMessage FindsResponse responses) kept l k → Took IsOpenResponse RESPONSE_BODY_BYTES kept l k
response_took kept l k p = record {
  awaits = takes_more (IsOpenMessage FindsResponse responses) IsOpenResponse kept l k open_response p;
  most = takes_few (IsOpenMessage FindsResponse responses) kept l k (open_bytes responses.limit) (open_few FindsResponse responses) p;
}

-- nothing was taken, or a section
pub request_none : (kept : List ℕ) (l : Option (List ℕ)) → Took IsOpenRequest REQUEST_BODY_BYTES kept l l
request_none kept l = request_took kept l l (takes_none (IsOpenMessage FindsRequest requests) kept l)

pub response_none : (kept : List ℕ) (l : Option (List ℕ)) → Took IsOpenResponse RESPONSE_BODY_BYTES kept l l
response_none kept l = response_took kept l l (takes_none (IsOpenMessage FindsResponse responses) kept l)

drawn_from : (old kept held : List ℕ) (l m : Option (List ℕ)) → old ≡ kept → DrawsWhile IsOpenSection old held l m → DrawsWhile IsOpenSection kept held l m
drawn_from old kept held l m same p = subst (λ (x : List ℕ). DrawsWhile IsOpenSection x held l m) same p

pub request_section : (old kept held : List ℕ) (l m : Option (List ℕ)) → old ≡ kept → DrawsWhile IsOpenSection old held l m → Took IsOpenRequest REQUEST_BODY_BYTES kept l m
request_section old kept held l m same p = request_took kept l m (section_takes FindsRequest requests kept held l m (drawn_from old kept held l m same p))

pub response_section : (old kept held : List ℕ) (l m : Option (List ℕ)) → old ≡ kept → DrawsWhile IsOpenSection old held l m → Took IsOpenResponse RESPONSE_BODY_BYTES kept l m
response_section old kept held l m same p = response_took kept l m (section_takes FindsResponse responses kept held l m (drawn_from old kept held l m same p))

-- a section and what of its body was there
pub request_body : (old kept held section rest : List ℕ) (n : ℕ) (request : Request) (framing : Framing) (l m k : Option (List ℕ)) → old ≡ kept → DrawsWhile IsOpenSection old held l m
    → section_from start held ≡ Ended n → n ≤ length held → section ≡ take n held → rest ≡ drop n held → Opens FindsRequest requests section request framing
    → Takes (IsOpenBody REQUEST_BODY_BYTES framing) rest m k → Took IsOpenRequest REQUEST_BODY_BYTES kept l k
request_body old kept held section rest n request framing l m k same p ended short is is' opens q =
    request_took kept l k (body_takes FindsRequest requests kept held n request framing l m k (drawn_from old kept held l m same p) ended short
    (subst (λ (x : List ℕ). Opens FindsRequest requests x request framing) is opens) (request_within opens.head framing opens.whole opens.framing_is)
    (subst (λ (x : List ℕ). Takes (IsOpenBody REQUEST_BODY_BYTES framing) x m k) is' q))

pub response_body : (old kept held section rest : List ℕ) (n : ℕ) (response : Response) (framing : Framing) (l m k : Option (List ℕ)) → old ≡ kept → DrawsWhile IsOpenSection old held l m
    → section_from start held ≡ Ended n → n ≤ length held → section ≡ take n held → rest ≡ drop n held → Opens FindsResponse responses section response framing
    → Takes (IsOpenBody RESPONSE_BODY_BYTES framing) rest m k → Took IsOpenResponse RESPONSE_BODY_BYTES kept l k
response_body old kept held section rest n response framing l m k same p ended short is is' opens q =
    response_took kept l k (body_takes FindsResponse responses kept held n response framing l m k (drawn_from old kept held l m same p) ended short
    (subst (λ (x : List ℕ). Opens FindsResponse responses x response framing) is opens) (response_within opens.head framing opens.whole opens.framing_is)
    (subst (λ (x : List ℕ). Takes (IsOpenBody RESPONSE_BODY_BYTES framing) x m k) is' q))
