-- Payloads that are put under their tokens' identifiers from the last to the first, and the tokens that are signed of them.
use Rattle.std.proofs.Common.{◌≡◌, ℕ, List, [], ◌∷◌, ◌++◌, Ordering, Less, Equal, Greater, nat_cmp, refl, sym, ap, ◌∙◌}
use Rattle.std.specs.BTreeMap.{insert_entry}
use Rattle.std.specs.Cmp.Lexicographic.{slice_cmp}
use Rattle.std.specs.Ordering.{match_ordering}
use Rattle.std.proofs.lemmas.Map.Lookups.{exact_bytes}
use Rattle.sig_jws.specs.Compact.{signed}
use Rattle.sig_jws.specs.declared.key.Key.{Key}
use Rattle.sig_set.specs.Written.{header_text_of, payload_text_of, token_text}
use Rattle.sig_terms.specs.declared.token.Token.{Token}
use Rattle.sig_delivery.specs.Entries.{payload_entries, signed_entries}
use Rattle.sig_delivery.specs.Named.{placed}
use Rattle.sig_delivery.specs.Sets.{jti_of, listed, listed_as}

-- the payloads put one after another, that of the first token last
abbrev pub put_payloads : List Token → List (List ℕ × List ℕ) → List (List ℕ × List ℕ)
put_payloads [] es = es
put_payloads (t ∷ ts) es = insert_entry (slice_cmp nat_cmp) (put_payloads ts es) t.claims.jti (payload_text_of t.claims)

-- all are put where nothing was
pub put_nothing : (ts : List Token) → payload_entries ts ≡ put_payloads ts []
put_nothing [] = refl
put_nothing (t ∷ ts) = ap (λ es. insert_entry (slice_cmp nat_cmp) es t.claims.jti (payload_text_of t.claims)) (put_nothing ts)

-- the last is put first
pub put_before : (ts : List Token) (t : Token) (es : List (List ℕ × List ℕ)) → put_payloads (ts ++ t ∷ []) es ≡ put_payloads ts (insert_entry (slice_cmp nat_cmp) es t.claims.jti (payload_text_of t.claims))
put_before [] t es = refl
put_before (s ∷ ts) t es = ap (λ x. insert_entry (slice_cmp nat_cmp) x s.claims.jti (payload_text_of s.claims)) (put_before ts t es)

entry_at : (header key jti payload : List ℕ) (o : Ordering) (e : List ℕ × List ℕ) (es : List (List ℕ × List ℕ)) → slice_cmp nat_cmp jti e.0 ≡ o
    → signed_entries header key (insert_entry (slice_cmp nat_cmp) es jti payload) ≡ placed jti_of (listed_as jti (signed header payload key)) (signed_entries header key es)
    → signed_entries header key (match_ordering o ((jti, payload) ∷ e ∷ es) ((e.0, payload) ∷ es) (e ∷ insert_entry (slice_cmp nat_cmp) es jti payload))
    ≡ match_ordering o (listed_as jti (signed header payload key) ∷ signed_entries header key (e ∷ es)) (listed_as jti (signed header payload key) ∷ signed_entries header key es) (listed_as e.0 (signed header e.1 key) ∷ placed jti_of (listed_as jti (signed header payload key)) (signed_entries header key es))
entry_at header key jti payload Less e es is later = refl
entry_at header key jti payload Equal e es is later = ap (λ n. listed_as n (signed header payload key) ∷ signed_entries header key es) (sym (exact_bytes jti e.0 is))
entry_at header key jti payload Greater e es is later = ap (λ ls. listed_as e.0 (signed header e.1 key) ∷ ls) later

-- a payload that is put under its identifier is a token that is placed by it
entry_placed : (header key jti payload : List ℕ) (es : List (List ℕ × List ℕ))
    → signed_entries header key (insert_entry (slice_cmp nat_cmp) es jti payload) ≡ placed jti_of (listed_as jti (signed header payload key)) (signed_entries header key es)
entry_placed header key jti payload [] = refl
entry_placed header key jti payload (e ∷ es) = entry_at header key jti payload (slice_cmp nat_cmp jti e.0) e es refl (entry_placed header key jti payload es)

-- the tokens of these payloads are the tokens in byte order of identifiers
pub all_listed : (key : Key) (ts : List Token) → signed_entries (header_text_of key.kid) key.bytes (payload_entries ts) ≡ listed key ts
all_listed key [] = refl
all_listed key (t ∷ ts) =
    entry_placed (header_text_of key.kid) key.bytes t.claims.jti (payload_text_of t.claims) (payload_entries ts)
    ∙ ap (placed jti_of (listed_as t.claims.jti (token_text t.claims key))) (all_listed key ts)
