-- Members that are put one after another: errors under their identifiers from the last to the first, and `maxEvents` last.
use Rattle.std.proofs.Common.{◌≡◌, ℕ, List, [], ◌∷◌, ◌++◌, Option, Some, None, true, Ordering, Less, Equal, Greater, nat_cmp, refl, ap, ◌∙◌}
use Rattle.std.specs.Cmp.Lexicographic.{slice_cmp}
use Rattle.std.specs.Ordering.{match_ordering}
use Rattle.std.proofs.lemmas.Map.Lookups.{exact_bytes}
use Rattle.std.specs.Prelude.{codes}
use Rattle.serde_json.specs.Data.{Data, Members, boolean, no_members, member, put}
use Rattle.sig_terms.specs.declared.call.Reported.{Reported}
use Rattle.sig_delivery.specs.Asks.{error_data, error_members, errors_by_name, jti_of, with_max}
use Rattle.sig_delivery.specs.Entries.{put_max}
use Rattle.sig_delivery.specs.Named.{placed}

-- the errors put one after another, the first of them last
abbrev pub put_errors : List Reported → Members → Members
put_errors [] ms = ms
put_errors (r ∷ rs) ms = put r.jti (error_data r.code) (put_errors rs ms)

placed_at : (o : Ordering) (r s : Reported) (rs : List Reported) → slice_cmp nat_cmp r.jti s.jti ≡ o
    → error_members (placed jti_of r rs) ≡ put r.jti (error_data r.code) (error_members rs)
    → error_members (match_ordering o (r ∷ s ∷ rs) (r ∷ rs) (s ∷ placed jti_of r rs))
    ≡ match_ordering o (member r.jti (error_data r.code) (error_members (s ∷ rs))) (member s.jti (error_data r.code) (error_members rs)) (member s.jti (error_data s.code) (put r.jti (error_data r.code) (error_members rs)))
placed_at Less r s rs is later = refl
placed_at Equal r s rs is later = ap (λ n. member n (error_data r.code) (error_members rs)) (exact_bytes r.jti s.jti is)
placed_at Greater r s rs is later = ap (member s.jti (error_data s.code)) later

-- an error that is placed by its name is put under it
pub placed_put : (r : Reported) (rs : List Reported) → error_members (placed jti_of r rs) ≡ put r.jti (error_data r.code) (error_members rs)
placed_put r [] = refl
placed_put r (s ∷ rs) = placed_at (slice_cmp nat_cmp r.jti s.jti) r s rs refl (placed_put r rs)

-- all are put where nothing was
pub put_none : (rs : List Reported) → error_members (errors_by_name rs) ≡ put_errors rs no_members
put_none [] = refl
put_none (r ∷ rs) = placed_put r (errors_by_name rs) ∙ ap (put r.jti (error_data r.code)) (put_none rs)

-- the last is put first
pub put_before : (rs : List Reported) (r : Reported) (ms : Members) → put_errors (rs ++ r ∷ []) ms ≡ put_errors rs (put r.jti (error_data r.code) ms)
put_before [] r ms = refl
put_before (s ∷ rs) r ms = ap (put s.jti (error_data s.code)) (put_before rs r ms)

-- `maxEvents` is put in its place
pub max_put : (max : Option ℕ) (acks errors : Data)
    → put_max max (member (codes "ack") acks (member (codes "returnImmediately") (boolean true) (member (codes "setErrs") errors no_members)))
    ≡ member (codes "ack") acks (with_max max (member (codes "returnImmediately") (boolean true) (member (codes "setErrs") errors no_members)))
max_put None acks errors = refl
max_put (Some n) acks errors = refl
