-- No fraction stands in what is written of wants.
use Rattle.std.proofs.Common.{◌≡◌, ◌||◌, ℕ, List, [], ◌∷◌, Bool, true, false, Option, Some, None, Ordering, Less, Equal, Greater, nat_cmp, refl, codes}
use Rattle.std.specs.Prelude.{IfSome, option_map}
use Rattle.std.specs.Cmp.Lexicographic.{slice_cmp}
use Rattle.std.specs.Ordering.{match_ordering}
use Rattle.serde_json.specs.Data.{Data, string, Members, no_members, member, put}
use Rattle.serde_json.specs.Written.{has_float, members_have_float}
use Rattle.sig_terms.specs.declared.want.Delivery.{Delivery}
use Rattle.sig_terms.specs.declared.want.Delivery.TheVariants.{Poll, Push}
use Rattle.sig_terms.specs.declared.want.Want.{Want}
use Rattle.sig_stream.specs.Configurations.{put_given, texts_data}
use Rattle.sig_stream.specs.Wants.{push_method}
use Rattle.sig_manager.specs.Asking.{delivery_data, replaced_data, want_data, want_members}

neither : (a b : Bool) → a ≡ false → b ≡ false → a || b ≡ false
neither a b h k = rw (h, k) refl

both : (a b : Bool) → a || b ≡ false → (a ≡ false) × (b ≡ false)
both false b h = (refl, h)
both true b h = cc

-- a member more
put_whole : (k : List ℕ) (d : Data) (ms : Members) → has_float d ≡ false → members_have_float ms ≡ false → members_have_float (put k d ms) ≡ false
put_whole k d no_members one rest = neither (has_float d) false one refl
put_whole k d (member l e ms) one rest = let here = both (has_float e) (members_have_float ms) rest in at (slice_cmp nat_cmp k l) here.0 (put_whole k d ms one here.1) here.1
  where
    at : (o : Ordering) → has_float e ≡ false → members_have_float (put k d ms) ≡ false → members_have_float ms ≡ false
        → members_have_float (match_ordering o (member k d (member l e ms)) (member l d ms) (member l e (put k d ms))) ≡ false
    at Less here more left = neither (has_float d) (has_float e || members_have_float ms) one rest
    at Equal here more left = neither (has_float d) (members_have_float ms) one left
    at Greater here more left = neither (has_float e) (members_have_float (put k d ms)) here more

given_whole : (k : List ℕ) (o : Option Data) (ms : Members) → IfSome o (λ d. has_float d ≡ false) → members_have_float ms ≡ false → members_have_float (put_given k o ms) ≡ false
given_whole k None ms one rest = rest
given_whole k (Some d) ms one rest = put_whole k d ms one rest

text_whole : (o : Option (List ℕ)) → IfSome (option_map (λ t. string t) o) (λ d. has_float d ≡ false)
text_whole None = tt
text_whole (Some t) = refl

texts_whole : (texts : List (List ℕ)) → has_float (texts_data texts) ≡ false
texts_whole [] = refl
texts_whole (text ∷ texts) = texts_whole texts

given_texts_whole : (o : Option (List (List ℕ))) → IfSome (option_map texts_data o) (λ d. has_float d ≡ false)
given_texts_whole None = tt
given_texts_whole (Some texts) = texts_whole texts

delivery_whole : (d : Delivery) → has_float (delivery_data d) ≡ false
delivery_whole Poll = refl
delivery_whole (Push endpoint url authorization) =
    given_whole (codes "authorization_header") (option_map (λ t. string t) authorization)
    (member (codes "endpoint_url") (string url) (member (codes "method") (string push_method) no_members))
    (text_whole authorization) refl

given_delivery_whole : (o : Option Delivery) → IfSome (option_map delivery_data o) (λ d. has_float d ≡ false)
given_delivery_whole None = tt
given_delivery_whole (Some d) = delivery_whole d

pub want_whole : (w : Want) → has_float (want_data w) ≡ false
want_whole w =
    given_whole (codes "events_requested") (option_map texts_data w.requested) _ (given_texts_whole w.requested)
    (given_whole (codes "description") (option_map (λ t. string t) w.description) _ (text_whole w.description)
    (given_whole (codes "delivery") (option_map delivery_data w.delivery) no_members (given_delivery_whole w.delivery) refl))

pub replaced_whole : (stream : List ℕ) (w : Want) → has_float (replaced_data stream w) ≡ false
replaced_whole stream w = put_whole (codes "stream_id") (string stream) (want_members w) refl (want_whole w)
