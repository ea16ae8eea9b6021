-- What a proper call wants is within the limits of a stream, and so is what it makes of one that was.
use Rattle.std.proofs.Common.{◌≡◌, ◌≤◌, ℕ, List, [], ◌∷◌, true, false, ◌&&◌, Option, Some, None, bytes_eq, if◌then◌else◌, refl, arith, subst}
use Rattle.std.specs.Prelude.{nat_le, unwrap_or}
use Rattle.std.specs.Option.{option_or}
use Rattle.std.proofs.lemmas.Bool.{and_from, and_parts, le-leb}
use Rattle.sig_terms.specs.declared.configuration.StreamConf.{StreamConf}
use Rattle.sig_terms.specs.declared.want.Delivery.{Delivery}
use Rattle.sig_terms.specs.declared.want.Delivery.TheVariants as delivery
use Rattle.sig_terms.specs.declared.want.Want.{Want}
use Rattle.sig_history.specs.declared.limits.TheConstants.{SETTING_BYTES, SETTING_ITEMS}
use Rattle.sig_history.specs.Sizes.{delivery_bytes, given_bytes, requested_bytes, requested_items}
use Rattle.sig_history.specs.Sound.{is_small}
use Rattle.sig_history.specs.Streams.{Count, Made, Stream, is_named}
use Rattle.sig_history.specs.Owed.{Sum}
use Rattle.sig_history.specs.Whole.{AreWhole, IsWhole}
use Rattle.sig_calls.specs.declared.limits.TheConstants.{WANT_BYTES, WANT_ITEMS}
use Rattle.sig_calls.specs.Configuring.{patched}
use Rattle.sig_calls.specs.Found.{client_stream}
use Rattle.sig_calls.specs.Proper.{IsProperWant, want_bytes, wanted_bytes}

abbrev pub IsSmallConf : StreamConf → Type 0
IsSmallConf c = is_small c.requested c.delivery c.description ≡ true

-- ---- each part

abbrev IsSmallRequest : Option (List (List ℕ)) → Type 0
IsSmallRequest requested =
    (nat_le (requested_bytes requested) SETTING_BYTES ≡ true) × (nat_le (requested_items requested) SETTING_ITEMS ≡ true)

abbrev IsSmallDelivery : Delivery → Type 0
IsSmallDelivery d = nat_le (delivery_bytes d) SETTING_BYTES ≡ true

abbrev IsSmallText : Option (List ℕ) → Type 0
IsSmallText text = nat_le (given_bytes text) SETTING_BYTES ≡ true

record AreSmall (requested : Option (List (List ℕ))) (d : Delivery) (description : Option (List ℕ)) : Type 0 where
  request : IsSmallRequest requested
  sent : IsSmallDelivery d
  words : IsSmallText description

all_small : (requested : Option (List (List ℕ))) (d : Delivery) (description : Option (List ℕ)) → AreSmall requested d description
    → is_small requested d description ≡ true
all_small requested d description are =
    and_from _ _ (and_from _ _ (and_from _ _ are.request.0 are.request.1) are.sent) are.words

parts_small : (requested : Option (List (List ℕ))) (d : Delivery) (description : Option (List ℕ)) → is_small requested d description ≡ true
    → AreSmall requested d description
parts_small requested d description small =
    let three = and_parts _ _ small in
    let two = and_parts _ _ three.0 in
    let one = and_parts _ _ two.0 in
    record { request = (one.0, one.1); sent = two.1; words = three.1 }

-- ---- what is wanted

few_bytes : (n : ℕ) → n ≤ WANT_BYTES → nat_le n SETTING_BYTES ≡ true
few_bytes n few = le-leb n SETTING_BYTES (omega arith)

few_items : (n : ℕ) → n ≤ WANT_ITEMS → nat_le n SETTING_ITEMS ≡ true
few_items n few = le-leb n SETTING_ITEMS (omega arith)

wanted_request : (want : Want) → IsProperWant want → IsSmallRequest want.requested
wanted_request want proper =
    let all : want_bytes want ≤ WANT_BYTES = proper.bytes in
    (few_bytes (requested_bytes want.requested) (omega arith), few_items (requested_items want.requested) proper.items)

wanted_text : (want : Want) → IsProperWant want → IsSmallText want.description
wanted_text want proper =
    let all : want_bytes want ≤ WANT_BYTES = proper.bytes in
    few_bytes (given_bytes want.description) (omega arith)

wanted_few : (want : Want) → IsProperWant want → wanted_bytes want.delivery ≤ WANT_BYTES
wanted_few want proper = let all : want_bytes want ≤ WANT_BYTES = proper.bytes in omega arith

wanted_delivery : (d : Option Delivery) (old : Delivery) → wanted_bytes d ≤ WANT_BYTES → IsSmallDelivery old → IsSmallDelivery (unwrap_or d old)
wanted_delivery None old few small = small
wanted_delivery (Some d) old few small = few_bytes (delivery_bytes d) few

-- of a stream that is made, or whose configuration is replaced
pub created_small : (want : Want) → IsProperWant want → is_small want.requested (unwrap_or want.delivery delivery.Poll) want.description ≡ true
created_small want proper =
    all_small want.requested (unwrap_or want.delivery delivery.Poll) want.description (record {
      request = wanted_request want proper;
      sent = wanted_delivery want.delivery delivery.Poll (wanted_few want proper) refl;
      words = wanted_text want proper;
    })

-- ---- what is wanted of a stream that stands

request_or : (new old : Option (List (List ℕ))) → IsSmallRequest new → IsSmallRequest old → IsSmallRequest (option_or new old)
request_or None old new_small old_small = old_small
request_or (Some texts) old new_small old_small = new_small

text_or : (new old : Option (List ℕ)) → IsSmallText new → IsSmallText old → IsSmallText (option_or new old)
text_or None old new_small old_small = old_small
text_or (Some text) old new_small old_small = new_small

-- of one whose configuration is changed in part
pub patched_small : (want : Want) (c : StreamConf) → IsProperWant want → IsSmallConf c → IsSmallConf (patched want c)
patched_small want c proper small =
    let old : AreSmall c.requested c.delivery c.description = parts_small c.requested c.delivery c.description small in
    all_small (option_or want.requested c.requested) (unwrap_or want.delivery c.delivery) (option_or want.description c.description) (record {
      request = request_or want.requested c.requested (wanted_request want proper) old.request;
      sent = wanted_delivery want.delivery c.delivery (wanted_few want proper) old.sent;
      words = text_or want.description c.description (wanted_text want proper) old.words;
    })

-- ---- what stands

streams_small : (sid client name : List ℕ) (created : List Count) (ss : List Stream) (os : List (List Made)) (s : Stream) → AreWhole sid created ss os
    → client_stream client name ss ≡ Some s → IsSmallConf s.conf
streams_small sid client name created [] os s whole is = cc is
streams_small sid client name created (t ∷ ts) [] s whole is = absurd whole
streams_small sid client name created (t ∷ ts) (o ∷ os) s whole is =
    elim (bytes_eq t.client client && is_named name t) as (λ b. (if b then Some t else client_stream client name ts) ≡ Some s → IsSmallConf s.conf) [
      | true ↦ λ this. let same : t ≡ s = cc in subst (λ (u : Stream). IsSmallConf u.conf) same whole.0.small
      | false ↦ λ later. streams_small sid client name created ts os s whole.3 later
    ] is

-- what stands of a client's stream is within the limits
pub found_small : (client name : List ℕ) (sum : Sum) (s : Stream) → IsWhole sum → client_stream client name sum.parts.streams ≡ Some s
    → IsSmallConf s.conf
found_small client name sum s whole is =
    streams_small sum.parts.store_id client name sum.parts.created sum.parts.streams sum.owed s whole is
