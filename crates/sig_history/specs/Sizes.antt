-- How large what a receiver sets of a stream is (OpenID Shared Signals Framework 1.0, section 8.1.1).
use Rattle.std.specs.Prelude.{ℕ, ◌+◌, List, Option, Some, None, length, sum_by}
use Rattle.sig_terms.specs.declared.want.Delivery.{Delivery}
use Rattle.sig_terms.specs.declared.want.Delivery.TheVariants.{Poll, Push}

-- the bytes of texts together
abbrev pub bytes_of : List (List ℕ) → ℕ
bytes_of texts = sum_by length texts

-- the bytes of a text, where it is given
abbrev pub given_bytes : Option (List ℕ) → ℕ
given_bytes None = 0
given_bytes (Some text) = length text

-- the bytes and the number of the requested texts
abbrev pub requested_bytes : Option (List (List ℕ)) → ℕ
requested_bytes None = 0
requested_bytes (Some texts) = bytes_of texts

abbrev pub requested_items : Option (List (List ℕ)) → ℕ
requested_items None = 0
requested_items (Some texts) = length texts

-- the bytes of the url and the authorization together
abbrev pub delivery_bytes : Delivery → ℕ
delivery_bytes Poll = 0
delivery_bytes (Push endpoint url authorization) = length url + given_bytes authorization
