-- The interim responses that come before the response to a request (RFC 9110, section 15.2).
use Rattle.std.specs.Prelude.{◌≡◌, ℕ, ◌==◌, Bool, true, not, ◌&&◌, List, [], ◌∷◌}
use Rattle.sig_http.specs.Framing.{is_informational}
use Rattle.sig_http.specs.Message.{DecidesResponse, Whole}
use Rattle.sig_http.specs.declared.message.Response.{Response}

-- after a response of this status the link speaks another protocol (section 15.2.2)
abbrev pub is_switching : ℕ → Bool
is_switching status = status == 101

-- after a response of this status the response to the request is still to come
abbrev pub is_interim : ℕ → Bool
is_interim status = is_informational status && not (is_switching status)

-- the bytes lead with these responses, which are interim, and those bytes follow
abbrev pub Leads : List Response → List ℕ → List ℕ → Type 0
Leads [] bytes next = bytes ≡ next
Leads (r ∷ rs) bytes next =
    (is_interim r.status ≡ true) × ((rest : List ℕ) × DecidesResponse bytes (Whole r rest) × Leads rs rest next)
