-- What facts say of streams is read as it is spelled.
use Rattle.std.proofs.Common.{◌≡◌, ◌<◌, ◌^◌, ◌==◌, ap, sym, ◌∙◌, refl, subst, ℕ, List, [], ◌∷◌, ◌++◌, Bool, true, false, cond, Option, Some, None, arith}
use Rattle.std.specs.Prelude.{Result, Ok, Err, ⊤, option_map}
use Rattle.std.proofs.lemmas.Bool.Decides.{nat_tests}
use Rattle.sig_fields.specs.Agreeing.{Agrees, AreBytes, IsProperList, IsProperMaybe, IsProperText}
use Rattle.sig_fields.specs.Kinds as kinds
use Rattle.sig_fields.specs.Reading.{given, next_after, ruled, ◌>>=◌}
use Rattle.sig_fields.proofs.Agreeing.{HasRule, Step, bytes_agree, flags_agree, given_same, joined_spelling, lists_agree, maybes_agree, ruled_agrees, texts_agree, then_reads, then_spells, whole_numbers}
use Rattle.sig_event.specs.declared.status.Status.{Status}
use Rattle.sig_event.specs.declared.status.Status.TheVariants.{Enabled, Paused, Disabled}
use Rattle.sig_terms.specs.declared.endpoint.Endpoint.{Endpoint}
use Rattle.sig_terms.specs.declared.fact.SettledItem.{SettledItem}
use Rattle.sig_terms.specs.declared.want.Defaults.{Defaults}
use Rattle.sig_terms.specs.declared.want.Defaults.TheVariants as defaults
use Rattle.sig_terms.specs.declared.want.Delivery.{Delivery}
use Rattle.sig_terms.specs.declared.want.Delivery.TheVariants.{Poll, Push}
use Rattle.sig_stream.specs.Endpoints.{endpoint_of}
use Rattle.sig_entry.specs.Parts as parts
use Rattle.sig_entry.specs.Proper.{AreProperTexts, IsProperDelivery, IsProperItem, IsProperWords}

-- ---- texts that may be there, and lists of texts

pub words_agree : Agrees IsProperWords (kinds.maybe_bytes kinds.text_bytes) (kinds.maybe kinds.text)
words_agree = maybes_agree IsProperText kinds.text_bytes kinds.text texts_agree

pub lists_of_texts_agree : Agrees AreProperTexts (kinds.list_bytes kinds.text_bytes) (kinds.list kinds.text)
lists_of_texts_agree = lists_agree IsProperText kinds.text_bytes kinds.text texts_agree

pub requests_agree : Agrees (IsProperMaybe AreProperTexts) (kinds.maybe_bytes (kinds.list_bytes kinds.text_bytes)) (kinds.maybe (kinds.list kinds.text))
requests_agree = maybes_agree AreProperTexts (kinds.list_bytes kinds.text_bytes) (kinds.list kinds.text) lists_of_texts_agree

-- ---- statuses and default subjects

status_rule : HasRule (λ (b : ℕ). ⊤) (λ (s : Status). ⊤) parts.status_in parts.status_byte
status_rule = record { sound = sound; complete = complete }
  where
    sound : (y : Status) → ⊤ → ⊤ × (parts.status_in (parts.status_byte y) ≡ Some y)
    sound Enabled _ = (tt, refl)
    sound Paused _ = (tt, refl)
    sound Disabled _ = (tt, refl)

    complete : (x : ℕ) (y : Status) → ⊤ → parts.status_in x ≡ Some y → ⊤ × (x ≡ parts.status_byte y)
    complete x Enabled _ h = (tt, grind (arith, nat_tests))
    complete x Paused _ h = (tt, grind (arith, nat_tests))
    complete x Disabled _ h = (tt, grind (arith, nat_tests))

pub statuses_agree : Agrees (λ (s : Status). ⊤) parts.status_bytes parts.status
statuses_agree = ruled_agrees (λ b. ⊤) (λ s. ⊤) kinds.byte_bytes kinds.byte parts.status_in parts.status_byte bytes_agree status_rule

defaults_rule : HasRule (λ (b : Bool). ⊤) (λ (d : Defaults). ⊤) parts.defaults_by parts.are_all
defaults_rule = record { sound = sound; complete = complete }
  where
    sound : (y : Defaults) → ⊤ → ⊤ × (parts.defaults_by (parts.are_all y) ≡ Some y)
    sound defaults.All _ = (tt, refl)
    sound defaults.None _ = (tt, refl)

    complete : (x : Bool) (y : Defaults) → ⊤ → parts.defaults_by x ≡ Some y → ⊤ × (x ≡ parts.are_all y)
    complete true defaults.All _ h = (tt, refl)
    complete true defaults.None _ h = cc
    complete false defaults.All _ h = cc
    complete false defaults.None _ h = (tt, refl)

pub defaults_agree : Agrees (λ (d : Defaults). ⊤) parts.defaults_bytes parts.default_subjects
defaults_agree = ruled_agrees (λ b. ⊤) (λ d. ⊤) kinds.flag_bytes kinds.flag parts.defaults_by parts.are_all flags_agree defaults_rule

-- ---- deliveries

-- a url with the endpoint that it spells
abbrev IsAddress : Endpoint × List ℕ → Type 0
IsAddress a = IsProperText a.1 × (endpoint_of a.1 ≡ Some a.0)

address_rule : HasRule IsProperText IsAddress parts.address_in (λ (a : Endpoint × List ℕ). a.1)
address_rule = record { sound = sound; complete = complete }
  where
    sound : (a : Endpoint × List ℕ) → IsAddress a → IsProperText a.1 × (parts.address_in a.1 ≡ Some a)
    sound (e, url) proper = (proper.0, ap (λ o. option_map (λ endpoint. (endpoint, url)) o) proper.1)

    complete : (url : List ℕ) (a : Endpoint × List ℕ) → IsProperText url → parts.address_in url ≡ Some a → IsAddress a × (url ≡ a.1)
    complete url (e, text) proper h = at (endpoint_of url) refl h
      where
        at : (o : Option Endpoint) → endpoint_of url ≡ o → ◌≡◌ {A = Option (Endpoint × List ℕ)} (option_map (λ endpoint. (endpoint, url)) o) (Some (e, text))
            → IsAddress (e, text) × (url ≡ text)
        at None is h = cc
        at (Some f) is h =
            let p : ◌≡◌ {A = Endpoint × List ℕ} (f, url) (e, text) = cc in
            let same : url ≡ text = ap (λ (z : Endpoint × List ℕ). z.1) p in
            let one : f ≡ e = ap (λ (z : Endpoint × List ℕ). z.0) p in
            ((subst IsProperText same proper, subst (λ u. endpoint_of u ≡ Some e) same (is ∙ ap Some one)), same)

address_agrees : Agrees IsAddress (λ (a : Endpoint × List ℕ). kinds.text_bytes a.1) (ruled parts.address_in kinds.text)
address_agrees = ruled_agrees IsProperText IsAddress kinds.text_bytes kinds.text parts.address_in (λ a. a.1) texts_agree address_rule

abbrev push_after : Endpoint × List ℕ → List ℕ → Result (Delivery × List ℕ) (List ℕ)
push_after address = kinds.maybe kinds.text >>= (λ authorization. given (Push address.0 address.1 authorization))

pub deliveries_agree : Agrees IsProperDelivery parts.delivery_bytes parts.delivery
deliveries_agree = record { reads = reads; spells = spells }
  where
    reads : (d : Delivery) (rest : List ℕ) → IsProperDelivery d → parts.delivery (parts.delivery_bytes d ++ rest) ≡ Ok (d, rest)
    reads Poll rest proper = refl
    reads (Push endpoint url authorization) rest proper =
        then_reads IsAddress (λ (a : Endpoint × List ℕ). kinds.text_bytes a.1) (ruled parts.address_in kinds.text) address_agrees (endpoint, url) (proper.0, proper.1) push_after
        (kinds.maybe_bytes kinds.text_bytes authorization) rest
        ∙ ap (λ r. next_after r (λ a. given (Push endpoint url a))) (words_agree.reads authorization rest proper.2)

    pushed : (bytes mid : List ℕ) (d : Delivery) (rest : List ℕ) → AreBytes mid → bytes ≡ kinds.flag_bytes true ++ mid → parts.push mid ≡ Ok (d, rest) → IsProperDelivery d × (bytes ≡ parts.delivery_bytes d ++ rest)
    pushed bytes mid d rest are spelt h =
        let a = then_spells IsAddress (λ (a : Endpoint × List ℕ). kinds.text_bytes a.1) (ruled parts.address_in kinds.text) address_agrees push_after mid d rest are h in
        let b = then_spells IsProperWords (kinds.maybe_bytes kinds.text_bytes) (kinds.maybe kinds.text) words_agree (λ authorization. given (Push a.value.0 a.value.1 authorization)) a.mid d rest a.are a.then in
        let s = given_same (Push a.value.0 a.value.1 b.value) d b.mid rest b.then in
        let tail = joined_spelling mid (kinds.text_bytes a.value.1) a.mid (kinds.maybe_bytes kinds.text_bytes b.value) b.mid a.spelt b.spelt in
        let all = joined_spelling bytes (kinds.flag_bytes true) mid (kinds.text_bytes a.value.1 ++ kinds.maybe_bytes kinds.text_bytes b.value) b.mid spelt tail in
        (subst IsProperDelivery s.0 (a.proper.0, a.proper.1, b.proper), all ∙ (λ i. parts.delivery_bytes (s.0 i) ++ s.1 i))

    by_flag : (bytes : List ℕ) (d : Delivery) (rest : List ℕ) (is_push : Bool) (mid : List ℕ) → AreBytes mid → bytes ≡ kinds.flag_bytes is_push ++ mid → parts.delivery_by is_push mid ≡ Ok (d, rest)
        → IsProperDelivery d × (bytes ≡ parts.delivery_bytes d ++ rest)
    by_flag bytes d rest false mid are spelt h =
        let s = given_same Poll d mid rest h in
        (subst IsProperDelivery s.0 tt, spelt ∙ (λ i. parts.delivery_bytes (s.0 i) ++ s.1 i))
    by_flag bytes d rest true mid are spelt h = pushed bytes mid d rest are spelt h

    spells : (bytes : List ℕ) (d : Delivery) (rest : List ℕ) → AreBytes bytes → parts.delivery bytes ≡ Ok (d, rest) → IsProperDelivery d × (bytes ≡ parts.delivery_bytes d ++ rest)
    spells bytes d rest are h =
        let s = then_spells (λ b. ⊤) kinds.flag_bytes kinds.flag flags_agree parts.delivery_by bytes d rest are h in
        by_flag bytes d rest s.value s.mid s.are s.spelt s.then

-- ---- settled tokens

pub settled_agree : Agrees IsProperItem parts.settled_bytes parts.settled
settled_agree = record { reads = reads; spells = spells }
  where
    reads : (i : SettledItem) (rest : List ℕ) → IsProperItem i → parts.settled (parts.settled_bytes i ++ rest) ≡ Ok (i, rest)
    reads i rest proper =
        then_reads (λ n. n < 2 ^ 64) kinds.number_bytes kinds.number whole_numbers i.number proper.0
        (λ number. kinds.maybe kinds.text >>= (λ code. given (record { number = number; code = code }))) (kinds.maybe_bytes kinds.text_bytes i.code) rest
        ∙ ap (λ r. next_after r (λ code. given (record { number = i.number; code = code }))) (words_agree.reads i.code rest proper.1)

    spells : (bytes : List ℕ) (i : SettledItem) (rest : List ℕ) → AreBytes bytes → parts.settled bytes ≡ Ok (i, rest) → IsProperItem i × (bytes ≡ parts.settled_bytes i ++ rest)
    spells bytes i rest are h =
        let a = then_spells (λ n. n < 2 ^ 64) kinds.number_bytes kinds.number whole_numbers
        (λ number. kinds.maybe kinds.text >>= (λ code. given (record { number = number; code = code }))) bytes i rest are h in
        let b = then_spells IsProperWords (kinds.maybe_bytes kinds.text_bytes) (kinds.maybe kinds.text) words_agree
        (λ code. given (record { number = a.value; code = code })) a.mid i rest a.are a.then in
        let item : SettledItem = record { number = a.value; code = b.value } in
        let s = given_same item i b.mid rest b.then in (
          subst IsProperItem s.0 (a.proper, b.proper),
          joined_spelling bytes (kinds.number_bytes a.value) a.mid (kinds.maybe_bytes kinds.text_bytes b.value) b.mid a.spelt b.spelt ∙ (λ j. parts.settled_bytes (s.0 j) ++ s.1 j),
        )
