-- Configurations are read as they are spelled.
use Rattle.std.proofs.Common.{◌≡◌, ◌≤◌, ap, sym, ◌∙◌, refl, subst, ℕ, List, ◌++◌, Option, arith}
use Rattle.std.specs.Prelude.{Result, Ok, ⊤}
use Rattle.sig_json.specs.declared.limits.TheConstants.{INTERVAL_SECONDS}
use Rattle.sig_fields.specs.Agreeing.{Agrees, AreBytes, IsProperMaybe, IsProperText}
use Rattle.sig_fields.specs.Kinds as kinds
use Rattle.sig_fields.specs.Reading.{given, ◌>>=◌}
use Rattle.sig_fields.proofs.Agreeing.{given_same, numbers_agree, texts_agree, then_spells}
use Rattle.sig_terms.specs.declared.configuration.StreamConf.{StreamConf}
use Rattle.sig_terms.specs.declared.want.Defaults.{Defaults}
use Rattle.sig_terms.specs.declared.want.Delivery.{Delivery}
use Rattle.sig_entry.specs.Parts as parts
use Rattle.sig_entry.specs.Proper.{AreProperTexts, IsProperConf, IsProperDelivery, IsProperWords}
use Rattle.sig_entry.proofs.Steps.{of_8, read_first, read_last, spelled_4, spelled_after}
use Rattle.sig_entry.proofs.StreamLemmas.{defaults_agree, deliveries_agree, lists_of_texts_agree, requests_agree, words_agree}

intervals_agree : Agrees (λ n. n ≤ INTERVAL_SECONDS) kinds.number_bytes (kinds.number_up_to INTERVAL_SECONDS)
intervals_agree = numbers_agree INTERVAL_SECONDS (omega arith)

-- the configuration with this interval, these default subjects and this description
abbrev late_of : StreamConf → ℕ → Defaults → Option (List ℕ) → StreamConf
late_of c interval subjects description = record {
  stream = c.stream;
  iss = c.iss;
  aud = c.aud;
  requested = c.requested;
  delivery = c.delivery;
  interval = interval;
  defaults = subjects;
  description = description;
}

conf_reads : (c : StreamConf) (rest : List ℕ) → IsProperConf c → parts.configuration (parts.conf_bytes c ++ rest) ≡ Ok (c, rest)
conf_reads c rest proper =
    let parted = of_8 (kinds.text_bytes c.stream) (kinds.text_bytes c.iss) (kinds.list_bytes kinds.text_bytes c.aud) (kinds.maybe_bytes (kinds.list_bytes kinds.text_bytes) c.requested) (parts.delivery_bytes c.delivery) (kinds.number_bytes c.interval) (parts.defaults_bytes c.defaults) (kinds.maybe_bytes kinds.text_bytes c.description) in
    subst (λ (l : List ℕ). parts.configuration (l ++ rest) ≡ Ok (c, rest)) (sym parted)
    (read_first _ _ _ texts_agree c.stream proper.stream _ _ rest _
    (read_first _ _ _ texts_agree c.iss proper.iss _ _ rest _
    (read_first _ _ _ lists_of_texts_agree c.aud proper.aud _ _ rest _
    (read_first _ _ _ requests_agree c.requested proper.requested _ _ rest _
    (read_first _ _ _ deliveries_agree c.delivery proper.delivery _ _ rest _
    (read_first _ _ _ intervals_agree c.interval proper.interval (λ x. parts.default_subjects >>= (λ y. kinds.maybe kinds.text >>= (λ z. given (late_of c x y z)))) (parts.defaults_bytes c.defaults ++ kinds.maybe_bytes kinds.text_bytes c.description) rest _
    (read_first _ _ _ defaults_agree c.defaults tt (λ x. kinds.maybe kinds.text >>= (λ d. given (late_of c c.interval x d))) (kinds.maybe_bytes kinds.text_bytes c.description) rest _
    (read_last _ _ _ words_agree c.description proper.description (λ d. given (late_of c c.interval c.defaults d)) rest _ refl))))))))

-- the configuration of its parts
abbrev conf_of : List ℕ → List ℕ → List (List ℕ) → Option (List (List ℕ)) → Delivery → ℕ → Defaults → Option (List ℕ) → StreamConf
conf_of stream iss aud requested way interval subjects description = record {
  stream = stream;
  iss = iss;
  aud = aud;
  requested = requested;
  delivery = way;
  interval = interval;
  defaults = subjects;
  description = description;
}

-- what is read after the events that are requested
abbrev late : List ℕ → List ℕ → List (List ℕ) → Option (List (List ℕ)) → List ℕ → Result (StreamConf × List ℕ) (List ℕ)
late stream iss aud requested = do
  way ← parts.delivery
  interval ← kinds.number_up_to INTERVAL_SECONDS
  subjects ← parts.default_subjects
  description ← kinds.maybe kinds.text
  given (conf_of stream iss aud requested way interval subjects description)

record Late (stream iss : List ℕ) (aud : List (List ℕ)) (requested : Option (List (List ℕ))) (bytes : List ℕ) (c : StreamConf) (rest : List ℕ) : Type 0 where
  way : Delivery
  number : ℕ
  subjects : Defaults
  description : Option (List ℕ)
  is : conf_of stream iss aud requested way number subjects description ≡ c
  proper_way : IsProperDelivery way
  proper_number : number ≤ INTERVAL_SECONDS
  proper_description : IsProperWords description
  spelt : bytes ≡ (((parts.delivery_bytes way ++ kinds.number_bytes number) ++ parts.defaults_bytes subjects) ++ kinds.maybe_bytes kinds.text_bytes description) ++ rest

late_spells : (stream iss : List ℕ) (aud : List (List ℕ)) (requested : Option (List (List ℕ))) (bytes : List ℕ) (c : StreamConf) (rest : List ℕ) → AreBytes bytes
    → late stream iss aud requested bytes ≡ Ok (c, rest) → Late stream iss aud requested bytes c rest
late_spells stream iss aud requested bytes c rest are h =
    let a = then_spells _ _ _ deliveries_agree _ bytes c rest are h in
    let b = then_spells _ _ _ intervals_agree _ a.mid c rest a.are a.then in
    let d = then_spells _ _ _ defaults_agree _ b.mid c rest b.are b.then in
    let e = then_spells _ _ _ words_agree _ d.mid c rest d.are d.then in
    let s = given_same (conf_of stream iss aud requested a.value b.value d.value e.value) c e.mid rest e.then in
    record {
      way = a.value;
      number = b.value;
      subjects = d.value;
      description = e.value;
      is = s.0;
      proper_way = a.proper;
      proper_number = b.proper;
      proper_description = e.proper;
      spelt =
          spelled_4 bytes (parts.delivery_bytes a.value) a.mid (kinds.number_bytes b.value) b.mid (parts.defaults_bytes d.value) d.mid (kinds.maybe_bytes kinds.text_bytes e.value) e.mid
          a.spelt b.spelt d.spelt e.spelt
          ∙ ap (λ (l : List ℕ). (((parts.delivery_bytes a.value ++ kinds.number_bytes b.value) ++ parts.defaults_bytes d.value) ++ kinds.maybe_bytes kinds.text_bytes e.value) ++ l) s.1;
    }

conf_told : (stream iss : List ℕ) (aud : List (List ℕ)) (requested : Option (List (List ℕ))) (bytes mid : List ℕ) (c : StreamConf) (rest : List ℕ)
    → IsProperText stream → IsProperText iss → AreProperTexts aud → IsProperMaybe AreProperTexts requested
    → bytes ≡ (((kinds.text_bytes stream ++ kinds.text_bytes iss) ++ kinds.list_bytes kinds.text_bytes aud) ++ kinds.maybe_bytes (kinds.list_bytes kinds.text_bytes) requested) ++ mid
    → Late stream iss aud requested mid c rest → IsProperConf c × (bytes ≡ parts.conf_bytes c ++ rest)
conf_told stream iss aud requested bytes mid c rest one two three four spelt t =
    let proper : IsProperConf (conf_of stream iss aud requested t.way t.number t.subjects t.description) = record {
      stream = one;
      iss = two;
      aud = three;
      requested = four;
      delivery = t.proper_way;
      interval = t.proper_number;
      description = t.proper_description;
    } in (
      subst IsProperConf t.is proper,
      spelled_after bytes (((kinds.text_bytes stream ++ kinds.text_bytes iss) ++ kinds.list_bytes kinds.text_bytes aud) ++ kinds.maybe_bytes (kinds.list_bytes kinds.text_bytes) requested) mid
          (parts.delivery_bytes t.way) (kinds.number_bytes t.number) (parts.defaults_bytes t.subjects) (kinds.maybe_bytes kinds.text_bytes t.description) rest spelt t.spelt
          ∙ ap (λ x. parts.conf_bytes x ++ rest) t.is,
    )

conf_spells : (bytes : List ℕ) (c : StreamConf) (rest : List ℕ) → AreBytes bytes → parts.configuration bytes ≡ Ok (c, rest) → IsProperConf c × (bytes ≡ parts.conf_bytes c ++ rest)
conf_spells bytes c rest are h =
    let a = then_spells _ _ _ texts_agree _ bytes c rest are h in
    let b = then_spells _ _ _ texts_agree _ a.mid c rest a.are a.then in
    let d = then_spells _ _ _ lists_of_texts_agree _ b.mid c rest b.are b.then in
    let e = then_spells _ _ _ requests_agree (late a.value b.value d.value) d.mid c rest d.are d.then in
    conf_told a.value b.value d.value e.value bytes e.mid c rest a.proper b.proper d.proper e.proper
    (spelled_4 bytes (kinds.text_bytes a.value) a.mid (kinds.text_bytes b.value) b.mid (kinds.list_bytes kinds.text_bytes d.value) d.mid (kinds.maybe_bytes (kinds.list_bytes kinds.text_bytes) e.value) e.mid
    a.spelt b.spelt d.spelt e.spelt)
    (late_spells a.value b.value d.value e.value e.mid c rest e.are e.then)

pub confs_agree : Agrees IsProperConf parts.conf_bytes parts.configuration
confs_agree = record { reads = conf_reads; spells = conf_spells }
