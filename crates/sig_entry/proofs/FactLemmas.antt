-- Facts are read as they are spelled.
use Rattle.std.proofs.Common.{◌≡◌, ◌<◌, ◌≤◌, ◌^◌, ◌==◌, ap, sym, ◌∙◌, refl, subst, ℕ, List, [], ◌∷◌, ◌++◌, length, Bool, true, false, cond, Option, Some, None, arith}
use Rattle.std.specs.Prelude.{Result, Ok, Err, ⊤}
use Rattle.std.proofs.lemmas.Bool.Decides.{nat_tests}
use Rattle.sig_json.specs.declared.limits.TheConstants.{LAST_NUMBER}
use Rattle.sig_fields.specs.Agreeing.{Agrees, AreBytes, IsProperList}
use Rattle.sig_fields.specs.Kinds as kinds
use Rattle.sig_fields.specs.Reading.{given, next_after, ruled, ◌>>=◌}
use Rattle.sig_fields.proofs.Agreeing.{HasRule, Step, bytes_agree, flags_agree, given_same, joined_spelling, lists_agree, numbers_agree, ruled_agrees, texts_agree, then_reads, then_spells}
use Rattle.sig_subject.specs.declared.subject.Subject.{Subject}
use Rattle.sig_event.specs.declared.news.News.{News}
use Rattle.sig_event.specs.declared.status.Status.{Status}
use Rattle.sig_terms.specs.declared.configuration.StreamConf.{StreamConf}
use Rattle.sig_terms.specs.declared.fact.Fact.{Fact}
use Rattle.sig_terms.specs.declared.fact.Fact.TheVariants as fact
use Rattle.sig_terms.specs.declared.fact.SettledItem.{SettledItem}
use Rattle.sig_terms.specs.declared.want.Delivery.{Delivery}
use Rattle.sig_entry.specs.declared.fact_kind.FactKind.{FactKind}
use Rattle.sig_entry.specs.declared.fact_kind.FactKind.TheVariants.{Created, Configured, StatusSet, Listed, Unlisted, Deleted, Published, Settled, Asked}
use Rattle.sig_entry.specs.Facts as facts
use Rattle.sig_entry.specs.Parts as parts
use Rattle.sig_entry.specs.Proper.{IsProperFact, IsProperItem}
use Rattle.sig_entry.proofs.ConfLemmas.{confs_agree}
use Rattle.sig_entry.proofs.NewsLemmas.{news_agree, subjects_agree}
use Rattle.sig_entry.proofs.Steps.{of_3, of_4, of_5, read_first, read_last}
use Rattle.sig_entry.proofs.StreamLemmas.{deliveries_agree, requests_agree, settled_agree, statuses_agree, words_agree}

times_agree : Agrees (λ n. n ≤ LAST_NUMBER) kinds.number_bytes facts.time
times_agree = numbers_agree LAST_NUMBER (omega arith)

items_agree : Agrees (IsProperList IsProperItem) (kinds.list_bytes parts.settled_bytes) (kinds.list parts.settled)
items_agree = lists_agree IsProperItem parts.settled_bytes parts.settled settled_agree

-- what was read of the fields of a kind: a proper fact of that kind, which they spell
record Told (kind : FactKind) (bytes : List ℕ) (f : Fact) (rest : List ℕ) : Type 0 where
  is : facts.kind_of f ≡ kind
  proper : IsProperFact f
  spelt : bytes ≡ facts.fields_bytes f ++ rest

told : (g f : Fact) (bytes end rest : List ℕ) → ◌≡◌ {A = Result (Fact × List ℕ) (List ℕ)} (Ok (g, end)) (Ok (f, rest)) → IsProperFact g → bytes ≡ facts.fields_bytes g ++ end
    → Told (facts.kind_of g) bytes f rest
told g f bytes end rest h proper spelt =
    let s = given_same g f end rest h in
    record { is = ap facts.kind_of (sym s.0); proper = subst IsProperFact s.0 proper; spelt = spelt ∙ (λ i. facts.fields_bytes (s.0 i) ++ s.1 i) }

-- ---- each kind of fact

created_reads : (conf : StreamConf) (at : ℕ) (rest : List ℕ) → IsProperFact (fact.Created conf at)
    → facts.created (facts.fields_bytes (fact.Created conf at) ++ rest) ≡ Ok (fact.Created conf at, rest)
created_reads conf at rest proper =
    read_first _ _ _ confs_agree conf proper.0 _ _ rest _
    (read_last _ _ _ times_agree at proper.1 _ rest _ refl)

created_spells : (bytes : List ℕ) (f : Fact) (rest : List ℕ) → AreBytes bytes → facts.created bytes ≡ Ok (f, rest) → Told Created bytes f rest
created_spells bytes f rest are h =
    let a = then_spells _ _ _ confs_agree _ bytes f rest are h in
    let b = then_spells _ _ _ times_agree _ a.mid f rest a.are a.then in
    let all = joined_spelling bytes (parts.conf_bytes a.value) a.mid (kinds.number_bytes b.value) b.mid a.spelt b.spelt in
    told (fact.Created a.value b.value) f bytes b.mid rest b.then (a.proper, b.proper) all

configured_reads : (stream : List ℕ) (requested : Option (List (List ℕ))) (delivery : Delivery) (description : Option (List ℕ)) (rest : List ℕ) → IsProperFact (fact.Configured stream requested delivery description)
    → facts.configured (facts.fields_bytes (fact.Configured stream requested delivery description) ++ rest) ≡ Ok (fact.Configured stream requested delivery description, rest)
configured_reads stream requested delivery description rest proper =
    let parted = of_4 (kinds.text_bytes stream) (kinds.maybe_bytes (kinds.list_bytes kinds.text_bytes) requested) (parts.delivery_bytes delivery) (kinds.maybe_bytes kinds.text_bytes description) in
    subst (λ (l : List ℕ). facts.configured (l ++ rest) ≡ Ok (fact.Configured stream requested delivery description, rest)) (sym parted)
    (read_first _ _ _ texts_agree stream proper.0 _ _ rest _
    (read_first _ _ _ requests_agree requested proper.1 _ _ rest _
    (read_first _ _ _ deliveries_agree delivery proper.2 _ _ rest _
    (read_last _ _ _ words_agree description proper.3 _ rest _ refl))))

configured_spells : (bytes : List ℕ) (f : Fact) (rest : List ℕ) → AreBytes bytes → facts.configured bytes ≡ Ok (f, rest) → Told Configured bytes f rest
configured_spells bytes f rest are h =
    let a = then_spells _ _ _ texts_agree _ bytes f rest are h in
    let b = then_spells _ _ _ requests_agree _ a.mid f rest a.are a.then in
    let c = then_spells _ _ _ deliveries_agree _ b.mid f rest b.are b.then in
    let d = then_spells _ _ _ words_agree _ c.mid f rest c.are c.then in
    let from_c = joined_spelling b.mid (parts.delivery_bytes c.value) c.mid (kinds.maybe_bytes kinds.text_bytes d.value) d.mid c.spelt d.spelt in
    let from_b = joined_spelling a.mid (kinds.maybe_bytes (kinds.list_bytes kinds.text_bytes) b.value) b.mid (parts.delivery_bytes c.value ++ kinds.maybe_bytes kinds.text_bytes d.value) d.mid b.spelt from_c in
    let all = joined_spelling bytes (kinds.text_bytes a.value) a.mid (kinds.maybe_bytes (kinds.list_bytes kinds.text_bytes) b.value ++ (parts.delivery_bytes c.value ++ kinds.maybe_bytes kinds.text_bytes d.value)) d.mid a.spelt from_b in
    let parted = of_4 (kinds.text_bytes a.value) (kinds.maybe_bytes (kinds.list_bytes kinds.text_bytes) b.value) (parts.delivery_bytes c.value) (kinds.maybe_bytes kinds.text_bytes d.value) in
    told (fact.Configured a.value b.value c.value d.value) f bytes d.mid rest d.then (a.proper, b.proper, c.proper, d.proper) (all ∙ ap (λ (l : List ℕ). l ++ d.mid) (sym parted))

status_set_reads : (stream : List ℕ) (status : Status) (reason : Option (List ℕ)) (operator : Bool) (at : ℕ) (rest : List ℕ) → IsProperFact (fact.StatusSet stream status reason operator at)
    → facts.status_set (facts.fields_bytes (fact.StatusSet stream status reason operator at) ++ rest) ≡ Ok (fact.StatusSet stream status reason operator at, rest)
status_set_reads stream status reason operator at rest proper =
    let parted = of_5 (kinds.text_bytes stream) (parts.status_bytes status) (kinds.maybe_bytes kinds.text_bytes reason) (kinds.flag_bytes operator) (kinds.number_bytes at) in
    subst (λ (l : List ℕ). facts.status_set (l ++ rest) ≡ Ok (fact.StatusSet stream status reason operator at, rest)) (sym parted)
    (read_first _ _ _ texts_agree stream proper.0 _ _ rest _
    (read_first _ _ _ statuses_agree status tt _ _ rest _
    (read_first _ _ _ words_agree reason proper.1 _ _ rest _
    (read_first _ _ _ flags_agree operator tt (λ x. facts.time >>= (λ t. given (fact.StatusSet stream status reason x t))) (kinds.number_bytes at) rest _
    (read_last _ _ _ times_agree at proper.2 (λ t. given (fact.StatusSet stream status reason operator t)) rest _ refl)))))

status_set_spells : (bytes : List ℕ) (f : Fact) (rest : List ℕ) → AreBytes bytes → facts.status_set bytes ≡ Ok (f, rest) → Told StatusSet bytes f rest
status_set_spells bytes f rest are h =
    let a = then_spells _ _ _ texts_agree _ bytes f rest are h in
    let b = then_spells _ _ _ statuses_agree _ a.mid f rest a.are a.then in
    let c = then_spells _ _ _ words_agree _ b.mid f rest b.are b.then in
    let d = then_spells _ _ _ flags_agree _ c.mid f rest c.are c.then in
    let e = then_spells _ _ _ times_agree _ d.mid f rest d.are d.then in
    let from_d = joined_spelling c.mid (kinds.flag_bytes d.value) d.mid (kinds.number_bytes e.value) e.mid d.spelt e.spelt in
    let from_c = joined_spelling b.mid (kinds.maybe_bytes kinds.text_bytes c.value) c.mid (kinds.flag_bytes d.value ++ kinds.number_bytes e.value) e.mid c.spelt from_d in
    let from_b = joined_spelling a.mid (parts.status_bytes b.value) b.mid (kinds.maybe_bytes kinds.text_bytes c.value ++ (kinds.flag_bytes d.value ++ kinds.number_bytes e.value)) e.mid b.spelt from_c in
    let all = joined_spelling bytes (kinds.text_bytes a.value) a.mid (parts.status_bytes b.value ++ (kinds.maybe_bytes kinds.text_bytes c.value ++ (kinds.flag_bytes d.value ++ kinds.number_bytes e.value))) e.mid a.spelt from_b in
    let parted = of_5 (kinds.text_bytes a.value) (parts.status_bytes b.value) (kinds.maybe_bytes kinds.text_bytes c.value) (kinds.flag_bytes d.value) (kinds.number_bytes e.value) in
    told (fact.StatusSet a.value b.value c.value d.value e.value) f bytes e.mid rest e.then (a.proper, c.proper, e.proper) (all ∙ ap (λ (l : List ℕ). l ++ e.mid) (sym parted))

listed_reads : (stream : List ℕ) (subject : Subject) (rest : List ℕ) → IsProperFact (fact.Listed stream subject)
    → facts.listed (facts.fields_bytes (fact.Listed stream subject) ++ rest) ≡ Ok (fact.Listed stream subject, rest)
listed_reads stream subject rest proper =
    read_first _ _ _ texts_agree stream proper.0 _ _ rest _
    (read_last _ _ _ subjects_agree subject proper.1 _ rest _ refl)

listed_spells : (bytes : List ℕ) (f : Fact) (rest : List ℕ) → AreBytes bytes → facts.listed bytes ≡ Ok (f, rest) → Told Listed bytes f rest
listed_spells bytes f rest are h =
    let a = then_spells _ _ _ texts_agree _ bytes f rest are h in
    let b = then_spells _ _ _ subjects_agree _ a.mid f rest a.are a.then in
    let all = joined_spelling bytes (kinds.text_bytes a.value) a.mid (parts.subject_bytes b.value) b.mid a.spelt b.spelt in
    told (fact.Listed a.value b.value) f bytes b.mid rest b.then (a.proper, b.proper) all

unlisted_reads : (stream : List ℕ) (subject : Subject) (rest : List ℕ) → IsProperFact (fact.Unlisted stream subject)
    → facts.unlisted (facts.fields_bytes (fact.Unlisted stream subject) ++ rest) ≡ Ok (fact.Unlisted stream subject, rest)
unlisted_reads stream subject rest proper =
    read_first _ _ _ texts_agree stream proper.0 _ _ rest _
    (read_last _ _ _ subjects_agree subject proper.1 _ rest _ refl)

unlisted_spells : (bytes : List ℕ) (f : Fact) (rest : List ℕ) → AreBytes bytes → facts.unlisted bytes ≡ Ok (f, rest) → Told Unlisted bytes f rest
unlisted_spells bytes f rest are h =
    let a = then_spells _ _ _ texts_agree _ bytes f rest are h in
    let b = then_spells _ _ _ subjects_agree _ a.mid f rest a.are a.then in
    let all = joined_spelling bytes (kinds.text_bytes a.value) a.mid (parts.subject_bytes b.value) b.mid a.spelt b.spelt in
    told (fact.Unlisted a.value b.value) f bytes b.mid rest b.then (a.proper, b.proper) all

deleted_reads : (stream : List ℕ) (rest : List ℕ) → IsProperFact (fact.Deleted stream)
    → facts.deleted (facts.fields_bytes (fact.Deleted stream) ++ rest) ≡ Ok (fact.Deleted stream, rest)
deleted_reads stream rest proper =
    read_last _ _ _ texts_agree stream proper _ rest _ refl

deleted_spells : (bytes : List ℕ) (f : Fact) (rest : List ℕ) → AreBytes bytes → facts.deleted bytes ≡ Ok (f, rest) → Told Deleted bytes f rest
deleted_spells bytes f rest are h =
    let a = then_spells _ _ _ texts_agree _ bytes f rest are h in
    told (fact.Deleted a.value) f bytes a.mid rest a.then a.proper a.spelt

published_reads : (id : List ℕ) (news : News) (at : ℕ) (rest : List ℕ) → IsProperFact (fact.Published id news at)
    → facts.published (facts.fields_bytes (fact.Published id news at) ++ rest) ≡ Ok (fact.Published id news at, rest)
published_reads id news at rest proper =
    let parted = of_3 (kinds.text_bytes id) (parts.news_bytes news) (kinds.number_bytes at) in
    subst (λ (l : List ℕ). facts.published (l ++ rest) ≡ Ok (fact.Published id news at, rest)) (sym parted)
    (read_first _ _ _ texts_agree id proper.0 _ _ rest _
    (read_first _ _ _ news_agree news proper.1 _ _ rest _
    (read_last _ _ _ times_agree at proper.2 _ rest _ refl)))

published_spells : (bytes : List ℕ) (f : Fact) (rest : List ℕ) → AreBytes bytes → facts.published bytes ≡ Ok (f, rest) → Told Published bytes f rest
published_spells bytes f rest are h =
    let a = then_spells _ _ _ texts_agree _ bytes f rest are h in
    let b = then_spells _ _ _ news_agree _ a.mid f rest a.are a.then in
    let c = then_spells _ _ _ times_agree _ b.mid f rest b.are b.then in
    let from_b = joined_spelling a.mid (parts.news_bytes b.value) b.mid (kinds.number_bytes c.value) c.mid b.spelt c.spelt in
    let all = joined_spelling bytes (kinds.text_bytes a.value) a.mid (parts.news_bytes b.value ++ kinds.number_bytes c.value) c.mid a.spelt from_b in
    let parted = of_3 (kinds.text_bytes a.value) (parts.news_bytes b.value) (kinds.number_bytes c.value) in
    told (fact.Published a.value b.value c.value) f bytes c.mid rest c.then (a.proper, b.proper, c.proper) (all ∙ ap (λ (l : List ℕ). l ++ c.mid) (sym parted))

settled_reads : (stream : List ℕ) (items : List SettledItem) (rest : List ℕ) → IsProperFact (fact.Settled stream items)
    → facts.settled (facts.fields_bytes (fact.Settled stream items) ++ rest) ≡ Ok (fact.Settled stream items, rest)
settled_reads stream items rest proper =
    read_first _ _ _ texts_agree stream proper.0 _ _ rest _
    (read_last _ _ _ items_agree items proper.1 _ rest _ refl)

settled_spells : (bytes : List ℕ) (f : Fact) (rest : List ℕ) → AreBytes bytes → facts.settled bytes ≡ Ok (f, rest) → Told Settled bytes f rest
settled_spells bytes f rest are h =
    let a = then_spells _ _ _ texts_agree _ bytes f rest are h in
    let b = then_spells _ _ _ items_agree _ a.mid f rest a.are a.then in
    let all = joined_spelling bytes (kinds.text_bytes a.value) a.mid (kinds.list_bytes parts.settled_bytes b.value) b.mid a.spelt b.spelt in
    told (fact.Settled a.value b.value) f bytes b.mid rest b.then (a.proper, b.proper) all

asked_reads : (stream : List ℕ) (state : Option (List ℕ)) (at : ℕ) (rest : List ℕ) → IsProperFact (fact.Asked stream state at)
    → facts.asked (facts.fields_bytes (fact.Asked stream state at) ++ rest) ≡ Ok (fact.Asked stream state at, rest)
asked_reads stream state at rest proper =
    let parted = of_3 (kinds.text_bytes stream) (kinds.maybe_bytes kinds.text_bytes state) (kinds.number_bytes at) in
    subst (λ (l : List ℕ). facts.asked (l ++ rest) ≡ Ok (fact.Asked stream state at, rest)) (sym parted)
    (read_first _ _ _ texts_agree stream proper.0 _ _ rest _
    (read_first _ _ _ words_agree state proper.1 _ _ rest _
    (read_last _ _ _ times_agree at proper.2 _ rest _ refl)))

asked_spells : (bytes : List ℕ) (f : Fact) (rest : List ℕ) → AreBytes bytes → facts.asked bytes ≡ Ok (f, rest) → Told Asked bytes f rest
asked_spells bytes f rest are h =
    let a = then_spells _ _ _ texts_agree _ bytes f rest are h in
    let b = then_spells _ _ _ words_agree _ a.mid f rest a.are a.then in
    let c = then_spells _ _ _ times_agree _ b.mid f rest b.are b.then in
    let from_b = joined_spelling a.mid (kinds.maybe_bytes kinds.text_bytes b.value) b.mid (kinds.number_bytes c.value) c.mid b.spelt c.spelt in
    let all = joined_spelling bytes (kinds.text_bytes a.value) a.mid (kinds.maybe_bytes kinds.text_bytes b.value ++ kinds.number_bytes c.value) c.mid a.spelt from_b in
    let parted = of_3 (kinds.text_bytes a.value) (kinds.maybe_bytes kinds.text_bytes b.value) (kinds.number_bytes c.value) in
    told (fact.Asked a.value b.value c.value) f bytes c.mid rest c.then (a.proper, b.proper, c.proper) (all ∙ ap (λ (l : List ℕ). l ++ c.mid) (sym parted))

-- ---- kinds

kind_rule : HasRule (λ (b : ℕ). ⊤) (λ (k : FactKind). ⊤) facts.kind_in facts.kind_byte
kind_rule = record { sound = sound; complete = complete }
  where
    sound : (y : FactKind) → ⊤ → ⊤ × (facts.kind_in (facts.kind_byte y) ≡ Some y)
    sound Created _ = (tt, refl)
    sound Configured _ = (tt, refl)
    sound StatusSet _ = (tt, refl)
    sound Listed _ = (tt, refl)
    sound Unlisted _ = (tt, refl)
    sound Deleted _ = (tt, refl)
    sound Published _ = (tt, refl)
    sound Settled _ = (tt, refl)
    sound Asked _ = (tt, refl)

    complete : (x : ℕ) (y : FactKind) → ⊤ → facts.kind_in x ≡ Some y → ⊤ × (x ≡ facts.kind_byte y)
    complete x Created _ h = (tt, grind (arith, nat_tests))
    complete x Configured _ h = (tt, grind (arith, nat_tests))
    complete x StatusSet _ h = (tt, grind (arith, nat_tests))
    complete x Listed _ h = (tt, grind (arith, nat_tests))
    complete x Unlisted _ h = (tt, grind (arith, nat_tests))
    complete x Deleted _ h = (tt, grind (arith, nat_tests))
    complete x Published _ h = (tt, grind (arith, nat_tests))
    complete x Settled _ h = (tt, grind (arith, nat_tests))
    complete x Asked _ h = (tt, grind (arith, nat_tests))

kinds_agree : Agrees (λ (k : FactKind). ⊤) (λ k. kinds.byte_bytes (facts.kind_byte k)) (ruled facts.kind_in kinds.byte)
kinds_agree = ruled_agrees (λ b. ⊤) (λ k. ⊤) kinds.byte_bytes kinds.byte facts.kind_in facts.kind_byte bytes_agree kind_rule

-- ---- facts

fields_read : (f : Fact) (rest : List ℕ) → IsProperFact f → facts.fields_of (facts.kind_of f) (facts.fields_bytes f ++ rest) ≡ Ok (f, rest)
fields_read (fact.Created conf at) rest proper = created_reads conf at rest proper
fields_read (fact.Configured stream requested delivery description) rest proper = configured_reads stream requested delivery description rest proper
fields_read (fact.StatusSet stream status reason operator at) rest proper = status_set_reads stream status reason operator at rest proper
fields_read (fact.Listed stream subject) rest proper = listed_reads stream subject rest proper
fields_read (fact.Unlisted stream subject) rest proper = unlisted_reads stream subject rest proper
fields_read (fact.Deleted stream) rest proper = deleted_reads stream rest proper
fields_read (fact.Published id news at) rest proper = published_reads id news at rest proper
fields_read (fact.Settled stream items) rest proper = settled_reads stream items rest proper
fields_read (fact.Asked stream state at) rest proper = asked_reads stream state at rest proper

fields_spelled : (kind : FactKind) (bytes : List ℕ) (f : Fact) (rest : List ℕ) → AreBytes bytes → facts.fields_of kind bytes ≡ Ok (f, rest) → Told kind bytes f rest
fields_spelled Created bytes f rest are h = created_spells bytes f rest are h
fields_spelled Configured bytes f rest are h = configured_spells bytes f rest are h
fields_spelled StatusSet bytes f rest are h = status_set_spells bytes f rest are h
fields_spelled Listed bytes f rest are h = listed_spells bytes f rest are h
fields_spelled Unlisted bytes f rest are h = unlisted_spells bytes f rest are h
fields_spelled Deleted bytes f rest are h = deleted_spells bytes f rest are h
fields_spelled Published bytes f rest are h = published_spells bytes f rest are h
fields_spelled Settled bytes f rest are h = settled_spells bytes f rest are h
fields_spelled Asked bytes f rest are h = asked_spells bytes f rest are h

pub facts_agree : Agrees IsProperFact facts.spelling_of facts.read_fact
facts_agree = record { reads = reads; spells = spells }
  where
    reads : (f : Fact) (rest : List ℕ) → IsProperFact f → facts.read_fact (facts.spelling_of f ++ rest) ≡ Ok (f, rest)
    reads f rest proper =
        then_reads (λ k. ⊤) (λ k. kinds.byte_bytes (facts.kind_byte k)) (ruled facts.kind_in kinds.byte) kinds_agree (facts.kind_of f) tt facts.fields_of (facts.fields_bytes f) rest
        ∙ fields_read f rest proper

    spells : (bytes : List ℕ) (f : Fact) (rest : List ℕ) → AreBytes bytes → facts.read_fact bytes ≡ Ok (f, rest) → IsProperFact f × (bytes ≡ facts.spelling_of f ++ rest)
    spells bytes f rest are h =
        let k = then_spells (λ k. ⊤) (λ k. kinds.byte_bytes (facts.kind_byte k)) (ruled facts.kind_in kinds.byte) kinds_agree facts.fields_of bytes f rest are h in
        let t = fields_spelled k.value k.mid f rest k.are k.then in
        let head = ap (λ kind. kinds.byte_bytes (facts.kind_byte kind) ++ k.mid) (sym t.is) in
        (t.proper, joined_spelling bytes (kinds.byte_bytes (facts.kind_byte (facts.kind_of f))) k.mid (facts.fields_bytes f) rest (k.spelt ∙ head) t.spelt)
