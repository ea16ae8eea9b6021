-- The parts of a base, but its streams, are read as they are spelled.
use Rattle.std.proofs.Common.{◌≡◌, sym, ◌∙◌, refl, subst, ℕ, List, ◌++◌, Option, arith}
use Rattle.std.specs.Prelude.{Result, Ok}
use Rattle.sig_json.specs.declared.limits.TheConstants.{LAST_NUMBER}
use Rattle.sig_fields.specs.Agreeing.{Agrees, AreBytes}
use Rattle.sig_fields.specs.Kinds as kinds
use Rattle.sig_fields.specs.Reading.{given, ◌>>=◌}
use Rattle.sig_fields.proofs.Agreeing.{given_same, joined_spelling, numbers_agree, texts_agree, then_spells, whole_numbers}
use Rattle.sig_event.specs.declared.news.News.{News}
use Rattle.sig_terms.specs.declared.refused_token.RefusedToken.{RefusedToken}
use Rattle.sig_terms.specs.declared.token.Issued.{Issued}
use Rattle.sig_entry.specs.Parts as entry
use Rattle.sig_entry.proofs.NewsLemmas.{news_agree, told_agree}
use Rattle.sig_entry.proofs.Steps.{of_3, of_5, read_first, read_last}
use Rattle.sig_entry.proofs.StreamLemmas.{words_agree}
use Rattle.sig_base.specs.declared.base.BasePublication.{BasePublication}
use Rattle.sig_base.specs.declared.base.BaseRefusals.{BaseRefusals}
use Rattle.sig_base.specs.declared.base.BaseToken.{BaseToken}
use Rattle.sig_base.specs.declared.base.ClientCount.{ClientCount}
use Rattle.sig_base.specs.Lists as lists
use Rattle.sig_base.specs.Lists.{IsProperLong}
use Rattle.sig_base.specs.Parts as parts
use Rattle.sig_base.specs.Proper.{AreProperRefusals, IsProperClient, IsProperIssued, IsProperPublication, IsProperRefused, IsProperToken, IsTime}
use Rattle.sig_base.proofs.ListLemmas.{longs_agree}

pub times_agree : Agrees IsTime kinds.number_bytes parts.time
times_agree = numbers_agree LAST_NUMBER (omega arith)

-- ---- clients

abbrev client_of : List ℕ → ℕ → ClientCount
client_of client created = record { client = client; created = created }

clients_agree : Agrees IsProperClient parts.client_bytes parts.client
clients_agree = record { reads = reads; spells = spells }
  where
    reads : (c : ClientCount) (rest : List ℕ) → IsProperClient c → parts.client (parts.client_bytes c ++ rest) ≡ Ok (c, rest)
    reads c rest proper =
        read_first _ _ _ texts_agree c.client proper.0 (λ (name : List ℕ). kinds.number >>= (λ (created : ℕ). given (client_of name created))) (kinds.number_bytes c.created) rest (Ok (c, rest))
        (read_last _ _ _ whole_numbers c.created proper.1 (λ (created : ℕ). given (client_of c.client created)) rest (Ok (c, rest)) refl)

    spells : (bytes : List ℕ) (c : ClientCount) (rest : List ℕ) → AreBytes bytes → parts.client bytes ≡ Ok (c, rest) → IsProperClient c × (bytes ≡ parts.client_bytes c ++ rest)
    spells bytes c rest are h =
        let a = then_spells _ _ _ texts_agree (λ (name : List ℕ). kinds.number >>= (λ (created : ℕ). given (client_of name created))) bytes c rest are h in
        let b = then_spells _ _ _ whole_numbers (λ (created : ℕ). given (client_of a.value created)) a.mid c rest a.are a.then in
        let s = given_same (client_of a.value b.value) c b.mid rest b.then in (
          subst IsProperClient s.0 (a.proper, b.proper),
          joined_spelling bytes (kinds.text_bytes a.value) a.mid (kinds.number_bytes b.value) b.mid a.spelt b.spelt ∙ (λ i. parts.client_bytes (s.0 i) ++ s.1 i),
        )

pub client_lists_agree : Agrees (IsProperLong IsProperClient) (lists.list_bytes parts.client_bytes) (lists.list parts.client)
client_lists_agree = longs_agree IsProperClient parts.client_bytes parts.client clients_agree

-- ---- tokens that are owed

abbrev token_of : ℕ → ℕ → News → BaseToken
token_of number iat news = record { number = number; iat = iat; news = news }

abbrev after_iat : ℕ → ℕ → List ℕ → Result (BaseToken × List ℕ) (List ℕ)
after_iat number iat = do
  news ← entry.any_news
  given (token_of number iat news)

abbrev after_number : ℕ → List ℕ → Result (BaseToken × List ℕ) (List ℕ)
after_number number = do
  iat ← parts.time
  after_iat number iat

owed_agree : Agrees IsProperToken parts.token_bytes parts.token
owed_agree = record { reads = reads; spells = spells }
  where
    reads : (t : BaseToken) (rest : List ℕ) → IsProperToken t → parts.token (parts.token_bytes t ++ rest) ≡ Ok (t, rest)
    reads t rest proper =
        let parted = of_3 (kinds.number_bytes t.number) (kinds.number_bytes t.iat) (entry.news_bytes t.news) in
        subst (λ (l : List ℕ). parts.token (l ++ rest) ≡ Ok (t, rest)) (sym parted)
        (read_first _ _ _ whole_numbers t.number proper.0 after_number (kinds.number_bytes t.iat ++ entry.news_bytes t.news) rest (Ok (t, rest))
        (read_first _ _ _ times_agree t.iat proper.1 (after_iat t.number) (entry.news_bytes t.news) rest (Ok (t, rest))
        (read_last _ _ _ told_agree t.news proper.2 (λ (n : News). given (token_of t.number t.iat n)) rest (Ok (t, rest)) refl)))

    spells : (bytes : List ℕ) (t : BaseToken) (rest : List ℕ) → AreBytes bytes → parts.token bytes ≡ Ok (t, rest) → IsProperToken t × (bytes ≡ parts.token_bytes t ++ rest)
    spells bytes t rest are h =
        let a = then_spells _ _ _ whole_numbers after_number bytes t rest are h in
        let b = then_spells _ _ _ times_agree (after_iat a.value) a.mid t rest a.are a.then in
        let c = then_spells _ _ _ told_agree (λ (n : News). given (token_of a.value b.value n)) b.mid t rest b.are b.then in
        let s = given_same (token_of a.value b.value c.value) t c.mid rest c.then in
        let front = joined_spelling bytes (kinds.number_bytes a.value) a.mid (kinds.number_bytes b.value) b.mid a.spelt b.spelt in
        let all = joined_spelling bytes (kinds.number_bytes a.value ++ kinds.number_bytes b.value) b.mid (entry.news_bytes c.value) c.mid front c.spelt in
        (subst IsProperToken s.0 (a.proper, b.proper, c.proper), all ∙ (λ i. parts.token_bytes (s.0 i) ++ s.1 i))

pub owed_lists_agree : Agrees (IsProperLong IsProperToken) (lists.list_bytes parts.token_bytes) (lists.list parts.token)
owed_lists_agree = longs_agree IsProperToken parts.token_bytes parts.token owed_agree

-- ---- publications

abbrev issued_of : List ℕ → ℕ → Issued
issued_of stream number = record { stream = stream; number = number }

issued_agree : Agrees IsProperIssued parts.issued_bytes parts.issued
issued_agree = record { reads = reads; spells = spells }
  where
    reads : (i : Issued) (rest : List ℕ) → IsProperIssued i → parts.issued (parts.issued_bytes i ++ rest) ≡ Ok (i, rest)
    reads i rest proper =
        read_first _ _ _ texts_agree i.stream proper.0 (λ (name : List ℕ). kinds.number >>= (λ (number : ℕ). given (issued_of name number))) (kinds.number_bytes i.number) rest (Ok (i, rest))
        (read_last _ _ _ whole_numbers i.number proper.1 (λ (number : ℕ). given (issued_of i.stream number)) rest (Ok (i, rest)) refl)

    spells : (bytes : List ℕ) (i : Issued) (rest : List ℕ) → AreBytes bytes → parts.issued bytes ≡ Ok (i, rest) → IsProperIssued i × (bytes ≡ parts.issued_bytes i ++ rest)
    spells bytes i rest are h =
        let a = then_spells _ _ _ texts_agree (λ (name : List ℕ). kinds.number >>= (λ (number : ℕ). given (issued_of name number))) bytes i rest are h in
        let b = then_spells _ _ _ whole_numbers (λ (number : ℕ). given (issued_of a.value number)) a.mid i rest a.are a.then in
        let s = given_same (issued_of a.value b.value) i b.mid rest b.then in (
          subst IsProperIssued s.0 (a.proper, b.proper),
          joined_spelling bytes (kinds.text_bytes a.value) a.mid (kinds.number_bytes b.value) b.mid a.spelt b.spelt ∙ (λ j. parts.issued_bytes (s.0 j) ++ s.1 j),
        )

issued_lists_agree : Agrees (IsProperLong IsProperIssued) (lists.list_bytes parts.issued_bytes) (lists.list parts.issued)
issued_lists_agree = longs_agree IsProperIssued parts.issued_bytes parts.issued issued_agree

abbrev publication_of : List ℕ → News → List Issued → BasePublication
publication_of id news tokens = record { id = id; news = news; tokens = tokens }

abbrev after_news : List ℕ → News → List ℕ → Result (BasePublication × List ℕ) (List ℕ)
after_news id news = do
  tokens ← lists.list parts.issued
  given (publication_of id news tokens)

abbrev after_id : List ℕ → List ℕ → Result (BasePublication × List ℕ) (List ℕ)
after_id id = do
  news ← entry.told_news
  after_news id news

publications_agree : Agrees IsProperPublication parts.publication_bytes parts.publication
publications_agree = record { reads = reads; spells = spells }
  where
    reads : (p : BasePublication) (rest : List ℕ) → IsProperPublication p → parts.publication (parts.publication_bytes p ++ rest) ≡ Ok (p, rest)
    reads p rest proper =
        let parted = of_3 (kinds.text_bytes p.id) (entry.news_bytes p.news) (lists.list_bytes parts.issued_bytes p.tokens) in
        subst (λ (l : List ℕ). parts.publication (l ++ rest) ≡ Ok (p, rest)) (sym parted)
        (read_first _ _ _ texts_agree p.id proper.0 after_id (entry.news_bytes p.news ++ lists.list_bytes parts.issued_bytes p.tokens) rest (Ok (p, rest))
        (read_first _ _ _ news_agree p.news proper.1 (after_news p.id) (lists.list_bytes parts.issued_bytes p.tokens) rest (Ok (p, rest))
        (read_last _ _ _ issued_lists_agree p.tokens proper.2 (λ (is : List Issued). given (publication_of p.id p.news is)) rest (Ok (p, rest)) refl)))

    spells : (bytes : List ℕ) (p : BasePublication) (rest : List ℕ) → AreBytes bytes → parts.publication bytes ≡ Ok (p, rest) → IsProperPublication p × (bytes ≡ parts.publication_bytes p ++ rest)
    spells bytes p rest are h =
        let a = then_spells _ _ _ texts_agree after_id bytes p rest are h in
        let b = then_spells _ _ _ news_agree (after_news a.value) a.mid p rest a.are a.then in
        let c = then_spells _ _ _ issued_lists_agree (λ (is : List Issued). given (publication_of a.value b.value is)) b.mid p rest b.are b.then in
        let s = given_same (publication_of a.value b.value c.value) p c.mid rest c.then in
        let front = joined_spelling bytes (kinds.text_bytes a.value) a.mid (entry.news_bytes b.value) b.mid a.spelt b.spelt in
        let all = joined_spelling bytes (kinds.text_bytes a.value ++ entry.news_bytes b.value) b.mid (lists.list_bytes parts.issued_bytes c.value) c.mid front c.spelt in
        (subst IsProperPublication s.0 (a.proper, b.proper, c.proper), all ∙ (λ i. parts.publication_bytes (s.0 i) ++ s.1 i))

pub publication_lists_agree : Agrees (IsProperLong IsProperPublication) (lists.list_bytes parts.publication_bytes) (lists.list parts.publication)
publication_lists_agree = longs_agree IsProperPublication parts.publication_bytes parts.publication publications_agree

-- ---- tokens that were reported as faulty

abbrev refused_of : List ℕ → ℕ → Option (List ℕ) → Option (List ℕ) → ℕ → RefusedToken
refused_of stream number id code at = record { stream = stream; number = number; id = id; code = code; time = at }

abbrev after_code : List ℕ → ℕ → Option (List ℕ) → Option (List ℕ) → List ℕ → Result (RefusedToken × List ℕ) (List ℕ)
after_code stream number id code = do
  at ← parts.time
  given (refused_of stream number id code at)

abbrev after_refused_id : List ℕ → ℕ → Option (List ℕ) → List ℕ → Result (RefusedToken × List ℕ) (List ℕ)
after_refused_id stream number id = do
  code ← kinds.maybe kinds.text
  after_code stream number id code

abbrev after_refused_number : List ℕ → ℕ → List ℕ → Result (RefusedToken × List ℕ) (List ℕ)
after_refused_number stream number = do
  id ← kinds.maybe kinds.text
  after_refused_id stream number id

abbrev after_stream : List ℕ → List ℕ → Result (RefusedToken × List ℕ) (List ℕ)
after_stream stream = do
  number ← kinds.number
  after_refused_number stream number

refused_agree : Agrees IsProperRefused parts.refused_bytes parts.refused
refused_agree = record { reads = reads; spells = spells }
  where
    reads : (t : RefusedToken) (rest : List ℕ) → IsProperRefused t → parts.refused (parts.refused_bytes t ++ rest) ≡ Ok (t, rest)
    reads t rest proper =
        let parted = of_5 (kinds.text_bytes t.stream) (kinds.number_bytes t.number) (kinds.maybe_bytes kinds.text_bytes t.id) (kinds.maybe_bytes kinds.text_bytes t.code) (kinds.number_bytes t.time) in
        subst (λ (l : List ℕ). parts.refused (l ++ rest) ≡ Ok (t, rest)) (sym parted)
        (read_first _ _ _ texts_agree t.stream proper.stream after_stream (kinds.number_bytes t.number ++ (kinds.maybe_bytes kinds.text_bytes t.id ++ (kinds.maybe_bytes kinds.text_bytes t.code ++ kinds.number_bytes t.time))) rest (Ok (t, rest))
        (read_first _ _ _ whole_numbers t.number proper.number (after_refused_number t.stream) (kinds.maybe_bytes kinds.text_bytes t.id ++ (kinds.maybe_bytes kinds.text_bytes t.code ++ kinds.number_bytes t.time)) rest (Ok (t, rest))
        (read_first _ _ _ words_agree t.id proper.id (after_refused_id t.stream t.number) (kinds.maybe_bytes kinds.text_bytes t.code ++ kinds.number_bytes t.time) rest (Ok (t, rest))
        (read_first _ _ _ words_agree t.code proper.code (after_code t.stream t.number t.id) (kinds.number_bytes t.time) rest (Ok (t, rest))
        (read_last _ _ _ times_agree t.time proper.time (λ (at : ℕ). given (refused_of t.stream t.number t.id t.code at)) rest (Ok (t, rest)) refl)))))

    spells : (bytes : List ℕ) (t : RefusedToken) (rest : List ℕ) → AreBytes bytes → parts.refused bytes ≡ Ok (t, rest) → IsProperRefused t × (bytes ≡ parts.refused_bytes t ++ rest)
    spells bytes t rest are h =
        let a = then_spells _ _ _ texts_agree after_stream bytes t rest are h in
        let b = then_spells _ _ _ whole_numbers (after_refused_number a.value) a.mid t rest a.are a.then in
        let c = then_spells _ _ _ words_agree (after_refused_id a.value b.value) b.mid t rest b.are b.then in
        let d = then_spells _ _ _ words_agree (after_code a.value b.value c.value) c.mid t rest c.are c.then in
        let e = then_spells _ _ _ times_agree (λ (at : ℕ). given (refused_of a.value b.value c.value d.value at)) d.mid t rest d.are d.then in
        let s = given_same (refused_of a.value b.value c.value d.value e.value) t e.mid rest e.then in
        let two = joined_spelling bytes (kinds.text_bytes a.value) a.mid (kinds.number_bytes b.value) b.mid a.spelt b.spelt in
        let three = joined_spelling bytes (kinds.text_bytes a.value ++ kinds.number_bytes b.value) b.mid (kinds.maybe_bytes kinds.text_bytes c.value) c.mid two c.spelt in
        let four = joined_spelling bytes ((kinds.text_bytes a.value ++ kinds.number_bytes b.value) ++ kinds.maybe_bytes kinds.text_bytes c.value) c.mid (kinds.maybe_bytes kinds.text_bytes d.value) d.mid three d.spelt in
        let all = joined_spelling bytes (((kinds.text_bytes a.value ++ kinds.number_bytes b.value) ++ kinds.maybe_bytes kinds.text_bytes c.value) ++ kinds.maybe_bytes kinds.text_bytes d.value) d.mid (kinds.number_bytes e.value) e.mid four e.spelt in
        let proper : IsProperRefused (refused_of a.value b.value c.value d.value e.value) = record { stream = a.proper; number = b.proper; id = c.proper; code = d.proper; time = e.proper } in
        (subst IsProperRefused s.0 proper, all ∙ (λ i. parts.refused_bytes (s.0 i) ++ s.1 i))

refused_lists_agree : Agrees (IsProperLong IsProperRefused) (lists.list_bytes parts.refused_bytes) (lists.list parts.refused)
refused_lists_agree = longs_agree IsProperRefused parts.refused_bytes parts.refused refused_agree

abbrev refusals_of : ℕ → List RefusedToken → BaseRefusals
refusals_of before kept = record { before = before; kept = kept }

abbrev after_before : ℕ → List ℕ → Result (BaseRefusals × List ℕ) (List ℕ)
after_before before = do
  kept ← lists.list parts.refused
  given (refusals_of before kept)

pub refusals_agree : Agrees AreProperRefusals parts.refusals_bytes parts.refusals
refusals_agree = record { reads = reads; spells = spells }
  where
    reads : (r : BaseRefusals) (rest : List ℕ) → AreProperRefusals r → parts.refusals (parts.refusals_bytes r ++ rest) ≡ Ok (r, rest)
    reads r rest proper =
        read_first _ _ _ whole_numbers r.before proper.0 after_before (lists.list_bytes parts.refused_bytes r.kept) rest (Ok (r, rest))
        (read_last _ _ _ refused_lists_agree r.kept proper.1 (λ (kept : List RefusedToken). given (refusals_of r.before kept)) rest (Ok (r, rest)) refl)

    spells : (bytes : List ℕ) (r : BaseRefusals) (rest : List ℕ) → AreBytes bytes → parts.refusals bytes ≡ Ok (r, rest) → AreProperRefusals r × (bytes ≡ parts.refusals_bytes r ++ rest)
    spells bytes r rest are h =
        let a = then_spells _ _ _ whole_numbers after_before bytes r rest are h in
        let b = then_spells _ _ _ refused_lists_agree (λ (kept : List RefusedToken). given (refusals_of a.value kept)) a.mid r rest a.are a.then in
        let s = given_same (refusals_of a.value b.value) r b.mid rest b.then in (
          subst AreProperRefusals s.0 (a.proper, b.proper),
          joined_spelling bytes (kinds.number_bytes a.value) a.mid (lists.list_bytes parts.refused_bytes b.value) b.mid a.spelt b.spelt ∙ (λ i. parts.refusals_bytes (s.0 i) ++ s.1 i),
        )
