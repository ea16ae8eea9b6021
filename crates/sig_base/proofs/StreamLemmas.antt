-- Streams are read as they are spelled.
use Rattle.std.proofs.Common.{◌≡◌, ap, sym, ◌∙◌, refl, subst, ℕ, List, ◌++◌, Option}
use Rattle.std.specs.Prelude.{Result, Ok}
use Rattle.sig_fields.specs.Agreeing.{Agrees, AreBytes, IsProperMaybe}
use Rattle.sig_fields.specs.Kinds as kinds
use Rattle.sig_fields.specs.Reading.{given, ◌>>=◌}
use Rattle.sig_fields.proofs.Agreeing.{given_same, joined_spelling, maybes_agree, then_spells, whole_numbers}
use Rattle.sig_subject.specs.declared.subject.Subject.{Subject}
use Rattle.sig_event.specs.declared.status.Status.{Status}
use Rattle.sig_terms.specs.declared.configuration.StreamConf.{StreamConf}
use Rattle.sig_entry.specs.Parts as entry
use Rattle.sig_entry.specs.Proper.{IsProperConf, IsProperWords, IsShortSubject}
use Rattle.sig_entry.proofs.ConfLemmas.{confs_agree}
use Rattle.sig_entry.proofs.NewsLemmas.{subjects_agree}
use Rattle.sig_entry.proofs.Steps.{of_7, read_first, read_last, spelled_4}
use Rattle.sig_entry.proofs.StreamLemmas.{statuses_agree, words_agree}
use Rattle.sig_base.specs.declared.base.BaseStream.{BaseStream}
use Rattle.sig_base.specs.declared.base.BaseToken.{BaseToken}
use Rattle.sig_base.specs.Lists as lists
use Rattle.sig_base.specs.Lists.{IsProperLong}
use Rattle.sig_base.specs.Parts as parts
use Rattle.sig_base.specs.Proper.{IsNumber, IsProperStream, IsProperToken, IsTime}
use Rattle.sig_base.proofs.FieldLemmas.{owed_lists_agree, times_agree}
use Rattle.sig_base.proofs.ListLemmas.{longs_agree}

subject_lists_agree : Agrees (IsProperLong IsShortSubject) (lists.list_bytes entry.subject_bytes) (lists.list entry.subject)
subject_lists_agree = longs_agree IsShortSubject entry.subject_bytes entry.subject subjects_agree

maybe_times_agree : Agrees (IsProperMaybe IsTime) (kinds.maybe_bytes kinds.number_bytes) (kinds.maybe parts.time)
maybe_times_agree = maybes_agree IsTime kinds.number_bytes parts.time times_agree

abbrev stream_of : StreamConf → Status → Option (List ℕ) → List Subject → Option ℕ → ℕ → List BaseToken → BaseStream
stream_of conf status reason listed asked made owed = record {
  conf = conf;
  status = status;
  reason = reason;
  listed = listed;
  asked = asked;
  made = made;
  owed = owed;
}

abbrev after_made : StreamConf → Status → Option (List ℕ) → List Subject → Option ℕ → ℕ → List ℕ → Result (BaseStream × List ℕ) (List ℕ)
after_made conf status reason listed asked made = do
  owed ← lists.list parts.token
  given (stream_of conf status reason listed asked made owed)

abbrev after_asked : StreamConf → Status → Option (List ℕ) → List Subject → Option ℕ → List ℕ → Result (BaseStream × List ℕ) (List ℕ)
after_asked conf status reason listed asked = do
  made ← kinds.number
  after_made conf status reason listed asked made

abbrev after_listed : StreamConf → Status → Option (List ℕ) → List Subject → List ℕ → Result (BaseStream × List ℕ) (List ℕ)
after_listed conf status reason listed = do
  asked ← kinds.maybe parts.time
  after_asked conf status reason listed asked

abbrev after_reason : StreamConf → Status → Option (List ℕ) → List ℕ → Result (BaseStream × List ℕ) (List ℕ)
after_reason conf status reason = do
  listed ← lists.list entry.subject
  after_listed conf status reason listed

abbrev after_status : StreamConf → Status → List ℕ → Result (BaseStream × List ℕ) (List ℕ)
after_status conf status = do
  reason ← kinds.maybe kinds.text
  after_reason conf status reason

abbrev after_conf : StreamConf → List ℕ → Result (BaseStream × List ℕ) (List ℕ)
after_conf conf = do
  status ← entry.status
  after_status conf status

stream_reads : (s : BaseStream) (rest : List ℕ) → IsProperStream s → parts.stream (parts.stream_bytes s ++ rest) ≡ Ok (s, rest)
stream_reads s rest proper =
    let parted = of_7 (entry.conf_bytes s.conf) (entry.status_bytes s.status) (kinds.maybe_bytes kinds.text_bytes s.reason) (lists.list_bytes entry.subject_bytes s.listed) (kinds.maybe_bytes kinds.number_bytes s.asked) (kinds.number_bytes s.made) (lists.list_bytes parts.token_bytes s.owed) in
    subst (λ (l : List ℕ). parts.stream (l ++ rest) ≡ Ok (s, rest)) (sym parted)
    (read_first _ _ _ confs_agree s.conf proper.conf after_conf _ rest (Ok (s, rest))
    (read_first _ _ _ statuses_agree s.status tt (after_status s.conf) _ rest (Ok (s, rest))
    (read_first _ _ _ words_agree s.reason proper.reason (after_reason s.conf s.status) _ rest (Ok (s, rest))
    (read_first _ _ _ subject_lists_agree s.listed proper.listed (after_listed s.conf s.status s.reason) _ rest (Ok (s, rest))
    (read_first _ _ _ maybe_times_agree s.asked proper.asked (after_asked s.conf s.status s.reason s.listed) _ rest (Ok (s, rest))
    (read_first _ _ _ whole_numbers s.made proper.made (after_made s.conf s.status s.reason s.listed s.asked) (lists.list_bytes parts.token_bytes s.owed) rest (Ok (s, rest))
    (read_last _ _ _ owed_lists_agree s.owed proper.owed (λ (owed : List BaseToken). given (stream_of s.conf s.status s.reason s.listed s.asked s.made owed)) rest (Ok (s, rest)) refl)))))))

-- what is read of a stream after the subjects on its list
record Late (conf : StreamConf) (status : Status) (reason : Option (List ℕ)) (listed : List Subject) (bytes : List ℕ) (s : BaseStream) (rest : List ℕ) : Type 0 where
  asked : Option ℕ
  made : ℕ
  owed : List BaseToken
  is : stream_of conf status reason listed asked made owed ≡ s
  proper_asked : IsProperMaybe IsTime asked
  proper_made : IsNumber made
  proper_owed : IsProperLong IsProperToken owed
  mid : List ℕ
  end : List ℕ
  one : bytes ≡ kinds.maybe_bytes kinds.number_bytes asked ++ mid
  two : mid ≡ kinds.number_bytes made ++ end
  three : end ≡ lists.list_bytes parts.token_bytes owed ++ rest

late_spells : (conf : StreamConf) (status : Status) (reason : Option (List ℕ)) (listed : List Subject) (bytes : List ℕ) (s : BaseStream) (rest : List ℕ) → AreBytes bytes
    → after_listed conf status reason listed bytes ≡ Ok (s, rest) → Late conf status reason listed bytes s rest
late_spells conf status reason listed bytes s rest are h =
    let a = then_spells _ _ _ maybe_times_agree (after_asked conf status reason listed) bytes s rest are h in
    let b = then_spells _ _ _ whole_numbers (after_made conf status reason listed a.value) a.mid s rest a.are a.then in
    let c = then_spells _ _ _ owed_lists_agree (λ (owed : List BaseToken). given (stream_of conf status reason listed a.value b.value owed)) b.mid s rest b.are b.then in
    let same = given_same (stream_of conf status reason listed a.value b.value c.value) s c.mid rest c.then in
    record {
      asked = a.value;
      made = b.value;
      owed = c.value;
      is = same.0;
      proper_asked = a.proper;
      proper_made = b.proper;
      proper_owed = c.proper;
      mid = a.mid;
      end = b.mid;
      one = a.spelt;
      two = b.spelt;
      three = c.spelt ∙ ap (λ (l : List ℕ). lists.list_bytes parts.token_bytes c.value ++ l) same.1;
    }

-- the bytes of a stream's first four fields
abbrev first_bytes : StreamConf → Status → Option (List ℕ) → List Subject → List ℕ
first_bytes conf status reason listed =
    ((entry.conf_bytes conf ++ entry.status_bytes status) ++ kinds.maybe_bytes kinds.text_bytes reason) ++ lists.list_bytes entry.subject_bytes listed

stream_told : (conf : StreamConf) (status : Status) (reason : Option (List ℕ)) (listed : List Subject) (bytes mid : List ℕ) (s : BaseStream) (rest : List ℕ)
    → IsProperConf conf → IsProperWords reason → IsProperLong IsShortSubject listed → bytes ≡ first_bytes conf status reason listed ++ mid
    → Late conf status reason listed mid s rest → IsProperStream s × (bytes ≡ parts.stream_bytes s ++ rest)
stream_told conf status reason listed bytes mid s rest one two three spelt t =
    let told : BaseStream = stream_of conf status reason listed t.asked t.made t.owed in
    let proper : IsProperStream told = record {
      conf = one;
      reason = two;
      listed = three;
      asked = t.proper_asked;
      made = t.proper_made;
      owed = t.proper_owed;
    } in
    let five = joined_spelling bytes (first_bytes conf status reason listed) mid (kinds.maybe_bytes kinds.number_bytes t.asked) t.mid spelt t.one in
    let six = joined_spelling bytes (first_bytes conf status reason listed ++ kinds.maybe_bytes kinds.number_bytes t.asked) t.mid (kinds.number_bytes t.made) t.end five t.two in
    let all = joined_spelling bytes ((first_bytes conf status reason listed ++ kinds.maybe_bytes kinds.number_bytes t.asked) ++ kinds.number_bytes t.made) t.end (lists.list_bytes parts.token_bytes t.owed) rest six t.three in
    (subst IsProperStream t.is proper, all ∙ ap (λ x. parts.stream_bytes x ++ rest) t.is)

stream_spells : (bytes : List ℕ) (s : BaseStream) (rest : List ℕ) → AreBytes bytes → parts.stream bytes ≡ Ok (s, rest) → IsProperStream s × (bytes ≡ parts.stream_bytes s ++ rest)
stream_spells bytes s rest are h =
    let a = then_spells _ _ _ confs_agree after_conf bytes s rest are h in
    let b = then_spells _ _ _ statuses_agree (after_status a.value) a.mid s rest a.are a.then in
    let c = then_spells _ _ _ words_agree (after_reason a.value b.value) b.mid s rest b.are b.then in
    let d = then_spells _ _ _ subject_lists_agree (after_listed a.value b.value c.value) c.mid s rest c.are c.then in
    stream_told a.value b.value c.value d.value bytes d.mid s rest a.proper c.proper d.proper
    (spelled_4 bytes (entry.conf_bytes a.value) a.mid (entry.status_bytes b.value) b.mid (kinds.maybe_bytes kinds.text_bytes c.value) c.mid (lists.list_bytes entry.subject_bytes d.value) d.mid
    a.spelt b.spelt c.spelt d.spelt)
    (late_spells a.value b.value c.value d.value d.mid s rest d.are d.then)

streams_agree : Agrees IsProperStream parts.stream_bytes parts.stream
streams_agree = record { reads = stream_reads; spells = stream_spells }

pub stream_lists_agree : Agrees (IsProperLong IsProperStream) (lists.list_bytes parts.stream_bytes) (lists.list parts.stream)
stream_lists_agree = longs_agree IsProperStream parts.stream_bytes parts.stream streams_agree
