-- Streams that stand, and whose they are.
use Rattle.std.proofs.Common.{◌≡◌, ◌∙◌, ap, sym, subst, ℕ, List, [], ◌∷◌, map, filter, Bool, true, false, bytes_eq, Option, Some, None, IfSome, if◌then◌else◌, refl, inl, inr}
use Rattle.std.specs.Prelude.{◌↔◌, Contains}
use Rattle.std.specs.List.{AllByRecursion}
use Rattle.sig_terms.specs.declared.configuration.StreamConf.{StreamConf}
use Rattle.sig_terms.specs.declared.fact.Fact.{Fact}
use Rattle.sig_history.specs.Owed.{Sum, stream_named}
use Rattle.sig_history.specs.Sound.{Fits}
use Rattle.sig_history.specs.Streams.{Count, Made, Stream, client_in, is_named}
use Rattle.sig_history.specs.Whole.{AreWhole, IsWhole}
use Rattle.sig_history.proofs.ChangeLemmas.{named_is}
use Rattle.sig_history.proofs.StreamLemmas.{same_text, text_itself}
use Rattle.sig_history.proofs.WholeLemmas.{whole_after, whole_distinct}
use Rattle.sig_owing.proofs.SoundLemmas.{unchanged}
use Rattle.sig_calls.specs.Configuring.{confs_of}
use Rattle.sig_calls.specs.Speaking.{HasConf}
use Rattle.sig_fact_laws.proofs.MemberLemmas.{first_there, kept_there, later_there, none_there, same_there, there_before, there_cases}
use Rattle.sig_history.proofs.SpentLemmas.{each_named}
use Rattle.sig_answer_laws.specs.Tokens.{IsOwn, after}

-- ---- what is whole

pub after_whole : (sum : Sum) (change : Option Fact) → IsWhole sum → IfSome change (Fits sum) → IsWhole (after sum change)
after_whole sum None whole fits = subst IsWhole (sym (unchanged sum whole)) whole
after_whole sum (Some f) whole fits = whole_after sum f whole fits

-- what holds of each stream holds of the stream of a name
named_has : (P : Stream → Type 0) (name : List ℕ) (ss : List Stream) (s : Stream) → AllByRecursion P ss → stream_named name ss ≡ Some s → P s
named_has P name [] s all is = cc is
named_has P name (t ∷ ts) s all is = elim (is_named name t) as (λ b. (if b then Some t else stream_named name ts) ≡ Some s → P s) [
  | true ↦ λ this. let same : t ≡ s = cc in subst P same all.0
  | false ↦ λ later. named_has P name ts s all.1 later
] is

each_client : (sid : List ℕ) (created : List Count) (ss : List Stream) (os : List (List Made)) → AreWhole sid created ss os
    → AllByRecursion (λ (s : Stream). client_in s.conf.stream ≡ s.client) ss
each_client sid created [] os whole = tt
each_client sid created (s ∷ ss) [] whole = absurd whole
each_client sid created (s ∷ ss) (o ∷ os) whole = (whole.0.client, each_client sid created ss os whole.3)

-- the stream of a name is that of the client whose name begins it
pub named_client : (sum : Sum) (name : List ℕ) (s : Stream) → IsWhole sum → stream_named name sum.parts.streams ≡ Some s → client_in name ≡ s.client
named_client sum name s whole is =
    ap client_in (sym (same_text s.conf.stream name (named_is name sum.parts.streams s is)))
    ∙ named_has (λ (t : Stream). client_in t.conf.stream ≡ t.client) name sum.parts.streams s
    (each_client sum.parts.store_id sum.parts.created sum.parts.streams sum.owed whole) is

-- a configuration of a client's stream that stands after the call
pub own_conf : (sum : Sum) (change : Option Fact) (client : List ℕ) (conf : StreamConf) → IsWhole (after sum change) → client_in conf.stream ≡ client
    → HasConf (after sum change) conf → (s : Stream) × IsOwn (after sum change) client conf.stream s × (s.conf ≡ conf)
own_conf sum change client conf whole own has =
    let (s, named, same) = has in
    (s, record { named = named; whose = sym (named_client (after sum change) conf.stream s whole named) ∙ own }, same)

-- ---- all streams of a client

there_named : (name : List ℕ) (ss : List Stream) (s : Stream) → stream_named name ss ≡ Some s → Contains ss s
there_named name [] s is = cc is
there_named name (t ∷ ts) s is = elim (is_named name t) as (λ b. (if b then Some t else stream_named name ts) ≡ Some s → Contains (t ∷ ts) s) [
  | true ↦ λ this. let same : t ≡ s = cc in same_there t s ts same
  | false ↦ λ later. later_there t s ts (there_named name ts s later)
] is

at_each : (P : Stream → Type 0) (ss : List Stream) (s : Stream) → AllByRecursion P ss → Contains ss s → P s
at_each P [] s all there = absurd (none_there s there)
at_each P (t ∷ ts) s all there = elim (there_cases t s ts there) [
  | inl same ↦ subst P same all.0
  | inr later ↦ at_each P ts s all.1 later
]

of_map : (ss : List Stream) (conf : StreamConf) → Contains (map (λ (s : Stream). s.conf) ss) conf → (s : Stream) × Contains ss s × (s.conf ≡ conf)
of_map [] conf there = absurd (none_there conf there)
of_map (s ∷ ss) conf there = elim (there_cases s.conf conf (map (λ (t : Stream). t.conf) ss) there) [
  | inl same ↦ (s, first_there s ss, same)
  | inr later ↦ let (t, is, same) = of_map ss conf later in (t, later_there s t ss is, same)
]

in_map : (ss : List Stream) (s : Stream) → Contains ss s → Contains (map (λ (t : Stream). t.conf) ss) s.conf
in_map [] s there = absurd (none_there s there)
in_map (t ∷ ts) s there = elim (there_cases t s ts there) [
  | inl same ↦ same_there t.conf s.conf (map (λ (u : Stream). u.conf) ts) (ap (λ (u : Stream). u.conf) same)
  | inr later ↦ later_there t.conf s.conf (map (λ (u : Stream). u.conf) ts) (in_map ts s later)
]

passed : (p : Stream → Bool) (ss : List Stream) (s : Stream) → Contains (filter p ss) s → p s ≡ true
passed p [] s there = absurd (none_there s there)
passed p (t ∷ ts) s there = elim (p t) as (λ b. p t ≡ b → Contains (if b then t ∷ filter p ts else filter p ts) s → p s ≡ true) [
  | true ↦ λ passes both. elim (there_cases t s (filter p ts) both) [
    | inl same ↦ ap p (sym same) ∙ passes
    | inr later ↦ passed p ts s later
  ]
  | false ↦ λ fails later. passed p ts s later
] refl there

pub confs_each : (sum : Sum) (client : List ℕ) → IsWhole sum → (conf : StreamConf)
    → Contains (confs_of client sum.parts.streams) conf ↔ ((s : Stream) × IsOwn sum client conf.stream s × (s.conf ≡ conf))
confs_each sum client whole conf = (means, where_own)
  where
    ss : List Stream
    ss = sum.parts.streams

    means : Contains (confs_of client ss) conf → (s : Stream) × IsOwn sum client conf.stream s × (s.conf ≡ conf)
    means there =
        let (s, is, same) = of_map (filter (λ (t : Stream). bytes_eq t.client client) ss) conf there in
        let named : stream_named s.conf.stream ss ≡ Some s =
        at_each (λ (t : Stream). stream_named t.conf.stream ss ≡ Some t) ss s
        (each_named ss (whole_distinct sum.parts.store_id sum.parts.created ss sum.owed whole))
        (there_before (λ (t : Stream). bytes_eq t.client client) ss s is) in (
          s,
          record {
            named = ap (λ (c : StreamConf). stream_named c.stream ss) (sym same) ∙ named;
            whose = same_text s.client client (passed (λ (t : Stream). bytes_eq t.client client) ss s is);
          },
          same,
        )

    where_own : ((s : Stream) × IsOwn sum client conf.stream s × (s.conf ≡ conf)) → Contains (confs_of client ss) conf
    where_own (s, own, same) =
        subst (Contains (confs_of client ss)) same
        (in_map (filter (λ (t : Stream). bytes_eq t.client client) ss) s
        (kept_there (λ (t : Stream). bytes_eq t.client client) ss s (there_named conf.stream ss s own.named) (text_itself s.client client own.whose)))
