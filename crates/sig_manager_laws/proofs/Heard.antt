-- What the transmitter tells of a client's streams is heard.
use Rattle.std.proofs.Common.{◌≡◌, ◌∙◌, ap, ℕ, List, [], ◌∷◌, map, All, Option, Some, None, IsUtf8, Ok, refl, arith, codes}
use Rattle.std.specs.Prelude.{option_map}
use Rattle.std.proofs.lemmas.List.Elements.{All-cons, All-nil, All-head, All-tail}
use Rattle.serde_json.specs.Data.{string, object, Members}
use Rattle.serde_json.specs.View.{items_of}
use Rattle.serde_json.specs.Written.{compact_text}
use Rattle.sig_json.specs.Json.{json_of, text_member}
use Rattle.sig_json.proofs.ReadBack.{canon_reads}
use Rattle.sig_terms.specs.declared.configuration.StreamConf.{StreamConf}
use Rattle.sig_history.specs.Streams.{Stream}
use Rattle.sig_stream.specs.Configurations.{conf_data, fixed_members, put_given, texts_data}
use Rattle.sig_calls.specs.Configuring.{confs_of}
use Rattle.sig_calls.specs.Table.{told_of}
use Rattle.sig_txroutes.specs.Documents.{confs_data}
use Rattle.sig_manager.specs.Listing.{listed_at, listed_of}
use Rattle.sig_manager_laws.specs.Heard.{CanBeTold, ConfigurationsAreHeard, IsTold, StreamsAreHeard, listed_for, streams_of}
use Rattle.sig_manager_laws.proofs.ReadBack.{read_back}
use Rattle.sig_manager_laws.proofs.Told.{confs_canonical, confs_shallow}

-- ---- one configuration

abbrev members : Option (List (List ℕ)) → Option (List ℕ) → StreamConf → List ℕ → Members
members requested description conf base =
    put_given (codes "description") (option_map (λ t. string t) description)
    (put_given (codes "events_requested") (option_map texts_data requested)
    (fixed_members conf base))

name_found : (r : Option (List (List ℕ))) (t : Option (List ℕ)) (conf : StreamConf) (base : List ℕ)
    → text_member (codes "stream_id") (object (members r t conf base)) ≡ Some conf.stream
name_found None None conf base = refl
name_found None (Some t) conf base = refl
name_found (Some r) None conf base = refl
name_found (Some r) (Some t) conf base = refl

words_found : (r : Option (List (List ℕ))) (t : Option (List ℕ)) (conf : StreamConf) (base : List ℕ)
    → text_member (codes "description") (object (members r t conf base)) ≡ t
words_found None None conf base = refl
words_found None (Some t) conf base = refl
words_found (Some r) None conf base = refl
words_found (Some r) (Some t) conf base = refl

one_heard : (conf : StreamConf) (base : List ℕ) → IsTold conf → listed_at (conf_data conf base) ≡ Ok (listed_for conf)
one_heard conf base h =
    rw (
      name_found conf.requested conf.description conf base,
      words_found conf.requested conf.description conf base,
      read_back conf base h.taken,
    ) refl

-- ---- the list

all_heard : (confs : List StreamConf) (base : List ℕ) → All IsTold confs
    → listed_of (items_of (map (λ conf. conf_data conf base) confs)) ≡ Ok (map listed_for confs)
all_heard [] base h = refl
all_heard (conf ∷ confs) base h =
    rw (one_heard conf base (All-head IsTold conf confs h), all_heard confs base (All-tail IsTold conf confs h)) refl

spelled : (confs : List StreamConf) (base : List ℕ) → IsUtf8 base → All IsTold confs
    → json_of (compact_text (confs_data confs base)) ≡ Some (confs_data confs base)
spelled confs base one h = canon_reads (confs_data confs base) (confs_canonical confs base one h) (omega (arith, confs_shallow confs base))

pub confs_heard : ConfigurationsAreHeard
confs_heard rules confs one h = rw (spelled confs rules.base one h, all_heard confs rules.base h) refl

-- ---- the streams of a client

all_told : (streams : List Stream) → All CanBeTold streams → All IsTold (map (λ (s : Stream). s.conf) streams)
all_told [] h = All-nil IsTold
all_told (s ∷ ss) h = All-cons IsTold s.conf (map (λ (t : Stream). t.conf) ss) (All-head CanBeTold s ss h) (all_told ss (All-tail CanBeTold s ss h))

mapped : (streams : List Stream) → map listed_for (map (λ (s : Stream). s.conf) streams) ≡ map (λ (s : Stream). listed_for s.conf) streams
mapped [] = refl
mapped (s ∷ ss) = ap (λ ls. listed_for s.conf ∷ ls) (mapped ss)

pub streams_heard : StreamsAreHeard
unfolding told_of
streams_heard rules sum client now one h =
    confs_heard rules (confs_of client sum.parts.streams) one (all_told (streams_of client sum) h)
    ∙ ap (λ ls. Ok ls) (mapped (streams_of client sum))
