-- How the configuration of a stream is written (OpenID Shared Signals Framework 1.0, section 8.1.1).
use Rattle.std.specs.Prelude.{ℕ, List, [], ◌∷◌, ◌++◌, map, Option, Some, None, option_map, codes}
use Rattle.std.specs.List.{filter}
use Rattle.serde_json.specs.Data.{Data, string, array, object, number, unsigned, Members, no_members, member, put}
use Rattle.serde_json.specs.View.{items_of}
use Rattle.sig_event.specs.Types.{published_types, uri_of_type}
use Rattle.sig_terms.specs.declared.configuration.StreamConf.{StreamConf}
use Rattle.sig_terms.specs.declared.want.Delivery.{Delivery}
use Rattle.sig_terms.specs.declared.want.Delivery.TheVariants.{Poll, Push}
use Rattle.sig_terms.specs.Fitting.{is_requested}
use Rattle.sig_stream.specs.Wants.{poll_method, push_method}

-- a list of texts
abbrev pub texts_data : List (List ℕ) → Data
texts_data texts = array (items_of (map (λ t. string t) texts))

-- for whom its tokens are: a text where there is one, and else a list (RFC 7519, section 4.1.3)
abbrev pub audience_data : List (List ℕ) → Data
audience_data (text ∷ []) = string text
audience_data texts = texts_data texts

-- the URIs of the types that transmitters publish, in order
abbrev pub supported : List (List ℕ)
supported = map uri_of_type published_types

-- those of them that are delivered: the requested ones, and all where nothing was requested
abbrev pub delivered : Option (List (List ℕ)) → List (List ℕ)
delivered requested = filter (λ uri. is_requested uri requested) supported

-- the members, with this one where it is given
abbrev pub put_given : List ℕ → Option Data → Members → Members
put_given name None ms = ms
put_given name (Some d) ms = put name d ms

-- where a stream's receiver asks for its tokens
abbrev pub poll_url : List ℕ → List ℕ → List ℕ
poll_url base stream = base ++ codes "/poll/" ++ stream

abbrev pub poll_data : List ℕ → List ℕ → Data
poll_data base stream = object
    (member (codes "endpoint_url") (string (poll_url base stream))
    (member (codes "method") (string poll_method) no_members))

abbrev pub push_data : List ℕ → Option (List ℕ) → Data
push_data url authorization = object
    (put_given (codes "authorization_header") (option_map (λ t. string t) authorization)
    (member (codes "endpoint_url") (string url)
    (member (codes "method") (string push_method) no_members)))

-- how its tokens are delivered, under a prefix of addresses and the stream's name (OpenID Shared Signals Framework 1.0, section 6.1)
abbrev pub delivery_data : Delivery → List ℕ → List ℕ → Data
delivery_data Poll base stream = poll_data base stream
delivery_data (Push endpoint url authorization) base stream = push_data url authorization

-- the members that each configuration has
abbrev pub fixed_members : StreamConf → List ℕ → Members
fixed_members conf base =
    member (codes "aud") (audience_data conf.aud)
    (member (codes "delivery") (delivery_data conf.delivery base conf.stream)
    (member (codes "events_delivered") (texts_data (delivered conf.requested))
    (member (codes "events_supported") (texts_data supported)
    (member (codes "iss") (string conf.iss)
    (member (codes "min_verification_interval") (number (unsigned conf.interval))
    (member (codes "stream_id") (string conf.stream) no_members))))))

-- the object of a configuration, under a prefix of addresses
abbrev pub conf_data : StreamConf → List ℕ → Data
conf_data conf base = object
    (put_given (codes "description") (option_map (λ t. string t) conf.description)
    (put_given (codes "events_requested") (option_map texts_data conf.requested)
    (fixed_members conf base)))
