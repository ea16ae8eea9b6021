-- No fraction stands in what the transmitter tells.
use Rattle.std.proofs.Common.{◌≡◌, ◌||◌, ℕ, List, [], ◌∷◌, Bool, true, false, ◌==◌, Option, Some, None, Ordering, Less, Equal, Greater, nat_cmp, refl, codes}
use Rattle.std.specs.Prelude.{IfSome, if◌then◌else◌, option_map}
use Rattle.std.specs.Cmp.Lexicographic.{slice_cmp}
use Rattle.std.specs.Ordering.{match_ordering}
use Rattle.serde_json.specs.Data.{Data, string, number, unsigned, Members, no_members, member, put}
use Rattle.serde_json.specs.Written.{has_float, members_have_float}
use Rattle.sig_event.specs.declared.status.Status.{Status}
use Rattle.sig_terms.specs.declared.configuration.StreamConf.{StreamConf}
use Rattle.sig_terms.specs.declared.refused_token.RefusedToken.{RefusedToken}
use Rattle.sig_terms.specs.declared.rules.Rules.{Rules}
use Rattle.sig_terms.specs.declared.standing.Standing.{Standing}
use Rattle.sig_terms.specs.declared.token.Issued.{Issued}
use Rattle.sig_terms.specs.declared.want.Delivery.{Delivery}
use Rattle.sig_terms.specs.declared.want.Delivery.TheVariants.{Poll, Push}
use Rattle.sig_stream.specs.Configurations.{audience_data, conf_data, delivered, delivery_data, fixed_members, put_given, supported, texts_data}
use Rattle.sig_stream.specs.Wants.{push_method}
use Rattle.sig_txroutes.specs.Documents.{confs_data, due_of, metadata, published_data, pushed_data, refused_data, refused_token_data, reported_data, standing_data, standings_data, status_data, streams_data, told_data, told_page_data, told_streams_data, tokens_data}
use Rattle.sig_txroutes.specs.declared.told_stream.Pushed.{Pushed}
use Rattle.sig_txroutes.specs.declared.told_stream.ToldStream.{ToldStream}

neither : (a b : Bool) → a ≡ false → b ≡ false → a || b ≡ false
neither a b h k = rw (h, k) refl

both : (a b : Bool) → a || b ≡ false → (a ≡ false) × (b ≡ false)
both false b h = (refl, h)
both true b h = cc

-- a member more
put_whole : (k : List ℕ) (d : Data) (ms : Members) → has_float d ≡ false → members_have_float ms ≡ false → members_have_float (put k d ms) ≡ false
put_whole k d no_members one rest = neither (has_float d) false one refl
put_whole k d (member l e ms) one rest = let here = both (has_float e) (members_have_float ms) rest in at (slice_cmp nat_cmp k l) here.0 (put_whole k d ms one here.1) here.1
  where
    at : (o : Ordering) → has_float e ≡ false → members_have_float (put k d ms) ≡ false → members_have_float ms ≡ false
        → members_have_float (match_ordering o (member k d (member l e ms)) (member l d ms) (member l e (put k d ms))) ≡ false
    at Less here more left = neither (has_float d) (has_float e || members_have_float ms) one rest
    at Equal here more left = neither (has_float d) (members_have_float ms) one left
    at Greater here more left = neither (has_float e) (members_have_float (put k d ms)) here more

given_whole : (k : List ℕ) (o : Option Data) (ms : Members) → IfSome o (λ d. has_float d ≡ false) → members_have_float ms ≡ false → members_have_float (put_given k o ms) ≡ false
given_whole k None ms one rest = rest
given_whole k (Some d) ms one rest = put_whole k d ms one rest

-- ---- texts

text_whole : (o : Option (List ℕ)) → IfSome (option_map (λ t. string t) o) (λ d. has_float d ≡ false)
text_whole None = tt
text_whole (Some t) = refl

texts_whole : (texts : List (List ℕ)) → has_float (texts_data texts) ≡ false
texts_whole [] = refl
texts_whole (text ∷ texts) = texts_whole texts

given_texts_whole : (o : Option (List (List ℕ))) → IfSome (option_map texts_data o) (λ d. has_float d ≡ false)
given_texts_whole None = tt
given_texts_whole (Some texts) = texts_whole texts

-- ---- configurations

audience_whole : (texts : List (List ℕ)) → has_float (audience_data texts) ≡ false
audience_whole [] = refl
audience_whole (text ∷ []) = refl
audience_whole (text ∷ other ∷ texts) = texts_whole texts

delivery_whole : (d : Delivery) (base stream : List ℕ) → has_float (delivery_data d base stream) ≡ false
delivery_whole Poll base stream = refl
delivery_whole (Push endpoint url authorization) base stream =
    given_whole (codes "authorization_header") (option_map (λ t. string t) authorization)
    (member (codes "endpoint_url") (string url) (member (codes "method") (string push_method) no_members))
    (text_whole authorization) refl

fixed_whole : (conf : StreamConf) (base : List ℕ) → members_have_float (fixed_members conf base) ≡ false
fixed_whole conf base =
    rw (audience_whole conf.aud, delivery_whole conf.delivery base conf.stream, texts_whole (delivered conf.requested), texts_whole supported) refl

pub conf_whole : (conf : StreamConf) (base : List ℕ) → has_float (conf_data conf base) ≡ false
conf_whole conf base =
    given_whole (codes "description") (option_map (λ t. string t) conf.description) _ (text_whole conf.description)
    (given_whole (codes "events_requested") (option_map texts_data conf.requested) (fixed_members conf base) (given_texts_whole conf.requested) (fixed_whole conf base))

pub confs_whole : (confs : List StreamConf) (base : List ℕ) → has_float (confs_data confs base) ≡ false
confs_whole [] base = refl
confs_whole (conf ∷ confs) base = neither (has_float (conf_data conf base)) (has_float (confs_data confs base)) (conf_whole conf base) (confs_whole confs base)

-- ---- the other documents

pub metadata_whole : (rules : Rules) → has_float (metadata rules) ≡ false
metadata_whole rules = refl

pub status_whole : (stream : List ℕ) (status : Status) (reason : Option (List ℕ)) → has_float (status_data stream status reason) ≡ false
status_whole stream status reason =
    given_whole (codes "reason") (option_map (λ t. string t) reason) _ (text_whole reason) refl

tokens_whole : (store_id : List ℕ) (tokens : List Issued) → has_float (tokens_data store_id tokens) ≡ false
tokens_whole store_id [] = refl
tokens_whole store_id (token ∷ tokens) = tokens_whole store_id tokens

pub published_whole : (store_id : List ℕ) (tokens : List Issued) → has_float (published_data store_id tokens) ≡ false
published_whole store_id tokens = neither (has_float (tokens_data store_id tokens)) false (tokens_whole store_id tokens) refl

-- ---- how streams stand

oldest_whole : (o : Option ℕ) → IfSome (option_map (λ t. number (unsigned t)) o) (λ d. has_float d ≡ false)
oldest_whole None = tt
oldest_whole (Some t) = refl

standing_whole : (s : Standing) → has_float (standing_data s) ≡ false
standing_whole s = given_whole (codes "oldest") (option_map (λ t. number (unsigned t)) s.oldest) _ (oldest_whole s.oldest) refl

streams_whole : (standings : List Standing) → has_float (streams_data standings) ≡ false
streams_whole [] = refl
streams_whole (s ∷ standings) = neither (has_float (standing_data s)) (has_float (streams_data standings)) (standing_whole s) (streams_whole standings)

pub standings_whole : (next : ℕ) (standings : List Standing) → has_float (standings_data next standings) ≡ false
standings_whole next standings = neither (has_float (streams_data standings)) false (streams_whole standings) refl

-- ---- with what came of attempts

due_whole : (p : Pushed) → IfSome (due_of p) (λ d. has_float d ≡ false)
due_whole p = by (p.late == 0)
  where
    by : (none : Bool) → IfSome (if none then None else Some (number (unsigned p.due))) (λ d. has_float d ≡ false)
    by true = tt
    by false = refl

pushed_whole : (o : Option Pushed) → IfSome (option_map pushed_data o) (λ d. has_float d ≡ false)
pushed_whole None = tt
pushed_whole (Some p) = given_whole (codes "due") (due_of p) _ (due_whole p) refl

told_whole : (t : ToldStream) → has_float (told_data t) ≡ false
told_whole t = given_whole (codes "push") (option_map pushed_data t.push) _ (pushed_whole t.push) (standing_whole t.standing)

told_streams_whole : (streams : List ToldStream) → has_float (told_streams_data streams) ≡ false
told_streams_whole [] = refl
told_streams_whole (t ∷ streams) = neither (has_float (told_data t)) (has_float (told_streams_data streams)) (told_whole t) (told_streams_whole streams)

pub told_page_whole : (next : ℕ) (streams : List ToldStream) → has_float (told_page_data next streams) ≡ false
told_page_whole next streams = neither (has_float (told_streams_data streams)) false (told_streams_whole streams) refl

-- ---- tokens that were reported as faulty

refused_token_whole : (t : RefusedToken) → has_float (refused_token_data t) ≡ false
refused_token_whole t =
    given_whole (codes "code") (option_map (λ text. string text) t.code) _ (text_whole t.code)
    (given_whole (codes "publish_id") (option_map (λ text. string text) t.id) _ (text_whole t.id) refl)

reported_whole : (tokens : List RefusedToken) → has_float (reported_data tokens) ≡ false
reported_whole [] = refl
reported_whole (t ∷ tokens) = neither (has_float (refused_token_data t)) (has_float (reported_data tokens)) (refused_token_whole t) (reported_whole tokens)

pub refused_whole : (next : ℕ) (tokens : List RefusedToken) → has_float (refused_data next tokens) ≡ false
refused_whole next tokens = neither (has_float (reported_data tokens)) false (reported_whole tokens) refl
