-- What responses tell, and what they don't.
use Rattle.std.proofs.Common.{◌≡◌, ap, refl, arith, [], ◌∷◌, false}
use Rattle.sig_terms.specs.declared.answer.Answer.TheVariants as answer
use Rattle.sig_terms.specs.declared.rules.Rules.{Rules}
use Rattle.sig_delivery.specs.Sets.{sets_text}
use Rattle.sig_http.specs.Answering.{is_json, json}
use Rattle.serde_json.specs.Written.{compact_text}
use Rattle.sig_txroutes.specs.Answers.{telling}
use Rattle.sig_txroutes.specs.Documents.{confs_data, metadata}
use Rattle.sig_txroutes.specs.Laws.{NoCacheKeeps, NoContentIsEmpty, PagesRestOnTheKey, TellsNoSecrets}

same_metadata : (one other : Rules) → one.issuer ≡ other.issuer → one.base ≡ other.base → one.defaults ≡ other.defaults → metadata one ≡ metadata other
same_metadata one other issuer base defaults = rw (issuer, base, defaults) refl

pub tells_no_secrets : TellsNoSecrets
tells_no_secrets answer.Meta one other isnt issuer base defaults = ap (λ d. record { status = 200; headers = is_json ∷ []; close = false; body = compact_text d }) (same_metadata one other issuer base defaults)
tells_no_secrets (answer.Made conf) one other isnt issuer base defaults = rw base refl
tells_no_secrets (answer.Conf conf) one other isnt issuer base defaults = rw base refl
tells_no_secrets (answer.Confs confs) one other isnt issuer base defaults = ap (λ b. telling 200 (confs_data confs b)) base
tells_no_secrets answer.Gone one other isnt issuer base defaults = refl
tells_no_secrets (answer.State stream status reason token) one other isnt issuer base defaults = refl
tells_no_secrets answer.Added one other isnt issuer base defaults = refl
tells_no_secrets answer.Removed one other isnt issuer base defaults = refl
tells_no_secrets (answer.Asked stream number) one other isnt issuer base defaults = refl
tells_no_secrets (answer.Sets tokens more) one other isnt issuer base defaults = absurd (isnt (tokens, more, refl))
tells_no_secrets (answer.Published store_id tokens) one other isnt issuer base defaults = refl
tells_no_secrets (answer.Standings next standings) one other isnt issuer base defaults = refl
tells_no_secrets (answer.Refused next tokens) one other isnt issuer base defaults = refl
tells_no_secrets (answer.Figures publications standings) one other isnt issuer base defaults = refl
tells_no_secrets (answer.Delivering stream) one other isnt issuer base defaults = refl
tells_no_secrets (answer.Handed tokens) one other isnt issuer base defaults = refl
tells_no_secrets (answer.Settled count) one other isnt issuer base defaults = refl
tells_no_secrets answer.NotFound one other isnt issuer base defaults = refl
tells_no_secrets answer.TooMany one other isnt issuer base defaults = refl
tells_no_secrets answer.Conflict one other isnt issuer base defaults = refl
tells_no_secrets answer.Disabled one other isnt issuer base defaults = refl
tells_no_secrets (answer.Early until) one other isnt issuer base defaults = refl
tells_no_secrets (answer.Long size) one other isnt issuer base defaults = refl

pub pages_rest_on_the_key : PagesRestOnTheKey
pages_rest_on_the_key tokens more one other key = ap (λ k. json 200 (sets_text tokens more k)) key

pub no_content_is_empty : NoContentIsEmpty
no_content_is_empty answer.Meta rules = λ h. absurd (omega arith)
no_content_is_empty (answer.Made conf) rules = λ h. absurd (omega arith)
no_content_is_empty (answer.Conf conf) rules = λ h. absurd (omega arith)
no_content_is_empty (answer.Confs confs) rules = λ h. absurd (omega arith)
no_content_is_empty answer.Gone rules = λ h. refl
no_content_is_empty (answer.State stream status reason token) rules = λ h. absurd (omega arith)
no_content_is_empty answer.Added rules = λ h. refl
no_content_is_empty answer.Removed rules = λ h. refl
no_content_is_empty (answer.Asked stream number) rules = λ h. refl
no_content_is_empty (answer.Sets tokens more) rules = λ h. absurd (omega arith)
no_content_is_empty (answer.Published store_id tokens) rules = λ h. absurd (omega arith)
no_content_is_empty (answer.Standings next standings) rules = λ h. absurd (omega arith)
no_content_is_empty (answer.Refused next tokens) rules = λ h. absurd (omega arith)
no_content_is_empty (answer.Figures publications standings) rules = λ h. absurd (omega arith)
no_content_is_empty (answer.Delivering stream) rules = λ h. refl
no_content_is_empty (answer.Handed tokens) rules = λ h. refl
no_content_is_empty (answer.Settled count) rules = λ h. refl
no_content_is_empty answer.NotFound rules = λ h. refl
no_content_is_empty answer.TooMany rules = λ h. refl
no_content_is_empty answer.Conflict rules = λ h. refl
no_content_is_empty answer.Disabled rules = λ h. refl
no_content_is_empty (answer.Early until) rules = λ h. refl
no_content_is_empty (answer.Long size) rules = λ h. absurd (omega arith)

pub no_cache_keeps : NoCacheKeeps
no_cache_keeps answer.Meta rules isnt = absurd (isnt refl)
no_cache_keeps (answer.Made conf) rules isnt = refl
no_cache_keeps (answer.Conf conf) rules isnt = refl
no_cache_keeps (answer.Confs confs) rules isnt = refl
no_cache_keeps answer.Gone rules isnt = refl
no_cache_keeps (answer.State stream status reason token) rules isnt = refl
no_cache_keeps answer.Added rules isnt = refl
no_cache_keeps answer.Removed rules isnt = refl
no_cache_keeps (answer.Asked stream number) rules isnt = refl
no_cache_keeps (answer.Sets tokens more) rules isnt = refl
no_cache_keeps (answer.Published store_id tokens) rules isnt = refl
no_cache_keeps (answer.Standings next standings) rules isnt = refl
no_cache_keeps (answer.Refused next tokens) rules isnt = refl
no_cache_keeps (answer.Figures publications standings) rules isnt = refl
no_cache_keeps (answer.Delivering stream) rules isnt = refl
no_cache_keeps (answer.Handed tokens) rules isnt = refl
no_cache_keeps (answer.Settled count) rules isnt = refl
no_cache_keeps answer.NotFound rules isnt = refl
no_cache_keeps answer.TooMany rules isnt = refl
no_cache_keeps answer.Conflict rules isnt = refl
no_cache_keeps answer.Disabled rules isnt = refl
no_cache_keeps (answer.Early until) rules isnt = refl
no_cache_keeps (answer.Long size) rules isnt = refl
