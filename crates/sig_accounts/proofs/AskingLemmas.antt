-- Streams that need not be asked of news about a simple subject.
use Rattle.std.proofs.Common.{◌≡◌, ◌∙◌, ap, sym, List, Bool, true, false, not, ◌&&◌, refl, true≢false}
use Rattle.std.specs.List.{list_any}
use Rattle.sig_subject.specs.Matching.{is_identical, is_matching}
use Rattle.sig_subject.specs.declared.simple.Simple.{Simple}
use Rattle.sig_subject.specs.declared.subject.Subject.{Subject}
use Rattle.sig_subject.specs.declared.subject.Subject.TheVariants as subject
use Rattle.sig_event.specs.Events.{uri_of}
use Rattle.sig_event.specs.declared.news.News.{News}
use Rattle.sig_terms.specs.Fitting.{delivers, fits}
use Rattle.sig_terms.specs.declared.want.Defaults.{Defaults}
use Rattle.sig_terms.specs.declared.want.Defaults.TheVariants as defaults
use Rattle.sig_history.specs.Streams.{Stream, is_disabled, is_due}
use Rattle.sig_accounts.specs.Listening.{hears_all, is_simple}
use Rattle.sig_accounts.proofs.SubjectLemmas.{any_alike}

-- a simple subject matches those that are identical to it, and no other
alone : (s : Simple) (t : Subject) → is_matching (subject.Simple s) t ≡ is_identical (subject.Simple s) t
alone s (subject.Simple t) = refl
alone s (subject.Complex parts) = refl

unfit : (d : Defaults) (listed : List Subject) (s : Subject) → is_simple s ≡ true → hears_all d ≡ false → list_any (is_identical s) listed ≡ false
    → fits d listed s ≡ false
unfit defaults.All listed s simple all none = absurd (true≢false all)
unfit defaults.None listed (subject.Simple s) simple all none = any_alike _ _ (alone s) listed ∙ none
unfit defaults.None listed (subject.Complex parts) simple all none = absurd (true≢false (sym simple))

off : (a b : Bool) {c : Bool} → c ≡ false → (a && b && c) ≡ false
off true true is = is
off true false is = refl
off false b is = refl

pub undue : (n : News) (s : Stream) (heard : Bool) → is_simple n.subject ≡ true → (list_any (is_identical n.subject) s.listed ≡ true → heard ≡ true)
    → heard ≡ false → hears_all s.conf.defaults ≡ false → is_due n s ≡ false
undue n s heard simple may unheard all =
    off (not (is_disabled s.status)) (delivers s.conf (uri_of n.event))
    (unfit s.conf.defaults s.listed n.subject simple all
    (elim (list_any (is_identical n.subject) s.listed) as (λ b. list_any (is_identical n.subject) s.listed ≡ b → b ≡ false) [
      | true ↦ λ lists. absurd (true≢false (sym (may lists) ∙ unheard))
      | false ↦ λ lists. refl
    ] refl))
