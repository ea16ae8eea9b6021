-- What a receiver sets of a stream stays within the limits, whatever fact follows that fits.
use Rattle.std.proofs.Common.{◌≡◌, ℕ, List, true, false, Option, Some, None, if◌then◌else◌}
use Rattle.std.specs.Prelude.{⊤}
use Rattle.std.proofs.lemmas.Bool.{and_parts}
use Rattle.sig_event.specs.declared.news.News.{News}
use Rattle.sig_terms.specs.declared.fact.Fact.{Fact}
use Rattle.sig_terms.specs.declared.fact.Fact.TheVariants.{Created, Configured, StatusSet, Listed, Unlisted, Deleted, Published, Settled, Asked}
use Rattle.sig_history.specs.Streams.{Stream, is_named, list_added, list_removed, stands, with_asked, with_conf, with_listed, with_status}
use Rattle.sig_history.specs.Facts.{changed_by, configured, made_by, of_named, stream_after, tells, told_one}
use Rattle.sig_history.specs.Owed.{Sum}
use Rattle.sig_history.specs.Sound.{Fits, is_apt, is_small, may_be_made}

abbrev pub IsSmallStream : Stream → Type 0
IsSmallStream s = is_small s.conf.requested s.conf.delivery s.conf.description ≡ true

-- what a fact sets of a stream that stands is within the limits
abbrev pub SetsSmall : Fact → Type 0
SetsSmall (Created conf time) = ⊤
SetsSmall (Configured stream requested delivery description) = is_small requested delivery description ≡ true
SetsSmall (StatusSet stream status reason operator time) = ⊤
SetsSmall (Listed stream subject) = ⊤
SetsSmall (Unlisted stream subject) = ⊤
SetsSmall (Deleted stream) = ⊤
SetsSmall (Published id news time) = ⊤
SetsSmall (Settled stream items) = ⊤
SetsSmall (Asked stream state time) = ⊤

pub fits_sets : (sum : Sum) (f : Fact) → Fits sum f → SetsSmall f
fits_sets sum (Created conf time) fits = tt
fits_sets sum (Configured stream requested delivery description) fits =
    let f : Fact = Configured stream requested delivery description in
    let apt = and_parts (may_be_made (made_by sum.parts f)) (is_apt sum f) fits in
    (and_parts (stands stream sum.parts.streams) (is_small requested delivery description) apt.1).1
fits_sets sum (StatusSet stream status reason operator time) fits = tt
fits_sets sum (Listed stream subject) fits = tt
fits_sets sum (Unlisted stream subject) fits = tt
fits_sets sum (Deleted stream) fits = tt
fits_sets sum (Published id news time) fits = tt
fits_sets sum (Settled stream items) fits = tt
fits_sets sum (Asked stream state time) fits = tt

named_small : (name : List ℕ) (change : Stream → Stream) (s : Stream) → IsSmallStream s → IsSmallStream (change s)
    → IsSmallStream (of_named name change s)
named_small name change s old new =
    elim (is_named name s) as (λ b. IsSmallStream (if b then change s else s)) [ true ↦ new | false ↦ old ]

changed_small : (f : Fact) (s : Stream) → SetsSmall f → IsSmallStream s → IsSmallStream (changed_by f s)
changed_small (Created conf time) s sets small = small
changed_small (Configured stream requested delivery description) s sets small =
    named_small stream (λ (t : Stream). with_conf (configured requested delivery description t.conf) t) s small sets
changed_small (StatusSet stream status reason operator time) s sets small = named_small stream (with_status status reason) s small small
changed_small (Listed stream subject) s sets small =
    named_small stream (λ (t : Stream). with_listed (list_added subject t.listed) t) s small small
changed_small (Unlisted stream subject) s sets small =
    named_small stream (λ (t : Stream). with_listed (list_removed subject t.listed) t) s small small
changed_small (Deleted stream) s sets small = small
changed_small (Published id news time) s sets small = small
changed_small (Settled stream items) s sets small = small
changed_small (Asked stream state time) s sets small = named_small stream (with_asked time) s small small

told_small : (o : Option News) (s : Stream) → IsSmallStream s → IsSmallStream (told_one o s)
told_small None s small = small
told_small (Some n) s small = small

pub after_small : (f : Fact) (s : Stream) → SetsSmall f → IsSmallStream s → IsSmallStream (stream_after f s)
after_small f s sets small = told_small (tells f s) (changed_by f s) (changed_small f s sets small)
