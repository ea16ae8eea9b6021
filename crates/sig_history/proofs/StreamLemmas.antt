-- Streams: what every fact keeps of each, their places, and the counts of clients.
use Rattle.std.proofs.Common.{◌≡◌, ◌∙◌, ap, sym, subst, ℕ, ◌+◌, ◌≤◌, List, [], ◌∷◌, map, Bool, true, false, not, ◌||◌, ◌&&◌, bytes_eq, Option, Some, None, if◌then◌else◌, refl, arith}
use Rattle.std.specs.Prelude.{nat_lt}
use Rattle.std.proofs.lemmas.Bool.{both_ways, false_from_ne_true, or_from, or_parts}
use Rattle.std.proofs.lemmas.Slice.Eq.{bytes_eq-Decides}
use Rattle.sig_event.specs.declared.news.News.{News}
use Rattle.sig_terms.specs.declared.fact.Fact.{Fact}
use Rattle.sig_terms.specs.declared.fact.Fact.TheVariants.{Created, Configured, StatusSet, Listed, Unlisted, Deleted, Published, Settled, Asked}
use Rattle.sig_history.specs.Streams.{Stream, Count, comes_before, count_one, created_by, is_before, is_named, list_added, list_removed, put_in_order, stands, with_asked, with_conf, with_listed, with_status}
use Rattle.sig_history.specs.Facts.{changed_by, configured, counted, of_named, placed, stream_after, tells, told_one, without}

-- ---- texts

pub same_text : (a b : List ℕ) → bytes_eq a b ≡ true → a ≡ b
same_text a b h = (bytes_eq-Decides a b).0 h

pub text_itself : (a b : List ℕ) → a ≡ b → bytes_eq a b ≡ true
text_itself a b h = (bytes_eq-Decides a b).1 h

pub other_text : (a b : List ℕ) → bytes_eq a b ≡ false → bytes_eq b a ≡ false
other_text a b h =
    false_from_ne_true (bytes_eq b a) (λ same. both_ways (bytes_eq a b) h (text_itself a b (sym (same_text b a same))))

-- ---- what every fact keeps of a stream

-- whose it is, its number, its name, its issuer and its audience
pub record IsSameStream (s t : Stream) : Type 0 where
  pub client : t.client ≡ s.client
  pub number : t.number ≡ s.number
  pub name : t.conf.stream ≡ s.conf.stream
  pub iss : t.conf.iss ≡ s.conf.iss
  pub aud : t.conf.aud ≡ s.conf.aud

same_itself : (s : Stream) → IsSameStream s s
same_itself s = record { client = refl; number = refl; name = refl; iss = refl; aud = refl }

named_same : (name : List ℕ) (change : Stream → Stream) (s : Stream) → IsSameStream s (change s) → IsSameStream s (of_named name change s)
named_same name change s same =
    elim (is_named name s) as (λ b. IsSameStream s (if b then change s else s)) [ true ↦ same | false ↦ same_itself s ]

changed_same : (f : Fact) (s : Stream) → IsSameStream s (changed_by f s)
changed_same (Created conf time) s = same_itself s
changed_same (Configured stream requested delivery description) s =
    named_same stream (λ (t : Stream). with_conf (configured requested delivery description t.conf) t) s
    (record { client = refl; number = refl; name = refl; iss = refl; aud = refl })
changed_same (StatusSet stream status reason operator time) s =
    named_same stream (with_status status reason) s (record { client = refl; number = refl; name = refl; iss = refl; aud = refl })
changed_same (Listed stream subject) s =
    named_same stream (λ (t : Stream). with_listed (list_added subject t.listed) t) s
    (record { client = refl; number = refl; name = refl; iss = refl; aud = refl })
changed_same (Unlisted stream subject) s =
    named_same stream (λ (t : Stream). with_listed (list_removed subject t.listed) t) s
    (record { client = refl; number = refl; name = refl; iss = refl; aud = refl })
changed_same (Deleted stream) s = same_itself s
changed_same (Published id news time) s = same_itself s
changed_same (Settled stream items) s = same_itself s
changed_same (Asked stream state time) s =
    named_same stream (with_asked time) s (record { client = refl; number = refl; name = refl; iss = refl; aud = refl })

named_made : (name : List ℕ) (change : Stream → Stream) (s : Stream) → (change s).made ≡ s.made → (of_named name change s).made ≡ s.made
named_made name change s same =
    elim (is_named name s) as (λ b. (if b then change s else s).made ≡ s.made) [ true ↦ same | false ↦ refl ]

pub changed_made : (f : Fact) (s : Stream) → (changed_by f s).made ≡ s.made
changed_made (Created conf time) s = refl
changed_made (Configured stream requested delivery description) s =
    named_made stream (λ (t : Stream). with_conf (configured requested delivery description t.conf) t) s refl
changed_made (StatusSet stream status reason operator time) s = named_made stream (with_status status reason) s refl
changed_made (Listed stream subject) s = named_made stream (λ (t : Stream). with_listed (list_added subject t.listed) t) s refl
changed_made (Unlisted stream subject) s = named_made stream (λ (t : Stream). with_listed (list_removed subject t.listed) t) s refl
changed_made (Deleted stream) s = refl
changed_made (Published id news time) s = refl
changed_made (Settled stream items) s = refl
changed_made (Asked stream state time) s = named_made stream (with_asked time) s refl

told_same : (o : Option News) (s t : Stream) → IsSameStream s t → IsSameStream s (told_one o t)
told_same None s t same = same
told_same (Some n) s t same =
    record { client = same.client; number = same.number; name = same.name; iss = same.iss; aud = same.aud }

pub after_same : (f : Fact) (s : Stream) → IsSameStream s (stream_after f s)
after_same f s = told_same (tells f s) s (changed_by f s) (changed_same f s)

pub stands_after : (name : List ℕ) (f : Fact) (ss : List Stream) → stands name (map (stream_after f) ss) ≡ stands name ss
stands_after name f [] = refl
stands_after name f (s ∷ ss) =
    ap (λ n. bytes_eq n name || stands name (map (stream_after f) ss)) (after_same f s).name
    ∙ ap (λ b. is_named name s || b) (stands_after name f ss)

-- whether the stream of a client and number stands before another
abbrev precedes : List ℕ → ℕ → List ℕ → ℕ → Bool
precedes a m b n = comes_before a b || (bytes_eq a b && nat_lt m n)

pub order_after : (f : Fact) (s t : Stream) → is_before (stream_after f s) (stream_after f t) ≡ is_before s t
order_after f s t =
    let one : IsSameStream s (stream_after f s) = after_same f s in
    let two : IsSameStream t (stream_after f t) = after_same f t in
    ap (λ c. precedes c (stream_after f s).number (stream_after f t).client (stream_after f t).number) one.client
    ∙ ap (λ n. precedes s.client n (stream_after f t).client (stream_after f t).number) one.number
    ∙ ap (λ c. precedes s.client s.number c (stream_after f t).number) two.client
    ∙ ap (λ n. precedes s.client s.number t.client n) two.number

-- ---- a stream in its place

or_swap : (a b c : Bool) → (a || (b || c)) ≡ (b || (a || c))
or_swap true true c = refl
or_swap true false c = refl
or_swap false b c = refl

or_true : (b : Bool) → (b || true) ≡ true
or_true true = refl
or_true false = refl

pub stands_put : (name : List ℕ) (s : Stream) (ss : List Stream) → stands name (put_in_order s ss) ≡ (is_named name s || stands name ss)
stands_put name s [] = refl
stands_put name s (t ∷ ts) =
    elim (is_before t s) as (λ b. stands name (if b then t ∷ put_in_order s ts else s ∷ t ∷ ts) ≡ (is_named name s || (is_named name t || stands name ts))) [
      | true ↦ ap (λ b. is_named name t || b) (stands_put name s ts) ∙ or_swap (is_named name t) (is_named name s) (stands name ts)
      | false ↦ refl
    ]

pub stands_placed : (name : List ℕ) (o : Option Stream) (ss : List Stream) → stands name ss ≡ true → stands name (placed o ss) ≡ true
stands_placed name None ss here = here
stands_placed name (Some s) ss here =
    stands_put name s ss ∙ ap (λ b. is_named name s || b) here ∙ or_true (is_named name s)

-- ---- a stream that is taken away

-- whether the stream of this name is taken away
abbrev pub is_taken : Option (List ℕ) → List ℕ → Bool
is_taken None name = false
is_taken (Some gone) name = bytes_eq name gone

-- it stands no more
pub gone_without : (name : List ℕ) (ss : List Stream) → stands name (without (Some name) ss) ≡ false
gone_without name [] = refl
gone_without name (s ∷ ss) =
    let rest : List Stream = without (Some name) ss in
    elim (is_named name s) as (λ b. is_named name s ≡ b → stands name (if not b then s ∷ rest else rest) ≡ false) [
      | true ↦ λ is. gone_without name ss
      | false ↦ λ other. or_from (is_named name s) (stands name rest) other (gone_without name ss)
    ] refl

-- any other stands as before
pub stands_without : (name : List ℕ) (o : Option (List ℕ)) (ss : List Stream) → is_taken o name ≡ false → stands name (without o ss) ≡ stands name ss
stands_without name None ss other = refl
stands_without name (Some gone) [] other = refl
stands_without name (Some gone) (s ∷ ss) other =
    let rest : List Stream = without (Some gone) ss in
    elim (is_named gone s) as (λ b. is_named gone s ≡ b → stands name (if not b then s ∷ rest else rest) ≡ (is_named name s || stands name ss)) [
      | true ↦ λ is. stands_without name (Some gone) ss other
          ∙ ap (λ b. b || stands name ss) (sym (ap (λ n. bytes_eq n name) (same_text s.conf.stream gone is) ∙ other_text name gone other))
      | false ↦ λ stays. ap (λ b. is_named name s || b) (stands_without name (Some gone) ss other)
    ] refl

-- what didn't stand doesn't then
pub absent_without : (name : List ℕ) (o : Option (List ℕ)) (ss : List Stream) → stands name ss ≡ false → stands name (without o ss) ≡ false
absent_without name None ss absent = absent
absent_without name (Some gone) [] absent = absent
absent_without name (Some gone) (s ∷ ss) absent =
    let rest : List Stream = without (Some gone) ss in
    let parts = or_parts (is_named name s) (stands name ss) absent in
    elim (is_named gone s) as (λ b. stands name (if not b then s ∷ rest else rest) ≡ false) [
      | true ↦ absent_without name (Some gone) ss parts.1
      | false ↦ or_from (is_named name s) (stands name rest) parts.0 (absent_without name (Some gone) ss parts.1)
    ]

-- ---- counts

pub one_counted : (client : List ℕ) (counts : List Count) → created_by client (count_one client counts) ≡ created_by client counts + 1
one_counted client [] = rw (text_itself client client refl) refl
one_counted client (c ∷ cs) =
    elim (bytes_eq c.client client) as (λ b. b ≡ bytes_eq c.client client
    → created_by client (if b then record { client = client; count = c.count + 1 } ∷ cs else c ∷ count_one client cs)
    ≡ (if b then c.count else created_by client cs) + 1) [
      | true ↦ λ is. rw (text_itself client client refl) refl
      | false ↦ λ is. rw (sym is) (one_counted client cs)
    ] refl

pub counts_grow : (client other : List ℕ) (counts : List Count) → created_by other counts ≤ created_by other (count_one client counts)
counts_grow client other [] = omega arith
counts_grow client other (c ∷ cs) =
    elim (bytes_eq c.client client) as (λ b. b ≡ bytes_eq c.client client
    → created_by other (c ∷ cs) ≤ created_by other (if b then record { client = client; count = c.count + 1 } ∷ cs else c ∷ count_one client cs)) [
      | true ↦ λ is. subst (λ name. (if bytes_eq c.client other then c.count else created_by other cs)
          ≤ (if bytes_eq name other then c.count + 1 else created_by other cs)) (same_text c.client client (sym is))
          (elim (bytes_eq c.client other) as (λ b. (if b then c.count else created_by other cs) ≤ (if b then c.count + 1 else created_by other cs)) [
            | true ↦ omega arith
            | false ↦ omega arith
          ])
      | false ↦ λ is. elim (bytes_eq c.client other) as (λ b. (if b then c.count else created_by other cs)
          ≤ (if b then c.count else created_by other (count_one client cs))) [
            | true ↦ omega arith
            | false ↦ counts_grow client other cs
          ]
    ] refl

-- what is brought lowers no client's count
pub counted_grow : (o : Option Stream) (other : List ℕ) (counts : List Count) → created_by other counts ≤ created_by other (counted o counts)
counted_grow None other counts = omega arith
counted_grow (Some s) other counts = counts_grow s.client other counts
