-- The order of clients, and the streams of one client among others.
use Rattle.std.proofs.Common.{◌≡◌, ◌∙◌, ap, sym, subst, ℕ, ◌+◌, ◌≤◌, List, [], ◌∷◌, ◌++◌, map, filter, Bool, true, false, not, ◌&&◌, bytes_eq, Option, Some, None, if◌then◌else◌, refl, inl, inr, Less, Equal, Greater, nat_cmp, true≢false, arith}
use Rattle.std.specs.Prelude.{⊤, nat_lt}
use Rattle.std.specs.Cmp.Lexicographic.{slice_cmp}
use Rattle.std.specs.Ordering.{is_lt, ordering_reverse}
use Rattle.std.proofs.lemmas.Bool.{and_from, and_parts, false_from_ne_true, lt-ltb, or_cases, or_parts}
use Rattle.std.proofs.lemmas.Cmp.{nat_list_cmp_total}
use Rattle.sig_terms.specs.declared.fact.Fact.{Fact}
use Rattle.sig_terms.specs.declared.fact.Fact.TheVariants.{Created}
use Rattle.sig_history.specs.Streams.{Stream, Count, Parts, client_in, comes_before, count_one, created_by, is_before, is_named, put_in_order}
use Rattle.sig_history.specs.Facts.{brought_by, counted, new_stream, parts_after, placed, removed_by, stream_after, without}
use Rattle.sig_isolation.specs.Isolation.{is_of_client}
use Rattle.sig_history.proofs.WholeLemmas.{other_comes}
use Rattle.sig_history.proofs.StreamLemmas.{IsSameStream, after_same, counts_grow, one_counted, same_text}

-- ---- texts in order

is_less : (a b : List ℕ) → comes_before a b ≡ true → slice_cmp nat_cmp a b ≡ Less
is_less a b h = elim (slice_cmp nat_cmp a b) as (λ o. is_lt o ≡ true → o ≡ Less) [
  | Less ↦ λ less. refl
  | Equal ↦ λ less. cc less
  | Greater ↦ λ less. cc less
] h

comes_on : (a b c : List ℕ) → comes_before a b ≡ true → comes_before b c ≡ true → comes_before a c ≡ true
comes_on a b c first second = ap is_lt (nat_list_cmp_total.trans a b c (is_less a b first) (is_less b c second))

not_back : (a b : List ℕ) → comes_before a b ≡ true → comes_before b a ≡ false
not_back a b h = ap is_lt (nat_list_cmp_total.antisymm b a ∙ ap ordering_reverse (is_less a b h))

not_itself : (a : List ℕ) → comes_before a a ≡ false
not_itself a = false_from_ne_true (comes_before a a) (λ h. true≢false (sym h ∙ not_back a a h))

-- what doesn't come before a text doesn't come before those that it doesn't come after
not_before : (c t u : List ℕ) → comes_before t c ≡ false → comes_before u t ≡ false → comes_before u c ≡ false
not_before c t u first second =
    elim (bytes_eq t c) as (λ b. bytes_eq t c ≡ b → comes_before u c ≡ false) [
      | true ↦ λ same. subst (λ n. comes_before u n ≡ false) (same_text t c same) second
      | false ↦ λ other. false_from_ne_true (comes_before u c) (λ h. true≢false (sym (comes_on u c t h (other_comes t c first other)) ∙ second))
    ] refl

-- ---- streams in order of their clients

-- none of these is of a client that comes before
abbrev pub Follow : List ℕ → List Stream → Type 0
Follow c [] = ⊤
Follow c (t ∷ ts) = (comes_before t.client c ≡ false) × Follow c ts

-- a stream is its client's by its name, and was counted
pub record IsCounted (counts : List Count) (s : Stream) : Type 0 where
  pub named : client_in s.conf.stream ≡ s.client
  pub number : s.number ≤ created_by s.client counts

abbrev pub AreOrderly : List Count → List Stream → Type 0
AreOrderly counts [] = ⊤
AreOrderly counts (s ∷ ss) = IsCounted counts s × Follow s.client ss × AreOrderly counts ss

follow_more : (c d : List ℕ) (ss : List Stream) → comes_before d c ≡ false → Follow d ss → Follow c ss
follow_more c d [] low follow = tt
follow_more c d (t ∷ ts) low follow = (not_before c d t.client low follow.0, follow_more c d ts low follow.1)

follow_put : (c : List ℕ) (s : Stream) (ss : List Stream) → comes_before s.client c ≡ false → Follow c ss → Follow c (put_in_order s ss)
follow_put c s [] low follow = (low, tt)
follow_put c s (t ∷ ts) low follow =
    elim (is_before t s) as (λ b. Follow c (if b then t ∷ put_in_order s ts else s ∷ t ∷ ts)) [
      | true ↦ (follow.0, follow_put c s ts low follow.1)
      | false ↦ (low, follow)
    ]

orderly_put : (counts : List Count) (s : Stream) (ss : List Stream) → IsCounted counts s → AreOrderly counts ss → AreOrderly counts (put_in_order s ss)
orderly_put counts s [] new orderly = (new, tt, tt)
orderly_put counts s (t ∷ ts) new orderly =
    elim (is_before t s) as (λ b. is_before t s ≡ b → AreOrderly counts (if b then t ∷ put_in_order s ts else s ∷ t ∷ ts)) [
      | true ↦ λ before. (orderly.0, follow_put t.client s ts (after t s before) orderly.1, orderly_put counts s ts new orderly.2)
      | false ↦ λ last. let low : comes_before t.client s.client ≡ false = (or_parts (comes_before t.client s.client) _ last).0 in
          (new, (low, follow_more s.client t.client ts low orderly.1), orderly)
    ] refl
  where
    after : (t s : Stream) → is_before t s ≡ true → comes_before s.client t.client ≡ false
    after t s before = elim (or_cases (comes_before t.client s.client) (bytes_eq t.client s.client && nat_lt t.number s.number) before) [
      | inl first ↦ not_back t.client s.client first
      | inr both ↦ subst (λ c. comes_before c t.client ≡ false) (same_text t.client s.client (and_parts (bytes_eq t.client s.client) (nat_lt t.number s.number) both).0)
          (not_itself t.client)
    ]

follow_map : (c : List ℕ) (f : Fact) (ss : List Stream) → Follow c ss → Follow c (map (stream_after f) ss)
follow_map c f [] follow = tt
follow_map c f (t ∷ ts) follow =
    (ap (λ n. comes_before n c) (after_same f t).client ∙ follow.0, follow_map c f ts follow.1)

counted_after : (counts : List Count) (f : Fact) (s : Stream) → IsCounted counts s → IsCounted counts (stream_after f s)
counted_after counts f s h =
    let same : IsSameStream s (stream_after f s) = after_same f s in
    record {
      named = ap client_in same.name ∙ h.named ∙ sym same.client;
      number = subst (λ n. n ≤ created_by (stream_after f s).client counts) (sym same.number) (subst (λ c. s.number ≤ created_by c counts) (sym same.client) h.number);
    }

orderly_map : (counts : List Count) (f : Fact) (ss : List Stream) → AreOrderly counts ss → AreOrderly counts (map (stream_after f) ss)
orderly_map counts f [] orderly = tt
orderly_map counts f (s ∷ ss) orderly = (
  counted_after counts f s orderly.0,
  subst (λ c. Follow c (map (stream_after f) ss)) (sym (after_same f s).client) (follow_map s.client f ss orderly.1),
  orderly_map counts f ss orderly.2,
)

orderly_count : (client : List ℕ) (counts : List Count) (ss : List Stream) → AreOrderly counts ss → AreOrderly (count_one client counts) ss
orderly_count client counts [] orderly = tt
orderly_count client counts (s ∷ ss) orderly = (
  record { named = orderly.0.named; number = omega (arith, orderly.0.number, counts_grow client s.client counts) },
  orderly.1,
  orderly_count client counts ss orderly.2,
)

follow_filter : (c : List ℕ) (p : Stream → Bool) (ss : List Stream) → Follow c ss → Follow c (filter p ss)
follow_filter c p [] follow = tt
follow_filter c p (t ∷ ts) follow =
    elim (p t) as (λ b. Follow c (if b then t ∷ filter p ts else filter p ts)) [
      | true ↦ (follow.0, follow_filter c p ts follow.1)
      | false ↦ follow_filter c p ts follow.1
    ]

orderly_filter : (counts : List Count) (p : Stream → Bool) (ss : List Stream) → AreOrderly counts ss → AreOrderly counts (filter p ss)
orderly_filter counts p [] orderly = tt
orderly_filter counts p (s ∷ ss) orderly =
    elim (p s) as (λ b. AreOrderly counts (if b then s ∷ filter p ss else filter p ss)) [
      | true ↦ (orderly.0, follow_filter s.client p ss orderly.1, orderly_filter counts p ss orderly.2)
      | false ↦ orderly_filter counts p ss orderly.2
    ]

orderly_without : (counts : List Count) (o : Option (List ℕ)) (ss : List Stream) → AreOrderly counts ss → AreOrderly counts (without o ss)
orderly_without counts None ss orderly = orderly
orderly_without counts (Some name) ss orderly = orderly_filter counts (λ (s : Stream). not (is_named name s)) ss orderly

placed_orderly : (parts : Parts) (f : Fact) (ss : List Stream) → AreOrderly parts.created ss
    → AreOrderly (counted (brought_by parts f) parts.created) (placed (brought_by parts f) ss)
placed_orderly parts (Created conf time) ss orderly =
    let client : List ℕ = client_in conf.stream in
    orderly_put (count_one client parts.created) (new_stream client (created_by client parts.created + 1) conf) ss
    (record { named = refl; number = omega (arith, one_counted client parts.created) })
    (orderly_count client parts.created ss orderly)
placed_orderly parts f ss orderly = orderly

pub orderly_after : (parts : Parts) (f : Fact) → AreOrderly parts.created parts.streams → AreOrderly (parts_after parts f).created (parts_after parts f).streams
orderly_after parts f orderly =
    placed_orderly parts f (without (removed_by f) (map (stream_after f) parts.streams))
    (orderly_without parts.created (removed_by f) (map (stream_after f) parts.streams) (orderly_map parts.created f parts.streams orderly))

-- ---- the streams of one client

abbrev pub own : List ℕ → List Stream → List Stream
own client ss = filter (is_of_client client) ss

-- what is put among others of another client
pub put_other : (client : List ℕ) (s : Stream) (ss : List Stream) → is_of_client client s ≡ false → own client (put_in_order s ss) ≡ own client ss
put_other client s [] other = rw other refl
put_other client s (t ∷ ts) other =
    elim (is_before t s) as (λ b. own client (if b then t ∷ put_in_order s ts else s ∷ t ∷ ts) ≡ own client (t ∷ ts)) [
      | true ↦ ap (λ l. if is_of_client client t then t ∷ l else l) (put_other client s ts other)
      | false ↦ ap (λ b. if b then s ∷ own client (t ∷ ts) else own client (t ∷ ts)) other
    ]

-- after streams of clients that come later there are none
own_none : (client later : List ℕ) (counts : List Count) (ss : List Stream) → comes_before client later ≡ true → Follow later ss → AreOrderly counts ss
    → own client ss ≡ []
own_none client later counts [] before follow orderly = refl
own_none client later counts (s ∷ ss) before follow orderly =
    let other : is_of_client client s ≡ false = false_from_ne_true (is_of_client client s) (λ is.
    let same : s.client ≡ client = sym orderly.0.named ∙ same_text (client_in s.conf.stream) client is in
    true≢false (sym before ∙ subst (λ c. comes_before c later ≡ false) same follow.0)) in
    ap (λ b. if b then s ∷ own client ss else own client ss) other ∙ own_none client later counts ss before follow.1 orderly.2

-- a client's next stream stands after its others
pub put_own : (client : List ℕ) (counts : List Count) (s : Stream) (ss : List Stream) → s.client ≡ client → is_of_client client s ≡ true
    → s.number ≡ created_by client counts + 1 → AreOrderly counts ss → own client (put_in_order s ss) ≡ own client ss ++ s ∷ []
put_own client counts s [] named this next orderly = rw this refl
put_own client counts s (t ∷ ts) named this next orderly =
    elim (is_before t s) as (λ b. is_before t s ≡ b → own client (if b then t ∷ put_in_order s ts else s ∷ t ∷ ts) ≡ own client (t ∷ ts) ++ s ∷ []) [
      | true ↦ λ before. ap (λ l. if is_of_client client t then t ∷ l else l) (put_own client counts s ts named this next orderly.2)
          ∙ sym (joins (is_of_client client t) t (own client ts) (s ∷ []))
      | false ↦ λ last. let later : comes_before client t.client ≡ true = comes_later client counts s t named next orderly.0 last in
          let none : own client (t ∷ ts) ≡ [] = own_none client t.client counts (t ∷ ts) later (not_itself t.client, orderly.1) orderly in
          ap (λ b. if b then s ∷ own client (t ∷ ts) else own client (t ∷ ts)) this ∙ ap (λ l. s ∷ l) none ∙ ap (λ l. l ++ s ∷ []) (sym none)
    ] refl
  where
    joins : (b : Bool) (t : Stream) (xs ys : List Stream) → (if b then t ∷ xs else xs) ++ ys ≡ (if b then t ∷ (xs ++ ys) else xs ++ ys)
    joins true t xs ys = refl
    joins false t xs ys = refl

    comes_later : (client : List ℕ) (counts : List Count) (s t : Stream) → s.client ≡ client → s.number ≡ created_by client counts + 1 → IsCounted counts t
        → is_before t s ≡ false → comes_before client t.client ≡ true
    comes_later client counts s t named next counted last =
        let parts = or_parts (comes_before t.client s.client) (bytes_eq t.client s.client && nat_lt t.number s.number) last in
        subst (λ c. comes_before c t.client ≡ true) named
        (other_comes t.client s.client parts.0 (false_from_ne_true (bytes_eq t.client s.client) (λ same.
        let text : t.client ≡ client = same_text t.client s.client same ∙ named in
        let low : t.number ≤ created_by client counts = subst (λ c. t.number ≤ created_by c counts) text counted.number in
        true≢false (sym (and_from (bytes_eq t.client s.client) (nat_lt t.number s.number) same (lt-ltb t.number s.number (omega arith))) ∙ parts.1))))
