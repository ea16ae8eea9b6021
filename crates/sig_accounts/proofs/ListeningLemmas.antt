-- The index of who lists a subject, where a stream comes, goes, or lists others.
use Rattle.std.proofs.Common.{◌≡◌, ◌∙◌, ap, ap₂, sym, ℕ, zero, suc, ◌+◌, ◌<◌, ◌≤◌, List, [], ◌∷◌, ◌++◌, filter, length, map, replicate, get_or, Bool, true, false, not, ◌&&◌, ◌||◌, Option, None, Some, if◌then◌else◌, refl, arith}
use Rattle.std.specs.List.{insert, list_any, remove, slice_get}
use Rattle.std.specs.Map.{lookup}
use Rattle.std.specs.Option.{option_map, option_map_or}
use Rattle.std.specs.Prelude.{nat_eq, nat_lt}
use Rattle.std.proofs.lemmas.Bool.{ltb-false}
use Rattle.std.proofs.Math.ListN.{set}
use Rattle.std.proofs.lemmas.List.{length-map, length-set, map-set}
use Rattle.std.proofs.lemmas.List.Folds.{list_any-append}
use Rattle.std.proofs.lemmas.Option.{none-some, same_Some, slice_get-get_or, slice_get-map, slice_get_within}
use Rattle.sig_subject.proofs.Equal.{equal_identical}
use Rattle.sig_subject.proofs.Identity.{decides_identity}
use Rattle.sig_subject.specs.Matching.{is_identical}
use Rattle.sig_subject.specs.declared.subject.Subject.{Subject}
use Rattle.sig_history.specs.Streams.{list_added, list_removed}
use Rattle.sig_accounts.specs.Listening.{AreListening, IsListening, Listening, Seating, is_among}
use Rattle.sig_event.specs.declared.news.News.{News}
use Rattle.sig_history.specs.Streams.{is_due}
use Rattle.sig_accounts.specs.declared.debt.Notice.{Notice}
use Rattle.sig_accounts.specs.declared.debt.Said.TheVariants as said
use Rattle.sig_accounts.specs.Owings.{Balance, Owing, list_of, owing_heard, owing_in, owing_noted, owing_told}
use Rattle.sig_accounts.proofs.ItemLemmas.{beside}
use Rattle.sig_accounts.proofs.ListsLemmas.{either_way, or_none}
use Rattle.sig_accounts.proofs.SeatLemmas.{changed_and, changed_or, closed_apart, closed_at, closed_below, closed_long, listed_found, opened_apart, opened_at, opened_below, opened_long}

-- ---- lists

any_added : (s x : Subject) (l : List Subject) → list_any (is_identical s) (list_added x l) ≡ (list_any (is_identical s) l || is_identical x s)
any_added s x l =
    elim (list_any (is_identical x) l) as (λ b. list_any (is_identical x) l ≡ b
    → list_any (is_identical s) (if b then l else l ++ x ∷ []) ≡ (list_any (is_identical s) l || is_identical x s)) [
      | true ↦ λ there.
          elim (is_identical x s) as (λ b. is_identical x s ≡ b → list_any (is_identical s) l ≡ (list_any (is_identical s) l || b)) [
            | true ↦ λ same.
                let here : list_any (is_identical s) l ≡ true = ap (λ y. list_any (is_identical y) l) (sym ((decides_identity x s).0 same)) ∙ there in
                here ∙ ap (λ b. b || true) (sym here)
            | false ↦ λ other. or_none (list_any (is_identical s) l)
          ] refl
      | false ↦ λ absent.
          list_any-append (is_identical s) l (x ∷ [])
          ∙ ap (λ b. list_any (is_identical s) l || b) (sym (or_none (is_identical s x)) ∙ either_way s x)
    ] refl

any_removed : (s x : Subject) (ls : List Subject) → list_any (is_identical s) (list_removed x ls) ≡ (list_any (is_identical s) ls && not (is_identical x s))
any_removed s x [] = refl
any_removed s x (l ∷ ls) =
    let rest : list_any (is_identical s) (list_removed x ls) ≡ (list_any (is_identical s) ls && not (is_identical x s)) = any_removed s x ls in
    elim (is_identical x l) as (λ b. is_identical x l ≡ b
    → list_any (is_identical s) (if not b then l ∷ list_removed x ls else list_removed x ls)
    ≡ ((is_identical s l || list_any (is_identical s) ls) && not (is_identical x s))) [
      | true ↦ λ same.
          let this : is_identical s l ≡ is_identical x s = ap (is_identical s) (sym ((decides_identity x l).0 same)) ∙ either_way s x in
          rest ∙ taken (is_identical x s) (list_any (is_identical s) ls)
          ∙ ap (λ b. (b || list_any (is_identical s) ls) && not (is_identical x s)) (sym this)
      | false ↦ λ other.
          ap (λ b. is_identical s l || b) rest
          ∙ elim (is_identical x s) as (λ b. is_identical x s ≡ b
          → (is_identical s l || (list_any (is_identical s) ls && not b)) ≡ ((is_identical s l || list_any (is_identical s) ls) && not b)) [
            | true ↦ λ same.
                let this : is_identical s l ≡ false = ap (λ y. is_identical y l) (sym ((decides_identity x s).0 same)) ∙ other in
                ap (λ b. b || (list_any (is_identical s) ls && false)) this
                ∙ ap (λ b. (b || list_any (is_identical s) ls) && false) (sym this)
            | false ↦ λ apart. left (is_identical s l) (list_any (is_identical s) ls)
          ] refl
    ] refl
  where
    taken : (e a : Bool) → (a && not e) ≡ ((e || a) && not e)
    taken true true = refl
    taken true false = refl
    taken false true = refl
    taken false false = refl

    left : (b a : Bool) → (b || (a && true)) ≡ ((b || a) && true)
    left true a = refl
    left false a = refl

-- ---- the index

module _ (ks : List ℕ) (next : ℕ) (under : List (Subject × Seating)) (lists : List (List Subject)) (place : ℕ) (h : AreListening ks next under lists) where
  pub opened : place ≤ length ks → AreListening (insert ks place next) (next + 1) under (insert lists place [])
  opened within = record {
    long = opened_long ks place next within ∙ ap suc h.long ∙ sym (opened_long lists place [] (omega (arith, within, h.long)));
    apart = opened_apart next ks place within h.below h.apart;
    below = opened_below next ks place h.below;
    exact = λ s n. h.exact s n ∙ sym (opened_at s n ks lists place next h.long within);
  }

  module _ (now : List (Subject × Seating)) (seat : ℕ) (list : List Subject) (here : slice_get ks place ≡ Some seat) (at : slice_get lists place ≡ Some list) where
    pub entered : (x : Subject) → ((s : Subject) (n : ℕ) → is_among s n now ≡ (is_among s n under || (is_identical x s && nat_eq n seat)))
        → AreListening ks next now (set lists place (list_added x list))
    entered x added = record {
      long = h.long ∙ sym (length-set lists place (list_added x list));
      apart = h.apart;
      below = h.below;
      exact = λ s n. added s n ∙ ap (λ b. b || (is_identical x s && nat_eq n seat)) (h.exact s n)
          ∙ sym (changed_or s n ks lists place seat list (list_added x list) (is_identical x s) here at (any_added s x list));
    }

    pub left : (x : Subject) → ((s : Subject) (n : ℕ) → is_among s n now ≡ (is_among s n under && not (is_identical x s && nat_eq n seat)))
        → AreListening ks next now (set lists place (list_removed x list))
    left x removed = record {
      long = h.long ∙ sym (length-set lists place (list_removed x list));
      apart = h.apart;
      below = h.below;
      exact = λ s n. removed s n ∙ ap (λ b. b && not (is_identical x s && nat_eq n seat)) (h.exact s n)
          ∙ sym (changed_and s n ks lists place seat list (list_removed x list) (is_identical x s) h.apart here at (any_removed s x list));
    }

    pub closed : ((s : Subject) (n : ℕ) → is_among s n now ≡ (is_among s n under && not (list_any (is_identical s) list && nat_eq n seat)))
        → AreListening (remove ks place) next now (remove lists place)
    closed gone =
        let more : suc (length (remove ks place)) ≡ length ks = closed_long ks place seat here in
        let less : suc (length (remove lists place)) ≡ length lists = closed_long lists place list at in
        record {
          long = omega (arith, more, less, h.long);
          apart = closed_apart ks place h.apart;
          below = closed_below next ks place h.below;
          exact = λ s n. gone s n ∙ ap (λ b. b && not (list_any (is_identical s) list && nat_eq n seat)) (h.exact s n)
              ∙ sym (closed_at s n ks lists place seat list h.apart here at);
        }

  -- a place at which no stream stands
  pub past : {P : Type 0} (held : List ℕ) → held ≡ ks → (list : List Subject) → slice_get lists place ≡ Some list → nat_lt place (length held) ≡ false → P
  past held same list at off =
      let within : place < length lists = slice_get_within lists place list at in
      let beyond : length held ≤ place = ltb-false place (length held) off in
      let long : length held ≡ length ks = ap length same in
      absurd (omega (arith, within, beyond, long, h.long))

-- with the same seats under each subject
pub copied : (ks : List ℕ) (next : ℕ) (under now : List (Subject × Seating)) (lists : List (List Subject))
    → ((s : Subject) (n : ℕ) → is_among s n now ≡ is_among s n under) → AreListening ks next under lists → AreListening ks next now lists
copied ks next under now lists same h = record { long = h.long; apart = h.apart; below = h.below; exact = λ s n. same s n ∙ h.exact s n }

-- ---- marks

pub no_marks : (s : Subject) (under : List (Subject × Seating)) (ks : List ℕ) → lookup (is_identical s) under ≡ None
    → replicate (length ks) false ≡ map (λ k. is_among s k under) ks
no_marks s under [] none = refl
no_marks s under (k ∷ ks) none =
    ap₂ (λ (b : Bool) (bs : List Bool). b ∷ bs) (sym (ap (λ o. list_any (nat_eq k) (option_map_or (λ (a : Seating). a.seats) o [])) none)) (no_marks s under ks none)

pub marks_by : (s : Subject) (under : List (Subject × Seating)) (ks : List ℕ) (v : Seating) → lookup (is_identical s) under ≡ Some v
    → map (λ k. list_any (nat_eq k) v.seats) ks ≡ map (λ k. is_among s k under) ks
marks_by s under ks v is = ap (λ o. map (λ k. list_any (nat_eq k) (option_map_or (λ (a : Seating). a.seats) o [])) ks) (sym is)

mark_at : (f : ℕ → Bool) (ks : List ℕ) (i k : ℕ) → slice_get ks i ≡ Some k → get_or (map f ks) i false ≡ f k
mark_at f [] i k at = absurd (none-some k at)
mark_at f (j ∷ ks) zero k at = ap f (same_Some j k at)
mark_at f (j ∷ ks) (suc i) k at = mark_at f ks i k at

-- ---- the lists of streams that are held

pub list_at : (bs : List Balance) (place : ℕ) (r : Balance) → place < length bs → r ≡ get_or bs place r
    → slice_get (map list_of (map owing_in bs)) place ≡ Some r.owing.stream.listed
list_at bs place r within read =
    let stands : slice_get bs place ≡ Some r = slice_get-get_or bs place r within ∙ ap Some (sym read) in
    slice_get-map list_of (map owing_in bs) place ∙ ap (option_map list_of) (slice_get-map owing_in bs place ∙ ap (option_map owing_in) stands)

pub lists_long : (bs : List Balance) → length (map list_of (map owing_in bs)) ≡ length bs
lists_long bs = length-map (map owing_in bs) list_of ∙ length-map bs owing_in

pub lists_set : (bs : List Balance) (place : ℕ) (new : Balance)
    → map list_of (map owing_in (set bs place new)) ≡ set (map list_of (map owing_in bs)) place new.owing.stream.listed
lists_set bs place new = ap (map list_of) (map-set owing_in bs place new) ∙ map-set list_of (map owing_in bs) place new.owing

pub lists_kept : (bs : List Balance) (place : ℕ) (old new : Balance) → old ≡ get_or bs place old → new.owing.stream.listed ≡ old.owing.stream.listed
    → map list_of (map owing_in (set bs place new)) ≡ map list_of (map owing_in bs)
lists_kept [] place old new read same = refl
lists_kept (b ∷ bs) zero old new read same =
    ap (λ l. l ∷ map list_of (map owing_in bs)) (same ∙ ap (λ (a : Balance). a.owing.stream.listed) read)
lists_kept (b ∷ bs) (suc i) old new read same = ap (λ l. b.owing.stream.listed ∷ l) (lists_kept bs i old new read same)

pub lists_put : (bs : List Balance) (place : ℕ) (new : Balance)
    → map list_of (map owing_in (insert bs place new)) ≡ insert (map list_of (map owing_in bs)) place new.owing.stream.listed
lists_put bs zero new = refl
lists_put [] (suc i) new = refl
lists_put (b ∷ bs) (suc i) new = ap (λ l. b.owing.stream.listed ∷ l) (lists_put bs i new)

pub lists_out : (bs : List Balance) (place : ℕ) → map list_of (map owing_in (remove bs place)) ≡ remove (map list_of (map owing_in bs)) place
lists_out [] zero = refl
lists_out [] (suc i) = refl
lists_out (b ∷ bs) zero = refl
lists_out (b ∷ bs) (suc i) = ap (λ l. b.owing.stream.listed ∷ l) (lists_out bs i)

pub lists_heard : (n : News) (time place : ℕ) (os : List Owing) → map list_of (map (owing_heard n time place) os) ≡ map list_of os
lists_heard n time place [] = refl
lists_heard n time place (o ∷ os) =
    ap₂ (λ (l : List Subject) (ls : List (List Subject)). l ∷ ls)
    (elim (is_due n o.stream) as (λ b. list_of (if b then owing_told time (said.Published place) o else o) ≡ list_of o) [
      | true ↦ refl
      | false ↦ refl
    ])
    (lists_heard n time place os)

pub list_noted : (n : Option Notice) (o : Owing) → list_of (owing_noted n o) ≡ list_of o
list_noted None o = refl
list_noted (Some n) o = refl

-- a stream that lists a subject is marked
pub heard_here : (s : Subject) (i : Listening) (bs : List Balance) (place : ℕ) (r : Balance) (marks : List Bool) → IsListening i (map list_of (map owing_in bs))
    → place < length bs → r ≡ get_or bs place r → marks ≡ map (λ k. is_among s k i.lists) i.seats
    → list_any (is_identical s) r.owing.stream.listed ≡ true → get_or marks place false ≡ true
heard_here s i bs place r marks h within read is listed =
    let lists : List (List Subject) = map list_of (map owing_in bs) in
    let at : slice_get lists place ≡ Some r.owing.stream.listed = list_at bs place r within read in
    let seat = beside lists i.seats place r.owing.stream.listed (sym h.long) at in
    ap (λ l. get_or l place false) is ∙ mark_at (λ k. is_among s k i.lists) i.seats place seat.0 seat.1
    ∙ h.exact s seat.0 ∙ listed_found s i.seats lists place seat.0 r.owing.stream.listed seat.1 at listed

-- ---- one subject more

pub left_more : (a p q e : Bool) → ((a && not (p && e)) && not (q && e)) ≡ (a && not ((p || q) && e))
left_more true true q true = refl
left_more true true true false = refl
left_more true true false false = refl
left_more true false q e = refl
left_more false p q e = refl
