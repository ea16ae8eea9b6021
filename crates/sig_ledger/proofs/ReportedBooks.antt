-- What is kept of tokens that were reported, over the books: it comes to what the fact says.
use Rattle.std.proofs.Common.{◌≡◌, ◌∙◌, ap, sym, subst, ℕ, ◌<◌, List, [], ◌∷◌, ◌++◌, length, map, flat_map, Bool, true, false, Option, Some, None, Result, Ok, Err, IfOk, if◌then◌else◌, refl, arith}
use Rattle.std.specs.Prelude.{All, IfSome, ◌==◌, cond, option_map}
use Rattle.std.specs.List.{AllByRecursion, find}
use Rattle.std.proofs.lemmas.List.{map-append}
use Rattle.std.proofs.lemmas.List.Elements.{All-head, All-tail}
use Rattle.sig_terms.specs.declared.fact.Fact.TheVariants.{Settled}
use Rattle.sig_terms.specs.declared.fact.SettledItem.{SettledItem}
use Rattle.sig_terms.specs.declared.refused_token.RefusedToken.{RefusedToken}
use Rattle.sig_history.specs.Owed.{owed_in}
use Rattle.sig_history.specs.Refused.{has_this, kept_code, refusal_of, refused_in}
use Rattle.sig_history.specs.Standings.{owed_in_standing, stream_in}
use Rattle.sig_history.specs.Streams.{Made, Publication, Stream, is_named}
use Rattle.sig_history.proofs.SpentLemmas.{all_append}
use Rattle.sig_accounts.specs.declared.debt.Debt.{Debt}
use Rattle.sig_accounts.specs.declared.debt.Said.{Said}
use Rattle.sig_accounts.specs.declared.debt.Said.TheVariants as said
use Rattle.sig_accounts.specs.declared.kept_refusal.KeptRefusal.{KeptRefusal}
use Rattle.sig_accounts.specs.Owings.{ArePlaced, IsPlaced, Owing, made_of, owing_named, standing_of}
use Rattle.sig_accounts.specs.Reported.{ArePublishedAs, IsKnownPlace, IsPublishedAs, id_in, is_number, place_said, refused_at, reported_as, reported_by, reported_in}
use Rattle.sig_accounts.proofs.FoundLemmas.{found_in}
use Rattle.sig_ledger.specs.Books.{AreKept, Books, sum_in}
use Rattle.sig_ledger.specs.Room.{AreReported}

-- ---- what is found

-- a debt that is found is one of these
found_holds : (P : Debt → Type 0) (test : Debt → Bool) (ds : List Debt) → AllByRecursion P ds → IfSome (find test ds) P
found_holds P test [] all = tt
found_holds P test (d ∷ ds) all = elim (test d) as (λ b. IfSome (cond b (Some d) (find test ds)) P) [
  | true ↦ all.0
  | false ↦ found_holds P test ds all.1
]

-- the token of a number is that of the debt of that number
find_made : (sid : List ℕ) (published : List Publication) (s : Stream) (n : ℕ) (ds : List Debt)
    → find (has_this n) (map (made_of sid published s) ds) ≡ option_map (made_of sid published s) (find (is_number n) ds)
find_made sid published s n [] = refl
find_made sid published s n (d ∷ ds) =
    elim (d.number == n) as (λ b. cond b (Some (made_of sid published s d)) (find (has_this n) (map (made_of sid published s) ds))
    ≡ option_map (made_of sid published s) (cond b (Some d) (find (is_number n) ds))) [
      | true ↦ refl
      | false ↦ find_made sid published s n ds
    ]

-- ---- one stream

one_same : (sid : List ℕ) (published : List Publication) (s : Stream) (o : Option Debt) (code : Option (List ℕ))
    → IfSome o (IsPublishedAs published s.conf.stream)
    → map (refused_at published) (reported_by s.conf.stream o code) ≡ refusal_of published (option_map (made_of sid published s) o) code
one_same sid published s o None named = refl
one_same sid published s None (Some code) named = refl
one_same sid published s (Some d) (Some code) named =
    ap (λ (id : Option (List ℕ)). record { stream = s.conf.stream; number = d.number; id = id; code = kept_code code; time = d.time } ∷ []) (sym named)

all_same : (sid : List ℕ) (published : List Publication) (s : Stream) (ds : List Debt) (items : List SettledItem)
    → AllByRecursion (IsPublishedAs published s.conf.stream) ds
    → map (refused_at published) (reported_in s.conf.stream ds items) ≡ refused_in published (map (made_of sid published s) ds) items
all_same sid published s ds [] named = refl
all_same sid published s ds (i ∷ items) named =
    let first : List KeptRefusal = reported_by s.conf.stream (find (is_number i.number) ds) i.code in
    let rest : List RefusedToken = refused_in published (map (made_of sid published s) ds) items in
    map-append (refused_at published) first (reported_in s.conf.stream ds items)
    ∙ ap (λ l. map (refused_at published) first ++ l) (all_same sid published s ds items named)
    ∙ ap (λ l. l ++ rest)
    (one_same sid published s (find (is_number i.number) ds) i.code (found_holds (IsPublishedAs published s.conf.stream) (is_number i.number) ds named)
    ∙ ap (λ t. refusal_of published t i.code) (sym (find_made sid published s i.number ds)))

said_known : (places : ℕ) (w : Said) → IsPlaced places w → IfSome (place_said w) (λ place. place < places)
said_known places (said.Published place) placed = placed
said_known places (said.Verified state) placed = tt
said_known places (said.Updated status reason) placed = tt

each_said : (places : ℕ) (ds : List Debt) → All (λ (d : Debt). IsPlaced places d.said) ds → AllByRecursion (λ (d : Debt). IfSome (place_said d.said) (λ place. place < places)) ds
each_said places [] placed = tt
each_said places (d ∷ ds) placed = (
  said_known places d.said (All-head (λ (e : Debt). IsPlaced places e.said) d ds placed),
  each_said places ds (All-tail (λ (e : Debt). IsPlaced places e.said) d ds placed),
)

one_known : (places : ℕ) (stream : List ℕ) (o : Option Debt) (code : Option (List ℕ)) → IfSome o (λ (d : Debt). IfSome (place_said d.said) (λ place. place < places))
    → AllByRecursion (IsKnownPlace places) (reported_by stream o code)
one_known places stream o None known = tt
one_known places stream None (Some code) known = tt
one_known places stream (Some d) (Some code) known = (known, tt)

all_known : (places : ℕ) (stream : List ℕ) (ds : List Debt) (items : List SettledItem) → AllByRecursion (λ (d : Debt). IfSome (place_said d.said) (λ place. place < places)) ds
    → AllByRecursion (IsKnownPlace places) (reported_in stream ds items)
all_known places stream ds [] known = tt
all_known places stream ds (i ∷ items) known =
    all_append (IsKnownPlace places) (reported_by stream (find (is_number i.number) ds) i.code) (reported_in stream ds items)
    (one_known places stream (find (is_number i.number) ds) i.code
    (found_holds (λ (d : Debt). IfSome (place_said d.said) (λ place. place < places)) (is_number i.number) ds known))
    (all_known places stream ds items known)

-- ---- the stream of a name

named_one : (published : List Publication) (name : List ℕ) (os : List Owing) (o : Owing) → owing_named name os ≡ Some o
    → AllByRecursion (ArePublishedAs published) os → ArePublishedAs published o
named_one published name [] o found all = cc found
named_one published name (p ∷ ps) o found all =
    elim (is_named name p.stream) as (λ b. (if b then Some p else owing_named name ps) ≡ Some o → ArePublishedAs published o) [
      | true ↦ λ this. (let same : p ≡ o = cc this in subst (ArePublishedAs published) same all.0)
      | false ↦ λ later. named_one published name ps o later all.1
    ] found

placed_one : (places : ℕ) (name : List ℕ) (os : List Owing) (o : Owing) → owing_named name os ≡ Some o → All (ArePlaced places) os → ArePlaced places o
placed_one places name [] o found all = cc found
placed_one places name (p ∷ ps) o found all =
    elim (is_named name p.stream) as (λ b. (if b then Some p else owing_named name ps) ≡ Some o → ArePlaced places o) [
      | true ↦ λ this. (let same : p ≡ o = cc this in subst (ArePlaced places) same (All-head (ArePlaced places) p ps all))
      | false ↦ λ later. placed_one places name ps o later (All-tail (ArePlaced places) p ps all)
    ] found

missing_owed : (sid : List ℕ) (published : List Publication) (name : List ℕ) (os : List Owing) → owing_named name os ≡ None
    → owed_in name (map stream_in (map (standing_of sid published) os)) (map owed_in_standing (map (standing_of sid published) os)) ≡ []
missing_owed sid published name [] none = refl
missing_owed sid published name (p ∷ ps) none =
    elim (is_named name p.stream) as (λ b. (if b then Some p else owing_named name ps) ≡ None
    → (if b then map (made_of sid published p.stream) p.owed
    else owed_in name (map stream_in (map (standing_of sid published) ps)) (map owed_in_standing (map (standing_of sid published) ps))) ≡ []) [
      | true ↦ λ this. cc this
      | false ↦ λ later. missing_owed sid published name ps later
    ] none

nothing_in : (published : List Publication) (items : List SettledItem) → refused_in published [] items ≡ []
nothing_in published [] = refl
nothing_in published (i ∷ items) = ap (λ l. l ++ refused_in published [] items) (by i.code) ∙ nothing_in published items
  where
    by : (code : Option (List ℕ)) → refusal_of published None code ≡ []
    by None = refl
    by (Some code) = refl

-- ---- over the books

pub reported_none : (b : Books) (name : List ℕ) (items : List SettledItem) → owing_named name b.owings ≡ None → AreReported (sum_in b) (Settled name items) []
reported_none b name items none = record {
  same = sym (ap (λ l. refused_in b.published l items) (missing_owed b.store_id b.published name b.owings none) ∙ nothing_in b.published items);
  known = tt;
}

pub reported_some : (b : Books) (name : List ℕ) (items : List SettledItem) (o : Owing) → AreKept b → owing_named name b.owings ≡ Some o
    → AreReported (sum_in b) (Settled name items) (reported_in o.stream.conf.stream o.owed items)
reported_some b name items o kept found = record {
  same = all_same b.store_id b.published o.stream o.owed items (named_one b.published name b.owings o found kept.named)
      ∙ ap (λ l. refused_in b.published l items) (sym (found_in b.store_id b.published name b.owings o found));
  known = all_known (length b.published) o.stream.conf.stream o.owed items
      (each_said (length b.published) o.owed (placed_one (length b.published) name b.owings o found kept.placed));
}

-- what holds of a list holds of what is returned as that list
pub ok_as : {T E : Type 0} (list_of : T → List KeptRefusal) (P : List KeptRefusal → Type 0) (ks : List KeptRefusal) → P ks
    → (r : Result T E) → IfOk r (λ x. list_of x ≡ ks) → IfOk r (λ x. P (list_of x))
ok_as list_of P ks holds (Ok x) is = subst P (sym is) holds
ok_as list_of P ks holds (Err e) is = tt
