-- The members that are written of an event are there again.
use Rattle.std.proofs.Common.{◌≡◌, ◌<◌, ◌≤◌, ◌^◌, ◌||◌, ℕ, List, [], ◌∷◌, Bool, true, false, Option, Some, None, option_map, option_and_then, unwrap_or, refl, sym, ap, subst, ◌∙◌, arith}
use Rattle.std.specs.Prelude.{ℤ, pos, negsuc, ⊤}
use Rattle.std.specs.Str.{bytes_eq}
use Rattle.std.proofs.lemmas.Bool.{lt-ltb}
use Rattle.std.proofs.lemmas.Slice.Eq.{bytes_eq-Decides}
use Rattle.serde_json.specs.Data.{Num, unsigned, negative, float, Data, null, boolean, number, string, array, object, Members, no_members, depth}
use Rattle.serde_json.specs.Find.{get_member, as_number, as_integer}
use Rattle.serde_json.specs.Read.{max_depth}
use Rattle.serde_json.proofs.Views.{get_member-put, get_member-put_other}
use Rattle.sig_json.specs.Json.{member_of}
use Rattle.sig_json.specs.Members.{Kind, AnyText, OneOf, Whole, TextOrObject, FilledObject, TextOrTexts, Rule, Kept, Keeps, KeepsWhole, Has, AllHave}
use Rattle.sig_json.specs.Payloads.{whole_data, data_of, put_kept, put_all}
use Rattle.sig_json.proofs.ReadBack.{canon_reads}
use Rattle.sig_json.specs.Order.{InOrder, FitsNum}
use Rattle.sig_json.proofs.Spelled.{canonical, has_in_order}

-- ---- names

-- a rule has this name
abbrev pub is_named : List ℕ → List Rule → Bool
is_named q [] = false
is_named q (r ∷ rs) = bytes_eq q r.name || is_named q rs

-- the rules have different names
abbrev pub AreDistinct : List Rule → Type 0
AreDistinct [] = ⊤
AreDistinct (r ∷ rs) = (is_named r.name rs ≡ false) × AreDistinct rs

-- no rule of the first list has a name of the second
abbrev pub AreApart : List Rule → List Rule → Type 0
AreApart [] ss = ⊤
AreApart (r ∷ rs) ss = (is_named r.name ss ≡ false) × AreApart rs ss

-- none of the members has a rule's name
abbrev pub HasNone : List Rule → Members → Type 0
HasNone [] ms = ⊤
HasNone (r ∷ rs) ms = (get_member r.name ms ≡ None) × HasNone rs ms

or_false : (a b : Bool) → a || b ≡ false → (a ≡ false) × (b ≡ false)
or_false false b h = (refl, h)
or_false true b h = cc

bytes_same : (q : List ℕ) → bytes_eq q q ≡ true
bytes_same q = (bytes_eq-Decides q q).1 refl

differs : (q n : List ℕ) → bytes_eq q n ≡ false → q ≡ n → ⊥
differs q n h e = let t = (bytes_eq-Decides q n).1 e in cc

differs_back : (q n : List ℕ) → bytes_eq q n ≡ false → n ≡ q → ⊥
differs_back q n h e = differs q n h (sym e)

-- ---- look-ups

get_kept_other : (q n : List ℕ) (k : Option Kept) (ms : Members) → (q ≡ n → ⊥) → get_member q (put_kept n k ms) ≡ get_member q ms
get_kept_other q n None ms h = refl
get_kept_other q n (Some k) ms h = get_member-put_other q n (data_of k) ms h

get_kept : (n : List ℕ) (k : Option Kept) (ms : Members) → get_member n ms ≡ None → get_member n (put_kept n k ms) ≡ option_map data_of k
get_kept n None ms h = h
get_kept n (Some k) ms h = get_member-put n (data_of k) ms

-- members that the rules don't name stay as they are
pub get_other : (q : List ℕ) (rs : List Rule) (ks : List (Option Kept)) (ms : Members) → is_named q rs ≡ false → get_member q (put_all rs ks ms) ≡ get_member q ms
get_other q [] ks ms h = refl
get_other q (r ∷ rs) [] ms h = refl
get_other q (r ∷ rs) (k ∷ ks) ms h =
    let both = or_false (bytes_eq q r.name) (is_named q rs) h in
    get_other q rs ks (put_kept r.name k ms) both.1 ∙ get_kept_other q r.name k ms (differs q r.name both.0)

-- a name that is put is no rule's
none_behind : (n : List ℕ) (k : Option Kept) (rs : List Rule) (ms : Members) → is_named n rs ≡ false → HasNone rs ms → HasNone rs (put_kept n k ms)
none_behind n k [] ms h none = tt
none_behind n k (r ∷ rs) ms h none =
    let both = or_false (bytes_eq n r.name) (is_named n rs) h in
    (get_kept_other r.name n k ms (differs_back n r.name both.0) ∙ none.0, none_behind n k rs ms both.1 none.1)

pub none_of_none : (rs : List Rule) → HasNone rs no_members
none_of_none [] = tt
none_of_none (r ∷ rs) = (refl, none_of_none rs)

-- what other rules put has no rule's name
pub none_apart : (ss rs : List Rule) (ks : List (Option Kept)) (ms : Members) → AreApart ss rs → HasNone ss ms → HasNone ss (put_all rs ks ms)
none_apart [] rs ks ms apart none = tt
none_apart (s ∷ ss) rs ks ms apart none = (get_other s.name rs ks ms apart.0 ∙ none.0, none_apart ss rs ks ms apart.1 none.1)

-- a name of one list is none of the other's
pub named_apart : (q : List ℕ) (rs ss : List Rule) → AreApart rs ss → is_named q rs ≡ true → is_named q ss ≡ false
named_apart q [] ss apart h = cc
named_apart q (r ∷ rs) ss apart h = at (bytes_eq q r.name) refl h (λ k. named_apart q rs ss apart.1 k)
  where
    at : (b : Bool) → bytes_eq q r.name ≡ b → b || is_named q rs ≡ true → (is_named q rs ≡ true → is_named q ss ≡ false) → is_named q ss ≡ false
    at true e k rest = let same : q ≡ r.name = (bytes_eq-Decides q r.name).0 e in subst (λ (n : List ℕ). is_named n ss ≡ false) (sym same) apart.0
    at false e k rest = rest k

-- ---- what is kept is proper

-- what is kept of a member is read again of what is written for it
abbrev pub IsProperAt : Rule → Option Kept → Type 0
IsProperAt r None = r.required ≡ false
IsProperAt r (Some k) = Keeps r.kind (data_of k) k

abbrev pub AreProper : List Rule → List (Option Kept) → Type 0
AreProper [] [] = ⊤
AreProper [] (k ∷ ks) = ⊥
AreProper (r ∷ rs) [] = ⊥
AreProper (r ∷ rs) (k ∷ ks) = IsProperAt r k × AreProper rs ks

has_at : (r : Rule) (k : Option Kept) (all : Members) → get_member r.name all ≡ option_map data_of k → IsProperAt r k → Has (object all) r k
has_at r None all is proper = (proper, is)
has_at r (Some k) all is proper = (data_of k, is, proper)

-- members that are put by rules are there, among others
pub put_have : (rs : List Rule) (ks : List (Option Kept)) (ms all : Members) → AreDistinct rs → HasNone rs ms → AreProper rs ks → ((q : List ℕ) → is_named q rs ≡ true → get_member q all ≡ get_member q (put_all rs ks ms)) → AllHave (object all) rs ks
put_have [] [] ms all distinct none proper same = tt
put_have [] (k ∷ ks) ms all distinct none proper same = absurd proper
put_have (r ∷ rs) [] ms all distinct none proper same = absurd proper
put_have (r ∷ rs) (k ∷ ks) ms all distinct none proper same = (
  has_at r k all here proper.0,
  put_have rs ks (put_kept r.name k ms) all distinct.1 (none_behind r.name k rs ms distinct.0 none.1) proper.1 (λ q h. same q (later q h)),
)
  where
    here : get_member r.name all ≡ option_map data_of k
    here =
        let named : is_named r.name (r ∷ rs) ≡ true = rw (bytes_same r.name) refl in
        same r.name named ∙ get_other r.name rs ks (put_kept r.name k ms) distinct.0 ∙ get_kept r.name k ms none.0

    later : (q : List ℕ) → is_named q rs ≡ true → bytes_eq q r.name || is_named q rs ≡ true
    later q h = at (bytes_eq q r.name)
      where
        at : (b : Bool) → b || is_named q rs ≡ true
        at true = refl
        at false = h

-- ---- what was read of a text is proper

-- what a value in order has is in order
pub inside : (n : List ℕ) (v d : Data) → InOrder v → depth v ≤ max_depth → member_of n v ≡ Some d → InOrder d × (depth d ≤ max_depth)
inside n v d order deep is = let h = has_in_order n v d order is in (h.0, omega arith)

whole_back : (n : Num) (z : ℤ) → FitsNum n → as_integer n ≡ Some z → option_and_then as_integer (as_number (whole_data z)) ≡ Some z
whole_back (unsigned n) (pos m) fits is =
    let same : n ≡ m = cc in
    let low : m < 2 ^ 64 = subst (λ (x : ℕ). x < 2 ^ 64) same fits in
    rw (lt-ltb m (2 ^ 64) low) refl
whole_back (unsigned n) (negsuc m) fits is = cc
whole_back (negative (pos n)) z fits is = absurd fits
whole_back (negative (negsuc n)) (pos m) fits is = cc
whole_back (negative (negsuc n)) (negsuc m) fits is =
    let same : n ≡ m = cc in
    let low : m < 2 ^ 63 = subst (λ (x : ℕ). x < 2 ^ 63) same fits in
    rw (lt-ltb m (2 ^ 63) low) refl
whole_back (float x) z fits is = cc

whole_again : (d : Data) (z : ℤ) → InOrder d → option_and_then as_integer (as_number d) ≡ Some z → option_and_then as_integer (as_number (whole_data z)) ≡ Some z
whole_again null z order is = cc
whole_again (boolean b) z order is = cc
whole_again (number n) z order is = whole_back n z order is
whole_again (string s) z order is = cc
whole_again (array ds) z order is = cc
whole_again (object ms) z order is = cc

-- a value that is kept whole is spelled by its text
pub spelled_again : (d : Data) (k : Kept) → InOrder d → depth d ≤ max_depth → KeepsWhole d k → data_of k ≡ d
spelled_again d k order deep (plain, keeps) =
    ap data_of keeps ∙ ap (λ o. unwrap_or o null) (canon_reads d (canonical d order plain) deep)

keeps_again : (kind : Kind) (d : Data) (k : Kept) → InOrder d → depth d ≤ max_depth → Keeps kind d k → Keeps kind (data_of k) k
keeps_again AnyText d k order deep (t, is, keeps) = (t, ap data_of keeps, keeps)
keeps_again (OneOf texts) d k order deep (t, is, listed, keeps) = (t, ap data_of keeps, listed, keeps)
keeps_again Whole d k order deep (z, is, keeps) =
    (z, ap (λ j. option_and_then as_integer (as_number (data_of j))) keeps ∙ whole_again d z order is, keeps)
keeps_again TextOrObject d k order deep h = subst (λ (e : Data). Keeps TextOrObject e k) (sym (spelled_again d k order deep h.1)) h
keeps_again FilledObject d k order deep h = subst (λ (e : Data). Keeps FilledObject e k) (sym (spelled_again d k order deep h.1)) h
keeps_again TextOrTexts d k order deep h = subst (λ (e : Data). Keeps TextOrTexts e k) (sym (spelled_again d k order deep h.1)) h

proper_at : (v : Data) (r : Rule) (k : Option Kept) → InOrder v → depth v ≤ max_depth → Has v r k → IsProperAt r k
proper_at v r None order deep h = h.0
proper_at v r (Some k) order deep (d, is, keeps) =
    let within = inside r.name v d order deep is in
    keeps_again r.kind d k within.0 within.1 keeps

-- what is kept of a value that a text spells is proper
pub have_proper : (v : Data) (rs : List Rule) (ks : List (Option Kept)) → InOrder v → depth v ≤ max_depth → AllHave v rs ks → AreProper rs ks
have_proper v [] [] order deep h = tt
have_proper v [] (k ∷ ks) order deep h = absurd h
have_proper v (r ∷ rs) [] order deep h = absurd h
have_proper v (r ∷ rs) (k ∷ ks) order deep h = (proper_at v r k order deep h.0, have_proper v rs ks order deep h.1)

-- the payload that is written by rules of different names has its members
pub payload_has : (rs : List Rule) (ks : List (Option Kept)) → AreDistinct rs → AreProper rs ks → AllHave (object (put_all rs ks no_members)) rs ks
payload_has rs ks distinct proper = put_have rs ks no_members (put_all rs ks no_members) distinct (none_of_none rs) proper (λ q h. refl)
