-- What is written of the members that were kept of a value is canonical.
use Rattle.std.proofs.Common.{◌≡◌, ◌<◌, ◌≤◌, ◌^◌, ◌&&◌, ℕ, List, [], ◌∷◌, Bool, true, false, if◌then◌else◌, nat_lt, Option, Some, None, Ordering, Less, Equal, Greater, nat_cmp, IsUtf8, refl, sym, subst}
use Rattle.std.specs.Prelude.{ℤ, pos, negsuc, ⊤}
use Rattle.std.specs.Cmp.Lexicographic.{slice_cmp}
use Rattle.std.specs.Ordering.{match_ordering}
use Rattle.std.proofs.lemmas.Bool.{ltb-true}
use Rattle.json.proofs.Printed.Utf8.{are_ascii, IsUtf8-are_ascii}
use Rattle.serde_json.specs.Data.{Data, null, number, string, unsigned, negative, Members, no_members, member, put, depth}
use Rattle.serde_json.specs.Read.{max_depth}
use Rattle.sig_json.specs.Canon.{IsCanonical, MembersAreCanonical}
use Rattle.sig_json.specs.Members.{Kind, AnyText, OneOf, Whole, TextOrObject, FilledObject, TextOrTexts, Rule, Kept, Keeps, KeepsWhole, Has, AllHave}
use Rattle.sig_json.specs.Payloads.{whole_data, data_of, put_kept, put_all}
use Rattle.sig_json.proofs.OrderedMembers.{above, below_lower, below_put}
use Rattle.sig_json.proofs.PutMembers.{inside, spelled_again}
use Rattle.sig_json.specs.Order.{InOrder}
use Rattle.sig_json.proofs.Spelled.{canonical}

-- the rules' names are UTF-8
abbrev pub AreNamed : List Rule → Type 0
AreNamed [] = ⊤
AreNamed (r ∷ rs) = IsUtf8 r.name × AreNamed rs

-- the rules' names are ASCII
abbrev pub are_ascii_named : List Rule → Bool
are_ascii_named [] = true
are_ascii_named (r ∷ rs) = are_ascii r.name && are_ascii_named rs

both : (a b : Bool) → a && b ≡ true → (a ≡ true) × (b ≡ true)
both true b h = (refl, h)
both false b h = cc

pub are_named : (rs : List Rule) → are_ascii_named rs ≡ true → AreNamed rs
are_named [] h = tt
are_named (r ∷ rs) h = let p = both (are_ascii r.name) (are_ascii_named rs) h in (IsUtf8-are_ascii r.name p.0, are_named rs p.1)

pub put_canonical : (k : List ℕ) (d : Data) (ms : Members) → IsUtf8 k → IsCanonical d → MembersAreCanonical ms → MembersAreCanonical (put k d ms)
put_canonical k d no_members name one h = (name, one, tt, tt)
put_canonical k d (member l e ms) name one h = at (slice_cmp nat_cmp k l) refl (put_canonical k d ms name one h.3)
  where
    at : (o : Ordering) → slice_cmp nat_cmp k l ≡ o → MembersAreCanonical (put k d ms)
        → MembersAreCanonical (match_ordering o (member k d (member l e ms)) (member l d ms) (member l e (put k d ms)))
    at Less is rest = (name, one, (is, below_lower k l ms is h.2), h)
    at Equal is rest = (h.0, one, h.2, h.3)
    at Greater is rest = (h.0, h.1, below_put l k d ms (above k l is) h.2, rest)

-- a whole number is written within its bounds, or as null
pub whole_canonical : (z : ℤ) → IsCanonical (whole_data z)
whole_canonical (pos n) = at (nat_lt n (2 ^ 64)) (λ is. ltb-true n (2 ^ 64) is)
  where
    at : (b : Bool) → (b ≡ true → n < 2 ^ 64) → IsCanonical (if b then number (unsigned n) else null)
    at true low = low refl
    at false low = tt
whole_canonical (negsuc n) = at (nat_lt n (2 ^ 63)) (λ is. ltb-true n (2 ^ 63) is)
  where
    at : (b : Bool) → (b ≡ true → n < 2 ^ 63) → IsCanonical (if b then number (negative (negsuc n)) else null)
    at true low = low refl
    at false low = tt

text_canonical : (d : Data) (t : List ℕ) → InOrder d → d ≡ string t → IsUtf8 t
text_canonical d t order is = subst InOrder is order

whole_value_canonical : (d : Data) (k : Kept) → InOrder d → depth d ≤ max_depth → KeepsWhole d k → IsCanonical (data_of k)
whole_value_canonical d k order deep keeps = subst IsCanonical (sym (spelled_again d k order deep keeps)) (canonical d order keeps.0)

keeps_canonical : (kind : Kind) (d : Data) (k : Kept) → InOrder d → depth d ≤ max_depth → Keeps kind d k → IsCanonical (data_of k)
keeps_canonical AnyText d k order deep (t, is, keeps) = subst (λ (j : Kept). IsCanonical (data_of j)) (sym keeps) (text_canonical d t order is)
keeps_canonical (OneOf texts) d k order deep (t, is, listed, keeps) = subst (λ (j : Kept). IsCanonical (data_of j)) (sym keeps) (text_canonical d t order is)
keeps_canonical Whole d k order deep (z, is, keeps) = subst (λ (j : Kept). IsCanonical (data_of j)) (sym keeps) (whole_canonical z)
keeps_canonical TextOrObject d k order deep h = whole_value_canonical d k order deep h.1
keeps_canonical FilledObject d k order deep h = whole_value_canonical d k order deep h.1
keeps_canonical TextOrTexts d k order deep h = whole_value_canonical d k order deep h.1

-- what is written for a member that was kept of a value
pub kept_canonical : (v : Data) (r : Rule) (k : Kept) → InOrder v → depth v ≤ max_depth → Has v r (Some k) → IsCanonical (data_of k)
kept_canonical v r k order deep (d, is, keeps) =
    let within = inside r.name v d order deep is in
    keeps_canonical r.kind d k within.0 within.1 keeps

put_kept_canonical : (v : Data) (r : Rule) (k : Option Kept) (ms : Members) → Has v r k → InOrder v → depth v ≤ max_depth → IsUtf8 r.name → MembersAreCanonical ms → MembersAreCanonical (put_kept r.name k ms)
put_kept_canonical v r None ms has order deep name h = h
put_kept_canonical v r (Some k) ms has order deep name h = put_canonical r.name (data_of k) ms name (kept_canonical v r k order deep has) h

-- the members that are written of what was kept by these rules
pub all_canonical : (v : Data) (rs : List Rule) (ks : List (Option Kept)) (ms : Members) → AllHave v rs ks → InOrder v → depth v ≤ max_depth → AreNamed rs → MembersAreCanonical ms
    → MembersAreCanonical (put_all rs ks ms)
all_canonical v [] [] ms has order deep names h = h
all_canonical v [] (k ∷ ks) ms has order deep names h = absurd has
all_canonical v (r ∷ rs) [] ms has order deep names h = absurd has
all_canonical v (r ∷ rs) (k ∷ ks) ms has order deep names h =
    all_canonical v rs ks (put_kept r.name k ms) has.1 order deep names.1 (put_kept_canonical v r k ms has.0 order deep names.0 h)
