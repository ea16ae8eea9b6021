-- What is written of the members that were kept of a value nests no deeper than that value.
use Rattle.std.proofs.Common.{◌≡◌, ◌<◌, ◌≤◌, ◌^◌, ℕ, List, [], ◌∷◌, Bool, true, false, if◌then◌else◌, nat_lt, Option, Some, None, Ordering, Less, Equal, Greater, nat_cmp, refl, sym, subst, ap, arith}
use Rattle.std.specs.Prelude.{ℤ, pos, negsuc}
use Rattle.std.specs.Cmp.Lexicographic.{slice_cmp}
use Rattle.std.specs.Ordering.{match_ordering}
use Rattle.serde_json.specs.Data.{Data, null, number, unsigned, negative, Members, no_members, member, put, depth, members_depth}
use Rattle.serde_json.specs.Read.{max_depth}
use Rattle.sig_json.specs.Members.{Kind, AnyText, OneOf, Whole, TextOrObject, FilledObject, TextOrTexts, Rule, Kept, Keeps, KeepsWhole, Has, AllHave}
use Rattle.sig_json.specs.Order.{InOrder}
use Rattle.sig_json.specs.Payloads.{whole_data, data_of, put_kept, put_all}
use Rattle.sig_json.proofs.PutMembers.{spelled_again}
use Rattle.sig_json.proofs.Spelled.{has_in_order}

put_shallow : (n : ℕ) (k : List ℕ) (d : Data) (ms : Members) → depth d < n → members_depth ms < n → members_depth (put k d ms) < n
put_shallow n k d no_members one h = omega arith
put_shallow n k d (member l e ms) one h = at (slice_cmp nat_cmp k l) (put_shallow n k d ms one (omega arith))
  where
    at : (o : Ordering) → members_depth (put k d ms) < n → members_depth (match_ordering o (member k d (member l e ms)) (member l d ms) (member l e (put k d ms))) < n
    at Less rest = omega arith
    at Equal rest = omega arith
    at Greater rest = omega arith

whole_flat : (z : ℤ) → depth (whole_data z) ≤ 0
whole_flat (pos n) = at (nat_lt n (2 ^ 64))
  where
    at : (b : Bool) → depth (if b then number (unsigned n) else null) ≤ 0
    at true = omega arith
    at false = omega arith
whole_flat (negsuc n) = at (nat_lt n (2 ^ 63))
  where
    at : (b : Bool) → depth (if b then number (negative (negsuc n)) else null) ≤ 0
    at true = omega arith
    at false = omega arith

flat : (d : Data) (k j : Kept) → k ≡ j → depth (data_of j) ≤ 0 → depth (data_of k) ≤ depth d
flat d k j keeps h = let same : depth (data_of k) ≡ depth (data_of j) = ap (λ i. depth (data_of i)) keeps in omega arith

whole_value : (d : Data) (k : Kept) → InOrder d → depth d ≤ max_depth → KeepsWhole d k → depth (data_of k) ≤ depth d
whole_value d k order deep keeps = let same : depth (data_of k) ≡ depth d = ap depth (spelled_again d k order deep keeps) in omega arith

keeps_shallow : (kind : Kind) (d : Data) (k : Kept) → InOrder d → depth d ≤ max_depth → Keeps kind d k → depth (data_of k) ≤ depth d
keeps_shallow AnyText d k order deep (t, is, keeps) = flat d k _ keeps (omega arith)
keeps_shallow (OneOf texts) d k order deep (t, is, listed, keeps) = flat d k _ keeps (omega arith)
keeps_shallow Whole d k order deep (z, is, keeps) = flat d k _ keeps (whole_flat z)
keeps_shallow TextOrObject d k order deep h = whole_value d k order deep h.1
keeps_shallow FilledObject d k order deep h = whole_value d k order deep h.1
keeps_shallow TextOrTexts d k order deep h = whole_value d k order deep h.1

put_kept_shallow : (v : Data) (r : Rule) (k : Option Kept) (ms : Members) → Has v r k → InOrder v → depth v ≤ max_depth → members_depth ms < depth v → members_depth (put_kept r.name k ms) < depth v
put_kept_shallow v r None ms has order deep h = h
put_kept_shallow v r (Some k) ms (d, is, keeps) order deep h =
    let within = has_in_order r.name v d order is in
    let low : depth d < depth v = within.1 in
    let kept : depth (data_of k) ≤ depth d = keeps_shallow r.kind d k within.0 (omega arith) keeps in
    put_shallow (depth v) r.name (data_of k) ms (omega arith) h

-- the members that are written of what was kept by these rules
pub all_shallow : (v : Data) (rs : List Rule) (ks : List (Option Kept)) (ms : Members) → AllHave v rs ks → InOrder v → depth v ≤ max_depth → members_depth ms < depth v
    → members_depth (put_all rs ks ms) < depth v
all_shallow v [] [] ms has order deep h = h
all_shallow v [] (k ∷ ks) ms has order deep h = absurd has
all_shallow v (r ∷ rs) [] ms has order deep h = absurd has
all_shallow v (r ∷ rs) (k ∷ ks) ms has order deep h = all_shallow v rs ks (put_kept r.name k ms) has.1 order deep (put_kept_shallow v r k ms has.0 order deep h)
