-- The parts of a proper complex subject rise in byte order of their names, so that each name finds its part.
use Rattle.std.proofs.Common.{◌≡◌, ℕ, List, [], ◌∷◌, Bool, true, false, bytes_eq, Some, Equal, Less, nat_cmp, refl, sym, subst}
use Rattle.std.specs.Prelude.{All, ⊤}
use Rattle.std.specs.Cmp.Lexicographic.{slice_cmp}
use Rattle.std.proofs.lemmas.Cmp.{nat_list_cmp_total, tied_itself}
use Rattle.std.proofs.lemmas.List.Elements.{All-cons, All-head, All-nil, All-tail}
use Rattle.serde_json.specs.Data.{Members, no_members, member}
use Rattle.sig_json.specs.Canon.{IsBelow}
use Rattle.sig_json.specs.Order.{InOrder, MembersInOrder}
use Rattle.sig_json.proofs.Spelled.{spelled_in_order}
use Rattle.sig_subject.proofs.Identity.{text_same, text_sound}
use Rattle.sig_subject.proofs.WrittenBack.{is_format}
use Rattle.sig_subject.specs.Laws.{PartsRise, ProperPartsRise}
use Rattle.sig_subject.specs.Matching.{part_named}
use Rattle.sig_subject.specs.Subjects.{PartsAre, parts_of}
use Rattle.sig_subject.specs.declared.member.Member.{Member}

-- ---- members in order are parts that rise

below_parts : (k : List ℕ) (ms : Members) (ps : List Member) → IsBelow k ms → PartsAre ps (parts_of ms) → All (λ (n : Member). slice_cmp nat_cmp k n.name ≡ Less) ps
below_parts k no_members [] below are = All-nil (λ (n : Member). slice_cmp nat_cmp k n.name ≡ Less)
below_parts k no_members (p ∷ ps) below are = absurd are
below_parts k (member l d rest) ps below are = by_name (is_format l) ps refl are (λ ns h. below_parts k rest ns below.1 h)
  where
    by_name : (b : Bool) (ps : List Member) → is_format l ≡ b → PartsAre ps (parts_of (member l d rest))
        → ((ns : List Member) → PartsAre ns (parts_of rest) → All (λ (n : Member). slice_cmp nat_cmp k n.name ≡ Less) ns) → All (λ (n : Member). slice_cmp nat_cmp k n.name ≡ Less) ps
    by_name true ps e h more = more ps (rw e at h)
    by_name false [] e h more = All-nil (λ (n : Member). slice_cmp nat_cmp k n.name ≡ Less)
    by_name false (p ∷ ps) e h more =
        let are : PartsAre (p ∷ ps) ((l, d) ∷ parts_of rest) = rw e at h in
        All-cons (λ (n : Member). slice_cmp nat_cmp k n.name ≡ Less) p ps (subst (λ n. slice_cmp nat_cmp k n ≡ Less) (sym are.0) below.0) (more ps are.2)

rising_parts : (ms : Members) (ps : List Member) → MembersInOrder ms → PartsAre ps (parts_of ms) → PartsRise ps
rising_parts no_members [] order are = tt
rising_parts no_members (p ∷ ps) order are = absurd are
rising_parts (member l d rest) ps order are = by_name (is_format l) ps refl are (λ ns h. rising_parts rest ns order.3 h)
  where
    by_name : (b : Bool) (ps : List Member) → is_format l ≡ b → PartsAre ps (parts_of (member l d rest)) → ((ns : List Member) → PartsAre ns (parts_of rest) → PartsRise ns) → PartsRise ps
    by_name true ps e h more = more ps (rw e at h)
    by_name false [] e h more = tt
    by_name false (p ∷ ps) e h more =
        let are : PartsAre (p ∷ ps) ((l, d) ∷ parts_of rest) = rw e at h in
        let below = below_parts l rest ps order.2 are.2 in
        (subst (λ k. All (λ (n : Member). slice_cmp nat_cmp k n.name ≡ Less) ps) (sym are.0) below, more ps are.2)

pub proper_parts_rise : ProperPartsRise
proper_parts_rise parts (v, spelled, is) =
    let members = is.1.0 in
    rising_parts members parts (subst InOrder is.1.1 (spelled_in_order _ v spelled)) is.1.2

-- ---- each name finds its part

-- a name above another one is another
differs_above : (k l : List ℕ) → slice_cmp nat_cmp k l ≡ Less → bytes_eq l k ≡ false
differs_above k l less = at (bytes_eq l k) refl
  where
    at : (b : Bool) → bytes_eq l k ≡ b → b ≡ false
    at false e = refl
    at true e =
        let same : l ≡ k = text_sound l k e in
        let tied : slice_cmp nat_cmp k l ≡ Equal = subst (λ n. slice_cmp nat_cmp k n ≡ Equal) (sym same) (tied_itself nat_list_cmp_total k) in
        cc

-- each of the parts is found under its name
abbrev pub AllNamed : List Member → List Member → Type 0
AllNamed all [] = ⊤
AllNamed all (m ∷ ms) = (part_named m.name all ≡ Some m.simple) × AllNamed all ms

named_later : (m : Member) (all ms : List Member) → All (λ (n : Member). slice_cmp nat_cmp m.name n.name ≡ Less) ms → AllNamed all ms → AllNamed (m ∷ all) ms
named_later m all [] below named = tt
named_later m all (n ∷ ms) below named =
    let other : bytes_eq n.name m.name ≡ false = differs_above m.name n.name (All-head (λ (n : Member). slice_cmp nat_cmp m.name n.name ≡ Less) n ms below) in
    (rw other named.0, named_later m all ms (All-tail (λ (n : Member). slice_cmp nat_cmp m.name n.name ≡ Less) n ms below) named.1)

pub rising_named : (ms : List Member) → PartsRise ms → AllNamed ms ms
rising_named [] rise = tt
rising_named (m ∷ ms) rise = (rw (text_same m.name) refl, named_later m ms ms rise.0 (rising_named ms rise.1))
