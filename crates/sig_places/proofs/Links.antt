-- Entries that are linked stay so when one more is put, and each link leads to the places that are left.
use Rattle.std.proofs.Common.{◌≡◌, ◌∙◌, ◌<◌, ◌≤◌, ◌+◌, ◌-◌, ap, sym, subst, refl, ℕ, suc, List, [], ◌∷◌, ◌++◌, Bool, true, false, nat_eq, Option, Some, cond, if◌then◌else◌, length, take, get_or, append-nil, arith}
use Rattle.std.proofs.lemmas.Bool.{eqb-true, eqb-false}
use Rattle.std.proofs.lemmas.List.{append_assoc, get_or_append_left, length-append, take-append-le}
use Rattle.std.proofs.Math.Seq.{get_or-append_seam, take-length, take-suc}
use Rattle.std.specs.Prelude.{unwrap_or}
use Rattle.sig_places.specs.declared.entry.Entry.{Entry}
use Rattle.sig_places.specs.declared.entry.Link.{Link}
use Rattle.sig_places.specs.Places.{place_under, places_of}
use Rattle.sig_places.specs.Chains.{IsChain, IsChained, IsNewest}

-- ---- the places under a key

under_own : (key : ℕ) (e : Entry) → e.key ≡ key → place_under key e ≡ e.place ∷ []
under_own key e is = by (nat_eq e.key key) refl
  where
    by : (b : Bool) → nat_eq e.key key ≡ b → (if b then e.place ∷ [] else []) ≡ e.place ∷ []
    by true same = refl
    by false same = absurd (eqb-false e.key key same is)

under_other : (key : ℕ) (e : Entry) → nat_eq e.key key ≡ false → place_under key e ≡ []
under_other key e other = ap (λ b. if b then e.place ∷ [] else []) other

-- one more entry is the newest
pub places_more : (key : ℕ) (es : List Entry) (e : Entry) → places_of key (es ++ e ∷ []) ≡ place_under key e ++ places_of key es
places_more key [] e = sym (append-nil (place_under key e))
places_more key (x ∷ es) e =
    ap (λ l. l ++ place_under key x) (places_more key es e)
    ∙ append_assoc (place_under key e) (places_of key es) (place_under key x)

-- an entry of the key, and those that its link leads to
pub walked : (key number : ℕ) (entries : List Entry) (links : List Link) (d : Entry) (l : Link) → 0 < number → IsChain key number entries links
    → (places_of key (take number entries) ≡ (get_or entries (number - 1) d).place ∷ places_of key (take (get_or links (number - 1) l).previous entries))
    × IsChain key (get_or links (number - 1) l).previous entries links
walked key number entries links d l some chain =
    let at : ℕ = number - 1 in
    let is : number ≡ suc at = omega (arith, some) in
    let within : at < length entries = omega (arith, some, chain.within) in
    let e : Entry = get_or entries at d in
    let own : e.key ≡ key = chain.own some d in
    let earlier : IsNewest e.key (get_or links at l).previous at entries = chain.linked.previous at d l within in
    let newest : IsNewest key (get_or links at l).previous at entries =
    subst (λ k. IsNewest k (get_or links at l).previous at entries) own earlier in (
      ap (λ n. places_of key (take n entries)) is
          ∙ ap (places_of key) (take-suc entries at d within)
          ∙ places_more key (take at entries) e
          ∙ ap (λ p. p ++ places_of key (take at entries)) (under_own key e own)
          ∙ ap (λ ps. e.place ∷ ps) newest.all,
      record { linked = chain.linked; within = omega (arith, within, newest.within); own = newest.own },
    )

-- ---- one more entry

lifted : (key number many : ℕ) (es : List Entry) (e : Entry) → many ≤ length es → IsNewest key number many es → IsNewest key number many (es ++ e ∷ [])
lifted key number many es e within newest = record {
  within = newest.within;
  all = ap (places_of key) (take-append-le many es (e ∷ []) within) ∙ newest.all
      ∙ ap (places_of key) (sym (take-append-le number es (e ∷ []) (omega (arith, within, newest.within))));
  own = λ some d. ap (λ (x : Entry). x.key) (get_or_append_left es (e ∷ []) d (number - 1) (omega (arith, some, within, newest.within))) ∙ newest.own some d;
}

-- the newest entry of a key when one of another key is put
passed : (key number : ℕ) (es : List Entry) (e : Entry) → nat_eq e.key key ≡ false → IsNewest key number (length es) es
    → IsNewest key number (length es + 1) (es ++ e ∷ [])
passed key number es e other newest =
    let up : IsNewest key number (length es) (es ++ e ∷ []) = lifted key number (length es) es e (omega arith) newest in
    let count : length (es ++ e ∷ []) ≡ length es + 1 = length-append es (e ∷ []) in
    record {
      within = omega (arith, newest.within);
      all = ap (λ n. places_of key (take n (es ++ e ∷ []))) (sym count)
          ∙ ap (places_of key) (take-length (es ++ e ∷ []))
          ∙ places_more key es e ∙ ap (λ p. p ++ places_of key es) (under_other key e other)
          ∙ ap (places_of key) (sym (take-length es))
          ∙ ap (places_of key) (sym (take-append-le (length es) es (e ∷ []) (omega arith)))
          ∙ up.all;
      own = up.own;
    }

-- the entry that is put is the newest of its key
put_newest : (es : List Entry) (e : Entry) → IsNewest e.key (length es + 1) (length es + 1) (es ++ e ∷ [])
put_newest es e = record {
  within = omega arith;
  all = refl;
  own = λ some d. ap (λ n. (get_or (es ++ e ∷ []) n d).key) (omega arith) ∙ ap (λ (x : Entry). x.key) (get_or-append_seam es e [] d);
}

pub put_chained : (newest newer : ℕ → Option ℕ) (es : List Entry) (ls : List Link) (e : Entry) (l : Link) → IsChained newest es ls
    → ((key : ℕ) → newer key ≡ cond (nat_eq e.key key) (Some (length es + 1)) (newest key)) → l.previous ≡ unwrap_or (newest e.key) 0
    → l.count ≡ length (places_of e.key es) + 1
    → IsChained newer (es ++ e ∷ []) (ls ++ l ∷ [])
put_chained newest newer es ls e l chained updates previous number = record {
  linked = record { each = each; previous = links; count = counts };
  heads = heads;
}
  where
    count : length (es ++ e ∷ []) ≡ length es + 1
    count = length-append es (e ∷ [])

    each : length (ls ++ l ∷ []) ≡ length (es ++ e ∷ [])
    each = length-append ls (l ∷ []) ∙ ap (λ n. n + 1) chained.linked.each ∙ sym count

    head : (key : ℕ) (b : Bool) → nat_eq e.key key ≡ b → IsNewest key (unwrap_or (cond b (Some (length es + 1)) (newest key)) 0) (length es + 1) (es ++ e ∷ [])
    head key true same = subst (λ k. IsNewest k (length es + 1) (length es + 1) (es ++ e ∷ [])) (eqb-true e.key key same) (put_newest es e)
    head key false other = passed key (unwrap_or (newest key) 0) es e other (chained.heads key)

    heads : (key : ℕ) → IsNewest key (unwrap_or (newer key) 0) (length (es ++ e ∷ [])) (es ++ e ∷ [])
    heads key =
        subst (λ n. IsNewest key (unwrap_or (newer key) 0) n (es ++ e ∷ [])) (sym count)
        (subst (λ o. IsNewest key (unwrap_or o 0) (length es + 1) (es ++ e ∷ [])) (sym (updates key)) (head key (nat_eq e.key key) refl))

    at_last : (d : Entry) (x : Link) → IsNewest (get_or (es ++ e ∷ []) (length es) d).key (get_or (ls ++ l ∷ []) (length es) x).previous (length es) (es ++ e ∷ [])
    at_last d x =
        let link : (get_or (ls ++ l ∷ []) (length es) x).previous ≡ unwrap_or (newest e.key) 0 =
        ap (λ n. (get_or (ls ++ l ∷ []) n x).previous) (sym chained.linked.each) ∙ ap (λ (y : Link). y.previous) (get_or-append_seam ls l [] x) ∙ previous in
        let entry : (get_or (es ++ e ∷ []) (length es) d).key ≡ e.key = ap (λ (y : Entry). y.key) (get_or-append_seam es e [] d) in
        subst (λ k. IsNewest k (get_or (ls ++ l ∷ []) (length es) x).previous (length es) (es ++ e ∷ [])) (sym entry)
        (subst (λ n. IsNewest e.key n (length es) (es ++ e ∷ [])) (sym link)
        (lifted e.key (unwrap_or (newest e.key) 0) (length es) es e (omega arith) (chained.heads e.key)))

    before : (i : ℕ) (d : Entry) (x : Link) → i < length es → IsNewest (get_or (es ++ e ∷ []) i d).key (get_or (ls ++ l ∷ []) i x).previous i (es ++ e ∷ [])
    before i d x within =
        let link : get_or (ls ++ l ∷ []) i x ≡ get_or ls i x = get_or_append_left ls (l ∷ []) x i (omega (arith, within, chained.linked.each)) in
        let entry : get_or (es ++ e ∷ []) i d ≡ get_or es i d = get_or_append_left es (e ∷ []) d i within in
        subst (λ (y : Entry). IsNewest y.key (get_or (ls ++ l ∷ []) i x).previous i (es ++ e ∷ [])) (sym entry)
        (subst (λ (y : Link). IsNewest (get_or es i d).key y.previous i (es ++ e ∷ [])) (sym link)
        (lifted (get_or es i d).key (get_or ls i x).previous i es e (omega (arith, within)) (chained.linked.previous i d x within)))

    by_place : (i : ℕ) (d : Entry) (x : Link) (b : Bool) → nat_eq i (length es) ≡ b → i < length es + 1
        → IsNewest (get_or (es ++ e ∷ []) i d).key (get_or (ls ++ l ∷ []) i x).previous i (es ++ e ∷ [])
    by_place i d x true is within =
        subst (λ n. IsNewest (get_or (es ++ e ∷ []) n d).key (get_or (ls ++ l ∷ []) n x).previous n (es ++ e ∷ [])) (sym (eqb-true i (length es) is)) (at_last d x)
    by_place i d x false is within =
        let differs = eqb-false i (length es) is in
        before i d x (omega (arith, within, differs))

    links : (i : ℕ) (d : Entry) (x : Link) → i < length (es ++ e ∷ []) → IsNewest (get_or (es ++ e ∷ []) i d).key (get_or (ls ++ l ∷ []) i x).previous i (es ++ e ∷ [])
    links i d x within = by_place i d x (nat_eq i (length es)) refl (omega (arith, within, count))

    last_key : (d : Entry) → (get_or (es ++ e ∷ []) (length es) d).key ≡ e.key
    last_key d = ap (λ (y : Entry). y.key) (get_or-append_seam es e [] d)

    last_places : places_of e.key (take (length es + 1) (es ++ e ∷ [])) ≡ e.place ∷ places_of e.key es
    last_places =
        ap (λ n. places_of e.key (take n (es ++ e ∷ []))) (sym count)
        ∙ ap (places_of e.key) (take-length (es ++ e ∷ []))
        ∙ places_more e.key es e
        ∙ ap (λ p. p ++ places_of e.key es) (under_own e.key e refl)

    last_count : (d : Entry) (x : Link) → (get_or (ls ++ l ∷ []) (length es) x).count ≡ length (places_of (get_or (es ++ e ∷ []) (length es) d).key (take (length es + 1) (es ++ e ∷ [])))
    last_count d x =
        ap (λ n. (get_or (ls ++ l ∷ []) n x).count) (sym chained.linked.each)
        ∙ ap (λ (y : Link). y.count) (get_or-append_seam ls l [] x)
        ∙ number
        ∙ omega arith
        ∙ sym (ap length last_places)
        ∙ ap (λ k. length (places_of k (take (length es + 1) (es ++ e ∷ [])))) (sym (last_key d))

    earlier_count : (i : ℕ) (d : Entry) (x : Link) → i < length es
        → (get_or (ls ++ l ∷ []) i x).count ≡ length (places_of (get_or (es ++ e ∷ []) i d).key (take (i + 1) (es ++ e ∷ [])))
    earlier_count i d x within =
        ap (λ (y : Link). y.count) (get_or_append_left ls (l ∷ []) x i (omega (arith, within, chained.linked.each)))
        ∙ chained.linked.count i d x within
        ∙ ap (λ (y : Entry). length (places_of y.key (take (i + 1) es))) (sym (get_or_append_left es (e ∷ []) d i within))
        ∙ ap (λ (front : List Entry). length (places_of (get_or (es ++ e ∷ []) i d).key front)) (sym (take-append-le (i + 1) es (e ∷ []) (omega (arith, within))))

    count_at : (i : ℕ) (d : Entry) (x : Link) (b : Bool) → nat_eq i (length es) ≡ b → i < length es + 1
        → (get_or (ls ++ l ∷ []) i x).count ≡ length (places_of (get_or (es ++ e ∷ []) i d).key (take (i + 1) (es ++ e ∷ [])))
    count_at i d x true is within =
        subst (λ n. (get_or (ls ++ l ∷ []) n x).count ≡ length (places_of (get_or (es ++ e ∷ []) n d).key (take (n + 1) (es ++ e ∷ [])))) (sym (eqb-true i (length es) is)) (last_count d x)
    count_at i d x false is within =
        let differs = eqb-false i (length es) is in
        earlier_count i d x (omega (arith, within, differs))

    counts : (i : ℕ) (d : Entry) (x : Link) → i < length (es ++ e ∷ [])
        → (get_or (ls ++ l ∷ []) i x).count ≡ length (places_of (get_or (es ++ e ∷ []) i d).key (take (i + 1) (es ++ e ∷ [])))
    counts i d x within = count_at i d x (nat_eq i (length es)) refl (omega (arith, within, count))

-- ---- how many are under a key

-- a key has no more places than there are entries
pub places_within : (key : ℕ) (es : List Entry) → length (places_of key es) ≤ length es
places_within key [] = omega arith
places_within key (e ∷ es) =
    let rest = places_within key es in
    let one = under_within (nat_eq e.key key) in
    let sum = length-append (places_of key es) (place_under key e) in
    omega (arith, rest, one, sum)
  where
    under_within : (b : Bool) → length (if b then e.place ∷ [] else []) ≤ 1
    under_within true = omega arith
    under_within false = omega arith

-- a key has no place where nothing leads to one
pub none_counted : (newest : ℕ → Option ℕ) (es : List Entry) (ls : List Link) (key : ℕ) → IsChained newest es ls → unwrap_or (newest key) 0 ≡ 0
    → length (places_of key es) ≡ 0
none_counted newest es ls key chained none =
    ap (λ (l : List Entry). length (places_of key l)) (sym (take-length es))
    ∙ ap length (chained.heads key).all
    ∙ ap (λ n. length (places_of key (take n es))) none

-- the link of a key's newest entry counts all of its places
pub counted : (newest : ℕ → Option ℕ) (es : List Entry) (ls : List Link) (key : ℕ) (x : Link) → IsChained newest es ls → 0 < unwrap_or (newest key) 0
    → (get_or ls (unwrap_or (newest key) 0 - 1) x).count ≡ length (places_of key es)
counted newest es ls key x chained some =
    let number : ℕ = unwrap_or (newest key) 0 in
    let head : IsNewest key number (length es) es = chained.heads key in
    let at : ℕ = number - 1 in
    let is : at + 1 ≡ number = omega (arith, some) in
    let d : Entry = record { key = key; place = 0 } in
    let own : (get_or es at d).key ≡ key = head.own some d in
    chained.linked.count at d x (omega (arith, some, head.within))
    ∙ ap (λ k. length (places_of k (take (at + 1) es))) own
    ∙ ap (λ n. length (places_of key (take n es))) is
    ∙ ap length (sym head.all)
    ∙ ap (λ (l : List Entry). length (places_of key l)) (take-length es)
