-- Seats under subjects: what is looked up once a subject has others.
use Rattle.std.proofs.Common.{◌≡◌, ◌∙◌, ap, sym, subst, ℕ, List, [], ◌∷◌, filter, Bool, true, false, cond, not, ◌&&◌, ◌||◌, Option, Some, None, if◌then◌else◌, refl, length, suc, ◌+◌, take, drop, arith}
use Rattle.std.specs.List.{list_any, position, slice_get, IsDistinct}
use Rattle.std.specs.Map.{keys_of, lookup, values_of}
use Rattle.std.specs.Prelude.{nat_eq}
use Rattle.std.specs.Option.{option_map_or}
use Rattle.std.proofs.lemmas.List.Folds.{list_any-append}
use Rattle.indexmap.proofs.MapLemmas.{absent_before, absent_from_lookup, Found-position, insert_entry-absent, insert_entry-first}
use Rattle.indexmap.specs.IndexMap.{insert_entry, set_value_at}
use Rattle.sig_subject.proofs.Equal.{equal_identical}
use Rattle.sig_subject.proofs.Identity.{decides_identity}
use Rattle.sig_subject.specs.Matching.{is_identical}
use Rattle.sig_subject.specs.declared.subject.Subject.{Subject}
use Rattle.sig_accounts.proofs.ItemLemmas.{split_at, taken_more}
use Rattle.sig_accounts.proofs.SubjectLemmas.{key_eq, key_equiv, none_from}
use Rattle.sig_accounts.specs.Listening.{Seating, is_among, room_for, seats_for}

same_truth : (a b : Bool) → (a ≡ true → b ≡ true) → (b ≡ true → a ≡ true) → a ≡ b
same_truth true b to from = sym (to refl)
same_truth false true to from = from refl
same_truth false false to from = refl

pub either_way : (a b : Subject) → is_identical a b ≡ is_identical b a
either_way a b = same_truth _ _
    (λ h. (decides_identity b a).1 (sym ((decides_identity a b).0 h)))
    (λ h. (decides_identity a b).1 (sym ((decides_identity b a).0 h)))

pub looked_up : {X : Type 0} (s : Subject) (es : List (Subject × X)) → lookup (key_eq s) es ≡ lookup (is_identical s) es
looked_up s [] = refl
looked_up s (e ∷ es) =
    ap (λ b. cond b (Some e.1) (lookup (key_eq s) es)) (equal_identical s e.0) ∙ ap (cond (is_identical s e.0) (Some e.1)) (looked_up s es)

put_twice : {X : Type 0} (b : Bool) (v w : X) (o : Option X) → cond b (Some w) o ≡ cond b (Some w) (cond b (Some v) o)
put_twice true v w o = refl
put_twice false v w o = refl

-- what is looked up once a subject has this value
pub put_up : {X : Type 0} (q s : Subject) (es : List (Subject × X)) (w : X)
    → lookup (is_identical q) (insert_entry key_eq es s w) ≡ cond (is_identical s q) (Some w) (lookup (is_identical q) es)
put_up q s [] w = ap (λ b. cond b (Some w) None) (either_way q s)
put_up {X} q s (e ∷ es) w =
    let goal : Bool → Type 0 = λ b.
    lookup (is_identical q) (if b then (e.0, w) ∷ es else e ∷ insert_entry key_eq es s w)
    ≡ cond (is_identical s q) (Some w) (cond (is_identical q e.0) (Some e.1) (lookup (is_identical q) es)) in
    elim (key_eq s e.0) as (λ b. key_eq s e.0 ≡ b → goal b) [
      | true ↦ λ is.
          let one : s ≡ e.0 = (decides_identity s e.0).0 (sym (equal_identical s e.0) ∙ is) in
          let test : is_identical q e.0 ≡ is_identical s q = ap (is_identical q) (sym one) ∙ either_way q s in
          ap (λ b. cond b (Some w) (lookup (is_identical q) es)) test
          ∙ put_twice (is_identical s q) e.1 w (lookup (is_identical q) es)
          ∙ ap (λ b. cond (is_identical s q) (Some w) (cond b (Some e.1) (lookup (is_identical q) es))) (sym test)
      | false ↦ λ is.
          ap (cond (is_identical q e.0) (Some e.1)) (put_up q s es w)
          ∙ elim (is_identical s q) as (λ b. is_identical s q ≡ b
          → cond (is_identical q e.0) (Some e.1) (cond b (Some w) (lookup (is_identical q) es))
          ≡ cond b (Some w) (cond (is_identical q e.0) (Some e.1) (lookup (is_identical q) es))) [
            | true ↦ λ same.
                let one : s ≡ q = (decides_identity s q).0 same in
                let apart : is_identical q e.0 ≡ false = ap (λ x. is_identical x e.0) (sym one) ∙ sym (equal_identical s e.0) ∙ is in
                ap (λ b. cond b (Some e.1) (Some w)) apart
            | false ↦ λ other. refl
          ] refl
    ] refl

-- a write at the index of a subject puts the value under it
pub written : {X : Type 0} (s : Subject) (es : List (Subject × X)) (i : ℕ) (w : X) → position (key_eq s) (keys_of es) ≡ Some i
    → set_value_at es i w ≡ insert_entry key_eq es s w
written s es i w found = sym (insert_entry-first key_eq s w es i (Found-position (key_eq s) es i found).first)

pub value_at : {X : Type 0} (s : Subject) (es : List (Subject × X)) (i : ℕ) (v : X) → position (key_eq s) (keys_of es) ≡ Some i
    → slice_get (values_of es) i ≡ Some v → lookup (is_identical s) es ≡ Some v
value_at s es i v found at = sym (looked_up s es) ∙ (Found-position (key_eq s) es i found).value ∙ at

-- what is found of a subject that is identical is what is found of the other
pub found_same : {X : Type 0} (s q : Subject) (es : List (Subject × X)) → is_identical s q ≡ true → lookup (is_identical q) es ≡ lookup (is_identical s) es
found_same s q es same = ap (λ x. lookup (is_identical x) es) (sym ((decides_identity s q).0 same))

-- ---- seats

pub or_none : (b : Bool) → b ≡ (b || false)
or_none true = refl
or_none false = refl

and_all : (b : Bool) → b ≡ (b && true)
and_all true = refl
and_all false = refl

-- a subject that keeps its seats
pub seats_kept : (s q : Subject) (es : List (Subject × Seating)) (w : Seating) → w.seats ≡ seats_for s es
    → seats_for q (insert_entry key_eq es s w) ≡ seats_for q es
seats_kept s q es w kept =
    ap (λ o. option_map_or (λ (a : Seating). a.seats) o []) (put_up q s es w)
    ∙ elim (is_identical s q) as (λ b. is_identical s q ≡ b
    → option_map_or (λ (a : Seating). a.seats) (cond b (Some w) (lookup (is_identical q) es)) [] ≡ seats_for q es) [
      | true ↦ λ same. kept ∙ ap (λ o. option_map_or (λ (a : Seating). a.seats) o []) (sym (found_same s q es same))
      | false ↦ λ other. refl
    ] refl

itself : (s : Subject) → is_identical s s ≡ true
itself s = (decides_identity s s).1 refl

pub room_put : (s : Subject) (es : List (Subject × Seating)) (w : Seating) → room_for s (insert_entry key_eq es s w) ≡ w.room
room_put s es w =
    ap (λ o. option_map_or (λ (a : Seating). a.room) o 0) (put_up s s es w ∙ ap (λ b. cond b (Some w) (lookup (is_identical s) es)) (itself s))

-- whether a seat is among those that a subject has, and another keeps
among_put : (q s : Subject) (n : ℕ) (es : List (Subject × Seating)) (w : Seating) (x : Bool)
    → (is_identical s q ≡ true → list_any (nat_eq n) w.seats ≡ x) → (is_identical s q ≡ false → is_among q n es ≡ x)
    → is_among q n (insert_entry key_eq es s w) ≡ x
among_put q s n es w x here there =
    ap (λ o. list_any (nat_eq n) (option_map_or (λ (a : Seating). a.seats) o [])) (put_up q s es w)
    ∙ elim (is_identical s q) as (λ b. is_identical s q ≡ b
    → list_any (nat_eq n) (option_map_or (λ (a : Seating). a.seats) (cond b (Some w) (lookup (is_identical q) es)) []) ≡ x) [
      | true ↦ λ same. here same
      | false ↦ λ other. there other
    ] refl

among_same : (q s : Subject) (n : ℕ) (es : List (Subject × Seating)) (v : Seating) → lookup (is_identical s) es ≡ Some v → is_identical s q ≡ true
    → is_among q n es ≡ list_any (nat_eq n) v.seats
among_same q s n es v is same = ap (λ o. list_any (nat_eq n) (option_map_or (λ (a : Seating). a.seats) o [])) (found_same s q es same ∙ is)

pub among_added : (q s : Subject) (n seat : ℕ) (es : List (Subject × Seating)) (v w : Seating) → lookup (is_identical s) es ≡ Some v
    → list_any (nat_eq n) w.seats ≡ (list_any (nat_eq n) v.seats || nat_eq n seat)
    → is_among q n (insert_entry key_eq es s w) ≡ (is_among q n es || (is_identical s q && nat_eq n seat))
among_added q s n seat es v w is added = among_put q s n es w _
    (λ same. added ∙ ap (λ b. b || nat_eq n seat) (sym (among_same q s n es v is same)) ∙ ap (λ b. is_among q n es || (b && nat_eq n seat)) (sym same))
    (λ other. or_none (is_among q n es) ∙ ap (λ b. is_among q n es || (b && nat_eq n seat)) (sym other))

kept_any : (n seat : ℕ) (ks : List ℕ) → ((k : ℕ) → nat_eq n k ≡ true → n ≡ k)
    → list_any (nat_eq n) (filter (λ k. not (nat_eq k seat)) ks) ≡ (list_any (nat_eq n) ks && not (nat_eq n seat))
kept_any n seat [] equal = refl
kept_any n seat (k ∷ ks) equal =
    let rest : list_any (nat_eq n) (filter (λ k. not (nat_eq k seat)) ks) ≡ (list_any (nat_eq n) ks && not (nat_eq n seat)) = kept_any n seat ks equal in
    elim (nat_eq n k) as (λ b. nat_eq n k ≡ b
    → list_any (nat_eq n) (filter (λ k. not (nat_eq k seat)) (k ∷ ks)) ≡ ((b || list_any (nat_eq n) ks) && not (nat_eq n seat))) [
      | true ↦ λ is.
          let one : n ≡ k = equal k is in
          elim (nat_eq k seat) as (λ b. nat_eq k seat ≡ b
          → list_any (nat_eq n) (if not b then k ∷ filter (λ k. not (nat_eq k seat)) ks else filter (λ k. not (nat_eq k seat)) ks) ≡ (true && not (nat_eq n seat))) [
            | true ↦ λ at.
                let this : nat_eq n seat ≡ true = ap (λ m. nat_eq m seat) one ∙ at in
                rest ∙ ap (λ b. list_any (nat_eq n) ks && not b) this ∙ nothing (list_any (nat_eq n) ks) ∙ ap not (sym this)
            | false ↦ λ off.
                let this : nat_eq n seat ≡ false = ap (λ m. nat_eq m seat) one ∙ off in
                ap (λ b. b || list_any (nat_eq n) (filter (λ k. not (nat_eq k seat)) ks)) is ∙ ap not (sym this)
          ] refl
      | false ↦ λ is.
          elim (nat_eq k seat) as (λ b.
          list_any (nat_eq n) (if not b then k ∷ filter (λ k. not (nat_eq k seat)) ks else filter (λ k. not (nat_eq k seat)) ks)
          ≡ (list_any (nat_eq n) ks && not (nat_eq n seat))) [
            | true ↦ rest
            | false ↦ ap (λ b. b || list_any (nat_eq n) (filter (λ k. not (nat_eq k seat)) ks)) is ∙ rest
          ]
    ] refl
  where
    nothing : (b : Bool) → (b && false) ≡ false
    nothing true = refl
    nothing false = refl

pub among_removed : (q s : Subject) (n seat : ℕ) (es : List (Subject × Seating)) (v w : Seating) → lookup (is_identical s) es ≡ Some v
    → ((k : ℕ) → nat_eq n k ≡ true → n ≡ k) → w.seats ≡ filter (λ k. not (nat_eq k seat)) v.seats
    → is_among q n (insert_entry key_eq es s w) ≡ (is_among q n es && not (is_identical s q && nat_eq n seat))
among_removed q s n seat es v w is equal left = among_put q s n es w _
    (λ same. ap (list_any (nat_eq n)) left ∙ kept_any n seat v.seats equal ∙ ap (λ b. b && not (nat_eq n seat)) (sym (among_same q s n es v is same))
    ∙ ap (λ b. is_among q n es && not (b && nat_eq n seat)) (sym same))
    (λ other. and_all (is_among q n es) ∙ ap (λ b. is_among q n es && not (b && nat_eq n seat)) (sym other))

-- ---- copies

-- one more entry of distinct subjects
pub taken_put : {X : Type 0} (es : List (Subject × X)) (i : ℕ) (s : Subject) (v : X) → IsDistinct key_eq (keys_of es) → slice_get es i ≡ Some (s, v)
    → take (i + 1) es ≡ insert_entry key_eq (take i es) s v
taken_put {X} es i s v distinct at =
    let new : lookup (key_eq s) (take i es) ≡ None =
    absent_before key_equiv (take i es) (drop (suc i) es) (s, v) (subst (λ l. IsDistinct key_eq (keys_of l)) (split_at es i (s, v) at) distinct) in
    let one : i + 1 ≡ suc i = omega arith in
    ap (λ n. take n es) one ∙ taken_more es i (s, v) at
    ∙ sym (insert_entry-absent key_eq s v (take i es) (absent_from_lookup (key_eq s) (take i es) new))

pub seats_copied : (q s : Subject) (cs es : List (Subject × Seating)) (w v : Seating) → w.seats ≡ v.seats → seats_for q cs ≡ seats_for q es
    → seats_for q (insert_entry key_eq cs s w) ≡ seats_for q (insert_entry key_eq es s v)
seats_copied q s cs es w v same so_far =
    ap (λ o. option_map_or (λ (a : Seating). a.seats) o []) (put_up q s cs w)
    ∙ elim (is_identical s q) as (λ b. option_map_or (λ (a : Seating). a.seats) (cond b (Some w) (lookup (is_identical q) cs)) []
    ≡ option_map_or (λ (a : Seating). a.seats) (cond b (Some v) (lookup (is_identical q) es)) []) [
      | true ↦ same
      | false ↦ so_far
    ]
    ∙ sym (ap (λ o. option_map_or (λ (a : Seating). a.seats) o []) (put_up q s es v))

-- a subject without seats is taken out
pub idle_out : (q s : Subject) (es : List (Subject × Seating)) (o : Option Seating) → seats_for s es ≡ []
    → o ≡ cond (key_eq s q) None (lookup (key_eq q) es) → option_map_or (λ (a : Seating). a.seats) o [] ≡ seats_for q es
idle_out q s es o idle is =
    ap (λ o. option_map_or (λ (a : Seating). a.seats) o [])
    (is ∙ ap (λ b. cond b None (lookup (key_eq q) es)) (equal_identical s q) ∙ ap (cond (is_identical s q) None) (looked_up q es))
    ∙ elim (is_identical s q) as (λ b. is_identical s q ≡ b
    → option_map_or (λ (a : Seating). a.seats) (cond b None (lookup (is_identical q) es)) [] ≡ seats_for q es) [
      | true ↦ λ same. sym idle ∙ ap (λ o. option_map_or (λ (a : Seating). a.seats) o []) (sym (found_same s q es same))
      | false ↦ λ other. refl
    ] refl

pub idle_now : (q s : Subject) (es fs : List (Subject × Seating)) → seats_for s es ≡ []
    → lookup (key_eq q) fs ≡ cond (key_eq s q) None (lookup (key_eq q) es) → seats_for q fs ≡ seats_for q es
idle_now q s es fs idle is =
    ap (λ o. option_map_or (λ (a : Seating). a.seats) o []) (sym (looked_up q fs)) ∙ idle_out q s es (lookup (key_eq q) fs) idle is

-- nothing is taken off a subject that is not there
pub none_removed : (q s : Subject) (n seat : ℕ) (es : List (Subject × Seating)) → lookup (key_eq s) es ≡ None
    → is_among q n es ≡ (is_among q n es && not (is_identical s q && nat_eq n seat))
none_removed q s n seat es none =
    elim (is_identical s q) as (λ b. is_identical s q ≡ b → is_among q n es ≡ (is_among q n es && not (b && nat_eq n seat))) [
      | true ↦ λ same.
          let off : is_among q n es ≡ false =
          ap (λ o. list_any (nat_eq n) (option_map_or (λ (a : Seating). a.seats) o [])) (found_same s q es same ∙ sym (looked_up s es) ∙ none) in
          off ∙ ap (λ b. b && not (true && nat_eq n seat)) (sym off)
      | false ↦ λ other. and_all (is_among q n es)
    ] refl

-- one more subject of a list
pub any_more : (s : Subject) (ks : List Subject) (i : ℕ) (k : Subject) → slice_get ks i ≡ Some k
    → list_any (is_identical s) (take (i + 1) ks) ≡ (list_any (is_identical s) (take i ks) || is_identical k s)
any_more s ks i k at =
    let one : i + 1 ≡ suc i = omega arith in
    ap (λ n. list_any (is_identical s) (take n ks)) one ∙ ap (list_any (is_identical s)) (taken_more ks i k at)
    ∙ list_any-append (is_identical s) (take i ks) (k ∷ [])
    ∙ ap (λ b. list_any (is_identical s) (take i ks) || b) (sym (or_none (is_identical s k)) ∙ either_way s k)

pub no_items : {X : Type 0} (xs : List X) → length xs ≡ 0 → xs ≡ []
no_items [] none = refl
no_items (x ∷ xs) none = absurd (omega (arith, none))
