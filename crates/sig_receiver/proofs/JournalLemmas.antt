-- Journals in parts, and how one grows by one text.
use Rattle.std.proofs.Common.{◌≡◌, ◌∙◌, ap, ap₂, sym, ℕ, List, [], ◌∷◌, ◌++◌, ◌||◌, Bool, true, false, if◌then◌else◌, refl, append_assoc, append-nil}
use Rattle.std.proofs.lemmas.List.{map-append}
use Rattle.std.proofs.lemmas.List.Folds.{list_any-append}
use Rattle.sig_set.specs.Judgement.{claims_of}
use Rattle.sig_inbox.specs.declared.pair.Pair.{Pair}
use Rattle.sig_inbox.specs.Pairs.{has_pair, pair_eq}
use Rattle.sig_inbox.proofs.Distinct.{pair_decided}
use Rattle.sig_sessions.specs.declared.row.Row.{Row}
use Rattle.sig_sessions.specs.Table.{effect}
use Rattle.sig_receiver.specs.Journal.{distinct, pair_of, pairs_of}
use Rattle.sig_receiver.specs.Laws.{Joins}
use Rattle.sig_receiver.specs.Receiver.{Received}
use Rattle.sig_receiver.specs.Rows.{fold_rows}

-- ---- one text more

pub pairs_of-more : (journal : List (List ℕ)) (text : List ℕ) → pairs_of (journal ++ text ∷ []) ≡ pairs_of journal ++ pair_of (claims_of text) ∷ []
pairs_of-more journal text = map-append (λ t. pair_of (claims_of t)) journal (text ∷ [])

-- a text whose pair is new is kept last
pub distinct-more : (pairs : List Pair) (journal : List (List ℕ)) (text : List ℕ)
    → has_pair (pair_of (claims_of text)) (pairs ++ pairs_of (distinct pairs journal)) ≡ false
    → distinct pairs (journal ++ text ∷ []) ≡ distinct pairs journal ++ text ∷ []
distinct-more pairs [] text new =
    let absent : has_pair (pair_of (claims_of text)) pairs ≡ false = simp append-nil at new in
    rw absent refl
distinct-more pairs (first ∷ journal) text new =
    elim (has_pair (pair_of (claims_of first)) pairs) as (λ b.
    has_pair (pair_of (claims_of text)) (pairs ++ pairs_of (if b then distinct pairs journal else first ∷ distinct (pairs ++ pair_of (claims_of first) ∷ []) journal)) ≡ false
    → (if b then distinct pairs (journal ++ text ∷ []) else first ∷ distinct (pairs ++ pair_of (claims_of first) ∷ []) (journal ++ text ∷ []))
    ≡ (if b then distinct pairs journal else first ∷ distinct (pairs ++ pair_of (claims_of first) ∷ []) journal) ++ text ∷ []) [
      | true ↦ λ absent. distinct-more pairs journal text absent
      | false ↦ λ absent. ap (λ texts. first ∷ texts) (distinct-more (pairs ++ pair_of (claims_of first) ∷ []) journal text (rw append_assoc absent))
    ] new

-- ---- a journal in two parts

distinct-append : (pairs : List Pair) (first second : List (List ℕ))
    → distinct pairs (first ++ second) ≡ distinct pairs first ++ distinct (pairs ++ pairs_of (distinct pairs first)) second
distinct-append pairs [] second = ap (λ ps. distinct ps second) (sym (append-nil pairs))
distinct-append pairs (text ∷ first) second =
    elim (has_pair (pair_of (claims_of text)) pairs) as (λ b.
    (if b then distinct pairs (first ++ second) else text ∷ distinct (pairs ++ pair_of (claims_of text) ∷ []) (first ++ second))
    ≡ (if b then distinct pairs first else text ∷ distinct (pairs ++ pair_of (claims_of text) ∷ []) first)
    ++ distinct (pairs ++ pairs_of (if b then distinct pairs first else text ∷ distinct (pairs ++ pair_of (claims_of text) ∷ []) first)) second) [
      | true ↦ distinct-append pairs first second
      | false ↦ ap (λ texts. text ∷ texts) (distinct-append (pairs ++ pair_of (claims_of text) ∷ []) first second
          ∙ ap (λ ps. distinct (pairs ++ pair_of (claims_of text) ∷ []) first ++ distinct ps second)
          (append_assoc pairs (pair_of (claims_of text) ∷ []) (pairs_of (distinct (pairs ++ pair_of (claims_of text) ∷ []) first))))
    ]

fold_rows-append : (rows : List Row) (first second : List (List ℕ)) → fold_rows rows (first ++ second) ≡ fold_rows (fold_rows rows first) second
fold_rows-append rows [] second = refl
fold_rows-append rows (text ∷ first) second = fold_rows-append (effect (claims_of text) rows) first second

pub joins : Joins
joins base first second =
    let kept : List (List ℕ) = distinct base.pairs first in
    let more : List (List ℕ) = distinct (base.pairs ++ pairs_of kept) second in
    let make : List Pair → List Row → Received = λ pairs rows. record { pairs = pairs; rows = rows } in
    ap (λ texts. make (base.pairs ++ pairs_of texts) (fold_rows base.rows texts)) (distinct-append base.pairs first second)
    ∙ ap₂ make
    (ap (λ ps. base.pairs ++ ps) (map-append (λ t. pair_of (claims_of t)) kept more) ∙ sym (append_assoc base.pairs (pairs_of kept) (pairs_of more)))
    (fold_rows-append base.rows kept more)

-- ---- pairs are known alike

or_known : (a b c : Bool) → (b ≡ true → a ≡ true) → a || (b || c) ≡ a || c
or_known true b c known = refl
or_known false true c known = cc (known refl)
or_known false false c known = refl

-- one that is there already adds nothing
known_alike : (p q : Pair) (pairs more : List Pair) → has_pair q pairs ≡ true → has_pair p (pairs ++ q ∷ more) ≡ has_pair p (pairs ++ more)
known_alike p q pairs more known =
    list_any-append (pair_eq p) pairs (q ∷ more)
    ∙ or_known (has_pair p pairs) (pair_eq p q) (has_pair p more) (λ same. ap (λ r. has_pair r pairs) ((pair_decided p q).0 same) ∙ known)
    ∙ sym (list_any-append (pair_eq p) pairs more)

-- the pairs of a journal are those of its distinct texts
pub known_by_distinct : (p : Pair) (pairs : List Pair) (journal : List (List ℕ)) → has_pair p (pairs ++ pairs_of journal) ≡ has_pair p (pairs ++ pairs_of (distinct pairs journal))
known_by_distinct p pairs [] = refl
known_by_distinct p pairs (text ∷ journal) = by (has_pair (pair_of (claims_of text)) pairs) refl (known_by_distinct p pairs journal) (known_by_distinct p (pairs ++ pair_of (claims_of text) ∷ []) journal)
  where
    by : (b : Bool) → has_pair (pair_of (claims_of text)) pairs ≡ b
        → has_pair p (pairs ++ pairs_of journal) ≡ has_pair p (pairs ++ pairs_of (distinct pairs journal))
        → has_pair p ((pairs ++ pair_of (claims_of text) ∷ []) ++ pairs_of journal) ≡ has_pair p ((pairs ++ pair_of (claims_of text) ∷ []) ++ pairs_of (distinct (pairs ++ pair_of (claims_of text) ∷ []) journal))
        → has_pair p (pairs ++ pair_of (claims_of text) ∷ pairs_of journal)
        ≡ has_pair p (pairs ++ pairs_of (if b then distinct pairs journal else text ∷ distinct (pairs ++ pair_of (claims_of text) ∷ []) journal))
    by true known later longer = known_alike p (pair_of (claims_of text)) pairs (pairs_of journal) known ∙ later
    by false new later longer =
        ap (has_pair p) (sym (append_assoc pairs (pair_of (claims_of text) ∷ []) (pairs_of journal))) ∙ longer
        ∙ ap (has_pair p) (append_assoc pairs (pair_of (claims_of text) ∷ []) (pairs_of (distinct (pairs ++ pair_of (claims_of text) ∷ []) journal)))
