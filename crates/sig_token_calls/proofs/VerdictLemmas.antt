-- What is read of the acknowledgements and refusals of a poll, by number.
use Rattle.std.proofs.Common.{◌≡◌, ◌∙◌, ap, sym, ℕ, suc, ◌+◌, ◌<◌, ◌≤◌, ◌^◌, ◌==◌, List, [], ◌∷◌, ◌++◌, filter, length, take, get_or, nat_eq, Bool, true, false, ◌||◌, cond, bytes_eq, Option, None, Some, if◌then◌else◌, refl, arith}
use Rattle.std.specs.Prelude.{All, option_map}
use Rattle.std.specs.Fmt.{decimal}
use Rattle.std.specs.List.{cons_option, filter_map, list_any}
use Rattle.std.specs.Map.{keys_of, lookup}
use Rattle.std.proofs.lemmas.Bool.{leb-false, ne_eqb}
use Rattle.std.proofs.lemmas.List.{take_more}
use Rattle.std.proofs.lemmas.List.Elements.{All-filter}
use Rattle.std.proofs.lemmas.List.Folds.{list_any-append}
use Rattle.std.proofs.lemmas.Slice.Eq.{bytes_eq-Decides}
use Rattle.sig_terms.specs.declared.call.PollAsk.{PollAsk}
use Rattle.sig_terms.specs.declared.call.Reported.{Reported}
use Rattle.sig_terms.specs.declared.fact.SettledItem.{SettledItem}
use Rattle.sig_history.specs.Owed.{names_number}
use Rattle.sig_history.specs.Streams.{jti_of}
use Rattle.sig_calls.specs.Polling.{refused_as, refused_item, settled_by}
use Rattle.sig_accounts.specs.Debts.{is_from, is_to, numbered}
use Rattle.sig_accounts.specs.declared.debt.Debt.{Debt}
use Rattle.sig_token_calls.specs.Verdicts.{is_number, item_of, prefix_of, verdict, with_verdict}

-- a number that was parsed is that of each text that spells one
abbrev pub Parses : List ℕ → List ℕ → Option ℕ → Type 0
Parses prefix text r = (n : ℕ) → n < 2 ^ 64 → text ≡ prefix ++ decimal n → r ≡ Some n

some_same : (k n : ℕ) → Some k ≡ Some n → k ≡ n
some_same k n h = cc

differs : (prefix text : List ℕ) (n : ℕ) → ((text ≡ prefix ++ decimal n) → true ≡ false) → false ≡ bytes_eq text (prefix ++ decimal n)
differs prefix text n not =
    elim (bytes_eq text (prefix ++ decimal n)) as (λ b. (b ≡ true → text ≡ prefix ++ decimal n) → false ≡ b) [
      | true ↦ λ is. sym (not (is refl))
      | false ↦ λ is. refl
    ] (bytes_eq-Decides text (prefix ++ decimal n)).0

pub named_none : (prefix text : List ℕ) (r : Option ℕ) → r ≡ None → Parses prefix text r → (n : ℕ) → n < 2 ^ 64 → is_number None n ≡ bytes_eq text (prefix ++ decimal n)
named_none prefix text r none parses n small = differs prefix text n (λ is. (let k : r ≡ Some n = parses n small is in cc))

pub named_other : (prefix text : List ℕ) (r : Option ℕ) (k : ℕ) → r ≡ Some k → Parses prefix text r → bytes_eq text (prefix ++ decimal k) ≡ false
    → (n : ℕ) → n < 2 ^ 64 → is_number None n ≡ bytes_eq text (prefix ++ decimal n)
named_other prefix text r k some parses other n small =
    differs prefix text n (λ is. (let same : k ≡ n = some_same k n (sym some ∙ parses n small is) in
    sym ((bytes_eq-Decides text (prefix ++ decimal k)).1 (is ∙ ap (λ m. prefix ++ decimal m) (sym same))) ∙ other))

-- ---- one text more

pub none_noted : (o : Option (Option (List ℕ))) (b : Bool) (code : Option (List ℕ)) → false ≡ b → o ≡ with_verdict o b code
none_noted None b code is = ap (λ t. if t then Some code else None) is
none_noted (Some v) b code is = refl

turned : (a b : List ℕ) → bytes_eq a b ≡ bytes_eq b a
turned a b =
    elim (bytes_eq a b) as (λ t. (t ≡ true → a ≡ b) → (a ≡ b → t ≡ true) → t ≡ bytes_eq b a) [
      | true ↦ λ is so. sym ((bytes_eq-Decides b a).1 (sym (is refl)))
      | false ↦ λ is so. elim (bytes_eq b a) as (λ u. (u ≡ true → b ≡ a) → false ≡ u) [ true ↦ λ at. so (sym (at refl)) | false ↦ λ at. refl ] (bytes_eq-Decides b a).0
    ] (bytes_eq-Decides a b).0 (bytes_eq-Decides a b).1

or_false : (b : Bool) → (b || false) ≡ b
or_false true = refl
or_false false = refl

ack_last : (xs : List (List ℕ)) (x jti : List ℕ) → with_verdict (verdict xs [] jti) (bytes_eq x jti) None ≡ verdict (xs ++ x ∷ []) [] jti
ack_last xs x jti =
    (elim (list_any (bytes_eq jti) xs) as (λ (t : Bool). with_verdict (if t then Some None else None) (bytes_eq x jti) None
    ≡ (if t || (bytes_eq jti x || false) then Some None else None)) [
      | true ↦ refl
      | false ↦ ap (λ (t : Bool). if t then Some None else None) (turned x jti ∙ sym (or_false (bytes_eq jti x)))
    ])
    ∙ ap (λ (t : Bool). if t then Some None else None) (sym (list_any-append (bytes_eq jti) xs (x ∷ [])))

pub ack_more : (acks : List (List ℕ)) (i : ℕ) (d jti : List ℕ) → i < length acks
    → with_verdict (verdict (take i acks) [] jti) (bytes_eq (get_or acks i d) jti) None ≡ verdict (take (i + 1) acks) [] jti
ack_more acks i d jti within = ack_last (take i acks) (get_or acks i d) jti ∙ ap (λ l. verdict l [] jti) (sym (take_more acks i d within))

refused_last : (rs : List Reported) (r : Reported) (jti : List ℕ)
    → with_verdict (option_map Some (refused_as jti rs)) (bytes_eq r.jti jti) (Some r.code) ≡ option_map Some (refused_as jti (rs ++ r ∷ []))
refused_last [] r jti =
    elim (bytes_eq r.jti jti) as (λ (t : Bool). with_verdict None t (Some r.code) ≡ option_map Some (if t then Some r.code else None)) [ true ↦ refl | false ↦ refl ]
refused_last (q ∷ qs) r jti =
    elim (bytes_eq q.jti jti) as (λ (t : Bool). with_verdict (option_map Some (if t then Some q.code else refused_as jti qs)) (bytes_eq r.jti jti) (Some r.code)
    ≡ option_map Some (if t then Some q.code else refused_as jti (qs ++ r ∷ []))) [
      | true ↦ refl
      | false ↦ refused_last qs r jti
    ]

refusal_last : (acks : List (List ℕ)) (rs : List Reported) (r : Reported) (jti : List ℕ)
    → with_verdict (verdict acks rs jti) (bytes_eq r.jti jti) (Some r.code) ≡ verdict acks (rs ++ r ∷ []) jti
refusal_last acks rs r jti =
    elim (list_any (bytes_eq jti) acks) as (λ (t : Bool). with_verdict (if t then Some None else option_map Some (refused_as jti rs)) (bytes_eq r.jti jti) (Some r.code)
    ≡ (if t then Some None else option_map Some (refused_as jti (rs ++ r ∷ [])))) [
      | true ↦ refl
      | false ↦ refused_last rs r jti
    ]

pub refusal_more : (acks : List (List ℕ)) (rs : List Reported) (i : ℕ) (d : Reported) (jti : List ℕ) → i < length rs
    → with_verdict (verdict acks (take i rs) jti) (bytes_eq (get_or rs i d).jti jti) (Some (get_or rs i d).code) ≡ verdict acks (take (i + 1) rs) jti
refusal_more acks rs i d jti within = refusal_last acks (take i rs) (get_or rs i d) jti ∙ ap (λ l. verdict acks l jti) (sym (take_more rs i d within))

-- ---- what is settled

item_is : (ask : PollAsk) (n : ℕ) (jti : List ℕ) → item_of n (verdict ask.acks ask.errors jti) ≡ settled_by ask n jti
item_is ask n jti =
    elim (list_any (bytes_eq jti) ask.acks) as (λ (t : Bool). item_of n (if t then Some None else option_map Some (refused_as jti ask.errors))
    ≡ (if t then Some (record { number = n; code = None }) else refused_item n (refused_as jti ask.errors))) [
      | true ↦ refl
      | false ↦ (elim (refused_as jti ask.errors) as (λ o. item_of n (option_map Some o) ≡ refused_item n o) [ None ↦ refl | Some code ↦ refl ])
    ]

-- the number tells what is settled of a token
pub item_read : (ask : PollAsk) (sid stream prefix : List ℕ) (n : ℕ) (o : Option (Option (List ℕ))) → prefix ≡ prefix_of sid stream
    → o ≡ verdict ask.acks ask.errors (prefix ++ decimal n) → item_of n o ≡ settled_by ask n (jti_of sid stream n)
item_read ask sid stream prefix n o is says =
    ap (item_of n) says ∙ ap (λ p. item_of n (verdict ask.acks ask.errors (p ++ decimal n))) is ∙ item_is ask n (jti_of sid stream n)

-- ---- numbers of items

either : (same b : Bool) → cond same true b ≡ (b || (same || false))
either true true = refl
either true false = refl
either false true = refl
either false false = refl

pub number_more : (n : ℕ) (items : List SettledItem) (i : ℕ) (d : SettledItem) → i < length items
    → cond ((get_or items i d).number == n) true (names_number n (take i items)) ≡ names_number n (take (i + 1) items)
number_more n items i d within =
    either ((get_or items i d).number == n) (names_number n (take i items))
    ∙ sym (list_any-append (λ (k : SettledItem). k.number == n) (take i items) (get_or items i d ∷ []))
    ∙ ap (names_number n) (sym (take_more items i d within))

-- ---- numbers of which nothing is said

-- nothing is found at a number that none of the keys is
unsaid : {X : Type 0} (n : ℕ) (es : List (ℕ × X)) → All (λ k. k ≡ n → ⊥) (keys_of es) → lookup (nat_eq n) es ≡ None
unsaid n [] apart = refl
unsaid n (e ∷ es) apart =
    ap (λ b. cond b (Some e.1) (lookup (nat_eq n) es)) (ne_eqb n e.0 (λ is. apart 0 e.0 (omega arith) (sym is)))
    ∙ unsaid n es (λ k d h. apart (suc k) d (omega arith))

pub unsaid_below : {X : Type 0} (low n : ℕ) (es : List (ℕ × X)) → All (λ k. low ≤ k) (keys_of es) → n < low → lookup (nat_eq n) es ≡ None
unsaid_below low n es lowest below = unsaid n es (λ k d h is. let high : low ≤ get_or (keys_of es) k d = lowest k d h in omega arith)

pub unsaid_above : {X : Type 0} (high n : ℕ) (es : List (ℕ × X)) → All (λ k. k ≤ high) (keys_of es) → high < n → lookup (nat_eq n) es ≡ None
unsaid_above high n es highest above = unsaid n es (λ k d h is. let low : get_or (keys_of es) k d ≤ high = highest k d h in omega arith)

-- what settles nothing may be left out
passed_over : (p : Debt → Bool) (f : Debt → Option SettledItem) (ds : List Debt) → All (λ (d : Debt). p d ≡ false → f d ≡ None) ds
    → filter_map f (filter p ds) ≡ filter_map f ds
passed_over p f [] none = refl
passed_over p f (d ∷ ds) none =
    let rest : filter_map f (filter p ds) ≡ filter_map f ds = passed_over p f ds (λ k e h. none (suc k) e (omega arith)) in
    elim (p d) as (λ b. p d ≡ b → filter_map f (if b then d ∷ filter p ds else filter p ds) ≡ cons_option (f d) (filter_map f ds)) [
      | true ↦ λ is. ap (cons_option (f d)) rest
      | false ↦ λ is. rest ∙ sym (ap (λ o. cons_option o (filter_map f ds)) (none 0 d (omega arith) is))
    ] refl

-- nothing is settled of numbers that are below or above those of which something is said
pub settled_between : (g : ℕ → Option SettledItem) (low high : ℕ) (ds : List Debt) → All (λ (d : Debt). d.number < 2 ^ 64) ds
    → ((n : ℕ) → n < 2 ^ 64 → n < low → g n ≡ None) → ((n : ℕ) → n < 2 ^ 64 → high < n → g n ≡ None)
    → filter_map (λ (d : Debt). g d.number) (numbered low high ds) ≡ filter_map (λ (d : Debt). g d.number) ds
settled_between g low high ds small below above =
    let f : Debt → Option SettledItem = λ (d : Debt). g d.number in
    passed_over (is_from low) f (filter (is_to high) ds)
    (λ k e h is. below (get_or (filter (is_to high) ds) k e).number (All-filter (is_to high) (λ (d : Debt). d.number < 2 ^ 64) ds small k e h) (leb-false low (get_or (filter (is_to high) ds) k e).number is))
    ∙ passed_over (is_to high) f ds (λ k e h is. above (get_or ds k e).number (small k e h) (leb-false (get_or ds k e).number high is))
