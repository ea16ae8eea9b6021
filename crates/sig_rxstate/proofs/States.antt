-- States are read as they are spelled.
use Rattle.std.proofs.Common.{◌≡◌, ◌∙◌, ap, sym, refl, subst, ℕ, List, [], ◌∷◌, ◌++◌, Bool, true, false, not, ◌&&◌, Some, arith}
use Rattle.std.specs.Prelude.{Result, Ok, ⊤}
use Rattle.std.proofs.lemmas.Bool.Decides.{nat_tests}
use Rattle.sig_fields.specs.declared.fault.DecodeFault.{DecodeFault}
use Rattle.sig_fields.specs.Agreeing.{Agrees, AreBytes}
use Rattle.sig_fields.specs.Kinds as kinds
use Rattle.sig_fields.specs.Reading.{given, ruled, ◌>>=◌}
use Rattle.sig_fields.proofs.Agreeing.{HasRule, bytes_agree, given_same, joined_spelling, ruled_agrees, then_spells}
use Rattle.sig_fields.proofs.Exact.{agrees_exact}
use Rattle.sig_inbox.specs.declared.pair.Pair.{Pair}
use Rattle.sig_inbox.specs.Pairs as pairs
use Rattle.sig_inbox.proofs.Distinct.{pair_decided}
use Rattle.sig_subject.specs.Matching.{is_identical}
use Rattle.sig_subject.proofs.Identity.{decides_identity}
use Rattle.sig_sessions.specs.declared.row.Row.{Row}
use Rattle.sig_sessions.specs.Table as table
use Rattle.sig_entry.proofs.Steps.{read_first, read_last}
use Rattle.sig_rxstate.specs.Laws.{AreProperPairs, AreProperRows, IsProperPair, IsProperRow, IsProperState, SpellingsDiffer, StatesAreExact}
use Rattle.sig_rxstate.specs.Lists as lists
use Rattle.sig_rxstate.specs.Parts.{has_subject, pair, pair_bytes, row, row_bytes}
use Rattle.sig_rxstate.specs.State.{decoded, kind_in, read_pairs, read_rows, read_state, spelling_of}
use Rattle.sig_rxstate.proofs.ItemLists.{IsNewList, lists_agree}
use Rattle.sig_rxstate.proofs.Once.{IsLikeness, each_once, news_once, once_news}
use Rattle.sig_rxstate.proofs.Parts.{pairs_agree, rows_agree}

-- ---- pairs and rows that are there once

-- what can't be turned round isn't so the other way
other_way : (a b : Bool) → (b ≡ true → a ≡ true) → a ≡ false → b ≡ false
other_way a true back h = sym (back refl) ∙ h
other_way a false back h = refl

pair_likeness : IsLikeness pairs.has_pair pairs.pair_eq
pair_likeness = record {
  any = λ x xs. refl;
  turned = λ x y h. other_way (pairs.pair_eq x y) (pairs.pair_eq y x) (λ same. (pair_decided x y).1 (sym ((pair_decided y x).0 same))) h;
}

abbrev row_like : Row → Row → Bool
row_like r x = is_identical x.subject r.subject

row_likeness : IsLikeness has_subject row_like
row_likeness = record {
  any = λ x xs. refl;
  turned = λ x y h. other_way (row_like x y) (row_like y x) (λ same. (decides_identity y.subject x.subject).1 (sym ((decides_identity x.subject y.subject).0 same))) h;
}

pairs_once : (ps : List Pair) → pairs.are_distinct ps ≡ each_once pairs.has_pair ps
pairs_once [] = refl
pairs_once (p ∷ ps) = ap (λ b. not (pairs.has_pair p ps) && b) (pairs_once ps)

rows_once : (rows : List Row) → table.are_distinct rows ≡ each_once has_subject rows
rows_once [] = refl
rows_once (r ∷ rows) = ap (λ b. not (has_subject r rows) && b) (rows_once rows)

-- ---- lists of pairs and of rows

agrees_as : {T : Type 0} (P Q : T → Type 0) (spelled : T → List ℕ) (read : List ℕ → Result (T × List ℕ) (List ℕ)) → ((x : T) → P x → Q x) → ((x : T) → Q x → P x)
    → Agrees P spelled read → Agrees Q spelled read
agrees_as {T = T} P Q spelled read there back agree = record { reads = reads; spells = spells }
  where
    reads : (x : T) (rest : List ℕ) → Q x → read (spelled x ++ rest) ≡ Ok (x, rest)
    reads x rest proper = agree.reads x rest (back x proper)

    spells : (bytes : List ℕ) (x : T) (rest : List ℕ) → AreBytes bytes → read bytes ≡ Ok (x, rest) → Q x × (bytes ≡ spelled x ++ rest)
    spells bytes x rest are h = let s = agree.spells bytes x rest are h in (there x s.0, s.1)

pair_lists_agree : Agrees AreProperPairs (lists.list_bytes pair_bytes) read_pairs
pair_lists_agree =
    agrees_as (IsNewList IsProperPair pairs.has_pair) AreProperPairs (lists.list_bytes pair_bytes) read_pairs there back
    (lists_agree IsProperPair pair_bytes pair pairs.has_pair pairs_agree)
  where
    there : (ps : List Pair) → IsNewList IsProperPair pairs.has_pair ps → AreProperPairs ps
    there ps h = record { each = h.each; short = h.short; distinct = pairs_once ps ∙ news_once pairs.has_pair pairs.pair_eq pair_likeness [] ps refl h.news }

    back : (ps : List Pair) → AreProperPairs ps → IsNewList IsProperPair pairs.has_pair ps
    back ps h = record { each = h.each; short = h.short; news = once_news pairs.has_pair pairs.pair_eq pair_likeness [] ps (sym (pairs_once ps) ∙ h.distinct) }

row_lists_agree : Agrees AreProperRows (lists.list_bytes row_bytes) read_rows
row_lists_agree =
    agrees_as (IsNewList IsProperRow has_subject) AreProperRows (lists.list_bytes row_bytes) read_rows there back
    (lists_agree IsProperRow row_bytes row has_subject rows_agree)
  where
    there : (rows : List Row) → IsNewList IsProperRow has_subject rows → AreProperRows rows
    there rows h = record { each = h.each; short = h.short; distinct = rows_once rows ∙ news_once has_subject row_like row_likeness [] rows refl h.news }

    back : (rows : List Row) → AreProperRows rows → IsNewList IsProperRow has_subject rows
    back rows h = record { each = h.each; short = h.short; news = once_news has_subject row_like row_likeness [] rows (sym (rows_once rows) ∙ h.distinct) }

-- ---- states

abbrev IsKind : Bool → Type 0
IsKind b = b ≡ true

kind_rule : HasRule (λ (b : ℕ). ⊤) IsKind kind_in (λ (b : Bool). 2)
kind_rule = record { sound = sound; complete = complete }
  where
    sound : (y : Bool) → IsKind y → ⊤ × (kind_in 2 ≡ Some y)
    sound true _ = (tt, refl)
    sound false h = cc

    complete : (x : ℕ) (y : Bool) → ⊤ → kind_in x ≡ Some y → IsKind y × (x ≡ 2)
    complete x true _ h = (refl, grind (arith, nat_tests))
    complete x false _ h = grind (arith, nat_tests)

kind_agrees : Agrees IsKind (λ (b : Bool). kinds.byte_bytes 2) (ruled kind_in kinds.byte)
kind_agrees = ruled_agrees (λ b. ⊤) IsKind kinds.byte_bytes kinds.byte kind_in (λ b. 2) bytes_agree kind_rule

abbrev State : Type 0
State = List Pair × List Row

abbrev with_rows : List Pair → List Row → State
with_rows ps rows = (ps, rows)

abbrev after_pairs : List Pair → List ℕ → Result (State × List ℕ) (List ℕ)
after_pairs ps = do
  rows ← read_rows
  given (with_rows ps rows)

abbrev after_kind : Bool → List ℕ → Result (State × List ℕ) (List ℕ)
after_kind is_state = do
  ps ← read_pairs
  after_pairs ps

states_agree : Agrees IsProperState spelling_of read_state
states_agree = record { reads = reads; spells = spells }
  where
    reads : (state : State) (rest : List ℕ) → IsProperState state → read_state (spelling_of state ++ rest) ≡ Ok (state, rest)
    reads (ps, rows) rest proper =
        read_first AreProperPairs (lists.list_bytes pair_bytes) read_pairs pair_lists_agree ps proper.0 after_pairs (lists.list_bytes row_bytes rows) rest (Ok (with_rows ps rows, rest))
        (read_last AreProperRows (lists.list_bytes row_bytes) read_rows row_lists_agree rows proper.1 (λ l. given (with_rows ps l)) rest (Ok (with_rows ps rows, rest)) refl)

    spells : (bytes : List ℕ) (state : State) (rest : List ℕ) → AreBytes bytes → read_state bytes ≡ Ok (state, rest) → IsProperState state × (bytes ≡ spelling_of state ++ rest)
    spells bytes state rest are h =
        let k = then_spells IsKind (λ (b : Bool). kinds.byte_bytes 2) (ruled kind_in kinds.byte) kind_agrees after_kind bytes state rest are h in
        let p = then_spells AreProperPairs (lists.list_bytes pair_bytes) read_pairs pair_lists_agree after_pairs k.mid state rest k.are k.then in
        let r = then_spells AreProperRows (lists.list_bytes row_bytes) read_rows row_lists_agree (λ l. given (with_rows p.value l)) p.mid state rest p.are p.then in
        let s = given_same (with_rows p.value r.value) state r.mid rest r.then in
        let front = joined_spelling bytes (kinds.byte_bytes 2) k.mid (lists.list_bytes pair_bytes p.value) p.mid k.spelt p.spelt in
        let all = joined_spelling bytes (kinds.byte_bytes 2 ++ lists.list_bytes pair_bytes p.value) p.mid (lists.list_bytes row_bytes r.value) r.mid front r.spelt in
        (subst IsProperState s.0 (p.proper, r.proper), all ∙ (λ i. spelling_of (s.0 i) ++ s.1 i))

pub states_exact : StatesAreExact
states_exact = agrees_exact IsProperState spelling_of read_state states_agree

same_state : (one other : State) → ◌≡◌ {A = Result State DecodeFault} (Ok one) (Ok other) → one ≡ other
same_state one other h = cc

pub spellings_differ : SpellingsDiffer
spellings_differ one other proper also same =
    same_state one other (sym (states_exact.reads one proper) ∙ ap decoded same ∙ states_exact.reads other also)
